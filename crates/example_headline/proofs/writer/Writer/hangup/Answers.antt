-- by the law of hangups of a write end
use Rattle.std.proofs.Common.{refl}
use Rattle.example_headline.proofs.CrewLemmas.{hung_ended, hung_write}
use Rattle.example_headline.proofs.writer.Writer.hangup.Goals as goal

pub returns : goal.returns
returns c =
    record {
      on = hung_write c.args.self.now _ c.hangup.ensures.hung c.hangup.ensures.woken
          c.hangup.ensures.end c.hangup.ensures.words refl refl;
      ended = hung_ended c.args.self.now _ c.hangup.ensures.hung c.hangup.ensures.woken
          c.hangup.ensures.end c.hangup.ensures.words refl refl refl;
    }
