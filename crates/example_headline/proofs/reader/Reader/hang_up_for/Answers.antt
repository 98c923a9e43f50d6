-- by the law of hangups of a read end
use Rattle.std.proofs.Common.{refl}
use Rattle.example_headline.proofs.CrewLemmas.{hung_read, hung_stops}
use Rattle.example_headline.proofs.reader.Reader.hang_up_for.Goals as goal

pub returns : goal.returns
returns c =
    record {
      on = hung_read c.args.self.now _ c.hangup.ensures.hung c.hangup.ensures.woken
          c.hangup.ensures.end c.hangup.ensures.words c.hangup.ensures.rest refl;
      stopped = hung_stops c.args.self.now _ c.hangup.ensures.hung c.hangup.ensures.woken
          c.hangup.ensures.end c.hangup.ensures.words c.args.why refl;
    }
