-- Each way out of the wait, from the rounds before it.
use Rattle.std.proofs.Common.{suc, sym, ◌∙◌, subst}
use Rattle.waiting.specs.Waiting.{told}
use Rattle.waiting.proofs.wait.sleep_for.Goals as goal

pub returns-in-Err-clause-slept : goal.returns-in-Err-clause-slept
returns-in-Err-clause-slept g c =
    let kept = c.loop.invariant in
    record {
      times = kept.times;
      last = told (g.C.WaitingCall.sight c.loop.seat c.loop.buffer) c.loop.proc c.loop.number;
      rounds = kept.rounds;
      ends = record {
        failed = c.in-Err.ensures.failed;
        left = c.leave-left.ensures.left c.loop.buffer;
      };
    }

pub returns-in-Done-clause-slept : goal.returns-in-Done-clause-slept
returns-in-Done-clause-slept g c =
    let kept = c.loop.invariant in
    record {
      times = kept.times;
      last = told (g.C.WaitingCall.sight c.loop.seat c.loop.buffer) c.loop.proc c.loop.number;
      rounds = kept.rounds;
      ends = record {
        woken = c.sleep_waiting-slept.new.proc.process;
        slept = c.in-Ok.ensures.slept;
        asked = c.in-Done.ensures.asked;
      };
    }

pub returns-in-Refused-clause-slept : goal.returns-in-Refused-clause-slept
returns-in-Refused-clause-slept g c =
    let kept = c.loop.invariant in
    record {
      times = kept.times;
      last = told (g.C.WaitingCall.sight c.loop.seat c.loop.buffer) c.loop.proc c.loop.number;
      rounds = kept.rounds;
      ends = record {
        woken = c.sleep_waiting-slept.new.proc.process;
        slept = c.in-Ok.ensures.slept;
        asked = c.in-Refused.ensures.asked;
      };
    }

pub loop-preserved : goal.loop-preserved
loop-preserved g c =
    let kept = c.loop.invariant in
    let same = c.ask.ensures.words ∙ c.sleep_waiting-slept.ensures.words in
    record {
      waits = c.in-Wait.ensures.stands;
      row = subst (g.C.WaitingCall.knows c.args.call.now) (sym same) kept.row;
      words = same ∙ kept.words;
      fits = c.in-Wait.ensures.fits;
      low = c.in-Wait.ensures.low;
      times = suc kept.times;
      rounds = record {
        between = told (g.C.WaitingCall.sight c.loop.seat c.loop.buffer) c.loop.proc c.loop.number;
        rounds = kept.rounds;
        last = record {
          woken = c.sleep_waiting-slept.new.proc.process;
          slept = c.in-Ok.ensures.slept;
          asked = c.in-Wait.ensures.asked;
        };
      };
    }
