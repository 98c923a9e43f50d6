-- a tick more, and the notes that ended it
use Rattle.std.proofs.Common.{suc, refl, subst}
use Rattle.plan9.specs.Tickers.{Looks, timed}
use Rattle.plan9.proofs.clock.Watch.run.Goals as goal

pub ticking-preserved : goal.ticking-preserved
ticking-preserved g c =
    record {
      times = (
        suc c.ticking.invariant.times.0,
        record {
          between = timed c.ticking.self c.ticking.proc c.ticking.time;
          rounds = c.ticking.invariant.times.1;
          last = record {
            looked = c.notes-came.new.self;
            none = subst (λ set. Looks c.ticking.proc set c.notes-came.new.self)
                (c.is_empty.ensures.0 c.if-not-is_empty.false)
                (record {
                  words_are = c.notes-came.ensures.words;
                  took = c.notes-came.ensures.taken;
                });
            now = c.next-moment.result;
            told = c.next-moment.ensures.told;
            expired = c.tick-expired.result;
            same = c.tick-expired.ensures.same;
            words_are = c.tick-expired.ensures.words;
            called = c.tick-expired.ensures.called;
          };
        },
      );
    }

pub returns-then-not-is_empty : goal.returns-then-not-is_empty
returns-then-not-is_empty g c =
    record {
      times = c.ticking.invariant.times.0;
      before = timed c.ticking.self c.ticking.proc c.ticking.time;
      ticked = c.ticking.invariant.times.1;
      ended = record {
        some = λ same. let is = c.is_empty.ensures.1 same in
            let is_not = c.if-not-is_empty.true in absurd (cc);
        watch_is = refl;
        looked = record {
          words_are = c.notes-came.ensures.words;
          took = c.notes-came.ensures.taken;
        };
        time_is = refl;
      };
    }
