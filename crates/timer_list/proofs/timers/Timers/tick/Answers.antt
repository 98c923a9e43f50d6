-- Each round is an Expire and then, where a timer expired, a note.
use Rattle.std.proofs.Common.{◌≡◌, ◌∷◌, false, nat_lt, IsTrue, inl, refl, sym, ◌∙◌, subst, arith}
use Rattle.rendez_words.specs.Words.{procs_of}
use Rattle.waiting.specs.Waiting.{point}
use Rattle.timer_list.proofs.timers.Timers.tick.Goals as goal

pub returns-in-None-clause-called : goal.returns-in-None-clause-called
returns-in-None-clause-called g c =
    let ticks = c.loop-expired.invariant.ticks in
    record {
      ended = ticks.ended;
      last = point c.loop-expired.timer c.loop-expired.proc;
      expires = ticks.expires;
      count_is = ticks.count_is;
      at_most = c.loop-expired.auto.expired-end;
      stops = inl (
        (let all = c.loop-expired.auto.expired-end in omega arith),
        record { asks = c.in-None.ensures.asks; idle = refl },
      );
    }

pub returns-in-None-clause-seat : goal.returns-in-None-clause-seat
returns-in-None-clause-seat g c = c.in-None.ensures.asks.seat

pub returns-in-None-clause-number : goal.returns-in-None-clause-number
returns-in-None-clause-number g c =
    c.in-None.ensures.asks.number ∙ c.loop-expired.invariant.number

pub loop-expired-preserved : goal.loop-expired-preserved
loop-expired-preserved g c =
    let words = c.loop-expired.invariant.words in
    let ticks = c.loop-expired.invariant.ticks in
    let asks = c.in-Some.ensures.asks in
    record {
      seat = asks.seat;
      words = c.tell.ensures.words ∙ words;
      number = asks.number ∙ c.loop-expired.invariant.number;
      ticks = record {
        ended = c.in-Some.pid ∷ ticks.ended;
        count_is = omega (arith, ticks.count_is);
        expires = record {
          between = point c.loop-expired.timer c.loop-expired.proc;
          others = ticks.expires;
          ended = asks;
          tells = record {
            told = λ below. c.tell.ensures.told
                (subst (λ w. IsTrue (nat_lt c.in-Some.pid.0 (procs_of w))) (sym words) below);
            other = λ above. c.tell.ensures.other
                (subst (λ w. nat_lt c.in-Some.pid.0 (procs_of w) ≡ false) (sym words) above);
          };
        };
      };
    }
