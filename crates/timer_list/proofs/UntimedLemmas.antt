-- What a call with a deadline did to its seat, a call without one does.
use Rattle.std.proofs.Common.{ℕ, Bool, Some, None, Result, Ok, Err}
use Rattle.std.proofs.Common.{inl, inr, refl, sym, subst}
use Rattle.rendez_words.specs.Process.{Process, pid_in}
use Rattle.rendez_words.specs.Steps.{notes}
use Rattle.sync_base.specs.declared.fault.Fault.{Fault}
use Rattle.sync_base.specs.declared.fault.Fault.TheVariants as fault
use Rattle.sync_base.specs.declared.ids.RendezId.{RendezId}
use Rattle.sync_base.specs.declared.note.NoteSet.{NoteSet}
use Rattle.timer_list.specs.declared.timers.Timers.{Timers}
use Rattle.timer_list.specs.Timing.{IsEndedByNotes, Keeps, TimedPoint}
use Rattle.timer_list.specs.Timing.{TimedCall}
use Rattle.waiting.specs.declared.wait.WaitEnd.{WaitEnd}
use Rattle.waiting.specs.declared.wait.WaitEnd.TheVariants.{Answered, Stopped}
use Rattle.waiting.specs.Runners.{ComesToSame, IsACall}
use Rattle.waiting.specs.Waiting.{Promise, Returns, answer_of}
use Rattle.waiting.proofs.RunnerLemmas.{same_answer}
use Rattle.histories.proofs.ListLemmas.{past_refl}
use Rattle.timer_list.proofs.OwnStepLemmas.{ended_own}

-- where a process is that has put back the notes that ended a sleep
abbrev put_back : Fault → Process → Process
put_back (fault.Interrupted set) before = notes before (pid_in before) set
put_back other before = before

module _ {Out : Type 0} where
  -- where a process is whose sleeps ended so
  abbrev returned : WaitEnd Out → Process → Process
  returned (Answered answer) before = before
  returned (Stopped why (Some out)) before = put_back why before
  returned (Stopped why None) before = before

  late : (why : Fault) (out : Out) (before : Process)
      → Returns (Stopped why (Some out)) before (put_back why before)
  late (fault.Interrupted set) out before = refl
  late other out before = refl

  returns : (ending : WaitEnd Out) (before : Process)
      → Returns ending before (returned ending before)
  returns (Answered answer) before = refl
  returns (Stopped why (Some out)) before = late why out before
  returns (Stopped why None) before = refl

  -- notes that ended a call are no answer
  ended : (why : Fault) (expired : Bool) (others : NoteSet) (answer : Result Out Fault)
      → IsEndedByNotes expired others answer → ComesToSame (Err why) answer
  ended why expired others (Ok out) is = absurd is
  ended why expired others (Err other) is = tt

  -- what it answers is what its sleeps came to
  same : (ending : WaitEnd Out) (expired : Bool) (others : NoteSet) (answer : Result Out Fault)
      (before after : Process) → Keeps expired others ending answer before after
      → ComesToSame (answer_of ending) answer
  same (Answered told) expired others answer before after kept =
      subst (ComesToSame told) (sym kept.0) (same_answer {Out = Out} told)
  same (Stopped why (Some out)) expired others answer before after kept =
      subst (ComesToSame (Ok out)) (sym kept.0) (same_answer {Out = Out} (Ok out))
  same (Stopped (fault.Interrupted set) None) expired others answer before after kept =
      ended (fault.Interrupted set) expired others answer kept.0
  same (Stopped why None) expired others answer before after kept =
      subst (ComesToSame (Err why)) (sym kept.0) (same_answer {Out = Out} (Err why))

-- a call with a deadline is a call
pub untimed : {Seat Out : Type 0} (promise : Promise Seat Out) (rendez : RendezId)
    (timers : Timers) (moment : ℕ) (before : TimedPoint Seat) (answer : Result Out Fault)
    (after : TimedPoint Seat)
    → TimedCall promise rendez timers moment before answer after
    → IsACall promise rendez before.at answer after.at
untimed promise rendez timers moment before answer after (inl at_once) =
    record {
      told = answer;
      process = after.at.process;
      waited = inl at_once.begun;
      same = same_answer answer;
      own = past_refl after.at.process.trace;
    }
untimed promise rendez timers moment before answer after (inr waits) =
    record {
      told = answer_of waits.ending;
      process = returned waits.ending waits.process;
      waited = inr (record {
        first = waits.first;
        begun = waits.begun;
        waited = record {
          ending = waits.ending;
          process = waits.process;
          slept = waits.slept;
          returned = returns waits.ending waits.process;
          answer_is = refl;
        };
      });
      same = same waits.ending waits.ended.expired _ answer _ _ waits.ended.kept;
      own = ended_own rendez timers waits.set waits.ending waits.process answer after.timer
          after.at.process waits.ended;
    }
