-- A call that waits as long as it takes is one.
use Rattle.std.proofs.Common.{Some, None, Result, Ok, Err, inl, inr, refl}
use Rattle.histories.specs.History.{IsPast}
use Rattle.histories.proofs.ListLemmas.{past_refl, past_cons}
use Rattle.rendez_words.specs.Process.{Process, pid_in}
use Rattle.sleep_core.specs.declared.answer.Answer.TheVariants.{Noted}
use Rattle.sleep_core.specs.declared.event.Event.TheVariants.{Note}
use Rattle.sleep_wakeup.specs.Actions.{PutsBack}
use Rattle.sync_base.specs.declared.fault.Fault.{Fault}
use Rattle.sync_base.specs.declared.fault.Fault.TheVariants as fault
use Rattle.sync_base.specs.declared.ids.RendezId.{RendezId}
use Rattle.waiting.specs.declared.wait.WaitEnd.{WaitEnd}
use Rattle.waiting.specs.declared.wait.WaitEnd.TheVariants.{Answered, Stopped}
use Rattle.waiting.specs.Runners.{ComesToSame, IsACall, over_at}
use Rattle.waiting.specs.Waiting.{Point, Promise, Returns, Waited}

-- an answer comes to the same as itself
pub same_answer : {Out : Type 0} (answer : Result Out Fault) → ComesToSame answer answer
same_answer (Ok out) = refl
same_answer (Err why) = tt

-- notes that are put back are a step more
back_more : (why : Fault) (before after : Process) → PutsBack why before after
    → IsPast before.trace after.trace
back_more (fault.Interrupted set) before after back =
    rw back
    (past_cons before.trace before.trace
    (record { maker = before.pid; event = Note (pid_in before) set; answer = Noted })
    (past_refl before.trace))
back_more other before after same = rw same (past_refl before.trace)

module _ {Seat Out : Type 0} (promise : Promise Seat Out) (rendez : RendezId)
    (before : Point Seat) where
  -- it has gone on since its last request or its last sleep was over
  over_own : (answer : Result Out Fault) (after : Point Seat)
      (waited : Waited promise rendez before answer after)
      → IsPast (over_at promise rendez before answer after waited).trace after.process.trace
  over_own answer after (inl begun) = past_refl after.process.trace
  over_own answer after (inr waits) = by waits.waited.ending waits.waited.returned
    where
      by : (ending : WaitEnd Out) → Returns ending waits.waited.process after.process
          → IsPast waits.waited.process.trace after.process.trace
      by (Answered told) same = rw same (past_refl waits.waited.process.trace)
      by (Stopped why (Some out)) back =
          back_more why waits.waited.process after.process back
      by (Stopped why None) same = rw same (past_refl waits.waited.process.trace)

  -- a call that waits as long as it takes is such a call
  pub is_itself : (answer : Result Out Fault) (after : Point Seat)
      → Waited promise rendez before answer after → IsACall promise rendez before answer after
  is_itself answer after waited =
      record {
        told = answer;
        process = after.process;
        waited = waited;
        same = same_answer answer;
        own = over_own answer after waited;
      }
