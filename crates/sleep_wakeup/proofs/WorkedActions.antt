-- What a sleep, a wakeup and what is put back are, and are not, each against one row.
use Rattle.std.proofs.Common.{ℕ, [], length, inl, inr, refl, ap, arith}
use Rattle.std.proofs.lemmas.List.{length-append}
use Rattle.sync_base.specs.declared.fault.Fault.TheVariants as fault
use Rattle.sync_base.specs.declared.ids.RendezId.{RendezId}
use Rattle.sync_base.specs.declared.note.NoteSet.{NoteSet}
use Rattle.sync_base.specs.NoteSet.{no_notes}
use Rattle.sleep_core.specs.declared.answer.Answer.TheVariants as answer
use Rattle.rendez_words.specs.Process.{Process, pid_in}
use Rattle.rendez_words.specs.Steps.{posts, tests, notes, raises, finds_nobody}
use Rattle.rendez_words.specs.Words.{HasReceipt}
use Rattle.sleep_wakeup.specs.Calls.{Ends}
use Rattle.sleep_wakeup.specs.Actions.{SleepsWell, FailsAsleep, WakesOne, PutsBack}

-- how many steps the process has made
abbrev steps_of : Process → ℕ
steps_of process = length process.trace

module _ (before after : Process) (rendez : RendezId) where
  -- ---- sleeps

  a_sleep_makes_steps : ¬ SleepsWell before rendez 0 before
  a_sleep_makes_steps slept =
      let posted = posts before rendez 0 answer.Posted in
      let tested = tests posted slept.tested in
      let steps = ap (λ (it : Process). steps_of it) slept.leaves.cleared in
      let waited = length-append slept.leaves.waiting tested.trace in
      omega (arith, steps, waited)

  no_notes_fail_no_sleep : ¬ FailsAsleep before rendez 0 after (fault.Interrupted no_notes)
  no_notes_fail_no_sleep fails = fails.1 refl

  a_double_sleep_leaves_a_step : ¬ FailsAsleep before rendez 0 before fault.DoubleSleep
  a_double_sleep_leaves_a_step fails =
      let steps = ap (λ (it : Process). steps_of it) fails in omega (arith, steps)

  sleep_has_no_other_fault : ¬ FailsAsleep before rendez 0 after fault.NoRendez
  sleep_has_no_other_fault fails = fails

  -- ---- wakeups

  -- process 0, which has made no step, and found nobody
  abbrev first : Process
  first = record before { pid = 0; trace = [] }

  wakes_nobody : WakesOne first rendez 5 (finds_nobody (raises first rendez 5))
  wakes_nobody =
      record {
        receipt = record { rendez = rendez; level = 5 };
        woken = record { ends = inl refl; rendez_is = refl; level_is = refl; receipt = inl refl };
      }

  it_has_its_receipt : (wakes : WakesOne before rendez 5 after) → HasReceipt after wakes.receipt
  it_has_its_receipt wakes = wakes.woken.receipt

  who_makes_no_step_wakes_nobody : ¬ WakesOne before rendez 5 before
  who_makes_no_step_wakes_nobody wakes = by wakes.woken.ends
    where
      by : ¬ Ends (raises before rendez 5) before
      by (inl nobody) =
          let steps = ap (λ (it : Process). steps_of it) nobody in omega (arith, steps)
      by (inr (sleeper, taken)) =
          let steps = ap (λ (it : Process). steps_of it) taken in omega (arith, steps)

-- ---- notes

-- notes that ended a sleep are put back, and a sleep that was refused took none
interrupted_puts_back : (before : Process) (set : NoteSet)
    → PutsBack (fault.Interrupted set) before (notes before (pid_in before) set)
interrupted_puts_back before set = refl

refused_puts_nothing_back : (before : Process) → PutsBack fault.DoubleSleep before before
refused_puts_nothing_back before = refl
