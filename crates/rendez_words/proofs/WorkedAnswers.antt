-- Whom each answer of a step tells of, and what no step has set: each against one row.
use Rattle.std.proofs.Common.{◌≢◌, [], ◌∷◌}
use Rattle.std.specs.Prelude.{⊤, ℕ}
use Rattle.sync_base.specs.declared.note.Note.TheVariants.{Alarm}
use Rattle.sync_base.specs.NoteSet.{only}
use Rattle.sleep_core.specs.declared.event.Event.TheVariants.{Mark, Note, Look}
use Rattle.sleep_core.specs.declared.answer.Answer.TheVariants as answer
use Rattle.sleep_core.specs.Runs.{Entry}
use Rattle.rendez_words.specs.declared.states.Returned.{Returned}
use Rattle.rendez_words.specs.declared.states.TestAnswer.TheVariants as test
use Rattle.rendez_words.specs.declared.states.LookAnswer.TheVariants as look
use Rattle.rendez_words.specs.declared.states.WithdrawAnswer.TheVariants as withdraw
use Rattle.rendez_words.specs.declared.states.TakeAnswer.TheVariants as take
use Rattle.rendez_words.specs.Answers.{IfTested, IfLooked, IfWithdrawn, IfTaken}
use Rattle.rendez_words.specs.Process.{Process}
use Rattle.rendez_words.specs.Waking.{HasSet}

module _ (process : Process) (returned : Returned) where
  who_is_asleep_is_told_so : ¬ IfTested (test.Asleep process) (λ it. ⊥) (λ it. ⊤)
  who_is_asleep_is_told_so told = told

  who_leaves_after_its_test_is_told_so : ¬ IfTested (test.Leaving process) (λ it. ⊤) (λ it. ⊥)
  who_leaves_after_its_test_is_told_so told = told

  who_was_woken_is_told_so : ¬ IfLooked (look.Woken process) (λ it. ⊥) (λ it. ⊤)
  who_was_woken_is_told_so told = told

  who_leaves_for_notes_is_told_so : ¬ IfLooked (look.Leaving process) (λ it. ⊤) (λ it. ⊥)
  who_leaves_for_notes_is_told_so told = told

  who_is_out_is_told_so : ¬ IfWithdrawn (withdraw.Out process) (λ it. ⊥) (λ it. ⊤)
  who_is_out_is_told_so told = told

  who_awaits_its_mark_is_told_so : ¬ IfWithdrawn (withdraw.Awaiting process) (λ it. ⊤) (λ it. ⊥)
  who_awaits_its_mark_is_told_so told = told

  who_takes_nobody_is_told_so : ¬ IfTaken (take.Nobody returned) (λ it. ⊥) (λ it. ⊤)
  who_takes_nobody_is_told_so told = told

  who_holds_a_sleeper_is_told_so : ¬ IfTaken (take.Holding process) (λ it. ⊤) (λ it. ⊥)
  who_holds_a_sleeper_is_told_so told = told

-- ---- who may be woken: whose flags the newest step has set

abbrev marks : ℕ → Entry
marks pid =
    record {
      maker = 1;
      event = Mark (record { 0 = 1 });
      answer = answer.Marked (record { 0 = pid });
    }

abbrev notes : ℕ → Entry
notes pid =
    record { maker = 1; event = Note (record { 0 = pid }) (only Alarm); answer = answer.Noted }

abbrev looks : Entry
looks = record { maker = 1; event = Look (record { 0 = 1 }); answer = answer.Woken }

-- a process of these steps
abbrev after : Process → Entry → Process
after process entry = record process { trace = entry ∷ process.trace }

module _ (process : Process) where
  module _ (pid other : ℕ) (differ : pid ≢ other) where
    who_marked_another_may_not_wake : ¬ HasSet (after process (marks pid)) other
    who_marked_another_may_not_wake set = differ set

    who_noted_another_may_not_wake : ¬ HasSet (after process (notes pid)) other
    who_noted_another_may_not_wake set = differ set

  who_looked_may_not_wake : ¬ HasSet (after process looks) 1
  who_looked_may_not_wake set = set

  who_made_no_step_may_not_wake : ¬ HasSet (record process { trace = [] }) 1
  who_made_no_step_may_not_wake set = set
