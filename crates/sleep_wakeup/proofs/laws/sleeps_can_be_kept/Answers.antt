-- Each with what it did between its test and its clear.
use Rattle.std.proofs.Common.{[], ◌∷◌, inl, inr, refl, ap}
use Rattle.sleep_core.specs.declared.answer.Answer.TheVariants as answer
use Rattle.sync_base.specs.declared.note.NoteSet.{NoteSet}
use Rattle.sleep_wakeup.specs.Broken.{saw_notes, saw_mark, went_out, was_taken}
use Rattle.sleep_wakeup.proofs.laws.sleeps_can_be_kept.Goals as goal

pub returns-clause-leaves_as_its_test_passed : goal.returns-clause-leaves_as_its_test_passed
returns-clause-leaves_as_its_test_passed c = λ table. record {
  tested = answer.Leaving;
  leaves = record { waiting = went_out ∷ []; of_wait = (tt, tt); cleared = refl };
  cause = λ none. inl refl;
}

pub returns-clause-leaves_as_it_was_marked : goal.returns-clause-leaves_as_it_was_marked
returns-clause-leaves_as_it_was_marked c = λ table. record {
  tested = answer.Asleep;
  leaves = record { waiting = saw_mark ∷ []; of_wait = (tt, tt); cleared = refl };
  cause = λ none. inr (inl refl);
}

pub returns-clause-leaves_as_it_was_taken : goal.returns-clause-leaves_as_it_was_taken
returns-clause-leaves_as_it_was_taken c = λ table. record {
  tested = answer.Leaving;
  leaves = record {
    waiting = saw_mark ∷ was_taken ∷ [];
    of_wait = (tt, (tt, tt));
    cleared = refl;
  };
  cause = λ none. inl refl;
}

pub returns-clause-leaves_with_an_alarm : goal.returns-clause-leaves_with_an_alarm
returns-clause-leaves_with_an_alarm c = λ table. record {
  tested = answer.Asleep;
  leaves = record {
    waiting = went_out ∷ saw_notes ∷ [];
    of_wait = (tt, (tt, tt));
    cleared = refl;
  };
  cause = λ none. let bad = ap (λ (set : NoteSet). set.alarm) none in absurd (cc);
}
