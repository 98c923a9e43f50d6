-- What is not kept of a run shows nothing in its history.
use Rattle.std.proofs.Common.{◌≡◌, Bool, true, false, cond, Option, None, [], ◌∷◌, refl, sym, ◌∙◌}
use Rattle.std.proofs.Common.{ap, subst}
use Rattle.std.specs.List.{cons_option}
use Rattle.sleep_core.specs.declared.event.Event.{Event}
use Rattle.sleep_core.specs.declared.event.Event.TheVariants.{Check}
use Rattle.sleep_core.specs.declared.answer.Answer.{Answer}
use Rattle.sleep_core.specs.declared.answer.Answer.TheVariants as answer
use Rattle.sleep_core.specs.Runs.{kept, is_kept, own}
use Rattle.sleep_core.specs.History.{Effect, effect_of, history_of, HasReturned}
use Rattle.sleep_core.specs.Laws.{HistoryByKeptEvents, ReturnsByKeptEvents}
use Rattle.sleep_core.proofs.OwnWakeups.{returns_by_own_events}

-- what is not kept is no effect
no_effect : (told : Answer) (event : Event) → is_kept told event ≡ false → effect_of told event
    ≡ None
no_effect answer.Posted (Check pid) lost = refl
no_effect answer.Released event lost = refl
no_effect answer.Parked event lost = refl
no_effect answer.NoProc event lost = refl
no_effect answer.Refused event lost = refl
no_effect answer.NoRendez event lost = refl
no_effect answer.BadLevel event lost = refl
no_effect told event lost = cc

-- so the history is that of what is kept
pub history_of-kept : HistoryByKeptEvents
history_of-kept [] = refl
history_of-kept (entry ∷ past) =
    by_test (history_of-kept past) (is_kept entry.answer entry.event) refl
  where
    by_test : history_of (kept past) ≡ history_of past → (b : Bool)
        → is_kept entry.answer entry.event ≡ b
        → history_of (cond b (entry ∷ kept past) (kept past))
        ≡ cons_option (effect_of entry.answer entry.event) (history_of past)
    by_test before true is = ap (cons_option (effect_of entry.answer entry.event)) before
    by_test before false is =
        before ∙ sym (ap (λ (effect : Option Effect). cons_option effect (history_of past))
        (no_effect entry.answer entry.event is))

-- a receipt in what is kept of a trace is a receipt in the run
pub returns_by_kept_events : ReturnsByKeptEvents
returns_by_kept_events procs rendez past run pid at level returned =
    returns_by_own_events procs rendez past run pid at level
    (subst (λ h. HasReturned h at level) (history_of-kept (own pid past)) returned)
