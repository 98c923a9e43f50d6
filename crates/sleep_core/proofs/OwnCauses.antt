-- The cause for which a sleep ends stands among the process's own events.
use Rattle.std.proofs.Common.{◌≡◌, ◌≢◌, ◌⊎◌, inl, inr, ℕ, true, false, eqb, cond, Option, Some}
use Rattle.std.proofs.Common.{None, List, [], ◌∷◌, sym, ◌∙◌, subst}
use Rattle.std.specs.List.{cons_option}
use Rattle.std.proofs.lemmas.Bool.Decides.{eqb_tells}
use Rattle.sleep_core.specs.declared.event.Event.{Event}
use Rattle.sleep_core.specs.declared.event.Event.TheVariants.{Post, Test, Look, Withdraw, Clear}
use Rattle.sleep_core.specs.declared.event.Event.TheVariants.{Raise, Take, Mark, Note, Drain}
use Rattle.sleep_core.specs.declared.answer.Answer.{Answer}
use Rattle.sleep_core.specs.declared.answer.Answer.TheVariants as answer
use Rattle.sleep_core.specs.Runs.{Entry, IsMadeBy, IsRun, own}
use Rattle.sleep_core.specs.History.{Effect, effect_of, history_of}
use Rattle.sleep_core.specs.History.Effect.{Began, Passed, Roused, Left}
use Rattle.sleep_core.specs.Promises.{IsCaused, EachSleepIsCaused}
use Rattle.sleep_core.specs.OwnEventLaws.{OwnSleepsEndForACause}
use Rattle.sleep_core.proofs.KeptHistory.{history_of-kept}
use Rattle.sleep_core.proofs.NoLostWakeup.{sleeps_end_for_a_cause}

-- an effect of a sleep is its maker's
abbrev IsEffectBy : ℕ → Option Effect → Type 0
IsEffectBy maker (Some (Began by rendez threshold)) = by ≡ maker
IsEffectBy maker (Some (Passed by)) = by ≡ maker
IsEffectBy maker (Some (Roused by)) = by ≡ maker
IsEffectBy maker (Some (Left by notes)) = by ≡ maker
IsEffectBy maker effect = Unit {0}

effect_by_maker : (told : Answer) (event : Event) (maker : ℕ) → IsMadeBy maker event
    → IsEffectBy maker (effect_of told event)
effect_by_maker answer.Posted (Post pid rendez threshold) maker made = made
effect_by_maker answer.Leaving (Test pid) maker made = made
effect_by_maker answer.Asleep (Test pid) maker made = tt
effect_by_maker answer.Woken (Look pid) maker made = made
effect_by_maker answer.Out (Withdraw pid) maker made = tt
effect_by_maker answer.Cleared (Clear pid) maker made = made
effect_by_maker (answer.Interrupted notes) (Clear pid) maker made = made
effect_by_maker answer.Owing (Raise pid rendez level) maker made = tt
effect_by_maker answer.Nobody (Take pid) maker made = tt
effect_by_maker (answer.Holding sleeper) (Take pid) maker made = tt
effect_by_maker (answer.Marked sleeper) (Mark pid) maker made = tt
effect_by_maker answer.Noted (Note pid notes) maker made = tt
effect_by_maker (answer.Notes notes) (Drain pid) maker made = tt
effect_by_maker told event maker made = tt

-- one more effect on two histories, of which the second has the cause where the first has it
caused-cons : (pid : ℕ) (effect : Option Effect) (a b : List Effect)
    → (IsCaused a pid → IsCaused b pid)
    → IsCaused (cons_option effect a) pid → IsCaused (cons_option effect b) pid
caused-cons pid None a b before caused = before caused
caused-cons pid (Some (Passed by)) a b before (inl now) = inl now
caused-cons pid (Some (Passed by)) a b before (inr past) = inr (before past)
caused-cons pid (Some (Roused by)) a b before (inl now) = inl now
caused-cons pid (Some (Roused by)) a b before (inr past) = inr (before past)
caused-cons pid (Some (Began by rendez threshold)) a b before caused = (caused.0, before caused.1)
caused-cons pid (Some effect) a b before caused = before caused

-- what another does is no cause
caused-others : (effect : Option Effect) (maker pid : ℕ) (h : List Effect) → IsEffectBy maker effect
    → maker ≢ pid → IsCaused (cons_option effect h) pid → IsCaused h pid
caused-others None maker pid h by_maker differ caused = caused
caused-others (Some (Passed by)) maker pid h by_maker differ (inl now) =
    absurd (differ (sym by_maker ∙ now))
caused-others (Some (Passed by)) maker pid h by_maker differ (inr past) = past
caused-others (Some (Roused by)) maker pid h by_maker differ (inl now) =
    absurd (differ (sym by_maker ∙ now))
caused-others (Some (Roused by)) maker pid h by_maker differ (inr past) = past
caused-others (Some (Began by rendez threshold)) maker pid h by_maker differ caused = caused.1
caused-others (Some effect) maker pid h by_maker differ caused = caused

caused-own : (procs rendez : ℕ) (past : List Entry) → IsRun procs rendez past → (pid : ℕ)
    → IsCaused (history_of past) pid → IsCaused (history_of (own pid past)) pid
caused-own procs rendez [] run pid caused = caused
caused-own procs rendez (entry ∷ past) run pid caused =
    by_maker (caused-own procs rendez past run.0 pid) (eqb_tells entry.maker pid)
  where
    effect : Option Effect
    effect = effect_of entry.answer entry.event

    by_maker : (IsCaused (history_of past) pid → IsCaused (history_of (own pid past)) pid)
        → ((eqb entry.maker pid ≡ true) × (entry.maker ≡ pid))
        ⊎ ((eqb entry.maker pid ≡ false) × (entry.maker ≢ pid))
        → IsCaused (history_of
        (cond (eqb entry.maker pid) (entry ∷ own pid past) (own pid past))) pid
    by_maker before (inl same) =
        subst (λ b. IsCaused (history_of (cond b (entry ∷ own pid past) (own pid past))) pid)
        (sym same.0)
        (caused-cons pid effect (history_of past) (history_of (own pid past)) before caused)
    by_maker before (inr differ) =
        subst (λ b. IsCaused (history_of (cond b (entry ∷ own pid past) (own pid past))) pid)
        (sym differ.0)
        (before (caused-others effect entry.maker pid (history_of past)
        (effect_by_maker entry.answer entry.event entry.maker run.1.made) differ.1 caused))

-- one more effect: where it ends a sleep of the process without notes, its cause stands in both
each-cons : (maker pid : ℕ) (effect : Option Effect) (a b : List Effect) → IsEffectBy maker effect
    → maker ≡ pid → (IsCaused a pid → IsCaused b pid) → EachSleepIsCaused b
    → EachSleepIsCaused (cons_option effect a) → EachSleepIsCaused (cons_option effect b)
each-cons maker pid (Some (Left by None)) a b by_maker same before each now = (
  subst (λ p. IsCaused b p) (sym (by_maker ∙ same))
      (before (subst (λ p. IsCaused a p) (by_maker ∙ same) now.0)),
  each,
)
each-cons maker pid None a b by_maker same before each now = each
each-cons maker pid (Some effect) a b by_maker same before each now = each

-- the sleeps of a history are those of its past, and perhaps one more
each-past : (effect : Option Effect) (h : List Effect) → EachSleepIsCaused (cons_option effect h)
    → EachSleepIsCaused h
each-past None h each = each
each-past (Some (Left by None)) h each = each.1
each-past (Some effect) h each = each

each-own : (procs rendez : ℕ) (past : List Entry) → IsRun procs rendez past → (pid : ℕ)
    → EachSleepIsCaused (history_of past) → EachSleepIsCaused (history_of (own pid past))
each-own procs rendez [] run pid each = tt
each-own procs rendez (entry ∷ past) run pid each =
    by_maker
    (each-own procs rendez past run.0 pid
    (each-past (effect_of entry.answer entry.event) (history_of past) each))
    (eqb_tells entry.maker pid)
  where
    effect : Option Effect
    effect = effect_of entry.answer entry.event

    by_maker : EachSleepIsCaused (history_of (own pid past))
        → ((eqb entry.maker pid ≡ true) × (entry.maker ≡ pid))
        ⊎ ((eqb entry.maker pid ≡ false) × (entry.maker ≢ pid))
        → EachSleepIsCaused (history_of
        (cond (eqb entry.maker pid) (entry ∷ own pid past) (own pid past)))
    by_maker before (inl same) =
        subst (λ b. EachSleepIsCaused (history_of (cond b (entry ∷ own pid past) (own pid past))))
        (sym same.0)
        (each-cons entry.maker pid effect (history_of past) (history_of (own pid past))
        (effect_by_maker entry.answer entry.event entry.maker run.1.made) same.1
        (caused-own procs rendez past run.0 pid) before each)
    by_maker before (inr differ) =
        subst (λ b. EachSleepIsCaused (history_of (cond b (entry ∷ own pid past) (own pid past))))
        (sym differ.0) before

-- a process finds the cause for which its sleep ended among its own events that are kept
pub own_sleeps_end_for_a_cause : OwnSleepsEndForACause
own_sleeps_end_for_a_cause procs rendez past run pid =
    subst EachSleepIsCaused (sym (history_of-kept (own pid past)))
    (each-own procs rendez past run pid (sleeps_end_for_a_cause procs rendez past run))
