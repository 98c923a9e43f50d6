-- What one step leaves true of the processes that did not make it.
use Rattle.std.proofs.Common.{◌≡◌, ◌≢◌, ◌⊎◌, ◌<◌, ◌≤◌, ◌==◌, inl, inr, ℕ, true, false, eqb}
use Rattle.std.proofs.Common.{if◌then◌else◌, Some, List, ◌∷◌, length, get_or, set, refl, sym, ◌∙◌}
use Rattle.std.proofs.Common.{ap, subst, arith}
use Rattle.std.proofs.lemmas.Bool.Decides.{eqb_tells}
use Rattle.std.proofs.lemmas.List.{get_or-set_same, get_or-set_other}
use Rattle.sleep_core.specs.declared.phase.Phase.{Phase}
use Rattle.sleep_core.specs.declared.phase.Phase.TheVariants as phase
use Rattle.sleep_core.specs.State.{State, phase_of, flags_of, level_of, no_flags}
use Rattle.sleep_core.specs.Table.{has_notes}
use Rattle.sleep_core.specs.History.{Effect, begun_wakeup}
use Rattle.sleep_core.specs.History.Effect.{Began, Passed, Fell, Roused, Withdrew, Left, Raised}
use Rattle.sleep_core.specs.History.Effect.{Took}
use Rattle.sleep_core.specs.History.Effect.{Marked}
use Rattle.sleep_core.specs.Promises.{IsStillIn, HasFallen, IsHeld, IsCaused}
use Rattle.sleep_core.proofs.ListLemmas.{get_or-set_cases}
use Rattle.sleep_core.proofs.CoreInvariant.{Token, token, IsAway, IsNear, MayLeave, Raises, Fits}
use Rattle.sleep_core.proofs.CoreInvariant.{IsAtThreshold, Core}
use Rattle.sleep_core.proofs.CoreInvariant.Token.{Nowhere, InRendez, WithRaiser, InFlags}

-- a choice by number, at the number and elsewhere
pub if_same : {X : Type 0} (a p : ℕ) (x y : X) → p ≡ a → (if a == p then x else y) ≡ x
if_same a p x y same = by_test (eqb_tells a p)
  where
    by_test : ((eqb a p ≡ true) × (a ≡ p)) ⊎ ((eqb a p ≡ false) × (a ≢ p))
        → (if a == p then x else y) ≡ x
    by_test (inl here) = ap (λ b. if b then x else y) here.0
    by_test (inr there) = absurd (there.1 (sym same))

-- a choice that asks whether two numbers are one takes its second branch where they differ
pub if_other : {X : Type 0} (a p : ℕ) (x y : X) → p ≢ a → (if a == p then x else y) ≡ y
if_other a p x y differ = by_test (eqb_tells a p)
  where
    by_test : ((eqb a p ≡ true) × (a ≡ p)) ⊎ ((eqb a p ≡ false) × (a ≢ p))
        → (if a == p then x else y) ≡ y
    by_test (inl here) = absurd (differ (sym here.1))
    by_test (inr there) = ap (λ b. if b then x else y) there.0

-- two numbers are the same, or not
pub same_or_not : (p a : ℕ) → (p ≡ a) ⊎ (p ≢ a)
same_or_not p a = by_test (eqb_tells p a)
  where
    by_test : ((eqb p a ≡ true) × (p ≡ a)) ⊎ ((eqb p a ≡ false) × (p ≢ a)) → (p ≡ a) ⊎ (p ≢ a)
    by_test (inl here) = inl here.1
    by_test (inr there) = inr there.1

-- processes whose tokens are in different places are different
pub apart : (h : List Effect) (p q : ℕ) (x y : Token) → token h p ≡ x → token h q ≡ y → (x ≡ y → ⊥)
    → p ≢ q
apart h p q x y at_p at_q differ same = differ (sym at_p ∙ (ap (token h) same ∙ at_q))

-- the level that a phase names, after one phase has changed
pub threshold_kept : (s : State) (mover : ℕ) (stage : Phase) (pid threshold : ℕ)
    → (pid ≡ mover → IsAtThreshold threshold stage) → IsAtThreshold threshold (phase_of s pid)
    → IsAtThreshold threshold (get_or (set s.phases mover stage) pid phase.Idle)
threshold_kept s mover stage pid threshold own old =
    by_place (get_or-set_cases s.phases mover stage pid phase.Idle)
  where
    by_place : ((pid ≡ mover) × (get_or (set s.phases mover stage) pid phase.Idle ≡ stage))
        ⊎ (get_or (set s.phases mover stage) pid phase.Idle ≡ phase_of s pid)
        → IsAtThreshold threshold (get_or (set s.phases mover stage) pid phase.Idle)
    by_place (inl here) = subst (IsAtThreshold threshold) (sym here.1) (own here.0)
    by_place (inr there) = subst (IsAtThreshold threshold) (sym there) old

-- what the phase of a process says, at a phase that is known
pub fits_at : (s : State) (h : List Effect) (pid : ℕ) (stage : Phase) → Core s h
    → phase_of s pid ≡ stage → Fits s h pid stage
fits_at s h pid stage core at = subst (Fits s h pid) at (core.fits pid)

-- every process fits, once the one that moved does and each other does in the phase that it had
pub fits_each : (before after : State) (h : List Effect) (mover : ℕ) (stage : Phase)
    → mover < length before.phases → Fits after h mover stage
    → ((pid : ℕ) → pid ≢ mover → Fits after h pid (phase_of before pid)) → (pid : ℕ)
    → Fits after h pid (get_or (set before.phases mover stage) pid phase.Idle)
fits_each before after h mover stage in_range own others pid = by_pid (same_or_not pid mover)
  where
    by_pid : (pid ≡ mover) ⊎ (pid ≢ mover)
        → Fits after h pid (get_or (set before.phases mover stage) pid phase.Idle)
    by_pid (inl same) =
        subst (λ p. Fits after h p (get_or (set before.phases mover stage) p phase.Idle)) (sym same)
        (subst (Fits after h mover)
        (sym (get_or-set_same before.phases mover stage phase.Idle in_range)) own)
    by_pid (inr differ) =
        subst (Fits after h pid)
        (sym (get_or-set_other before.phases mover pid stage phase.Idle differ))
        (others pid differ)

-- what a step leaves true for this process
pub record Frame (before after : State) (h later : List Effect) (pid : ℕ) : Type 0 where
  -- its token is where it was
  pub same_token : token later pid ≡ token h pid
  -- a sleep that went on goes on
  pub still_in : (rendez threshold : ℕ) → IsStillIn h pid rendez threshold
      → IsStillIn later pid rendez threshold
  -- if it fell asleep in it, it still has
  pub fallen : (rendez threshold : ℕ) → HasFallen h pid rendez threshold
      → HasFallen later pid rendez threshold
  -- a cause for which its sleep may end stays one
  pub caused : IsCaused h pid → IsCaused later pid
  -- notes that it had are not taken from it
  pub noted : has_notes (flags_of before pid).notes ≡ true
      → has_notes (flags_of after pid).notes ≡ true
  -- its newest wakeup is the one that it was
  pub begun : begun_wakeup pid later ≡ begun_wakeup pid h
  -- no level falls
  pub level : (rendez : ℕ) → level_of before rendez ≤ level_of after rendez
  -- a sleeper that it holds it still holds
  pub held : (sleeper : ℕ) → token h sleeper ≡ WithRaiser pid → IsHeld h pid sleeper
      → (token later sleeper ≡ WithRaiser pid) × IsHeld later pid sleeper
  -- whoever fell asleep in the step did so with a threshold that the level was not above
  pub newly : (rendez other above : ℕ) → HasFallen later other rendez above
      → HasFallen h other rendez above ⊎ (level_of before rendez ≤ above)

-- the effect moves the token of this process
abbrev pub MovesToken : ℕ → Effect → Type 0
MovesToken pid (Began by rendez threshold) = by ≡ pid
MovesToken pid (Withdrew by) = by ≡ pid
MovesToken pid (Left by notes) = by ≡ pid
MovesToken pid (Took by sleeper) = sleeper ≡ pid
MovesToken pid (Marked by sleeper) = sleeper ≡ pid
MovesToken pid effect = ⊥

-- the effect moves its token, or begins a wakeup of it
abbrev pub IsAbout : ℕ → Effect → Type 0
IsAbout pid (Raised by rendez level) = by ≡ pid
IsAbout pid effect = MovesToken pid effect

-- who falls asleep with the effect has a threshold that the level is not above
abbrev pub FallsAbove : State → List Effect → Effect → Type 0
FallsAbove s h (Fell by) = (rendez other threshold : ℕ)
    → (by ≡ other) × IsStillIn h other rendez threshold
    → level_of s rendez ≤ threshold
FallsAbove s h effect = Unit {0}

-- a token that an effect does not move stays
same_token_past : (h : List Effect) (effect : Effect) (pid : ℕ) → (MovesToken pid effect → ⊥)
    → token (effect ∷ h) pid ≡ token h pid
same_token_past h (Began by rendez threshold) pid other =
    if_other by pid (InRendez rendez) (token h pid) (λ same. other (sym same))
same_token_past h (Withdrew by) pid other =
    if_other by pid Nowhere (token h pid) (λ same. other (sym same))
same_token_past h (Left by notes) pid other =
    if_other by pid Nowhere (token h pid) (λ same. other (sym same))
same_token_past h (Took by sleeper) pid other =
    if_other sleeper pid (WithRaiser by) (token h pid) (λ same. other (sym same))
same_token_past h (Marked by sleeper) pid other =
    if_other sleeper pid InFlags (token h pid) (λ same. other (sym same))
same_token_past h effect pid other = refl

-- so do its sleep, its fall and its cause
still_in_past : (h : List Effect) (effect : Effect) (pid rendez threshold : ℕ)
    → (MovesToken pid effect → ⊥) → IsStillIn h pid rendez threshold
    → IsStillIn (effect ∷ h) pid rendez threshold
still_in_past h (Began by at above) pid rendez threshold other still = inr still
still_in_past h (Withdrew by) pid rendez threshold other still = (other, still)
still_in_past h (Left by notes) pid rendez threshold other still = (other, still)
still_in_past h (Took by sleeper) pid rendez threshold other still = (other, still)
still_in_past h effect pid rendez threshold other still = still

fallen_past : (h : List Effect) (effect : Effect) (pid rendez threshold : ℕ)
    → (MovesToken pid effect → ⊥) → HasFallen h pid rendez threshold
    → HasFallen (effect ∷ h) pid rendez threshold
fallen_past h (Fell by) pid rendez threshold other fell = inr fell
fallen_past h (Withdrew by) pid rendez threshold other fell = (other, fell)
fallen_past h (Left by notes) pid rendez threshold other fell = (other, fell)
fallen_past h (Took by sleeper) pid rendez threshold other fell = (other, fell)
fallen_past h effect pid rendez threshold other fell = fell

caused_past : (h : List Effect) (effect : Effect) (pid : ℕ) → (MovesToken pid effect → ⊥)
    → IsCaused h pid → IsCaused (effect ∷ h) pid
caused_past h (Passed by) pid other cause = inr cause
caused_past h (Roused by) pid other cause = inr cause
caused_past h (Began by rendez threshold) pid other cause = (other, cause)
caused_past h effect pid other cause = cause

-- and the wakeup that it has begun
begun_past : (h : List Effect) (effect : Effect) (pid : ℕ) → (IsAbout pid effect → ⊥)
    → begun_wakeup pid (effect ∷ h) ≡ begun_wakeup pid h
begun_past h (Raised by rendez level) pid other =
    if_other by pid (Some (record { rendez = rendez; level = level })) (begun_wakeup pid h)
    (λ same. other (sym same))
begun_past h effect pid other = refl

-- what is about no process moves no token of it
not_moved : (effect : Effect) (pid : ℕ) → (IsAbout pid effect → ⊥) → MovesToken pid effect → ⊥
not_moved (Raised by rendez level) pid other moves = moves
not_moved effect pid other moves = other moves

-- whom it holds it holds still
held_past : (h : List Effect) (effect : Effect) (pid sleeper : ℕ) → (MovesToken sleeper effect → ⊥)
    → IsHeld h pid sleeper → IsHeld (effect ∷ h) pid sleeper
held_past h (Took by taken) pid sleeper other held = inr held
held_past h (Marked by taken) pid sleeper other held = (other, held)
held_past h (Left by notes) pid sleeper other held = (other, held)
held_past h effect pid sleeper other held = held

-- who has fallen asleep had done so before, or falls now
newly_past : (s : State) (h : List Effect) (effect : Effect) (rendez other threshold : ℕ)
    → FallsAbove s h effect → HasFallen (effect ∷ h) other rendez threshold
    → HasFallen h other rendez threshold ⊎ (level_of s rendez ≤ threshold)
newly_past s h (Fell by) rendez other threshold above fell = by_fall fell
  where
    by_fall : ((by ≡ other) × IsStillIn h other rendez threshold)
        ⊎ HasFallen h other rendez threshold
        → HasFallen h other rendez threshold ⊎ (level_of s rendez ≤ threshold)
    by_fall (inl new) = inr (above rendez other threshold new)
    by_fall (inr old) = inl old
newly_past s h (Withdrew by) rendez other threshold above fell = inl fell.1
newly_past s h (Left by notes) rendez other threshold above fell = inl fell.1
newly_past s h (Took by sleeper) rendez other threshold above fell = inl fell.1
newly_past s h effect rendez other threshold above fell = inl fell

-- What an effect leaves true of a process that it is not about, and which holds nobody whose token
-- moves.
pub frame_past : (before after : State) (h : List Effect) (effect : Effect) (pid : ℕ)
    → (IsAbout pid effect → ⊥)
    → ((sleeper : ℕ) → MovesToken sleeper effect → token h sleeper ≡ WithRaiser pid → ⊥)
    → FallsAbove before h effect
    → (has_notes (flags_of before pid).notes ≡ true
    → has_notes (flags_of after pid).notes ≡ true)
    → ((rendez : ℕ) → level_of before rendez ≤ level_of after rendez)
    → Frame before after h (effect ∷ h) pid
frame_past before after h effect pid other not_held above noted level =
    record {
      same_token = same_token_past h effect pid unmoved;
      still_in = λ rendez threshold still. still_in_past h effect pid rendez threshold unmoved
          still;
      fallen = λ rendez threshold fell. fallen_past h effect pid rendez threshold unmoved fell;
      caused = caused_past h effect pid unmoved;
      noted = noted;
      begun = begun_past h effect pid other;
      level = level;
      held = λ sleeper with_raiser held. (
        same_token_past h effect sleeper (λ moves. not_held sleeper moves with_raiser)
            ∙ with_raiser,
        held_past h effect pid sleeper (λ moves. not_held sleeper moves with_raiser) held,
      );
      newly = λ rendez x threshold fell. newly_past before h effect rendez x threshold above fell;
    }
  where
    unmoved : MovesToken pid effect → ⊥
    unmoved = not_moved effect pid other

-- and what a step without an effect leaves true of each
pub frame_quiet : (before after : State) (h : List Effect) (pid : ℕ)
    → after.flags ≡ before.flags → after.levels ≡ before.levels → Frame before after h h pid
frame_quiet before after h pid same_flags same_levels =
    record {
      same_token = refl;
      still_in = λ rendez threshold still. still;
      fallen = λ rendez threshold fell. fell;
      caused = λ cause. cause;
      noted = λ some. ap (λ flags. has_notes (get_or flags pid no_flags).notes) same_flags ∙ some;
      begun = refl;
      level = λ rendez. omega (arith, ap (λ levels. get_or levels rendez 0) same_levels);
      held = λ sleeper with_raiser held. (with_raiser, held);
      newly = λ rendez x threshold fell. inl fell;
    }

may_leave_kept : (before after : State) (h later : List Effect) (pid : ℕ)
    → Frame before after h later pid → MayLeave before h pid → MayLeave after later pid
may_leave_kept before after h later pid frame (inl cause) = inl (frame.caused cause)
may_leave_kept before after h later pid frame (inr notes) = inr (frame.noted notes)

raises_kept : (before after : State) (h later : List Effect) (pid rendez level : ℕ)
    → Frame before after h later pid → Raises before h pid rendez level
    → Raises after later pid rendez level
raises_kept before after h later pid rendez level frame raises =
    record {
      nowhere = frame.same_token ∙ raises.nowhere;
      begun = frame.begun ∙ raises.begun;
      low = at_most raises.low (frame.level rendez);
    }
  where
    at_most : {a b c : ℕ} → a ≤ b → b ≤ c → a ≤ c
    at_most h₁ h₂ = omega arith

-- a process that an effect is not about fits its phase as it did
pub fits_kept : (before after : State) (h later : List Effect) (pid : ℕ)
    → Frame before after h later pid → (stage : Phase) → Fits before h pid stage
    → Fits after later pid stage
fits_kept before after h later pid frame phase.Idle fit = frame.same_token ∙ fit
fits_kept before after h later pid frame (phase.Posted rendez threshold) fit =
    record {
      near = subst (IsNear rendez.0) (sym frame.same_token) fit.near;
      stays = λ e. frame.still_in rendez.0 threshold (fit.stays (sym frame.same_token ∙ e));
    }
fits_kept before after h later pid frame (phase.Asleep rendez threshold) fit =
    record {
      near = subst (IsNear rendez.0) (sym frame.same_token) fit.near;
      stays = λ e. frame.fallen rendez.0 threshold (fit.stays (sym frame.same_token ∙ e));
    }
fits_kept before after h later pid frame (phase.Leaving rendez) fit =
    record {
      place = subst (IsNear rendez.0) (sym frame.same_token) fit.place;
      may_leave = may_leave_kept before after h later pid frame fit.may_leave;
    }
fits_kept before after h later pid frame phase.Awaiting fit =
    subst IsAway (sym frame.same_token) fit
fits_kept before after h later pid frame phase.Woken fit =
    (frame.same_token ∙ fit.0, frame.caused fit.1)
fits_kept before after h later pid frame phase.Out fit =
    record {
      place = frame.same_token ∙ fit.place;
      may_leave = may_leave_kept before after h later pid frame fit.may_leave;
    }
fits_kept before after h later pid frame (phase.Owing rendez level) fit =
    raises_kept before after h later pid rendez.0 level frame fit
fits_kept before after h later pid frame (phase.Holding sleeper rendez level) fit =
    record {
      raises = raises_kept before after h later pid rendez.0 level frame fit.raises;
      with_raiser = (frame.held sleeper.0 fit.with_raiser fit.held).0;
      held = (frame.held sleeper.0 fit.with_raiser fit.held).1;
      below = λ other above fell. by_fall above (frame.newly rendez.0 other above fell)
          (fit.below other above);
    }
  where
    by_fall : {Old : Type 0} (above : ℕ) → Old ⊎ (level_of before rendez.0 ≤ above)
        → (Old → level ≤ above) → level ≤ above
    by_fall above (inl old) below = below old
    by_fall above (inr over) below = omega (arith, fit.raises.low)

-- a sleeper whose token a wakeup has now
pub near_away : (rendez : ℕ) (place : Token) → IsAway place → IsNear rendez place
near_away rendez Nowhere away = absurd away
near_away rendez (InRendez other) away = absurd away
near_away rendez (WithRaiser raiser) away = tt
near_away rendez InFlags away = tt

-- so does a sleeper whose token a wakeup has now, in each phase in which it can be
pub fits_moved : (before after : State) (h later : List Effect) (pid : ℕ) → token h pid ≢ Nowhere
    → token h pid ≢ InFlags → IsAway (token later pid) → (IsCaused h pid → IsCaused later pid)
    → (has_notes (flags_of before pid).notes ≡ true → has_notes (flags_of after pid).notes ≡ true)
    → (stage : Phase) → Fits before h pid stage → Fits after later pid stage
fits_moved before after h later pid somewhere unmarked away caused noted phase.Idle fit =
    absurd (somewhere fit)
fits_moved before after h later pid somewhere unmarked away caused noted (phase.Posted rendez
    threshold)
    fit =
    record {
      near = near_away rendez.0 (token later pid) away;
      stays = λ e. absurd (subst IsAway e away);
    }
fits_moved before after h later pid somewhere unmarked away caused noted (phase.Asleep rendez
    threshold)
    fit =
    record {
      near = near_away rendez.0 (token later pid) away;
      stays = λ e. absurd (subst IsAway e away);
    }
fits_moved before after h later pid somewhere unmarked away caused noted (phase.Leaving rendez) fit
    =
    record {
      place = near_away rendez.0 (token later pid) away;
      may_leave = by_reason fit.may_leave;
    }
  where
    by_reason : MayLeave before h pid → MayLeave after later pid
    by_reason (inl cause) = inl (caused cause)
    by_reason (inr notes) = inr (noted notes)
fits_moved before after h later pid somewhere unmarked away caused noted phase.Awaiting fit = away
fits_moved before after h later pid somewhere unmarked away caused noted phase.Woken fit =
    absurd (unmarked fit.0)
fits_moved before after h later pid somewhere unmarked away caused noted phase.Out fit =
    absurd (somewhere fit.place)
fits_moved before after h later pid somewhere unmarked away caused noted (phase.Owing rendez level)
    fit =
    absurd (somewhere fit.nowhere)
fits_moved before after h later pid somewhere unmarked away caused noted
    (phase.Holding sleeper rendez level) fit =
    absurd (somewhere fit.raises.nowhere)
