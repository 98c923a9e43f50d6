-- Each wakeup takes whom it finds in its Rendez, and a returned level is the greatest.
use Rattle.std.proofs.Common.{◌≡◌, ◌≢◌, ◌⊎◌, ◌<◌, ◌+◌, inl, inr, ℕ, max, Option, Some, None, List}
use Rattle.std.proofs.Common.{[], ◌∷◌, length, get_or, set, refl, sym, ◌∙◌, ap, subst, arith}
use Rattle.std.specs.List.{cons_option}
use Rattle.std.proofs.lemmas.List.{get_or-set_same, get_or-set_other}
use Rattle.sync_base.specs.declared.ids.RendezId.{RendezId}
use Rattle.sleep_core.specs.declared.phase.Phase.{Phase}
use Rattle.sleep_core.specs.declared.phase.Phase.TheVariants as phase
use Rattle.sleep_core.specs.State.{State, phase_of, flags_of, posted_of, returned_of}
use Rattle.sleep_core.specs.Table.{Wakeup}
use Rattle.sleep_core.specs.Step.{with_returned, world_after}
use Rattle.sleep_core.specs.Runs.{Entry, IsRun, world_of}
use Rattle.sleep_core.specs.History.{Effect, effect_of, history_of, begun_wakeup, HasReturned}
use Rattle.sleep_core.specs.History.Effect.{Began, Passed, Fell, Roused, Withdrew, Left, Raised}
use Rattle.sleep_core.specs.History.Effect.{Missed, Took, Marked, Noted, Drained}
use Rattle.sleep_core.specs.Promises.{owed_wakeup, FindsNobody, FindsSleeper, TakesAreRight}
use Rattle.sleep_core.specs.Laws.{PostedAreStillIn, StillInArePosted, AsleepHaveFallen}
use Rattle.sleep_core.specs.Laws.{ReturnedIsGreatest}
use Rattle.sleep_core.proofs.ListLemmas.{get_or-set_cases}
use Rattle.sleep_core.proofs.CoreInvariant.{Raises, Holds, Core}
use Rattle.sleep_core.proofs.Moves.{Move, ending_notes}
use Rattle.sleep_core.proofs.Moves.Move.{stays, post_posted, test_leaving, test_asleep, look_woken}
use Rattle.sleep_core.proofs.Moves.Move.{look_leaving, withdraw_out, withdraw_awaiting, clear_ended}
use Rattle.sleep_core.proofs.Moves.Move.{raise_owing, take_nobody, take_holding, mark_marked}
use Rattle.sleep_core.proofs.Moves.Move.{note_noted, drain_notes}
use Rattle.sleep_core.proofs.TableMoves.{table_moves}
use Rattle.sleep_core.proofs.Frames.{if_same, if_other, same_or_not, fits_at}
use Rattle.sleep_core.proofs.TokenLemmas.{still_in_by_token}
use Rattle.sleep_core.proofs.CoreRuns.{get_or-replicate_same, core_of_run, fallen_at}

-- whoever owes a take owes it for the wakeup that it has begun
abbrev IsOwed : List Effect → ℕ → Phase → Type 0
IsOwed h pid (phase.Owing rendez level) =
    owed_wakeup pid h ≡ Some (record { rendez = rendez.0; level = level })
IsOwed h pid stage = Unit {0}

-- the wakeups that are owed, as the phases have them
abbrev Owed : State → List Effect → Type 0
Owed s h = (pid : ℕ) → IsOwed h pid (phase_of s pid)

-- what another process owes is not changed
owed_same : (h later : List Effect) (pid : ℕ) (stage : Phase)
    → owed_wakeup pid later ≡ owed_wakeup pid h → IsOwed h pid stage → IsOwed later pid stage
owed_same h later pid (phase.Owing rendez level) same owed = same ∙ owed
owed_same h later pid stage same owed = tt

-- one process moves, and each other owes what it owed
owed_each : (s : State) (h later : List Effect) (mover : ℕ) (stage : Phase)
    → mover < length s.phases → IsOwed later mover stage
    → ((p : ℕ) → p ≢ mover → owed_wakeup p later ≡ owed_wakeup p h) → Owed s h → (p : ℕ)
    → IsOwed later p (get_or (set s.phases mover stage) p phase.Idle)
owed_each s h later mover stage in_range own others owed p = by_pid (same_or_not p mover)
  where
    by_pid : (p ≡ mover) ⊎ (p ≢ mover)
        → IsOwed later p (get_or (set s.phases mover stage) p phase.Idle)
    by_pid (inl same) =
        subst (λ q. IsOwed later q (get_or (set s.phases mover stage) q phase.Idle)) (sym same)
        (subst (IsOwed later mover)
        (sym (get_or-set_same s.phases mover stage phase.Idle in_range)) own)
    by_pid (inr differ) =
        subst (IsOwed later p) (sym (get_or-set_other s.phases mover p stage phase.Idle differ))
        (owed_same h later p (phase_of s p) (others p differ) (owed p))

-- every move keeps what is owed
owed_kept : (s : State) (h : List Effect) {effect : Option Effect} {after : State}
    → Move s effect after
    → Owed s h → Owed after (cons_option effect h)
owed_kept s h stays owed = owed
owed_kept s h (post_posted {pid = pid} {rendez = rendez} {threshold = threshold} in_range idle there
    free) owed =
    owed_each s h (Began pid rendez.0 threshold ∷ h) pid (phase.Posted rendez threshold) in_range tt
    (λ p differ. refl) owed
owed_kept s h (test_leaving {pid = pid} {rendez = rendez} {threshold = threshold} in_range at) owed
    =
    owed_each s h (Passed pid ∷ h) pid (phase.Leaving rendez) in_range tt (λ p differ. refl) owed
owed_kept s h (test_asleep {pid = pid} {rendez = rendez} {threshold = threshold} in_range at low)
    owed =
    owed_each s h (Fell pid ∷ h) pid (phase.Asleep rendez threshold) in_range tt (λ p differ. refl)
    owed
owed_kept s h (look_woken {pid = pid} {stage = stage} in_range at waiting wake) owed =
    owed_each s h (Roused pid ∷ h) pid phase.Woken in_range tt (λ p differ. refl) owed
owed_kept s h (look_leaving {pid = pid} {rendez = rendez} {threshold = threshold} in_range at noted)
    owed =
    owed_each s h h pid (phase.Leaving rendez) in_range tt (λ p differ. refl) owed
owed_kept s h (withdraw_out {pid = pid} {rendez = rendez} in_range at mine) owed =
    owed_each s h (Withdrew pid ∷ h) pid phase.Out in_range tt (λ p differ. refl) owed
owed_kept s h (withdraw_awaiting {pid = pid} {rendez = rendez} in_range at other) owed =
    owed_each s h h pid phase.Awaiting in_range tt (λ p differ. refl) owed
owed_kept s h (clear_ended {pid = pid} {stage = stage} in_range at over) owed =
    owed_each s h (Left pid (ending_notes (flags_of s pid).notes) ∷ h) pid phase.Idle in_range tt
    (λ p differ. refl) owed
owed_kept s h (raise_owing {pid = pid} {rendez = rendez} {level = level} in_range idle there) owed =
    owed_each s h (Raised pid rendez.0 level ∷ h) pid (phase.Owing rendez level) in_range
    (if_same pid pid wakeup (owed_wakeup pid h) refl)
    (λ p differ. if_other pid p wakeup (owed_wakeup p h) differ) owed
  where
    wakeup : Option Wakeup
    wakeup = Some (record { rendez = rendez.0; level = level })
owed_kept s h (take_nobody {pid = pid} {rendez = rendez} {level = level} in_range at free) owed =
    owed_each s h (Missed pid ∷ h) pid phase.Idle in_range tt
    (λ p differ. if_other pid p None (owed_wakeup p h) differ) owed
owed_kept s h (take_holding {pid = pid} {sleeper = sleeper} {rendez = rendez} {level = level}
    in_range at
    posted) owed =
    owed_each s h (Took pid sleeper.0 ∷ h) pid (phase.Holding sleeper rendez level) in_range tt
    (λ p differ. if_other pid p None (owed_wakeup p h) differ) owed
owed_kept s h (mark_marked {pid = pid} {sleeper = sleeper} {rendez = rendez} {level = level}
    in_range at)
    owed =
    owed_each s h (Marked pid sleeper.0 ∷ h) pid phase.Idle in_range tt (λ p differ. refl) owed
owed_kept s h (note_noted {pid = pid} {new = new} in_range) owed =
    λ p. owed_same h (Noted pid new ∷ h) p (phase_of s p) refl (owed p)
owed_kept s h (drain_notes {pid = pid} in_range idle) owed =
    λ p. owed_same h (Drained pid (flags_of s pid).notes ∷ h) p (phase_of s p) refl (owed p)

owed_in_run : (procs rendez : ℕ) (past : List Entry) → IsRun procs rendez past
    → Owed (world_of procs rendez past) (history_of past)
owed_in_run procs rendez [] run =
    λ pid. subst (IsOwed [] pid) (sym (get_or-replicate_same procs pid phase.Idle)) tt
owed_in_run procs rendez (entry ∷ past) run =
    subst (λ told. Owed (world_after (world_of procs rendez past) entry.event)
    (cons_option (effect_of told entry.event) (history_of past))) (sym run.1.answered)
    (owed_kept (world_of procs rendez past) (history_of past)
    (table_moves (world_of procs rendez past) entry.event) (owed_in_run procs rendez past run.0))

-- a wakeup that finds a word empty finds nobody, for nobody's sleep goes on there
finds_nobody : (s : State) (h : List Effect) (pid : ℕ) (rendez : RendezId) (level : ℕ) → Core s h
    → Owed s h → phase_of s pid ≡ phase.Owing rendez level → posted_of s rendez.0 ≡ 0
    → FindsNobody h pid
finds_nobody s h pid rendez level core owed at free =
    record {
      wakeup = record { rendez = rendez.0; level = level };
      owed = subst (IsOwed h pid) at (owed pid);
      free = λ other threshold still. not_posted other
          (core.still_in other rendez.0 threshold still).posted;
    }
  where
    not_posted : (other : ℕ) → posted_of s rendez.0 ≡ other + 1 → ⊥
    not_posted other posted = absurd (omega (arith, posted, free))

-- and one that finds a process finds it in its sleep
finds_sleeper : (s : State) (h : List Effect) (pid sleeper : ℕ) (rendez : RendezId) (level : ℕ)
    → Core s h → Owed s h → phase_of s pid ≡ phase.Owing rendez level
    → posted_of s rendez.0 ≡ sleeper + 1 → FindsSleeper h pid sleeper
finds_sleeper s h pid sleeper rendez level core owed at posted =
    let still = still_in_by_token h sleeper rendez.0 (core.posted rendez.0 sleeper posted) in
    record {
      wakeup = record { rendez = rendez.0; level = level };
      owed = subst (IsOwed h pid) at (owed pid);
      threshold = still.0;
      still_in = still.1;
    }

-- every move keeps the takes right
takes_kept : (s : State) (h : List Effect) {effect : Option Effect} {after : State}
    → Move s effect after
    → Core s h → Owed s h → TakesAreRight h → TakesAreRight (cons_option effect h)
takes_kept s h stays core owed right = right
takes_kept s h (post_posted in_range idle there free) core owed right = right
takes_kept s h (test_leaving in_range at) core owed right = right
takes_kept s h (test_asleep in_range at low) core owed right = right
takes_kept s h (look_woken in_range at waiting wake) core owed right = right
takes_kept s h (look_leaving in_range at noted) core owed right = right
takes_kept s h (withdraw_out in_range at mine) core owed right = right
takes_kept s h (withdraw_awaiting in_range at other) core owed right = right
takes_kept s h (clear_ended in_range at over) core owed right = right
takes_kept s h (raise_owing in_range idle there) core owed right = right
takes_kept s h (take_nobody {pid = pid} {rendez = rendez} {level = level} in_range at free) core
    owed
    right =
    (finds_nobody s h pid rendez level core owed at free, right)
takes_kept s h (take_holding {pid = pid} {sleeper = sleeper} {rendez = rendez} {level = level}
    in_range at
    posted) core owed right =
    (finds_sleeper s h pid sleeper.0 rendez level core owed at posted, right)
takes_kept s h (mark_marked in_range at) core owed right = right
takes_kept s h (note_noted in_range) core owed right = right
takes_kept s h (drain_notes in_range idle) core owed right = right

-- so does every run
pub takes_are_right : (procs rendez : ℕ) (past : List Entry) → IsRun procs rendez past
    → TakesAreRight (history_of past)
takes_are_right procs rendez [] run = tt
takes_are_right procs rendez (entry ∷ past) run =
    subst (λ told. TakesAreRight (cons_option (effect_of told entry.event) (history_of past)))
    (sym run.1.answered)
    (takes_kept (world_of procs rendez past) (history_of past)
    (table_moves (world_of procs rendez past) entry.event) (core_of_run procs rendez past run.0)
    (owed_in_run procs rendez past run.0) (takes_are_right procs rendez past run.0))

-- the level that is counted as returned has returned, or none has
abbrev IsReached : List Effect → ℕ → ℕ → Type 0
IsReached h rendez level = (level ≡ 0) ⊎ HasReturned h rendez level

-- a wakeup that returns is counted where it is the greatest
counts_greatest : (s : State) (h : List Effect) (pid at level : ℕ)
    → begun_wakeup pid h ≡ Some (record { rendez = at; level = level })
    → ((r : ℕ) → IsReached h r (returned_of s r)) → (r : ℕ)
    → let found = returned_of (with_returned s (Some (record { rendez = at; level = level }))) r in
    (found ≡ 0)
    ⊎ ((begun_wakeup pid h ≡ Some (record { rendez = r; level = found })) ⊎ HasReturned h r found)
counts_greatest s h pid at level begun reached r =
    by_place (get_or-set_cases s.returned at (max (returned_of s at) level) r 0)
  where
    found : ℕ
    found = returned_of (with_returned s (Some (record { rendez = at; level = level }))) r

    Counted : Type 0
    Counted =
        (found ≡ 0)
        ⊎ ((begun_wakeup pid h ≡ Some (record { rendez = r; level = found }))
        ⊎ HasReturned h r found)

    old : found ≡ returned_of s r → Counted
    old same = by_reach (subst (IsReached h r) (sym same) (reached r))
      where
        by_reach : IsReached h r found → Counted
        by_reach (inl none) = inl none
        by_reach (inr returned) = inr (inr returned)

    new : r ≡ at → found ≡ level → Counted
    new here same =
        inr (inl (begun
        ∙ (ap (λ q. Some (record { rendez = q; level = level })) (sym here)
        ∙ ap (λ v. Some (record { rendez = r; level = v })) (sym same))))

    greater : (a b : ℕ) → (max a b ≡ a) ⊎ (max a b ≡ b)
    greater a b = grind arith

    by_greater : r ≡ at → found ≡ max (returned_of s at) level
        → (max (returned_of s at) level ≡ returned_of s at) ⊎ (max (returned_of s at) level ≡ level)
        → Counted
    by_greater here is (inl stays_so) =
        old (is ∙ (stays_so ∙ ap (returned_of s) (sym here)))
    by_greater here is (inr grows) = new here (is ∙ grows)

    by_place : ((r ≡ at) × (found ≡ max (returned_of s at) level)) ⊎ (found ≡ returned_of s r)
        → Counted
    by_place (inl here) =
        by_greater here.0 here.1 (greater (returned_of s at) level)
    by_place (inr there) = old there

-- one more effect that ends no wakeup
reached_kept : (s : State) (h : List Effect) {effect : Option Effect} {after : State}
    → Move s effect after
    → Core s h → ((r : ℕ) → IsReached h r (returned_of s r)) → (r : ℕ)
    → IsReached (cons_option effect h) r (returned_of after r)
reached_kept s h stays core reached = reached
reached_kept s h (post_posted in_range idle there free) core reached = reached
reached_kept s h (test_leaving in_range at) core reached = reached
reached_kept s h (test_asleep in_range at low) core reached = reached
reached_kept s h (look_woken in_range at waiting wake) core reached = reached
reached_kept s h (look_leaving in_range at noted) core reached = reached
reached_kept s h (withdraw_out in_range at mine) core reached = reached
reached_kept s h (withdraw_awaiting in_range at other) core reached = reached
reached_kept s h (clear_ended in_range at over) core reached = reached
reached_kept s h (raise_owing in_range idle there) core reached = reached
reached_kept s h (take_nobody {pid = pid} {rendez = rendez} {level = level} in_range at free) core
    reached =
    counts_greatest s h pid rendez.0 level fit.begun reached
  where
    fit : Raises s h pid rendez.0 level
    fit = fits_at s h pid (phase.Owing rendez level) core at
reached_kept s h (take_holding in_range at posted) core reached = reached
reached_kept s h (mark_marked {pid = pid} {sleeper = sleeper} {rendez = rendez} {level = level}
    in_range
    at) core reached =
    counts_greatest s h pid rendez.0 level fit.raises.begun reached
  where
    fit : Holds s h pid sleeper.0 rendez.0 level
    fit = fits_at s h pid (phase.Holding sleeper rendez level) core at
reached_kept s h (note_noted in_range) core reached = reached
reached_kept s h (drain_notes in_range idle) core reached = reached

reached_in_run : (procs rendez : ℕ) (past : List Entry) → IsRun procs rendez past → (r : ℕ)
    → IsReached (history_of past) r (returned_of (world_of procs rendez past) r)
reached_in_run procs rendez [] run = λ r. inl (get_or-replicate_same rendez r 0)
reached_in_run procs rendez (entry ∷ past) run =
    subst
    (λ told. (r : ℕ) → IsReached (cons_option (effect_of told entry.event) (history_of past)) r
    (returned_of (world_after (world_of procs rendez past) entry.event) r)) (sym run.1.answered)
    (reached_kept (world_of procs rendez past) (history_of past)
    (table_moves (world_of procs rendez past) entry.event) (core_of_run procs rendez past run.0)
    (reached_in_run procs rendez past run.0))

-- the returned level is the greatest that has returned
pub returned_is_greatest : ReturnedIsGreatest
returned_is_greatest procs rendez past run at =
    record {
      bound = (core_of_run procs rendez past run).returned at;
      reached = reached_in_run procs rendez past run at;
    }

-- the posted word and the history say one thing
pub posted_are_still_in : PostedAreStillIn
posted_are_still_in procs rendez past run pid at posted =
    still_in_by_token (history_of past) pid at
    ((core_of_run procs rendez past run).posted at pid posted)

-- whose sleep goes on is posted
pub still_in_are_posted : StillInArePosted
still_in_are_posted procs rendez past run pid at threshold still =
    ((core_of_run procs rendez past run).still_in pid at threshold still).posted

-- and who is asleep and posted has fallen asleep in it
pub asleep_have_fallen : AsleepHaveFallen
asleep_have_fallen procs rendez past run pid at threshold asleep posted =
    fallen_at (world_of procs rendez past) (history_of past) pid at threshold
    (core_of_run procs rendez past run) asleep posted
