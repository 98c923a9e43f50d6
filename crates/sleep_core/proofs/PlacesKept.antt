-- Where the token of each process is, the words and the phases have it: so a sleeper is in one
-- place.
use Rattle.std.proofs.Common.{◌≡◌, ◌≢◌, ◌⊎◌, ◌<◌, ◌==◌, inl, inr, ℕ, true, false, if◌then◌else◌}
use Rattle.std.proofs.Common.{Option, Some, List, [], ◌∷◌, length, get_or, set, sym, ◌∙◌, ap, subst}
use Rattle.std.proofs.Common.{arith}
use Rattle.std.specs.List.{cons_option}
use Rattle.std.proofs.lemmas.Bool.Decides.{eqb_tells}
use Rattle.std.proofs.lemmas.List.{get_or-set_same, get_or-set_other}
use Rattle.sync_base.specs.declared.ids.Pid.{Pid}
use Rattle.sync_base.specs.declared.ids.RendezId.{RendezId}
use Rattle.sync_base.specs.declared.note.NoteSet.{NoteSet}
use Rattle.sync_base.specs.NoteSet.{joined}
use Rattle.sleep_core.specs.declared.phase.Phase.{Phase}
use Rattle.sleep_core.specs.declared.phase.Phase.TheVariants as phase
use Rattle.sleep_core.specs.declared.phase.ProcFlags.{ProcFlags}
use Rattle.sleep_core.specs.State.{State, IsPhaseIn, phase_of, flags_of, no_flags}
use Rattle.sleep_core.specs.Step.{with_phase, with_flags, with_posted, with_returned, world_after}
use Rattle.sleep_core.specs.Runs.{Entry, IsRun, world_of}
use Rattle.sleep_core.specs.History.{Effect, effect_of, history_of}
use Rattle.sleep_core.specs.History.Effect.{Left, Took, Marked, Noted, Drained}
use Rattle.sleep_core.specs.SleepPlaces.{IsHolding}
use Rattle.sleep_core.proofs.CoreInvariant.{Token, token, Core}
use Rattle.sleep_core.proofs.CoreInvariant.Token.{Nowhere, InRendez, WithRaiser, InFlags}
use Rattle.sleep_core.proofs.Moves.{Move, IsWaiting, IsOver, ending_notes}
use Rattle.sleep_core.proofs.Moves.Move.{stays, post_posted, test_leaving, test_asleep, look_woken}
use Rattle.sleep_core.proofs.Moves.Move.{look_leaving, withdraw_out, withdraw_awaiting, clear_ended}
use Rattle.sleep_core.proofs.Moves.Move.{raise_owing, take_nobody, take_holding, mark_marked}
use Rattle.sleep_core.proofs.Moves.Move.{note_noted, drain_notes}
use Rattle.sleep_core.proofs.TableMoves.{table_moves}
use Rattle.sleep_core.proofs.Frames.{same_or_not, fits_at}
use Rattle.sleep_core.proofs.TokenLemmas.{token_elsewhere}
use Rattle.sleep_core.proofs.CoreRuns.{core_of_run}

-- whose token is in its flags has its mark, and whose token a raiser has is held by it
pub record Placed (s : State) (h : List Effect) : Type 0 where
  -- a process whose token is in its flags has its mark set
  pub marked : (pid : ℕ) → token h pid ≡ InFlags → (flags_of s pid).wake ≡ true
  -- a process whose token a raiser has is the one that the raiser's phase names
  pub held : (pid raiser : ℕ) → token h pid ≡ WithRaiser raiser
      → IsHolding pid (phase_of s raiser)

-- who holds a sleeper holds it until it moves itself
holds_still : (s : State) (mover : ℕ) (stage : Phase) (pid raiser : ℕ) → raiser ≢ mover
    → IsHolding pid (phase_of s raiser)
    → IsHolding pid (get_or (set s.phases mover stage) raiser phase.Idle)
holds_still s mover stage pid raiser differ holds =
    subst (IsHolding pid) (sym (get_or-set_other s.phases mover raiser stage phase.Idle differ))
    holds

-- and what it moves from, if it does, is no other phase than that
not_mover : (s : State) (mover : ℕ) (stage : Phase) (pid raiser : ℕ) → phase_of s mover ≡ stage
    → (IsHolding pid stage → ⊥) → IsHolding pid (phase_of s raiser) → raiser ≢ mover
not_mover s mover stage pid raiser at holds_none holds same =
    holds_none (subst (IsHolding pid) (ap (phase_of s) same ∙ at) holds)

-- a step of a process that holds nobody leaves the others as they were held
held_by_others : (s : State) (h : List Effect) (mover : ℕ) (from stage : Phase)
    → phase_of s mover ≡ from → ((pid : ℕ) → IsHolding pid from → ⊥) → Placed s h
    → (pid raiser : ℕ) → token h pid ≡ WithRaiser raiser
    → IsHolding pid (get_or (set s.phases mover stage) raiser phase.Idle)
held_by_others s h mover from stage at holds_none placed pid raiser with_raiser =
    holds_still s mover stage pid raiser
    (not_mover s mover from pid raiser at (holds_none pid) (placed.held pid raiser with_raiser))
    (placed.held pid raiser with_raiser)

-- nobody is held by a process that waits for a mark, or whose sleep is over
waiting_holds_none : (stage : Phase) → IsWaiting stage → (pid : ℕ) → IsHolding pid stage → ⊥
waiting_holds_none (phase.Holding sleeper rendez level) waiting pid holds = waiting
waiting_holds_none stage waiting pid holds = absurd holds

over_holds_none : (stage : Phase) → IsOver stage → (pid : ℕ) → IsHolding pid stage → ⊥
over_holds_none (phase.Holding sleeper rendez level) over pid holds = over
over_holds_none stage over pid holds = absurd holds

-- the raiser of a token
abbrev raiser_of : Token → ℕ
raiser_of (WithRaiser raiser) = raiser
raiser_of place = 0

-- the same where one token moves, which no raiser gets
held_elsewhere : (s : State) (h : List Effect) (mover : ℕ) (from stage : Phase) (subject : ℕ)
    (place : Token) (pid raiser : ℕ)
    → phase_of s mover ≡ from → ((p : ℕ) → IsHolding p from → ⊥) → Placed s h
    → (if subject == pid then place else token h pid) ≡ WithRaiser raiser
    → (place ≡ WithRaiser raiser → ⊥)
    → IsHolding pid (get_or (set s.phases mover stage) raiser phase.Idle)
held_elsewhere s h mover from stage subject place pid raiser at holds_none placed is not_there =
    held_by_others s h mover from stage at holds_none placed pid raiser
    (token_elsewhere subject pid place (token h pid) (WithRaiser raiser) is not_there).1

-- the mark of a process whose token did not move stays
marked_elsewhere : (s : State) (h : List Effect) (subject : ℕ) (place : Token) (pid : ℕ)
    → Placed s h → (if subject == pid then place else token h pid) ≡ InFlags
    → (place ≡ InFlags → ⊥) → (flags_of s pid).wake ≡ true
marked_elsewhere s h subject place pid placed is not_there =
    placed.marked pid (token_elsewhere subject pid place (token h pid) InFlags is not_there).1

-- the flags of another process stay
wake_other : (s : State) (changed : ℕ) (new : ProcFlags) (pid : ℕ) → changed ≢ pid
    → (flags_of s pid).wake ≡ true → (get_or (set s.flags changed new) pid no_flags).wake ≡ true
wake_other s changed new pid differ wake =
    ap (λ (f : ProcFlags). f.wake)
    (get_or-set_other s.flags changed pid new no_flags (λ same. differ (sym same))) ∙ wake

clear_places : (s : State) (h : List Effect) (pid : ℕ) (stage : Phase) (told : Option NoteSet)
    → phase_of s pid ≡ stage → IsOver stage → Placed s h
    → Placed (with_phase (with_flags s pid no_flags) pid phase.Idle) (Left pid told ∷ h)
clear_places s h pid stage told at over placed =
    record {
      marked = λ p is. by_token p
          (token_elsewhere pid p Nowhere (token h p) InFlags is (λ e. cc));
      held = λ p raiser is. held_elsewhere s h pid stage phase.Idle pid Nowhere p raiser at
          (over_holds_none stage over) placed is (λ e. cc);
    }
  where
    by_token : (p : ℕ) → (pid ≢ p) × (token h p ≡ InFlags)
        → (get_or (set s.flags pid no_flags) p no_flags).wake ≡ true
    by_token p old = wake_other s pid no_flags p old.0 (placed.marked p old.1)

take_holding_places : (s : State) (h : List Effect) (pid : ℕ) (sleeper : Pid) (rendez : RendezId)
    (level : ℕ)
    → pid < length s.phases → phase_of s pid ≡ phase.Owing rendez level → Placed s h
    → Placed (with_phase (with_posted s rendez.0 0) pid (phase.Holding sleeper rendez level))
    (Took pid sleeper.0 ∷ h)
take_holding_places s h pid sleeper rendez level in_range at placed =
    record {
      marked = λ p is. marked_elsewhere s h sleeper.0 (WithRaiser pid) p placed is (λ e. cc);
      held = λ p raiser is. by_token p raiser is (eqb_tells sleeper.0 p);
    }
  where
    taken : Phase
    taken = phase.Holding sleeper rendez level

    by_token : (p raiser : ℕ)
        → (if sleeper.0 == p then WithRaiser pid else token h p) ≡ WithRaiser raiser
        → (((sleeper.0 == p) ≡ true) × (sleeper.0 ≡ p))
        ⊎ (((sleeper.0 == p) ≡ false) × (sleeper.0 ≢ p))
        → IsHolding p (get_or (set s.phases pid taken) raiser phase.Idle)
    by_token p raiser is (inl here) =
        let with_raiser : WithRaiser pid ≡ WithRaiser raiser
        = sym (ap (λ b. if b then WithRaiser pid else token h p) here.0) ∙ is in
        let same : pid ≡ raiser = ap raiser_of with_raiser in
        subst (λ q. IsHolding p (get_or (set s.phases pid taken) q phase.Idle)) same
        (subst (IsHolding p) (sym (get_or-set_same s.phases pid taken phase.Idle in_range)) here.1)
    by_token p raiser is (inr there) =
        held_by_others s h pid (phase.Owing rendez level) taken at (λ q holds. holds) placed p
        raiser (sym (ap (λ b. if b then WithRaiser pid else token h p) there.0) ∙ is)

mark_places : (s : State) (h : List Effect) (pid : ℕ) (sleeper : Pid) (rendez : RendezId)
    (level : ℕ)
    → sleeper.0 < length s.flags → phase_of s pid ≡ phase.Holding sleeper rendez level
    → Placed s h
    → Placed (with_returned (with_phase
    (with_flags s sleeper.0 (record { wake = true; notes = (flags_of s sleeper.0).notes })) pid
    phase.Idle) (Some (record { rendez = rendez.0; level = level }))) (Marked pid sleeper.0 ∷ h)
mark_places s h pid sleeper rendez level has_flags at placed =
    record {
      marked = λ p is. by_mark p is (eqb_tells sleeper.0 p);
      held = λ p raiser is. by_token p raiser
          (token_elsewhere sleeper.0 p InFlags (token h p) (WithRaiser raiser) is (λ e. cc));
    }
  where
    mark : ProcFlags
    mark = record { wake = true; notes = (flags_of s sleeper.0).notes }

    by_mark : (p : ℕ) → (if sleeper.0 == p then InFlags else token h p) ≡ InFlags
        → (((sleeper.0 == p) ≡ true) × (sleeper.0 ≡ p))
        ⊎ (((sleeper.0 == p) ≡ false) × (sleeper.0 ≢ p))
        → (get_or (set s.flags sleeper.0 mark) p no_flags).wake ≡ true
    by_mark p is (inl here) =
        subst (λ q. (get_or (set s.flags sleeper.0 mark) q no_flags).wake ≡ true) here.1
        (ap (λ (f : ProcFlags). f.wake) (get_or-set_same s.flags sleeper.0 mark no_flags has_flags))
    by_mark p is (inr there) =
        wake_other s sleeper.0 mark p there.1 (placed.marked p
        (sym (ap (λ b. if b then InFlags else token h p) there.0) ∙ is))

    -- who is held by this raiser is the one that it marks
    by_token : (p raiser : ℕ) → (sleeper.0 ≢ p) × (token h p ≡ WithRaiser raiser)
        → IsHolding p (get_or (set s.phases pid phase.Idle) raiser phase.Idle)
    by_token p raiser old =
        holds_still s pid phase.Idle p raiser
        (not_mover s pid (phase.Holding sleeper rendez level) p raiser at old.0
        (placed.held p raiser old.1))
        (placed.held p raiser old.1)

note_places : (s : State) (h : List Effect) (pid : ℕ) (new : NoteSet) → pid < length s.flags
    → Placed s h
    → Placed (with_flags s pid
    (record { wake = (flags_of s pid).wake; notes = joined (flags_of s pid).notes new }))
    (Noted pid new ∷ h)
note_places s h pid new has_flags placed =
    record {
      marked = λ p is. by_place p (placed.marked p is) (same_or_not p pid);
      held =
          placed.held;
    }
  where
    noted : ProcFlags
    noted = record { wake = (flags_of s pid).wake; notes = joined (flags_of s pid).notes new }

    by_place : (p : ℕ) → (flags_of s p).wake ≡ true → (p ≡ pid) ⊎ (p ≢ pid)
        → (get_or (set s.flags pid noted) p no_flags).wake ≡ true
    by_place p wake (inl same) =
        ap (λ q. (get_or (set s.flags pid noted) q no_flags).wake) same
        ∙ (ap (λ (f : ProcFlags). f.wake) (get_or-set_same s.flags pid noted no_flags has_flags)
        ∙ (ap (λ q. (flags_of s q).wake) (sym same) ∙ wake))
    by_place p wake (inr differ) = wake_other s pid noted p (λ same. differ (sym same)) wake

drain_places : (s : State) (h : List Effect) (pid : ℕ) (told : NoteSet)
    → token h pid ≡ Nowhere → Placed s h
    → Placed (with_flags s pid no_flags) (Drained pid told ∷ h)
drain_places s h pid told nowhere placed =
    record {
      marked = λ p is. wake_other s pid no_flags p (differs p is) (placed.marked p is);
      held = placed.held;
    }
  where
    differs : (p : ℕ) → token h p ≡ InFlags → pid ≢ p
    differs p is same = absurd (clash (sym nowhere ∙ (ap (token h) same ∙ is)))
      where
        clash : Nowhere ≡ InFlags → ⊥
        clash e = cc

-- every move keeps the places
places_kept : (s : State) (h : List Effect) {effect : Option Effect} {after : State}
    → Move s effect after → Core s h → Placed s h → Placed after (cons_option effect h)
places_kept s h stays core placed = placed
places_kept s h (post_posted {pid = pid} {rendez = rendez} {threshold = threshold} in_range idle
    there free) core
    placed = record {
      marked = λ p is. marked_elsewhere s h pid (InRendez rendez.0) p placed is (λ e. cc);
      held = λ p raiser is. held_elsewhere s h pid phase.Idle (phase.Posted rendez threshold) pid
          (InRendez rendez.0) p raiser idle (λ q holds. holds) placed is (λ e. cc);
    }
places_kept s h (test_leaving {pid = pid} {rendez = rendez} {threshold = threshold} in_range at)
    core placed =
    record {
      marked = placed.marked;
      held = held_by_others s h pid (phase.Posted rendez threshold) (phase.Leaving rendez) at
          (λ q holds. holds) placed;
    }
places_kept s h (test_asleep {pid = pid} {rendez = rendez} {threshold = threshold} in_range at low)
    core placed =
    record {
      marked = placed.marked;
      held = held_by_others s h pid (phase.Posted rendez threshold) (phase.Asleep rendez threshold)
          at
          (λ q holds. holds) placed;
    }
places_kept s h (look_woken {pid = pid} {stage = stage} in_range at waiting wake) core placed =
    record {
      marked = placed.marked;
      held = held_by_others s h pid stage phase.Woken at (waiting_holds_none stage waiting) placed;
    }
places_kept s h (look_leaving {pid = pid} {rendez = rendez} {threshold = threshold} in_range at
    noted) core
    placed = record {
      marked = placed.marked;
      held = held_by_others s h pid (phase.Asleep rendez threshold) (phase.Leaving rendez) at
          (λ q holds. holds) placed;
    }
places_kept s h (withdraw_out {pid = pid} {rendez = rendez} in_range at mine) core placed = record {
  marked = λ p is. marked_elsewhere s h pid Nowhere p placed is (λ e. cc);
  held = λ p raiser is. held_elsewhere s h pid (phase.Leaving rendez) phase.Out pid Nowhere p raiser
      at (λ q holds. holds) placed is (λ e. cc);
}
places_kept s h (withdraw_awaiting {pid = pid} {rendez = rendez} in_range at other) core placed =
    record {
      marked = placed.marked;
      held = held_by_others s h pid (phase.Leaving rendez) phase.Awaiting at (λ q holds. holds)
          placed;
    }
places_kept s h (clear_ended {pid = pid} {stage = stage} in_range at over) core placed =
    clear_places s h pid stage (ending_notes (flags_of s pid).notes) at over placed
places_kept s h (raise_owing {pid = pid} {rendez = rendez} {level = level} in_range idle there) core
    placed = record {
      marked = placed.marked;
      held = held_by_others s h pid phase.Idle (phase.Owing rendez level) idle (λ q holds. holds)
          placed;
    }
places_kept s h (take_nobody {pid = pid} {rendez = rendez} {level = level} in_range at free) core
    placed
    = record {
      marked = placed.marked;
      held = held_by_others s h pid (phase.Owing rendez level) phase.Idle at (λ q holds. holds)
          placed;
    }
places_kept s h (take_holding {pid = pid} {sleeper = sleeper} {rendez = rendez} {level = level}
    in_range at
    posted) core placed =
    take_holding_places s h pid sleeper rendez level in_range at placed
places_kept s h (mark_marked {pid = pid} {sleeper = sleeper} {rendez = rendez} {level = level}
    in_range at)
    core placed =
    let whole = core.sound.whole in
    let there = subst (IsPhaseIn (length s.phases) (length s.posted)) at (whole.phases pid) in
    mark_places s h pid sleeper rendez level (omega (arith, there.0, whole.flags)) at placed
places_kept s h (note_noted {pid = pid} {new = new} in_range) core placed =
    note_places s h pid new (omega (arith, core.sound.whole.flags)) placed
places_kept s h (drain_notes {pid = pid} in_range idle) core placed =
    drain_places s h pid (flags_of s pid).notes (fits_at s h pid phase.Idle core idle) placed

-- so does every run
pub places_of_run : (procs rendez : ℕ) (past : List Entry) → IsRun procs rendez past
    → Placed (world_of procs rendez past) (history_of past)
places_of_run procs rendez [] run =
    record { marked = λ pid is. absurd cc; held = λ pid raiser is. absurd cc }
places_of_run procs rendez (entry ∷ past) run =
    subst (λ told. Placed (world_after (world_of procs rendez past) entry.event)
    (cons_option (effect_of told entry.event) (history_of past))) (sym run.1.answered)
    (places_kept (world_of procs rendez past) (history_of past)
    (table_moves (world_of procs rendez past) entry.event)
    (core_of_run procs rendez past run.0) (places_of_run procs rendez past run.0))
