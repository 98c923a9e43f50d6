-- The steps of a sleep keep what every run keeps.
use Rattle.std.proofs.Common.{◌≡◌, ◌≢◌, ◌⊎◌, ◌<◌, ◌≤◌, ◌+◌, inl, inr, ℕ, true, List, ◌∷◌, length}
use Rattle.std.proofs.Common.{refl, sym, ◌∙◌, ap, subst, arith}
use Rattle.std.proofs.lemmas.List.{length-set, get_or-set_same, get_or-set_other}
use Rattle.sync_base.specs.declared.ids.RendezId.{RendezId}
use Rattle.sleep_core.specs.declared.phase.Phase.{Phase}
use Rattle.sleep_core.specs.declared.phase.Phase.TheVariants as phase
use Rattle.sleep_core.specs.State.{State, IsSound, IsPhaseIn, phase_of, flags_of, posted_of}
use Rattle.sleep_core.specs.State.{level_of, returned_of}
use Rattle.sleep_core.specs.Table.{has_notes}
use Rattle.sleep_core.specs.Step.{with_phase, with_posted}
use Rattle.sleep_core.specs.History.{Effect}
use Rattle.sleep_core.specs.History.Effect.{Began, Passed, Fell, Roused}
use Rattle.sleep_core.specs.Promises.{IsStillIn, HasFallen}
use Rattle.sleep_core.proofs.ListLemmas.{get_or-set_cases}
use Rattle.sleep_core.proofs.Soundness.{IsSound-with_phase, IsSound-with_posted}
use Rattle.sleep_core.proofs.CoreInvariant.{Token, token, IsAway, IsNear, Fits, IsAtThreshold}
use Rattle.sleep_core.proofs.CoreInvariant.{IsShown, Core}
use Rattle.sleep_core.proofs.CoreInvariant.Token.{Nowhere, InRendez, WithRaiser, InFlags}
use Rattle.sleep_core.proofs.TokenLemmas.{posted_by_token}
use Rattle.sleep_core.proofs.Frames.{if_same, if_other, apart, threshold_kept, fits_at, fits_each}
use Rattle.sleep_core.proofs.Frames.{Frame, frame_past, frame_quiet, fits_kept}

-- what a phase names is there
has_rendez_at : (s : State) (pid : ℕ) (stage : Phase) → IsSound s → phase_of s pid ≡ stage
    → IsPhaseIn (length s.phases) (length s.posted) stage
has_rendez_at s pid stage sound at =
    subst (IsPhaseIn (length s.phases) (length s.posted)) at (sound.whole.phases pid)

-- a post: the process is in the Rendez
pub post_keeps : (s : State) (h : List Effect) (pid : ℕ) (rendez : RendezId) (threshold : ℕ)
    → pid < length s.phases → phase_of s pid ≡ phase.Idle → rendez.0 < length s.posted
    → posted_of s rendez.0 ≡ 0 → Core s h
    → Core (with_phase (with_posted s rendez.0 (pid + 1)) pid (phase.Posted rendez threshold))
    (Began pid rendez.0 threshold ∷ h)
post_keeps s h pid rendez threshold in_range idle has_rendez free core =
    record {
      sound = IsSound-with_phase posting pid (phase.Posted rendez threshold)
          (IsSound-with_posted s rendez.0 (pid + 1) core.sound (omega arith))
          (rw (length-set s.posted rendez.0 (pid + 1)) has_rendez);
      fits = fits_each posting after later pid (phase.Posted rendez threshold) in_range own others;
      posted = λ r p at. by_place r p at (get_or-set_cases s.posted rendez.0 (pid + 1) r 0);
      marked = λ p wake. if_other pid p (InRendez rendez.0) (token h p)
          (apart h p pid InFlags Nowhere (core.marked p wake) nowhere (λ e. cc))
          ∙ core.marked p wake;
      low = core.low;
      returned = core.returned;
      still_in = by_sleep;
      fallen = core.fallen;
      notes = core.notes;
      marks_due = core.marks_due;
      notes_right = core.notes_right;
      caused = core.caused;
    }
  where
    posting : State
    posting = with_posted s rendez.0 (pid + 1)

    after : State
    after = with_phase posting pid (phase.Posted rendez threshold)

    later : List Effect
    later = Began pid rendez.0 threshold ∷ h

    nowhere : token h pid ≡ Nowhere
    nowhere = fits_at s h pid phase.Idle core idle

    own : Fits after later pid (phase.Posted rendez threshold)
    own = record {
      near = subst (IsNear rendez.0) (sym (if_same pid pid (InRendez rendez.0) (token h pid) refl))
          refl;
      stays = λ e. inl (refl, refl, refl);
    }

    others : (p : ℕ) → p ≢ pid → Fits after later p (phase_of s p)
    others p differ = fits_kept s after h later p frame (phase_of s p) (core.fits p)
      where
        frame : Frame s after h later p
        frame =
            frame_past s after h (Began pid rendez.0 threshold) p (λ same. differ (sym same))
            (λ q moves with_raiser. apart h q pid (WithRaiser p) Nowhere with_raiser nowhere (λ e.
            cc)
            (sym moves)) tt (λ e. e) (λ r. omega arith)

    -- whoever is posted now was posted before, or is this process
    by_place : (r p : ℕ) → posted_of after r ≡ p + 1
        → ((r ≡ rendez.0) × (posted_of after r ≡ pid + 1)) ⊎ (posted_of after r ≡ posted_of s r)
        → token later p ≡ InRendez r
    by_place r p at (inl here) =
        if_same pid p (InRendez rendez.0) (token h p) (omega (arith, here.1))
        ∙ ap InRendez (sym here.0)
    by_place r p at (inr there) =
        let old = core.posted r p (sym there ∙ at) in
        if_other pid p (InRendez rendez.0) (token h p)
        (apart h p pid (InRendez r) Nowhere old nowhere (λ e. cc)) ∙ old

    shown : IsShown after pid rendez.0 threshold
    shown = record {
      posted = get_or-set_same s.posted rendez.0 (pid + 1) 0 has_rendez;
      at_threshold = threshold_kept s pid (phase.Posted rendez threshold) pid threshold (λ same.
          refl)
          (subst (IsAtThreshold threshold) (sym idle) tt);
    }

    -- the sleep is the one that began, or one that went on
    by_sleep : (p r v : ℕ) → ((pid ≡ p) × (rendez.0 ≡ r) × (threshold ≡ v)) ⊎ IsStillIn h p r v
        → IsShown after p r v
    by_sleep p r v (inl new) =
        subst (λ q. IsShown after q r v) new.0
        (subst (λ q. IsShown after pid q v) new.1
        (subst (IsShown after pid rendez.0) new.2 shown))
    by_sleep p r v (inr old) =
        let was = core.still_in p r v old in
        let differ : p ≢ pid = apart h p pid (InRendez r) Nowhere (core.posted r p was.posted)
        nowhere (λ e. cc) in
        let elsewhere : r ≢ rendez.0 = λ same. absurd
        (omega (arith, ap (posted_of s) same, was.posted)) in
        record {
          posted = get_or-set_other s.posted rendez.0 r (pid + 1) 0 elsewhere ∙ was.posted;
          at_threshold = threshold_kept s pid (phase.Posted rendez threshold) p v (λ same. absurd
              (differ same))
              was.at_threshold;
        }

-- a test that finds the level above the threshold
pub test_leaving_keeps : (s : State) (h : List Effect) (pid : ℕ) (rendez : RendezId) (threshold : ℕ)
    → pid < length s.phases → phase_of s pid ≡ phase.Posted rendez threshold → Core s h
    → Core (with_phase s pid (phase.Leaving rendez)) (Passed pid ∷ h)
test_leaving_keeps s h pid rendez threshold in_range at core =
    record {
      sound = IsSound-with_phase s pid (phase.Leaving rendez) core.sound
          (has_rendez_at s pid (phase.Posted rendez threshold) core.sound at);
      fits = fits_each s after later pid (phase.Leaving rendez) in_range own others;
      posted = core.posted;
      marked = core.marked;
      low = core.low;
      returned = core.returned;
      still_in = λ p r v still. record {
        posted = (core.still_in p r v still).posted;
        at_threshold = threshold_kept s pid (phase.Leaving rendez) p v (λ same. tt)
            (core.still_in p r v still).at_threshold;
      };
      fallen = core.fallen;
      notes = core.notes;
      marks_due = core.marks_due;
      notes_right = core.notes_right;
      caused = core.caused;
    }
  where
    after : State
    after = with_phase s pid (phase.Leaving rendez)

    later : List Effect
    later = Passed pid ∷ h

    fit : Fits s h pid (phase.Posted rendez threshold)
    fit = fits_at s h pid (phase.Posted rendez threshold) core at

    own : Fits after later pid (phase.Leaving rendez)
    own = record { place = fit.near; may_leave = inl (inl refl) }

    others : (p : ℕ) → p ≢ pid → Fits after later p (phase_of s p)
    others p differ = fits_kept s after h later p frame (phase_of s p) (core.fits p)
      where
        frame : Frame s after h later p
        frame =
            frame_past s after h (Passed pid) p (λ about. about) (λ q moves with_raiser. moves) tt
            (λ e. e) (λ r. omega arith)

-- a test that does not: the process falls asleep
pub test_asleep_keeps : (s : State) (h : List Effect) (pid : ℕ) (rendez : RendezId) (threshold : ℕ)
    → pid < length s.phases → phase_of s pid ≡ phase.Posted rendez threshold
    → level_of s rendez.0 ≤ threshold → Core s h
    → Core (with_phase s pid (phase.Asleep rendez threshold)) (Fell pid ∷ h)
test_asleep_keeps s h pid rendez threshold in_range at low core =
    record {
      sound = IsSound-with_phase s pid (phase.Asleep rendez threshold) core.sound
          (has_rendez_at s pid (phase.Posted rendez threshold) core.sound at);
      fits = fits_each s after later pid (phase.Asleep rendez threshold) in_range own others;
      posted = core.posted;
      marked = core.marked;
      low = core.low;
      returned = core.returned;
      still_in = λ p r v still. record {
        posted = (core.still_in p r v still).posted;
        at_threshold = threshold_kept s pid (phase.Asleep rendez threshold) p v
            (λ same. own_threshold p v same (core.still_in p r v still).at_threshold)
            (core.still_in p r v still).at_threshold;
      };
      fallen = by_fall;
      notes = core.notes;
      marks_due = core.marks_due;
      notes_right = core.notes_right;
      caused = core.caused;
    }
  where
    after : State
    after = with_phase s pid (phase.Asleep rendez threshold)

    later : List Effect
    later = Fell pid ∷ h

    fit : Fits s h pid (phase.Posted rendez threshold)
    fit = fits_at s h pid (phase.Posted rendez threshold) core at

    own_threshold : (p v : ℕ) → p ≡ pid → IsAtThreshold v (phase_of s p) → threshold ≡ v
    own_threshold p v same threshold_is = subst (IsAtThreshold v) (ap (phase_of s) same ∙ at)
        threshold_is

    -- who falls asleep now sleeps in the Rendez and below the threshold that were tested
    just_fell : (x r v : ℕ) → (pid ≡ x) × IsStillIn h x r v → level_of s r ≤ v
    just_fell x r v fell =
        let was = core.still_in x r v fell.1 in
        let here : token h pid ≡ InRendez r = ap (token h) fell.0 ∙ core.posted r x was.posted in
        let same_rendez : r ≡ rendez.0 = subst (IsNear rendez.0) here fit.near in
        let same_threshold : threshold ≡ v = own_threshold x v (sym fell.0) was.at_threshold in
        omega (arith, ap (level_of s) same_rendez, same_threshold, low)

    own : Fits after later pid (phase.Asleep rendez threshold)
    own = record { near = fit.near; stays = λ e. inl (refl, fit.stays e) }

    newly_fallen : (r x v : ℕ) → ((pid ≡ x) × IsStillIn h x r v) ⊎ HasFallen h x r v
        → HasFallen h x r v ⊎ (level_of s r ≤ v)
    newly_fallen r x v (inl new) = inr (just_fell x r v new)
    newly_fallen r x v (inr old) = inl old

    by_fall : (x r v : ℕ) → ((pid ≡ x) × IsStillIn h x r v) ⊎ HasFallen h x r v
        → returned_of s r ≤ v
    by_fall x r v (inl new) = omega (arith, core.low r, just_fell x r v new)
    by_fall x r v (inr old) = core.fallen x r v old

    others : (p : ℕ) → p ≢ pid → Fits after later p (phase_of s p)
    others p differ = fits_kept s after h later p frame (phase_of s p) (core.fits p)
      where
        frame : Frame s after h later p
        frame =
            frame_past s after h (Fell pid) p (λ about. about) (λ q moves with_raiser. moves)
            (λ r x v fell. just_fell x r v fell) (λ e. e) (λ r. omega arith)

-- a look that finds the mark
pub look_woken_keeps : (s : State) (h : List Effect) (pid : ℕ) → pid < length s.phases
    → (flags_of s pid).wake ≡ true → Core s h → Core (with_phase s pid phase.Woken) (Roused pid ∷ h)
look_woken_keeps s h pid in_range wake core =
    record {
      sound = IsSound-with_phase s pid phase.Woken core.sound tt;
      fits = fits_each s after later pid phase.Woken in_range (core.marked pid wake, inl refl)
          others;
      posted = core.posted;
      marked = core.marked;
      low = core.low;
      returned = core.returned;
      still_in = λ p r v still. record {
        posted = (core.still_in p r v still).posted;
        at_threshold = threshold_kept s pid phase.Woken p v (λ same. tt)
            (core.still_in p r v still).at_threshold;
      };
      fallen = core.fallen;
      notes = core.notes;
      marks_due = core.marks_due;
      notes_right = core.notes_right;
      caused = core.caused;
    }
  where
    after : State
    after = with_phase s pid phase.Woken

    later : List Effect
    later = Roused pid ∷ h

    others : (p : ℕ) → p ≢ pid → Fits after later p (phase_of s p)
    others p differ = fits_kept s after h later p frame (phase_of s p) (core.fits p)
      where
        frame : Frame s after h later p
        frame =
            frame_past s after h (Roused pid) p (λ about. about) (λ q moves with_raiser. moves) tt
            (λ e. e) (λ r. omega arith)

-- a phase that changes with nothing done
quietly_keeps : (s : State) (h : List Effect) (pid : ℕ) (stage : Phase) → pid < length s.phases
    → IsPhaseIn (length s.phases) (length s.posted) stage → Fits s h pid stage
    → ((threshold : ℕ) → IsAtThreshold threshold stage) → Core s h → Core (with_phase s pid stage) h
quietly_keeps s h pid stage in_range there own no_threshold core =
    record {
      sound = IsSound-with_phase s pid stage core.sound there;
      fits = fits_each s after h pid stage in_range (same_fit pid stage own)
          (λ p differ. same_fit p (phase_of s p) (core.fits p));
      posted = core.posted;
      marked = core.marked;
      low = core.low;
      returned = core.returned;
      still_in = λ p r v still. record {
        posted = (core.still_in p r v still).posted;
        at_threshold = threshold_kept s pid stage p v (λ same. no_threshold v)
            (core.still_in p r v still).at_threshold;
      };
      fallen = core.fallen;
      notes = core.notes;
      marks_due = core.marks_due;
      notes_right = core.notes_right;
      caused = core.caused;
    }
  where
    after : State
    after = with_phase s pid stage

    same_fit : (p : ℕ) (at : Phase) → Fits s h p at → Fits after h p at
    same_fit p at fit = fits_kept s after h h p frame at fit
      where
        frame : Frame s after h h p
        frame =
            frame_quiet s after h p refl refl

-- a look that finds notes
pub look_leaving_keeps : (s : State) (h : List Effect) (pid : ℕ) (rendez : RendezId) (threshold : ℕ)
    → pid < length s.phases → phase_of s pid ≡ phase.Asleep rendez threshold
    → has_notes (flags_of s pid).notes ≡ true → Core s h
    → Core (with_phase s pid (phase.Leaving rendez)) h
look_leaving_keeps s h pid rendez threshold in_range at noted core =
    quietly_keeps s h pid (phase.Leaving rendez) in_range
    (has_rendez_at s pid (phase.Asleep rendez threshold) core.sound at)
    (record { place = fit.near; may_leave = inr noted }) (λ v. tt) core
  where
    fit : Fits s h pid (phase.Asleep rendez threshold)
    fit = fits_at s h pid (phase.Asleep rendez threshold) core at

-- who is in the Rendez is posted there, so who is near it and is not posted is away
away_unless_posted : (rendez : ℕ) (place : Token) → IsNear rendez place
    → (place ≡ InRendez rendez → ⊥) → IsAway place
away_unless_posted rendez Nowhere near not_there = absurd near
away_unless_posted rendez (InRendez other) near not_there = absurd (not_there (ap InRendez near))
away_unless_posted rendez (WithRaiser raiser) near not_there = tt
away_unless_posted rendez InFlags near not_there = tt

-- a withdrawal of a process that was taken: its mark will come
pub withdraw_awaiting_keeps : (s : State) (h : List Effect) (pid : ℕ) (rendez : RendezId)
    → pid < length s.phases → phase_of s pid ≡ phase.Leaving rendez
    → posted_of s rendez.0 ≢ pid + 1 → Core s h → Core (with_phase s pid phase.Awaiting) h
withdraw_awaiting_keeps s h pid rendez in_range at other core =
    quietly_keeps s h pid phase.Awaiting in_range tt away (λ v. tt) core
  where
    fit : Fits s h pid (phase.Leaving rendez)
    fit = fits_at s h pid (phase.Leaving rendez) core at

    not_there : token h pid ≡ InRendez rendez.0 → ⊥
    not_there there = other (posted_by_token s h pid rendez.0 core there)

    away : IsAway (token h pid)
    away = away_unless_posted rendez.0 (token h pid) fit.place not_there
