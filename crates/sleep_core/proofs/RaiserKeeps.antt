-- The steps of a wakeup keep what every run keeps.
use Rattle.std.proofs.Common.{◌≡◌, ◌≢◌, ◌⊎◌, ◌<◌, ◌≤◌, ◌+◌, inl, inr, ℕ, max, true, Some, List, []}
use Rattle.std.proofs.Common.{◌∷◌, length, refl, sym, ◌∙◌, ap, subst, arith}
use Rattle.std.proofs.lemmas.List.{length-set, get_or-set_same, get_or-set_other}
use Rattle.std.proofs.lemmas.Option.{same_Some}
use Rattle.sync_base.specs.declared.ids.Pid.{Pid}
use Rattle.sync_base.specs.declared.ids.RendezId.{RendezId}
use Rattle.sleep_core.specs.declared.phase.Phase.TheVariants as phase
use Rattle.sleep_core.specs.declared.phase.ProcFlags.{ProcFlags}
use Rattle.sleep_core.specs.State.{State, IsPhaseIn, phase_of, flags_of, posted_of, level_of}
use Rattle.sleep_core.specs.State.{returned_of, no_flags}
use Rattle.sleep_core.specs.Table.{Wakeup, has_notes}
use Rattle.sleep_core.specs.Step.{with_phase, with_flags, with_posted, with_level, with_returned}
use Rattle.sleep_core.specs.History.{Effect, begun_wakeup, HasReturned}
use Rattle.sleep_core.specs.History.Effect.{Began, Passed, Fell, Roused, Withdrew, Left, Raised}
use Rattle.sleep_core.specs.History.Effect.{Missed, Took, Marked, Noted, Drained}
use Rattle.sleep_core.specs.Promises.{IsStillIn, HasFallen}
use Rattle.sleep_core.proofs.ListLemmas.{get_or-set_cases}
use Rattle.sleep_core.proofs.Soundness.{IsSound-with_phase, IsSound-with_flags, IsSound-with_posted}
use Rattle.sleep_core.proofs.Soundness.{IsSound-with_level, IsSound-with_returned}
use Rattle.sleep_core.proofs.CoreInvariant.{token, IsAway, Raises, Holds, Fits, IsShown, Core}
use Rattle.sleep_core.proofs.CoreInvariant.Token.{Nowhere, InRendez, WithRaiser, InFlags}
use Rattle.sleep_core.proofs.Frames.{if_same, if_other, same_or_not, apart, threshold_kept, fits_at}
use Rattle.sleep_core.proofs.Frames.{fits_each, Frame, frame_past, fits_kept, fits_moved}

-- who has fallen asleep is still in
pub still_in_from_fallen : (h : List Effect) (pid rendez threshold : ℕ) → HasFallen h pid rendez
    threshold
    → IsStillIn h pid rendez threshold
still_in_from_fallen [] pid rendez threshold fell = fell
still_in_from_fallen (Fell by ∷ h) pid rendez threshold fell =
    by_fall fell (still_in_from_fallen h pid rendez threshold)
  where
    by_fall : ((by ≡ pid) × IsStillIn h pid rendez threshold) ⊎ HasFallen h pid rendez threshold
        → (HasFallen h pid rendez threshold → IsStillIn h pid rendez threshold)
        → IsStillIn h pid rendez threshold
    by_fall (inl new) before = new.1
    by_fall (inr old) before = before old
still_in_from_fallen (Began by r v ∷ h) pid rendez threshold fell =
    inr (still_in_from_fallen h pid rendez threshold fell)
still_in_from_fallen (Withdrew by ∷ h) pid rendez threshold fell =
    (fell.0, still_in_from_fallen h pid rendez threshold fell.1)
still_in_from_fallen (Took by sleeper ∷ h) pid rendez threshold fell =
    (fell.0, still_in_from_fallen h pid rendez threshold fell.1)
still_in_from_fallen (Left by notes ∷ h) pid rendez threshold fell =
    (fell.0, still_in_from_fallen h pid rendez threshold fell.1)
still_in_from_fallen (Passed by ∷ h) pid rendez threshold fell =
    still_in_from_fallen h pid rendez threshold fell
still_in_from_fallen (Roused by ∷ h) pid rendez threshold fell =
    still_in_from_fallen h pid rendez threshold fell
still_in_from_fallen (Raised by r v ∷ h) pid rendez threshold fell =
    still_in_from_fallen h pid rendez threshold fell
still_in_from_fallen (Missed by ∷ h) pid rendez threshold fell =
    still_in_from_fallen h pid rendez threshold fell
still_in_from_fallen (Marked by sleeper ∷ h) pid rendez threshold fell =
    still_in_from_fallen h pid rendez threshold fell
still_in_from_fallen (Noted by notes ∷ h) pid rendez threshold fell =
    still_in_from_fallen h pid rendez threshold fell
still_in_from_fallen (Drained by notes ∷ h) pid rendez threshold fell =
    still_in_from_fallen h pid rendez threshold fell

-- a raise: the level becomes at least this one
pub raise_keeps : (s : State) (h : List Effect) (pid : ℕ) (rendez : RendezId) (level : ℕ)
    → pid < length s.phases → phase_of s pid ≡ phase.Idle → rendez.0 < length s.levels → Core s h
    → Core (with_phase (with_level s rendez.0 (max (level_of s rendez.0) level)) pid
    (phase.Owing rendez level)) (Raised pid rendez.0 level ∷ h)
raise_keeps s h pid rendez level in_range idle has_level core =
    record {
      sound = IsSound-with_phase raised pid (phase.Owing rendez level)
          (IsSound-with_level s rendez.0 (max (level_of s rendez.0) level) core.sound)
          (omega (arith, core.sound.whole.levels));
      fits = fits_each raised after later pid (phase.Owing rendez level) in_range own others;
      posted = core.posted;
      marked = core.marked;
      low = λ r. omega (arith, core.low r, grows r);
      returned = core.returned;
      still_in = λ p r v still. record {
        posted = (core.still_in p r v still).posted;
        at_threshold = threshold_kept s pid (phase.Owing rendez level) p v (λ same. tt)
            (core.still_in p r v still).at_threshold;
      };
      fallen = core.fallen;
      notes = core.notes;
      marks_due = core.marks_due;
      notes_right = core.notes_right;
      caused = core.caused;
    }
  where
    raised : State
    raised = with_level s rendez.0 (max (level_of s rendez.0) level)

    after : State
    after = with_phase raised pid (phase.Owing rendez level)

    later : List Effect
    later = Raised pid rendez.0 level ∷ h

    grows : (r : ℕ) → level_of s r ≤ level_of after r
    grows r = by_place (get_or-set_cases s.levels rendez.0 (max (level_of s rendez.0) level) r 0)
      where
        by_place : ((r ≡ rendez.0) × (level_of after r ≡ max (level_of s rendez.0) level))
            ⊎ (level_of after r ≡ level_of s r)
            → level_of s r ≤ level_of after r
        by_place (inl here) = omega (arith, ap (level_of s) here.0, here.1)
        by_place (inr there) = omega arith

    own : Fits after later pid (phase.Owing rendez level)
    own = record {
      nowhere = fits_at s h pid phase.Idle core idle;
      begun = if_same pid pid (Some (record { rendez = rendez.0; level = level }))
          (begun_wakeup pid h) refl;
      low = omega
          (arith, get_or-set_same s.levels rendez.0 (max (level_of s rendez.0) level) 0 has_level);
    }

    others : (p : ℕ) → p ≢ pid → Fits after later p (phase_of s p)
    others p differ = fits_kept s after h later p frame (phase_of s p) (core.fits p)
      where
        frame : Frame s after h later p
        frame =
            frame_past s after h (Raised pid rendez.0 level) p (λ same. differ (sym same))
            (λ q moves with_raiser. moves) tt (λ e. e) grows

-- a returned level never falls
pub returned_grows : (s : State) (call : Wakeup) (r : ℕ)
    → returned_of s r ≤ returned_of (with_returned s (Some call)) r
returned_grows s call r =
    by_place
    (get_or-set_cases s.returned call.rendez (max (returned_of s call.rendez) call.level) r 0)
  where
    by_place : ((r ≡ call.rendez)
        ×
        (returned_of (with_returned s (Some call)) r
        ≡ max (returned_of s call.rendez) call.level))
        ⊎ (returned_of (with_returned s (Some call)) r ≡ returned_of s r)
        → returned_of s r ≤ returned_of (with_returned s (Some call)) r
    by_place (inl here) = omega (arith, ap (returned_of s) here.0, here.1)
    by_place (inr there) = omega arith

-- a bound on the returned level of a Rendez, that the call's level keeps where it is of that Rendez
pub returned_at_most : (s : State) (call : Wakeup) (r bound : ℕ) → returned_of s r ≤ bound
    → (r ≡ call.rendez → call.level ≤ bound) → returned_of (with_returned s (Some call)) r ≤ bound
returned_at_most s call r bound old own =
    by_place
    (get_or-set_cases s.returned call.rendez (max (returned_of s call.rendez) call.level) r 0)
  where
    by_place : ((r ≡ call.rendez)
        ×
        (returned_of (with_returned s (Some call)) r
        ≡ max (returned_of s call.rendez) call.level))
        ⊎ (returned_of (with_returned s (Some call)) r ≡ returned_of s r)
        → returned_of (with_returned s (Some call)) r ≤ bound
    by_place (inl here) = omega (arith, ap (returned_of s) here.0, here.1, own here.0)
    by_place (inr there) = omega arith

-- the wakeup that returns is counted
pub returned_counts : (s : State) (h : List Effect) (pid : ℕ) (call : Wakeup)
    → call.rendez < length s.returned → begun_wakeup pid h ≡ Some call → (rendez level : ℕ)
    → begun_wakeup pid h ≡ Some (record { rendez = rendez; level = level })
    → level ≤ returned_of (with_returned s (Some call)) rendez
returned_counts s h pid call has_returned begun rendez level shown =
    let same : call ≡ record { rendez = rendez; level = level } = same_Some call
    (record { rendez = rendez; level = level }) (sym begun ∙ shown) in
    let same_rendez : call.rendez ≡ rendez = ap (λ (c : Wakeup). c.rendez) same in
    let same_level : call.level ≡ level = ap (λ (c : Wakeup). c.level) same in
    let counted : returned_of (with_returned s (Some call)) call.rendez
    ≡ max (returned_of s call.rendez) call.level = get_or-set_same s.returned call.rendez
    (max (returned_of s call.rendez) call.level) 0 has_returned in
    omega (arith, ap (returned_of (with_returned s (Some call))) same_rendez, counted, same_level)

-- a take that finds nobody: the wakeup has returned
pub take_nobody_keeps : (s : State) (h : List Effect) (pid : ℕ) (rendez : RendezId) (level : ℕ)
    → pid < length s.phases → phase_of s pid ≡ phase.Owing rendez level → posted_of s rendez.0 ≡ 0
    → Core s h
    → Core (with_returned (with_phase s pid phase.Idle)
    (Some (record { rendez = rendez.0; level = level }))) (Missed pid ∷ h)
take_nobody_keeps s h pid rendez level in_range at free core =
    record {
      sound = IsSound-with_returned idle call (IsSound-with_phase s pid phase.Idle core.sound tt);
      fits = fits_each s after later pid phase.Idle in_range fit.nowhere others;
      posted = core.posted;
      marked = core.marked;
      low = λ r. returned_at_most s call r (level_of s r) (core.low r)
          (λ same. omega (arith, ap (level_of s) same, fit.low));
      returned = by_return;
      still_in = λ p r v still. record {
        posted = (core.still_in p r v still).posted;
        at_threshold = threshold_kept s pid phase.Idle p v (λ same. tt)
            (core.still_in p r v still).at_threshold;
      };
      fallen = λ p r v fell. returned_at_most s call r v (core.fallen p r v fell)
          (λ same. absurd (nobody p r v fell same));
      notes = core.notes;
      marks_due = core.marks_due;
      notes_right = core.notes_right;
      caused = core.caused;
    }
  where
    call : Wakeup
    call = record { rendez = rendez.0; level = level }

    idle : State
    idle = with_phase s pid phase.Idle

    after : State
    after = with_returned idle (Some call)

    later : List Effect
    later = Missed pid ∷ h

    fit : Raises s h pid rendez.0 level
    fit = fits_at s h pid (phase.Owing rendez level) core at

    has_returned : rendez.0 < length s.returned
    has_returned =
        let has_rendez : rendez.0 < length s.posted = subst
        (IsPhaseIn (length s.phases) (length s.posted)) at (core.sound.whole.phases pid) in
        omega (arith, core.sound.returned)

    others : (p : ℕ) → p ≢ pid → Fits after later p (phase_of s p)
    others p differ = fits_kept s after h later p frame (phase_of s p) (core.fits p)
      where
        frame : Frame s after h later p
        frame =
            frame_past s after h (Missed pid) p (λ about. about) (λ q moves with_raiser. moves) tt
            (λ e. e) (λ r. omega arith)

    by_return : (r w : ℕ)
        → (begun_wakeup pid h ≡ Some (record { rendez = r; level = w })) ⊎ HasReturned h r w
        → w ≤ returned_of after r
    by_return r w (inl new) = returned_counts s h pid call has_returned fit.begun r w new
    by_return r w (inr old) = omega (arith, core.returned r w old, returned_grows s call r)

    -- nobody is posted in the Rendez, so nobody has fallen asleep there and is still in
    nobody : (p r v : ℕ) → HasFallen h p r v → r ≡ rendez.0 → ⊥
    nobody p r v fell same =
        let was = core.still_in p r v (still_in_from_fallen h p r v fell) in
        omega (arith, ap (posted_of s) same, was.posted, free)

-- a take that finds a sleeper: the raiser has its token now
pub take_holding_keeps : (s : State) (h : List Effect) (pid : ℕ) (sleeper : Pid) (rendez : RendezId)
    (level : ℕ)
    → pid < length s.phases → phase_of s pid ≡ phase.Owing rendez level
    → posted_of s rendez.0 ≡ sleeper.0 + 1 → Core s h
    → Core (with_phase (with_posted s rendez.0 0) pid (phase.Holding sleeper rendez level))
    (Took pid sleeper.0 ∷ h)
take_holding_keeps s h pid sleeper rendez level in_range at posted core =
    record {
      sound = IsSound-with_phase taken pid (phase.Holding sleeper rendez level)
          (IsSound-with_posted s rendez.0 0 core.sound (omega arith)) (
            omega (arith, core.sound.whole.posted rendez.0),
            rw (length-set s.posted rendez.0 0)
                has_rendez,
          );
      fits = fits_each taken after later pid (phase.Holding sleeper rendez level) in_range own
          others;
      posted = λ r p word. by_rendez r p word (same_or_not r rendez.0);
      marked = λ p wake. if_other sleeper.0 p (WithRaiser pid) (token h p)
          (apart h p sleeper.0 InFlags (InRendez rendez.0) (core.marked p wake) here (λ e. cc))
          ∙ core.marked p wake;
      low = core.low;
      returned = core.returned;
      still_in = λ p r v still. shown p r v still (core.still_in p r v still.1);
      fallen = λ p r v fell. core.fallen p r v fell.1;
      notes = core.notes;
      marks_due = core.marks_due;
      notes_right = core.notes_right;
      caused = core.caused;
    }
  where
    taken : State
    taken = with_posted s rendez.0 0

    after : State
    after = with_phase taken pid (phase.Holding sleeper rendez level)

    later : List Effect
    later = Took pid sleeper.0 ∷ h

    has_rendez : rendez.0 < length s.posted
    has_rendez =
        subst (IsPhaseIn (length s.phases) (length s.posted)) at (core.sound.whole.phases pid)

    fit : Raises s h pid rendez.0 level
    fit = fits_at s h pid (phase.Owing rendez level) core at

    here : token h sleeper.0 ≡ InRendez rendez.0
    here = core.posted rendez.0 sleeper.0 posted

    not_itself : pid ≢ sleeper.0
    not_itself = apart h pid sleeper.0 Nowhere (InRendez rendez.0) fit.nowhere here (λ e. cc)

    -- whoever fell asleep here and is still in would be the one that was taken
    below : (other above : ℕ) → (sleeper.0 ≢ other) × HasFallen h other rendez.0 above
        → level ≤ above
    below other above fell =
        let was = core.still_in other rendez.0 above
        (still_in_from_fallen h other rendez.0 above fell.1) in
        absurd (fell.0 (omega (arith, was.posted, posted)))

    own : Fits after later pid (phase.Holding sleeper rendez level)
    own = record {
      raises = record {
        nowhere = if_other sleeper.0 pid (WithRaiser pid) (token h pid) not_itself ∙ fit.nowhere;
        begun = fit.begun;
        low = fit.low;
      };
      with_raiser = if_same sleeper.0 sleeper.0 (WithRaiser pid) (token h sleeper.0) refl;
      held = inl (refl, refl);
      below = below;
    }

    others : (p : ℕ) → p ≢ pid → Fits after later p (phase_of s p)
    others p differ = by_sleeper (same_or_not p sleeper.0)
      where
        by_sleeper : (p ≡ sleeper.0) ⊎ (p ≢ sleeper.0) → Fits after later p (phase_of s p)
        by_sleeper (inl same) =
            let in_rendez : token h p ≡ InRendez rendez.0 = ap (token h) same ∙ here in
            let with_raiser : token later p
            ≡ WithRaiser pid = if_same sleeper.0 p (WithRaiser pid) (token h p) same in
            fits_moved s after h later p (λ e. absurd cc) (λ e. absurd cc)
            (subst IsAway (sym with_raiser) tt) (λ cause. cause) (λ e. e) (phase_of s p)
            (core.fits p)
        by_sleeper (inr away) = fits_kept s after h later p frame (phase_of s p) (core.fits p)
          where
            frame : Frame s after h later p
            frame =
                frame_past s after h (Took pid sleeper.0) p (λ same. away (sym same))
                (λ q moves with_raiser. apart h q sleeper.0 (WithRaiser p) (InRendez rendez.0)
                with_raiser
                here (λ e. cc) (sym moves)) tt (λ e. e) (λ r. omega arith)

    by_rendez : (r p : ℕ) → posted_of after r ≡ p + 1 → (r ≡ rendez.0) ⊎ (r ≢ rendez.0)
        → token later p ≡ InRendez r
    by_rendez r p word (inl same) =
        let emptied : posted_of after rendez.0
        ≡ 0 = get_or-set_same s.posted rendez.0 0 0 has_rendez in
        absurd (omega (arith, ap (posted_of after) same, emptied, word))
    by_rendez r p word (inr elsewhere) =
        let old = core.posted r p (sym (get_or-set_other s.posted rendez.0 r 0 0 elsewhere) ∙ word)
        in
        if_other sleeper.0 p (WithRaiser pid) (token h p)
        (apart h p sleeper.0 (InRendez r) (InRendez rendez.0) old here (λ e. elsewhere cc)) ∙ old

    shown : (p r v : ℕ) → (sleeper.0 ≢ p) × IsStillIn h p r v → IsShown s p r v
        → IsShown after p r v
    shown p r v still was =
        let elsewhere : r ≢ rendez.0 = λ same. still.0
        (omega (arith, ap (posted_of s) same, was.posted, posted)) in
        record {
          posted = get_or-set_other s.posted rendez.0 r 0 0 elsewhere ∙ was.posted;
          at_threshold = threshold_kept s pid (phase.Holding sleeper rendez level) p v (λ same. tt)
              was.at_threshold;
        }

-- a mark: the sleeper has its token in its flags, and the wakeup has returned
pub mark_keeps : (s : State) (h : List Effect) (pid : ℕ) (sleeper : Pid) (rendez : RendezId)
    (level : ℕ)
    → pid < length s.phases → phase_of s pid ≡ phase.Holding sleeper rendez level → Core s h
    → Core (with_returned (with_phase
    (with_flags s sleeper.0 (record { wake = true; notes = (flags_of s sleeper.0).notes })) pid
    phase.Idle) (Some (record { rendez = rendez.0; level = level }))) (Marked pid sleeper.0 ∷ h)
mark_keeps s h pid sleeper rendez level in_range at core =
    record {
      sound = IsSound-with_returned idle call
          (IsSound-with_phase marking pid phase.Idle
          (IsSound-with_flags s sleeper.0 mark core.sound)
          tt);
      fits = fits_each marking after later pid phase.Idle in_range
          (if_other sleeper.0 pid InFlags (token h pid) not_itself ∙ fit.raises.nowhere) others;
      posted = λ r p word. if_other sleeper.0 p InFlags (token h p)
          (apart h p sleeper.0 (InRendez r) (WithRaiser pid) (core.posted r p word) fit.with_raiser
          (λ e. cc)) ∙ core.posted r p word;
      marked = λ p wake. by_mark p wake (same_or_not p sleeper.0);
      low = λ r. returned_at_most s call r (level_of s r) (core.low r)
          (λ same. omega (arith, ap (level_of s) same, fit.raises.low));
      returned = by_return;
      still_in = λ p r v still. record {
        posted = (core.still_in p r v still).posted;
        at_threshold = threshold_kept s pid phase.Idle p v (λ same. tt)
            (core.still_in p r v still).at_threshold;
      };
      fallen = λ p r v fell. returned_at_most s call r v (core.fallen p r v fell)
          (λ same. fit.below p v (subst (λ q. HasFallen h p q v) same fell));
      notes = λ p. same_notes p ∙ core.notes p;
      marks_due = (fit.held, core.marks_due);
      notes_right = core.notes_right;
      caused = core.caused;
    }
  where
    call : Wakeup
    call = record { rendez = rendez.0; level = level }

    mark : ProcFlags
    mark = record { wake = true; notes = (flags_of s sleeper.0).notes }

    marking : State
    marking = with_flags s sleeper.0 mark

    idle : State
    idle = with_phase marking pid phase.Idle

    after : State
    after = with_returned idle (Some call)

    later : List Effect
    later = Marked pid sleeper.0 ∷ h

    fit : Holds s h pid sleeper.0 rendez.0 level
    fit = fits_at s h pid (phase.Holding sleeper rendez level) core at

    has_both : (sleeper.0 < length s.phases) × (rendez.0 < length s.posted)
    has_both =
        subst (IsPhaseIn (length s.phases) (length s.posted)) at (core.sound.whole.phases pid)

    has_flags : sleeper.0 < length s.flags
    has_flags = omega (arith, has_both, core.sound.whole.flags)

    has_returned : rendez.0 < length s.returned
    has_returned = omega (arith, has_both, core.sound.returned)

    not_itself : pid ≢ sleeper.0
    not_itself =
        apart h pid sleeper.0 Nowhere (WithRaiser pid) fit.raises.nowhere fit.with_raiser (λ e. cc)

    flags_same : flags_of after sleeper.0 ≡ mark
    flags_same = get_or-set_same s.flags sleeper.0 mark no_flags has_flags

    flags_other : (p : ℕ) → p ≢ sleeper.0 → flags_of after p ≡ flags_of s p
    flags_other p away = get_or-set_other s.flags sleeper.0 p mark no_flags away

    same_notes : (p : ℕ) → (flags_of after p).notes ≡ (flags_of s p).notes
    same_notes p = by_sleeper (same_or_not p sleeper.0)
      where
        by_sleeper : (p ≡ sleeper.0) ⊎ (p ≢ sleeper.0)
            → (flags_of after p).notes ≡ (flags_of s p).notes
        by_sleeper (inl same) =
            ap (λ q. (flags_of after q).notes) same
            ∙
            (ap (λ (f : ProcFlags). f.notes) flags_same
            ∙ ap (λ q. (flags_of s q).notes) (sym same))
        by_sleeper (inr away) = ap (λ (f : ProcFlags). f.notes) (flags_other p away)

    others : (p : ℕ) → p ≢ pid → Fits after later p (phase_of s p)
    others p differ = by_sleeper (same_or_not p sleeper.0)
      where
        by_sleeper : (p ≡ sleeper.0) ⊎ (p ≢ sleeper.0) → Fits after later p (phase_of s p)
        by_sleeper (inl same) =
            let with_raiser : token h p ≡ WithRaiser pid = ap (token h) same ∙ fit.with_raiser in
            let in_flags : token later p ≡ InFlags = if_same sleeper.0 p InFlags (token h p) same in
            fits_moved s after h later p (λ e. absurd cc) (λ e. absurd cc)
            (subst IsAway (sym in_flags) tt) (λ cause. cause)
            (λ e. ap has_notes (same_notes p) ∙ e) (phase_of s p) (core.fits p)
        by_sleeper (inr away) = fits_kept s after h later p frame (phase_of s p) (core.fits p)
          where
            another : (q : ℕ) → token h q ≡ WithRaiser p → q ≢ sleeper.0
            another q with_raiser =
                apart h q sleeper.0 (WithRaiser p) (WithRaiser pid) with_raiser fit.with_raiser
                (λ e. differ cc)

            frame : Frame s after h later p
            frame =
                frame_past s after h (Marked pid sleeper.0) p (λ same. away (sym same))
                (λ q moves with_raiser. another q with_raiser (sym moves)) tt
                (λ e. ap has_notes (same_notes p) ∙ e) (λ r. omega arith)

    by_mark : (p : ℕ) → (flags_of after p).wake ≡ true → (p ≡ sleeper.0) ⊎ (p ≢ sleeper.0)
        → token later p ≡ InFlags
    by_mark p wake (inl same) = if_same sleeper.0 p InFlags (token h p) same
    by_mark p wake (inr away) =
        if_other sleeper.0 p InFlags (token h p) away
        ∙ core.marked p (sym (ap (λ (f : ProcFlags). f.wake) (flags_other p away)) ∙ wake)

    by_return : (r w : ℕ)
        → (begun_wakeup pid h ≡ Some (record { rendez = r; level = w })) ⊎ HasReturned h r w
        → w ≤ returned_of after r
    by_return r w (inl new) = returned_counts s h pid call has_returned fit.raises.begun r w new
    by_return r w (inr old) = omega (arith, core.returned r w old, returned_grows s call r)
