-- What one step more in the run is to what each seat knows.
use Rattle.std.proofs.Common.{◌≡◌, ◌≢◌, ◌⊎◌, inl, inr, ℕ, true, false, eqb, cond}
use Rattle.std.proofs.Common.{List, ◌∷◌, refl, sym, ◌∙◌, ap}
use Rattle.std.proofs.lemmas.Bool.Decides.{eqb_tells}
use Rattle.sleep_core.specs.declared.event.Event.{Event}
use Rattle.sleep_core.specs.declared.event.Event.TheVariants.{Note}
use Rattle.sleep_core.specs.declared.answer.Answer.{Answer}
use Rattle.sleep_core.specs.State.{phase_of}
use Rattle.sleep_core.specs.Table.{pid_of}
use Rattle.sleep_core.specs.Runs.{Entry, IsMadeBy, IsRun, world_of, own, kept, is_kept}
use Rattle.sleep_core.proofs.OwnEvents.{phase_by-kept_own}
use Rattle.rendez_words.specs.declared.view.Part.{Part}
use Rattle.rendez_words.specs.declared.view.View.{View}
use Rattle.rendez_words.specs.declared.view.View.TheVariants as view
use Rattle.rendez_words.specs.Plays.{IsStage, part_after}
use Rattle.rendez_words.specs.Rule.{IsSeated, Fits}

-- another's step is none of its own
pub own_others : (entry : Entry) (run : List Entry) (pid : ℕ) → pid ≢ entry.maker
    → own pid (entry ∷ run) ≡ own pid run
own_others entry run pid differ = by_maker (eqb_tells entry.maker pid)
  where
    by_maker : ((eqb entry.maker pid ≡ true) × (entry.maker ≡ pid)) ⊎
        ((eqb entry.maker pid ≡ false) × (entry.maker ≢ pid)) → own pid (entry ∷ run) ≡ own pid run
    by_maker (inl same) = absurd (differ (sym same.1))
    by_maker (inr other) = ap (λ b. cond b (entry ∷ own pid run) (own pid run)) other.0

-- its own step stands in front
pub own_more : (entry : Entry) (run : List Entry)
    → own entry.maker (entry ∷ run) ≡ entry ∷ own entry.maker run
own_more entry run = by_maker (eqb_tells entry.maker entry.maker)
  where
    by_maker : ((eqb entry.maker entry.maker ≡ true) × (entry.maker ≡ entry.maker)) ⊎
        ((eqb entry.maker entry.maker ≡ false) × (entry.maker ≢ entry.maker))
        → own entry.maker (entry ∷ run) ≡ entry ∷ own entry.maker run
    by_maker (inl same) =
        ap (λ b. cond b (entry ∷ own entry.maker run) (own entry.maker run)) same.0
    by_maker (inr other) = absurd (other.1 refl)

-- the trace of who made the step
pub trace_more : (part : Part) (event : Event) (told : Answer) (run : List Entry)
    → part.trace ≡ kept (own part.pid run)
    → (part_after event told part).trace ≡ kept
    (own part.pid (record { maker = part.pid; event = event; answer = told } ∷ run))
trace_more part event told run is =
    ap (λ trace. cond (is_kept told event) (record {
      maker = part.pid;
      event = event;
      answer = told;
    } ∷ trace) trace) is
    ∙ sym (ap kept (own_more record { maker = part.pid; event = event; answer = told } run))

-- a step that is not worth keeping is in no trace
pub kept_others : (entry : Entry) (run : List Entry) (pid : ℕ)
    → is_kept entry.answer entry.event ≡ false → kept (own pid (entry ∷ run)) ≡ kept (own pid run)
kept_others entry run pid lost = by_maker (eqb_tells entry.maker pid)
  where
    by_maker : ((eqb entry.maker pid ≡ true) × (entry.maker ≡ pid)) ⊎
        ((eqb entry.maker pid ≡ false) × (entry.maker ≢ pid))
        → kept (own pid (entry ∷ run)) ≡ kept (own pid run)
    by_maker (inl same) =
        ap (λ b. kept (cond b (entry ∷ own pid run) (own pid run))) same.0
        ∙ ap (λ b. cond b (entry ∷ kept (own pid run)) (kept (own pid run))) lost
    by_maker (inr other) = ap (λ b. kept (cond b (entry ∷ own pid run) (own pid run))) other.0

-- a seat that did not make the step has the process still
seated_still : (procs : ℕ) (entry : Entry) (run : List Entry) (owner : ℕ
    → ℕ) (seat : ℕ) (part : Part) → owner entry.maker ≢ seat → IsSeated procs run owner seat part
    → IsSeated procs (entry ∷ run) owner seat part
seated_still procs entry run owner seat part other seated =
    record {
      pid_in = seated.pid_in;
      owner_is = seated.owner_is;
      trace_is =
          seated.trace_is
          ∙ sym (ap kept (own_others entry run part.pid
          (λ same. other (sym (ap owner same) ∙ seated.owner_is))));
    }

-- what a seat knows that did not make the step is so still
pub fits_still : (procs : ℕ) (entry : Entry) (run : List Entry) (owner : ℕ
    → ℕ) (seat : ℕ) (known : View) → owner entry.maker ≢ seat → Fits procs run owner seat known
    → Fits procs (entry ∷ run) owner seat known
fits_still procs entry run owner seat (view.Process part) other fits =
    seated_still procs entry run owner seat part other fits
fits_still procs entry run owner seat (view.Pids next) other fits =
    λ pid least. let unused = fits pid least in
    record {
      owner_is = unused.owner_is;
      none = own_others entry run pid (λ same. other (sym (ap owner same) ∙ unused.owner_is))
          ∙ unused.none;
    }
fits_still procs entry run owner seat (view.Joined sleeper raiser) other fits =
    record {
      first = seated_still procs entry run owner seat sleeper other fits.first;
      second = seated_still procs entry run owner seat raiser other fits.second;
      differ = fits.differ;
    }
fits_still procs entry run owner seat view.Spent other fits = tt

-- the phase in which an event finds its process is the one that its own steps give
pub stage_of : (procs rendez : ℕ) (run : List Entry) (pid : ℕ) (trace : List Entry) (event : Event)
    → IsRun procs rendez run → trace ≡ kept (own pid run) → IsMadeBy pid event
    → IsStage trace event (phase_of (world_of procs rendez run) (pid_of event).0)
stage_of procs rendez run pid trace (Note named notes) legal is made = tt
stage_of procs rendez run pid trace event legal is made =
    ap (phase_of (world_of procs rendez run)) made
    ∙ sym (phase_by-kept_own procs rendez run legal pid)
    ∙ ap Rattle.sleep_core.specs.Runs.phase_by (sym is)
