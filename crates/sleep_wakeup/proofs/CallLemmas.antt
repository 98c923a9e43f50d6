-- What the steps of a sleep add up to.
use Rattle.std.proofs.Common.{◌≡◌, ◌⊎◌, inl, inr, ℕ, List, [], ◌∷◌, ◌++◌, refl, sym, ◌∙◌, ap, subst}
use Rattle.std.specs.List.{AllByRecursion, cons_option}
use Rattle.std.proofs.lemmas.List.{append_assoc}
use Rattle.sync_base.specs.declared.ids.RendezId.{RendezId}
use Rattle.sync_base.specs.declared.note.NoteSet.{NoteSet}
use Rattle.sync_base.specs.NoteSet.{no_notes}
use Rattle.sleep_core.specs.declared.answer.Answer.{Answer}
use Rattle.sleep_core.specs.declared.answer.Answer.TheVariants as answer
use Rattle.sleep_core.specs.declared.event.Event.{Event}
use Rattle.sleep_core.specs.declared.event.Event.TheVariants.{Look, Withdraw}
use Rattle.sleep_core.specs.History.{Effect, effect_of, history_of}
use Rattle.sleep_core.specs.Promises.{IsCaused, EachSleepIsCaused}
use Rattle.sleep_core.specs.Runs.{Entry}
use Rattle.sleep_core.proofs.OwnCauses.{own_sleeps_end_for_a_cause}
use Rattle.rendez_words.specs.declared.words.Words.{Words}
use Rattle.rendez_words.specs.Process.{Process, made}
use Rattle.rendez_words.specs.Steps.{posts, tests, clears}
use Rattle.rendez_words.specs.Words.{IsProcessOf, procs_of, rendez_of}
use Rattle.sleep_wakeup.specs.Calls.{IsOfWait, HasWoken, Leaves, EndsSleep, Sleeps}

-- the process cleared its flags at once
pub leaves_now : (before : Process) (notes : NoteSet) (after : Process)
    → after ≡ clears before notes → Leaves before notes after
leaves_now before notes after cleared =
    record { waiting = []; of_wait = tt; cleared = cleared }

all_append : (P : Entry → Type 0) (xs ys : List Entry) → AllByRecursion P xs → AllByRecursion P ys
    → AllByRecursion P (xs ++ ys)
all_append P [] ys first second = second
all_append P (x ∷ xs) ys first second = (first.0, all_append P xs ys first.1 second)

-- it looked or withdrew, and then left
pub leaves_after : (before : Process) (event : Event) (told : Answer) (between : Process)
    (notes : NoteSet) (after : Process) → IsOfWait event → between ≡ made before event told
    → Leaves between notes after → Leaves before notes after
leaves_after before event told between notes after of_wait is leaves =
    by (subst (λ p. Leaves p notes after) is leaves)
  where
    step : Entry
    step = record { maker = before.pid; event = event; answer = told }

    by : Leaves (made before event told) notes after → Leaves before notes after
    by made_so =
        record {
          waiting = made_so.waiting ++ step ∷ [];
          of_wait = all_append (λ entry. IsOfWait entry.event) made_so.waiting (step ∷ [])
              made_so.of_wait (of_wait, tt);
          cleared = made_so.cleared
              ∙ ap (λ trace. clears (record before { trace = trace }) notes)
              (sym (append_assoc made_so.waiting (step ∷ []) before.trace));
        }

-- a step of the wait is the cause where it found the mark, and no cause else
caused_in_step : (told : Answer) (event : Event) (past : List Effect) (pid : ℕ) → IsOfWait event
    → IsCaused (cons_option (effect_of told event) past) pid
    → (told ≡ answer.Woken) ⊎ IsCaused past pid
caused_in_step answer.Woken (Look named) past pid of_wait caused = inl refl
caused_in_step answer.Out (Withdraw named) past pid of_wait caused = inr caused
caused_in_step told (Look named) past pid of_wait caused = inr caused
caused_in_step told (Withdraw named) past pid of_wait caused = inr caused
caused_in_step told event past pid of_wait caused = absurd of_wait

caused_in_wait : (waiting : List Entry) (past : List Entry) (pid : ℕ)
    → AllByRecursion (λ entry. IsOfWait entry.event) waiting
    → IsCaused (history_of (waiting ++ past)) pid
    → HasWoken waiting ⊎ IsCaused (history_of past) pid
caused_in_wait [] past pid of_wait caused = inr caused
caused_in_wait (entry ∷ waiting) past pid of_wait caused =
    by (caused_in_wait waiting past pid of_wait.1)
    (caused_in_step entry.answer entry.event (history_of (waiting ++ past)) pid of_wait.0 caused)
  where
    older : HasWoken waiting ⊎ IsCaused (history_of past) pid
        → HasWoken (entry ∷ waiting) ⊎ IsCaused (history_of past) pid
    older (inl woken) = inl (inr woken)
    older (inr before) = inr before

    by : (IsCaused (history_of (waiting ++ past)) pid
        → HasWoken waiting ⊎ IsCaused (history_of past) pid)
        → (entry.answer ≡ answer.Woken) ⊎ IsCaused (history_of (waiting ++ past)) pid
        → HasWoken (entry ∷ waiting) ⊎ IsCaused (history_of past) pid
    by rest (inl woken) = inl (inl woken)
    by rest (inr before) = older (rest before)

-- before the wait there is the test, and before the test the sleep begins
caused_in_test : (before : Process) (rendez : RendezId) (threshold : ℕ) (told : Answer)
    → IsCaused (history_of (tests (posts before rendez threshold answer.Posted) told).trace)
    before.pid → told ≡ answer.Leaving
caused_in_test before rendez threshold answer.Leaving caused = refl
caused_in_test before rendez threshold told caused = absurd (caused.0 refl)

-- a sleep that ended without notes has its cause in its own steps
pub sleeps_well : (words : Words) (before : Process) (rendez : RendezId) (threshold : ℕ)
    (posted : Process) (notes : NoteSet) (after : Process)
    → posted ≡ posts before rendez threshold answer.Posted → EndsSleep posted notes after
    → notes ≡ no_notes → IsProcessOf words after → Sleeps before rendez threshold no_notes after
sleeps_well words before rendez threshold posted notes after posted_is ends none of_words =
    by (subst (λ p. EndsSleep p no_notes after) posted_is
    (subst (λ s. EndsSleep posted s after) none ends))
  where
    caused : (trace : List Entry) → after.trace ≡ trace → EachSleepIsCaused (history_of trace)
    caused trace is =
        subst (λ t. EachSleepIsCaused (history_of t)) (sym of_words.run.trace_is ∙ is)
        (own_sleeps_end_for_a_cause (procs_of words) (rendez_of words) of_words.run.run
        of_words.run.legal after.pid)

    either : (told : Answer) (waiting : List Entry)
        → HasWoken waiting ⊎ IsCaused
        (history_of (tests (posts before rendez threshold answer.Posted) told).trace) before.pid
        → (told ≡ answer.Leaving) ⊎ HasWoken waiting
    either told waiting (inl woken) = inr woken
    either told waiting (inr earlier) =
        inl (caused_in_test before rendez threshold told earlier)

    by : EndsSleep (posts before rendez threshold answer.Posted) no_notes after
        → Sleeps before rendez threshold no_notes after
    by ended =
        let leaves = ended.leaves in
        let tested_process = tests (posts before rendez threshold answer.Posted) ended.tested in
        let left = caused
        (clears (record tested_process { trace = leaves.waiting ++ tested_process.trace })
        no_notes).trace
        (ap (λ (p : Process). p.trace) leaves.cleared) in
        record {
          tested = ended.tested;
          leaves = leaves;
          cause = λ _. either ended.tested leaves.waiting
              (caused_in_wait leaves.waiting tested_process.trace before.pid leaves.of_wait left.0);
        }
