-- Why these steps are no sleep and no wakeup.
use Rattle.std.proofs.Common.{◌≡◌, ◌⊎◌, inl, inr, ℕ, Bool, false, List, [], ◌∷◌, ◌++◌, length, refl}
use Rattle.std.proofs.Common.{sym, ◌∙◌, ap, subst}
use Rattle.std.specs.List.{AllByRecursion}
use Rattle.rendez_words.specs.Process.{TableId}
use Rattle.sync_base.specs.declared.ids.Pid.{Pid}
use Rattle.sync_base.specs.declared.note.NoteSet.{NoteSet}
use Rattle.sync_base.specs.NoteSet.{no_notes}
use Rattle.sleep_core.specs.declared.answer.Answer.{Answer}
use Rattle.sleep_core.specs.declared.answer.Answer.TheVariants as answer
use Rattle.sleep_core.specs.declared.event.Event.{Event}
use Rattle.sleep_core.specs.declared.event.Event.TheVariants.{Post, Test, Clear}
use Rattle.sleep_core.specs.declared.event.Event.TheVariants.{Raise, Take, Mark, Check}
use Rattle.sleep_core.specs.Runs.{Entry}
use Rattle.sleep_core.specs.Table.{ending_of}
use Rattle.rendez_words.specs.Process.{Process}
use Rattle.rendez_words.specs.Steps.{raises}
use Rattle.sleep_wakeup.specs.Broken.{after, process, rendez, step, posted, went_out, missed}
use Rattle.sleep_wakeup.specs.Broken.{raised}
use Rattle.sleep_wakeup.specs.Calls.{IsOfWait, HasWoken, Sleeps, Ends}

-- the first two steps, and those after them
abbrev pub first_of : Entry → List Entry → Entry
first_of other [] = other
first_of other (entry ∷ []) = entry
first_of other (entry ∷ next ∷ past) = first_of other (next ∷ past)

-- the second step of a run; where there is none, the other
abbrev pub second_of : Entry → List Entry → Entry
second_of other [] = other
second_of other (entry ∷ []) = other
second_of other (entry ∷ next ∷ []) = entry
second_of other (entry ∷ next ∷ third ∷ past) = second_of other (next ∷ third ∷ past)

-- what stands after the first two steps of a run
abbrev pub after_two : List Entry → List Entry
after_two [] = []
after_two (entry ∷ []) = []
after_two (entry ∷ next ∷ []) = []
after_two (entry ∷ next ∷ third ∷ past) = entry ∷ after_two (next ∷ third ∷ past)

-- what they are of steps that begin with two
first_is : (other : Entry) (more : List Entry) (second first : Entry)
    → first_of other (more ++ second ∷ first ∷ []) ≡ first
first_is other [] second first = refl
first_is other (entry ∷ []) second first = refl
first_is other (entry ∷ next ∷ past) second first = first_is other (next ∷ past) second first

second_is : (other : Entry) (more : List Entry) (second first : Entry)
    → second_of other (more ++ second ∷ first ∷ []) ≡ second
second_is other [] second first = refl
second_is other (entry ∷ []) second first = refl
second_is other (entry ∷ next ∷ []) second first = refl
second_is other (entry ∷ next ∷ third ∷ past) second first =
    second_is other (next ∷ third ∷ past) second first

after_two_is : (more : List Entry) (second first : Entry)
    → after_two (more ++ second ∷ first ∷ []) ≡ more
after_two_is [] second first = refl
after_two_is (entry ∷ []) second first = refl
after_two_is (entry ∷ next ∷ []) second first = refl
after_two_is (entry ∷ next ∷ third ∷ past) second first =
    ap (λ steps. entry ∷ steps) (after_two_is (next ∷ third ∷ past) second first)

-- a step that stands in none of the runs
abbrev no_step : Entry
no_step = step (Check (process 0)) answer.Parked

-- the newest step of a run
abbrev pub last_of : List Entry → Entry
last_of [] = no_step
last_of (entry ∷ past) = entry

-- the steps before the newest
abbrev pub before_last : List Entry → List Entry
before_last [] = []
before_last (entry ∷ past) = past

-- What the steps of a sleep in Rendez 0 with the threshold 0 are: a post, a test, a wait, and a
-- clear.
pub record AreOfSleep (notes : NoteSet) (steps : List Entry) : Type 0 where
  -- what the test was answered
  pub tested : Answer
  -- the newest step is the clear that ends the sleep, with these notes
  pub last : last_of steps ≡ step (Clear (process 0)) (ending_of notes)
  -- the first step is the post
  pub first : first_of no_step (before_last steps) ≡ posted
  -- the second step is the test
  pub second : second_of no_step (before_last steps) ≡ step (Test (process 0)) tested
  -- all steps between the test and the clear are of a wait
  pub of_wait : AllByRecursion (λ entry. IsOfWait entry.event) (after_two (before_last steps))
  -- a sleep that ended without notes found its condition true, or was woken
  pub cause : notes ≡ no_notes
      → (tested ≡ answer.Leaving) ⊎ HasWoken (after_two (before_last steps))

-- the steps of a sleep in Rendez 0 with the threshold 0 are a post, a test, a wait and a clear
pub of_sleep : (table : TableId) (notes : NoteSet) (steps : List Entry)
    → Sleeps (after table []) (rendez 0) 0 notes (after table steps) → AreOfSleep notes steps
of_sleep table notes steps sleeps =
    let waiting = sleeps.leaves.waiting in
    let test = step (Test (process 0)) sleeps.tested in
    let clear = step (Clear (process 0)) (ending_of notes) in
    let is : steps ≡ clear ∷ (waiting ++ test ∷ posted ∷ []) =
    ap (λ (p : Process). p.trace) sleeps.leaves.cleared in
    subst (AreOfSleep notes) (sym is)
    record {
      tested = sleeps.tested;
      last = refl;
      first = first_is no_step waiting test posted;
      second = second_is no_step waiting test posted;
      of_wait = subst (AllByRecursion (λ entry. IsOfWait entry.event))
          (sym (after_two_is waiting test posted)) sleeps.leaves.of_wait;
      cause = λ none. subst (λ more. (sleeps.tested ≡ answer.Leaving) ⊎ HasWoken more)
          (sym (after_two_is waiting test posted)) (sleeps.cause none);
    }

-- where an event posts, and whether an answer tells of an alarm
abbrev pub rendez_of : Event → ℕ
rendez_of (Post pid at threshold) = at.0
rendez_of event = 0

-- whether an answer tells of an alarm
abbrev pub has_alarm : Answer → Bool
has_alarm (answer.Interrupted notes) = notes.alarm
has_alarm told = false

-- a sleep whose test found the condition false, and that saw no mark, has no cause
pub no_cause : (told : Answer) → step (Test (process 0)) answer.Asleep
    ≡ step (Test (process 0)) told → ¬ ((told ≡ answer.Leaving) ⊎ HasWoken (went_out ∷ []))
no_cause told is (inl passed) = let fell : answer.Asleep ≡ told = ap (λ (e : Entry). e.answer) is in
    cc
no_cause told is (inr (inl woken)) = cc
no_cause told is (inr (inr none)) = none

-- whom a mark marks, and whom a take took
abbrev pub named_in : Answer → ℕ
named_in (answer.Marked sleeper) = sleeper.0
named_in (answer.Holding sleeper) = sleeper.0
named_in told = 0

-- the level to which an event raises, and of which Rendez
abbrev pub raised_to : Event → ℕ
raised_to (Raise pid at level) = level
raised_to event = 0

-- the Rendez whose level an event raises
abbrev pub raised_at : Event → ℕ
raised_at (Raise pid at level) = at.0
raised_at event = 0

-- What the steps of a wakeup of Rendez 0 with the level 1 are: a raise and a take that found
-- nobody, or a raise, a take and a mark of whom it took.
pub record AreOfWakeup (steps : List Entry) : Type 0 where
  -- the first step is the raise
  pub first : first_of no_step steps ≡ raised
  -- then a take found nobody; or a take found a sleeper, and a mark marked that one
  pub ends : (steps ≡ missed ∷ raised ∷ [])
      ⊎ ((sleeper : Pid) × (steps ≡ step (Mark (process 0)) (answer.Marked sleeper)
      ∷ step (Take (process 0)) (answer.Holding sleeper) ∷ raised ∷ []))

-- the steps of a wakeup of Rendez 0 with the level 1 are a raise, a take and, if that found a
-- sleeper, its mark
pub of_wakeup : (table : TableId) (steps : List Entry)
    → Ends (raises (after table []) (rendez 0) 1) (after table steps) → AreOfWakeup steps
of_wakeup table steps (inl nobody) =
    let is : steps ≡ missed ∷ raised ∷ [] = ap (λ (p : Process). p.trace) nobody in
    record { first = ap (first_of no_step) is; ends = inl is }
of_wakeup table steps (inr (sleeper, held)) =
    let is : steps ≡ step (Mark (process 0)) (answer.Marked sleeper)
    ∷ step (Take (process 0)) (answer.Holding sleeper) ∷ raised ∷ [] =
    ap (λ (p : Process). p.trace) held in
    record { first = ap (first_of no_step) is; ends = inr (sleeper, is) }

-- steps that are neither two nor three
pub not_so_many : (steps : List Entry) → AreOfWakeup steps
    → (length steps ≡ 2) ⊎ (length steps ≡ 3)
not_so_many steps are = by_ending are.ends
  where
    by_ending : (steps ≡ missed ∷ raised ∷ [])
        ⊎ ((sleeper : Pid) × (steps ≡ step (Mark (process 0)) (answer.Marked sleeper)
        ∷ step (Take (process 0)) (answer.Holding sleeper) ∷ raised ∷ []))
        → (length steps ≡ 2) ⊎ (length steps ≡ 3)
    by_ending (inl two) = inl (ap length two)
    by_ending (inr (sleeper, three)) = inr (ap length three)

-- two steps are a raise and a take that found nobody
pub two_steps : (second first : Entry) → AreOfWakeup (second ∷ first ∷ []) → second ≡ missed
two_steps second first are = by_ending are.ends
  where
    by_ending : (second ∷ first ∷ [] ≡ missed ∷ raised ∷ [])
        ⊎ ((sleeper : Pid) × (second ∷ first ∷ []
        ≡ step (Mark (process 0)) (answer.Marked sleeper)
        ∷ step (Take (process 0)) (answer.Holding sleeper) ∷ raised ∷ []))
        → second ≡ missed
    by_ending (inl two) = ap last_of two
    by_ending (inr (sleeper, three)) = let bad = ap length three in absurd (cc)

-- three steps take and mark one process
pub three_steps : (third second first : Entry) → AreOfWakeup (third ∷ second ∷ first ∷ [])
    → named_in third.answer ≡ named_in second.answer
three_steps third second first are = by_ending are.ends
  where
    by_ending : (third ∷ second ∷ first ∷ [] ≡ missed ∷ raised ∷ [])
        ⊎ ((sleeper : Pid) × (third ∷ second ∷ first ∷ []
        ≡ step (Mark (process 0)) (answer.Marked sleeper)
        ∷ step (Take (process 0)) (answer.Holding sleeper) ∷ raised ∷ []))
        → named_in third.answer ≡ named_in second.answer
    by_ending (inl two) = let bad = ap length two in absurd (cc)
    by_ending (inr (sleeper, three)) =
        ap (λ steps. named_in (last_of steps).answer) three
        ∙ sym (ap (λ steps. named_in (last_of (before_last steps)).answer) three)

-- the third step of a wakeup of three steps is a mark
pub third_marks : (third second first : Entry) → AreOfWakeup (third ∷ second ∷ first ∷ [])
    → third.event ≡ Mark (process 0)
third_marks third second first are = by_ending are.ends
  where
    by_ending : (third ∷ second ∷ first ∷ [] ≡ missed ∷ raised ∷ [])
        ⊎ ((sleeper : Pid) × (third ∷ second ∷ first ∷ []
        ≡ step (Mark (process 0)) (answer.Marked sleeper)
        ∷ step (Take (process 0)) (answer.Holding sleeper) ∷ raised ∷ []))
        → third.event ≡ Mark (process 0)
    by_ending (inl two) = let bad = ap length two in absurd (cc)
    by_ending (inr (sleeper, three)) = ap (λ steps. (last_of steps).event) three
