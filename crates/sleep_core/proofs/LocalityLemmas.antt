-- What one event leaves as it was, and the phase that it makes.
use Rattle.std.proofs.Common.{◌≡◌, ◌≢◌, ◌⊎◌, ◌<◌, ◌≤◌, inl, inr, ℕ, Bool, true, false, Option, Some}
use Rattle.std.proofs.Common.{None, if◌then◌else◌, length, get_or, set, refl, sym, ◌∙◌, ap, arith}
use Rattle.std.proofs.lemmas.Bool.Decides.{nat_tests}
use Rattle.std.proofs.lemmas.List.{get_or-set_same, get_or-set_other}
use Rattle.sleep_core.specs.declared.event.Event.{Event}
use Rattle.sleep_core.specs.declared.answer.Answer.{Answer}
use Rattle.sleep_core.specs.declared.answer.Answer.TheVariants as answer
use Rattle.sleep_core.specs.declared.phase.Phase.{Phase}
use Rattle.sleep_core.specs.declared.phase.Phase.TheVariants as phase
use Rattle.sleep_core.specs.State.{State, phase_of, no_flags}
use Rattle.sleep_core.specs.Table.{Cell, Word, Wakeup, pid_of, cell_of, stored, phase_after}
use Rattle.sleep_core.specs.Table.{returned_by, number_in, flags_in}
use Rattle.sleep_core.specs.Table.Cell.{PostedOf, LevelOf, FlagsOf, NoCell}
use Rattle.sleep_core.specs.Table.Word.{Number, Flags}
use Rattle.sleep_core.specs.Step.{with_phase, with_returned, with_word, word_at, is_refusal}
use Rattle.sleep_core.specs.Step.{answer_to, changed_by, world_told, world_after}

-- a write changes its own word alone
word_at-with_word : (s : State) (changed : Cell) (word : Option Word) (cell : Cell) → cell ≢ changed
    → word_at (with_word s changed word) cell ≡ word_at s cell
word_at-with_word s (PostedOf r) (Some word) (PostedOf q) differ =
    ap Number (get_or-set_other s.posted r q (number_in word) 0 (λ same. differ (ap PostedOf same)))
word_at-with_word s (PostedOf r) (Some word) (LevelOf q) differ = refl
word_at-with_word s (PostedOf r) (Some word) (FlagsOf p) differ = refl
word_at-with_word s (PostedOf r) (Some word) NoCell differ = refl
word_at-with_word s (LevelOf r) (Some word) (LevelOf q) differ =
    ap Number (get_or-set_other s.levels r q (number_in word) 0 (λ same. differ (ap LevelOf same)))
word_at-with_word s (LevelOf r) (Some word) (PostedOf q) differ = refl
word_at-with_word s (LevelOf r) (Some word) (FlagsOf p) differ = refl
word_at-with_word s (LevelOf r) (Some word) NoCell differ = refl
word_at-with_word s (FlagsOf p) (Some word) (FlagsOf q) differ =
    ap Flags
    (get_or-set_other s.flags p q (flags_in word) no_flags (λ same. differ (ap FlagsOf same)))
word_at-with_word s (FlagsOf p) (Some word) (PostedOf q) differ = refl
word_at-with_word s (FlagsOf p) (Some word) (LevelOf q) differ = refl
word_at-with_word s (FlagsOf p) (Some word) NoCell differ = refl
word_at-with_word s NoCell (Some word) cell differ = refl
word_at-with_word s changed None cell differ = refl

-- a phase and a returned level are no words
pub word_at-with_phase : (s : State) (pid : ℕ) (stage : Phase) (cell : Cell)
    → word_at (with_phase s pid stage) cell ≡ word_at s cell
word_at-with_phase s pid stage (PostedOf r) = refl
word_at-with_phase s pid stage (LevelOf r) = refl
word_at-with_phase s pid stage (FlagsOf p) = refl
word_at-with_phase s pid stage NoCell = refl

-- to count a wakeup as returned changes no word that events read
pub word_at-with_returned : (s : State) (wakeup : Option Wakeup) (cell : Cell)
    → word_at (with_returned s wakeup) cell ≡ word_at s cell
word_at-with_returned s None cell = refl
word_at-with_returned s (Some wakeup) (PostedOf r) = refl
word_at-with_returned s (Some wakeup) (LevelOf r) = refl
word_at-with_returned s (Some wakeup) (FlagsOf p) = refl
word_at-with_returned s (Some wakeup) NoCell = refl

-- a step changes no word but the one that it touches
pub word_at-changed_by : (s : State) (stage : Phase) (event : Event) (told : Answer) (cell : Cell)
    → cell ≢ cell_of event stage → word_at (changed_by s stage event told) cell ≡ word_at s cell
word_at-changed_by s stage event told cell differ =
    let touched = cell_of event stage in
    let written = with_word s touched (stored event stage (word_at s touched)) in
    let moved = with_phase written (pid_of event).0 (phase_after told event stage) in
    word_at-with_returned moved (returned_by told event stage) cell
    ∙ (word_at-with_phase written (pid_of event).0 (phase_after told event stage) cell
    ∙ word_at-with_word s touched (stored event stage (word_at s touched)) cell differ)

-- nor does one that may be refused
pub word_at-world_told : (s : State) (stage : Phase) (event : Event) (told : Answer) (cell : Cell)
    → cell ≢ cell_of event stage → word_at (world_told s stage event told) cell ≡ word_at s cell
word_at-world_told s stage event told cell differ = by_test (is_refusal told)
  where
    by_test : (refused : Bool)
        → word_at (if refused then s else changed_by s stage event told) cell ≡ word_at s cell
    by_test true = refl
    by_test false = word_at-changed_by s stage event told cell differ

-- who is refused stays where it is
phase_after-refusal : (told : Answer) (event : Event) (stage : Phase) → is_refusal told ≡ true
    → phase_after told event stage ≡ stage
phase_after-refusal answer.NoProc event stage refused = refl
phase_after-refusal answer.Refused event stage refused = refl
phase_after-refusal answer.NoRendez event stage refused = refl
phase_after-refusal answer.BadLevel event stage refused = refl
phase_after-refusal answer.DoubleSleep event stage refused = refl
phase_after-refusal told event stage refused = cc

phases-with_word : (s : State) (cell : Cell) (word : Option Word)
    → (with_word s cell word).phases ≡ s.phases
phases-with_word s (PostedOf r) (Some word) = refl
phases-with_word s (LevelOf r) (Some word) = refl
phases-with_word s (FlagsOf p) (Some word) = refl
phases-with_word s NoCell (Some word) = refl
phases-with_word s cell None = refl

phases-with_returned : (s : State) (wakeup : Option Wakeup)
    → (with_returned s wakeup).phases ≡ s.phases
phases-with_returned s None = refl
phases-with_returned s (Some wakeup) = refl

phases-changed_by : (s : State) (stage : Phase) (event : Event) (told : Answer)
    → (changed_by s stage event told).phases
    ≡ set s.phases (pid_of event).0 (phase_after told event stage)
phases-changed_by s stage event told =
    let touched = cell_of event stage in
    let written = with_word s touched (stored event stage (word_at s touched)) in
    let moved = with_phase written (pid_of event).0 (phase_after told event stage) in
    phases-with_returned moved (returned_by told event stage)
    ∙ ap (λ phases. set phases (pid_of event).0 (phase_after told event stage))
    (phases-with_word s touched (stored event stage (word_at s touched)))

-- the process named is where it was told
phase_of-world_told : (s : State) (event : Event) (told : Answer)
    → (pid_of event).0 < length s.phases
    → phase_of (world_told s (phase_of s (pid_of event).0) event told) (pid_of event).0
    ≡ phase_after told event (phase_of s (pid_of event).0)
phase_of-world_told s event told in_range = by_test (is_refusal told) refl
  where
    p : ℕ
    p = (pid_of event).0

    by_test : (refused : Bool) → is_refusal told ≡ refused
        → phase_of (if refused then s else changed_by s (phase_of s (pid_of event).0) event told)
        (pid_of event).0 ≡ phase_after told event (phase_of s (pid_of event).0)
    by_test true is = sym (phase_after-refusal told event (phase_of s (pid_of event).0) is)
    by_test false is =
        ap (λ phases. get_or phases (pid_of event).0 phase.Idle)
        (phases-changed_by s (phase_of s (pid_of event).0) event told)
        ∙ get_or-set_same s.phases (pid_of event).0
        (phase_after told event (phase_of s (pid_of event).0)) phase.Idle in_range

-- a process that does not exist is idle, and stays so
answer_to-no_process : (s : State) (event : Event) → length s.phases ≤ (pid_of event).0
    → answer_to s event ≡ answer.NoProc
answer_to-no_process s event past = grind (arith, nat_tests)

-- the process named is where its answer puts it
pub phase_of-world_after : (s : State) (event : Event)
    → phase_of (world_after s event) (pid_of event).0
    ≡ phase_after (answer_to s event) event (phase_of s (pid_of event).0)
phase_of-world_after s event = by_range (compare_lengths (pid_of event).0 (length s.phases))
  where
    compare_lengths : (a b : ℕ) → (a < b) ⊎ (b ≤ a)
    compare_lengths a b = grind arith

    by_range : ((pid_of event).0 < length s.phases) ⊎ (length s.phases ≤ (pid_of event).0)
        → phase_of (world_after s event) (pid_of event).0
        ≡ phase_after (answer_to s event) event (phase_of s (pid_of event).0)
    by_range (inl in_range) = phase_of-world_told s event (answer_to s event) in_range
    by_range (inr past) = rw (answer_to-no_process s event past) refl

-- no other process moves
pub phase_of-world_after_other : (s : State) (event : Event) (pid : ℕ) → pid ≢ (pid_of event).0
    → phase_of (world_after s event) pid ≡ phase_of s pid
phase_of-world_after_other s event pid differ = by_test (is_refusal (answer_to s event))
  where
    by_test : (refused : Bool)
        → phase_of (if refused then s else changed_by s (phase_of s (pid_of event).0) event
        (answer_to s event)) pid ≡ phase_of s pid
    by_test true = refl
    by_test false =
        ap (λ phases. get_or phases pid phase.Idle)
        (phases-changed_by s (phase_of s (pid_of event).0) event (answer_to s event))
        ∙ get_or-set_other s.phases (pid_of event).0 pid
        (phase_after (answer_to s event) event (phase_of s (pid_of event).0)) phase.Idle differ
