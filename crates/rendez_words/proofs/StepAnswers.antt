-- What a step's own function answers: the seat of the process may make the event, and what the step
-- told its seat is what the process has made.
use Rattle.std.proofs.Common.{◌≡◌, ℕ, ◌<◌, sym, subst, arith}
use Rattle.atomic_table.specs.Table as table
use Rattle.sleep_core.specs.declared.event.Event.{Event}
use Rattle.sleep_core.specs.Table.{Cell}
use Rattle.sleep_core.specs.Table.Cell.{PostedOf, LevelOf, FlagsOf, NoCell}
use Rattle.rendez_words.specs.declared.view.Part.{Part}
use Rattle.rendez_words.specs.declared.view.Sizes.{Sizes}
use Rattle.rendez_words.specs.Plays.{Seated, IsCellIn, part_of, IsStep, HasStepped}
use Rattle.rendez_words.specs.Plays.{HasMadeWhereEmpty}
use Rattle.rendez_words.specs.Process.{Process}
use Rattle.rendez_words.specs.Rule.{index_of, ShowsCore}
use Rattle.rendez_words.specs.States.{Stepper, process_at, IsStepperOf}
use Rattle.rendez_words.specs.View.{word_count}
use Rattle.rendez_words.proofs.StepKeeps.{step_keeps, where_empty_keeps}

-- the word of a cell is one of the words
in_words : (sizes : Sizes) (cell : Cell) → IsCellIn sizes cell
    → index_of sizes cell < word_count sizes
in_words sizes (PostedOf rendez) there = omega arith
in_words sizes (LevelOf rendez) there = omega arith
in_words sizes (FlagsOf pid) there = omega arith
in_words sizes NoCell there = absurd there

-- the word of a step is one of the table's words
pub step_in : (sizes key : Sizes) (event : Event) (part : Part) (word words : ℕ) (does : ℕ → ℕ)
    → sizes ≡ key → words ≡ word_count key
    → IsStep sizes event part word does → word < words
step_in sizes key event part word words does same count step =
    subst (λ n. word < n) (sym count)
    (subst (λ (k : Sizes). word < word_count k) same
    (subst (λ n. n < word_count sizes) (sym step.word_is)
    (in_words sizes step.cell step.cell_in)))

-- a step by the seat of a process keeps the rule, and makes its event
pub step_allowed : (sizes key : Sizes) (at : Stepper) (pid : ℕ) (process : Process) (slots : ℕ)
    (event : Event) (word : ℕ) (does : ℕ → ℕ) → sizes ≡ key → IsStepperOf at pid
    → process_at at pid ≡ process
    → IsStep sizes event (part_of process) word does
    → table.Allows (ShowsCore key) slots at.id at.me word does
    (λ found after. HasStepped sizes event at.me found after)
step_allowed sizes key at pid process slots event word does same stepper_is is step =
    subst (λ (k : Sizes). table.Allows (ShowsCore k) slots at.id at.me word does
    (λ found after. HasStepped sizes event at.me found after)) same
    (step_keeps sizes slots at.id at.me (part_of (process_at at pid)) event word does stepper_is
    (subst (λ (p : Process). IsStep sizes event (part_of p) word does) (sym is) step))

-- a load by the seat of a process keeps the rule, and makes its event where the word is empty
pub where_empty_allowed : (sizes key : Sizes) (at : Stepper) (pid : ℕ) (process : Process)
    (slots : ℕ) (event : Event) (word : ℕ) → sizes ≡ key → IsStepperOf at pid
    → process_at at pid ≡ process
    → IsStep sizes event (part_of process) word (λ _. 0)
    → table.Allows (ShowsCore key) slots at.id at.me word (λ n. n)
    (λ found after. HasMadeWhereEmpty sizes event at.me found after)
where_empty_allowed sizes key at pid process slots event word same stepper_is is step =
    subst (λ (k : Sizes). table.Allows (ShowsCore k) slots at.id at.me word (λ n. n)
    (λ found after. HasMadeWhereEmpty sizes event at.me found after)) same
    (subst (λ (me : Seated). table.Allows (ShowsCore sizes) slots at.id me word (λ n. n)
    (λ found after. HasMadeWhereEmpty sizes event me found after)) (sym stepper_is)
    (where_empty_keeps sizes slots at.id (part_of (process_at at pid)) event word
    (subst (λ (p : Process). IsStep sizes event (part_of p) word (λ _. 0)) (sym is) step)))
