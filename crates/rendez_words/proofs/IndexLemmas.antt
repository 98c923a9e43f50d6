-- Where the word of a cell lies: what is read there, and what the words are once it is written.
use Rattle.std.proofs.Common.{◌≡◌, ◌<◌, ◌+◌, ◌-◌, ◌*◌, ℕ, Bool, true, false, List}
use Rattle.std.proofs.Common.{Option, Some, None, if◌then◌else◌, ◌++◌, length, get_or, set}
use Rattle.std.proofs.Common.{refl, sym, ◌∙◌, ap, arith}
use Rattle.std.specs.Prelude.{zip, flat_map}
use Rattle.std.proofs.lemmas.List.{get_or_append_left, get_or-append-add}
use Rattle.std.proofs.lemmas.List.{set-append_left, set-append_right, set-get_or}
use Rattle.std.proofs.lemmas.Slice.Zip.{length-zip, get_or-zip}
use Rattle.sleep_core.specs.declared.event.Event.{Event}
use Rattle.sleep_core.specs.declared.answer.Answer.{Answer}
use Rattle.sleep_core.specs.declared.phase.Phase.{Phase}
use Rattle.sleep_core.specs.State.{State, no_flags, phase_of}
use Rattle.sleep_core.specs.Table.{Cell, Word, Wakeup, pid_of, cell_of, reply, stored, phase_after}
use Rattle.sleep_core.specs.Table.{returned_by}
use Rattle.sleep_core.specs.Table.Cell.{PostedOf, LevelOf, FlagsOf, NoCell}
use Rattle.sleep_core.specs.Table.Word.{Number, Flags}
use Rattle.sleep_core.specs.Step.{with_phase, with_word, with_returned, word_at, is_refusal}
use Rattle.sleep_core.specs.Step.{answer_to, changed_by, world_told, world_after}
use Rattle.sleep_core.specs.EventTable.{word_left, word_after}
use Rattle.sleep_core.proofs.EventTableLemmas.{MayStore, stores_its_kind}
use Rattle.rendez_words.specs.declared.view.Sizes.{Sizes}
use Rattle.rendez_words.specs.Plays.{number_of, IsWordOf, IsCellIn}
use Rattle.rendez_words.specs.Rule.{rendez_line, proc_line, words_of, index_of}
use Rattle.sync_base.specs.declared.line.TheConstants.{LINE}
use Rattle.rendez_words.proofs.LineLemmas.{AreLines, length_lines, read_line, write_line}
use Rattle.rendez_words.proofs.LineLemmas.{zip-set_first, zip-set_second}

-- the world has these sizes
pub record HasSizes (sizes : Sizes) (s : State) : Type 0 where
  -- each Rendez has a posted word
  pub posted : length s.posted ≡ sizes.rendez
  -- each Rendez has a level
  pub levels : length s.levels ≡ sizes.rendez
  -- each process has flags
  pub flags : length s.flags ≡ sizes.procs
  -- each process has a phase
  pub phases : length s.phases ≡ sizes.procs

-- what a cell holds is of the cell's kind
pub word_of_cell : (sizes : Sizes) (s : State) (cell : Cell) → IsCellIn sizes cell
    → IsWordOf cell (word_at s cell)
word_of_cell sizes s (PostedOf rendez) there = tt
word_of_cell sizes s (LevelOf rendez) there = tt
word_of_cell sizes s (FlagsOf pid) there = tt
word_of_cell sizes s NoCell there = there

-- the words of each Rendez, and those of each process
abbrev both_of : State → List (ℕ × ℕ)
both_of s = zip s.posted s.levels

abbrev rendez_words : State → List ℕ
rendez_words s = flat_map rendez_line (both_of s)

abbrev proc_words : State → List ℕ
proc_words s = flat_map proc_line s.flags

rendez_lines : AreLines rendez_line
rendez_lines words = refl

proc_lines : AreLines proc_line
proc_lines flags = refl

-- each Rendez has both of its words
has_both : (sizes : Sizes) (s : State) → HasSizes sizes s → length (both_of s) ≡ sizes.rendez
has_both sizes s has =
    let posted = has.posted in
    let levels = has.levels in
    let both = length-zip s.posted s.levels in
    omega arith

-- the lines of the processes lie after all these
rendez_length : (sizes : Sizes) (s : State) → HasSizes sizes s
    → length (rendez_words s) ≡ LINE * sizes.rendez
rendez_length sizes s has =
    length_lines rendez_line rendez_lines (both_of s)
    ∙ ap (λ n. LINE * n) (has_both sizes s has)

-- the words of a Rendez, side by side
both_at : (sizes : Sizes) (s : State) (rendez : ℕ) → HasSizes sizes s → rendez < sizes.rendez
    → get_or (both_of s) rendez (0, 0) ≡ (get_or s.posted rendez 0, get_or s.levels rendez 0)
both_at sizes s rendez has there =
    let posted = has.posted in
    let levels = has.levels in
    get_or-zip s.posted s.levels rendez (0, 0) (omega arith) (omega arith)

-- what is read in the line of a Rendez
read_both : (sizes : Sizes) (s : State) (rendez j : ℕ) → HasSizes sizes s → rendez < sizes.rendez
    → j < 2
    → get_or (words_of s) (LINE * rendez + j) 0
    ≡ get_or (rendez_line (get_or s.posted rendez 0, get_or s.levels rendez 0)) j 0
read_both sizes s rendez j has there low =
    let both = has_both sizes s has in
    let before = rendez_length sizes s has in
    get_or_append_left (rendez_words s) (proc_words s) 0 (LINE * rendez + j) (omega arith)
    ∙ read_line rendez_line rendez_lines (both_of s) rendez j (0, 0) (omega arith) (omega arith)
    ∙ ap (λ words. get_or (rendez_line words) j 0) (both_at sizes s rendez has there)

-- the word of a cell is what the cell holds
pub read_there : (sizes : Sizes) (s : State) (cell : Cell) → HasSizes sizes s → IsCellIn sizes cell
    → get_or (words_of s) (index_of sizes cell) 0 ≡ number_of (word_at s cell)
read_there sizes s (PostedOf rendez) has there =
    ap (λ i. get_or (words_of s) i 0) first ∙ read_both sizes s rendez 0 has there (omega arith)
  where
    first : LINE * rendez ≡ LINE * rendez + 0
    first = omega arith
read_there sizes s (LevelOf rendez) has there = read_both sizes s rendez 1 has there (omega arith)
read_there sizes s (FlagsOf pid) has there =
    let flags = has.flags in
    ap (λ i. get_or (words_of s) i 0) first
    ∙ get_or-append-add (rendez_words s) (proc_words s) (LINE * pid + 0) 0
    ∙ read_line proc_line proc_lines s.flags pid 0 no_flags (omega arith) (omega arith)
  where
    first : LINE * (sizes.rendez + pid) ≡ length (rendez_words s) + (LINE * pid + 0)
    first = let before = rendez_length sizes s has in omega arith
read_there sizes s NoCell has there = absurd there

-- the words of a Rendez are written in its line
write_both : (sizes : Sizes) (s : State) (rendez j n : ℕ) (after : ℕ × ℕ) → HasSizes sizes s
    → rendez < sizes.rendez → j < 2
    → rendez_line after ≡ set (rendez_line (get_or (both_of s) rendez (0, 0))) j n
    → flat_map rendez_line (set (both_of s) rendez after) ++ proc_words s
    ≡ set (words_of s) (LINE * rendez + j) n
write_both sizes s rendez j n after has there low is =
    let both = has_both sizes s has in
    let before = rendez_length sizes s has in
    ap (λ words. words ++ proc_words s)
    (write_line rendez_line rendez_lines (both_of s) rendez j n (0, 0) after (omega arith)
    (omega arith) is)
    ∙ sym (set-append_left (rendez_words s) (proc_words s) (LINE * rendez + j) n (omega arith))

-- the word of a cell is written as the cell is
pub write_there : (sizes : Sizes) (s : State) (cell : Cell) (word : Word) → HasSizes sizes s
    → IsCellIn sizes cell → IsWordOf cell word
    → words_of (with_word s cell (Some word))
    ≡ set (words_of s) (index_of sizes cell) (number_of word)
write_there sizes s (PostedOf rendez) (Number n) has there fits =
    ap (λ both. flat_map rendez_line both ++ proc_words s)
    (zip-set_first s.posted s.levels rendez n)
    ∙ write_both sizes s rendez 0 n (n, get_or s.levels rendez 0) has there (omega arith)
    (ap (λ words. set (rendez_line words) 0 n) (sym (both_at sizes s rendez has there)))
    ∙ ap (λ i. set (words_of s) i n) first
  where
    first : LINE * rendez + 0 ≡ LINE * rendez
    first = omega arith
write_there sizes s (LevelOf rendez) (Number n) has there fits =
    ap (λ both. flat_map rendez_line both ++ proc_words s)
    (zip-set_second s.posted s.levels rendez n)
    ∙ write_both sizes s rendez 1 n (get_or s.posted rendez 0, n) has there (omega arith)
    (ap (λ words. set (rendez_line words) 1 n) (sym (both_at sizes s rendez has there)))
write_there sizes s (FlagsOf pid) (Flags flags) has there fits =
    let count = has.flags in
    ap (λ words. rendez_words s ++ words)
    (write_line proc_line proc_lines s.flags pid 0 (number_of (Flags flags)) no_flags flags
    (omega arith) (omega arith) refl)
    ∙ sym (set-append_right (rendez_words s) (proc_words s) (LINE * sizes.rendez)
    (LINE * (sizes.rendez + pid)) (number_of (Flags flags)) (rendez_length sizes s has)
    (omega arith)
    ∙ ap (λ i. rendez_words s ++ set (proc_words s) i (number_of (Flags flags))) less)
  where
    less : LINE * (sizes.rendez + pid) - LINE * sizes.rendez ≡ LINE * pid + 0
    less = omega arith
write_there sizes s cell word has there fits = absurd fits

-- what a row writes in a cell that is there lies there
fits_there : (sizes : Sizes) (cell : Cell) (word : Word) → IsCellIn sizes cell
    → MayStore cell (Some word) → IsWordOf cell word
fits_there sizes (PostedOf rendez) (Number n) there fits = tt
fits_there sizes (LevelOf rendez) (Number n) there fits = tt
fits_there sizes (FlagsOf pid) (Flags flags) there fits = tt
fits_there sizes cell word there fits = absurd fits

-- phases and returned levels are no words
words_of-with_returned : (s : State) (wakeup : Option Wakeup)
    → words_of (with_returned s wakeup) ≡ words_of s
words_of-with_returned s None = refl
words_of-with_returned s (Some wakeup) = refl

-- the words after a write, if there is one
words_of-with_word : (sizes : Sizes) (s : State) (cell : Cell) (new : Option Word)
    → HasSizes sizes s → IsCellIn sizes cell → MayStore cell new
    → words_of (with_word s cell new) ≡ set (words_of s) (index_of sizes cell)
    (number_of (word_left (word_at s cell) new))
words_of-with_word sizes s cell None has there fits =
    sym (ap (set (words_of s) (index_of sizes cell)) (sym (read_there sizes s cell has there))
    ∙ set-get_or (words_of s) (index_of sizes cell) 0)
words_of-with_word sizes s cell (Some word) has there fits =
    write_there sizes s cell word has there (fits_there sizes cell word there fits)

-- the words after an event that was told this
words_told : (sizes : Sizes) (s : State) (event : Event) (stage : Phase) (told : Answer)
    → HasSizes sizes s → IsCellIn sizes (cell_of event stage)
    → words_of (world_told s stage event told)
    ≡ set (words_of s) (index_of sizes (cell_of event stage))
    (number_of (if is_refusal told then word_at s (cell_of event stage) else word_left
    (word_at s (cell_of event stage)) (stored event stage (word_at s (cell_of event stage)))))
words_told sizes s event stage told has there = by_test (is_refusal told)
  where
    cell : Cell
    cell = cell_of event stage

    found : Word
    found = word_at s (cell_of event stage)

    by_test : (refused : Bool) → words_of (if refused then s else changed_by s stage event told)
        ≡ set (words_of s) (index_of sizes (cell_of event stage))
        (number_of (if refused then word_at s (cell_of event stage) else word_left
        (word_at s (cell_of event stage)) (stored event stage (word_at s (cell_of event stage)))))
    by_test true =
        sym (ap (set (words_of s) (index_of sizes cell)) (sym (read_there sizes s cell has there))
        ∙ set-get_or (words_of s) (index_of sizes cell) 0)
    by_test false =
        words_of-with_returned (with_phase (with_word s cell (stored event stage found))
        (pid_of event).0 (phase_after told event stage)) (returned_by told event stage)
        ∙ words_of-with_word sizes s cell (stored event stage found) has there
        (stores_its_kind event stage found)

-- an event that may come changes the word of its cell
pub words_after : (sizes : Sizes) (s : State) (event : Event) → HasSizes sizes s
    → IsCellIn sizes (cell_of event (phase_of s (pid_of event).0))
    → answer_to s event ≡ reply event (phase_of s (pid_of event).0)
    (word_at s (cell_of event (phase_of s (pid_of event).0)))
    → words_of (world_after s event)
    ≡ set (words_of s) (index_of sizes (cell_of event (phase_of s (pid_of event).0)))
    (number_of (word_after event (phase_of s (pid_of event).0)
    (word_at s (cell_of event (phase_of s (pid_of event).0)))))
words_after sizes s event has there answered =
    ap (λ told. words_of (world_told s (phase_of s (pid_of event).0) event told)) answered
    ∙ words_told sizes s event (phase_of s (pid_of event).0)
    (reply event (phase_of s (pid_of event).0)
    (word_at s (cell_of event (phase_of s (pid_of event).0)))) has there
