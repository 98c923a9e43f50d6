-- Each kind of step asks what its row of the table says.
use Rattle.std.proofs.Common.{◌≡◌, ◌≢◌, ◌==◌, ◌⊎◌, inl, inr, ℕ, ◌+◌, ◌<◌, max, bit_or, eqb, Bool}
use Rattle.std.proofs.Common.{true, false, if◌then◌else◌, Some, None, refl, sym, ◌∙◌, ap, subst}
use Rattle.std.proofs.lemmas.Bool.Decides.{eqb_tells}
use prog.Atomic.{either}
use Rattle.sync_base.specs.declared.ids.RendezId.{RendezId}
use Rattle.sync_base.specs.declared.ids.Pid.{Pid}
use Rattle.sync_base.specs.declared.limits.TheConstants.{TOP_LEVEL}
use Rattle.sync_base.specs.declared.note.NoteSet.{NoteSet}
use Rattle.sync_base.specs.NoteSet.{no_notes}
use Rattle.sleep_core.specs.declared.event.Event.{Event}
use Rattle.sleep_core.specs.declared.event.Event.TheVariants.{Post, Test, Look, Withdraw, Clear}
use Rattle.sleep_core.specs.declared.event.Event.TheVariants.{Raise, Take, Mark, Note, Drain, Check}
use Rattle.sleep_core.specs.declared.answer.Answer.TheVariants as answer
use Rattle.sleep_core.specs.declared.phase.Phase.{Phase}
use Rattle.sleep_core.specs.declared.phase.Phase.TheVariants as phase
use Rattle.sleep_core.specs.State.{nobody, posted_as, sleeper_in, no_flags}
use Rattle.sleep_core.specs.Table.{Cell, Word, pid_of, cell_of, has_notes}
use Rattle.sleep_core.specs.Table.Cell.{PostedOf, LevelOf, FlagsOf}
use Rattle.sleep_core.specs.Table.Word.{Number, Flags, NoWord}
use Rattle.sleep_core.specs.Step.{is_refusal}
use Rattle.sleep_core.specs.EventTable.{word_left, word_after}
use Rattle.sleep_core.specs.Runs.{IsMadeBy}
use Rattle.rendez_words.specs.declared.words.Words.{Words}
use Rattle.rendez_words.specs.FlagsWord.{flags_word}
use Rattle.rendez_words.specs.Plays.{IsStage, number_of, IsWordOf, IsCellIn, part_of, IsStep}
use Rattle.rendez_words.specs.Process.{Process, phase_in, pid_in}
use Rattle.rendez_words.specs.Rule.{index_of}
use Rattle.rendez_words.specs.States.{IsLooking, IsEnding}
use Rattle.rendez_words.specs.Words.{IsProcessOf, sizes_of, procs_of, rendez_of}
use Rattle.rendez_words.proofs.FlagsLemmas.{or_mark, or_notes}
use Rattle.rendez_words.proofs.ProcessLemmas.{in_phase}

-- different numbers are told apart
test_differs : (a b : ℕ) → a ≢ b → (a == b) ≡ false
test_differs a b differ = by_test (eqb_tells a b)
  where
    by_test : (((a == b) ≡ true) × (a ≡ b)) ⊎ (((a == b) ≡ false) × (a ≢ b)) → (a == b) ≡ false
    by_test (inl same) = absurd (differ same.1)
    by_test (inr other) = other.0

-- an event of the process itself, in the phase that its steps give
own_step : (words : Words) (process : Process) (event : Event) (stage : Phase) (cell : Cell)
    (word : ℕ) (does : ℕ → ℕ)
    → IsProcessOf words process → IsMadeBy process.pid event → (pid_of event).0 ≡ process.pid
    → ((at : Phase) → IsStage process.trace event at → at ≡ phase_in process)
    → phase_in process ≡ stage
    → cell_of event stage ≡ cell → IsCellIn (sizes_of words) cell
    → word ≡ index_of (sizes_of words) cell
    → ((found : Word) → IsWordOf cell found → does (number_of found)
    ≡ number_of (word_after event stage found))
    → IsStep (sizes_of words) event (part_of process) word does
own_step words process event stage cell word does is made names in_own stage_is cell_is there
    word_is does_is =
    record {
      cell = cell;
      maker_is = made;
      pid_in = subst (λ n. n < procs_of words) (sym names) is.pid;
      cell_is = λ at in_stage. ap (cell_of event) (in_own at in_stage ∙ stage_is) ∙ cell_is;
      cell_in = there;
      word_is = word_is;
      does_is = λ at in_stage found fits.
          does_is found fits ∙ ap (λ stage. number_of (word_after event stage found))
          (sym (in_own at in_stage ∙ stage_is));
    }

-- Post
post_does : (process : Process) (rendez : RendezId) (threshold : ℕ) → threshold ≢ TOP_LEVEL
    → (found : Word) → IsWordOf (PostedOf rendez.0) found
    → either (eqb (number_of found) nobody) (posted_as process.pid) (number_of found)
    ≡ number_of (word_after (Post (pid_in process) rendez threshold) phase.Idle found)
post_does process rendez threshold low (Number n) fits =
    by_test (threshold == TOP_LEVEL) (test_differs threshold TOP_LEVEL low) (n == nobody)
  where
    by_test : (top : Bool) → top ≡ false → (empty : Bool) → either empty (posted_as process.pid) n
        ≡ number_of (if is_refusal (if top then answer.BadLevel else
        (if empty then answer.Posted else answer.DoubleSleep)) then Number n else Number
        (posted_as process.pid))
    by_test true is empty = cc
    by_test false is true = refl
    by_test false is false = refl
post_does process rendez threshold low word fits = absurd fits

-- a post by an idle process is an exchange of nobody for its pid on the posted word
pub post_step : (words : Words) (process : Process) (pid : Pid) (rendez : RendezId)
    (threshold word : ℕ) → pid ≡ pid_in process
    → IsProcessOf words process → phase_in process ≡ phase.Idle → rendez.0 < rendez_of words
    → threshold ≢ TOP_LEVEL
    → word ≡ index_of (sizes_of words) (PostedOf rendez.0)
    → IsStep (sizes_of words) (Post pid rendez threshold) (part_of process) word
    (λ n. either (eqb n 0) (pid.0 + 1) n)
post_step words process pid rendez threshold word pid_is is idle there low word_is =
    subst (λ (p : Pid). IsStep (sizes_of words) (Post p rendez threshold) (part_of process) word
    (λ n. either (eqb n 0) (p.0 + 1) n)) (sym pid_is)
    (own_step words process (Post (pid_in process) rendez threshold) phase.Idle
    (PostedOf rendez.0) word (λ n. either (eqb n 0) (process.pid + 1) n)
    is refl refl (λ at same. same) idle refl there word_is (post_does process rendez threshold low))

-- Test
test_does : (process : Process) (rendez : RendezId) (threshold : ℕ) (found : Word)
    → IsWordOf (LevelOf rendez.0) found
    → number_of found ≡ number_of (word_after (Test (pid_in process))
    (phase.Posted rendez threshold) found)
test_does process rendez threshold (Number n) fits =
    by_test (Rattle.std.specs.Prelude.nat_lt threshold n)
  where
    by_test : (above : Bool)
        → n ≡ number_of (if is_refusal (if above then answer.Leaving else answer.Asleep) then Number
        n else Number n)
    by_test true = refl
    by_test false = refl
test_does process rendez threshold word fits = absurd fits

-- a test by a posted process is a load of the level of its Rendez
pub test_step : (words : Words) (process : Process) (pid : Pid) (rendez : RendezId)
    (threshold word : ℕ) → pid ≡ pid_in process
    → IsProcessOf words process → phase_in process ≡ phase.Posted rendez threshold
    → word ≡ index_of (sizes_of words) (LevelOf rendez.0)
    → IsStep (sizes_of words) (Test pid) (part_of process) word (λ n. n)
test_step words process pid rendez threshold word pid_is is posted word_is =
    subst (λ (p : Pid). IsStep (sizes_of words) (Test p) (part_of process) word (λ n. n))
    (sym pid_is)
    (own_step words process (Test (pid_in process)) (phase.Posted rendez threshold)
    (LevelOf rendez.0) word (λ n. n)
    is refl refl (λ at same. same) posted refl
    (in_phase words process (phase.Posted rendez threshold) is posted) word_is
    (test_does process rendez threshold))

-- Look
look_does : (process : Process) (notes_end : Bool) (stage : Phase) (found : Word)
    → IsLooking notes_end stage → IsWordOf (FlagsOf process.pid) found
    → number_of found ≡ number_of (word_after (Look (pid_in process)) stage found)
look_does process true (phase.Asleep rendez threshold) (Flags flags) looks fits =
    by_test flags.wake (has_notes flags.notes)
  where
    by_test : (wake notes : Bool) → flags_word flags
        ≡ number_of (if is_refusal (if wake then answer.Woken else
        (if notes then answer.Leaving else answer.Parked)) then Flags flags else Flags flags)
    by_test true notes = refl
    by_test false true = refl
    by_test false false = refl
look_does process false phase.Awaiting (Flags flags) looks fits = by_test flags.wake
  where
    by_test : (wake : Bool) → flags_word flags
        ≡ number_of (if is_refusal (if wake then answer.Woken else answer.Parked) then Flags flags
        else Flags flags)
    by_test true = refl
    by_test false = refl
look_does process notes_end stage (Number n) looks fits = absurd fits
look_does process notes_end stage NoWord looks fits = absurd fits
look_does process notes_end stage (Flags flags) looks fits = absurd looks

look_cell : (process : Process) (notes_end : Bool) (stage : Phase) → IsLooking notes_end stage
    → cell_of (Look (pid_in process)) stage ≡ FlagsOf process.pid
look_cell process true (phase.Asleep rendez threshold) looks = refl
look_cell process false phase.Awaiting looks = refl
look_cell process notes_end stage looks = absurd looks

-- a look by a process that waits is a load of its own flags
pub look_step : (words : Words) (process : Process) (pid : Pid) (notes_end : Bool) (word : ℕ)
    → pid ≡ pid_in process
    → IsProcessOf words process → IsLooking notes_end (phase_in process)
    → word ≡ index_of (sizes_of words) (FlagsOf pid.0)
    → IsStep (sizes_of words) (Look pid) (part_of process) word (λ n. n)
look_step words process pid notes_end word pid_is is looks word_is =
    subst (λ (p : Pid). IsStep (sizes_of words) (Look p) (part_of process) word (λ n. n))
    (sym pid_is)
    (own_step words process (Look (pid_in process)) (phase_in process) (FlagsOf process.pid) word
    (λ n. n)
    is refl refl (λ at same. same) refl (look_cell process notes_end (phase_in process) looks)
    is.pid (word_is ∙ ap (λ (p : Pid). index_of (sizes_of words) (FlagsOf p.0)) pid_is)
    (λ found. look_does process notes_end (phase_in process) found looks))

-- Withdraw
withdraw_does : (process : Process) (rendez : RendezId) (found : Word)
    → IsWordOf (PostedOf rendez.0) found
    → either (eqb (number_of found) (posted_as process.pid)) nobody (number_of found)
    ≡ number_of (word_after (Withdraw (pid_in process)) (phase.Leaving rendez) found)
withdraw_does process rendez (Number n) fits = by_test (n == posted_as process.pid)
  where
    by_test : (mine : Bool) → either mine nobody n
        ≡ number_of (if is_refusal (if mine then answer.Out else answer.Awaiting) then Number n else
        word_left (Number n) (if mine then Some (Number nobody) else None))
    by_test true = refl
    by_test false = refl
withdraw_does process rendez word fits = absurd fits

-- a withdrawal by a leaving process is an exchange of its pid for nobody on the posted word
pub withdraw_step : (words : Words) (process : Process) (pid : Pid) (rendez : RendezId) (word : ℕ)
    → pid ≡ pid_in process
    → IsProcessOf words process → phase_in process ≡ phase.Leaving rendez
    → word ≡ index_of (sizes_of words) (PostedOf rendez.0)
    → IsStep (sizes_of words) (Withdraw pid) (part_of process) word
    (λ n. either (eqb n (pid.0 + 1)) 0 n)
withdraw_step words process pid rendez word pid_is is leaving word_is =
    subst (λ (p : Pid). IsStep (sizes_of words) (Withdraw p) (part_of process) word
    (λ n. either (eqb n (p.0 + 1)) 0 n)) (sym pid_is)
    (own_step words process (Withdraw (pid_in process)) (phase.Leaving rendez)
    (PostedOf rendez.0) word (λ n. either (eqb n (process.pid + 1)) 0 n)
    is refl refl (λ at same. same) leaving refl
    (in_phase words process (phase.Leaving rendez) is leaving) word_is
    (withdraw_does process rendez))

-- Clear
clear_does : (process : Process) (stage : Phase) (found : Word) → IsEnding stage
    → IsWordOf (FlagsOf process.pid) found
    → 0 ≡ number_of (word_after (Clear (pid_in process)) stage found)
clear_does process phase.Out (Flags flags) ends fits = by_test (has_notes flags.notes)
  where
    by_test : (some_note : Bool) → 0 ≡ number_of
        (if is_refusal (if some_note then answer.Interrupted flags.notes else answer.Cleared) then
        Flags flags else Flags no_flags)
    by_test true = refl
    by_test false = refl
clear_does process phase.Woken (Flags flags) ends fits = by_test (has_notes flags.notes)
  where
    by_test : (some_note : Bool) → 0 ≡ number_of
        (if is_refusal (if some_note then answer.Interrupted flags.notes else answer.Cleared) then
        Flags flags else Flags no_flags)
    by_test true = refl
    by_test false = refl
clear_does process stage (Number n) ends fits = absurd fits
clear_does process stage NoWord ends fits = absurd fits
clear_does process stage (Flags flags) ends fits = absurd ends

clear_cell : (process : Process) (stage : Phase) → IsEnding stage
    → cell_of (Clear (pid_in process)) stage ≡ FlagsOf process.pid
clear_cell process phase.Out ends = refl
clear_cell process phase.Woken ends = refl
clear_cell process stage ends = absurd ends

-- a clear by a process whose sleep ends is a swap of its own flags for none
pub clear_step : (words : Words) (process : Process) (pid : Pid) (word : ℕ) → pid ≡ pid_in process
    → IsProcessOf words process → IsEnding (phase_in process)
    → word ≡ index_of (sizes_of words) (FlagsOf pid.0)
    → IsStep (sizes_of words) (Clear pid) (part_of process) word (λ _. 0)
clear_step words process pid word pid_is is ends word_is =
    subst (λ (p : Pid). IsStep (sizes_of words) (Clear p) (part_of process) word (λ _. 0))
    (sym pid_is)
    (own_step words process (Clear (pid_in process)) (phase_in process) (FlagsOf process.pid) word
    (λ _. 0)
    is refl refl (λ at same. same) refl (clear_cell process (phase_in process) ends) is.pid (word_is
    ∙ ap (λ (p : Pid). index_of (sizes_of words) (FlagsOf p.0)) pid_is)
    (λ found. clear_does process (phase_in process) found ends))

-- Raise
raise_does : (process : Process) (rendez : RendezId) (level : ℕ) (found : Word)
    → IsWordOf (LevelOf rendez.0) found
    → max (number_of found) level ≡ number_of
    (word_after (Raise (pid_in process) rendez level) phase.Idle found)
raise_does process rendez level (Number n) fits = refl
raise_does process rendez level word fits = absurd fits

-- a raise by an idle process makes the level of the Rendez the greater of the two
pub raise_step : (words : Words) (process : Process) (pid : Pid) (rendez : RendezId)
    (level word : ℕ) → pid ≡ pid_in process
    → IsProcessOf words process → phase_in process ≡ phase.Idle → rendez.0 < rendez_of words
    → word ≡ index_of (sizes_of words) (LevelOf rendez.0)
    → IsStep (sizes_of words) (Raise pid rendez level) (part_of process) word (λ n. max n level)
raise_step words process pid rendez level word pid_is is idle there word_is =
    subst (λ (p : Pid). IsStep (sizes_of words) (Raise p rendez level) (part_of process) word
    (λ n. max n level)) (sym pid_is)
    (own_step words process (Raise (pid_in process) rendez level) phase.Idle (LevelOf rendez.0) word
    (λ n. max n level)
    is refl refl (λ at same. same) idle refl there word_is (raise_does process rendez level))

-- Take
take_does : (process : Process) (rendez : RendezId) (level : ℕ) (found : Word)
    → IsWordOf (PostedOf rendez.0) found
    → 0 ≡ number_of (word_after (Take (pid_in process)) (phase.Owing rendez level) found)
take_does process rendez level (Number n) fits = by_test (n == nobody)
  where
    by_test : (empty : Bool)
        → 0 ≡ number_of (if is_refusal (if empty then answer.Nobody else answer.Holding
        (record { 0 = sleeper_in n })) then Number n else Number nobody)
    by_test true = refl
    by_test false = refl
take_does process rendez level word fits = absurd fits

-- a take by a process that owes one is a swap of the posted word for nobody
pub take_step : (words : Words) (process : Process) (pid : Pid) (rendez : RendezId) (level word : ℕ)
    → pid ≡ pid_in process
    → IsProcessOf words process → phase_in process ≡ phase.Owing rendez level
    → word ≡ index_of (sizes_of words) (PostedOf rendez.0)
    → IsStep (sizes_of words) (Take pid) (part_of process) word (λ _. 0)
take_step words process pid rendez level word pid_is is owing word_is =
    subst (λ (p : Pid). IsStep (sizes_of words) (Take p) (part_of process) word (λ _. 0))
    (sym pid_is)
    (own_step words process (Take (pid_in process)) (phase.Owing rendez level)
    (PostedOf rendez.0) word (λ _. 0)
    is refl refl (λ at same. same) owing refl
    (in_phase words process (phase.Owing rendez level) is owing) word_is
    (take_does process rendez level))

-- Mark
mark_does : (process : Process) (sleeper : Pid) (rendez : RendezId) (level : ℕ) (found : Word)
    → IsWordOf (FlagsOf sleeper.0) found
    → bit_or (number_of found) (flags_word (record { wake = true; notes = no_notes }))
    ≡ number_of (word_after (Mark (pid_in process)) (phase.Holding sleeper rendez level) found)
mark_does process sleeper rendez level (Flags flags) fits = or_mark flags
mark_does process sleeper rendez level word fits = absurd fits

-- a mark by a process that holds a sleeper sets the mark among that sleeper's flags
pub mark_step : (words : Words) (process : Process) (pid : Pid) (sleeper : Pid) (rendez : RendezId)
    (level word bits : ℕ) → pid ≡ pid_in process
    → IsProcessOf words process → phase_in process ≡ phase.Holding sleeper rendez level
    → word ≡ index_of (sizes_of words) (FlagsOf sleeper.0)
    → bits ≡ flags_word (record { wake = true; notes = no_notes })
    → IsStep (sizes_of words) (Mark pid) (part_of process) word (λ n. bit_or n bits)
mark_step words process pid sleeper rendez level word bits pid_is is holding word_is bits_are =
    subst (λ (p : Pid). IsStep (sizes_of words) (Mark p) (part_of process) word
    (λ n. bit_or n bits)) (sym pid_is)
    (own_step words process (Mark (pid_in process)) (phase.Holding sleeper rendez level)
    (FlagsOf sleeper.0) word (λ n. bit_or n bits)
    is refl refl (λ at same. same) holding refl
    (in_phase words process (phase.Holding sleeper rendez level) is holding).0 word_is
    (λ found fits. ap (bit_or (number_of found)) bits_are
    ∙ mark_does process sleeper rendez level found fits))

-- Note
note_does : (pid : Pid) (new : NoteSet) (stage : Phase) (found : Word)
    → IsWordOf (FlagsOf pid.0) found
    → bit_or (number_of found) (flags_word (record { wake = false; notes = new }))
    ≡ number_of (word_after (Note pid new) stage found)
note_does pid new stage (Flags flags) fits = or_notes flags new
note_does pid new stage word fits = absurd fits

-- a note sets its bits, and not the mark, among the flags of whom it is posted to
pub note_step : (words : Words) (process : Process) (pid : Pid) (new : NoteSet) (word bits : ℕ)
    → pid.0 < procs_of words
    → word ≡ index_of (sizes_of words) (FlagsOf pid.0)
    → bits ≡ flags_word (record { wake = false; notes = new })
    → IsStep (sizes_of words) (Note pid new) (part_of process) word (λ n. bit_or n bits)
note_step words process pid new word bits there word_is bits_are =
    record {
      cell = FlagsOf pid.0;
      maker_is = tt;
      pid_in = there;
      cell_is = λ at in_stage. refl;
      cell_in = there;
      word_is = word_is;
      does_is = λ at in_stage found fits. ap (bit_or (number_of found)) bits_are
          ∙ note_does pid new at found fits;
    }

-- Drain
drain_does : (process : Process) (found : Word) → IsWordOf (FlagsOf process.pid) found
    → 0 ≡ number_of (word_after (Drain (pid_in process)) phase.Idle found)
drain_does process (Flags flags) fits = refl
drain_does process word fits = absurd fits

-- a drain by an idle process is a swap of its own flags for none
pub drain_step : (words : Words) (process : Process) (pid : Pid) (word : ℕ) → pid ≡ pid_in process
    → IsProcessOf words process → phase_in process ≡ phase.Idle
    → word ≡ index_of (sizes_of words) (FlagsOf pid.0)
    → IsStep (sizes_of words) (Drain pid) (part_of process) word (λ _. 0)
drain_step words process pid word pid_is is idle word_is =
    subst (λ (p : Pid). IsStep (sizes_of words) (Drain p) (part_of process) word (λ _. 0))
    (sym pid_is)
    (own_step words process (Drain (pid_in process)) phase.Idle (FlagsOf process.pid) word (λ _. 0)
    is refl refl (λ at same. same) idle refl is.pid (word_is
    ∙ ap (λ (p : Pid). index_of (sizes_of words) (FlagsOf p.0)) pid_is) (drain_does process))

-- Check
check_does : (process : Process) (rendez : RendezId) (threshold : ℕ) (found : Word)
    → IsWordOf (PostedOf rendez.0) found
    → number_of found ≡ number_of (word_after (Check (pid_in process))
    (phase.Asleep rendez threshold) found)
check_does process rendez threshold (Number n) fits = by_test (n == posted_as process.pid)
  where
    by_test : (mine : Bool)
        → n ≡ number_of (if is_refusal (if mine then answer.Posted else answer.Released) then Number
        n else Number n)
    by_test true = refl
    by_test false = refl
check_does process rendez threshold word fits = absurd fits

-- a check by a process that is asleep is a load of the posted word of its Rendez
pub check_step : (words : Words) (process : Process) (pid : Pid) (rendez : RendezId)
    (threshold word : ℕ) → pid ≡ pid_in process
    → IsProcessOf words process → phase_in process ≡ phase.Asleep rendez threshold
    → word ≡ index_of (sizes_of words) (PostedOf rendez.0)
    → IsStep (sizes_of words) (Check pid) (part_of process) word (λ n. n)
check_step words process pid rendez threshold word pid_is is asleep word_is =
    subst (λ (p : Pid). IsStep (sizes_of words) (Check p) (part_of process) word (λ n. n))
    (sym pid_is)
    (own_step words process (Check (pid_in process)) (phase.Asleep rendez threshold)
    (PostedOf rendez.0) word (λ n. n)
    is refl refl (λ at same. same) asleep refl
    (in_phase words process (phase.Asleep rendez threshold) is asleep) word_is
    (check_does process rendez threshold))
