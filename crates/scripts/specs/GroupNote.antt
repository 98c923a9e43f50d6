-- A line `notepg`, as it is read and answered: its list of processes is walked as it is written,
-- but for the first process.
use Rattle.std.specs.Prelude.{◌≡◌, ℕ, List, ◌∷◌, ◌++◌, Option, Some}
use Rattle.std.specs.Option.{option_map}
use Rattle.sync_base.specs.declared.note.NoteSet.{NoteSet}
use Rattle.sleep_core.specs.State.{State}
use Rattle.sleep_core.specs.Runs.{world_after_all}
use Rattle.scripts.specs.declared.group_line.GroupNote.{GroupNote}
use Rattle.scripts.specs.declared.group_line.PidList.{PidList}
use Rattle.scripts.specs.Lines.{BeginsWithLine, is_comma, parts_of_rest}
use Rattle.scripts.specs.Schedule.{answer_lines, group_of, notes_to, pids_of, rising_after}
use Rattle.scripts.specs.Script.{Growth}
use Rattle.scripts.specs.ScriptLaws.{lines_text}

-- these processes, where the others rise above the first
abbrev pub listed : PidList → Option (List ℕ)
listed pids =
    option_map (λ more. pids.first ∷ more)
    (rising_after (Some pids.first) (parts_of_rest is_comma pids.others))

-- the word names these processes, which rise
pub record AskPids (word : List ℕ) (pids : PidList) : Type 0 where
  pub named : List ℕ
  pub rise : pids_of word ≡ Some named
  pub same : listed pids ≡ Some named

-- the words ask for these notes to these processes
pub record AskGroup (words : List (List ℕ)) (group : GroupNote) : Type 0 where
  pub pids : List ℕ
  pub written : listed group.pids ≡ Some pids
  pub ask : group_of words ≡ Some (notes_to group.notes pids)

-- the text begins with a line that asks for these notes, before the rest
pub record BeginsWithGroup (text : List ℕ) (group : GroupNote) (rest : List ℕ) : Type 0 where
  pub words : List (List ℕ)
  pub begins : BeginsWithLine text words rest
  pub asked : AskGroup words group

-- these notes were posted to each of these processes in turn, and each answer has its line
pub record PostsEach (notes : NoteSet) (pids : List ℕ) (world now : State) (output : Growth)
    : Type 0 where
  pub after : now ≡ world_after_all world (notes_to notes pids)
  pub text : output.after ≡ output.before
      ++ lines_text (answer_lines world (notes_to notes pids))
