-- The rule of the table, which holds between any two atomic steps: the words and what the seats
-- know show a state of the core.
use Rattle.std.specs.Prelude.{◌≡◌, ◌≢◌, ◌<◌, ◌≤◌, ◌+◌, ◌-◌, ◌*◌, ⊤, ℕ}
use Rattle.std.specs.Prelude.{List, [], ◌∷◌, ◌++◌, length, replicate, zip, flat_map}
use mathlib.Core.Option.{some}
use lib.ListN.{get_elem?}
use Rattle.atomic_table.specs.Table as table
use Rattle.sleep_core.specs.declared.phase.ProcFlags.{ProcFlags}
use Rattle.sleep_core.specs.State.{State}
use Rattle.sleep_core.specs.Runs.{Entry, IsRun, world_of, own, kept}
use Rattle.sleep_core.specs.Table.{Cell}
use Rattle.sleep_core.specs.Table.Cell.{PostedOf, LevelOf, FlagsOf, NoCell}
use Rattle.rendez_words.specs.declared.view.Part.{Part}
use Rattle.rendez_words.specs.declared.view.Sizes.{Sizes}
use Rattle.rendez_words.specs.declared.view.View.{View}
use Rattle.rendez_words.specs.declared.view.View.TheVariants as view
use Rattle.sync_base.specs.declared.line.TheConstants.{LINE}
use Rattle.rendez_words.specs.FlagsWord.{flags_word}

-- these words with a line to themselves: the rest of the line is 0 for ever
abbrev pub line : List ℕ → List ℕ
line words = words ++ replicate (LINE - length words) 0

-- the line of a Rendez: who is posted in it, and its level
abbrev pub rendez_line : ℕ × ℕ → List ℕ
rendez_line words = line (words.0 ∷ words.1 ∷ [])

-- the line of a process: its flags
abbrev pub proc_line : ProcFlags → List ℕ
proc_line flags = line (flags_word flags ∷ [])

-- the words of a world: the line of each Rendez, and then the line of each process
abbrev pub words_of : State → List ℕ
words_of state =
    flat_map rendez_line (zip state.posted state.levels) ++ flat_map proc_line state.flags

-- where the word of a cell lies among them
abbrev pub index_of : Sizes → Cell → ℕ
index_of sizes (PostedOf rendez) = LINE * rendez
index_of sizes (LevelOf rendez) = LINE * rendez + 1
index_of sizes (FlagsOf pid) = LINE * (sizes.rendez + pid)
index_of sizes NoCell = 0

-- A seat has this process: no other seat has its pid, and its trace is what the run has of it,
-- without the steps that are not worth keeping.
pub record IsSeated (procs : ℕ) (run : List Entry) (owner : ℕ → ℕ) (seat : ℕ)
    (part : Part) : Type 0 where
  pub pid_in : part.pid < procs
  pub owner_is : owner part.pid ≡ seat
  pub trace_is : part.trace ≡ kept (own part.pid run)

-- the pid was not given: it belongs to the seat of all pids to come, and no step of the run is by
-- it
pub record IsUnused (run : List Entry) (owner : ℕ → ℕ) (seat pid : ℕ) : Type 0 where
  pub owner_is : owner pid ≡ seat
  pub none : own pid run ≡ []

-- a joined seat has two processes
pub record AreSeated (procs : ℕ) (run : List Entry) (owner : ℕ → ℕ) (seat : ℕ)
    (sleeper raiser : Part) : Type 0 where
  pub first : IsSeated procs run owner seat sleeper
  pub second : IsSeated procs run owner seat raiser
  pub differ : sleeper.pid ≢ raiser.pid

-- what a seat knows holds
abbrev pub Fits : ℕ → List Entry → (ℕ → ℕ) → ℕ → View → Type 0
Fits procs run owner seat (view.Process part) = IsSeated procs run owner seat part
Fits procs run owner seat (view.Pids next) =
    (pid : ℕ) → next ≤ pid → IsUnused run owner seat pid
Fits procs run owner seat (view.Joined sleeper raiser) =
    AreSeated procs run owner seat sleeper raiser
Fits procs run owner seat view.Spent = ⊤

-- The rule. Own: there is a run of the core that ends in just these words. Each step of it is by
-- the process whose seat made it, and each seat knows its own part of it.
pub record ShowsCore (sizes : Sizes) (s : table.State (Unit {0}) View) : Type 0 where
  pub run : List Entry
  pub owner : ℕ → ℕ
  pub legal : IsRun sizes.procs sizes.rendez run
  pub words : s.words ≡ words_of (world_of sizes.procs sizes.rendez run)
  pub each_seat : (seat : ℕ) (known : View) → get_elem? s.views seat ≡ some known
      → Fits sizes.procs run owner seat known
