-- What many new pipes are, and their ends. Own; pipe(2) makes one.
use Rattle.std.specs.Prelude.{◌≡◌, ◌≤◌, ◌+◌, ◌-◌, ◌*◌, ⊤, ℕ, List, [], ◌∷◌, length}
use Rattle.std.specs.Vec.{vec_capacity}
use Rattle.sync_base.specs.declared.fault.Fault.{Fault}
use Rattle.sync_base.specs.declared.fault.Fault.TheVariants as fault
use Rattle.sync_base.specs.declared.mode.Mode.{Mode}
use Rattle.rendez_words.specs.declared.words.Words.{Words}
use Rattle.sleep_wakeup.specs.Kernel.{Unused, HasRendez, rendez_less}
use Rattle.block_queue.specs.Opening.{IsBadQueue}
use Rattle.pipe_dev.specs.declared.end.Ends.{Ends}
use Rattle.pipe_dev.specs.declared.pipe.Opened.{Opened}
use Rattle.pipe_dev.specs.declared.pipe.Pipe.{Pipe}
use Rattle.pipe_dev.specs.declared.pipe.PipeStart.{PipeStart}
use Rattle.pipe_dev.specs.Openings.{AreNewEnds, IsStartOf, OpensIn, OwnsRows, rendez_for}
use Rattle.plan9.specs.declared.pipes.OpenedPipes.{OpenedPipes}
use Rattle.plan9.specs.declared.pipes.Pipes.{Pipes}
use Rattle.plan9.specs.declared.pipes.PipesStart.{PipesStart}

-- how a pipe is read, how many writes a direction of it holds, and how many writers that has
pub record Size : Type 0 where
  pub mode : Mode
  pub limit : ℕ
  pub writers : ℕ

abbrev pub size : Mode → ℕ → ℕ → Size
size mode limit writers = record { mode = mode; limit = limit; writers = writers }

-- how many Rendez this many pipes take
abbrev pub rendez_for_all : ℕ → Size → ℕ
rendez_for_all count size = count * rendez_for size.writers

-- ---- new pipes

-- a new pipe of this size, and what its ends are made from, with Rendez of this kernel from this
-- one on
pub record IsNewPipe (size : Size) (words : Words) (first : ℕ) (opened : Opened) : Type 0 where
  pub opens : OpensIn size.mode size.limit size.writers first opened
  pub start_is : IsStartOf opened.pipe opened.start
  pub rows : OwnsRows words opened

-- new pipes, and their starts in the same order, the Rendez of each after those of the one before
abbrev pub AreNewFrom : Size → Words → ℕ → List Pipe → List PipeStart → Type 0
AreNewFrom size words first [] [] = ⊤
AreNewFrom size words first (pipe ∷ pipes) (start ∷ starts) =
    IsNewPipe size words first (record { pipe = pipe; start = start })
    × AreNewFrom size words (first + rendez_for size.writers) pipes starts
AreNewFrom size words first pipes starts = ⊥

-- these starts were made with these pipes, in order
abbrev pub StartEach : List Pipe → List PipeStart → Type 0
StartEach [] [] = ⊤
StartEach (pipe ∷ pipes) (start ∷ starts) = IsStartOf pipe start × StartEach pipes starts
StartEach pipes starts = ⊥

-- and there is room for their ends
pub record AreStartsOf (pipes : Pipes) (start : PipesStart) : Type 0 where
  pub each : StartEach pipes.pipes.items start.starts.items
  pub none : start.room.items ≡ []
  pub room : length start.starts.items ≤ vec_capacity start.room

-- a pipe can be of this size, and Rendez are left for all
pub record MayOpen (count : ℕ) (size : Size) (before : Unused) : Type 0 where
  pub size_is : ¬ IsBadQueue size.limit size.writers
  pub rendez : HasRendez before (rendez_for_all count size)

-- none is made yet, and there is room for so many, and for their ends
pub record HaveRoom (count : ℕ) (opened : OpenedPipes) : Type 0 where
  pub no_pipes : opened.pipes.pipes.items ≡ []
  pub no_starts : opened.start.starts.items ≡ []
  pub no_ends : opened.start.room.items ≡ []
  pub pipes : count ≤ vec_capacity opened.pipes.pipes
  pub starts : count ≤ vec_capacity opened.start.starts
  pub ends : count ≤ vec_capacity opened.start.room

-- as many new pipes as were asked for, with the next Rendez, and nothing else is used up
pub record AreNewPipes (count : ℕ) (size : Size) (before after : Unused) (opened : OpenedPipes) :
    Type 0 where
  pub may : MayOpen count size before
  pub count_is : length opened.pipes.pipes.items ≡ count
  pub new : AreNewFrom size before.words before.rendez opened.pipes.pipes.items
      opened.start.starts.items
  pub start_is : AreStartsOf opened.pipes opened.start
  pub given : after ≡ rendez_less (rendez_for_all count size) before

-- ---- or none

-- memory was refused after so many pipes were made, fewer than were asked for, and their Rendez are
-- used up
pub record StopsOpening (count : ℕ) (size : Size) (before after : Unused) : Type 0 where
  pub may : MayOpen count size before
  pub made : ℕ
  pub fewer : made ≤ count - 1
  pub used : after ≡ rendez_less (rendez_for_all made size) before

-- why there are none, and what the roster has left then
abbrev pub WhyNoPipes : ℕ → Size → Unused → Unused → Fault → Type 0
WhyNoPipes count size before after fault.BadSize =
    IsBadQueue size.limit size.writers × (after ≡ before)
WhyNoPipes count size before after fault.NoRendez =
    (¬ IsBadQueue size.limit size.writers)
    × (¬ HasRendez before (rendez_for_all count size)) × (after ≡ before)
WhyNoPipes count size before after fault.Memory = StopsOpening count size before after
WhyNoPipes count size before after other = ⊥

-- ---- their ends

-- the two ends of a pipe, which read what is written at the other
pub record AreEndsOf (pipe : Pipe) (start : PipeStart) (ends : Ends) : Type 0 where
  pub there : AreNewEnds pipe.there start.there.row ends.first.read ends.second.writes.items
  pub back : AreNewEnds pipe.back start.back.row ends.second.read ends.first.writes.items

-- the ends of each of these pipes, in order
abbrev pub AreAllEnds : List Pipe → List PipeStart → List Ends → Type 0
AreAllEnds [] [] [] = ⊤
AreAllEnds (pipe ∷ pipes) (start ∷ starts) (ends ∷ others) =
    AreEndsOf pipe start ends × AreAllEnds pipes starts others
AreAllEnds pipes starts others = ⊥
