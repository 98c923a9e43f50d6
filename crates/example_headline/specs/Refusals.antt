-- Why a write was refused, and why a reader stopped, as the entries of the seat that made the call
-- and the steps of its process show.
use Rattle.std.specs.Prelude.{◌≡◌, ◌≢◌, ◌⊎◌, ◌<◌, ⊤, ℕ, List, [], ◌∷◌, length}
use Rattle.std.specs.Prelude.{Option, Some, None}
use Rattle.sync_base.specs.declared.fault.Fault.{Fault}
use Rattle.sync_base.specs.declared.fault.Fault.TheVariants as fault
use Rattle.sync_base.specs.declared.limits.TheConstants.{ATOMIC_SIZE}
use Rattle.sync_base.specs.NoteSet.{no_notes}
use Rattle.sleep_core.specs.declared.answer.Answer.{Answer}
use Rattle.sleep_core.specs.declared.answer.Answer.TheVariants as answer
use Rattle.sleep_core.specs.Runs as core
use Rattle.sleep_core.specs.Table.{ending_of}
use Rattle.block_queue.specs.declared.entry.Entry.{Entry}
use Rattle.block_queue.specs.declared.entry.Entry.TheVariants.{Stood, Full, Hungup, Worn}
use Rattle.block_queue.specs.declared.entry.Entry.TheVariants.{Block, NotYet, Hung}
use Rattle.pipe_dev.specs.WriteCalls.{HasHang}

-- the newest of a seat's entries other than its hangups: the answer to its last put or take
abbrev pub last_told : List Entry → Option Entry
last_told [] = None
last_told (Hung seat ∷ past) = last_told past
last_told (entry ∷ past) = Some entry

-- its last answer was no refusal, no wait and no end: its write stands, or it took a write out; or
-- it has asked for nothing yet
abbrev pub WasGiven : Option Entry → Type 0
WasGiven None = ⊤
WasGiven (Some (Stood writer number)) = ⊤
WasGiven (Some (Block writer block number)) = ⊤
WasGiven other = ⊥

-- a seat asks for nothing more once it has hung up
abbrev pub HangsUpLast : List Entry → Type 0
HangsUpLast [] = ⊤
HangsUpLast (Hung seat ∷ past) = HangsUpLast past
HangsUpLast (entry ∷ past) = ¬ HasHang past

-- so far it was refused nothing, and has hung nothing up
pub record IsClear (mine : List Entry) : Type 0 where
  pub given : WasGiven (last_told mine)
  pub quiet : ¬ HasHang mine

-- it has hung up, after its last request
pub record HasHungUp (mine : List Entry) : Type 0 where
  pub hung : HasHang mine
  pub last : HangsUpLast mine

-- one of these steps got this answer
abbrev pub WasAnswered : Answer → List core.Entry → Type 0
WasAnswered told [] = ⊥
WasAnswered told (step ∷ past) = (step.answer ≡ told) ⊎ WasAnswered told past

-- its last answer was that there is no room for this block
abbrev pub WaitsForRoom : ℕ → List ℕ → List Entry → Type 0
WaitsForRoom writer block mine =
    (number : ℕ) × (last_told mine ≡ Some (Full writer block number))

-- its last answer was that nothing is there to read
abbrev pub WaitsForWrite : List Entry → Type 0
WaitsForWrite mine = (number : ℕ) × (last_told mine ≡ Some (NotYet number))

-- Why a write of this block by this writer was refused. It was too big; there was no memory, before
-- the queue was asked: what the writer asked last was given; the direction was hung up; the last
-- number was given; or it waited for room, and its sleep took notes or found another process asleep
-- there. It reports no other fault.
abbrev pub TellsWhyRefused : Fault → ℕ → List ℕ → List Entry → List core.Entry → Type 0
TellsWhyRefused fault.TooBig writer block mine steps = ATOMIC_SIZE < length block
TellsWhyRefused fault.Memory writer block mine steps = WasGiven (last_told mine)
TellsWhyRefused fault.Hungup writer block mine steps =
    last_told mine ≡ Some (Hungup writer block)
TellsWhyRefused fault.Worn writer block mine steps = last_told mine ≡ Some (Worn writer block)
TellsWhyRefused (fault.Interrupted notes) writer block mine steps =
    WaitsForRoom writer block mine
    × ((notes ≢ no_notes) × WasAnswered (ending_of notes) steps)
TellsWhyRefused fault.DoubleSleep writer block mine steps =
    WaitsForRoom writer block mine × WasAnswered answer.DoubleSleep steps
TellsWhyRefused other writer block mine steps = ⊥

-- Why a reader stopped before the end: there was no memory, before the queue was asked; or it
-- waited for a write, and its sleep took notes or found another process asleep there. It reports no
-- other fault.
abbrev pub TellsWhyStopped : Fault → List Entry → List core.Entry → Type 0
TellsWhyStopped fault.Memory mine steps = WasGiven (last_told mine)
TellsWhyStopped (fault.Interrupted notes) mine steps =
    WaitsForWrite mine × ((notes ≢ no_notes) × WasAnswered (ending_of notes) steps)
TellsWhyStopped fault.DoubleSleep mine steps =
    WaitsForWrite mine × WasAnswered answer.DoubleSleep steps
TellsWhyStopped other mine steps = ⊥

-- a hangup comes before each write that was refused as hungup
abbrev pub EachHungupIsAfterHangup : List Entry → Type 0
EachHungupIsAfterHangup [] = ⊤
EachHungupIsAfterHangup (Hungup writer block ∷ past) =
    HasHang past × EachHungupIsAfterHangup past
EachHungupIsAfterHangup (entry ∷ past) = EachHungupIsAfterHangup past
