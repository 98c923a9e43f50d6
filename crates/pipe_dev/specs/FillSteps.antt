-- The results of the steps of filling a buffer.
use Rattle.std.specs.Prelude.{◌≡◌, ℕ, List, Option}
use Rattle.block_queue.specs.declared.view.Key.{Key}
use Rattle.block_queue.specs.declared.entry.Entry.TheVariants as entry
use Rattle.block_queue.specs.Seats.{take_account}
use Rattle.sync_base.specs.declared.mode.Mode.{Mode}
use Rattle.pipe_dev.specs.declared.filling.FillResult.{FillResult}
use Rattle.pipe_dev.specs.declared.filling.Next.{Next}
use Rattle.pipe_dev.specs.declared.filling.Next.TheVariants as next
use Rattle.pipe_dev.specs.declared.state.ReadState.{ReadState}
use Rattle.pipe_dev.specs.Filling.{Taker, TakesPart, FindsNothing, FindsNotThere, Lending}
use Rattle.pipe_dev.specs.Filling.{IsFilledBy, FillsUp, number_of, last_number}
use Rattle.pipe_dev.specs.Parts.{Part}
use Rattle.std.specs.Prelude.{length}

-- the end with this state
abbrev pub taker_with : ReadState → Taker
taker_with state = record { account = take_account state.seat; rest = state.rest }

-- and the buffer that its read fills
abbrev pub lending_with : ReadState → List ℕ → Lending
lending_with state buffer = record { taker = taker_with state; buffer = buffer }

-- and the block of its caller, which a read of a whole block replaces
abbrev pub block_lending : ReadState → Lending
block_lending state = lending_with state state.block.items

-- one part was read, with the number of its write if the write was taken out for it
pub record GivesPart (key : Key) (old : Lending) (count : ℕ) (number : Option ℕ)
    (new : Lending) : Type 0 where
  pub part : Part
  pub taken : TakesPart key (length old.buffer) old.taker part new.taker
  pub filled : IsFilledBy part.bytes old.buffer new.buffer count
  pub number_is : number ≡ number_of old.taker.rest part

-- what one step did
abbrev pub GivesNext : Key → Lending → Next → Lending → Type 0
GivesNext key old (next.Part count number) new = GivesPart key old count number new
GivesNext key old (next.NotYet number) new =
    FindsNotThere key number old.taker new.taker × (new.buffer ≡ old.buffer)
GivesNext key old next.End new =
    FindsNothing key entry.End old.taker new.taker × (new.buffer ≡ old.buffer)

-- the buffer was filled, and the number of the last write that was taken out is known
pub record HasFilled (key : Key) (mode : Mode) (old : Lending) (filled : FillResult)
    (new : Lending) : Type 0 where
  pub fills : FillsUp key mode old filled.came new
  pub took : filled.took ≡ last_number old.taker.rest fills.filling.parts
