-- What the calls of the ends add up to, one after the other: what a read end has read, and what a
-- write end has written.
use Rattle.std.specs.Prelude.{◌≡◌, ◌⊎◌, ◌+◌, ◌<◌, ℕ, ⊤, List, [], ◌∷◌, ◌++◌, take, IsTrue}
use Rattle.std.specs.Prelude.{Result, Ok, Err}
use Rattle.std.specs.List.{AllByRecursion}
use Rattle.histories.specs.declared.account.Account.{Account}
use Rattle.histories.specs.Account.{has_number}
use Rattle.sync_base.specs.declared.fault.Fault.{Fault}
use Rattle.sync_base.specs.declared.mode.Mode.{Mode}
use Rattle.sync_base.specs.declared.mode.Mode.TheVariants.{Message, Stream}
use Rattle.block_queue.specs.declared.entry.Entry.{Entry}
use Rattle.block_queue.specs.declared.entry.Entry.TheVariants.{Block}
use Rattle.block_queue.specs.declared.view.Key.{Key}
use Rattle.block_queue.specs.Meaning.{Enters}
use Rattle.block_queue.specs.Opening.{reader_account}
use Rattle.pipe_dev.specs.declared.answers.ReadAnswer.{ReadAnswer}
use Rattle.pipe_dev.specs.declared.answers.ReadAnswer.TheVariants as read
use Rattle.pipe_dev.specs.declared.answers.TryAnswer.{TryAnswer}
use Rattle.pipe_dev.specs.declared.answers.TryAnswer.TheVariants as try
use Rattle.pipe_dev.specs.Filling.{Taker, TakesPart}
use Rattle.pipe_dev.specs.Finishing.{accepted_in}
use Rattle.pipe_dev.specs.Parts.{Part, bytes_of}
use Rattle.pipe_dev.specs.Reading.{Reading, first_reading}
use Rattle.pipe_dev.specs.Rounds.{Rounds}

-- ---- a read end

-- a read end that has read these parts
abbrev pub reading_at : Taker → List Part → Reading
reading_at taker parts = record { account = taker.account; parts = parts; rest = taker.rest }

abbrev pub taker_in : Reading → Taker
taker_in reading = record { account = reading.account; rest = reading.rest }

-- a part was read, for which there was room
pub record AddsPart (key : Key) (old new : Reading) : Type 0 where
  pub room : ℕ
  pub some_room : 0 < room
  pub part : Part
  pub taken : TakesPart key room (taker_in old) part (taker_in new)
  pub parts : new.parts ≡ part ∷ old.parts

-- the entry takes no block out
abbrev pub IsNoBlock : Entry → Type 0
IsNoBlock (Block writer block number) = ⊥
IsNoBlock entry = ⊤

-- a call made an entry, and read nothing
pub record AddsNothing (key : Key) (old new : Reading) : Type 0 where
  pub entry : Entry
  pub entered : Enters key entry old.account new.account
  pub no_block : IsNoBlock entry
  pub rest : new.rest ≡ old.rest
  pub parts : new.parts ≡ old.parts

abbrev pub ReadStep : Key → Reading → Reading → Type 0
ReadStep key old new = AddsPart key old new ⊎ AddsNothing key old new

-- calls of a read end of a new pipe led to this state; the writes are numbered from 1 on
pub record IsMade (key : Key) (reading : Reading) : Type 0 where
  pub first : key.first ≡ 0
  pub times : ℕ
  pub steps : Rounds (ReadStep key) times (first_reading (reader_account key.writers)) reading

-- one more part, with these bytes
pub record AddsOne (bytes : List ℕ) (parts parts' : List Part) : Type 0 where
  pub part : Part
  pub bytes_are : part.bytes ≡ bytes
  pub parts_are : parts' ≡ part ∷ parts

-- Some more parts, with these bytes, one part after the other. Own: a stream read adds them; a part
-- of no bytes is of an empty write that was passed.
pub record AddsParts (bytes : List ℕ) (parts parts' : List Part) : Type 0 where
  pub added : List Part
  pub bytes_are : bytes_of added ≡ bytes
  pub parts_are : parts' ≡ added ++ parts

abbrev pub AddsNone : List Part → List Part → Type 0
AddsNone parts parts' = parts' ≡ parts

-- What a call that gave bytes adds to the parts: one part in message mode, and in stream mode the
-- parts of its bytes.
abbrev pub AddsBytes : Mode → List ℕ → List Part → List Part → Type 0
AddsBytes Message bytes parts parts' = AddsOne bytes parts parts'
AddsBytes Stream bytes parts parts' = AddsParts bytes parts parts'

-- and what a call that gave no bytes adds: nothing, or in stream mode the empty writes that it
-- passed
abbrev pub AddsNoByte : Mode → List Part → List Part → Type 0
AddsNoByte Message parts parts' = AddsNone parts parts'
AddsNoByte Stream parts parts' = AddsParts [] parts parts'

-- what an answer adds
abbrev pub AddsRead :
    Mode → Result ReadAnswer Fault → List ℕ → List Part → List Part → Type 0
AddsRead mode (Ok (read.Got count)) buffer' = AddsBytes mode (take count buffer')
AddsRead mode answer buffer' = AddsNoByte mode

abbrev pub AddsTry : Mode → TryAnswer → List ℕ → List Part → List Part → Type 0
AddsTry mode (try.Got count) buffer' = AddsBytes mode (take count buffer')
AddsTry mode answer buffer' = AddsNoByte mode

-- a call is such steps, which together add this to the parts
pub record IsOfSteps (key : Key) (Adds : List Part → List Part → Type 0)
    (old : Taker) (parts : List Part) (new : Taker) : Type 0 where
  pub parts' : List Part
  pub added : Adds parts parts'
  pub times : ℕ
  pub steps : Rounds (ReadStep key) times (reading_at old parts) (reading_at new parts')

-- ---- a write end

-- as far as the seat of this writer knows, just these of its writes were accepted, the oldest first
pub record HasWritten (account : Account Entry) (writer : ℕ) (blocks : List (List ℕ)) : Type 0 where
  pub own : IsTrue (has_number account.shares (writer + 1))
  pub are : AllByRecursion
      (λ share. share.number ≡ writer + 1 → accepted_in share.mine ≡ blocks) account.shares

-- what an answer adds to them: the bytes of the write where the answer is a number, and else
-- nothing
abbrev pub written_by : Result ℕ Fault → List ℕ → List (List ℕ)
written_by (Ok number) block = block ∷ []
written_by (Err why) block = []
