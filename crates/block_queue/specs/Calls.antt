-- What each answer of a queue says of the one history.
use Rattle.std.specs.Prelude.{◌≡◌, ◌≢◌, ℕ, List, true, false, ⊤, None}
use Rattle.histories.specs.declared.account.Account.{Account}
use Rattle.sync_base.specs.Pipe.{next_write}
use Rattle.block_queue.specs.declared.answers.PutAnswer.{PutAnswer}
use Rattle.block_queue.specs.declared.answers.PutAnswer.TheVariants as put
use Rattle.block_queue.specs.declared.answers.TakeAnswer.{TakeAnswer}
use Rattle.block_queue.specs.declared.answers.TakeAnswer.TheVariants as take
use Rattle.block_queue.specs.declared.entry.Entry.{Entry}
use Rattle.block_queue.specs.declared.entry.Entry.TheVariants as entry
use Rattle.block_queue.specs.declared.view.Key.{Key}
use Rattle.block_queue.specs.Meaning.{Enters, queue_after}
use Rattle.block_queue.specs.Steps.{saw_hangup}

-- a put that was taken: its write was accepted, and then it stood
pub record Stands (key : Key) (writer : ℕ) (block : List ℕ) (number : ℕ)
    (old new : Account Entry) : Type 0 where
  pub between : Account Entry
  pub taken : Enters key (entry.Taken writer block number) old between
  pub stood : Enters key (entry.Stood writer number) between new

-- a block that was not taken came back, and the refusal is in the history
pub record Refuses (key : Key) (refusal : Entry) (block back : List ℕ)
    (old new : Account Entry) : Type 0 where
  pub back_is : back ≡ block
  pub refused : Enters key refusal old new

-- a put of this writer and block, by its answer
abbrev pub Puts : Key → ℕ → List ℕ → Account Entry → Account Entry → PutAnswer → Type 0
Puts key writer block old new (put.Taken number) = Stands key writer block number old new
Puts key writer block old new (put.Full back number) =
    Refuses key (entry.Full writer block number) block back old new
Puts key writer block old new (put.Hungup back) =
    Refuses key (entry.Hungup writer block) block back old new
Puts key writer block old new (put.Worn back) =
    Refuses key (entry.Worn writer block) block back old new

-- a take, by its answer
abbrev pub Takes : Key → Account Entry → Account Entry → TakeAnswer → Type 0
Takes key old new (take.Block block writer number) =
    Enters key (entry.Block writer block number) old new
Takes key old new (take.NotYet number) = Enters key (entry.NotYet number) old new
Takes key old new take.End = Enters key entry.End old new

-- Own. A writer that knew of the hangup does not get the answer Full.
abbrev pub IsFreshPut : Key → Account Entry → PutAnswer → Type 0
IsFreshPut key old (put.Taken number) = ⊤
IsFreshPut key old (put.Full back number) = saw_hangup key old ≡ false
IsFreshPut key old (put.Hungup back) = ⊤
IsFreshPut key old (put.Worn back) = ⊤

-- Own. A reader that knew of the hangup gets NotYet only while a write is left.
abbrev pub IsFreshTake : Key → Account Entry → Account Entry → TakeAnswer → Type 0
IsFreshTake key old new (take.Block block writer number) = ⊤
IsFreshTake key old new (take.NotYet number) =
    saw_hangup key old ≡ true → next_write (queue_after key new.seen).pipe ≢ None
IsFreshTake key old new take.End = ⊤

-- how many blocks a take gave
abbrev pub blocks_in : TakeAnswer → ℕ
blocks_in (take.Block block writer number) = 1
blocks_in (take.NotYet number) = 0
blocks_in take.End = 0
