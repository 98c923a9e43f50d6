-- What is left of a queue when all its seats are gathered.
use Rattle.std.specs.Prelude.{◌≡◌, ◌==◌, ◌+◌, ◌-◌, ◌≤◌, ◌||◌, ℕ, true, None}
use Rattle.std.specs.Prelude.{List, [], ◌∷◌, map, length, drop, IsTrue}
use Rattle.std.specs.List.{AllByRecursion, list_any}
use Rattle.histories.specs.declared.account.Account.{Account}
use Rattle.histories.specs.Account.{HasAllNumbers, HasItsEntries, has_number}
use Rattle.histories.specs.History.{IsPast, IsHistory}
use Rattle.sync_base.specs.Pipe.{begun_number}
use Rattle.sync_base.specs.Write.{Write}
use Rattle.block_queue.specs.declared.entry.Entry.{Entry}
use Rattle.block_queue.specs.declared.entry.Entry.TheVariants.{Block}
use Rattle.block_queue.specs.declared.gather.Gathered.{Gathered}
use Rattle.block_queue.specs.declared.seats.PutSeat.{PutSeat}
use Rattle.block_queue.specs.declared.seats.TakeSeat.{TakeSeat}
use Rattle.block_queue.specs.declared.view.Key.{Key}
use Rattle.block_queue.specs.declared.view.View.{View}
use Rattle.block_queue.specs.History.{seat_of, opening_state}
use Rattle.block_queue.specs.Meaning.{KnowsQueue, queue_after, queue_meaning}
use Rattle.block_queue.specs.Seats.{put_account, take_account}

-- the numbers of these writers
abbrev pub numbers_of : List PutSeat → List ℕ
numbers_of puts = map (λ seat. seat.writer + 1) puts

-- these are all seats of one queue, in their order: the reader gave the numbers of the writers,
-- and they gave none
pub record AreAllSeats (take : TakeSeat) (puts : List PutSeat) : Type 0 where
  pub order : (take_account take).gave ≡ numbers_of puts
  pub none : AllByRecursion (λ seat. (put_account seat).gave ≡ []) puts

-- a history that goes on with takes of these writes, the first after the write with this number
abbrev pub with_blocks : ℕ → List Write → List Entry → List Entry
with_blocks number [] history = history
with_blocks number (write ∷ writes) history =
    with_blocks (number + 1) writes (Block write.writer write.bytes (number + 1) ∷ history)

-- the entries of the history by each of these seats are its `mine`
abbrev pub AreTheirs : List Entry → List PutSeat → Type 0
AreTheirs history puts =
    AllByRecursion
    (λ seat. AllByRecursion (HasItsEntries seat_of history) (put_account seat).shares) puts

-- what each of these seats has seen is a past of the history
abbrev pub AreTheirPasts : List Entry → List PutSeat → Type 0
AreTheirPasts history puts = AllByRecursion (λ seat. IsPast (put_account seat).seen history) puts

-- what the seat has seen, and what was seen before each join, are pasts of the history
pub record SawPasts (history : List Entry) (view : View) : Type 0 where
  pub seen : IsPast view.account.seen history
  pub before : AllByRecursion (λ past. IsPast past history) view.pasts

-- where the seat that was joined with all seats but the rest saw pasts of a history, so did the
-- reader, and, if the rest did, all writers
pub record TellsPasts (puts : List PutSeat) (old : View) (rest : List PutSeat) (now : View) :
    Type 0 where
  pub reader : (history : List Entry) → SawPasts history now → IsPast old.account.seen history
  pub writers : (history : List Entry) → SawPasts history now → AreTheirPasts history rest →
      AreTheirPasts history puts

-- one seat of the reader and of the writers that are not in the rest
pub record IsJoining (puts : List PutSeat) (old : Account Entry) (rest : List PutSeat)
    (now : Account Entry) : Type 0 where
  pub gave : now.gave ≡ old.gave
  pub first : IsTrue (has_number now.shares 0)
  pub none : AllByRecursion (λ seat. (put_account seat).gave ≡ []) rest
  pub numbers : AllByRecursion (λ number. (has_number now.shares number ||
      list_any (λ other. other == number) (numbers_of rest)) ≡ true) (numbers_of puts)
  pub theirs : (history : List Entry) → AllByRecursion (HasItsEntries seat_of history) now.shares →
      AllByRecursion (HasItsEntries seat_of history) old.shares
  pub puts_theirs : (history : List Entry) →
      AllByRecursion (HasItsEntries seat_of history) now.shares → AreTheirs history rest →
      AreTheirs history puts

-- one seat of all: each number that the reader gave is its own now
pub record HasJoined (puts : List PutSeat) (old new : Account Entry) : Type 0 where
  pub all : old.gave ≡ numbers_of puts → HasAllNumbers new
  pub theirs : (history : List Entry) → AllByRecursion (HasItsEntries seat_of history) new.shares →
      AllByRecursion (HasItsEntries seat_of history) old.shares
  pub puts_theirs : (history : List Entry) →
      AllByRecursion (HasItsEntries seat_of history) new.shares → AreTheirs history puts

-- a seat has all the numbers, and this many blocks are left, all of which stand
pub record IsLeft (key : Key) (account : Account Entry) (left : ℕ) : Type 0 where
  pub all : HasAllNumbers account
  pub knows : KnowsQueue key account
  pub puts : (number : ℕ) → (queue_after key account.seen).putting number ≡ None
  pub left_is : length (queue_after key account.seen).pipe.accepted ≡
      (queue_after key account.seen).pipe.read_whole + left

-- of `left` blocks these were taken out, and the others are left
pub record IsEmptying (key : Key) (left : ℕ) (old now : Account Entry) (blocks : List Write) :
    Type 0 where
  pub few : length blocks ≤ left
  pub is_left : IsLeft key now (left - length blocks)
  pub seen : now.seen ≡
      with_blocks (begun_number key.first (queue_after key old.seen).pipe) blocks old.seen
  pub begun : begun_number key.first (queue_after key now.seen).pipe ≡
      begun_number key.first (queue_after key old.seen).pipe + length blocks

-- the seat took these blocks out, and nothing is left
pub record Empties (key : Key) (left : ℕ) (old new : Account Entry) (blocks : List Write) :
    Type 0 where
  pub seen : new.seen ≡
      with_blocks (begun_number key.first (queue_after key old.seen).pipe) blocks old.seen
  pub none : IsLeft key new 0

-- what was gathered: there is one legal history of all seats; each seat has seen a past of it, and
-- it has each of their entries once; it goes on with takes of these blocks, and then nothing is
-- left
pub record Gathers (key : Key) (take : TakeSeat) (puts : List PutSeat) (gathered : Gathered) :
    Type 0 where
  pub history : List Entry
  pub legal : IsHistory (queue_meaning key.first) (opening_state key.limit) (key.writers + 1)
      history
  pub past : IsPast (take_account take).seen history
  pub mine : AllByRecursion (HasItsEntries seat_of history) (take_account take).shares
  pub puts_past : AreTheirPasts history puts
  pub puts_mine : AreTheirs history puts
  -- the blocks are those that the history leaves
  pub blocks_are : gathered.blocks.items ≡
      drop (queue_after key history).pipe.read_whole (queue_after key history).pipe.accepted
  pub final : Account Entry
  pub final_is : final.seen ≡ with_blocks
      (begun_number key.first (queue_after key history).pipe) gathered.blocks.items history
  pub none : IsLeft key final 0
  pub hung : gathered.hung ≡ (queue_after key history).pipe.hung
