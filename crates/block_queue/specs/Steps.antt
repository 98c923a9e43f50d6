-- What a seat learns from each kind of step.
use Rattle.std.specs.Prelude.{◌≡◌, ◌≢◌, ℕ, ◌+◌, ◌-◌, ◌<◌, ◌^◌, ◌≤◌, Bool, true, false}
use Rattle.std.specs.Prelude.{List, [], ◌∷◌, Option, Some, None}
use Rattle.atomic_table.specs.Table as table
use Rattle.histories.specs.declared.account.Account.{Account}
use Rattle.histories.specs.declared.account.Share.{Share}
use Rattle.histories.specs.Account.{unused_share}
use Rattle.histories.specs.Changes.{keeping_account, handed_account, joined_account}
use Rattle.sync_base.specs.Pipe.{next_write}
use Rattle.sync_base.specs.Write.{Write}
use Rattle.sync_base.specs.declared.limits.TheConstants.{LAST_WRITE}
use Rattle.block_queue.specs.declared.entry.Entry.{Entry}
use Rattle.block_queue.specs.declared.entry.Entry.TheVariants as entry
use Rattle.block_queue.specs.declared.places.TheConstants.{MARK}
use Rattle.block_queue.specs.declared.view.Key.{Key}
use Rattle.block_queue.specs.declared.view.Stage.{Stage}
use Rattle.block_queue.specs.declared.view.Stage.TheVariants.{Free, Counted, Placed, Storing}
use Rattle.block_queue.specs.declared.view.Stage.TheVariants.{Looking, Moving}
use Rattle.block_queue.specs.declared.view.View.{View}
use Rattle.block_queue.specs.Meaning.{Enters, queue_after}
use Rattle.block_queue.specs.Places.{free_word, stored_word, place_of}

-- what a seat knows and what it holds
abbrev pub Seated : Type 0
Seated = table.Me (Option Write) View

-- what a step is asked for: the queue, the write that is put, and the count of the write
pub record Asked : Type 0 where
  pub key : Key
  pub write : Write
  pub count : ℕ

-- the seat is at this stage now, and knows no more than it did
abbrev pub staged_view : Stage → View → View
staged_view stage view = record view { stage = stage }

-- whether the seat has seen a hangup
abbrev pub saw_hangup : Key → Account Entry → Bool
saw_hangup key account = (queue_after key account.seen).pipe.hung

-- the seat made this entry, and is at this stage now
pub record HasEntered (key : Key) (made : Entry) (stage : Stage) (before after : View) :
    Type 0 where
  pub enters : Enters key made before.account after.account
  pub stage_is : after.stage ≡ stage
  pub taken_is : after.taken ≡ before.taken

-- PutTail: the queue is hung up, or the last number was given, or this many writes were accepted
pub record HasPutTail (asked : Asked) (before : Seated) (found : ℕ) (after : Seated) : Type 0 where
  pub slots : after.1 ≡ before.1
  pub hungup : MARK ≤ found →
      HasEntered asked.key (entry.Hungup asked.write.writer asked.write.bytes) Free before.0 after.0
  pub worn : asked.key.first + found ≡ LAST_WRITE →
      HasEntered asked.key (entry.Worn asked.write.writer asked.write.bytes) Free before.0 after.0
  pub counted : found < MARK → asked.key.first + found ≢ LAST_WRITE →
      after.0 ≡ staged_view (Counted found) before.0
  pub given : found < MARK → asked.key.first + found ≤ LAST_WRITE
  -- a seat that has seen a hangup finds the mark
  pub fresh : found < MARK → saw_hangup asked.key before.0.account ≡ false

-- PutSequence: all places are taken, or another write was put there first, or the place is free
pub record HasPutSequence (asked : Asked) (before : Seated) (found : ℕ) (after : Seated) :
    Type 0 where
  pub slots : after.1 ≡ before.1
  pub full : found < free_word asked.key.limit asked.count → HasEntered asked.key
      (entry.Full asked.write.writer asked.write.bytes
      (asked.key.first + asked.count - asked.key.limit)) Free before.0 after.0
  pub room : found < free_word asked.key.limit asked.count → asked.key.limit ≤ asked.count
  pub placed : found ≡ free_word asked.key.limit asked.count →
      after.0 ≡ staged_view (Placed asked.count) before.0
  pub passed : free_word asked.key.limit asked.count < found → after.0 ≡ staged_view Free before.0

-- Accept: the write was accepted, or another write was, or the queue was hung up
pub record HasAccepted (asked : Asked) (before : Seated) (found : ℕ) (after : Seated) : Type 0 where
  pub entered : found ≡ asked.count → HasEntered asked.key
      (entry.Taken asked.write.writer asked.write.bytes (asked.key.first + asked.count + 1))
      (Storing asked.count asked.write.writer asked.write.bytes) before.0 after.0
  pub slots : found ≡ asked.count →
      after.1 ≡ (place_of asked.key.limit asked.count, None) ∷ before.1
  pub passed : found ≢ asked.count → after ≡ (staged_view Free before.0, before.1)

-- Store: the write stands
pub record HasStored (asked : Asked) (before after : Seated) : Type 0 where
  pub entered : HasEntered asked.key
      (entry.Stood asked.write.writer (asked.key.first + asked.count + 1)) Free before.0 after.0
  pub slots : after.1 ≡ table.rest before.1

-- TakeReady: the seat has the slot of the next write, which stands; or it knows no more than it did
pub record HasTakeReady (key : Key) (before : Seated) (found : ℕ) (after : Seated) : Type 0 where
  pub moving : found ≡ stored_word key.limit before.0.taken → (write : Write) ×
      (after ≡ (
        staged_view (Moving write.writer write.bytes) before.0,
        (place_of key.limit before.0.taken, Some write) ∷ before.1,
      ))
  pub passed : found ≢ stored_word key.limit before.0.taken → after ≡ before
  pub small : before.0.taken < 2 ^ 62

-- TakeTail: all blocks are taken out and no more will come; or not, and then whether a block is
-- left
pub record HasTakeTail (key : Key) (before : Seated) (found : ℕ) (after : Seated) : Type 0 where
  pub slots : after.1 ≡ before.1
  pub ended : found ≡ before.0.taken + MARK → HasEntered key entry.End Free before.0 after.0
  pub left : Bool
  pub looking : found ≢ before.0.taken + MARK → after.0 ≡ staged_view (Looking left) before.0
  -- a seat that has seen a hangup, and that the queue has not ended, knows that a block is left
  pub fresh : saw_hangup key before.0.account ≡ true → left ≡ true
  pub small : before.0.taken < 2 ^ 62

-- TakeSequence: the next write does not stand, or the seat has its slot
pub record HasTakeSequence (key : Key) (before : Seated) (found : ℕ) (after : Seated) : Type 0 where
  pub not_yet : found ≢ stored_word key.limit before.0.taken →
      HasEntered key (entry.NotYet (key.first + before.0.taken)) Free before.0 after.0
  pub same_slots : found ≢ stored_word key.limit before.0.taken → after.1 ≡ before.1
  -- where a block is left, the next block does not stand yet
  pub left : found ≢ stored_word key.limit before.0.taken → before.0.stage ≡ Looking true →
      next_write (queue_after key after.0.account.seen).pipe ≢ None
  pub moving : found ≡ stored_word key.limit before.0.taken → (write : Write) ×
      (after ≡ (
        staged_view (Moving write.writer write.bytes) before.0,
        (place_of key.limit before.0.taken, Some write) ∷ before.1,
      ))

-- Free: the block was taken out, and its place is free for the next lap
pub record HasFreed (key : Key) (write : Write) (before after : Seated) : Type 0 where
  pub enters : Enters key
      (entry.Block write.writer write.bytes (key.first + before.0.taken + 1))
      before.0.account after.0.account
  pub stage_is : after.0.stage ≡ Free
  pub taken_is : after.0.taken ≡ before.0.taken + 1
  pub slots : after.1 ≡ table.rest before.1

-- Hang: the queue is hung up
pub record HasHung (key : Key) (before after : Seated) : Type 0 where
  pub entered : HasEntered key (entry.Hung before.0.account.number) Free before.0 after.0
  pub slots : after.1 ≡ before.1

-- Hand: the reader keeps its first number and hands the second over to a new seat
abbrev pub second_share : List (Share Entry) → Share Entry
second_share [] = unused_share 0
second_share (share ∷ []) = share
second_share (share ∷ second ∷ shares) = second

abbrev pub without_second : List (Share Entry) → List (Share Entry)
without_second [] = []
without_second (share ∷ []) = share ∷ []
without_second (share ∷ second ∷ shares) = share ∷ shares

abbrev pub keeper_view : View → View
keeper_view view =
    record view { account = keeping_account (without_second view.account.shares) view.account }

abbrev pub handed_view : View → View
handed_view view =
    record {
      account = handed_account (second_share view.account.shares) view.account;
      taken = 0;
      stage = Free;
      pasts = [];
    }

-- the seat has a number to hand over
pub record HasToHand (view : View) : Type 0 where
  pub own : Share Entry
  pub next : Share Entry
  pub others : List (Share Entry)
  pub shares_are : view.account.shares ≡ own ∷ next ∷ others
  pub own_is : own.number ≡ 0
  pub next_is : 0 < next.number
  pub stage_is : view.stage ≡ Free

-- Join: the reader has the numbers of both seats, and has seen what either saw
abbrev pub joined_view : View → View → View
joined_view first second =
    record {
      account = joined_account first.account second.account;
      taken = first.taken;
      stage = Free;
      pasts = first.account.seen ∷ second.account.seen ∷ first.pasts;
    }
