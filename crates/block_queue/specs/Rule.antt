-- The rule of the ring's table, which holds between any two atomic steps.
use Rattle.std.specs.Prelude.{◌≡◌, ℕ, ◌+◌, ◌<◌, ◌≤◌, ◌==◌, Bool, true, false, if◌then◌else◌}
use Rattle.std.specs.Prelude.{List, [], length, slice_get, Option, Some, None, ⊤, IsTrue}
use Rattle.std.specs.List.{AllByRecursion}
use mathlib.Core.Option.{some}
use lib.ListN.{get_elem?}
use Rattle.atomic_table.specs.Table as table
use Rattle.histories.specs.declared.account.Account.{Account}
use Rattle.histories.specs.declared.account.Share.{Share}
use Rattle.histories.specs.Account.{has_number, first_account, spent_account}
use Rattle.histories.specs.History.{IsLegal, IsPast}
use Rattle.histories.specs.Ledger.{Ledger, AreSeats}
use Rattle.sync_base.specs.Write.{Write}
use Rattle.sync_base.specs.declared.limits.TheConstants.{LAST_WRITE}
use Rattle.block_queue.specs.declared.entry.Entry.{Entry}
use Rattle.block_queue.specs.declared.view.Key.{Key}
use Rattle.block_queue.specs.declared.view.Stage.{Stage}
use Rattle.block_queue.specs.declared.view.Stage.TheVariants.{Free, Counted, Placed, Storing}
use Rattle.block_queue.specs.declared.view.Stage.TheVariants.{Looking, Moving}
use Rattle.block_queue.specs.declared.view.View.{View}
use Rattle.block_queue.specs.History.{QueueState, seat_of, opening_state}
use Rattle.block_queue.specs.Meaning.{queue_meaning, queue_after}
use Rattle.block_queue.specs.Places.{AreWords, IsUnstored}

abbrev pub account_of : View → Account Entry
account_of view = view.account

-- the first seat of a queue, and a seat that was spent in a join
abbrev pub first_view : Key → View
first_view key =
    record { account = first_account key.writers; taken = 0; stage = Free; pasts = [] }

abbrev pub spent_view : View
spent_view = record { account = spent_account; taken = 0; stage = Free; pasts = [] }

-- whether the seat has the slot of the next block
abbrev pub is_moving : Stage → Bool
is_moving Free = false
is_moving (Counted count) = false
is_moving (Placed count) = false
is_moving (Storing count writer block) = false
is_moving (Looking found) = false
is_moving (Moving writer block) = true

-- the seat is between the two loads of a take
abbrev pub IsStageLooking : Stage → Type 0
IsStageLooking stage = (found : Bool) × (stage ≡ Looking found)

-- the put of this number that has not returned, where the seat is at this stage
abbrev pub put_at : ℕ → Stage → ℕ → Option ℕ
put_at first Free number = None
put_at first (Counted count) number = None
put_at first (Placed count) number = None
put_at first (Storing count writer block) number =
    if number == writer + 1 then Some (first + count + 1) else None
put_at first (Looking found) number = None
put_at first (Moving writer block) number = None

-- a put that saw this many writes accepted: no fewer are accepted, and the next write has a number
pub record IsCounted (first : ℕ) (s : QueueState) (count : ℕ) : Type 0 where
  pub accepted : count ≤ length s.pipe.accepted
  pub given : first + count < LAST_WRITE

-- and there is room for it
pub record IsPlaced (limit first : ℕ) (s : QueueState) (count : ℕ) : Type 0 where
  pub counted : IsCounted first s count
  pub room : count < s.pipe.read_whole + limit

-- its write was accepted, and no read has begun it
pub record IsStoring (first : ℕ) (s : QueueState) (shares : List (Share Entry)) (count : ℕ)
    (write : Write) : Type 0 where
  pub not_begun : s.pipe.read_whole ≤ count
  pub write_is : slice_get s.pipe.accepted count ≡ Some write
  pub unstored : IsUnstored first s write count
  pub own : IsTrue (has_number shares (write.writer + 1))

-- a take that found a block left: it still is
pub record IsLooking (s : QueueState) (reader seat : ℕ) (found : Bool) : Type 0 where
  pub reader_is : reader ≡ seat
  pub left : found ≡ true → s.pipe.read_whole < length s.pipe.accepted

-- a take that has the next block: it stands
pub record IsMoving (first : ℕ) (s : QueueState) (reader seat : ℕ) (write : Write) : Type 0 where
  pub reader_is : reader ≡ seat
  pub write_is : slice_get s.pipe.accepted s.pipe.read_whole ≡ Some write
  pub stored : IsUnstored first s write s.pipe.read_whole → ⊥

abbrev pub FitsStage : ℕ → ℕ → QueueState → List (Share Entry) → ℕ → ℕ → Stage → Type 0
FitsStage limit first s shares reader seat Free = ⊤
FitsStage limit first s shares reader seat (Counted count) = IsCounted first s count
FitsStage limit first s shares reader seat (Placed count) = IsPlaced limit first s count
FitsStage limit first s shares reader seat (Storing count writer block) =
    IsStoring first s shares count (record { writer = writer; bytes = block })
FitsStage limit first s shares reader seat (Looking found) = IsLooking s reader seat found
FitsStage limit first s shares reader seat (Moving writer block) =
    IsMoving first s reader seat (record { writer = writer; bytes = block })

-- the reader knows how many blocks were taken out, and has the slot of the next block where that
-- slot is out
pub record IsReader (s : QueueState) (out : Bool) (view : View) : Type 0 where
  pub taken : view.taken ≡ s.pipe.read_whole
  pub out_is : out ≡ is_moving view.stage

pub record FitsView (limit first : ℕ) (s : QueueState) (out : Bool) (reader seat : ℕ)
    (view : View) : Type 0 where
  -- a seat has a put that has not returned only where it stores its block
  pub puts : AllByRecursion (λ share. s.putting share.number ≡ put_at first view.stage share.number)
      view.account.shares
  pub reader_knows : reader ≡ seat → IsReader s out view
  pub stage : FitsStage limit first s view.account.shares reader seat view.stage

-- the rule: there is one legal history, which each seat has seen in part and which has each of the
-- seat's own entries once; the words and slots are what that history leaves; each seat's stage
-- fits; and what the seats that were joined had seen are pasts of that history
pub record IsOneQueue (key : Key) (t : table.State (Option Write) View) : Type 0 where
  pub ledger : Ledger Entry
  -- whether the slot of the next block is out with the reader
  pub out : Bool
  pub some_room : 0 < key.limit
  pub first_given : key.first ≤ LAST_WRITE
  pub legal : IsLegal (queue_meaning key.first) (opening_state key.limit) ledger.history
  pub writers : ledger.next ≤ key.writers + 1
  pub words : AreWords key.limit key.first (queue_after key ledger.history) out t.words t.homes
  pub seats : AreSeats seat_of account_of ledger t.views
  pub views : (seat : ℕ) (view : View) → get_elem? t.views seat ≡ some view →
      FitsView key.limit key.first (queue_after key ledger.history) out (ledger.owner 0) seat view
  pub pasts : (seat : ℕ) (view : View) → get_elem? t.views seat ≡ some view →
      AllByRecursion (λ past. IsPast past ledger.history) view.pasts
