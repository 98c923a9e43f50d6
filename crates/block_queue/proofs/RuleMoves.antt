-- How the rule is put together again after a step of one seat.
use Rattle.std.proofs.Common.{[], ◌≡◌, ◌≢◌, ⊎_elim, ℕ, ◌+◌, ◌≤◌, Bool, true, List, ◌∷◌, set}
use Rattle.std.proofs.Common.{refl, sym, subst, ◌∙◌, Option}
use Rattle.std.specs.List.{AllByRecursion}
use mathlib.Core.Option.{some}
use lib.ListN.{get_elem?}
use Rattle.atomic_table.specs.Table as table
use Rattle.histories.specs.Account.{has_number}
use Rattle.histories.specs.Changes.{entered_account}
use Rattle.histories.specs.History.{IsLegal, IsPast}
use Rattle.histories.specs.Ledger.{IsOwned, FitsLedger, ledger_with}
use Rattle.histories.proofs.ListLemmas.{at_set, all_weaker, past_cons}
use Rattle.histories.proofs.SeatsKeep.{number_is_owned, entered_fits, knows_history, seats_stay}
use Rattle.histories.proofs.SeatsKeep.{seats_enter}
use Rattle.histories.proofs.AloneLemmas.{looks_at}
use Rattle.sync_base.specs.Write.{Write}
use Rattle.sync_base.specs.declared.limits.TheConstants.{LAST_WRITE}
use Rattle.block_queue.specs.declared.entry.Entry.{Entry}
use Rattle.block_queue.specs.declared.view.Key.{Key}
use Rattle.block_queue.specs.declared.view.View.{View}
use Rattle.block_queue.specs.History.{QueueState, IsRight, seat_of, after_entry, opening_state}
use Rattle.block_queue.specs.Meaning.{Enters, queue_after, queue_meaning}
use Rattle.block_queue.specs.Places.{Homes, AreWords, IsQueueState}
use Rattle.block_queue.specs.Rule.{IsOneQueue, FitsView, account_of}
use Rattle.block_queue.proofs.StateLemmas.{opening_fits, entry_fits}
use Rattle.block_queue.proofs.ViewMoves.{Grows, same_grows, others_fit}

-- the words, slots and views that the rule of a queue is about
abbrev pub QueueTable : Type 0
QueueTable = table.State (Option Write) View

-- what is so in the state that a legal history leaves
pub history_fits : (key : Key) (history : List Entry) → key.first ≤ LAST_WRITE →
    IsLegal (queue_meaning key.first) (opening_state key.limit) history →
    IsQueueState key.limit key.first (queue_after key history)
history_fits key [] low legal = opening_fits key.limit key.first low
history_fits key (entry ∷ past) low legal = entry_fits key.limit key.first (queue_after key past)
    entry (history_fits key past low legal.1) legal.0

-- pasts of a history are pasts of what comes of it
still_pasts : (history : List Entry) (entry : Entry) (pasts : List (List Entry)) →
    AllByRecursion (λ past. IsPast past history) pasts →
    AllByRecursion (λ past. IsPast past (entry ∷ history)) pasts
still_pasts history entry pasts all = all_weaker (λ (past : List Entry). IsPast past history)
    (λ past. IsPast past (entry ∷ history)) (λ past is. past_cons past history entry is) pasts all

module _ (key : Key) (t : QueueTable) (rule : IsOneQueue key t) (id : ℕ) (before : View) (at :
    get_elem? t.views id ≡ some before) where
  -- the state that the history of the table leaves
  abbrev pub state_now : QueueState
  state_now = queue_after key rule.ledger.history

  -- what is so in each state that a legal history leaves is so in it
  pub state_fits : IsQueueState key.limit key.first state_now
  state_fits = history_fits key rule.ledger.history rule.first_given rule.legal

  -- what the seat knows fits what is written of all seats
  pub own_ledger : FitsLedger seat_of rule.ledger id before.account
  own_ledger = rule.seats.each_seat id before at

  -- the seat's view fits the state
  pub own_view : FitsView key.limit key.first state_now rule.out (rule.ledger.owner 0) id before
  own_view = rule.views id before at

  -- a number that the seat has is its own
  pub owned_number : (number : ℕ) → has_number before.account.shares number ≡ true →
      IsOwned rule.ledger id number
  owned_number number has =
      number_is_owned seat_of rule.ledger id number before.account own_ledger has

  -- the views of all seats, one of which is new
  each_view : (s' : QueueState) (out' : Bool) (reader : ℕ) (after : View) →
      FitsView key.limit key.first s' out' reader id after
      → ((seat : ℕ) (view : View) → seat ≢ id → get_elem? t.views seat ≡ some view →
      FitsView key.limit key.first s' out' reader seat view)
      → (seat : ℕ) (view : View) → get_elem? (set t.views id after) seat ≡ some view →
      FitsView key.limit key.first s' out' reader seat view
  each_view s' out' reader after own others seat view there =
      ⊎_elim
      (λ here. subst (λ (v : View). FitsView key.limit key.first s' out' reader seat v) here.1
      (subst (λ (i : ℕ). FitsView key.limit key.first s' out' reader i after) (sym here.0) own))
      (λ else. others seat view else.0 else.1)
      (at_set t.views id seat after view there)

  -- what was seen before joins, of all seats, one of which is new
  each_past : (history : List Entry) (after : View) →
      AllByRecursion (λ past. IsPast past history) after.pasts
      → ((seat : ℕ) (view : View) → get_elem? t.views seat ≡ some view →
      AllByRecursion (λ past. IsPast past history) view.pasts)
      → (seat : ℕ) (view : View) → get_elem? (set t.views id after) seat ≡ some view →
      AllByRecursion (λ past. IsPast past history) view.pasts
  each_past history after own others seat view there =
      ⊎_elim
      (λ here. subst (λ (v : View). AllByRecursion (λ past. IsPast past history) v.pasts) here.1
      own)
      (λ else. others seat view else.1)
      (at_set t.views id seat after view there)

  -- a step of one seat that adds no entry
  pub rule_stays : (after : View) (out' : Bool) (words : List ℕ) (homes : Homes) (number : ℕ) →
      has_number before.account.shares number ≡ true
      → after.account ≡ before.account → after.pasts ≡ before.pasts → (number ≢ 0 → out' ≡ rule.out)
      → AreWords key.limit key.first state_now out' words homes →
      FitsView key.limit key.first state_now out' (rule.ledger.owner 0) id after
      → IsOneQueue key record { words = words; homes = homes; views = set t.views id after }
  rule_stays after out' words homes number has account pasts still ring own =
      record {
        ledger = rule.ledger;
        out = out';
        some_room = rule.some_room;
        first_given = rule.first_given;
        legal = rule.legal;
        writers = rule.writers;
        words = ring;
        seats = seats_stay seat_of account_of rule.ledger t.views id before after rule.seats at
            account;
        views = each_view state_now out' (rule.ledger.owner 0) after own
            (λ seat view other there.
            others_fit key.limit key.first state_now state_now rule.out out' rule.ledger number seat
            view (same_grows key.first state_now number) still
            (λ same. other (same ∙ (owned_number number has).owner_is))
            (rule.seats.each_seat seat view there) (rule.views seat view there));
        pasts = each_past rule.ledger.history after (subst
            (AllByRecursion (λ past. IsPast past rule.ledger.history)) (sym pasts)
            (rule.pasts id before at)) (λ seat view there. rule.pasts seat view there);
      }

  -- a step of one seat that adds an entry by one of its numbers
  pub rule_enters : (entry : Entry) (after : View) (out' : Bool) (words : List ℕ) (homes : Homes) →
      has_number before.account.shares (seat_of entry) ≡ true
      → IsRight key.first state_now entry → after.account ≡
      entered_account seat_of entry rule.ledger.history before.account → after.pasts ≡
      before.pasts
      → Grows key.first state_now (after_entry state_now entry) (seat_of entry) →
      (seat_of entry ≢ 0 → out' ≡ rule.out)
      → AreWords key.limit key.first (after_entry state_now entry) out' words homes
      → FitsView key.limit key.first (after_entry state_now entry) out' (rule.ledger.owner 0) id
      after
      → IsOneQueue key record { words = words; homes = homes; views = set t.views id after }
  rule_enters entry after out' words homes has right account pasts grows still ring own =
      record {
        ledger = ledger_with entry rule.ledger;
        out = out';
        some_room = rule.some_room;
        first_given = rule.first_given;
        legal = (right, rule.legal);
        writers = rule.writers;
        words = ring;
        seats = seats_enter seat_of account_of rule.ledger t.views id before after entry rule.seats
            at has account;
        views = each_view (after_entry state_now entry) out' (rule.ledger.owner 0) after own
            (λ seat view other there.
            others_fit key.limit key.first state_now (after_entry state_now entry) rule.out out'
            rule.ledger (seat_of entry) seat view grows still
            (λ same. other (same ∙ (owned_number (seat_of entry) has).owner_is))
            (rule.seats.each_seat seat view there) (rule.views seat view there));
        pasts = each_past (entry ∷ rule.ledger.history) after
            (subst (AllByRecursion (λ past. IsPast past (entry ∷ rule.ledger.history))) (sym pasts)
            (still_pasts rule.ledger.history entry before.pasts (rule.pasts id before at)))
            (λ seat view there. still_pasts rule.ledger.history entry view.pasts
            (rule.pasts seat view there));
      }

  -- and what it tells the seat
  pub entry_told : (entry : Entry) → has_number before.account.shares (seat_of entry) ≡ true →
      IsRight key.first state_now entry
      → Enters key entry before.account (entered_account seat_of entry rule.ledger.history
      before.account)
  entry_told entry has right =
      record {
        adds = record {
          past = rule.ledger.history;
          looked =
              looks_at seat_of account_of rule.ledger t.views rule.seats id before at;
          new_is =
              refl;
        };
        knows = knows_history (queue_meaning key.first) (opening_state key.limit) (key.writers +
            1) (ledger_with entry rule.ledger) id (entered_account seat_of entry rule.ledger.history
            before.account)
            (right, rule.legal) (
              (owned_number (seat_of entry) has).given,
              rule.seats.by_given,
            ) rule.writers
            (entered_fits seat_of rule.ledger id entry before.account own_ledger);
      }
