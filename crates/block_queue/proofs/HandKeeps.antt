-- The step Hand keeps the rule: the reader hands a number over to a new seat.
use Rattle.std.proofs.Common.{◌≡◌, ◌≢◌, ⊎_elim, ℕ, zero, suc, ◌<◌, List, [], ◌∷◌, ◌++◌, length, set}
use Rattle.std.proofs.Common.{refl, sym, ap, subst, ◌∙◌, arith, length-set, eq-eqb, ne_eqb, None}
use Rattle.std.specs.List.{AllByRecursion}
use mathlib.Core.Option.{some, some-ne-none}
use lib.ListN.{get_elem?}
use Rattle.atomic_table.specs.Table as table
use Rattle.histories.specs.declared.account.Share.{Share}
use Rattle.histories.specs.Account.{has_number}
use Rattle.histories.specs.Changes.{keeping_account, handed_account}
use Rattle.histories.specs.History.{IsPast}
use Rattle.histories.specs.Ledger.{Ledger, ledger_handed}
use Rattle.histories.proofs.ListLemmas.{at_set, at_end}
use Rattle.histories.proofs.SeatsKeep.{seats_hand}
use Rattle.block_queue.specs.declared.entry.Entry.{Entry}
use Rattle.block_queue.specs.declared.view.Key.{Key}
use Rattle.block_queue.specs.declared.view.Stage.{Stage}
use Rattle.block_queue.specs.declared.view.Stage.TheVariants.{Free}
use Rattle.block_queue.specs.declared.view.View.{View}
use Rattle.block_queue.specs.History.{QueueState, seat_of}
use Rattle.block_queue.specs.Meaning.{queue_after}
use Rattle.block_queue.specs.Rule.{IsOneQueue, FitsView, FitsStage, account_of, put_at}
use Rattle.block_queue.specs.Steps.{second_share, without_second, keeper_view, handed_view}
use Rattle.block_queue.proofs.RuleMoves.{QueueTable, owned_number}

at_within : {A : Type 0} (l : List A) (i : ℕ) (a : A) → get_elem? l i ≡ some a → i < length l
at_within [] i a e = absurd (some-ne-none a (sym e))
at_within (x ∷ l) zero a e = omega arith
at_within (x ∷ l) (suc i) a e = let below = at_within l i a e in omega arith

module _ (key : Key) (id : ℕ) (before : View) (zero_share share : Share Entry) (rest :
    List (Share Entry)) (shares_are : before.account.shares ≡ zero_share ∷ share ∷ rest) (first :
    zero_share.number ≡ 0) (later : 0 < share.number) (stage : before.stage ≡ Free) where
  hand_parts : (t : QueueTable) → IsOneQueue key t → get_elem? t.views id ≡ some before →
      IsOneQueue key record {
        words = t.words;
        homes = t.homes;
        views =
            set t.views id (keeper_view before) ++ handed_view before ∷ [];
      }
  hand_parts t rule at =
      record {
        ledger = ledger_handed 0 share.number (length (set t.views id (keeper_view before)))
            rule.ledger;
        out = rule.out;
        some_room = rule.some_room;
        first_given = rule.first_given;
        legal = rule.legal;
        writers = rule.writers;
        words = rule.words;
        seats = seats_hand seat_of account_of rule.ledger t.views id 0 before (keeper_view before)
            (handed_view before) (zero_share ∷ []) rest share rule.seats at shares_are
            (rw (eq-eqb zero_share.number 0 first) refl) later
            (ap (λ (shares : List (Share Entry)). keeping_account (without_second shares)
            before.account) shares_are)
            (ap (λ (shares : List (Share Entry)). handed_account (second_share shares)
            before.account) shares_are);
        views = λ seat view there.
            ⊎_elim
            (λ old. ⊎_elim
            (λ here. subst (λ (v : View). Fits seat v) here.1
            (subst (λ (i : ℕ). Fits i (keeper_view before)) (sym here.0) keeper))
            (λ else. subst (λ (reader : ℕ). FitsView key.limit key.first s rule.out reader seat
            view) (sym reader_is) (rule.views seat view else.1))
            (at_set t.views id seat (keeper_view before) view old))
            (λ last. subst (λ (v : View). Fits seat v) last.0
            (subst (λ (i : ℕ). Fits i (handed_view before)) (sym last.1) child))
            (at_end (set t.views id (keeper_view before)) (handed_view before) view seat there);
        pasts = λ seat view there.
            ⊎_elim
            (λ old. ⊎_elim
            (λ here. subst (λ (v : View). ArePasts v) here.1 (rule.pasts id before at))
            (λ else. rule.pasts seat view else.1)
            (at_set t.views id seat (keeper_view before) view old))
            (λ last. subst (λ (v : View). ArePasts v) last.0 tt)
            (at_end (set t.views id (keeper_view before)) (handed_view before) view seat there);
      }
    where
      s : QueueState
      s = queue_after key rule.ledger.history

      ArePasts : View → Type 0
      ArePasts view = AllByRecursion (λ past. IsPast past rule.ledger.history) view.pasts

      new_seat : ℕ
      new_seat = length (set t.views id (keeper_view before))

      after : Ledger Entry
      after = ledger_handed 0 share.number new_seat rule.ledger

      reader_is : after.owner 0 ≡ rule.ledger.owner 0
      reader_is = let apart : 0 ≢ share.number =
          λ same. absurd (omega arith) in rw (ne_eqb 0 share.number apart) refl

      Fits : ℕ → View → Type 0
      Fits seat view = FitsView key.limit key.first s rule.out (after.owner 0) seat view

      old_view : FitsView key.limit key.first s rule.out (rule.ledger.owner 0) id before
      old_view = rule.views id before at

      puts : AllByRecursion (λ share. s.putting share.number ≡
          put_at key.first before.stage share.number) (zero_share ∷ share ∷ rest)
      puts = subst (AllByRecursion (λ share. s.putting share.number ≡
          put_at key.first before.stage share.number)) shares_are old_view.puts

      owner_zero : rule.ledger.owner 0 ≡ id
      owner_zero = (owned_number key t rule id before at 0
          (ap (λ (shares : List (Share Entry)). has_number shares 0) shares_are ∙
          rw (eq-eqb zero_share.number 0 first) refl)).owner_is

      keeper : FitsView key.limit key.first s rule.out (after.owner 0) id (keeper_view before)
      keeper =
          record {
            puts = subst (λ (shares : List (Share Entry)). AllByRecursion
                (λ share. s.putting share.number ≡ put_at key.first before.stage share.number)
                (without_second shares)) (sym shares_are) (puts.0, puts.1.1);
            reader_knows = λ reader. let knows = old_view.reader_knows owner_zero in record
                { taken = knows.taken; out_is = knows.out_is };
            stage = subst (λ (z : Stage). FitsStage key.limit key.first s
                (keeper_view before).account.shares (after.owner 0) id z) (sym stage) tt;
          }

      child : FitsView key.limit key.first s rule.out (after.owner 0) new_seat (handed_view before)
      child =
          record {
            puts = subst (λ (shares : List (Share Entry)). AllByRecursion
                (λ share. s.putting share.number ≡ None) (second_share shares ∷ []))
                (sym shares_are)
                (puts.1.0 ∙ ap (λ (z : Stage). put_at key.first z share.number) stage, tt);
            reader_knows = λ reader.
                let below : id < length t.views = at_within t.views id before at in
                let long = length-set t.views id (keeper_view before) in
                let same : id ≡ new_seat = sym owner_zero ∙ sym reader_is ∙ reader in
                absurd (omega arith);
            stage = tt;
          }

  -- a seat that hands its second number to a new one splits in two, and the rule stays
  pub hand_keeps : table.Splits (IsOneQueue key) id before (keeper_view before) (handed_view before)
  hand_keeps t rule at = hand_parts t rule at
