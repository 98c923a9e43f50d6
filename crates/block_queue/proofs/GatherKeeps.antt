-- The steps of a gather keep the rule: a writer's seat joins the reader's, and the reader looks at
-- the tail.
use Rattle.std.proofs.Common.{◌≡◌, ◌≢◌, ⊎_elim, ℕ, ◌+◌, ◌≤◌, true, List, [], ◌∷◌, get_or, set, refl}
use Rattle.std.proofs.Common.{sym, ap, subst, ◌∙◌, arith, ne_eqb, lt_of_not-le, Some, None}
use Rattle.std.specs.List.{AllByRecursion}
use native.Mathlib.Decide.{dec_le}
use mathlib.Core.Logic.{dite}
use mathlib.Core.Option.{some}
use lib.ListN.{get_elem?}
use Rattle.atomic_table.specs.Table as table
use Rattle.histories.specs.declared.account.Share.{Share}
use Rattle.histories.specs.Account.{has_number}
use Rattle.histories.specs.Ledger.{Ledger, ledger_joined}
use Rattle.histories.proofs.ListLemmas.{at_set, set_else, all_append}
use Rattle.histories.proofs.SeatsKeep.{knows_history, seats_join}
use Rattle.histories.proofs.AloneLemmas.{knows_whole, has_every_number}
use Rattle.histories.proofs.AccountLemmas.{number_has}
use Rattle.histories.specs.History.{AreByBelow, IsPast}
use Rattle.block_queue.specs.declared.entry.Entry.{Entry}
use Rattle.block_queue.specs.declared.view.Key.{Key}
use Rattle.block_queue.specs.declared.view.Stage.{Stage}
use Rattle.block_queue.specs.declared.view.Stage.TheVariants.{Free}
use Rattle.block_queue.specs.declared.view.View.{View}
use Rattle.block_queue.specs.declared.entry.Entry.TheVariants as entry
use Rattle.block_queue.specs.History.{QueueState, seat_of, after_entry, opening_state}
use Rattle.block_queue.proofs.WordMoves.{put_else}
use Rattle.block_queue.specs.Meaning.{queue_after, queue_meaning}
use Rattle.block_queue.specs.Rule.{IsOneQueue, FitsView, account_of, spent_view, put_at, is_moving}
use Rattle.block_queue.specs.Steps.{Seated, joined_view}
use Rattle.block_queue.specs.GatherSteps.{KnowsState, HasSurveyed}
use Rattle.block_queue.proofs.RuleMoves.{QueueTable, own_view, own_ledger, owned_number}
use Rattle.block_queue.proofs.StepLemmas.{loaded, goes_on, no_puts}

-- an entry leaves the puts of other numbers
other_put : (s : QueueState) (made : Entry) (n : ℕ) → n ≢ seat_of made →
    (after_entry s made).putting n ≡ s.putting n
other_put s (entry.Taken writer block number) n apart =
    put_else (writer + 1) n (Some number) s.putting apart
other_put s (entry.Stood writer number) n apart = put_else (writer + 1) n None s.putting apart
other_put s (entry.Full writer block number) n apart = refl
other_put s (entry.Hungup writer block) n apart = refl
other_put s (entry.Worn writer block) n apart = refl
other_put s (entry.Block writer block number) n apart = refl
other_put s (entry.NotYet number) n apart = refl
other_put s entry.End n apart = refl
other_put s (entry.Hung seat) n apart = refl

-- a number that was not given has no put under way
unused_put : (key : Key) (bound n : ℕ) (history : List Entry) → AreByBelow seat_of bound history →
    bound ≤ n → (queue_after key history).putting n ≡ None
unused_put key bound n [] below high = refl
unused_put key bound n (made ∷ past) below high =
    let small = below.0 in
    other_put (queue_after key past) made n (λ same. absurd (omega arith)) ∙
    unused_put key bound n past below.1 high

module _ (key : Key) (id : ℕ) (first : View) (other : ℕ) (second : View) (own :
    has_number first.account.shares 0 ≡ true) (free : first.stage ≡ Free) (free_too : second.stage ≡
    Free) where
  join_parts : (t : QueueTable) → IsOneQueue key t → get_elem? t.views id ≡ some first →
      other ≢ id → get_elem? t.views other ≡ some second
      → IsOneQueue key record {
        words = t.words;
        homes = t.homes;
        views =
            set (set t.views id (joined_view first second)) other spent_view;
      }
  join_parts t rule at apart at_other =
      record {
        ledger = ledger_joined id other rule.ledger;
        out = rule.out;
        some_room = rule.some_room;
        first_given = rule.first_given;
        legal = rule.legal;
        writers = rule.writers;
        words = rule.words;
        seats = seats_join seat_of account_of rule.ledger t.views id other first second
            (joined_view first second) spent_view rule.seats at apart at_other refl refl;
        views = λ seat view there.
            ⊎_elim
            (λ here. subst (λ (v : View). Fits seat v) here.1
            (subst (λ (i : ℕ). Fits i spent_view) (sym here.0) spent))
            (λ else. ⊎_elim
            (λ here. subst (λ (v : View). Fits seat v) here.1
            (subst (λ (i : ℕ). Fits i (joined_view first second)) (sym here.0) joined))
            (λ old. subst (λ (reader : ℕ). FitsView key.limit key.first s rule.out reader seat view)
            (sym reader_is) (rule.views seat view old.1))
            (at_set t.views id seat (joined_view first second) view else.1))
            (at_set (set t.views id (joined_view first second)) other seat spent_view view there);
        pasts = λ seat view there.
            ⊎_elim
            (λ here. subst (λ (v : View). ArePasts v) here.1 tt)
            (λ else. ⊎_elim
            (λ here. subst (λ (v : View). ArePasts v) here.1 (
              (rule.seats.each_seat id first at).seen,
              ((rule.seats.each_seat other second at_other).seen, rule.pasts id first at),
            ))
            (λ old. rule.pasts seat view old.1)
            (at_set t.views id seat (joined_view first second) view else.1))
            (at_set (set t.views id (joined_view first second)) other seat spent_view view there);
      }
    where
      s : QueueState
      s = queue_after key rule.ledger.history

      ArePasts : View → Type 0
      ArePasts view = AllByRecursion (λ past. IsPast past rule.ledger.history) view.pasts

      together : Ledger Entry
      together = ledger_joined id other rule.ledger

      owner_zero : rule.ledger.owner 0 ≡ id
      owner_zero = (owned_number key t rule id first at 0 own).owner_is

      reader_is : together.owner 0 ≡ rule.ledger.owner 0
      reader_is = rw (ne_eqb (rule.ledger.owner 0) other (λ same. apart (sym same ∙ owner_zero)))
          refl

      Fits : ℕ → View → Type 0
      Fits seat view = FitsView key.limit key.first s rule.out (together.owner 0) seat view

      none_put : (seat : ℕ) (view : View) → view.stage ≡ Free →
          FitsView key.limit key.first s rule.out (rule.ledger.owner 0) seat view →
          AllByRecursion (λ share. s.putting share.number ≡ None) view.account.shares
      none_put seat view stage fits = subst (λ (z : Stage). AllByRecursion
          (λ share. s.putting share.number ≡ put_at key.first z share.number) view.account.shares)
          stage fits.puts

      spent : FitsView key.limit key.first s rule.out (together.owner 0) other spent_view
      spent =
          record {
            puts = tt;
            reader_knows = λ reader. absurd (apart (sym reader ∙ reader_is ∙ owner_zero));
            stage = tt;
          }

      joined : FitsView key.limit key.first s rule.out (together.owner 0) id
          (joined_view first second)
      joined =
          let knows = (rule.views id first at).reader_knows owner_zero in
          record {
            puts = all_append (λ (share : Share Entry). s.putting share.number ≡
                None) first.account.shares second.account.shares
                (none_put id first free (rule.views id first at))
                (none_put other second free_too (rule.views other second at_other));
            reader_knows = λ reader. record {
              taken = knows.taken;
              out_is = knows.out_is ∙
                  ap is_moving free;
            };
            stage = tt;
          }

  -- a seat that is joined to another gives it its numbers, and the rule stays
  pub join_keeps : table.Joins (IsOneQueue key) id first other second (joined_view first second)
      spent_view
  join_keeps t rule at apart there = join_parts t rule at apart
      (sym (set_else t.views id other (joined_view first second) apart) ∙ there)

module _ (key : Key) (slots id : ℕ) (me : Seated) (own : has_number me.0.account.shares 0 ≡
    true) (stage : me.0.stage ≡ Free) where
  survey_result : (t : QueueTable) (rule : IsOneQueue key t) (at : get_elem? t.views id ≡
      some me.0) → IsOneQueue key (table.stepped t 0 (get_or t.words 0 0) id me.1 me.0 table.keeps)
      × HasSurveyed key me (get_or t.words 0 0) me
  survey_result t rule at = (
    subst (λ (v : View). IsOneQueue key record {
      words = set t.words 0 (get_or t.words 0 0);
      homes =
          t.homes;
      views = set t.views id v;
    }) same_view
        (loaded key t.words 0 t.homes (set t.views id record me.0 { stage = Free })
        (goes_on key t rule id me.0 at (ap is_moving stage)
        (λ number. ap (λ (z : Stage). put_at key.first z number) stage) Free refl
        (λ number. refl) 0 own tt)),
    record {
      same = refl;
      knows = knows_history (queue_meaning key.first) (opening_state key.limit) (key.writers +
          1) rule.ledger id me.0.account rule.legal rule.seats.by_given rule.writers
          (own_ledger key t rule id me.0 at);
      alone = λ all.
          let whole = knows_whole seat_of account_of rule.ledger t.views rule.seats id me.0 at all
          in
          let reader = (own_view key t rule id me.0 at).reader_knows
          (owned_number key t rule id me.0 at 0 own).owner_is in
          subst (λ (h : List Entry). KnowsState key me.0 (get_or t.words 0 0) h) whole
          record {
            tail = rule.words.tail;
            taken = reader.taken;
            puts = λ number. dite (dec_le (number + 1) rule.ledger.next)
                (λ given. number_has (λ n. (queue_after key rule.ledger.history).putting n ≡
                None) number me.0.account.shares
                (no_puts key t rule id me.0 at (ap is_moving stage)
                (λ number. ap (λ (z : Stage). put_at key.first z number) stage))
                (has_every_number seat_of account_of rule.ledger t.views rule.seats id me.0 at all
                number (omega arith)))
                (λ not. let high = lt_of_not-le not in unused_put key rule.ledger.next number
                rule.ledger.history rule.seats.by_given (omega arith));
            given = rule.first_given;
            pasts = rule.pasts id me.0 at;
          };
    },
  )
    where
      same_view : record me.0 { stage = Free } ≡ me.0
      same_view = ap (λ (z : Stage). record me.0 { stage = z }) (sym stage)

  -- a load of the tail by the reader changes nothing, and tells a seat with all numbers the state
  pub survey_keeps : table.Allows (IsOneQueue key) slots id me 0 (λ n. n) (HasSurveyed key me)
  survey_keeps t rule _ at _ = let both =
      survey_result t rule at in (me.0, table.keeps, tt, both.0, both.1)
