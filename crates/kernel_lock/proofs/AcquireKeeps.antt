-- The step Acquire keeps the rule: a seat that finds the lock free is alone inside.
use Rattle.std.proofs.Common.{◌≡◌, ℕ, eqb, set, get_or, refl, sym, subst, arith, eq-eqb, ne_eqb}
use Rattle.std.proofs.Common.{Some}
use mathlib.Core.Logic.{dite}
use mathlib.Core.Option.{none, some}
use native.Mathlib.Decide.{ℕ_discrete}
use lib.ListN.{get_elem?}
use prog.Atomic.{either}
use Rattle.atomic_table.specs.Table as table
use Rattle.histories.proofs.AloneLemmas.{looks_at, is_next}
use Rattle.histories.proofs.HistoryLemmas.{by_below_weaker}
use Rattle.histories.proofs.ListLemmas.{past_refl}
use Rattle.histories.proofs.SeatsKeep.{seats_stay}
use Rattle.histories.specs.Changes.{IsNext}
use Rattle.kernel_lock.specs.declared.view.Key.{Key}
use Rattle.kernel_lock.specs.declared.view.View.{View}
use Rattle.kernel_lock.specs.Definition.{Definition, server}
use Rattle.kernel_lock.specs.Rule.{IsOneHistory}
use Rattle.kernel_lock.specs.Steps.{Slot, Me, FindsObject, TakesLock, HasAcquired}
use Rattle.kernel_lock.specs.View.{account_of, inside_view}
use Rattle.kernel_lock.proofs.RuleLemmas.{lock_moves, rule_after, sits, knows_history}

module _ {Object State Call Reply : Type 0}
    (definition : Definition Object State Call Reply) where
  module _ (key : Key Object) (slots id : ℕ) (me : Me Object Call Reply)
      (keyed : me.0.key ≡ Some key) where
    -- the word was 0: the object and the number beside it are the history's
    takes : (s : table.State (Slot Object) (View Object Call Reply))
        (rule : IsOneHistory definition key s) → get_elem? s.views id ≡ some me.0 →
        get_or s.words 0 0 ≡ 0 →
        (after : View Object Call Reply) × (act : table.Act (Slot Object)) ×
        table.Valid s.homes me.1 act ×
        IsOneHistory definition key (table.stepped s 0 1 id me.1 after act) ×
        TakesLock definition me (after, table.carried_after me.1 act)
    takes s rule at zero =
        let home = rule.home zero in
        let guarded = home.guarded in
        let next_is : guarded.next ≡ rule.ledger.next = home.next_is in
        let fits = rule.each_seat id me.0 at in
        let given = fits.given in
        let limit = rule.limit in
        let after : View Object Call Reply =
        inside_view rule.ledger.history guarded.next me.0 in (
          after,
          table.takes 0 (Some guarded),
          home.there,
          rule_after definition key s (set s.homes 0 none) id 1 after rule.ledger id rule.one_word
              rule.legal rule.limit (λ no. absurd (omega arith))
              (seats_stay server account_of rule.ledger s.views id me.0 after rule.seats at refl)
              record {
                given = omega arith;
                stage = record {
                  history_is = refl;
                  given_is = next_is;
                  holder_is = refl;
                  word_is = refl;
                };
              }
              (λ seat view other there.
              lock_moves
              record { ledger = rule.ledger; holder = rule.holder; word = get_or s.words 0 0 }
              record { ledger = rule.ledger; holder = id; word = 1 } seat view
              (rule.each_seat seat view there) (past_refl rule.ledger.history) (omega arith)
              (λ holds one. omega arith)),
          record {
            history = rule.ledger.history;
            guarded = guarded;
            view_is = refl;
            slots_are = refl;
            looked = looks_at server account_of rule.ledger s.views rule.seats id me.0 at;
            next = subst (IsNext server me.0.account) (sym next_is)
                (is_next server account_of rule.ledger s.views rule.seats id me.0 at);
            given = omega arith;
            finds = λ found found_is.
                let same : found ≡ key = cc in
                subst
                (λ (k : Key Object). FindsObject definition k me.0 rule.ledger.history guarded)
                (sym same)
                record {
                  object = home.object;
                  legal = record {
                    legal = rule.legal;
                    within = by_below_weaker server rule.ledger.next key.limit
                        rule.ledger.history rule.limit rule.seats.by_given;
                  };
                  limit = omega arith;
                  knows = knows_history definition key s rule id me.0 at;
                };
          },
        )

    -- exchanging 0 for 1 in the word keeps the rule; where 0 was found the seat has the lock
    pub acquire_keeps : table.Allows (IsOneHistory definition key) slots id me 0
        (λ n. either (eqb n 0) 1 n) (λ found after. HasAcquired definition me found after)
    acquire_keeps s rule _ at _ = dite (ℕ_discrete word 0)
        (λ free. let t = takes s rule at free in (
          t.0,
          t.1,
          t.2,
          subst (λ b. IsOneHistory definition key
              (table.stepped s 0 (either b 1 word) id me.1 t.0 t.1))
              (sym (eq-eqb word 0 free)) t.3,
          record { free = λ _. t.4; taken = λ not. absurd (not free) },
        ))
        (λ taken. (
          me.0,
          table.keeps,
          tt,
          subst (λ b. IsOneHistory definition key
              (table.stepped s 0 (either b 1 word) id me.1 me.0 table.keeps))
              (sym (ne_eqb word 0 taken))
              (sits definition key s rule id me.0 me.0 at refl (rule.each_seat id me.0 at)),
          record { free = λ free. absurd (taken free); taken = λ _. refl },
        ))
      where
        word : ℕ
        word = get_or s.words 0 0
