-- The step Settle keeps the rule, and tells how the two histories that a joined seat saw compare.
use Rattle.std.proofs.Common.{◌≡◌, ℕ, ◌<◌, ◌≤◌, Bool, true, false, List, length, get_or, refl, ap}
use Rattle.std.proofs.Common.{subst}
use Rattle.std.proofs.Common.{sym, arith, Some}
use Rattle.std.proofs.lemmas.Bool.Decides.{nat_tests}
use Rattle.std.specs.Prelude.{nat_lt}
use Rattle.atomic_table.specs.Table as table
use Rattle.histories.specs.History.{IsPast}
use Rattle.histories.specs.Account.{KnowsHistory, longer_of, shorter_of}
use Rattle.histories.proofs.ListLemmas.{past_refl, past_shorter}
use Rattle.kernel_lock.specs.declared.view.Key.{Key}
use Rattle.kernel_lock.specs.declared.view.Stage.{Stage}
use Rattle.kernel_lock.specs.declared.view.Stage.TheVariants.{Joining}
use Rattle.kernel_lock.specs.declared.view.View.{View}
use Rattle.kernel_lock.specs.Definition.{Definition, meaning_of, opening_state}
use Rattle.kernel_lock.specs.Rule.{LockState, FitsStage, FitsLock, IsOneHistory}
use Rattle.kernel_lock.specs.Steps.{Slot, Me, HasSettled, HasMerged}
use Rattle.kernel_lock.specs.View.{joined_view, settled_view}
use Rattle.kernel_lock.proofs.RuleLemmas.{sits, knows_history}

module _ {Object State Call Reply : Type 0}
    (definition : Definition Object State Call Reply) where
  -- a look at the word keeps the rule, and tells that the shorter history is a past of the longer
  pub settle_keeps : (key : Key Object) (slots id : ℕ) (me : Me Object Call Reply) →
      me.0.key ≡ Some key → table.Allows (IsOneHistory definition key) slots id me 0 (λ n. n)
      (λ _ after. HasSettled definition me after)
  settle_keeps key slots id me keyed s rule _ at _ = (
    settled_view me.0,
    table.keeps,
    tt,
    sits definition key s rule id me.0 (settled_view me.0) at refl
        record { given = fits.given; stage = tt },
    record {
      view_is = refl;
      slots_are = refl;
      other = λ other joining shorter.
          let stage : FitsStage now id me.0.given (Joining other) =
          subst (λ (its : Stage Call Reply). FitsStage now id me.0.given its) joining
          fits.stage in
          past_shorter other me.0.account.seen rule.ledger.history stage
          (rule.seats.each_seat id me.0 at).seen shorter;
      knows = λ found found_is.
          let same : found ≡ key = cc in
          subst
          (λ (k : Key Object). KnowsHistory (meaning_of definition) (opening_state definition k)
          k.limit me.0.account)
          (sym same) (knows_history definition key s rule id me.0 at);
    },
  )
    where
      now : LockState Call Reply
      now = record { ledger = rule.ledger; holder = rule.holder; word = get_or s.words 0 0 }

      fits : FitsLock now id me.0
      fits = rule.each_seat id me.0 at

  -- what the steps Merge and Settle tell together
  pasts : (first second : View Object Call Reply) (after : Me Object Call Reply)
      (slots : List (ℕ × Slot Object)) (b : Bool) →
      nat_lt (length first.account.seen) (length second.account.seen) ≡ b →
      HasSettled definition (joined_view first second, slots) after →
      IsPast first.account.seen (longer_of first.account.seen second.account.seen) ×
      IsPast second.account.seen (longer_of first.account.seen second.account.seen)
  pasts first second after slots true is has =
      let less : length first.account.seen < length second.account.seen = grind
      (arith, nat_tests) in
      let short : shorter_of first.account.seen second.account.seen ≡ first.account.seen =
      rw is refl in
      let long : longer_of first.account.seen second.account.seen ≡ second.account.seen =
      rw is refl in (
        has.other first.account.seen (ap Joining short) (rw long (omega arith)),
        rw long (past_refl second.account.seen),
      )
  pasts first second after slots false is has =
      let least : length second.account.seen ≤ length first.account.seen = grind
      (arith, nat_tests) in
      let short : shorter_of first.account.seen second.account.seen ≡ second.account.seen =
      rw is refl in
      let long : longer_of first.account.seen second.account.seen ≡ first.account.seen =
      rw is refl in (
        rw long (past_refl first.account.seen),
        has.other second.account.seen (ap Joining short) (rw long least),
      )

  -- a join that has settled makes one seat of two, each of which had seen a past of what that has
  -- seen
  pub merges : (key : Key Object) (first second : View Object Call Reply)
      (after : Me Object Call Reply) (slots : List (ℕ × Slot Object)) →
      first.key ≡ Some key → HasSettled definition (joined_view first second, slots) after →
      HasMerged definition key first second after.0
  merges key first second after slots keyed has =
      let both = pasts first second after slots
      (nat_lt (length first.account.seen) (length second.account.seen)) refl has in
      subst (HasMerged definition key first second) (sym has.view_is)
      record {
        view_is = refl;
        first_past = both.0;
        second_past = both.1;
        knows = has.knows key keyed;
      }
