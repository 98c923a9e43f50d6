-- The order of the history is the order in time: what was seen stays seen, and no entry comes below
-- it.
use Rattle.std.proofs.Common.{◌≡◌, ℕ, ◌-◌, false, List, [], ◌∷◌, ◌++◌, length}
use Rattle.std.proofs.Common.{set, sym, ap, subst, ◌∙◌, arith, append_assoc}
use mathlib.Core.Logic.{dite}
use mathlib.Core.Option.{some}
use native.Mathlib.Decide.{ℕ_discrete}
use lib.ListN.{get_elem?}
use Rattle.std.proofs.lemmas.List.{append_cancel_right}
use Rattle.histories.specs.declared.account.Account.{Account}
use Rattle.histories.specs.Account.{AreByOthers, has_number, longer_of}
use Rattle.histories.specs.Changes.{LooksAt}
use Rattle.histories.specs.History.{IsPast}
use Rattle.histories.specs.Ledger.{Ledger, AreSeats}
use Rattle.histories.specs.Time.{IsSeen, StaysSeen, KeepsTime, IsRun, starts, IsLinearizable}
use Rattle.histories.specs.Time.{goes_on, IsStep, learns, cuts, joins}
use Rattle.histories.proofs.AccountLemmas.{compares}
use Rattle.histories.proofs.AloneLemmas.{looks_at}
use Rattle.histories.proofs.ListLemmas.{all_past, past_refl, past_cons, past_trans, past_shorter}
use Rattle.histories.proofs.ListLemmas.{set_here, set_else, at_longer, at_once}

module _ {View Entry : Type 0} (account_of : View → Account Entry) where
  -- ---- what was seen stays seen

  seen_by : (moment : List View) (seat : ℕ) (view : View) (history : List Entry) →
      get_elem? moment seat ≡ some view → IsPast history (account_of view).seen →
      IsSeen account_of history moment
  seen_by moment seat view history there past =
      record { seat = seat; view = view; there = there; past = past }

  seen_here : (moment : List View) (history : List Entry) (seen : IsSeen account_of history moment)
      (seat : ℕ) (view : View) → seen.seat ≡ seat → get_elem? moment seat ≡ some view →
      IsPast history (account_of view).seen
  seen_here moment history seen seat view same there =
      let is : seen.view ≡ view = at_once moment seat seen.view view
      (subst (λ (i : ℕ). get_elem? moment i ≡ some seen.view) same seen.there) there in
      subst (λ (v : View). IsPast history (account_of v).seen) is seen.past

  -- where one view is replaced, and what its seat had seen is still seen
  stays_set : (views : List View) (seat : ℕ) (old new : View) → get_elem? views seat ≡ some old →
      IsSeen account_of (account_of old).seen (set views seat new) →
      StaysSeen account_of views (set views seat new)
  stays_set views seat old new at still history seen =
      dite (ℕ_discrete seen.seat seat)
      (λ same. seen_by (set views seat new) still.seat still.view history still.there
      (past_trans history (account_of old).seen (account_of still.view).seen
      (seen_here views history seen seat old same at) still.past))
      (λ other. seen_by (set views seat new) seen.seat seen.view history
      (set_else views seat seen.seat new other ∙ seen.there) seen.past)

  -- where the seat itself has seen it
  pub stays_own : (views : List View) (seat : ℕ) (old new : View) →
      get_elem? views seat ≡ some old → IsPast (account_of old).seen (account_of new).seen →
      StaysSeen account_of views (set views seat new)
  stays_own views seat old new at past =
      stays_set views seat old new at
      (seen_by (set views seat new) seat new (account_of old).seen (set_here views seat new old at)
      past)

  -- a step leaves what was seen, where a seat that learns has seen what it had seen, and so has one
  -- that is cut, and one that is joined has seen what both had
  pub step_stays : {Slots : Type 0} {Learns : View × Slots → ℕ → View × Slots → Type 0}
      {left right : View → View} {both : View → View → View} {spent : View} (by : Entry → ℕ)
      (ledger : Ledger Entry) (before after : List View) → AreSeats by account_of ledger before →
      ((seat found : ℕ) (old new : View × Slots) → get_elem? before seat ≡ some old.0 →
      Learns old found new → IsPast (account_of old.0).seen (account_of new.0).seen) →
      ((view : View) → (account_of (left view)).seen ≡ (account_of view).seen) →
      ((first second : View) → (account_of (both first second)).seen
      ≡ longer_of (account_of first).seen (account_of second).seen) →
      IsStep Learns left right both spent before after → StaysSeen account_of before after
  step_stays by ledger before _ seats learned cut joined (learns seat found old new there tells)
      history seen =
      stays_own before seat old.0 new.0 there (learned seat found old new there tells) history seen
  step_stays {left = left} {right = right} by ledger before _ seats learned cut joined
      (cuts seat old there) history seen =
      let still = stays_own before seat old (left old) there
      (subst (IsPast (account_of old).seen) (sym (cut old)) (past_refl (account_of old).seen))
      history seen in
      seen_by (set before seat (left old) ++ right old ∷ []) still.seat still.view history
      (at_longer (set before seat (left old)) (right old ∷ []) still.seat still.view still.there)
      still.past
  step_stays {both = both} {spent = spent} by ledger before _ seats learned cut joined
      (joins seat other first second there other_there apart) history seen =
      let one = both first second in
      let pasts = compares (account_of first).seen (account_of second).seen ledger.history
      (seats.each_seat seat first there).seen (seats.each_seat other second other_there).seen in
      stays_set (set before seat one) other second spent
      (set_else before seat other one apart ∙ other_there)
      (seen_by (set (set before seat one) other spent) seat one (account_of second).seen
      (set_else (set before seat one) other seat spent (λ here. apart (sym here))
      ∙ set_here before seat one first there)
      (subst (IsPast (account_of second).seen) (sym (joined first second)) pasts.second_past))
      history
      (stays_own before seat first one there
      (subst (IsPast (account_of first).seen) (sym (joined first second)) pasts.first_past) history
      seen)

module _ {View Entry : Type 0} (by : Entry → ℕ) (account_of : View → Account Entry) where
  -- ---- entries come in the order of time

  -- where the seats fit one history at two moments, and what was seen stays seen, the entry of a
  -- call between them comes after all that was seen at the first
  pub keeps_time : (first last : Ledger Entry) (begun ended : List View) →
      AreSeats by account_of first begun → AreSeats by account_of last ended →
      StaysSeen account_of begun ended → KeepsTime by account_of begun ended
  keeps_time first last begun ended at_first at_last stays seat entry past history call seen =
      dite (ℕ_discrete (length history - length past) 0)
      (λ short. past_shorter history past last.history in_last
      (past_trans past (entry ∷ past) last.history (past_cons past past entry (past_refl past))
      whole)
      (omega arith))
      (λ long. absurd (not_there
      (past_trans (entry ∷ past) history first.history
      (past_shorter (entry ∷ past) history last.history whole in_last (omega arith))
      (past_trans history (account_of seen.view).seen first.history seen.past
      (at_first.each_seat seen.seat seen.view seen.there).seen))))
    where
      later : IsSeen account_of history ended
      later = stays history seen

      in_last : IsPast history last.history
      in_last = past_trans history (account_of later.view).seen last.history later.past
          (at_last.each_seat later.seat later.view later.there).seen

      whole : IsPast (entry ∷ past) last.history
      whole = past_trans (entry ∷ past) (account_of call.new).seen last.history call.made
          (at_last.each_seat seat call.new call.at_second).seen

      looks : LooksAt by first.history (account_of call.old)
      looks = looks_at by account_of first begun at_first seat call.old call.at_first

      not_there : IsPast (entry ∷ past) first.history → ⊥
      not_there there =
          let since_is : looks.since ≡ there.since ++ entry ∷ call.later.since =
          append_cancel_right looks.since (there.since ++ entry ∷ call.later.since)
          (account_of call.old).seen
          (sym looks.history_is ∙ there.new_is
          ∙ ap (λ (its : List Entry). there.since ++ entry ∷ its) call.later.new_is
          ∙ sym (append_assoc there.since (entry ∷ call.later.since) (account_of call.old).seen)) in
          let by_others = all_past (λ its. has_number (account_of call.old).shares (by its) ≡ false)
          there.since (entry ∷ call.later.since)
          (subst (AreByOthers by (account_of call.old).shares) since_is looks.by_others) in
          let other = by_others.0 in let own = call.own in cc

-- ---- runs

module _ {Moment View Entry : Type 0} {Rule : Moment → Type 0} {Steps : Moment → Moment → Type 0}
    (by : Entry → ℕ) (account_of : View → Account Entry) (views : Moment → List View)
    (ledger_of : (moment : Moment) → Rule moment → Ledger Entry)
    (seats : (moment : Moment) (rule : Rule moment) →
    AreSeats by account_of (ledger_of moment rule) (views moment))
    (stays : (before : Moment) → Rule before → (after : Moment) → Steps before after →
    StaysSeen account_of (views before) (views after)) where
  rules : (begun ended : Moment) → IsRun Rule Steps begun ended → Rule begun × Rule ended
  rules begun _ (starts rule) = (rule, rule)
  rules begun ended (goes_on {between = between} run step rule) =
      ((rules begun between run).0, rule)

  run_stays : (begun ended : Moment) → IsRun Rule Steps begun ended →
      StaysSeen account_of (views begun) (views ended)
  run_stays begun _ (starts rule) history seen = seen
  run_stays begun ended (goes_on {between = between} run step rule) history seen =
      stays between (rules begun between run).1 ended step history
      (run_stays begun between run history seen)

  run_keeps_time : (begun ended : Moment) → IsRun Rule Steps begun ended →
      KeepsTime by account_of (views begun) (views ended)
  run_keeps_time begun ended run =
      let rule = rules begun ended run in
      keeps_time by account_of (ledger_of begun rule.0) (ledger_of ended rule.1) (views begun)
      (views ended) (seats begun rule.0) (seats ended rule.1) (run_stays begun ended run)

  -- where the seats fit one legal history at each moment, and each step leaves what was seen, the
  -- table is linearizable
  pub is_linearizable : (IsLegal : List Entry → Type 0) →
      ((moment : Moment) (rule : Rule moment) → IsLegal (ledger_of moment rule).history) →
      IsLinearizable by account_of views IsLegal Rule Steps
  is_linearizable IsLegal legal =
      record {
        history = λ moment rule. (
          (ledger_of moment rule).history,
          legal moment rule,
          looks_at by account_of (ledger_of moment rule) (views moment) (seats moment rule),
        );
        seen = run_stays;
        entries = run_keeps_time;
        calls = λ earlier returned begun ended run next_run seat other entry next past before one
            two.
            run_keeps_time begun ended next_run other next before (entry ∷ past) two
            (run_stays returned begun run (entry ∷ past)
            (seen_by account_of (views returned) seat one.new (entry ∷ past) one.at_second
            one.made));
      }
