-- What a join of two members leaves of each: its calls, and that it rests.
use Rattle.std.proofs.Common.{◌≡◌, ◌≢◌, ℕ, true, List, [], ◌∷◌, ◌++◌}
use Rattle.std.proofs.Common.{sym, subst}
use Rattle.std.specs.List.{AllByRecursion}
use Rattle.histories.specs.Account.{AreDifferent, HasItsEntries, has_number, numbers_in}
use Rattle.histories.specs.History.{IsLegal, IsPast}
use Rattle.histories.specs.declared.account.Share.{Share}
use Rattle.histories.proofs.AccountLemmas.{by_others, none_since, number_has}
use Rattle.kernel_lock.specs.Definition.{server}
use Rattle.tag_space.specs.Members.{space_of, account_of, number_of, seen_of, IsOneOf, IsMemberOf}
use Rattle.tag_space.specs.Rendezvous.{Entry, rendezvous, stage_of}
use Rattle.tag_space.specs.Rendezvous.Stage.{Over}
use Rattle.tag_space.specs.Spaces.{IsKeptIn}
use Rattle.tag_space.specs.declared.member.Member.{Member}
use Rattle.tag_space.specs.declared.space.TagSpace.{TagSpace}
use Rattle.tag_space.proofs.OtherLemmas.{StandsStill, stands_still, none_by}

-- numbers of two lists of shares, all different together, differ
pub apart_in : (first second : List (Share Entry)) (number other : ℕ)
    → AreDifferent (numbers_in (first ++ second)) → has_number first number ≡ true
    → has_number second other ≡ true → number ≢ other
apart_in first second number other different has too =
    number_has (λ n. n ≢ other) number first (others first different) has
  where
    each : (n : ℕ) (shares : List (Share Entry)) → AllByRecursion (λ m. n ≢ m) (numbers_in shares)
        → AllByRecursion (λ (share : Share Entry). n ≢ share.number) shares
    each n [] all = tt
    each n (share ∷ shares) all = (all.0, each n shares all.1)

    after : (n : ℕ) (shares : List (Share Entry))
        → AllByRecursion (λ m. n ≢ m) (numbers_in (shares ++ second)) → n ≢ other
    after n [] all = number_has (λ m. n ≢ m) other second (each n second all) too
    after n (share ∷ shares) all = after n shares all.1

    others : (shares : List (Share Entry)) → AreDifferent (numbers_in (shares ++ second))
        → AllByRecursion (λ (share : Share Entry). share.number ≢ other) shares
    others [] all = tt
    others (share ∷ shares) all = (after share.number shares all.0, others shares all.1)

module _ (space : TagSpace) (member joined : Member) (is : IsMemberOf space member)
    (one : IsOneOf space joined) (past : IsPast (seen_of member) (seen_of joined))
    (kept : AllByRecursion (HasItsEntries server (seen_of joined)) (account_of member).shares) where
  -- others left what the history said of the member
  still : StandsStill (number_of member) (seen_of member) (seen_of joined)
  still =
      subst (StandsStill (number_of member) (seen_of member)) (sym past.new_is)
      (stands_still (space_of space) (number_of member) past.since (seen_of member)
      (subst (IsLegal (rendezvous (space_of space)) []) past.new_is one.history.history.legal)
      (none_by (number_of member) (account_of member).shares past.since is.one.seat.own
      (by_others server (account_of member).shares past.since
      (none_since server (account_of member).shares past.since (seen_of member) is.one.history.mine
      (subst (λ h. AllByRecursion (HasItsEntries server h) (account_of member).shares) past.new_is
      kept)))))

  -- a member that rested rests still in the history that the two have joined
  pub rests_in : stage_of (seen_of joined) (number_of member) ≡ Over
  rests_in = still.over is.rests

  -- a member that is joined has in that history just the calls that it had made
  pub is_kept_in : IsKeptIn joined member
  is_kept_in = record { past = past; calls = still.calls }
