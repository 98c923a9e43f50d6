-- The joined member has seen one history, of which both had seen a past with all their calls.
use Rattle.std.proofs.Common.{refl, sym, ap, ◌∙◌, ◌+◌, ◌++◌, ◌≡◌, subst}
use Rattle.std.specs.List.{AllByRecursion}
use Rattle.histories.specs.Account.{HasItsEntries, AreDifferent, numbers_in}
use Rattle.histories.proofs.ListLemmas.{all_since, all_past}
use Rattle.kernel_lock.specs.Definition.{server}
use Rattle.tag_space.specs.Members.{IsOneOf, account_of, number_of, seen_of}
use Rattle.tag_space.specs.Rendezvous.{stage_of}
use Rattle.tag_space.specs.Rendezvous.Stage.{Over}
use Rattle.tag_space.specs.declared.member.Member.{Member}
use Rattle.tag_space.proofs.AskLemmas.{knows_space}
use Rattle.tag_space.proofs.JoinLemmas.{apart_in, rests_in, is_kept_in}
use Rattle.tag_space.proofs.space.TagSpace.join_members.Goals as goal

-- the joined member
abbrev joined : goal.After-join → Member
joined g = record { seat = g.join.result; rendez = g.args.first.rendez }

-- it has the first's number
number_is : (g : goal.After-join) → number_of (joined g) ≡ number_of g.args.first
number_is g =
    g.join.ensures.seat.number
    ∙ ap (λ a. a.number) g.join.ensures.joined.account.joined_is
    ∙ sym g.requires.first.one.seat.number

-- it has the numbers of both
shares_are : (g : goal.After-join) → (account_of (joined g)).shares
    ≡ (account_of g.args.first).shares ++ (account_of g.args.second).shares
shares_are g = ap (λ a. a.shares) g.join.ensures.joined.account.joined_is

is_one : (g : goal.After-join) → IsOneOf g.args.self.now (joined g)
is_one g =
    record {
      seat = g.join.ensures.seat;
      history = knows_space g.args.self.now g.join.result g.join.ensures.history;
      rendez = g.requires.first.one.rendez
          ∙ ap (λ n. g.args.self.now.first.0 + n) (sym (number_is g));
    }

-- the entries of both stand in its history, once each
both_all : (g : goal.After-join) → AllByRecursion (HasItsEntries server (seen_of (joined g)))
    ((account_of g.args.first).shares ++ (account_of g.args.second).shares)
both_all g =
    subst (AllByRecursion (HasItsEntries server (seen_of (joined g)))) (shares_are g)
    (is_one g).history.mine

first_all : (g : goal.After-join) → AllByRecursion (HasItsEntries server (seen_of (joined g)))
    (account_of g.args.first).shares
first_all g =
    all_since (HasItsEntries server (seen_of (joined g))) (account_of g.args.first).shares
    (account_of g.args.second).shares (both_all g)

second_all : (g : goal.After-join) → AllByRecursion (HasItsEntries server (seen_of (joined g)))
    (account_of g.args.second).shares
second_all g =
    all_past (HasItsEntries server (seen_of (joined g))) (account_of g.args.first).shares
    (account_of g.args.second).shares (both_all g)

pub returns-clause-member : goal.returns-clause-member
returns-clause-member g =
    record {
      one = is_one g;
      rests = subst (λ n. stage_of (seen_of (joined g)) n ≡ Over) (sym (number_is g))
          (rests_in g.args.self.now g.args.first (joined g) g.requires.first (is_one g)
          g.join.ensures.joined.account.first_past (first_all g));
    }

pub returns-clause-same : goal.returns-clause-same
returns-clause-same g = record { number = number_is g; rendez = refl }

pub returns-clause-joined : goal.returns-clause-joined
returns-clause-joined g =
    record {
      seats = g.join.ensures.joined;
      apart = apart_in (account_of g.args.first).shares (account_of g.args.second).shares
          (number_of g.args.first) (number_of g.args.second)
          (subst (λ shares. AreDifferent (numbers_in shares)) (shares_are g)
          (is_one g).history.different) g.requires.first.one.seat.own
          g.requires.second.one.seat.own;
      first_kept = is_kept_in g.args.self.now g.args.first (joined g) g.requires.first (is_one g)
          g.join.ensures.joined.account.first_past (first_all g);
      second_kept = is_kept_in g.args.self.now g.args.second (joined g) g.requires.second (is_one g)
          g.join.ensures.joined.account.second_past (second_all g);
    }
