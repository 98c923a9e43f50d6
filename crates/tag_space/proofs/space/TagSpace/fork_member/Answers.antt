-- The child has the next number, by which nothing was asked.
use Rattle.std.proofs.Common.{refl, sym, ap, ◌+◌, ◌<◌, ◌≡◌, [], subst}
use Rattle.histories.specs.History.{AreByBelow}
use Rattle.histories.proofs.AccountLemmas.{number_has}
use Rattle.kernel_lock.specs.Definition.{server}
use Rattle.kernel_lock.specs.Seats.{account_of, seen_of}
use Rattle.tag_space.specs.Members.{space_of, number_of}
use Rattle.tag_space.specs.Outcome.{calls_by}
use Rattle.tag_space.specs.Rendezvous.{stage_of}
use Rattle.tag_space.specs.Rendezvous.Stage.{Over}
use Rattle.tag_space.proofs.AskLemmas.{knows_space}
use Rattle.tag_space.proofs.OtherLemmas.{stands_fresh}
use Rattle.tag_space.proofs.space.TagSpace.fork_member.Goals as goal

pub returns-clause-child : goal.returns-clause-child
returns-clause-child g c =
    let seat = c.in_ok-seat.seat in
    let told = c.in_ok-seat.ensures in
    let knows = knows_space c.args.self.now seat told.child_history in
    let same : (account_of seat).seen ≡ seen_of c.args.member.now.seat =
    ap (λ a. a.seen) told.given.account.child_is in
    let below = subst (λ seen. AreByBelow server (account_of seat).number seen) (sym same)
    told.given.account.next.seen in
    record {
      one = record {
        seat = told.child;
        history = knows;
        rendez = ap (λ n. c.args.self.now.first.0 + n) c.number.ensures;
      };
      rests = subst (λ n. stage_of (account_of seat).seen n ≡ Over) (sym told.child.number)
          ((stands_fresh (space_of c.args.self.now) (account_of seat).number (account_of seat).seen
          knows.history.legal below).over refl);
    }

pub returns-clause-further : goal.returns-clause-further
returns-clause-further g c =
    let seat = c.in_ok-seat.seat in
    let before = c.args.member.now in
    let told = c.in_ok-seat.ensures in
    let knows = knows_space c.args.self.now seat told.child_history in
    let same : (account_of seat).seen ≡ seen_of before.seat =
    ap (λ a. a.seen) told.given.account.child_is in
    let below = subst (λ seen. AreByBelow server (account_of seat).number seen) (sym same)
    told.given.account.next.seen in
    record {
      given = told.given;
      above = subst (λ n. number_of before < n) (sym told.child.number)
          (number_has (λ n. n < (account_of seat).number) (number_of before)
          (account_of before.seat).shares told.given.account.next.own
          c.requires.member.one.seat.own);
      no_calls = subst (λ n. calls_by n (account_of seat).seen ≡ []) (sym told.child.number)
          (stands_fresh (space_of c.args.self.now) (account_of seat).number (account_of seat).seen
          knows.history.legal below).calls;
    }
