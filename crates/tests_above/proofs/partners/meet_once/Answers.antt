-- Each call is a call of the joined member's history, so the partner of the one is the other.
use Rattle.std.proofs.Common.{sym}
use Rattle.tag_space.proofs.AskLemmas.{is_below}
use Rattle.tag_space.proofs.TwoLemmas.{gets_others, both_are_answered}
use Rattle.tests_above.proofs.partners.meet_once.Goals as goal

pub returns-clause-first : goal.returns-clause-first
returns-clause-first g c two none =
    let space = c.args.space.now in
    let met = c.call_both-first.result in
    let told = c.call_both-first.ensures in
    let joined = c.join_members.ensures.joined in
    gets_others space c.args.first.member met.first.member c.args.second.member met.second.member
    c.join_members.result two c.join_members.ensures.member.one
    (is_below space met.first.member told.first.one)
    (is_below space met.second.member told.second.one) joined.apart joined.first_kept
    joined.second_kept told.first_same.number told.second_same.number none _
    c.args.values.0 c.args.values.1 met.answers.first met.answers.second told.first_call
    told.second_call

pub returns-clause-second : goal.returns-clause-second
returns-clause-second g c two none =
    let space = c.args.space.now in
    let met = c.call_both-first.result in
    let told = c.call_both-first.ensures in
    let joined = c.join_members.ensures.joined in
    gets_others space c.args.second.member met.second.member c.args.first.member met.first.member
    c.join_members.result two c.join_members.ensures.member.one
    (is_below space met.second.member told.second.one)
    (is_below space met.first.member told.first.one) (λ is. joined.apart (sym is))
    joined.second_kept joined.first_kept told.second_same.number told.first_same.number
    none _ c.args.values.1 c.args.values.0 met.answers.second met.answers.first
    told.second_call told.first_call

pub returns-clause-both : goal.returns-clause-both
returns-clause-both g c two none =
    let space = c.args.space.now in
    let met = c.call_both-first.result in
    let told = c.call_both-first.ensures in
    let joined = c.join_members.ensures.joined in
    both_are_answered space c.args.first.member met.first.member c.args.second.member
    met.second.member c.join_members.result two c.join_members.ensures.member.one
    (is_below space met.first.member told.first.one)
    (is_below space met.second.member told.second.one) joined.apart joined.first_kept
    joined.second_kept told.first_same.number told.second_same.number none _
    c.args.values.0 c.args.values.1 met.answers.first met.answers.second told.first_call
    told.second_call

pub returns-clause-also : goal.returns-clause-also
returns-clause-also g c two none =
    let space = c.args.space.now in
    let met = c.call_both-first.result in
    let told = c.call_both-first.ensures in
    let joined = c.join_members.ensures.joined in
    both_are_answered space c.args.second.member met.second.member c.args.first.member
    met.first.member c.join_members.result two c.join_members.ensures.member.one
    (is_below space met.second.member told.second.one)
    (is_below space met.first.member told.first.one) (λ is. joined.apart (sym is))
    joined.second_kept joined.first_kept told.second_same.number told.first_same.number
    none _ c.args.values.1 c.args.values.0 met.answers.second met.answers.first
    told.second_call told.first_call
