-- each game is played on the way from the place to the root, so at the root all are won
use Rattle.std.proofs.Common.{◌≡◌, ◌∙◌, ap, None, arith, ◌+◌, ◌*◌, ◌/◌, drop, set}
use Rattle.std.proofs.lemmas.List.{get_or_default, drop-set-lt, drop-set-add}
use Rattle.std.proofs.Math.ListN.{length-set}
use Rattle.timer_list.specs.Due.{earlier_of}
use Rattle.timer_list.specs.Tournament.{node_at}
use Rattle.timer_list.proofs.TournamentLemmas.{won_after_game}
use Rattle.timer_list.proofs.tournament.Tournament.enter.Goals as goal

-- after the game at the place above, all are won but the one above that
pub loop-place-preserved : goal.loop-place-preserved
loop-place-preserved c =
    let nodes = c.loop-place.self-inside.nodes.items in
    let half = c.loop-place.self-inside.entrants in
    let place = c.loop-place.place / 2 in
    let kept = c.loop-place.invariant in
    let left : c.index.result.now ≡ node_at nodes (2 * place) =
    c.index.ensures ∙ get_or_default nodes _ _ None (omega arith) in
    let right : c.index-in-loop-place.result.now ≡ node_at nodes (2 * place + 1) =
    c.index-in-loop-place.ensures ∙ get_or_default nodes _ _ None (omega arith) in
    let winner : c.earlier.result ≡
    earlier_of (node_at nodes (2 * place)) (node_at nodes (2 * place + 1)) =
    c.earlier.ensures
    ∙ (ap (λ x. earlier_of x c.index-in-loop-place.result.now) left
    ∙ ap (earlier_of (node_at nodes (2 * place))) right) in
    record {
      entrants = kept.entrants;
      some = kept.some;
      few = kept.few;
      size = length-set nodes place _ ∙ kept.size;
      below = omega arith;
      won = won_after_game half place nodes c.earlier.result kept.size (omega arith) (omega arith)
          winner kept.won;
      entered = drop-set-lt half nodes place _ (omega arith) ∙ kept.entered;
    }

-- who entered are those of before, but at the seat
pub returns : goal.returns
returns c =
    let nodes = c.self.inside.nodes.items in
    let half = c.self.inside.entrants in
    let kept = c.loop-place.invariant in
    kept.entered
    ∙ (ap (λ n. drop n (set nodes (half + c.args.seat) c.args.due)) kept.entrants
    ∙ (drop-set-add half nodes c.args.seat c.args.due ∙
    ap (λ l. set l c.args.seat c.args.due) c.self.view_is))
