-- every game is won, so the root has the earliest of all who entered
use Rattle.std.proofs.Common.{◌∙◌, ap, None, arith}
use Rattle.std.proofs.lemmas.List.{get_or_default}
use Rattle.timer_list.specs.Due.{earliest}
use Rattle.timer_list.proofs.TournamentLemmas.{root_is_earliest}
use Rattle.timer_list.proofs.tournament.Tournament.earliest.Goals as goal

-- the root is the earliest
pub returns : goal.returns
returns c =
    let nodes = c.self.inside.nodes.items in
    c.index.ensures
    ∙ (get_or_default nodes 1 c.index.result.now None (omega arith)
    ∙ (root_is_earliest c.self.inside.entrants nodes c.self.invariant ∙ ap earliest c.self.view_is))
