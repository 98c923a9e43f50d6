-- A pid that was given is in a group.
use Rattle.std.proofs.Common.{◌∙◌, sym, ap, nat_lt, length}
use Rattle.sleep_wakeup.specs.Groups.{Membership, group_of}
use Rattle.sleep_wakeup.proofs.GroupLemmas.{has_group}
use Rattle.sleep_wakeup.proofs.groups.Groups.has.Goals as goal

pub returns-clause-group : goal.returns-clause-group
returns-clause-group c =
    sym (has_group _ _ _ c.args.pid.0 c.self.invariant)
    ∙ ap (λ (m : Membership). nat_lt 0 (length (group_of c.args.pid.0 m.groups))) c.self.view_is
