-- A child with a member of its parent's space: it was asked for and a new space was not, so its
-- parent's member gave it a further one.
use Rattle.std.proofs.Common.{rules}
use Rattle.tag_space.specs.Forks.{JoinsParent}
use Rattle.plan9.proofs.spaces.Member.rfork.Goals as goal

pub returns-in-None-Some-default-clause-forked : goal.returns-in-None-Some-default-clause-forked
returns-in-None-Some-default-clause-forked g c =
    let joins : JoinsParent c.args.flags =
    record { child = search rules; no_space = search rules } in
    record {
      joins = joins;
      space_is = search rules;
      child_is = search rules;
      further = record { space_is = search rules; further = search rules };
    }
