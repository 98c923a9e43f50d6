-- The member of each thread that is joined is back; at the end no thread stands.
use Rattle.std.proofs.Common.{◌∙◌, arith}
use Rattle.together.proofs.TeamLemmas.{lines_back, lines_end, lock_of_last}
use Rattle.together.proofs.TeamLemmas.{no_more}
use Rattle.together.proofs.joining.take_back.Goals as goal

pub agrees-requires : goal.agrees-requires
agrees-requires g c =
    c.in-Ran.ensures.1
    ∙ lock_of_last c.args.decided.now.of c.args.members.value.items g.M.Member.comes_back
    c.joining.back.items c.joining.standing.items c.pop.new.self.items c.in-Some.handle
    c.joining.invariant.lined c.in-Some.ensures.items

pub joining-preserved : goal.joining-preserved
joining-preserved g c =
    record {
      lined = lines_back c.args.decided.now.of c.args.members.value.items g.M.Member.comes_back
          c.joining.back.items c.push_reserved.new.self.items c.in-Back.member
          c.joining.standing.items c.pop.new.self.items c.in-Some.handle
          c.joining.invariant.lined c.in-Some.ensures.items c.in-Back.ensures.0
          c.push_reserved.ensures.items;
      room = omega (
        arith,
        c.joining.invariant.room,
        c.pop.ensures.len,
        c.push_reserved.ensures.len,
        c.push_reserved.ensures.capacity,
        c.in-Some.ensures.cases,
      );
    }

pub returns : goal.returns
returns g c =
    lines_end c.args.decided.now.of c.args.members.value.items g.M.Member.comes_back
    c.joining.back.items c.joining.standing.items c.joining.invariant.lined
    (no_more c.joining.standing.items (omega (arith, c.in_default.ensures.cases)))
