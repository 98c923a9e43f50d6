-- The member of each thread that is joined has come to something; at the end no thread stands.
use Rattle.std.proofs.Common.{◌∙◌, ap, length, arith}
use Rattle.together.proofs.TeamLemmas.{joins_begin, joins_come, joins_end, lock_of_last}
use Rattle.together.proofs.TeamLemmas.{no_more, not_both}
use Rattle.together.proofs.joining.join_all.Goals as goal

pub joining-init : goal.joining-init
joining-init g c =
    record {
      joins = joins_begin c.args.decided.now.of c.args.members.value.items g.M.Member.comes_back
          g.M.Member.ends c.args.room.items c.args.standing.items c.requires.lined
          c.requires.none;
      room = omega (arith, ap length c.requires.none, c.requires.room);
    }

pub agrees-requires : goal.agrees-requires
agrees-requires g c =
    c.in-Back.ensures.1
    ∙ lock_of_last c.args.decided.now.of c.args.members.value.items g.M.Member.ends
    c.joining.ended.items c.joining.standing.items c.pop.new.self.items c.in-Some.handle
    c.joining.invariant.joins c.in-Some.ensures.items

pub unreachable-requires : goal.unreachable-requires
unreachable-requires g c =
    not_both _ _ c.agrees.ensures c.requires.started c.in-Back.ensures.2

pub joining-preserved : goal.joining-preserved
joining-preserved g c =
    record {
      joins = joins_come c.args.decided.now.of c.args.members.value.items g.M.Member.ends
          c.joining.ended.items c.push_reserved.new.self.items c.in-Ran.end
          c.joining.standing.items c.pop.new.self.items c.in-Some.handle
          c.joining.invariant.joins c.in-Some.ensures.items c.in-Ran.ensures.0
          c.push_reserved.ensures.items;
      room = omega (
        arith,
        c.joining.invariant.room,
        c.pop.ensures.len,
        c.push_reserved.ensures.len,
        c.push_reserved.ensures.capacity,
        c.in-Some.ensures.cases,
      );
    }

pub returns : goal.returns
returns g c =
    joins_end c.args.decided.now.of c.args.members.value.items g.M.Member.ends
    c.joining.ended.items c.joining.standing.items c.joining.invariant.joins
    (no_more c.joining.standing.items (omega (arith, c.in_default.ensures.cases)))
