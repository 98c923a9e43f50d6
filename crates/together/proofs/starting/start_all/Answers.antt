-- A thread stands for the last of those who wait, or it is back and no other has gone.
use Rattle.std.proofs.Common.{rules, ap, length, arith}
use Rattle.together.proofs.TeamLemmas.{starts_begin, starts_stand, lines_left, lines_none}
use Rattle.together.proofs.starting.start_all.Goals as goal

pub starting-init : goal.starting-init
starting-init g c =
    record {
      starts = starts_begin c.args.board.now.decision.id c.args.members.items c.args.handles.items
          c.requires.none;
      room = omega (arith, ap length c.requires.none, c.requires.room);
      count = omega (arith, ap length c.requires.none);
      back = omega (arith, ap length c.requires.none, c.args.members.ok);
    }

pub starting-preserved : goal.starting-preserved
starting-preserved g c =
    record {
      starts = starts_stand c.args.board.now.decision.id c.args.members.items
          c.starting.waiting.items c.pop.new.self.items c.in-Some.member
          c.starting.standing.items c.push_reserved.new.self.items c.in-Ok.handle
          c.starting.invariant.starts c.in-Some.ensures.items c.in-Ok.ensures.stands
          c.push_reserved.ensures.items;
      room = omega (
        arith,
        c.starting.invariant.room,
        c.in-Some.ensures.cases,
        c.push_reserved.ensures.len,
        c.push_reserved.ensures.capacity,
      );
      count = omega (
        arith,
        c.starting.invariant.count,
        c.in-Some.ensures.cases,
        c.push_reserved.ensures.len,
      );
      back = omega (
        arith,
        c.starting.invariant.back,
        c.in-Some.ensures.cases,
        c.pop.ensures.capacity,
        c.push_reserved.ensures.len,
      );
    }

pub returns-in-Err-clause-lined : goal.returns-in-Err-clause-lined
returns-in-Err-clause-lined g c =
    lines_left c.args.board.now.decision.id c.args.members.items g.M.Member.comes_back
    c.starting.waiting.items c.pop.new.self.items c.in-Some.member c.in-Err.left.member
    c.push_reserved-in-Err.new.self.items c.starting.standing.items g.M.Member.same
    c.starting.invariant.starts c.in-Some.ensures.items c.in-Err.ensures.back
    c.push_reserved-in-Err.ensures.items

pub returns-clause-lined : goal.returns-clause-lined
returns-clause-lined g c =
    lines_none c.args.board.now.decision.id c.args.members.items g.M.Member.comes_back
    c.pop.new.self.items c.starting.standing.items
    (search rules) (search rules)
