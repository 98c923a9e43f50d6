-- one seat more is given; or the last can give none, or is the last of them
use Rattle.std.proofs.Common.{◌≡◌, arith, refl}
use Rattle.plan9.specs.Chains.{RunsOut}
use Rattle.plan9.proofs.ChainLemmas.{chain_and_one, one_longer, told_as}
use Rattle.plan9.proofs.many.split_into.Goals as goal

pub splitting-preserved : goal.splitting-preserved
splitting-preserved g c =
    let held = c.splitting.invariant in
    let items = c.push_reserved.ensures.items in
    let counted = held.counted in
    let below = c.splitting-test.true in
    let room = held.room in
    let same_room = c.push_reserved.ensures.capacity in
    let longer = one_longer c.splitting.list.items c.push_reserved.new.self.items c.replace.result
    items in
    record {
      counted = omega (arith, counted, longer);
      limit = omega (arith, below);
      count = held.count;
      room = omega (arith, room, same_room);
      chain = chain_and_one g.S.Splits.gives c.splitting.list.items c.push_reserved.new.self.items
          c.args.first c.splitting.last c.further.new.self c.replace.result c.in_ok-next.next
          c.replace.new.dest items c.replace.ensures.value c.replace.ensures.after held.chain
          c.in_ok-next.ensures.given;
    }

pub returns-clause-many : goal.returns-clause-many
returns-clause-many g c =
    let held = c.splitting.invariant in
    let counted = held.counted in
    let limit = held.limit in
    let above = c.splitting-test.false in
    let longer = one_longer c.splitting.list.items c.push_reserved-2.new.self.items
    c.splitting.last c.push_reserved-2.ensures.items in
    record {
      count_is = omega (arith, counted, limit, above, longer);
      first = c.args.first;
      first_is = refl;
      givers = c.splitting.list.items;
      last = c.splitting.last;
      chain = held.chain;
      seats_are = c.push_reserved-2.ensures.items;
    }

pub returns-in_err-next-clause-out : goal.returns-in_err-next-clause-out
returns-in_err-next-clause-out g c =
    let counted = c.splitting.invariant.counted in
    let below = c.splitting-test.true in
    told_as (λ why. RunsOut g.S.Splits.gives (λ one. one ≡ c.args.first) g.S.Splits.knows_none
    c.args.count) c.in_err-next.field-0.0 c.from_residual.result c.from_residual.ensures.1
    (record {
      first = c.args.first;
      first_is = refl;
      givers = c.splitting.list.items;
      before = c.splitting.last;
      after = c.further.new.self;
      chain = c.splitting.invariant.chain;
      fewer = omega (arith, counted, below);
      none = c.in_err-next.ensures.refused;
    })
