-- the next start is of the next pipe, and at last all ends are lent
use Rattle.std.proofs.Common.{◌≡◌, ◌∷◌, rules, length}
use Rattle.std.proofs.Math.ListN.{get_or}
use Rattle.std.specs.Vec.Iter.{into_iter_items}
use Rattle.plan9.proofs.PipesLemmas.{all_lent, next_start, one_more_lent, others_left}
use Rattle.plan9.proofs.pipes.Pipes.ends.Goals as goal

pub ends-requires : goal.ends-requires
ends-requires c =
    let one : into_iter_items c.lending.start-iterator
    ≡ c.in-Some.start ∷ into_iter_items c.next.new.self = search rules in
    let is : c.index-pipe.result.now ≡ get_or c.args.self.now.pipes.items
    (length c.lending.ends.items) c.index-pipe.result.now = search rules in
    record {
      start = next_start c.args.self.now.pipes.items c.lending.ends.items
          c.index-pipe.result.now c.in-Some.start
          (into_iter_items c.lending.start-iterator) (into_iter_items c.next.new.self)
          one c.lending.invariant.left is;
    }

pub lending-preserved : goal.lending-preserved
lending-preserved c =
    let one : into_iter_items c.lending.start-iterator
    ≡ c.in-Some.start ∷ into_iter_items c.next.new.self = search rules in
    let is : c.index-pipe.result.now ≡ get_or c.args.self.now.pipes.items
    (length c.lending.ends.items) c.index-pipe.result.now = search rules in
    record {
      left = others_left c.args.self.now.pipes.items c.lending.ends.items
          c.index-pipe.result.now c.in-Some.start
          (into_iter_items c.lending.start-iterator) (into_iter_items c.next.new.self)
          one c.lending.invariant.left is c.ends.result c.push_reserved.new.self.items
          c.push_reserved.ensures.items;
      lent = one_more_lent c.args.self.now.pipes.items c.lending.ends.items
          c.index-pipe.result.now c.in-Some.start
          (into_iter_items c.lending.start-iterator) (into_iter_items c.next.new.self)
          one c.lending.invariant.left is c.ends.result c.push_reserved.new.self.items
          c.push_reserved.ensures.items c.args.start.starts.items
          (record { there = c.ends.ensures.there; back = c.ends.ensures.back })
          c.lending.invariant.lent;
      room = search rules;
    }

pub returns : goal.returns
returns c =
    let none : length (into_iter_items c.lending.start-iterator) ≡ 0 = search rules in
    record {
      ends = all_lent c.args.self.now.pipes.items c.args.start.starts.items
          c.lending.ends.items (into_iter_items c.lending.start-iterator)
          c.lending.invariant.left c.lending.invariant.lent none;
    }
