-- No list grows.
use Rattle.std.proofs.Common.{arith}
use Rattle.messages.proofs.LineLemmas.{length_most}
use Rattle.messages.proofs.line.Line.leave.Goals as goal

pub invariant_of-self : goal.invariant_of-self
invariant_of-self c =
    let o = c.self.inside in
    let kept = c.self.invariant in
    let few = kept.few in
    let waiting = length_most o.waiting.items c.args.place in
    let granted = length_most o.granted.items c.args.place in
    record {
      few = rw (c.take_away.ensures.items, c.take_away-2.ensures.items)
          (omega (arith, few, waiting, granted));
      waiting = rw c.take_away.ensures.capacity kept.waiting;
      granted = rw c.take_away-2.ensures.capacity kept.granted;
      opened = kept.opened;
    }
