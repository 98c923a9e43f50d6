-- a write more is joined
use Rattle.std.proofs.Common.{◌≡◌, ◌≤◌, ◌<◌, length, take, drop, get_or, ap, subst, ◌∙◌}
use Rattle.std.proofs.Common.{arith, rules, length-append}
use Rattle.std.proofs.lemmas.List.{take_rest}
use Rattle.sync_base.specs.Write.{Write}
use Rattle.sync_base.specs.PlainPipe.{Contents}
use Rattle.sync_base.proofs.StreamLemmas.{joins_more, offset_within, first_there}
use Rattle.sync_base.proofs.plain_pipe.PlainPipe.join_onto.Goals as goal

pub joining-preserved : goal.joining-preserved
joining-preserved c =
    let write = c.index.result.now in
    let kept = c.args.self.now in
    let within : c.joining.at < length kept.unread = search rules in
    let is : write ≡ get_or kept.unread c.joining.at write =
    c.index.ensures ∙ ap (λ (k : Contents). get_or k.unread c.joining.at write) c.self.view_is in
    let begun : c.joining.offset ≤ length write.bytes =
    offset_within c.joining.offset (length write.bytes)
    (λ some. subst (λ bytes. c.joining.offset < length bytes)
    (first_there kept.unread c.joining.at write within is) (c.joining.invariant.begun some)) in
    let part_is : c.front_of-part.result.now
    ≡ take c.joining.left (drop c.joining.offset write.bytes) =
    c.front_of-part.ensures
    ∙ (ap (take c.joining.left) (take_rest c.deref.result.now c.joining.offset)
    ∙ ap (λ bytes. take c.joining.left (drop c.joining.offset bytes))
    (c.deref.ensures.value ∙ ap (λ (w : Write). w.bytes) c.behind-self.view_is)) in
    let size = ap length c.in_ok-append.ensures.appended ∙ length-append c.joining.room.items
    c.front_of-part.result.now in
    let longer = c.joining.invariant.longer in
    record {
      joined = joins_more c.joining.room.items c.append.new.room.items _ c.front_of-part.result.now
          kept.unread c.joining.at c.joining.offset c.joining.left write within is begun part_is
          c.in_ok-append.ensures.appended c.joining.invariant.joined;
      longer = omega (arith, size, longer);
      begun = λ some. omega (arith, some);
    }
