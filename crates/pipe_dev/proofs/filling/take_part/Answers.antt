-- a part of what is left, or of the write that was taken out
use Rattle.std.proofs.Common.{refl, sym, ◌∙◌, ap, inl, inr, length, Some, Option}
use Rattle.block_queue.specs.Seats.{key_of, take_account}
use Rattle.pipe_dev.specs.Filling.{number_of}
use Rattle.pipe_dev.specs.Parts.{Part, part_of}
use Rattle.pipe_dev.proofs.FillLemmas.{taken_whole, whole_number}
use Rattle.pipe_dev.proofs.filling.take_part.Goals as goal

pub returns-in-Some-clause-next : goal.returns-in-Some-clause-next
returns-in-Some-clause-next c =
    let part = part_of (length c.args.room.now) c.in-Some.begun in
    record {
      part = part;
      taken = record {
        left = c.in-Some.begun;
        next = inl record { left_is = sym c.in-Some.ensures.value; account = refl };
        part_is = refl;
        rest = c.give-count.ensures.left;
      };
      filled = c.give-count.ensures.filled;
      number_is = ap (λ (r : Option Part). number_of r part) c.in-Some.ensures.value;
    }

pub returns-in-Block-clause-next : goal.returns-in-Block-clause-next
returns-in-Block-clause-next c =
    let whole = c.whole-whole.result in
    let part = part_of (length c.args.room.now) whole in
    let key = key_of c.args.queue.now in
    let old = take_account c.args.state.now.seat in
    let new = take_account c.take-2.new.seat in
    record {
      part = part;
      taken = record {
        left = whole;
        next = inr record {
          none_left = sym c.in_default.ensures.value;
          taken =
              taken_whole key old new c.in-Block.writer c.in-Block.block c.in-Block.number whole
              c.whole-whole.ensures c.in-Block.ensures.answer;
        };
        part_is = refl;
        rest = c.give-count-in-Block.ensures.left;
      };
      filled = c.give-count-in-Block.ensures.filled;
      number_is =
          ap Some
          (whole_number key old new c.in-Block.writer c.in-Block.block c.in-Block.number whole
          c.whole-whole.ensures c.in-Block.ensures.answer)
          ∙ ap (λ (r : Option Part). number_of r part) c.in_default.ensures.value;
    }
