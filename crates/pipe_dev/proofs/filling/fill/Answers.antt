-- a part more, and no more
use Rattle.std.proofs.Common.{sym, ap, subst, ◌+◌, ◌<◌, nat_lt, length}
use Rattle.block_queue.specs.Seats.{key_of}
use Rattle.pipe_dev.specs.FillSteps.{lending_with, taker_with}
use Rattle.pipe_dev.proofs.FillLemmas.{next_so_far, goes_on_after, enough_so_far, not_yet_so_far}
use Rattle.pipe_dev.proofs.FillLemmas.{end_so_far, next_is_nearer, left_to_take, back_of}
use Rattle.pipe_dev.proofs.filling.fill.Goals as goal

pub filling-preserved-in-Message : goal.filling-preserved-in-Message
filling-preserved-in-Message c =
    let step = c.take_part.new in
    let buffer =
    (back_of (lending_with c.filling.state c.filling.buffer) c.filling.count
    (taker_with step.state) step.room).buffer in
    record {
      state = c.take_part.ensures.state;
      so_far = next_so_far c.filling.invariant.so_far c.filling-test.true (taker_with step.state)
          step.room c.in-Part.ensures.next c.take_part.auto.room _
          (sym (ap (λ m. goes_on_after m (c.filling.count + c.in-Part.more) buffer)
          c.in-Message.is));
    }

pub filling-preserved : goal.filling-preserved
filling-preserved c =
    let step = c.take_part.new in
    let buffer =
    (back_of (lending_with c.filling.state c.filling.buffer) c.filling.count
    (taker_with step.state) step.room).buffer in
    record {
      state = c.take_part.ensures.state;
      so_far = next_so_far c.filling.invariant.so_far c.filling-test.true (taker_with step.state)
          step.room c.in-Part.ensures.next c.take_part.auto.room _
          (sym (ap (λ m. goes_on_after m (c.filling.count + c.in-Part.more) buffer)
          c.in-Stream.is));
    }

pub filling-smaller : goal.filling-smaller
filling-smaller c =
    let key = key_of c.args.queue.now in
    let now = lending_with c.filling.state c.filling.buffer in
    let new = taker_with c.take_part.new.state in
    let room = c.take_part.new.room in
    let buffer = (back_of now c.filling.count new room).buffer in
    let state = c.filling.invariant.state in
    let on = nat_lt (c.filling.count + c.in-Part.more) (length buffer) in
    subst (λ b. left_to_take key new on < left_to_take key now.taker b) (sym c.filling-test.true)
    (next_is_nearer c.filling.invariant.so_far c.filling-test.true new room c.in-Part.ensures.next
    c.take_part.auto.room on
    (sym (ap (λ m. goes_on_after m (c.filling.count + c.in-Part.more) buffer) c.in-Stream.is))
    state.row_is.first state.seat.own state.knows)

pub returns-in-NotYet-clause-filled : goal.returns-in-NotYet-clause-filled
returns-in-NotYet-clause-filled c =
    not_yet_so_far c.filling.invariant.so_far c.filling-test.true
    (taker_with c.take_part.new.state) c.take_part.new.room c.in-NotYet.number
    c.in-NotYet.ensures.next

pub returns-in-End-clause-filled : goal.returns-in-End-clause-filled
returns-in-End-clause-filled c =
    end_so_far c.filling.invariant.so_far c.filling-test.true (taker_with c.take_part.new.state)
    c.take_part.new.room c.in-End.ensures.next

pub returns-clause-filled : goal.returns-clause-filled
returns-clause-filled c = enough_so_far c.filling.invariant.so_far c.filling-test.false
