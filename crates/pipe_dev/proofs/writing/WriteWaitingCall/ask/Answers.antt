-- The number of a full queue is low; and whoever is told of a hangup knew of it.
use Rattle.std.proofs.Common.{◌∙◌, ap, subst}
use Rattle.rendez_words.specs.Process.{pid_in}
use Rattle.rendez_words.specs.Steps.{notes}
use Rattle.block_queue.specs.Seats.{key_of, put_account}
use Rattle.pipe_dev.specs.WriteCalls.{WriteCall, IsTooLate}
use Rattle.pipe_dev.proofs.CallLemmas.{same_call, some_is}
use Rattle.pipe_dev.proofs.RoundLemmas.{full_low, hungup_knew}
use Rattle.pipe_dev.proofs.writing.WriteWaitingCall.ask.Goals as goal

pub returns-in-Full-clause-low : goal.returns-in-Full-clause-low
returns-in-Full-clause-low g c =
    full_low (key_of c.args.self.now.queue.now) c.args.state.now.seat.writer c.in-Some.block
    c.in-Full.number (put_account c.args.state.now.seat) (put_account c.put.new.seat)
    c.requires.waits.seat.row_is.first c.in-Full.ensures.answer.refused

pub returns-in-Hungup-clause-asked : goal.returns-in-Hungup-clause-asked
returns-in-Hungup-clause-asked g c =
    subst (λ (call : WriteCall). IsTooLate call
    (record { seat = put_account c.args.state.now.seat; process = c.args.proc.now.process })
    (record { seat = put_account c.put.new.seat; process = c.put_back.new.self.process }))
    (same_call c.args.self.now.queue.now c.args.self.now.row.now c.args.state.now.seat
    c.in-Some.block c.args.self.now.bytes.now c.args.self.now.writer
    c.requires.waits.writer_is
    (some_is c.in-Some.block c.args.self.now.bytes.now
    (c.in-Some.ensures.value ∙ c.requires.waits.block_is)))
    (record {
      entered = c.in-Hungup.ensures.answer.refused;
      knew = hungup_knew (key_of c.args.self.now.queue.now) c.args.state.now.seat.writer
          c.in-Some.block (put_account c.args.state.now.seat) (put_account c.put.new.seat)
          c.in-Hungup.ensures.answer.refused;
      noted = c.put_back.ensures.noted
          ∙ ap (notes c.args.proc.now.process (pid_in c.args.proc.now.process))
          c.of-in-Hungup.ensures.value;
    })
