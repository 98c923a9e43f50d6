-- The number that a reader is told is low.
use Rattle.block_queue.specs.Seats.{key_of, take_account}
use Rattle.pipe_dev.proofs.RoundLemmas.{not_yet_low}
use Rattle.pipe_dev.proofs.block_reading.BlockReadWaitingCall.ask.Goals as goal

pub returns-in-NotYet-clause-low : goal.returns-in-NotYet-clause-low
returns-in-NotYet-clause-low g c =
    not_yet_low (key_of c.args.self.now.queue.now) c.in-NotYet.number
    (take_account c.args.state.now.seat) (take_account c.take-2.new.seat)
    c.requires.waits.row_is.first c.in-NotYet.ensures.answer
