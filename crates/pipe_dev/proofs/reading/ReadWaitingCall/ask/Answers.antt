-- Whatever it is told, its state stands as before.
use Rattle.pipe_dev.specs.declared.state.ReadState.{ReadState}
use Rattle.pipe_dev.specs.Ends.{IsReadState}
use Rattle.pipe_dev.proofs.ModeLemmas.{stands_so}
use Rattle.pipe_dev.proofs.reading.ReadWaitingCall.ask.Goals as goal

pub returns-clause-stands : goal.returns-clause-stands
returns-clause-stands g c =
    stands_so (λ (state : ReadState). IsReadState c.args.self.now.queue.now
    c.args.self.now.row.now state) c.ask_for_bytes.result c.ask_for_bytes.new.state
    c.ask_for_bytes.ensures.state
