-- some parts were read, and their bytes are in the buffer
use Rattle.block_queue.specs.Seats.{key_of}
use Rattle.pipe_dev.specs.Ends.{IsReadState}
use Rattle.pipe_dev.specs.FillSteps.{lending_with, taker_with}
use Rattle.pipe_dev.proofs.FillLemmas.{SoFar, left_to_take}
use Rattle.pipe_dev.proofs.filling.fill.Given as goal

abbrev pub invariant-filling : goal.invariant-filling
invariant-filling l =
    record {
      state : IsReadState l.queue l.row l.state;
      so_far : SoFar (key_of l.queue) l.row.mode (lending_with l.initial.state l.initial.buffer)
          (lending_with l.state l.buffer) l.took l.count l.further;
    }

abbrev pub decreases-filling : goal.decreases-filling
decreases-filling l = left_to_take (key_of l.queue) (taker_with l.state) l.further
