-- so many writers have their seats
use Rattle.std.proofs.Common.{◌≡◌, ◌≤◌, []}
use Rattle.std.specs.Vec.{vec_capacity}
use Rattle.block_queue.specs.Opening.{AreNewPutSeats, handing_view}
use Rattle.block_queue.proofs.queue.Queue.hand_seats.Given as goal

abbrev pub invariant-loop-writer : goal.invariant-loop-writer
invariant-loop-writer l =
    record {
      table : l.stepper.table_id ≡ l.self.table.shared.table_id;
      view : l.stepper.me ≡ (handing_view l.self.key.writers l.writer, []);
      puts : AreNewPutSeats l.self l.writer l.puts.items;
      room : l.self.key.writers ≤ vec_capacity l.puts;
    }
