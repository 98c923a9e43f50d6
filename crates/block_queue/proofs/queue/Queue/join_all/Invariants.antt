-- the seats that are left have yet to be joined
use Rattle.std.proofs.Common.{◌≡◌, length}
use Rattle.std.specs.List.{AllByRecursion}
use Rattle.block_queue.specs.Gather.{IsJoining, TellsPasts}
use Rattle.block_queue.specs.Seats.{IsFreeStepperOf, IsPutSeatOf}
use Rattle.block_queue.proofs.queue.Queue.join_all.Given as goal

abbrev pub invariant-joining : goal.invariant-joining
invariant-joining l =
    record {
      stepper : IsFreeStepperOf l.self l.stepper 0;
      taken : l.stepper.me.0.taken ≡ l.initial.stepper.me.0.taken;
      puts : AllByRecursion (IsPutSeatOf l.self) l.puts.items;
      joining : IsJoining l.initial.puts.items l.initial.stepper.me.0.account l.puts.items
          l.stepper.me.0.account;
      pasts : TellsPasts l.initial.puts.items l.initial.stepper.me.0 l.puts.items l.stepper.me.0;
    }

abbrev pub decreases-joining : goal.decreases-joining
decreases-joining l = length l.puts.items
