-- A release names no seat, and neither does what follows it.
use Rattle.semaphore.proofs.ReleaseLemmas.{asks_release}
use Rattle.semaphore.proofs.sema.Sema.ask_release.Goals as goal

pub returns : goal.returns
returns g c =
    record {
      asked = asks_release c.args.self.now c.args.count _ _ c.args.seat.now _ c.requires
          c.apply_then.ensures.seat c.apply_then.ensures.history c.apply_then.ensures.served;
    }
