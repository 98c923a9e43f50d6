-- the requests of which the steps tell
use Rattle.std.proofs.Common.{Some}
use Rattle.kernel_lock.proofs.locked.Locked.serve_then.Given as goal

abbrev pub ghosts-give_served : goal.ghosts-give_served
ghosts-give_served g a =
    record {
      served = Some record { by = a._by; request = a._request.now.value; reply = a._reply.now };
    }

abbrev pub ghosts-enter_served : goal.ghosts-enter_served
ghosts-enter_served g a =
    record {
      served = Some record { by = a._by; request = a._request.now.value; reply = a._reply.now };
    }
