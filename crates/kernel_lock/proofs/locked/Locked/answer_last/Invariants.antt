-- the request that the release tells of
use Rattle.std.proofs.Common.{Some}
use Rattle.kernel_lock.proofs.locked.Locked.answer_last.Given as goal

abbrev pub ghosts-give_served : goal.ghosts-give_served
ghosts-give_served g a =
    record {
      served = Some record { by = a._by; request = a._request.now.value; reply = a._reply.now };
    }
