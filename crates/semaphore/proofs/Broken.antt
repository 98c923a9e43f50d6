-- Histories that break a law, newest first, of a semaphore of value 0. None is legal.
use Rattle.std.specs.Prelude.{ℕ, List, [], ◌∷◌}
use Rattle.semaphore.specs.declared.sema_object.SemaCall.{SemaCall}
use Rattle.semaphore.specs.declared.sema_object.SemaCall.TheVariants.{Acquire, AcquireNow, Release}
use Rattle.semaphore.specs.declared.sema_object.SemaCall.TheVariants.{Collect, Leave}
use Rattle.semaphore.specs.declared.sema_object.SemaReply.{SemaReply}
use Rattle.semaphore.specs.declared.sema_object.SemaReply.TheVariants as reply
use Rattle.semaphore.specs.SemaHistory.{SemaEntry}

-- a request of a seat, and what it was answered
abbrev pub entry : ℕ → SemaCall → SemaReply → SemaEntry
entry by request answer = record { by = by; request = request; reply = answer }

-- the wait was granted a unit, and its seat is told that it got none
abbrev pub loses_a_granted_unit : List SemaEntry
loses_a_granted_unit =
    entry 0 (Leave 0) reply.Gone
    ∷ entry 1 (Release 1) (reply.Value 1)
    ∷ entry 0 (Acquire 0) (reply.Wait 0)
    ∷ []

-- the unit that was granted is taken by another
abbrev pub gives_a_unit_twice : List SemaEntry
gives_a_unit_twice =
    entry 1 (AcquireNow 1) reply.Acquired
    ∷ entry 1 (Release 1) (reply.Value 1)
    ∷ entry 0 (Acquire 0) (reply.Wait 0)
    ∷ []

-- the second to come is granted the unit
abbrev pub grants_out_of_order : List SemaEntry
grants_out_of_order =
    entry 1 (Collect 1) reply.Granted
    ∷ entry 2 (Release 1) (reply.Value 1)
    ∷ entry 1 (Acquire 1) (reply.Wait 0)
    ∷ entry 0 (Acquire 0) (reply.Wait 0)
    ∷ []

-- a release past the limit is taken
abbrev pub passes_the_limit : List SemaEntry
passes_the_limit =
    entry 0 (Release 1) (reply.Value 2_147_483_648)
    ∷ entry 0 (Release 2_147_483_647) (reply.Value 2_147_483_647)
    ∷ []

-- a refused release adds
abbrev pub adds_what_it_refused : List SemaEntry
adds_what_it_refused =
    entry 0 (AcquireNow 0) reply.Acquired ∷ entry 0 (Release 4_294_967_295) reply.BadArg ∷ []
