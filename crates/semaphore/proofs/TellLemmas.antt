-- What a request of a seat may be answered: all other answers are left out of the typed ones.
use Rattle.std.proofs.Common.{◌≡◌, ◌≢◌, ℕ, ◌<◌, ◌≤◌, Bool, false, List, [], ◌∷◌, length, arith}
use Rattle.std.proofs.lemmas.Bool.Decides.{nat_tests}
use Rattle.semaphore.specs.declared.limits.TheConstants.{LAST_GRANT}
use Rattle.semaphore.specs.declared.sema_object.SemaCall.TheVariants.{Acquire, AcquireNow}
use Rattle.semaphore.specs.declared.sema_object.SemaCall.TheVariants.{NextWake, Collect, Leave}
use Rattle.semaphore.specs.declared.sema_object.SemaReply.{SemaReply}
use Rattle.semaphore.specs.declared.sema_object.SemaReply.TheVariants as reply
use Rattle.semaphore.specs.Asking.{IsTold}
use Rattle.semaphore.specs.WaitQueue.{AreSeats}
use Rattle.semaphore.specs.Units.{answer_next, grants_of}

-- an acquire of a seat that waits for nothing is answered nothing but Acquired, Wait or Worn
pub acquire_never : (procs number seat : ℕ) (answer : SemaReply)
    → IsTold procs number false (Acquire seat) answer → seat ≡ number → answer ≢ reply.Acquired
    → ((count : ℕ) → answer ≢ reply.Wait count) → answer ≢ reply.Worn → ⊥
acquire_never procs number seat answer told same a b c =
    grind (arith, nat_tests, told.answer_is, told.idle, told.size, told.within)

-- the count that an acquire is told to wait for is at most the last grant
pub acquire_fits : (procs number seat count : ℕ)
    → IsTold procs number false (Acquire seat) (reply.Wait count) → seat ≡ number → count ≤
    LAST_GRANT
acquire_fits procs number seat count told same =
    grind (arith, nat_tests, told.answer_is, told.sound.fits seat)

-- an acquire that does not wait
pub acquire_now_never : (procs number seat : ℕ) (answer : SemaReply)
    → IsTold procs number false (AcquireNow seat) answer → seat ≡ number → answer ≢ reply.Acquired
    → answer ≢ reply.NotNow → ⊥
acquire_now_never procs number seat answer told same a b =
    grind (arith, nat_tests, told.answer_is, told.idle, told.size, told.within)

-- a collect of a seat is answered nothing but Granted or Wait
pub collect_never : (procs number seat : ℕ) (waits : Bool) (answer : SemaReply)
    → IsTold procs number waits (Collect seat) answer → seat ≡ number → answer ≢ reply.Granted
    → ((count : ℕ) → answer ≢ reply.Wait count) → ⊥
collect_never procs number seat waits answer told same a b =
    grind (arith, nat_tests, told.answer_is, told.size, told.within)

-- the count that a collect is told to wait for is at most the last grant
pub collect_fits : (procs number seat count : ℕ) (waits : Bool)
    → IsTold procs number waits (Collect seat) (reply.Wait count) → seat ≡ number → count ≤
    LAST_GRANT
collect_fits procs number seat count waits told same =
    grind (arith, nat_tests, told.answer_is, told.sound.fits seat)

-- a seat that leaves the line is answered nothing but Granted or Gone
pub leave_never : (procs number seat : ℕ) (waits : Bool) (answer : SemaReply)
    → IsTold procs number waits (Leave seat) answer → seat ≡ number → answer ≢ reply.Granted
    → answer ≢ reply.Gone → ⊥
leave_never procs number seat waits answer told same a b =
    grind (arith, nat_tests, told.answer_is, told.size, told.within)

-- who asks whom to wake is answered nothing but a seat with its count, or that there is none
pub next_never : (procs number : ℕ) (waits : Bool) (answer : SemaReply)
    → IsTold procs number waits NextWake answer →
    ((seat grants : ℕ) → answer ≢ reply.Wake seat grants)
    → answer ≢ reply.NoWake → ⊥
next_never procs number waits answer told a b = by told.state.unnamed told.answer_is
  where
    by : (line : List ℕ) → answer ≡ answer_next told.state line → ⊥
    by [] is = b is
    by (seat ∷ rest) is = a seat (grants_of told.state seat) is

-- a seat that is named to be woken is one of the semaphore's
pub next_there : (procs number seat grants : ℕ) (waits : Bool)
    → IsTold procs number waits NextWake (reply.Wake seat grants) → seat < procs
next_there procs number seat grants waits told =
    by told.state.unnamed told.sound.unnamed told.answer_is
  where
    by : (line : List ℕ) → AreSeats (length told.state.stages) line
        → reply.Wake seat grants ≡ answer_next told.state line → seat < procs
    by [] are is = cc
    by (first ∷ rest) are is =
        let same : seat ≡ first = cc in
        omega (arith, are.0, told.size)
