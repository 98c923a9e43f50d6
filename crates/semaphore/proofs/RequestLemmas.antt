-- Which Rendez a seat has.
use Rattle.std.proofs.Common.{◌<◌, Bool, arith}
use Rattle.kernel_lock.specs.Seats.{number_of}
use Rattle.rendez_words.specs.declared.words.Words.{Words}
use Rattle.rendez_words.specs.Words.{rendez_of}
use Rattle.semaphore.specs.declared.sema.Sema.{Sema}
use Rattle.semaphore.specs.declared.sema.SemaSeat.{SemaSeat}
use Rattle.semaphore.specs.Seats.{IsSeatAt, OwnsRow, rendez_at}

-- a seat's number is below the number of seats
pub is_below : (sema : Sema) (waits : Bool) (seat : SemaSeat) → IsSeatAt sema waits seat
    → number_of seat.seat < sema.procs
is_below sema waits seat at =
    (rw (at.shares_are, at.opened.limit) at at.history.numbers).0

-- so its Rendez is among those of the kernel
pub is_in_row : (sema : Sema) (waits : Bool) (seat : SemaSeat) (words : Words)
    → IsSeatAt sema waits seat → OwnsRow sema words → (rendez_at sema seat).0 < rendez_of words
is_in_row sema waits seat words at row =
    let below = is_below sema waits seat at in omega (arith, below, row)
