-- it has woken each that was named but the last, whoever asked for the first of them, and did
-- nothing else since it began
use Rattle.std.proofs.Common.{◌≡◌, ◌<◌, false, IfSome}
use Rattle.histories.specs.History.{IsPast}
use Rattle.kernel_lock.specs.Seats.{number_of, seen_of}
use Rattle.semaphore.specs.declared.sema.SemaSeat.{SemaSeat}
use Rattle.semaphore.specs.declared.sema_object.SemaCall.TheVariants.{NextWake}
use Rattle.semaphore.specs.Asking.{wake_reply}
use Rattle.semaphore.specs.Seats.{IsSemaSeatOf}
use Rattle.semaphore.proofs.ReleaseLemmas.{HasNamed}
use Rattle.waiting.specs.Waiting.{point}
use Rattle.semaphore.specs.Asking.{Asks}
use Rattle.semaphore.proofs.sema.Sema.wake_granted.Given as goal

abbrev pub invariant-loop : goal.invariant-loop
invariant-loop g l =
    record {
      seat : IsSemaSeatOf l.self l.seat;
      words : l.proc.words ≡ l.initial.proc.words;
      number : number_of l.seat.seat ≡ number_of l.initial.seat.seat;
      there : IfSome l.next (λ grant. grant.seat < l.self.procs);
      named : (before : SemaSeat) →
          Asks l.self false NextWake (wake_reply l.initial.next) before l.initial.seat →
          HasNamed l.self l.next (point before l.initial.proc) (point l.seat l.proc);
      later : IsPast (seen_of l.initial.seat.seat) (seen_of l.seat.seat);
    }
