-- What semrelease promises. After semrelease in semacquire(2). Own: it answers the sum, and wakes
-- each process that was granted a unit with the number of its grants.
use Rattle.std.specs.Prelude.{◌≡◌, ℕ, false, List, [], ◌∷◌, Result, Ok, Err}
use Rattle.histories.specs.History.{IsPast}
use Rattle.kernel_lock.specs.Seats.{number_of, seen_of}
use Rattle.sleep_wakeup.specs.Actions.{WakesOne}
use Rattle.sync_base.specs.declared.fault.Fault.{Fault}
use Rattle.sync_base.specs.declared.fault.Fault.TheVariants as fault
use Rattle.semaphore.specs.declared.sema.Sema.{Sema}
use Rattle.semaphore.specs.declared.sema.SemaSeat.{SemaSeat}
use Rattle.semaphore.specs.declared.sema_asks.Grant.{Grant}
use Rattle.semaphore.specs.declared.sema_object.SemaCall.TheVariants.{Release, NextWake}
use Rattle.semaphore.specs.declared.sema_object.SemaReply.{SemaReply}
use Rattle.semaphore.specs.declared.sema_object.SemaReply.TheVariants as reply
use Rattle.semaphore.specs.Asking.{Asks, OnlyAsks}
use Rattle.semaphore.specs.Seats.{rendez_of_seat}
use Rattle.waiting.specs.Waiting.{Point}

-- its own request for the next seat to wake comes right after all that the seat had seen: no
-- request of another seat came between
pub record AsksNext (before after : SemaSeat) : Type 0 where
  pub told : SemaReply
  pub next : IsPast
      (record { by = number_of before.seat; request = NextWake; reply = told }
      ∷ seen_of before.seat) (seen_of after.seat)

module _ (sema : Sema) where
  -- the answer named a seat that was granted a unit, and it woke the Rendez of that seat, once,
  -- with the number of its grants
  pub record WakesOneMore (Before : Point SemaSeat → Type 0) (grant : Grant)
      (after : Point SemaSeat) : Type 0 where
    pub between : Point SemaSeat
    pub others : Before between
    pub named : Asks sema false NextWake (reply.Wake grant.seat grant.grants) between.seat
        after.seat
    pub woken : WakesOne between.process (rendez_of_seat sema grant.seat) grant.grants
        after.process

  -- it did so with each of these, the newest first
  abbrev pub WakesNamed : List Grant → Point SemaSeat → Point SemaSeat → Type 0
  WakesNamed [] before after = after ≡ before
  WakesNamed (grant ∷ others) before after = WakesOneMore (WakesNamed others before) grant after

  -- and then no seat is left to be woken
  pub record HasWoken (before after : Point SemaSeat) : Type 0 where
    pub grants : List Grant
    pub last : Point SemaSeat
    pub woken : WakesNamed grants before last
    pub none : OnlyAsks sema false NextWake reply.NoWake last after

  -- it released this many units, once, with this sum as the answer, asked in the same hold of the
  -- lock which seat to wake, and woke each seat that was named
  pub record HasReleased (count sum : ℕ) (before after : Point SemaSeat) : Type 0 where
    pub first : Point SemaSeat
    pub released : OnlyAsks sema false (Release count) (reply.Value sum) before first
    pub wakes : HasWoken first after
    pub at_once : AsksNext first.seat after.seat

  -- a semrelease of this many units: it answers the sum, or was refused and did nothing else
  abbrev pub Releases : ℕ → Point SemaSeat → Result ℕ Fault → Point SemaSeat → Type 0
  Releases count before (Ok sum) after = HasReleased count sum before after
  Releases count before (Err fault.BadArg) after =
      OnlyAsks sema false (Release count) reply.BadArg before after
  Releases count before (Err why) after = ⊥
