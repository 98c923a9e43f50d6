-- No wakeup of a semrelease is lost: the process of each seat that it was named is released once
-- the semrelease has returned, and the seat is named with a count above the number with which that
-- process began to sleep.
use Rattle.std.specs.Prelude.{◌≡◌, ◌≤◌, ◌<◌, ℕ, false, List, ◌∷◌, ◌++◌, Some}
use Rattle.std.specs.List.{AllByRecursion}
use Rattle.histories.specs.History.{IsLegal, state_after}
use Rattle.rendez_words.specs.declared.view.Sizes.{Sizes}
use Rattle.rendez_words.specs.Rule.{ShowsCore}
use Rattle.sleep_core.specs.Laws.{ReleasesBelow}
use Rattle.sleep_core.specs.Runs.{world_of}
use Rattle.semaphore.specs.declared.limits.TheConstants.{MAX_VALUE}
use Rattle.semaphore.specs.declared.sema.Sema.{Sema}
use Rattle.semaphore.specs.declared.sema.SemaSeat.{SemaSeat}
use Rattle.semaphore.specs.declared.sema_object.SemaReply.TheVariants.{Wait}
use Rattle.semaphore.specs.declared.sema_object.Stage.TheVariants.{Granted}
use Rattle.semaphore.specs.Releasing.{HasReleased}
use Rattle.semaphore.specs.WaitQueue.{stands_in}
use Rattle.semaphore.specs.Seats.{rendez_of_seat}
use Rattle.semaphore.specs.SemaHistory.{SemaEntry, sema_meaning, last_named}
use Rattle.semaphore.specs.Units.{opening, seat_named, stage_of}
use Rattle.waiting.specs.Waiting.{Point}
use Rattle.waiting.specs.Wakeups.{HasGoneOn}

-- A process that fell asleep on a seat's Rendez below the number of its grants is no longer posted
-- there, once the semrelease that was named this seat has returned.
abbrev pub ReleasingReleasesTheNamed : Type 0
ReleasingReleasesTheNamed =
    (sizes : Sizes) (s : _) (shows : ShowsCore sizes s)
    → (sema : Sema) (count sum : ℕ) (before after : Point SemaSeat)
    → (releases : HasReleased sema count sum before after) → HasGoneOn s.views after.process
    → AllByRecursion (λ grant.
    ReleasesBelow (world_of sizes.procs sizes.rendez shows.run)
    (rendez_of_seat sema grant.seat) grant.grants)
    releases.wakes.grants

-- And that is enough: a seat that has to wait with this number, and was granted a unit since, is
-- still to be named, or was named last with a count above it.
abbrev pub WaitersAreNamedAbove : Type 0
WaitersAreNamedAbove =
    (value procs : ℕ) → value ≤ MAX_VALUE
    → (past since : List SemaEntry) (waits : SemaEntry) (number seat : ℕ)
    → IsLegal sema_meaning (opening value procs 0) (since ++ waits ∷ past)
    → waits.reply ≡ Wait number → seat_named waits.request ≡ Some seat
    → let s = state_after sema_meaning (opening value procs 0) (since ++ waits ∷ past) in
    stage_of s seat ≡ Granted → stands_in s.unnamed seat ≡ false
    → number < last_named 0 seat (since ++ waits ∷ past)
