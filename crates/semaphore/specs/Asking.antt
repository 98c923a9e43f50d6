-- What a seat asks of its semaphore, one request at a time, and what the typed answers stand for.
use Rattle.std.specs.Prelude.{◌≡◌, ℕ, ◌<◌, Bool, false, ◌∷◌, length, not, Option, Some, None}
use Rattle.kernel_lock.specs.Calls.{Serves}
use Rattle.kernel_lock.specs.Seats.{number_of, seen_of, view_of}
use Rattle.semaphore.specs.declared.acquiring.Semacquired.{Semacquired}
use Rattle.semaphore.specs.declared.acquiring.Semacquired.TheVariants as got
use Rattle.semaphore.specs.declared.sema.Sema.{Sema}
use Rattle.semaphore.specs.declared.sema.SemaSeat.{SemaSeat}
use Rattle.semaphore.specs.declared.sema_asks.Grant.{Grant}
use Rattle.semaphore.specs.declared.sema_object.SemaCall.{SemaCall}
use Rattle.semaphore.specs.declared.sema_object.SemaCall.TheVariants.{Release, NextWake}
use Rattle.semaphore.specs.declared.sema_object.SemaReply.{SemaReply}
use Rattle.semaphore.specs.declared.sema_object.SemaReply.TheVariants as reply
use Rattle.semaphore.specs.Seats.{IsSeatAt}
use Rattle.semaphore.specs.Units.{SemaState, IsSound, is_idle, stage_of, answer_to}
use Rattle.waiting.specs.Waiting.{Point}

-- ---- requests

module _ (sema : Sema) (waits : Bool) (call : SemaCall) (told : SemaReply) where
  -- The seat asked this under its own number and got this answer, both in one legal history; and
  -- `waits` says whether it waits now.
  pub record Asks (before after : SemaSeat) : Type 0 where
    pub served : Serves (record { by = number_of before.seat; request = call; reply = told })
        (view_of before.seat) (view_of after.seat)
    pub seat : IsSeatAt sema waits after
    pub number : number_of after.seat ≡ number_of before.seat

  -- and its process did nothing
  pub record OnlyAsks (before after : Point SemaSeat) : Type 0 where
    pub asks : Asks before.seat after.seat
    pub idle : after.process ≡ before.process

-- ---- answers

-- whether a unit was taken at once
abbrev pub now_reply : Semacquired → SemaReply
now_reply got.Acquired = reply.Acquired
now_reply got.NotNow = reply.NotNow

-- the next seat to be woken, where there is one
abbrev pub wake_reply : Option Grant → SemaReply
wake_reply (Some grant) = reply.Wake grant.seat grant.grants
wake_reply None = reply.NoWake

-- What a request of a seat finds: a state that the semaphore can be in, in which the seat is as its
-- own calls say, and from which this answer follows.
pub record IsTold (procs number : ℕ) (waits : Bool) (call : SemaCall) (answer : SemaReply) :
    Type 0 where
  pub state : SemaState
  pub sound : IsSound state
  pub size : length state.stages ≡ procs
  pub within : number < procs
  pub idle : is_idle (stage_of state number) ≡ not waits
  pub answer_is : answer ≡ answer_to state call

-- ---- a release in one hold of the lock

-- what follows a release that was taken: the question which seat is to be woken
abbrev pub wake_next : SemaReply → Option SemaCall
wake_next (reply.Value sum) = Some NextWake
wake_next answer = None

module _ (sema : Sema) where
  -- the seat, which does not wait, asked this of some state and got the answer of that state
  pub record Finds (call : SemaCall) (told : SemaReply) (before after : SemaSeat) : Type 0 where
    pub asks : Asks sema false call told before after
    pub found : IsTold sema.procs (number_of before.seat) false call told

  pub record FindsBoth (call : SemaCall) (first second : SemaReply) (before after : SemaSeat) :
      Type 0 where
    pub between : SemaSeat
    pub found_first : Finds call first before between
    pub found_second : Finds NextWake second between after
    -- no other request is between them
    pub at_once : seen_of after.seat ≡
        record { by = number_of between.seat; request = NextWake; reply = second }
        ∷ seen_of between.seat

  -- it asked for a release of this many units and, if and only if the release was taken, which seat
  -- is to be woken
  abbrev pub AsksRelease :
      ℕ → SemaReply → Option SemaReply → SemaSeat → SemaSeat → Type 0
  AsksRelease count (reply.Value sum) (Some told) before after =
      FindsBoth (Release count) (reply.Value sum) told before after
  AsksRelease count (reply.Value sum) None before after = ⊥
  AsksRelease count answer (Some told) before after = ⊥
  AsksRelease count answer None before after = Finds (Release count) answer before after
