-- What a send and a receive do that wait until a moment. Own.
use Rattle.std.specs.Prelude.{◌≡◌, ℕ, Result}
use Rattle.sync_base.specs.declared.fault.Fault.{Fault}
use Rattle.sleep_wakeup.specs.Kernel.{Running}
use Rattle.timer_list.specs.Timing.{TimedPoint}
use Rattle.waiting.specs.Runners.{run_point}
use Rattle.messages.specs.declared.answers.Received.{Received}
use Rattle.messages.specs.declared.answers.Unsent.{Unsent}
use Rattle.messages.specs.Asking.{HandleSeat}
use Rattle.messages.specs.Handles.{Handle, OwnsRow}
use Rattle.messages.specs.Known.{IfMay}
use Rattle.messages.specs.Receiving.{ReceivesBy}
use Rattle.messages.specs.Sending.{SendsBy, fault_of}
use Rattle.plan9.specs.Watches.{Watching, until}

-- a handle of a queue, the process that calls by it, and a watch
pub record WatchedHandle (T : Type 0) : Type 0 where
  pub handle : Handle T
  pub proc : Running
  pub watch : Watching

module _ {T : Type 0} where
  abbrev pub watched_handle : Handle T → Running → Watching → WatchedHandle T
  watched_handle handle proc watch = record { handle = handle; proc = proc; watch = watch }

  -- the state of that call
  abbrev pub handle_point : WatchedHandle T → TimedPoint (HandleSeat T)
  handle_point it = run_point it.handle.seat it.watch.seat it.proc

  -- the kernel of the process has the Rendez of the queue
  abbrev pub MayCall : WatchedHandle T → Type 0
  MayCall it = OwnsRow it.handle.channel it.proc.words

  -- nothing was done
  pub record IsAsBefore (old new : WatchedHandle T) : Type 0 where
    pub handle : new.handle ≡ old.handle
    pub proc : new.proc ≡ old.proc
    pub watch : new.watch ≡ old.watch

  -- A send until a moment. Where the process may send, it waited for room so, with its timer set
  -- before its sleeps and cancelled after them; else nothing was done.
  abbrev pub SendsWithin : ℕ → T → WatchedHandle T → Result Unit (Unsent T) → WatchedHandle T
      → Type 0
  SendsWithin moment value old answer new =
      IfMay (MayCall old) (fault_of answer) (IsAsBefore old new)
      (SendsBy old.handle.channel old.handle.place value (until old.watch moment) (handle_point old)
      (fault_of answer) (handle_point new))

  -- A receive until a moment, and how it waited for a value.
  abbrev pub ReceivesWithin : ℕ → WatchedHandle T → Result (Received T) Fault → WatchedHandle T
      → Type 0
  ReceivesWithin moment old answer new =
      IfMay (MayCall old) answer (IsAsBefore old new)
      (ReceivesBy old.handle.channel old.handle.place (until old.watch moment)
      (handle_point old) answer (handle_point new))
