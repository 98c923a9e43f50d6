-- What a script declares before its calls, and which calls can then be made.
use Rattle.std.specs.Prelude.{◌+◌, ◌&&◌, ◌||◌, ℕ, nat_le, nat_lt, Bool, true, false, not}
use Rattle.std.specs.Prelude.{if◌then◌else◌, List, [], ◌∷◌, ◌++◌, Option, Some, None, length}
use Rattle.std.specs.Prelude.{slice_get}
use Rattle.sync_base.specs.declared.limits.TheConstants.{ATOMIC_SIZE, MAX_RENDEZ, TOP_LEVEL}
use Rattle.sync_base.specs.declared.mode.Mode.{Mode}
use Rattle.calls.specs.declared.call.Call.{Call}
use Rattle.calls.specs.declared.call.Call.TheVariants as call
use Rattle.calls.specs.declared.program.PipeSize.{PipeSize}
use Rattle.p9explore.specs.declared.devices.Outcome.{Outcome}
use Rattle.p9explore.specs.declared.devices.Outcome.TheVariants as outcome
use Rattle.p9explore.specs.declared.devices.SemaSize.{SemaSize}
use Rattle.p9explore.specs.Deadlines.{asks_timers, has_deadline}

-- ---- devices, which stand before the first call

pub record Devices : Type 0 where
  -- the processes and the Rendez of the first line
  pub procs : ℕ
  pub rendez : ℕ
  -- how many Rendez there are with those of members, seats and ends
  pub taken : ℕ
  -- of the tag space, if there is one
  pub members : ℕ
  pub semas : List SemaSize
  pub pipes : List PipeSize
  -- whether there are timers
  pub has_clock : Bool

-- none, with so many processes and Rendez
abbrev pub no_devices : ℕ → ℕ → Devices
no_devices procs rendez =
    record {
      procs = procs;
      rendez = rendez;
      taken = rendez;
      members = 0;
      semas = [];
      pipes = [];
      has_clock = false;
    }

-- whether so many Rendez more have room
abbrev pub has_room : Devices → ℕ → Bool
has_room devices more = nat_le (devices.taken + more) MAX_RENDEZ

-- whether there is one so far
abbrev pub has_device : Devices → Bool
has_device devices =
    nat_lt 0 devices.members
    || (nat_lt 0 (length devices.semas)
    || (nat_lt 0 (length devices.pipes) || devices.has_clock))

-- with a tag space of so many members: it stands before all other devices
abbrev pub with_space : Devices → ℕ → Devices
with_space devices members =
    record devices { members = members; taken = devices.taken + members }

abbrev pub spaced : Devices → ℕ → Option Devices
spaced devices members =
    if not (has_device devices) && has_room devices members
    then Some (with_space devices members) else None

-- the seats of a semaphore that are told
abbrev pub told_seats : Option ℕ → ℕ
told_seats None = 0
told_seats (Some seats) = seats

-- with one semaphore more
abbrev pub with_sema : Devices → SemaSize → Devices
with_sema devices size =
    record devices {
      semas = devices.semas ++ size ∷ [];
      taken = devices.taken + told_seats size.seats;
    }

abbrev pub declared : Devices → SemaSize → Option Devices
declared devices size =
    if has_room devices (told_seats size.seats) then Some (with_sema devices size) else None

-- with one direction of a pipe more: an end to read it, and for each process one to write
abbrev pub ends_in : Devices → ℕ
ends_in devices = devices.procs + 1

abbrev pub pipe_size : ℕ → Mode → PipeSize
pipe_size limit mode = record { limit = limit; mode = mode }

abbrev pub with_pipe : Devices → PipeSize → Devices
with_pipe devices size =
    record devices { pipes = devices.pipes ++ size ∷ []; taken = devices.taken + ends_in devices }

abbrev pub laid : Devices → ℕ → Mode → Option Devices
laid devices limit mode =
    if has_room devices (ends_in devices)
    then Some (with_pipe devices (pipe_size limit mode)) else None

-- with timers, where there are none
abbrev pub clocked : Devices → Option Devices
clocked devices =
    if devices.has_clock then None else Some (record devices { has_clock = true })

-- ---- what can be made at all

-- whether a process has a seat at this semaphore, if it is there: process p has seat p, and where
-- no seats are told each has one
abbrev pub is_within : ℕ → Option ℕ → Bool
is_within pid None = true
is_within pid (Some seats) = nat_lt pid seats

abbrev pub is_seated : ℕ → Option SemaSize → Bool
is_seated pid None = false
is_seated pid (Some size) = is_within pid size.seats

abbrev pub has_seat : Devices → ℕ → ℕ → Bool
has_seat devices pid sema = is_seated pid (slice_get devices.semas sema)

abbrev pub has_pipe : Devices → ℕ → Bool
has_pipe devices pipe = nat_lt pipe (length devices.pipes)

-- After sleep(2), postnote(2), rendezvous(2), semacquire(2) and pipe(3): whether a process can make
-- a call, whatever its deadline. It sleeps or wakes in a Rendez of the first line, and a level can
-- be above its threshold; it posts notes to a process that is there; it is a member of the space,
-- or has a seat at the semaphore, or the direction was declared; a write is not above the most
-- bytes of one, and a read asks for a byte at least.
abbrev pub can_call_plain : Devices → ℕ → Call → Bool
can_call_plain devices pid (call.Sleep rendez threshold deadline) =
    nat_lt rendez devices.rendez && nat_lt threshold TOP_LEVEL
can_call_plain devices pid (call.Wakeup rendez level) = nat_lt rendez devices.rendez
can_call_plain devices pid (call.Note other notes) = nat_lt other devices.procs
can_call_plain devices pid call.Drain = true
can_call_plain devices pid (call.Rendezvous tag deadline) = nat_lt pid devices.members
can_call_plain devices pid (call.Acquire sema deadline) = has_seat devices pid sema
can_call_plain devices pid (call.Try sema) = has_seat devices pid sema
can_call_plain devices pid (call.Release sema count) = has_seat devices pid sema
can_call_plain devices pid (call.Write pipe size deadline) =
    has_pipe devices pipe && nat_le size ATOMIC_SIZE
can_call_plain devices pid (call.Read pipe room deadline) = has_pipe devices pipe && nat_lt 0 room
can_call_plain devices pid (call.TryRead pipe room) = has_pipe devices pipe && nat_lt 0 room
can_call_plain devices pid (call.Hangup pipe) = has_pipe devices pipe
can_call_plain devices pid (call.Tick now) = true
can_call_plain devices pid (call.Ticks now) = true
can_call_plain devices pid call.Choose = false
can_call_plain devices pid call.Never = false

-- Whether it can make a call: there are timers if it asks them.
abbrev pub can_call : Devices → ℕ → Call → Bool
can_call devices pid made =
    (devices.has_clock || not (asks_timers made)) && can_call_plain devices pid made

-- the direction that a call reads
abbrev pub reads : Call → Option ℕ
reads (call.Read pipe room deadline) = Some pipe
reads (call.TryRead pipe room) = Some pipe
reads made = None

-- whether a call is made again and again for ever
abbrev pub is_again : Call → Bool
is_again (call.Ticks now) = true
is_again made = false

-- ---- calls that end so

-- After sleep(2), rendezvous(2), semacquire(2) and pipe(3): whether a call can end so. A note ends
-- the wait of any call that waits, and a tick that of one with a deadline. A try finds no unit, a
-- read that does not wait no byte, a read finds the end, and a write finds the direction hung up.
abbrev pub can_end : Call → Outcome → Bool
can_end (call.Sleep rendez threshold deadline) outcome.Interrupted = true
can_end (call.Rendezvous tag deadline) outcome.Interrupted = true
can_end (call.Acquire sema deadline) outcome.Interrupted = true
can_end (call.Write pipe size deadline) outcome.Interrupted = true
can_end (call.Read pipe room deadline) outcome.Interrupted = true
can_end (call.Try sema) outcome.NotNow = true
can_end (call.TryRead pipe room) outcome.NotNow = true
can_end (call.Read pipe room deadline) outcome.AtEnd = true
can_end (call.TryRead pipe room) outcome.AtEnd = true
can_end (call.Write pipe size deadline) outcome.Hungup = true
can_end made outcome.TimedOut = has_deadline made
can_end made ended = false
