-- The history of a semaphore: its calls with their replies, newest first, and what they add up to.
use Rattle.std.specs.Prelude.{ℕ, ◌+◌, ◌==◌, if◌then◌else◌, List, [], ◌∷◌}
use Rattle.histories.specs.History.{Meaning}
use Rattle.semaphore.specs.declared.sema_object.Stage.{Stage}
use Rattle.semaphore.specs.declared.sema_object.Stage.TheVariants.{Idle, Waiting, Granted}
use Rattle.semaphore.specs.declared.sema_object.SemaCall.{SemaCall}
use Rattle.semaphore.specs.declared.sema_object.SemaCall.TheVariants.{Acquire, AcquireNow, Release}
use Rattle.semaphore.specs.declared.sema_object.SemaCall.TheVariants.{NextWake, Collect, Leave}
use Rattle.semaphore.specs.declared.sema_object.SemaReply.{SemaReply}
use Rattle.semaphore.specs.declared.sema_object.SemaReply.TheVariants as reply
use Rattle.kernel_lock.specs.declared.view.Operation.{Operation}
use Rattle.kernel_lock.specs.Definition.{meaning_of}
use Rattle.semaphore.specs.Definitions.{sema_definition}
use Rattle.semaphore.specs.Units.{SemaState}

-- one call: the number of the seat that made it, and its answer
abbrev pub SemaEntry : Type 0
SemaEntry = Operation SemaCall SemaReply

abbrev pub sema_meaning : Meaning SemaState SemaEntry
sema_meaning = meaning_of sema_definition

-- the units that a call added
abbrev pub added_by : SemaCall → SemaReply → ℕ
added_by (Release count) (reply.Value sum) = count
added_by call other = 0

-- the units that a call brought its caller
abbrev pub taken_by : SemaCall → SemaReply → ℕ
taken_by (Acquire seat) reply.Acquired = 1
taken_by (AcquireNow seat) reply.Acquired = 1
taken_by (Collect seat) reply.Granted = 1
taken_by (Leave seat) reply.Granted = 1
taken_by call other = 0

abbrev pub released : List SemaEntry → ℕ
released [] = 0
released (entry ∷ past) = added_by entry.request entry.reply + released past

abbrev pub taken : List SemaEntry → ℕ
taken [] = 0
taken (entry ∷ past) = taken_by entry.request entry.reply + taken past

-- a unit that was granted and is not collected
abbrev pub held_in : Stage → ℕ
held_in Granted = 1
held_in Waiting = 0
held_in Idle = 0

abbrev pub uncollected : List Stage → ℕ
uncollected [] = 0
uncollected (stage ∷ stages) = held_in stage + uncollected stages

-- the units that a call of this seat brought it after a wait
abbrev pub collected_by : ℕ → SemaCall → SemaReply → ℕ
collected_by seat (Collect other) reply.Granted = if other == seat then 1 else 0
collected_by seat (Leave other) reply.Granted = if other == seat then 1 else 0
collected_by seat call other = 0

abbrev pub collected : ℕ → List SemaEntry → ℕ
collected seat [] = 0
collected seat (entry ∷ past) = collected_by seat entry.request entry.reply + collected seat past

-- the count with which the seat was named to be woken, where this call named it
abbrev pub named_by : ℕ → SemaCall → SemaReply → ℕ → ℕ
named_by seat NextWake (reply.Wake other grants) before = if other == seat then grants else before
named_by seat call answer before = before

-- the count with which it was named last, or the number where the counts began
abbrev pub last_named : ℕ → ℕ → List SemaEntry → ℕ
last_named count seat [] = count
last_named count seat (entry ∷ past) =
    named_by seat entry.request entry.reply (last_named count seat past)
