-- What a team promises: all jobs are run, each once and by a process of its own, or none is.
use Rattle.std.specs.Prelude.{◌≡◌, ◌≤◌, ◌<◌, ◌+◌, ◌⊎◌, ⊤, ℕ, List, IsOk, IsErr, All, length}
use Rattle.std.specs.Prelude.{Result, Ok, Err}
use Rattle.std.specs.List.{AllZip}
use Rattle.std.specs.declared.vec.Vec.{Vec}
use Rattle.std.specs.Global.{Global}
use Rattle.sync_base.specs.declared.fault.Fault.{Fault}
use Rattle.sync_base.specs.declared.fault.Fault.TheVariants as fault
use Rattle.sync_base.specs.declared.limits.TheConstants.{TOP_LEVEL}
use Rattle.rendez_words.specs.Words.{rendez_of}
use Rattle.sleep_wakeup.specs.Kernel.{Running}
use Rattle.std.specs.declared.sync.OnceToken.{OnceToken}
use Rattle.std.specs.declared.thread.PromisedHandle.{PromisedHandle}
use Rattle.together.specs.declared.gate.Off.{Off}
use Rattle.together.specs.declared.gate.Off.TheVariants.{NoThread, NoSleep}
use Rattle.together.specs.declared.job.Worker.{Worker}
use Rattle.together.specs.declared.job.Ended.{Ended}
use Rattle.together.specs.declared.member.Came.{Came}
use Rattle.together.specs.declared.member.Came.TheVariants.{Ran, Back}
use Rattle.together.specs.declared.running.CalledOff.{CalledOff}
use Rattle.together.specs.declared.starting.Kept.{Kept}
use Rattle.together.specs.Gates.{HasWaited}
use Rattle.together.specs.Parts.{Parts}

-- Own: what came of the worker's job is what one run of it may come to.
abbrev pub IsOfJob : {J T : Type 0} → (J → T → Type 0) → Worker J → Ended T → Type 0
IsOfJob gives worker ended = gives worker.job ended.out

-- Own: the worker comes back, its job as it was, with its own process, which has done nothing but
-- wait at its gate.
pub record IsBack {J : Type 0} (worker back : Worker J) : Type 0 where
  pub job : back.job ≡ worker.job
  pub words : back.proc.words ≡ worker.proc.words
  pub waited : HasWaited worker.proc.process back.proc.process

-- What a thread brings back for this member, with what it saw decided at this lock: its job was run
-- if and only if the team started.
abbrev pub Brings : {M E : Type 0} → (M → E → Type 0) → (M → M → Type 0) → M → ℕ → Came M E → Type 0
Brings ends comes_back member lock (Ran end token) =
    ends member end × (token.of ≡ lock) × IsOk token.value
Brings ends comes_back member lock (Back back token) =
    comes_back member back × (token.of ≡ lock) × IsErr token.value

-- the token shows that the team that is decided at this lock is called off
abbrev pub IsCalledOffBy : ℕ → OnceToken (Result (Unit {0}) Off) → Type 0
IsCalledOffBy lock token = (token.of ≡ lock) × IsErr token.value

-- the thread brings back what this lock decides of this member
abbrev pub IsFor : {R M E : Type 0} → ℕ → M → PromisedHandle (Came M E) (Kept R M) → Type 0
IsFor lock member handle =
    (handle.promise.member.value ≡ member) × (handle.promise.board.now.decision.id ≡ lock)

-- the members that wait for a thread, or are back, and the threads that stand for the others
abbrev pub LinesUp : {R M E : Type 0} → (M → M → Type 0) → ℕ → List M → List M
    → List (PromisedHandle (Came M E) (Kept R M)) → Type 0
LinesUp comes_back lock members waiting standing =
    Parts comes_back (IsFor lock) members waiting standing

-- Own: the faults of a team that had room: memory, a thread that can't be started, or another
-- process in a Rendez of the team.
abbrev pub IsCalledOff : Fault → Type 0
IsCalledOff fault.Memory = ⊤
IsCalledOff fault.Device = ⊤
IsCalledOff fault.DoubleSleep = ⊤
IsCalledOff other = ⊥

-- Own: the fault of a team that is called off for this reason.
abbrev pub fault_of : Off → Fault
fault_of NoThread = fault.Device
fault_of NoSleep = fault.DoubleSleep

-- All members came to something, each in its place, or all are back, each in its place.
abbrev pub EndsTogether : {M E : Type 0} → (M → E → Type 0) → (M → M → Type 0) → List M
    → Result (Vec E Global) (CalledOff M) → Type 0
EndsTogether ends comes_back members (Ok ended) = AllZip ends members ended.items
EndsTogether ends comes_back members (Err off) =
    AllZip comes_back members off.members.items × IsCalledOff off.fault

-- Own: a team has a Rendez for each of the workers and one for the caller, and the kernel of each
-- process has these.
pub record HasRoom {J : Type 0} (first most : ℕ) (caller : Running) (workers : List (Worker J))
    : Type 0 where
  pub jobs : length workers ≤ most
  pub caller_has : first + most < rendez_of caller.words
  pub each_has : All (λ worker. first + most < rendez_of worker.proc.words) workers

-- Own: a team has too few Rendez, or the kernel of a process has not all of them.
abbrev pub LacksRoom : {J : Type 0} → ℕ → ℕ → Running → List (Worker J) → Type 0
LacksRoom first most caller workers =
    (most < length workers)
    ⊎ ((rendez_of caller.words ≤ first + most)
    ⊎ (¬ All (λ worker. first + most < rendez_of worker.proc.words) workers))

-- Own: why a team does not start. The Rendez are tested first, then whether a level is left.
abbrev pub WhyNotTogether : {J : Type 0} → ℕ → ℕ → ℕ → Running → List (Worker J) → Fault → Type 0
WhyNotTogether first most ended caller workers fault.NoRendez =
    LacksRoom first most caller workers
WhyNotTogether first most ended caller workers fault.Worn =
    HasRoom first most caller workers × (TOP_LEVEL ≤ ended + length workers)
WhyNotTogether first most ended caller workers fault.Memory =
    HasRoom first most caller workers
WhyNotTogether first most ended caller workers fault.Device =
    HasRoom first most caller workers
WhyNotTogether first most ended caller workers fault.DoubleSleep =
    HasRoom first most caller workers
WhyNotTogether first most ended caller workers other = ⊥
