-- What every run keeps true of the world and of the history that it shows. Each process that sleeps
-- is owed one thing, its token: it is in the Rendez, with the raiser that took it, or in its flags.
use Rattle.std.proofs.Common.{◌≡◌, ◌≤◌, ◌+◌, ◌==◌, ◌⊎◌, ℕ, true, if◌then◌else◌, Some, List, [], ◌∷◌}
use Rattle.sleep_core.specs.declared.phase.Phase.{Phase}
use Rattle.sleep_core.specs.declared.phase.Phase.TheVariants as phase
use Rattle.sleep_core.specs.State.{State, IsSound, phase_of, flags_of, posted_of, level_of}
use Rattle.sleep_core.specs.State.{returned_of}
use Rattle.sleep_core.specs.Table.{has_notes}
use Rattle.sleep_core.specs.History.{Effect, begun_wakeup, HasReturned}
use Rattle.sleep_core.specs.History.Effect.{Began, Withdrew, Left, Took, Marked}
use Rattle.sleep_core.specs.Promises.{IsStillIn, HasFallen, IsHeld, NoMarkIsStray, pending}
use Rattle.sleep_core.specs.Promises.{AreNotesRight, IsCaused, EachSleepIsCaused}

-- where what is owed to a process is
pub data Token : Type 0 where
  Nowhere : Token
  InRendez : ℕ → Token
  WithRaiser : ℕ → Token
  InFlags : Token

-- where the token of a process is, by the newest effect that moved it
abbrev pub token : List Effect → ℕ → Token
token [] pid = Nowhere
token (Began by rendez level ∷ past) pid = if by == pid then InRendez rendez else token past pid
token (Withdrew by ∷ past) pid = if by == pid then Nowhere else token past pid
token (Took raiser sleeper ∷ past) pid =
    if sleeper == pid then WithRaiser raiser else token past pid
token (Marked raiser sleeper ∷ past) pid = if sleeper == pid then InFlags else token past pid
token (Left by notes ∷ past) pid = if by == pid then Nowhere else token past pid
token (effect ∷ past) pid = token past pid

-- a wakeup has the token, or has given it
abbrev pub IsAway : Token → Type 0
IsAway Nowhere = ⊥
IsAway (InRendez rendez) = ⊥
IsAway (WithRaiser raiser) = Unit {0}
IsAway InFlags = Unit {0}

-- the token is in this Rendez, or away
abbrev pub IsNear : ℕ → Token → Type 0
IsNear rendez Nowhere = ⊥
IsNear rendez (InRendez other) = other ≡ rendez
IsNear rendez (WithRaiser raiser) = Unit {0}
IsNear rendez InFlags = Unit {0}

-- a process in a Rendez, and what holds as long as it is posted there
pub record Sleeps (history : List Effect) (pid rendez : ℕ) (Stays : Type 0) : Type 0 where
  -- its token is in this Rendez, or away with a wakeup
  pub near : IsNear rendez (token history pid)
  -- and this holds as long as the token is in the Rendez
  pub stays : token history pid ≡ InRendez rendez → Stays

-- a process that leaves has a cause, or notes
abbrev pub MayLeave : State → List Effect → ℕ → Type 0
MayLeave s history pid = IsCaused history pid ⊎ (has_notes (flags_of s pid).notes ≡ true)

-- a process that wants to leave, or has withdrawn: where its token is, and why it may leave
pub record Leaves (s : State) (history : List Effect) (pid : ℕ) (Place : Type 0) : Type 0 where
  -- where its token is
  pub place : Place
  -- it has a cause to leave, or notes
  pub may_leave : MayLeave s history pid

-- a process with an unfinished wakeup
pub record Raises (s : State) (history : List Effect) (pid rendez level : ℕ) : Type 0 where
  -- a process in a wakeup is in no sleep of its own
  pub nowhere : token history pid ≡ Nowhere
  -- this is the newest wakeup that it began
  pub begun : begun_wakeup pid history ≡ Some (record { rendez = rendez; level = level })
  -- it has raised the level of the Rendez to its own at least
  pub low : level ≤ level_of s rendez

-- and one that holds a sleeper: whoever fell asleep in the Rendez since then was above its level
pub record Holds (s : State) (history : List Effect) (pid sleeper rendez level : ℕ) : Type 0 where
  -- its wakeup is not over
  pub raises : Raises s history pid rendez level
  -- it has the token of the sleeper that it holds
  pub with_raiser : token history sleeper ≡ WithRaiser pid
  -- it took this sleeper out, which since then has neither left nor been marked
  pub held : IsHeld history pid sleeper
  -- its level is above the threshold of nobody who is asleep in the Rendez and still in it
  pub below : (other above : ℕ) → HasFallen history other rendez above → level ≤ above

-- what the phase of a process says
abbrev pub Fits : State → List Effect → ℕ → Phase → Type 0
Fits s history pid phase.Idle = token history pid ≡ Nowhere
Fits s history pid (phase.Posted rendez threshold) =
    Sleeps history pid rendez.0 (IsStillIn history pid rendez.0 threshold)
Fits s history pid (phase.Asleep rendez threshold) =
    Sleeps history pid rendez.0 (HasFallen history pid rendez.0 threshold)
Fits s history pid (phase.Leaving rendez) =
    Leaves s history pid (IsNear rendez.0 (token history pid))
Fits s history pid phase.Awaiting = IsAway (token history pid)
Fits s history pid phase.Woken = (token history pid ≡ InFlags) × IsCaused history pid
Fits s history pid phase.Out = Leaves s history pid (token history pid ≡ Nowhere)
Fits s history pid (phase.Owing rendez level) = Raises s history pid rendez.0 level
Fits s history pid (phase.Holding sleeper rendez level) =
    Holds s history pid sleeper.0 rendez.0 level

-- the threshold that a phase names, if it names one, is this
abbrev pub IsAtThreshold : ℕ → Phase → Type 0
IsAtThreshold threshold (phase.Posted rendez own) = own ≡ threshold
IsAtThreshold threshold (phase.Asleep rendez own) = own ≡ threshold
IsAtThreshold threshold stage = Unit {0}

-- a sleep that goes on, as the world has it
pub record IsShown (s : State) (pid rendez threshold : ℕ) : Type 0 where
  -- the word of the Rendez names the process
  pub posted : posted_of s rendez ≡ pid + 1
  -- and its phase, where it names a threshold, names this one
  pub at_threshold : IsAtThreshold threshold (phase_of s pid)

-- all of it: the words are those of the history, each process fits its phase, and the promises hold
pub record Core (s : State) (history : List Effect) : Type 0 where
  -- what the words and the phases name is there
  pub sound : IsSound s
  -- each process fits its phase
  pub fits : (pid : ℕ) → Fits s history pid (phase_of s pid)
  -- whoever is posted in a Rendez has its token there
  pub posted : (rendez pid : ℕ) → posted_of s rendez ≡ pid + 1 → token history pid ≡ InRendez rendez
  -- whoever has its mark has its token in its flags
  pub marked : (pid : ℕ) → (flags_of s pid).wake ≡ true → token history pid ≡ InFlags
  -- a level that a wakeup returned with was raised before
  pub low : (rendez : ℕ) → returned_of s rendez ≤ level_of s rendez
  -- the returned level of a Rendez is at least that of each wakeup that has returned
  pub returned : (rendez level : ℕ) → HasReturned history rendez level
      → level ≤ returned_of s rendez
  -- a sleep that goes on stands in the word of its Rendez, with its threshold in the phase
  pub still_in : (pid rendez threshold : ℕ) → IsStillIn history pid rendez threshold
      → IsShown s pid rendez threshold
  -- no wakeup has returned with a level above the threshold of one who is asleep and still in
  pub fallen : (pid rendez threshold : ℕ) → HasFallen history pid rendez threshold
      → returned_of s rendez ≤ threshold
  -- the notes in the flags are those that the history has pending
  pub notes : (pid : ℕ) → (flags_of s pid).notes ≡ pending history pid
  -- each wakeup marked a process that it had taken, and that had neither left nor been marked
  pub marks_due : NoMarkIsStray history
  -- each sleep ended with just the notes that were pending
  pub notes_right : AreNotesRight history
  -- a sleep that ended without notes ended for a cause
  pub caused : EachSleepIsCaused history
