-- Where a process is from its post to the end of its sleep, as the words and the phases have it.
use Rattle.std.specs.Prelude.{◌≡◌, ◌≤◌, ⊤, ℕ, true, List}
use Rattle.sync_base.specs.declared.ids.RendezId.{RendezId}
use Rattle.sleep_core.specs.declared.phase.Phase.{Phase}
use Rattle.sleep_core.specs.declared.phase.Phase.TheVariants as phase
use Rattle.sleep_core.specs.State.{State, posted_as, phase_of, flags_of, posted_of, level_of}
use Rattle.sleep_core.specs.State.{returned_of}
use Rattle.sleep_core.specs.Runs.{Entry, IsRun, world_of}

-- Own: a process whose sleep is not over is in just one of these places.
pub data Place : Type 0 where
  -- it is posted in this Rendez
  IsPostedIn : (rendez : ℕ) → Place
  -- this process has taken it out of its Rendez, and has yet to mark it
  IsHeldBy : (raiser : ℕ) → Place
  -- its mark is set and not yet cleared
  IsMarked : Place
  -- it has withdrawn itself
  IsOut : Place

-- the process holds this sleeper
abbrev pub IsHolding : ℕ → Phase → Type 0
IsHolding sleeper (phase.Holding held rendez level) = held.0 ≡ sleeper
IsHolding sleeper stage = ⊥

-- the process is in the place
abbrev pub IsAt : State → ℕ → Place → Type 0
IsAt state pid (IsPostedIn rendez) = posted_of state rendez ≡ posted_as pid
IsAt state pid (IsHeldBy raiser) = IsHolding pid (phase_of state raiser)
IsAt state pid IsMarked = (flags_of state pid).wake ≡ true
IsAt state pid IsOut = phase_of state pid ≡ phase.Out

-- the process has posted itself, and has yet to end that sleep
abbrev pub IsInSleep : Phase → Type 0
IsInSleep (phase.Posted rendez threshold) = ⊤
IsInSleep (phase.Asleep rendez threshold) = ⊤
IsInSleep (phase.Leaving rendez) = ⊤
IsInSleep phase.Awaiting = ⊤
IsInSleep phase.Woken = ⊤
IsInSleep phase.Out = ⊤
IsInSleep stage = ⊥

-- a place, and the only one
pub record IsInOnePlace (state : State) (pid : ℕ) : Type 0 where
  pub place : Place
  pub is_there : IsAt state pid place
  pub no_other : (other : Place) → IsAt state pid other → other ≡ place

-- After every run each process whose sleep is not over is in just one place, and no other process
-- is in any place.
abbrev pub SleepersAreInOnePlace : Type 0
SleepersAreInOnePlace =
    (procs rendez : ℕ) (past : List Entry)
    → IsRun procs rendez past
    → (pid : ℕ)
    → IsInSleep (phase_of (world_of procs rendez past) pid)
    → IsInOnePlace (world_of procs rendez past) pid

abbrev pub OthersAreInNoPlace : Type 0
OthersAreInNoPlace =
    (procs rendez : ℕ) (past : List Entry)
    → IsRun procs rendez past
    → (pid : ℕ)
    → ¬ (IsInSleep (phase_of (world_of procs rendez past) pid))
    → (place : Place)
    → ¬ (IsAt (world_of procs rendez past) pid place)

-- the phases in which a process may be posted in this Rendez
abbrev pub MayBePosted : ℕ → Phase → Type 0
MayBePosted rendez (phase.Posted at threshold) = at.0 ≡ rendez
MayBePosted rendez (phase.Asleep at threshold) = at.0 ≡ rendez
MayBePosted rendez (phase.Leaving at) = at.0 ≡ rendez
MayBePosted rendez stage = ⊥

-- the level of a wakeup that is not over is at most the level of its Rendez
abbrev pub IsRaised : State → Phase → Type 0
IsRaised state (phase.Owing rendez level) = level ≤ level_of state rendez.0
IsRaised state (phase.Holding sleeper rendez level) = level ≤ level_of state rendez.0
IsRaised state stage = ⊤

-- how the words agree with the phases
pub record WordsAgree (state : State) : Type 0 where
  -- a process that is posted is in a phase of a sleep in that Rendez
  pub posted : (pid rendez : ℕ)
      → posted_of state rendez ≡ posted_as pid
      → MayBePosted rendez (phase_of state pid)
  -- a process that saw its mark has it
  pub woken : (pid : ℕ) → phase_of state pid ≡ phase.Woken → (flags_of state pid).wake ≡ true
  -- a wakeup has raised its level, and a returned level was raised
  pub raised : (pid : ℕ) → IsRaised state (phase_of state pid)
  pub returned : (rendez : ℕ) → returned_of state rendez ≤ level_of state rendez
  -- no returned level is above the threshold of a process that is asleep and still posted
  pub asleep : (pid : ℕ) (rendez : RendezId) (threshold : ℕ)
      → phase_of state pid ≡ phase.Asleep rendez threshold
      → posted_of state rendez.0 ≡ posted_as pid
      → returned_of state rendez.0 ≤ threshold

abbrev pub WordsAgreeInRuns : Type 0
WordsAgreeInRuns =
    (procs rendez : ℕ) (past : List Entry)
    → IsRun procs rendez past
    → WordsAgree (world_of procs rendez past)
