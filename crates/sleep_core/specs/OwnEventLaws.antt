-- What a process can know from its own events alone.
use Rattle.std.specs.Prelude.{ℕ, List}
use Rattle.sleep_core.specs.Runs.{Entry, IsRun, own, kept}
use Rattle.sleep_core.specs.History.{history_of}
use Rattle.sleep_core.specs.Promises.{EachSleepIsCaused}

-- the cause for which a sleep ends is in the kept part of its own events
abbrev pub OwnSleepsEndForACause : Type 0
OwnSleepsEndForACause =
    (procs rendez : ℕ) (past : List Entry)
    → IsRun procs rendez past
    → (pid : ℕ)
    → EachSleepIsCaused (history_of (kept (own pid past)))
