-- What rfork does, after fork(2). Of its flags a roster takes only RFPROC and RFNOTEG: RFREND is a
-- flag of tag spaces.
use Rattle.std.specs.Prelude.{◌≡◌, ◌<◌, ◌⊎◌, ℕ, true, false, Option, Some, None}
use Rattle.sync_base.specs.declared.fault.Fault.{Fault}
use Rattle.sync_base.specs.declared.fault.Fault.TheVariants as fault
use Rattle.sync_base.specs.declared.flags.Flags.{Flags}
use Rattle.sync_base.specs.Flags.{AreKnown, asks_child, asks_group, asks_space}
use Rattle.rendez_words.specs.Words.{procs_of}
use Rattle.sleep_wakeup.specs.Kernel.{Running, Unused, next_process, one_pid_less, regrouped}

-- no flag is set but RFPROC and RFNOTEG
pub record AreOfRoster (flags : Flags) : Type 0 where
  pub known : AreKnown flags
  pub no_space : asks_space flags ≡ false

-- no flag but RFNOTEG is set
pub record AsksNobody (flags : Flags) : Type 0 where
  pub of_roster : AreOfRoster flags
  pub nobody : asks_child flags ≡ false

-- RFPROC is set, alone or with RFNOTEG
pub record AsksChild (flags : Flags) : Type 0 where
  pub of_roster : AreOfRoster flags
  pub child : asks_child flags ≡ true

abbrev pub HasPid : Unused → Type 0
HasPid unused = unused.pids.next < procs_of unused.words

-- no child is asked for, or a child is asked for and a pid is left
abbrev pub MayFork : Unused → Flags → Type 0
MayFork unused flags = AsksNobody flags ⊎ (AsksChild flags × HasPid unused)

-- the flags are tested first
abbrev pub WhyNotForked : Unused → Flags → Fault → Type 0
WhyNotForked unused flags fault.BadFlags = ¬ AreOfRoster flags
WhyNotForked unused flags fault.NoProc = AsksChild flags × (¬ HasPid unused)
WhyNotForked unused flags other = ⊥

-- Without RFPROC nobody is made; with it the child has the next pid and has made no step. With
-- RFNOTEG the child is in a group of its own or, where there is no child, the caller is.
abbrev pub Forks : ℕ → Unused → Flags → Option Running → Unused → Type 0
Forks parent before flags None after =
    AsksNobody flags × (after ≡ regrouped parent (asks_group flags) before)
Forks parent before flags (Some child) after =
    AsksChild flags × (child ≡ next_process before)
    × (after ≡ one_pid_less parent (asks_group flags) before)
