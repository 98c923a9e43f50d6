-- A sleep that nobody will end.
use Rattle.std.specs.Prelude.{◌≡◌, ◌<◌, ℕ, zero, suc, Bool, false, ◌||◌, ◌&&◌, ◌==◌, nat_lt}
use Rattle.std.specs.Prelude.{SomeIndex, length}
use Rattle.sleep_core.specs.declared.phase.Phase.{Phase}
use Rattle.sleep_core.specs.declared.phase.Phase.TheVariants as phase
use Rattle.sleep_core.specs.State.{State, posted_as, phase_of, posted_of, returned_of}

-- The process is asleep in a Rendez and is still posted in it, though a wakeup with a level above
-- its threshold has returned.
abbrev pub Oversleeps : State → ℕ → Phase → Type 0
Oversleeps state pid (phase.Asleep rendez threshold) =
    (posted_of state rendez.0 ≡ posted_as pid) × (threshold < returned_of state rendez.0)
Oversleeps state pid stage = ⊥

-- some process oversleeps
abbrev pub HasLostWakeup : State → Type 0
HasLostWakeup state = SomeIndex state.phases (λ pid. Oversleeps state pid (phase_of state pid))

-- the same as tests, for what is printed
abbrev pub oversleeps : State → ℕ → Phase → Bool
oversleeps state pid (phase.Asleep rendez threshold) =
    posted_of state rendez.0 == posted_as pid && nat_lt threshold (returned_of state rendez.0)
oversleeps state pid stage = false

-- some process below this number oversleeps
abbrev pub oversleeps_below : State → ℕ → Bool
oversleeps_below state zero = false
oversleeps_below state (suc pid) =
    oversleeps state pid (phase_of state pid) || oversleeps_below state pid

abbrev pub has_lost_wakeup : State → Bool
has_lost_wakeup state = oversleeps_below state (length state.phases)
