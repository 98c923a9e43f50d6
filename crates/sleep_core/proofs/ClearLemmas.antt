-- What clear leaves in either of its phases.
use Rattle.std.proofs.Common.{◌≡◌, ◌⊎◌, ◌<◌, inl, inr, length, get_or, sym, ◌∙◌, arith}
use Rattle.std.proofs.lemmas.Bool.Decides.{nat_tests}
use Rattle.std.proofs.lemmas.List.{get_or_read}
use Rattle.sync_base.specs.declared.ids.Pid.{Pid}
use Rattle.sleep_core.specs.declared.event.Event.TheVariants.{Clear}
use Rattle.sleep_core.specs.declared.phase.Phase.{Phase}
use Rattle.sleep_core.specs.declared.phase.Phase.TheVariants as phase
use Rattle.sleep_core.specs.State.{State, IsWhole, phase_of, no_flags}
use Rattle.sleep_core.specs.Step.{world_after, with_phase, with_flags}

world_after-clear_in : (s : State) (pid : Pid) → IsWhole s → pid.0 < length s.phases
    → (phase_of s pid.0 ≡ phase.Out) ⊎ (phase_of s pid.0 ≡ phase.Woken)
    → world_after s (Clear pid) ≡ with_phase (with_flags s pid.0 no_flags) pid.0 phase.Idle
world_after-clear_in s pid sound in_range stage = grind (arith, nat_tests)

-- the phase as an index reads it
pub world_after-clear : (s : State) (pid : Pid) (found : Phase) → IsWhole s
    → pid.0 < length s.phases → found ≡ get_or s.phases pid.0 found
    → (found ≡ phase.Out) ⊎ (found ≡ phase.Woken)
    → world_after s (Clear pid) ≡ with_phase (with_flags s pid.0 no_flags) pid.0 phase.Idle
world_after-clear s pid found sound in_range read (inl out) =
    world_after-clear_in s pid sound in_range
    (inl (sym (get_or_read s.phases pid.0 found in_range read phase.Idle) ∙ out))
world_after-clear s pid found sound in_range read (inr woken) =
    world_after-clear_in s pid sound in_range
    (inr (sym (get_or_read s.phases pid.0 found in_range read phase.Idle) ∙ woken))
