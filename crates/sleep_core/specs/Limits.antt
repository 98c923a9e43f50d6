-- The sizes of a world, and why a size is refused.
use Rattle.std.specs.Prelude.{◌≤◌, ℕ}
use Rattle.sync_base.specs.declared.fault.Fault.{Fault}
use Rattle.sync_base.specs.declared.fault.Fault.TheVariants as fault
use Rattle.sync_base.specs.declared.limits.TheConstants.{MAX_PROCS, MAX_RENDEZ}

abbrev pub IsProcCount : ℕ → Type 0
IsProcCount procs = (1 ≤ procs) × (procs ≤ MAX_PROCS)

abbrev pub IsRendezCount : ℕ → Type 0
IsRendezCount rendez = (1 ≤ rendez) × (rendez ≤ MAX_RENDEZ)

-- a world may have these sizes
abbrev pub IsWorldSize : ℕ → ℕ → Type 0
IsWorldSize procs rendez = IsProcCount procs × IsRendezCount rendez

-- Own: the processes are tested first, then the Rendez. Memory is refused only to a world in range.
abbrev pub WhyNoWorld : ℕ → ℕ → Fault → Type 0
WhyNoWorld procs rendez fault.NoProc = ¬ IsProcCount procs
WhyNoWorld procs rendez fault.NoRendez = IsProcCount procs × (¬ IsRendezCount rendez)
WhyNoWorld procs rendez fault.Memory = IsWorldSize procs rendez
WhyNoWorld procs rendez other = ⊥
