-- The newest wakeup of a process is the one that it has just begun.
use Rattle.std.proofs.Common.{◌≡◌, ℕ, List, ◌∷◌, refl}
use Rattle.std.proofs.Common.{Option, Some}
use Rattle.std.proofs.lemmas.Bool.Decides.{Decides-eqb}
use Rattle.sleep_core.specs.History.{Effect, begun_wakeup}
use Rattle.sleep_core.specs.History.Effect.{Raised}
use Rattle.sleep_core.specs.Promises.{owed_wakeup}
use Rattle.sleep_core.specs.Table.{Wakeup}

-- the wakeup of this Rendez with this level
abbrev pub its : ℕ → ℕ → Option Wakeup
its rendez level = Some (record { rendez = rendez; level = level })

-- as what it began
pub has_begun : (raiser rendez level : ℕ) (past : List Effect)
    → begun_wakeup raiser (Raised raiser rendez level ∷ past) ≡ its rendez level
has_begun raiser rendez level past = rw ((Decides-eqb raiser raiser).1 refl) refl

-- and as what it owes
pub owes : (raiser rendez level : ℕ) (past : List Effect)
    → owed_wakeup raiser (Raised raiser rendez level ∷ past) ≡ its rendez level
owes raiser rendez level past = rw ((Decides-eqb raiser raiser).1 refl) refl
