-- By computing what each history says.
use Rattle.std.proofs.Common.{inl, refl, ap}
use Rattle.std.proofs.lemmas.Option.{same_Some}
use Rattle.sleep_core.specs.Table.{Wakeup}
use Rattle.sleep_core.proofs.laws.promises_can_be_broken.Goals as goal

-- the sleep goes on in the Rendez of the wakeup
pub returns-clause-misses_a_sleeper : goal.returns-clause-misses_a_sleeper
returns-clause-misses_a_sleeper c right =
    let begun : Wakeup = record { rendez = 0; level = 1 } in
    right.0.free 0 0
    (inl (
      refl,
      ap (λ (w : Wakeup). w.rendez) (same_Some begun right.0.wakeup right.0.owed),
      refl,
    ))
