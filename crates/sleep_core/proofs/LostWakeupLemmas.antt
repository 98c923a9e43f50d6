-- The test of a lost wakeup says what the fact says.
use Rattle.std.proofs.Common.{◌≡◌, ◌<◌, ◌+◌, ℕ, Bool, true, false, ◌==◌, nat_lt, IsTrue, ◌↔◌}
use Rattle.std.proofs.Common.{length, Decides, refl, sym, ◌∙◌, ap}
use Rattle.std.proofs.lemmas.Bool.Decides.{Decides-at, Decides-and, Decides-eqb, Decides-ltb}
use Rattle.std.proofs.lemmas.Bool.Decides.{Decides-below_or}
use Rattle.sleep_core.specs.declared.phase.Phase.{Phase}
use Rattle.sleep_core.specs.declared.phase.Phase.TheVariants as phase
use Rattle.sleep_core.specs.State.{State, phase_of, posted_of, returned_of}
use Rattle.sleep_core.specs.LostWakeup.{Oversleeps, HasLostWakeup, oversleeps, oversleeps_below}
use Rattle.sleep_core.specs.LostWakeup.{has_lost_wakeup}

decides_oversleeps : (s : State) (pid : ℕ) (stage : Phase)
    → Decides (oversleeps s pid stage) (Oversleeps s pid stage)
decides_oversleeps s pid (phase.Asleep rendez level) =
    Decides-and (posted_of s rendez.0 == pid + 1) (nat_lt level (returned_of s rendez.0))
    (Decides-eqb (posted_of s rendez.0) (pid + 1)) (Decides-ltb level (returned_of s rendez.0))
decides_oversleeps s pid stage = (λ test. cc, λ left. absurd left)

-- the test of a world says whether somebody oversleeps
pub decides_lost : (s : State) → Decides (has_lost_wakeup s) (HasLostWakeup s)
decides_lost s =
    Decides-below_or (λ pid. oversleeps s pid (phase_of s pid))
    (λ pid. Oversleeps s pid (phase_of s pid)) (oversleeps_below s)
    (λ pid. decides_oversleeps s pid (phase_of s pid)) refl (λ _. refl) (length s.phases)

-- whoever is left asleep is among all
pub found_lost : (s : State) (pid : ℕ) → pid < length s.phases
    → oversleeps s pid (phase_of s pid) ≡ true → true ≡ has_lost_wakeup s
found_lost s pid in_range left =
    sym ((decides_lost s).1 (pid, in_range, (decides_oversleeps s pid (phase_of s pid)).0 left))

-- so does an answer that is the test
pub lost_fact : (s : State) (answer : Bool) → answer ≡ has_lost_wakeup s
    → (IsTrue answer ↔ HasLostWakeup s)
lost_fact s answer value = Decides-at answer (has_lost_wakeup s) value (decides_lost s)

-- nobody is left asleep once all were looked at
pub none_found : (s : State) (pid : ℕ) → oversleeps_below s pid ≡ false → pid ≡ length s.phases
    → false ≡ has_lost_wakeup s
none_found s pid none all = sym none ∙ ap (oversleeps_below s) all
