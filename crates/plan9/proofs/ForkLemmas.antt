-- Children that were forked one after the other, and one more.
use Rattle.std.proofs.Common.{◌≡◌, ◌++◌, ℕ, zero, suc, [], ◌∷◌, ap, false, refl}
use Rattle.sleep_wakeup.specs.Kernel.{Unused, next_process, one_pid_less}
use Rattle.plan9.specs.Forkings.{children, less_children}

-- one child more is what the others leave
pub less_one_more : (count parent : ℕ) (unused : Unused) → less_children (suc count) parent unused
    ≡ one_pid_less parent false (less_children count parent unused)
less_one_more zero parent unused = refl
less_one_more (suc count) parent unused =
    less_one_more count parent (one_pid_less parent false unused)

-- and it is the last of them
pub one_more_child : (count parent : ℕ) (unused : Unused) → children (suc count) parent unused
    ≡ children count parent unused ++ next_process (less_children count parent unused) ∷ []
one_more_child zero parent unused = refl
one_more_child (suc count) parent unused =
    ap (λ rest. next_process unused ∷ rest)
    (one_more_child count parent (one_pid_less parent false unused))
