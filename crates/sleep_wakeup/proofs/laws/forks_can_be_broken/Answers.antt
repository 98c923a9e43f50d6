-- By the next pid, the flags, and how many groups there are.
use Rattle.std.proofs.Common.{◌≡◌, ℕ, Bool, true, false, not, if◌then◌else◌, length}
use Rattle.std.proofs.Common.{ap, arith}
use Rattle.sync_base.specs.declared.flags.Flags.{Flags}
use Rattle.sleep_wakeup.specs.Forks.{AsksChild, AsksNobody}
use Rattle.sleep_wakeup.specs.Groups.{begins, first_group, follows}
use Rattle.sleep_wakeup.specs.Kernel.{Unused, Running}
use Rattle.sleep_wakeup.proofs.laws.forks_can_be_broken.Goals as goal

-- flags that ask for a child don't ask for none
both : (flags : Flags) → AsksChild flags → AsksNobody flags → ⊥
both flags one none = let child = one.child in let nobody = none.nobody in cc

pub returns-clause-gives_a_pid_twice : goal.returns-clause-gives_a_pid_twice
returns-clause-gives_a_pid_twice c = λ unused flags parent forks.
    let same = ap (λ (u : Unused). u.pids.next) forks.2 in omega (arith, same)

pub returns-clause-skips_a_pid : goal.returns-clause-skips_a_pid
returns-clause-skips_a_pid c = λ unused flags parent forks.
    let same = ap (λ (r : Running). r.process.pid) forks.1 in omega (arith, same)

pub returns-clause-makes_nobody : goal.returns-clause-makes_nobody
returns-clause-makes_nobody c = λ unused flags parent asked forks. both flags asked forks.0

pub returns-clause-makes_a_child_unasked : goal.returns-clause-makes_a_child_unasked
returns-clause-makes_a_child_unasked c = λ unused flags parent none forks.
    both flags forks.0 none

-- a child in its parent's group makes no group more, and one apart does
apart_or_not : (apart : Bool) (next : ℕ)
    → length (if not apart then begins next first_group else follows 0 next first_group)
    ≡ length (if apart then begins next first_group else follows 0 next first_group) → ⊥
apart_or_not true next same = let bad : 1 ≡ 2 = same in omega (arith, bad)
apart_or_not false next same = let bad : 2 ≡ 1 = same in omega (arith, bad)

pub returns-clause-child_is_in_another_group : goal.returns-clause-child_is_in_another_group
returns-clause-child_is_in_another_group c = λ unused flags asks is forks.
    apart_or_not _ unused.pids.next (rw is at (ap (λ (u : Unused). length u.groups) forks.2))

pub returns-clause-caller_stays : goal.returns-clause-caller_stays
returns-clause-caller_stays c = λ unused flags asks is forks.
    let bad : 2 ≡ 3 = rw (asks, is) at (ap (λ (u : Unused). length u.groups) forks.1) in
    omega (arith, bad)

pub returns-clause-caller_leaves_unasked : goal.returns-clause-caller_leaves_unasked
returns-clause-caller_leaves_unasked c = λ unused flags asks is forks.
    let bad : 3 ≡ 2 = rw (asks, is) at (ap (λ (u : Unused). length u.groups) forks.1) in
    omega (arith, bad)

pub returns-clause-row_is_one_too_short : goal.returns-clause-row_is_one_too_short
returns-clause-row_is_one_too_short c = λ unused count is.
    let same = ap (λ (u : Unused). u.rendez) is in omega (arith, same)
