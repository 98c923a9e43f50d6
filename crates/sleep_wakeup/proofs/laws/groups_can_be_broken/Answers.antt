-- By how often a pid stands there.
use Rattle.std.proofs.Common.{◌≡◌, arith}
use Rattle.sleep_wakeup.proofs.laws.groups_can_be_broken.Goals as goal

pub returns-clause-stands_twice : goal.returns-clause-stands_twice
returns-clause-stands_twice c = λ are. let bad : 2 ≡ 1 = are.once 0 in omega (arith, bad)

pub returns-clause-stands_in_two : goal.returns-clause-stands_in_two
returns-clause-stands_in_two c = λ are. let bad : 2 ≡ 1 = are.once 1 in omega (arith, bad)

pub returns-clause-one_is_missing : goal.returns-clause-one_is_missing
returns-clause-one_is_missing c = λ are. let bad : 0 ≡ 1 = are.once 1 in omega (arith, bad)

pub returns-clause-was_not_given : goal.returns-clause-was_not_given
returns-clause-was_not_given c = λ are. let bad : 1 ≡ 0 = are.once 1 in omega (arith, bad)

pub returns-clause-falls : goal.returns-clause-falls
returns-clause-falls c = λ are. let bad = are.rise.0.1.0 in omega (arith, bad)

pub returns-clause-falls_later : goal.returns-clause-falls_later
returns-clause-falls_later c = λ are. let bad = are.rise.1.0.1.0 in omega (arith, bad)
