-- The first process has the number 1.
use Rattle.std.proofs.Common.{set, sym, subst, rules, List, ℕ}
use Rattle.sleep_wakeup.specs.Groups.{AreNumbers}
use Rattle.sleep_wakeup.proofs.GroupLemmas.{only_first, first_numbers}
use Rattle.sleep_wakeup.proofs.groups.Groups.new.Goals as goal

pub returns-clause-groups : goal.returns-clause-groups
returns-clause-groups c =
    only_first _ (subst (λ (numbers : List ℕ). AreNumbers (set numbers 0 1) 1 1)
    (sym (c.in_ok-numbers.ensures.items_if_clones_equal (search rules)))
    (first_numbers c.args.procs c.requires))
