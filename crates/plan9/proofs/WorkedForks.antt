-- What is no fork and no reason to refuse one, of one child or of many: each against one row.
use Rattle.std.proofs.Common.{◌≡◌, ◌≢◌, ◌+◌, ℕ, false, List, [], ◌∷◌, Ok, Err, ap, arith, refl}
use Rattle.sync_base.specs.declared.fault.Fault.TheVariants as fault
use Rattle.rendez_words.specs.Words.{procs_of}
use Rattle.sleep_wakeup.specs.Forks.{HasPid}
use Rattle.sleep_wakeup.specs.Kernel.{Running, Unused, next_process, one_pid_less}
use Rattle.plan9.specs.Forkings.{AreChildren, ForksOne, HasPids, WhyNoChildren}
use Rattle.plan9.specs.Forkings.{children, less_children}

-- ---- one child

module _ (parent : ℕ) (before after : Unused) (child : Running) where
  fork_without_a_pid : ¬ HasPid before → ¬ ForksOne parent before (Ok child) after
  fork_without_a_pid none forked = none forked.0

  fork_of_another_process : child ≢ next_process before
      → ¬ ForksOne parent before (Ok child) after
  fork_of_another_process other forked = other forked.1

  fork_in_another_group : after ≢ one_pid_less parent false before
      → ¬ ForksOne parent before (Ok child) after
  fork_in_another_group other forked = other forked.2

  no_fork_for_want_of_memory : ¬ ForksOne parent before (Err fault.Memory) after
  no_fork_for_want_of_memory refused =
      let no : fault.Memory ≡ fault.NoProc = refused.0 in cc

  no_fork_where_a_pid_is_left : HasPid before → ¬ ForksOne parent before (Err fault.NoProc) after
  no_fork_where_a_pid_is_left left refused = refused.1 left

  refused_fork_uses_a_pid_up : after ≢ before → ¬ ForksOne parent before (Err fault.NoProc) after
  refused_fork_uses_a_pid_up other refused = other refused.2

-- ---- many

-- two children have the next two pids, and both are forked by the parent
two_children : (before : Unused) → children 2 7 before
    ≡ next_process before ∷ next_process (one_pid_less 7 false before) ∷ []
two_children before = refl

two_children_use_two_pids_up : (before : Unused) → less_children 2 7 before
    ≡ one_pid_less 7 false (one_pid_less 7 false before)
two_children_use_two_pids_up before = refl

module _ (before after : Unused) (child : Running) where
  -- nobody was made, and a pid was used up
  nobody_used_a_pid_up : after ≢ before → ¬ AreChildren before 0 0 [] after
  nobody_used_a_pid_up other are = other are.roster

  -- a child uses one pid up, in the note group of its parent, and is the next process
  one_child_has_one_pid : AreChildren before 0 1 (child ∷ []) after
      → after ≡ one_pid_less 0 false before
  one_child_has_one_pid are = are.roster

  another_process : child ≢ next_process before → ¬ AreChildren before 0 1 (child ∷ []) after
  another_process other are =
      other (ap (λ (procs : List Running). head_or child procs) are.children_are)
    where
      head_or : Running → List Running → Running
      head_or none [] = none
      head_or none (first ∷ rest) = first

  -- none is made where two are asked for, or with too few pids
  one_of_two_children : ¬ AreChildren before 0 2 (child ∷ []) after
  one_of_two_children are = let two = are.children_are in cc

  children_without_pids : ¬ HasPids before 1 → ¬ AreChildren before 0 1 (child ∷ []) after
  children_without_pids none are = none are.pids

module _ (before : Unused) where
  two_and_one_pid_is_left : before.pids.next + 1 ≡ procs_of before.words → ¬ HasPids before 2
  two_and_one_pid_is_left one pids = omega (arith, one, pids)

  -- they are refused though pids are left; for want of memory though none are; for another reason
  no_children_where_pids_are_left : HasPids before 2 → ¬ WhyNoChildren before 2 fault.NoProc
  no_children_where_pids_are_left left none = none left

  no_memory_excuses_the_pids : ¬ HasPids before 2 → ¬ WhyNoChildren before 2 fault.Memory
  no_memory_excuses_the_pids none left = none left

  no_children_for_a_bad_argument : ¬ WhyNoChildren before 2 fault.BadArg
  no_children_for_a_bad_argument why = why
