-- What are no children of a process, and no reason to refuse them: each against one row of what
-- `forks` says.
use Rattle.std.proofs.Common.{◌≡◌, ◌≢◌, ◌+◌, ◌<◌, ℕ, List, [], ◌∷◌, length, ap, arith}
use Rattle.sync_base.specs.declared.fault.Fault.TheVariants as fault
use Rattle.rendez_words.specs.Words.{procs_of}
use Rattle.sleep_wakeup.specs.Kernel.{Running, Unused}
use Rattle.plan9.specs.Forkings.{AreChildren, HasPids, WhyNoChildren}

module _ (before after : Unused) (parent : ℕ) (child : Running) where
  -- a child is left out, or there is one too many, or a pid is used up for nobody
  a_child_is_left_out : AreChildren before parent 1 [] after → ⊥
  a_child_is_left_out made =
      let count : 0 ≡ 1 = ap (λ (made : List Running). length made) made.children_are in
      omega (arith, count)

  a_child_too_many : AreChildren before parent 0 (child ∷ []) after → ⊥
  a_child_too_many made =
      let count : 1 ≡ 0 = ap (λ (made : List Running). length made) made.children_are in
      omega (arith, count)

  a_pid_is_used_up_for_nobody : after ≢ before → AreChildren before parent 0 [] after → ⊥
  a_pid_is_used_up_for_nobody other made = other made.roster

module _ (unused : Unused) (count : ℕ) where
  -- pids are left that are not
  more_pids_than_there_are : procs_of unused.words < unused.pids.next + count
      → HasPids unused count → ⊥
  more_pids_than_there_are fewer pids = omega (arith, fewer, pids)

  -- they are refused though pids are left, as out of memory before as out of pids, or as out of
  -- Rendez
  refused_though_pids_are_left : HasPids unused count → WhyNoChildren unused count fault.NoProc
      → ⊥
  refused_though_pids_are_left pids why = why pids

  memory_before_pids : (HasPids unused count → ⊥) → WhyNoChildren unused count fault.Memory → ⊥
  memory_before_pids none why = none why

  refused_for_a_rendez : WhyNoChildren unused count fault.NoRendez → ⊥
  refused_for_a_rendez why = why
