-- The step Poll keeps the rule: nothing changes.
use Rattle.std.proofs.Common.{ℕ, refl}
use Rattle.atomic_table.specs.Table as table
use Rattle.kernel_lock.specs.declared.view.Key.{Key}
use Rattle.kernel_lock.specs.Definition.{Definition}
use Rattle.kernel_lock.specs.Rule.{IsOneHistory}
use Rattle.kernel_lock.specs.Steps.{Me, HasWatched}
use Rattle.kernel_lock.proofs.RuleLemmas.{sits}

module _ {Object State Call Reply : Type 0}
    (definition : Definition Object State Call Reply) where
  -- a load of the word keeps the rule, and the seat stays as it was
  pub poll_keeps : (key : Key Object) (slots id : ℕ) (me : Me Object Call Reply) →
      table.Allows (IsOneHistory definition key) slots id me 0 (λ n. n)
      (λ _ after. HasWatched me after)
  poll_keeps key slots id me s rule _ at _ = (
    me.0,
    table.keeps,
    tt,
    sits definition key s rule id me.0 me.0 at refl (rule.each_seat id me.0 at),
    record { same = refl },
  )
