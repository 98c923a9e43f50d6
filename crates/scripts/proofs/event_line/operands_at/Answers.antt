-- Three numbers, the last of which ends the line, are the words of the operands.
use Rattle.std.proofs.Common.{[], ◌∷◌, refl}
use Rattle.scripts.specs.Schedule.{operands_of}
use Rattle.scripts.proofs.EventLineLemmas.{no_level, no_operands, no_rendez}
use Rattle.scripts.proofs.OnePassLemmas.{after_number, ends_line, none_before_line_feed}
use Rattle.scripts.proofs.OnePassLemmas.{none_before_space, none_after_number}
use Rattle.scripts.proofs.event_line.operands_at.Goals as goal

pub returns-in_err-pid : goal.returns-in_err-pid
returns-in_err-pid c =
    rw c.from_residual.ensures
    (none_before_space operands_of _ c.in_err-pid.ensures (λ word. refl) no_operands)

pub returns-in_err-rendez : goal.returns-in_err-rendez
returns-in_err-rendez c =
    let pid = c.in_ok-pid.ensures in
    rw c.from_residual-in_err-rendez.ensures
    (none_after_number operands_of _ _ _ pid
    (none_before_space (λ words. operands_of (pid.word ∷ words)) _ c.in_err-rendez.ensures
    (λ word. refl) (no_rendez pid.word)))

pub returns-in_err-level : goal.returns-in_err-level
returns-in_err-level c =
    let pid = c.in_ok-pid.ensures in
    let rendez = c.in_ok-rendez.ensures in
    rw c.from_residual-in_err-level.ensures
    (none_after_number operands_of _ _ _ pid
    (none_after_number (λ words. operands_of (pid.word ∷ words)) _ _ _ rendez
    (none_before_line_feed (λ words. operands_of (pid.word ∷ rendez.word ∷ words)) _
    c.in_err-level.ensures (no_level pid.word rendez.word) (λ word next words. refl))))

pub returns : goal.returns
returns c =
    let pid = c.in_ok-pid.ensures in
    let rendez = c.in_ok-rendez.ensures in
    let level = c.in_ok-level.ensures in
    record {
      words = pid.word ∷ rendez.word ∷ level.word ∷ [];
      begins = after_number _ _ _ _ _ pid
          (after_number _ _ _ _ _ rendez (ends_line _ _ _ level));
      asks = rw (pid.spells, rendez.spells, level.spells) refl;
    }
