-- A sleep that ended without notes has a cause.
use Rattle.std.proofs.Common.{OnOk, sym, subst}
use Rattle.sync_base.specs.NoteSet.{no_notes}
use Rattle.sleep_wakeup.specs.Calls.{Sleeps}
use Rattle.sleep_wakeup.proofs.CallLemmas.{sleeps_well}
use Rattle.sleep_wakeup.proofs.sleeping.sleep_with.Goals as goal
use Rattle.sleep_wakeup.proofs.sleeping.sleep_with.Goals.{then-is_empty, else-is_empty}

pub returns-after-is_empty-clause-slept : goal.returns-after-is_empty-clause-slept
returns-after-is_empty-clause-slept g c =
    elim c.if-is_empty.branch [
      | then-is_empty w ↦
          subst (λ answer. OnOk answer (Sleeps c.args.seat c.args.rendez c.args.threshold no_notes
          c.end_posted-seat.result.seat))
          (sym w.answer-is)
          (sleeps_well c.args.words.now c.args.seat c.args.rendez c.args.threshold c.in-Ok.posted
          c.end_posted-seat.result.notes c.end_posted-seat.result.seat
          c.in-Ok.ensures.posted c.end_posted-seat.ensures.slept
          (c.is_empty.ensures.0 w.if-is_empty.true) c.end_posted-seat.ensures.words)
      | else-is_empty w ↦
          subst (λ answer. OnOk answer (Sleeps c.args.seat c.args.rendez c.args.threshold no_notes
          c.end_posted-seat.result.seat))
          (sym w.answer-is) tt
    ]
