-- The load of the tail by a free reader changes nothing and tells it what was seen.
use Rattle.std.proofs.Common.{ap, subst, ◌∙◌, arith}
use Rattle.atomic_table.specs.Table as table
use Rattle.block_queue.specs.GatherSteps.{HasSurveyed}
use Rattle.block_queue.specs.Rule.{IsOneQueue}
use Rattle.block_queue.proofs.GatherKeeps.{survey_keeps}
use Rattle.block_queue.proofs.queue.Queue.survey.Goals as goal

pub load-requires : goal.load-requires
load-requires g c =
    let words = c.args.self.now.words in (
      c.requires.stepper.table,
      omega arith,
      subst (λ k. table.Allows (IsOneQueue k) c.args.self.now.table.shared.table_id.slots
          c.args.stepper.now.id c.args.stepper.now.me 0 (λ n. n)
          (HasSurveyed g.M.Asks.asked.key c.args.stepper.now.me))
          (ap (λ asked. asked.key) c.requires.asked ∙ c.args.self.now.keyed)
          (survey_keeps g.M.Asks.asked.key _ _ _ c.requires.stepper.own c.requires.stepper.stage),
    )

pub returns-clause-told : goal.returns-clause-told
returns-clause-told g c =
    subst (λ k. HasSurveyed k c.args.stepper.now.me c.load.result c.load.new.seat.me)
    (ap (λ asked. asked.key) c.requires.asked) c.load.ensures.2
