-- Who took the lock answers once and gives it back, and both together are one served request.
use Rattle.std.proofs.Common.{◌∙◌}
use Rattle.kernel_lock.proofs.locked.Locked.serve.Goals as goal

pub answer_last-requires-clause-taken : goal.answer_last-requires-clause-taken
answer_last-requires-clause-taken g c = (
  c.args.stepper.now.me,
  record {
    key_is = c.requires.stepper.key;
    no_slot = c.requires.outside.no_slot;
    own = c.requires.own;
    taken = c.take.ensures.taken;
  },
)

pub returns : goal.returns
returns g c =
    let done = c.answer_last.ensures.served _
    (record {
      key_is = c.requires.stepper.key;
      no_slot = c.requires.outside.no_slot;
      own = c.requires.own;
      taken = c.take.ensures.taken;
    }) in
    record {
      stepper = record {
        table = c.answer_last.ensures.table
            ∙ c.take.ensures.stepper.table
            ∙ c.requires.stepper.table;
        key = done.key_is;
      };
      outside = record { stage = done.stage_is; no_slot = done.no_slot };
      served = done.serves;
      history = done.knows;
    }
