-- What a write may not be answered, and what is no answer with bytes: each against one row.
use Rattle.std.proofs.Common.{[], ◌∷◌, true, false, true≢false, arith}
use Rattle.sync_base.specs.declared.answers.ReadAnswer.TheVariants.{Empty, End}
use Rattle.sync_base.specs.declared.answers.WriteAnswer.TheVariants.{Taken}
use Rattle.sync_base.specs.declared.mode.Mode.TheVariants.{Message}
use Rattle.sync_base.specs.Pipe.{PipeState, IsGot, MayAnswerWrite}

-- one write waits, of the one that may
abbrev full : PipeState
full =
    record {
      limit = 1;
      mode = Message;
      accepted = record { writer = 0; bytes = [] } ∷ [];
      read_whole = 0;
      offset = 0;
      hung = false;
    }

a_full_direction_takes_no_write : ¬ MayAnswerWrite full Taken
a_full_direction_takes_no_write may = omega (arith, may.1)

-- there is room, but it was hung up
no_write_is_taken_after_a_hangup : ¬ MayAnswerWrite (record full { limit = 2; hung = true }) Taken
no_write_is_taken_after_a_hangup may = absurd (true≢false may.0)

nothing_is_not_got : ¬ IsGot Empty
nothing_is_not_got it = it

the_end_is_not_got : ¬ IsGot End
the_end_is_not_got it = it
