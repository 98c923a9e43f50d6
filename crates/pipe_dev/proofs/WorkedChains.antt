-- What no call adds to the parts that an end has read: each against one row.
use Rattle.std.proofs.Common.{◌≢◌, ℕ, List, [], take, Ok, Err}
use Rattle.sync_base.specs.declared.fault.Fault.{Fault}
use Rattle.sync_base.specs.declared.mode.Mode.TheVariants.{Message, Stream}
use Rattle.block_queue.specs.declared.view.Key.{Key}
use Rattle.pipe_dev.specs.declared.answers.ReadAnswer.TheVariants as read
use Rattle.pipe_dev.specs.declared.answers.TryAnswer.TheVariants as try
use Rattle.pipe_dev.specs.Chain.{AddsNone, AddsOne, AddsParts, AddsRead, AddsTry, IsOfSteps}
use Rattle.pipe_dev.specs.Chain.{ReadStep, reading_at}
use Rattle.pipe_dev.specs.Parts.{Part}
use Rattle.pipe_dev.specs.Filling.{Taker}
use Rattle.pipe_dev.specs.Rounds.{Rounds}

module _ (count : ℕ) (buffer : List ℕ) (parts parts' : List Part) where
  -- ---- in message mode

  a_read_that_adds_no_part : ¬ AddsOne (take count buffer) parts parts'
      → ¬ AddsRead Message (Ok (read.Got count)) buffer parts parts'
  a_read_that_adds_no_part none adds = none adds

  an_end_that_adds_a_part : parts' ≢ parts → ¬ AddsRead Message (Ok read.End) buffer parts parts'
  an_end_that_adds_a_part other adds = other adds

  a_refusal_that_adds_a_part : (why : Fault) → parts' ≢ parts
      → ¬ AddsRead Message (Err why) buffer parts parts'
  a_refusal_that_adds_a_part why other adds = other adds

  a_try_that_adds_no_part : ¬ AddsOne (take count buffer) parts parts'
      → ¬ AddsTry Message (try.Got count) buffer parts parts'
  a_try_that_adds_no_part none adds = none adds

  a_try_of_nothing_that_adds_a_part : parts' ≢ parts
      → ¬ AddsTry Message try.NotYet buffer parts parts'
  a_try_of_nothing_that_adds_a_part other adds = other adds

  a_try_at_the_end_that_adds_a_part : parts' ≢ parts
      → ¬ AddsTry Message try.End buffer parts parts'
  a_try_at_the_end_that_adds_a_part other adds = other adds

  -- ---- in stream mode

  a_stream_read_that_adds_other_bytes : ¬ AddsParts (take count buffer) parts parts'
      → ¬ AddsRead Stream (Ok (read.Got count)) buffer parts parts'
  a_stream_read_that_adds_other_bytes none adds = none adds

  an_end_of_a_stream_that_adds_bytes : ¬ AddsParts [] parts parts'
      → ¬ AddsRead Stream (Ok read.End) buffer parts parts'
  an_end_of_a_stream_that_adds_bytes none adds = none adds

  a_refusal_of_a_stream_that_adds_bytes : (why : Fault) → ¬ AddsParts [] parts parts'
      → ¬ AddsRead Stream (Err why) buffer parts parts'
  a_refusal_of_a_stream_that_adds_bytes why none adds = none adds

  a_stream_try_that_adds_other_bytes : ¬ AddsParts (take count buffer) parts parts'
      → ¬ AddsTry Stream (try.Got count) buffer parts parts'
  a_stream_try_that_adds_other_bytes none adds = none adds

  a_stream_try_of_nothing_that_adds_bytes : ¬ AddsParts [] parts parts'
      → ¬ AddsTry Stream try.NotYet buffer parts parts'
  a_stream_try_of_nothing_that_adds_bytes none adds = none adds

  a_stream_try_at_the_end_that_adds_bytes : ¬ AddsParts [] parts parts'
      → ¬ AddsTry Stream try.End buffer parts parts'
  a_stream_try_at_the_end_that_adds_bytes none adds = none adds

  -- ---- a call that reads nothing

  a_call_that_reads_and_does_not_say_so : parts' ≢ parts → ¬ AddsNone parts parts'
  a_call_that_reads_and_does_not_say_so other adds = other adds

module _ (key : Key) (Adds : List Part → List Part → Type 0) (old new : Taker) (parts : List Part)
    (call : IsOfSteps key Adds old parts new) where
  a_call_adds_what_it_says : ¬ ¬ Adds parts call.parts'
  a_call_adds_what_it_says none = none call.added

  a_call_is_steps : ¬ ¬ Rounds (ReadStep key) call.times (reading_at old parts)
      (reading_at new call.parts')
  a_call_is_steps none = none call.steps
