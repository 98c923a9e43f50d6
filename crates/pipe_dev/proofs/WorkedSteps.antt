-- What is no step of a fill, and no fill: each against one row.
use Rattle.std.proofs.Common.{◌≢◌, ℕ, Option, length}
use Rattle.block_queue.specs.declared.entry.Entry.TheVariants as entry
use Rattle.block_queue.specs.declared.view.Key.{Key}
use Rattle.sync_base.specs.declared.mode.Mode.{Mode}
use Rattle.pipe_dev.specs.declared.filling.FillResult.{FillResult}
use Rattle.pipe_dev.specs.declared.filling.Next.TheVariants as next
use Rattle.pipe_dev.specs.declared.filling.ReadOutcome.{ReadOutcome}
use Rattle.pipe_dev.specs.Filling.{FillsUp, FindsNothing, FindsNotThere, IsFilledBy, Lending}
use Rattle.pipe_dev.specs.Filling.{StopsAt, TakesMore, TakesPart, begins, last_number, number_of}
use Rattle.pipe_dev.specs.FillSteps.{GivesNext, GivesPart, HasFilled}
use Rattle.pipe_dev.specs.Parts.{bytes_of}
use Rattle.pipe_dev.specs.Rounds.{Rounds}

module _ (key : Key) (old new : Lending) where
  module _ (count : ℕ) (number : Option ℕ) where
    a_part_that_was_not_taken : (gives : GivesPart key old count number new)
        → ¬ ¬ TakesPart key (length old.buffer) old.taker gives.part new.taker
    a_part_that_was_not_taken gives none = none gives.taken

    a_part_of_other_bytes : (gives : GivesPart key old count number new)
        → ¬ ¬ IsFilledBy gives.part.bytes old.buffer new.buffer count
    a_part_of_other_bytes gives none = none gives.filled

    a_part_with_another_number : (gives : GivesPart key old count number new)
        → ¬ (number ≢ number_of old.taker.rest gives.part)
    a_part_with_another_number gives other = other gives.number_is

    a_step_that_gives_no_part : ¬ GivesPart key old count number new
        → ¬ GivesNext key old (next.Part count number) new
    a_step_that_gives_no_part none gives = none gives

  a_step_that_finds_it_there : (number : ℕ) → ¬ FindsNotThere key number old.taker new.taker
      → ¬ GivesNext key old (next.NotYet number) new
  a_step_that_finds_it_there number there gives = there gives.0

  a_wait_that_touches_the_buffer : (number : ℕ) → new.buffer ≢ old.buffer
      → ¬ GivesNext key old (next.NotYet number) new
  a_wait_that_touches_the_buffer number other gives = other gives.1

  a_step_before_the_end : ¬ FindsNothing key entry.End old.taker new.taker
      → ¬ GivesNext key old next.End new
  a_step_before_the_end none gives = none gives.0

  an_end_that_touches_the_buffer : new.buffer ≢ old.buffer → ¬ GivesNext key old next.End new
  an_end_that_touches_the_buffer other gives = other gives.1

  module _ (mode : Mode) where
    a_fill_with_another_number : (filled : FillResult) (has : HasFilled key mode old filled new)
        → ¬ (filled.took ≢ last_number old.taker.rest has.fills.filling.parts)
    a_fill_with_another_number filled has other = other has.took

    module _ (came : ReadOutcome) (fills : FillsUp key mode old came new) where
      a_fill_of_other_rounds :
          ¬ ¬ Rounds (TakesMore key (record { mode = mode; room = length old.buffer })) fills.times
          (begins old.taker) fills.filling
      a_fill_of_other_rounds none = none fills.taken

      a_fill_that_goes_on :
          ¬ ¬ StopsAt key (record { mode = mode; room = length old.buffer }) came.stop
          fills.filling new.taker
      a_fill_that_goes_on none = none fills.stopped

      a_fill_of_other_bytes :
          ¬ ¬ IsFilledBy (bytes_of fills.filling.parts) old.buffer new.buffer came.count
      a_fill_of_other_bytes none = none fills.filled
