-- The results of the steps of a read.
use Rattle.std.specs.Prelude.{ℕ, nat_lt, if◌then◌else◌}
use Rattle.pipe_dev.specs.declared.answers.ReadAnswer.{ReadAnswer}
use Rattle.pipe_dev.specs.declared.answers.ReadAnswer.TheVariants as read
use Rattle.pipe_dev.specs.declared.filling.ReadOutcome.{ReadOutcome}
use Rattle.pipe_dev.specs.declared.filling.Stop.{Stop}
use Rattle.pipe_dev.specs.declared.filling.Stop.TheVariants as stop
use Rattle.waiting.specs.declared.call.Reply.{Reply}
use Rattle.waiting.specs.declared.call.Reply.TheVariants.{Done, Wait}

-- the answer to a try: bytes, or why there are none
abbrev pub found_at : ℕ → Stop → Reply ReadAnswer
found_at count stop.Enough = Done (read.Got count)
found_at count (stop.NotYet number) =
    if nat_lt 0 count then Done (read.Got count) else Wait number
found_at count stop.End =
    if nat_lt 0 count then Done (read.Got count) else Done read.End

abbrev pub found_of : ReadOutcome → Reply ReadAnswer
found_of came = found_at came.count came.stop
