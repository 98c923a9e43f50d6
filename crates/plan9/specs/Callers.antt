-- What clauses see of an end of a pipe and the process that calls it.
use Rattle.std.specs.Prelude.{◌≡◌}
use Rattle.pipe_dev.specs.Ends.{ReadSide, WriteSide, IsSameReadEnd, IsSameWriteEnd}
use Rattle.sleep_wakeup.specs.Kernel.{Running}

-- a process that reads from this end
pub record Reader : Type 0 where
  pub end : ReadSide
  pub proc : Running

abbrev pub reader : ReadSide → Running → Reader
reader end proc = record { end = end; proc = proc }

-- a process that writes into this end
pub record Writer : Type 0 where
  pub end : WriteSide
  pub proc : Running

abbrev pub writer : WriteSide → Running → Writer
writer end proc = record { end = end; proc = proc }

-- the same end, and the same kernel
pub record IsSameReader (old new : Reader) : Type 0 where
  pub end_is : IsSameReadEnd old.end new.end
  pub words_are : new.proc.words ≡ old.proc.words

pub record IsSameWriter (old new : Writer) : Type 0 where
  pub end_is : IsSameWriteEnd old.end new.end
  pub words_are : new.proc.words ≡ old.proc.words
