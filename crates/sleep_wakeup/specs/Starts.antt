-- What a kernel begins with.
use Rattle.std.specs.Prelude.{◌≡◌, []}
use Rattle.rendez_words.specs.declared.words.Words.{Words}
use Rattle.rendez_words.specs.Words.{IsProcessOf, ArePidsOf, table_of, procs_of}
use Rattle.sleep_wakeup.specs.declared.kernel.Start.{Start}
use Rattle.sleep_wakeup.specs.Groups.{first_group}
use Rattle.sleep_wakeup.specs.Kernel.{Running, Unused}

-- the first process, and the pids after it, of these words; nobody has made a step
pub record IsStartOf (words : Words) (start : Start) : Type 0 where
  pub process : IsProcessOf words start.seat
  pub first : start.seat.pid ≡ 0
  pub unused : start.seat.trace ≡ []
  pub pids : ArePidsOf words start.pids
  pub next : start.pids.next ≡ 1
  pub groups : start.groups.groups ≡ first_group
  pub given : start.groups.given ≡ 1
  pub room : start.groups.room ≡ procs_of words

-- the process with the pid 0, which has made no step
pub record IsFirst (words : Words) (proc : Running) : Type 0 where
  pub words_are : proc.words ≡ words
  pub table : proc.process.table ≡ table_of words
  pub first : proc.process.pid ≡ 0
  pub unused : proc.process.trace ≡ []

-- every other pid is left, and every Rendez; the first process is alone in its group
pub record HasAllLeft (words : Words) (roster : Unused) : Type 0 where
  pub words_are : roster.words ≡ words
  pub table : roster.pids.table ≡ table_of words
  pub pids : roster.pids.next ≡ 1
  pub rendez : roster.rendez ≡ 0
  pub groups : roster.groups ≡ first_group
