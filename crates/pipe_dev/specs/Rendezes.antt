-- The Rendez of a direction, and who is woken there.
use Rattle.std.specs.Prelude.{◌≡◌, ℕ, zero, suc, ◌+◌, ◌≤◌, Option, None, Some}
use Rattle.sync_base.specs.declared.ids.RendezId.{RendezId}
use Rattle.sync_base.specs.declared.limits.TheConstants.{TOP_LEVEL}
use Rattle.rendez_words.specs.declared.words.Words.{Words}
use Rattle.rendez_words.specs.Process.{Process}
use Rattle.rendez_words.specs.Words.{rendez_of}
use Rattle.sleep_wakeup.specs.Actions.{WakesOne}
use Rattle.sleep_wakeup.specs.Kernel.{Running}
use Rattle.pipe_dev.specs.declared.row.Row.{Row}
use Rattle.pipe_dev.specs.Rounds.{OneMore}

-- the Rendez in which the reader waits for a write
abbrev pub reader_rendez : Row → RendezId
reader_rendez row = record { 0 = row.first }

-- the Rendez in which this writer waits for room
abbrev pub writer_rendez : Row → ℕ → RendezId
writer_rendez row writer = record { 0 = row.first + 1 + writer }

-- the Rendez of the direction are among the kernel's
abbrev pub OwnsRow : Words → Row → Type 0
OwnsRow words row = row.first + 1 + row.writers ≤ rendez_of words

-- this many writers, from the first on, were woken, each once and in order, and the process did
-- nothing else
abbrev pub WakesWriters : Row → ℕ → ℕ → Process → Process → Type 0
WakesWriters row zero level before after = after ≡ before
WakesWriters row (suc count) level before after =
    OneMore (WakesWriters row count level before)
    (λ between last. WakesOne between (writer_rendez row count) level last) after

-- each writer was woken with this number, if there is one; else nobody was woken
abbrev pub WakesWith : Row → Option ℕ → Process → Process → Type 0
WakesWith row None before after = after ≡ before
WakesWith row (Some number) before after =
    WakesWriters row row.writers number before after

-- a hangup wakes both sides: the reader, and then each writer
pub record WakesAll (row : Row) (before after : Process) : Type 0 where
  pub between : Process
  pub reader : WakesOne before (reader_rendez row) TOP_LEVEL between
  pub writers : WakesWriters row row.writers TOP_LEVEL between after

-- Own: a process whose kernel has too few Rendez for these wakes nobody.
pub record WakesIfKnown (row : Row) (before : Running) (after : Process) : Type 0 where
  pub known : OwnsRow before.words row → WakesAll row before.process after
  pub foreign : ¬ OwnsRow before.words row → after ≡ before.process
