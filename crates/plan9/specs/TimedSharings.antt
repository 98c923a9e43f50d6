-- What a call of a shared end does that waits until a moment: one moment for the wait for its turn
-- and for the wait for bytes. Own.
use Rattle.std.specs.Prelude.{◌≡◌, ◌⊎◌, ⊤, ℕ, Result, Ok, Err}
use Rattle.sync_base.specs.declared.fault.Fault.{Fault}
use Rattle.sleep_wakeup.specs.Kernel.{Running}
use Rattle.semaphore.specs.Timing.{AcquiresBy}
use Rattle.pipe_dev.specs.declared.answers.ReadAnswer.{ReadAnswer}
use Rattle.plan9.specs.declared.shares.Share.{Share}
use Rattle.plan9.specs.Callers.{Reader}
use Rattle.plan9.specs.Semaphores.{seat_point}
use Rattle.plan9.specs.Sharings.{Buffers, HasNoTurn, HasTurn, MayNotAsk, Sharer, Turn, sharer}
use Rattle.plan9.specs.Watches.{IsSameWatch, Watching, until}
use Rattle.plan9.specs.Within.{ReadsBlockWithin, ReadsWithin, watched_read}

-- a share with the process that reads by it, and the watch with which it waits
pub record WatchedSharer : Type 0 where
  pub sharer : Sharer
  pub watch : Watching

abbrev pub watched_sharer : Share → Running → Watching → WatchedSharer
watched_sharer share proc watch = record { sharer = sharer share proc; watch = watch }

-- a watch, before and after a call
pub record Watches : Type 0 where
  pub before : Watching
  pub after : Watching

abbrev pub watches : Watching → Watching → Watches
watches before after = record { before = before; after = after }

-- it asked for a turn, and where another process had it waited for it until this moment
abbrev pub AsksUntil : ℕ → Watches → Result ⊤ Fault → Turn → Turn → Type 0
AsksUntil moment watch answer old new =
    AcquiresBy (until watch.before moment) old.seat.sema
    (seat_point old.seat watch.before old.proc) answer (seat_point new.seat watch.after new.proc)

-- a call of the end that lies there, with a watch
abbrev pub EndCall : Type 1
EndCall = Watches → Buffers → Result ReadAnswer Fault → Reader → Reader → Type 0

-- a read until this moment
abbrev pub ReadsOnceWithin : ℕ → EndCall
ReadsOnceWithin moment watch buffer answer old new =
    ReadsWithin moment (watched_read old buffer.before watch.before) answer
    (watched_read new buffer.after watch.after)

-- and a read of a block
abbrev pub ReadsBlockOnceWithin : ℕ → EndCall
ReadsBlockOnceWithin moment watch block answer old new =
    ReadsBlockWithin moment (watched_read old block.before watch.before) answer
    (watched_read new block.after watch.after)

module _ (moment : ℕ) where
  -- it got its turn by this moment, made this call with the same watch, and gave the turn back
  pub record HasTimedTurn (old : WatchedSharer) (Call : Watches → Reader → Reader → Type 0)
      (new : WatchedSharer) : Type 0 where
    pub between : Watching
    pub same : IsSameWatch old.watch between
    pub has : HasTurn (AsksUntil moment (watches old.watch between) (Ok tt)) old.sharer
        (Call (watches between new.watch)) new.sharer

  -- it got no turn by this moment, or was refused before it waited, and did nothing else
  abbrev pub HasNoTimedTurn : WatchedSharer → Buffers → Fault → WatchedSharer → Type 0
  HasNoTimedTurn old buffer why new =
      HasNoTurn (AsksUntil moment (watches old.watch new.watch) (Err why)) old.sharer buffer
      new.sharer

  -- What a call in turn did that waits until this moment, by its answer: a refused call may not
  -- ask, or got no turn, or called and was refused.
  abbrev pub InTimedTurn : EndCall → WatchedSharer → Buffers → Result ReadAnswer Fault
      → WatchedSharer → Type 0
  InTimedTurn Call old buffer (Ok answer) new =
      HasTimedTurn old (λ watch. Call watch buffer (Ok answer)) new
  InTimedTurn Call old buffer (Err why) new =
      (MayNotAsk old.sharer buffer why new.sharer × (new.watch ≡ old.watch))
      ⊎ (HasNoTimedTurn old buffer why new
      ⊎ HasTimedTurn old (λ watch. Call watch buffer (Err why)) new)
