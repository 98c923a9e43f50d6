-- What is no call of a shared end until a moment: each against one row.
use Rattle.std.proofs.Common.{◌≡◌, ℕ, Result, Ok, Err, inl, inr}
use Rattle.sync_base.specs.declared.fault.Fault.{Fault}
use Rattle.semaphore.specs.Timing.{AcquiresBy}
use Rattle.pipe_dev.specs.declared.answers.ReadAnswer.{ReadAnswer}
use Rattle.plan9.specs.Callers.{Reader}
use Rattle.plan9.specs.Semaphores.{seat_point}
use Rattle.plan9.specs.Sharings.{Buffers, HasTurn, MayNotAsk, Turn}
use Rattle.plan9.specs.TimedSharings.{AsksUntil, EndCall, HasNoTimedTurn, HasTimedTurn, InTimedTurn}
use Rattle.plan9.specs.TimedSharings.{ReadsBlockOnceWithin, ReadsOnceWithin, WatchedSharer, Watches}
use Rattle.plan9.specs.TimedSharings.{watches}
use Rattle.plan9.specs.Watches.{IsSameWatch, Watching, until}
use Rattle.plan9.specs.Within.{ReadsBlockWithin, ReadsWithin, watched_read}

module _ (moment : ℕ) (watch : Watches) where
  -- it asked for its turn until another moment
  asks_until_another_moment : (answer : Result _ Fault) (old new : Turn)
      → ¬ AcquiresBy (until watch.before moment) old.seat.sema
      (seat_point old.seat watch.before old.proc) answer
      (seat_point new.seat watch.after new.proc)
      → ¬ AsksUntil moment watch answer old new
  asks_until_another_moment answer old new other asks = other asks

  module _ (buffer : Buffers) (answer : Result ReadAnswer Fault) (old new : Reader) where
    -- and read until another
    reads_until_another_moment :
        ¬ ReadsWithin moment (watched_read old buffer.before watch.before) answer
        (watched_read new buffer.after watch.after)
        → ¬ ReadsOnceWithin moment watch buffer answer old new
    reads_until_another_moment other reads = other reads

    reads_a_block_until_another_moment :
        ¬ ReadsBlockWithin moment (watched_read old buffer.before watch.before) answer
        (watched_read new buffer.after watch.after)
        → ¬ ReadsBlockOnceWithin moment watch buffer answer old new
    reads_a_block_until_another_moment other reads = other reads

module _ (moment : ℕ) (old new : WatchedSharer) where
  -- it calls with another watch than it asked for its turn with
  calls_with_another_watch : (Call : Watches → Reader → Reader → Type 0)
      → ((between : Watching) → ¬ IsSameWatch old.watch between)
      → ¬ HasTimedTurn moment old Call new
  calls_with_another_watch Call other turn = other turn.between turn.same

  -- it had no turn
  calls_without_a_turn : (Call : Watches → Reader → Reader → Type 0)
      → ((between : Watching)
      → ¬ HasTurn (AsksUntil moment (watches old.watch between) (Ok tt)) old.sharer
      (Call (watches between new.watch)) new.sharer)
      → ¬ HasTimedTurn moment old Call new
  calls_without_a_turn Call none turn = none turn.between turn.has

  module _ (Call : EndCall) (buffer : Buffers) where
    answers_without_a_turn : (answer : ReadAnswer)
        → ¬ HasTimedTurn moment old (λ watch. Call watch buffer (Ok answer)) new
        → ¬ InTimedTurn moment Call old buffer (Ok answer) new
    answers_without_a_turn answer none turn = none turn

    -- who may not ask has set its timer, or a refusal is for nothing
    refused_for_no_reason : (why : Fault)
        → ¬ (MayNotAsk old.sharer buffer why new.sharer × (new.watch ≡ old.watch))
        → ¬ HasNoTimedTurn moment old buffer why new
        → ¬ HasTimedTurn moment old (λ watch. Call watch buffer (Err why)) new
        → ¬ InTimedTurn moment Call old buffer (Err why) new
    refused_for_no_reason why may none had (inl not) = may not
    refused_for_no_reason why may none had (inr (inl not)) = none not
    refused_for_no_reason why may none had (inr (inr turn)) = had turn
