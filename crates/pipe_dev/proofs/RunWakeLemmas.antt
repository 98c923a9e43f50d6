-- A call wakes whom one wakes that waits as long as it takes, and its caller goes on from there.
use Rattle.std.proofs.Common.{inl, inr, List, Result, Ok, Err, sym, subst}
use Rattle.histories.proofs.ListLemmas.{past_trans}
use Rattle.rendez_words.specs.declared.view.View.{View}
use Rattle.sync_base.specs.declared.fault.Fault.{Fault}
use Rattle.sync_base.specs.declared.ids.RendezId.{RendezId}
use Rattle.waiting.specs.declared.call.Reply.{Reply}
use Rattle.waiting.specs.Runners.{ComesToSame, IsACall, over_at}
use Rattle.waiting.specs.Waiting.{Point, Waited}
use Rattle.waiting.specs.Wakeups.{HasGoneOn}
use Rattle.pipe_dev.specs.BlockReads.{AsksForBlock}
use Rattle.pipe_dev.specs.Calls.{waits_by}
use Rattle.pipe_dev.specs.ReadCalls.{AsksForBytes}
use Rattle.pipe_dev.specs.Rendezes.{reader_rendez, writer_rendez}
use Rattle.pipe_dev.specs.WaitLaws.{RunBlockReadsWakeEachWriter, RunReadsWakeEachWriter}
use Rattle.pipe_dev.specs.WaitLaws.{RunWritesWakeTheReader}
use Rattle.pipe_dev.specs.WriteCalls.{AsksForRoom}
use Rattle.pipe_dev.proofs.OutcomeLemmas.{LastTold, told_last}
use Rattle.pipe_dev.proofs.WaitLemmas.{writes_wake_the_reader, reads_wake_each_writer}

module _ {Seat Out : Type 0} (Asks : Point Seat → Reply Out → Point Seat → Type 0)
    (rendez : RendezId) (views : List View) (old new : Point Seat) (out : Out)
    (is : IsACall (waits_by Asks) rendez old (Ok out) new)
    (gone : HasGoneOn views new.process) where
  -- where its wait was over
  abbrev end : Point Seat
  end = record { seat = new.seat; process = is.process }

  told_so : (told : Result Out Fault) (waited : Waited (waits_by Asks) rendez old told end)
      → ComesToSame told (Ok out)
      → HasGoneOn views (over_at (waits_by Asks) rendez old told end waited)
      → LastTold Asks (HasGoneOn views) out new.seat
  told_so (Ok one) waited same gone =
      subst (λ (o : Out). LastTold Asks (HasGoneOn views) o new.seat) (sym same)
      (told_last Asks rendez (HasGoneOn views) old one end waited gone)
  told_so (Err why) waited same gone = absurd same

  -- its last request told it so, and its caller has gone on since
  last_told : LastTold Asks (HasGoneOn views) out new.seat
  last_told =
      told_so is.told is.waited is.same
      (record {
        seat = gone.seat;
        part = gone.part;
        there = gone.there;
        since = past_trans (over_at (waits_by Asks) rendez old is.told end is.waited).trace
            new.process.trace gone.part.trace is.own gone.since;
      })

-- by the law of writes, of its last request
pub run_writes_wake : RunWritesWakeTheReader
run_writes_wake sizes s shows call number old new (inl none) gone = absurd cc
run_writes_wake sizes s shows call number old new (inr is) gone =
    let last = last_told (AsksForRoom call) (writer_rendez call.row call.writer) s.views old new
    number is gone in
    writes_wake_the_reader sizes s shows call number last.before
    (record { seat = new.seat; process = last.process }) last.asked last.of

-- by the law of reads, of its last try
pub run_reads_wake : RunReadsWakeEachWriter
run_reads_wake sizes s shows key row answer old new is gone =
    let last = last_told (AsksForBytes key row) (reader_rendez row) s.views old new answer is
    gone in
    record {
      before = last.before;
      process = last.process;
      asked = last.asked;
      released = λ number woken.
          reads_wake_each_writer sizes s shows row number last.before.process last.process woken
          last.of;
    }

-- and so of a read of a block
pub run_block_reads_wake : RunBlockReadsWakeEachWriter
run_block_reads_wake sizes s shows key row answer old new is gone =
    let last = last_told (AsksForBlock key row) (reader_rendez row) s.views old new answer is
    gone in
    record {
      before = last.before;
      process = last.process;
      asked = last.asked;
      released = λ number woken.
          reads_wake_each_writer sizes s shows row number last.before.process last.process woken
          last.of;
    }
