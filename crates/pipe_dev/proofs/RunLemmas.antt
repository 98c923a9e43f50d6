-- A call is one that waits as long as it takes, whatever its runner is.
use Rattle.std.proofs.Common.{◌≡◌, ℕ, Some, None, Result, Err, inl, inr, refl, sym, subst}
use Rattle.histories.specs.History.{IsPast}
use Rattle.histories.proofs.ListLemmas.{past_refl}
use Rattle.rendez_words.specs.Process.{Process}
use Rattle.sync_base.specs.declared.fault.Fault.{Fault}
use Rattle.sync_base.specs.declared.fault.Fault.TheVariants as fault
use Rattle.sync_base.specs.declared.ids.RendezId.{RendezId}
use Rattle.waiting.specs.declared.call.Reply.{Reply}
use Rattle.waiting.specs.declared.wait.WaitEnd.{WaitEnd}
use Rattle.waiting.specs.declared.wait.WaitEnd.TheVariants.{Answered, Stopped}
use Rattle.waiting.specs.Runners.{ComesToSame, IsACall, over_at}
use Rattle.waiting.specs.Waiting.{Ends, Point, Returns, Waited}
use Rattle.pipe_dev.specs.BlockReads.{AsksForBlock, ReadsBlock, RunsOfBlockReadsAreBlockReads}
use Rattle.pipe_dev.specs.Calls.{RunsAs, waits_by}
use Rattle.pipe_dev.specs.ReadCalls.{AsksForBytes, Reads, RunsOfReadsAreReads}
use Rattle.pipe_dev.specs.Rendezes.{reader_rendez, writer_rendez}
use Rattle.pipe_dev.specs.WriteCalls.{AsksForRoom, RunsOfWritesAreWrites, Writes}
use Rattle.pipe_dev.proofs.AskedLemmas.{block_reads_so, reads_so}
use Rattle.pipe_dev.proofs.CallLemmas.{writes_so}

-- a call that comes to nothing where it leaves puts no notes back: it returns where it is over
module _ {Seat Out : Type 0} (Asks : Point Seat → Reply Out → Point Seat → Type 0)
    (rendez : RendezId) (before : Point Seat) where
  is_over : (answer : Result Out Fault) (after : Point Seat)
      (waited : Waited (waits_by Asks) rendez before answer after)
      → over_at (waits_by Asks) rendez before answer after waited ≡ after.process
  is_over answer after (inl begun) = refl
  is_over answer after (inr waits) =
      by waits.waited.ending waits.waited.returned waits.waited.slept.ends
    where
      by : (ending : WaitEnd Out) → Returns ending waits.waited.process after.process
          → Ends (waits_by Asks) rendez waits.waited.slept.last ending
          (record { seat = after.seat; process = waits.waited.process })
          → waits.waited.process ≡ after.process
      by (Answered told) same ends = sym same
      by (Stopped why (Some out)) back ends = absurd ends.left
      by (Stopped why None) same ends = sym same

  -- so whatever ran it, it did what such a call does
  runs_as : (Does : Result Out Fault → Point Seat → Type 0)
      → ((answer : Result Out Fault) (after : Point Seat)
      → Waited (waits_by Asks) rendez before answer after → Does answer after)
      → (answer : Result Out Fault) (after : Point Seat)
      → IsACall (waits_by Asks) rendez before answer after → RunsAs Does answer after
  runs_as Does does answer after is =
      let end : Point Seat = record { seat = after.seat; process = is.process } in
      record {
        told = is.told;
        process = is.process;
        did = does is.told end is.waited;
        same = is.same;
        own = subst (λ (p : Process). IsPast p.trace after.process.trace)
            (is_over is.told end is.waited) is.own;
      }

-- whatever ran it, a write is a write
pub run_write : RunsOfWritesAreWrites
run_write call old new answer (inl none) =
    record {
      told = Err fault.Memory;
      process = new.process;
      did = none.same;
      same = subst (ComesToSame {Out = ℕ} (Err fault.Memory)) (sym none.answer_is) tt;
      own = past_refl new.process.trace;
    }
run_write call old new answer (inr is) =
    runs_as (AsksForRoom call) (writer_rendez call.row call.writer) old (Writes call old)
    (writes_so call old) answer new is

-- whatever ran it, a read is a read
pub run_read : RunsOfReadsAreReads
run_read key row old new answer is =
    runs_as (AsksForBytes key row) (reader_rendez row) old (Reads key row old)
    (reads_so key row old) answer new is

-- and so of a read of a block
pub run_block_read : RunsOfBlockReadsAreBlockReads
run_block_read key row old new answer is =
    runs_as (AsksForBlock key row) (reader_rendez row) old (ReadsBlock key row old)
    (block_reads_so key row old) answer new is
