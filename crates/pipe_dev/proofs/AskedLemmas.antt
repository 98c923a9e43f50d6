-- What the answer of a read that waits tells of its last request.
use Rattle.std.proofs.Common.{Result, Ok, Err}
use Rattle.std.specs.Prelude.{⊤}
use Rattle.sync_base.specs.declared.fault.Fault.{Fault}
use Rattle.sync_base.specs.declared.fault.Fault.TheVariants as fault
use Rattle.sync_base.specs.declared.ids.RendezId.{RendezId}
use Rattle.block_queue.specs.declared.view.Key.{Key}
use Rattle.pipe_dev.specs.declared.answers.ReadAnswer.{ReadAnswer}
use Rattle.pipe_dev.specs.declared.row.Row.{Row}
use Rattle.pipe_dev.specs.BlockReads.{AsksForBlock, ReadsBlock, block_reading}
use Rattle.pipe_dev.specs.Calls.{IsAsked, waits_by}
use Rattle.pipe_dev.specs.Filling.{Lending}
use Rattle.pipe_dev.specs.ReadCalls.{AsksForBytes, Calling, Reads, reading}
use Rattle.pipe_dev.specs.Rendezes.{reader_rendez}
use Rattle.waiting.specs.declared.call.Reply.{Reply}
use Rattle.waiting.specs.declared.call.Reply.TheVariants.{Refused}
use Rattle.waiting.specs.Waiting.{Waited}
use Rattle.pipe_dev.proofs.OutcomeLemmas.{LastTold, is_asked, told_last}

module _ (Asks : Calling → Reply ReadAnswer → Calling → Type 0) (rendez : RendezId) where
  -- a read that no request refuses answers nothing that comes before the first
  pub is_asked_read : ((old new : Calling) (why : Fault) → ¬ Asks old (Refused why) new)
      → (old : Calling) (answer : Result ReadAnswer Fault) (new : Calling)
      → Waited (waits_by Asks) rendez old answer new → IsAsked answer
  is_asked_read none =
      is_asked Asks rendez (λ old new why asks. absurd (none old new why asks))

  -- what was answered was told by the last request
  abbrev pub LastAsked : ReadAnswer → Lending → Type 0
  LastAsked = LastTold Asks (λ process. ⊤)

  -- so of a whole read that was answered
  pub last_asked : (old : Calling) (answer : ReadAnswer) (new : Calling)
      → Waited (waits_by Asks) rendez old (Ok answer) new → LastAsked answer new.seat
  last_asked old answer new waited =
      told_last Asks rendez (λ process. ⊤) old answer new waited tt

-- a wait of a read is a read
pub reads_so : (key : Key) (row : Row) (old : Calling) (answer : Result ReadAnswer Fault)
    (new : Calling) → Waited (reading key row) (reader_rendez row) old answer new
    → Reads key row old answer new
reads_so key row old (Ok answer) new waited = waited
reads_so key row old (Err fault.BadCount) new waited =
    absurd (is_asked_read (AsksForBytes key row) (reader_rendez row) (λ old new why asks. asks) old
    (Err fault.BadCount) new waited)
reads_so key row old (Err fault.NoRendez) new waited =
    absurd (is_asked_read (AsksForBytes key row) (reader_rendez row) (λ old new why asks. asks) old
    (Err fault.NoRendez) new waited)
reads_so key row old (Err other) new waited = waited

-- and of a read of a block one of those
pub block_reads_so : (key : Key) (row : Row) (old : Calling) (answer : Result ReadAnswer Fault)
    (new : Calling) → Waited (block_reading key row) (reader_rendez row) old answer new
    → ReadsBlock key row old answer new
block_reads_so key row old (Ok answer) new waited = waited
block_reads_so key row old (Err fault.NoRendez) new waited =
    absurd (is_asked_read (AsksForBlock key row) (reader_rendez row) (λ old new why asks. asks) old
    (Err fault.NoRendez) new waited)
block_reads_so key row old (Err other) new waited = waited
