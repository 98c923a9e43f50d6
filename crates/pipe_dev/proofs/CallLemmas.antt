-- What a write is answered, and what it asked.
use Rattle.std.proofs.Common.{◌≡◌, ℕ, List, [], ap, ◌∙◌}
use Rattle.std.specs.Prelude.{Option, Some, None, Result, Ok, Err}
use Rattle.sync_base.specs.declared.fault.Fault.{Fault}
use Rattle.sync_base.specs.declared.fault.Fault.TheVariants as fault
use Rattle.block_queue.specs.declared.queue.Queue.{Queue}
use Rattle.block_queue.specs.declared.seats.PutSeat.{PutSeat}
use Rattle.block_queue.specs.Seats.{key_of}
use Rattle.pipe_dev.specs.declared.row.Row.{Row}
use Rattle.pipe_dev.specs.Calls.{IsAsked}
use Rattle.pipe_dev.specs.WriteCalls.{WriteCall, Writer, AsksForRoom}
use Rattle.pipe_dev.specs.Rendezes.{writer_rendez}
use Rattle.pipe_dev.specs.WriteCalls.{Writes, writing}
use Rattle.waiting.specs.declared.call.Reply.TheVariants.{Refused}
use Rattle.waiting.specs.Waiting.{Waited}
use Rattle.pipe_dev.proofs.OutcomeLemmas.{is_asked}

-- the queue refuses a write for two reasons
refused : (call : WriteCall) (old new : Writer) (why : Fault)
    → AsksForRoom call old (Refused why) new → IsAsked {Out = ℕ} (Err why)
refused call old new fault.Hungup asks = tt
refused call old new fault.Worn asks = tt
refused call old new other asks = absurd asks

-- so a write answers nothing that comes before its first request
pub is_asked_write : (call : WriteCall) (old : Writer) (answer : Result ℕ Fault) (new : Writer)
    → Waited (writing call) (writer_rendez call.row call.writer) old answer new
    → IsAsked answer
is_asked_write call =
    is_asked (AsksForRoom call) (writer_rendez call.row call.writer) (refused call)

-- so it is a write
pub writes_so : (call : WriteCall) (old : Writer) (answer : Result ℕ Fault) (new : Writer)
    → Waited (writing call) (writer_rendez call.row call.writer) old answer new
    → Writes call old answer new
writes_so call old (Ok number) new waited = waited
writes_so call old (Err fault.TooBig) new waited = absurd (is_asked_write call old _ new waited)
writes_so call old (Err fault.NoRendez) new waited = absurd (is_asked_write call old _ new waited)
writes_so call old (Err fault.Memory) new waited = absurd (is_asked_write call old _ new waited)
writes_so call old (Err other) new waited = waited

-- the write of these bytes by this seat
abbrev call_with : Queue → Row → PutSeat → List ℕ → WriteCall
call_with queue row seat bytes =
    record { key = key_of queue; row = row; writer = seat.writer; bytes = bytes }

-- what was asked for this call was asked for the same one
pub same_call : (queue : Queue) (row : Row) (seat : PutSeat) (block bytes : List ℕ) (writer : ℕ)
    → seat.writer ≡ writer → block ≡ bytes
    → call_with queue row seat block
    ≡ record { key = key_of queue; row = row; writer = writer; bytes = bytes }
same_call queue row seat block bytes writer same is =
    ap (λ (w : ℕ). record (call_with queue row seat block) { writer = w }) same
    ∙ ap (λ (bs : List ℕ).
    record (record (call_with queue row seat block) { writer = writer }) { bytes = bs }) is

-- what is there is the same
pub some_is : (block bytes : List ℕ) → Some block ≡ Some bytes → block ≡ bytes
some_is block bytes same = ap inside same
  where
    inside : Option (List ℕ) → List ℕ
    inside None = []
    inside (Some one) = one
