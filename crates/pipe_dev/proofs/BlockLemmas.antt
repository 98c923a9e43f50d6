-- What reads of blocks come to, and what they add to what their end has read.
use Rattle.std.proofs.Common.{◌≡◌, ℕ, suc, List, ◌∷◌, length, refl, sym, ◌∙◌, ap, arith, None}
use Rattle.std.specs.Prelude.{Result, Ok, Err, ⊤}
use Rattle.std.proofs.lemmas.Bool.Decides.{nat_tests}
use Rattle.std.proofs.lemmas.List.{take_all}
use Rattle.sync_base.specs.declared.fault.Fault.{Fault}
use Rattle.sync_base.specs.declared.fault.Fault.TheVariants as fault
use Rattle.sync_base.specs.declared.mode.Mode.TheVariants.{Message}
use Rattle.block_queue.specs.declared.entry.Entry.TheVariants.{NotYet, End}
use Rattle.block_queue.specs.declared.view.Key.{Key}
use Rattle.block_queue.specs.Seats.{key_of}
use Rattle.pipe_dev.specs.declared.answers.ReadAnswer.{ReadAnswer}
use Rattle.pipe_dev.specs.declared.answers.ReadAnswer.TheVariants as read
use Rattle.pipe_dev.specs.declared.row.Row.{Row}
use Rattle.pipe_dev.specs.BlockReads.{AsksForBlock, block_reading}
use Rattle.pipe_dev.specs.CallLaws.{BlockReadsAreSteps}
use Rattle.pipe_dev.specs.Chain.{AddsNone, AddsRead, IsOfSteps}
use Rattle.pipe_dev.specs.Parts.{Part, part_of, rest_of}
use Rattle.pipe_dev.specs.ReadCalls.{Calling, calling}
use Rattle.pipe_dev.specs.Rendezes.{reader_rendez}
use Rattle.pipe_dev.specs.SideLaws.{BlockReadsAddToTheirEnd}
use Rattle.waiting.specs.declared.call.Reply.TheVariants.{Wait}
use Rattle.waiting.specs.Waiting.{Waited, reply_of}
use Rattle.pipe_dev.proofs.ChainLemmas.{no_step, nothing_step, one_step, part_step, waited_steps}
use Rattle.pipe_dev.proofs.SideLemmas.{steps_add}

-- ---- the laws

-- with more room than it has bytes nothing of a write is left
no_rest : (left : Part) → rest_of (suc (length left.bytes)) left ≡ None
no_rest left = grind (arith, nat_tests)

-- each request of a read of a block
module _ (key : Key) (row : Row) where
  waits : (old : Calling) (number : ℕ) (new : Calling) → ⊤
      → AsksForBlock key row old (Wait number) new
      → ⊤ × ((parts : List Part) → IsOfSteps key AddsNone old.seat.taker parts new.seat.taker)
  waits old number new room asks = (
    tt,
    λ parts. one_step parts refl (nothing_step {made = NotYet number} parts tt asks.0.nothing),
  )

  ends : (old : Calling) (answer : Result ReadAnswer Fault) (new : Calling) → ⊤
      → AsksForBlock key row old (reply_of answer) new → (parts : List Part)
      → IsOfSteps key (AddsRead Message answer new.seat.buffer) old.seat.taker parts new.seat.taker
  ends old (Ok (read.Got count)) new room asks parts =
      let gets = asks.0 in
      let left = gets.left in
      let room = suc (length left.bytes) in
      one_step (part_of room left ∷ parts)
      (record {
        part = part_of room left;
        bytes_are =
            take_all room left.bytes (omega arith)
            ∙ (sym gets.block_is
            ∙ sym
            (take_all count new.seat.buffer
            (let count_is = asks.1 in omega (arith, count_is))));
        parts_are = refl;
      })
      (part_step room parts (omega arith)
      (record {
        left = left;
        next = gets.next;
        part_is = refl;
        rest = gets.rest ∙ sym (no_rest left);
      }))
  ends old (Ok read.End) new room asks parts =
      one_step parts refl (nothing_step {made = End} parts tt asks.nothing)
  ends old (Err why) new room asks parts = absurd asks

  reads_so : (old : Calling) (answer : Result ReadAnswer Fault) (new : Calling) (parts : List Part)
      → Waited (block_reading key row) (reader_rendez row) old answer new
      → IsOfSteps key (AddsRead Message answer new.seat.buffer) old.seat.taker parts new.seat.taker
  reads_so old answer new parts waited =
      waited_steps key Message (AsksForBlock key row) (λ buffer. ⊤) waits ends old parts
      (reader_rendez row) answer new tt waited

-- each read of a block is steps of its end, and adds one part, whose bytes are the block
pub block_reads_are_steps : BlockReadsAreSteps
block_reads_are_steps key row old (Ok answer) new reads parts =
    reads_so key row old (Ok answer) new parts reads
block_reads_are_steps key row old (Err fault.NoRendez) new reads parts =
    no_step (ap (λ (c : Calling). c.seat.taker) reads) refl
block_reads_are_steps key row old (Err why) new reads parts =
    reads_so key row old (Err why) new parts reads

-- it adds to what its end has read just what it answers, and the end stays where it is
pub block_reads_add : BlockReadsAddToTheirEnd
block_reads_add old new before after block answer block' reads same parts made =
    let call =
    block_reads_are_steps (key_of old.queue) old.row (calling old before block) answer
    (calling new after block') reads parts in
    steps_add (AddsRead Message answer block') old new parts call.parts' call.times made same
    call.added
    call.steps
