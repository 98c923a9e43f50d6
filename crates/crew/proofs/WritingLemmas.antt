-- What a writer and a reader know when they end.
use Rattle.std.proofs.Common.{◌≡◌, ◌+◌, ◌++◌, ℕ, suc, true, List, [], ◌∷◌, length, take, refl, sym}
use Rattle.std.proofs.Common.{◌∙◌, ap, subst, arith}
use Rattle.std.specs.Prelude.{Result, Ok, vec_len}
use Rattle.std.proofs.lemmas.List.{append_assoc}
use Rattle.std.proofs.Math.Seq.{take-append_seam}
use Rattle.histories.specs.declared.account.Account.{Account}
use Rattle.sync_base.specs.declared.fault.Fault.{Fault}
use Rattle.sleep_wakeup.specs.Kernel.{Running}
use Rattle.block_queue.specs.declared.entry.Entry.{Entry}
use Rattle.block_queue.specs.declared.entry.Entry.TheVariants.{Hung}
use Rattle.block_queue.specs.declared.view.Key.{Key}
use Rattle.block_queue.specs.Meaning.{Enters}
use Rattle.pipe_dev.specs.declared.answers.ReadAnswer.{ReadAnswer}
use Rattle.pipe_dev.specs.declared.answers.ReadAnswer.TheVariants as read
use Rattle.pipe_dev.specs.declared.row.Row.{Row}
use Rattle.pipe_dev.specs.Chain.{written_by}
use Rattle.pipe_dev.specs.Ends.{IsSameWriteEnd}
use Rattle.pipe_dev.specs.BlockReads.{AsksForBlock, ReadsBlock}
use Rattle.pipe_dev.specs.Rendezes.{reader_rendez}
use Rattle.pipe_dev.specs.ReadCalls.{Calling}
use Rattle.pipe_dev.specs.Sides.{HasWrittenJust}
use Rattle.pipe_dev.specs.WriteCalls.{Writes, call_of, writer_of}
use Rattle.pipe_dev.proofs.AskedLemmas.{last_asked}
use Rattle.pipe_dev.proofs.SideLemmas.{writes_add}
use Rattle.crew.specs.declared.crew.Writer.{Writer}
use Rattle.crew.specs.Message.{message_of}
use Rattle.crew.specs.Threads.{is_at_end, is_hung}
use Rattle.crew.specs.Writing.{HasWrittenOn, messages_of}

-- a hangup is the newest entry
pub hung_now : (key : Key) (seat : ℕ) (old new : Account Entry) → Enters key (Hung seat) old new
    → is_hung new.seen ≡ true
hung_now key seat old new enters = ap (λ (a : Account Entry). is_hung a.seen) enters.adds.new_is

-- a read that was answered the end
at_end_now : (key : Key) (row : Row) (old new : Calling) → ReadsBlock key row old (Ok read.End) new
    → is_at_end new.seat.taker.account.seen ≡ true
at_end_now key row old new reads =
    ap (λ (a : Account Entry). is_at_end a.seen)
    (last_asked (AsksForBlock key row) (reader_rendez row) old read.End new
    reads).asked.nothing.entered.adds.new_is

-- the same, of an answer that is the end
pub at_end : (key : Key) (row : Row) (old : Calling) (answer : Result ReadAnswer Fault)
    (new : Calling) → ReadsBlock key row old answer new → answer ≡ Ok read.End
    → is_at_end new.seat.taker.account.seen ≡ true
at_end key row old answer new reads is =
    at_end_now key row old new
    (subst (λ (a : Result ReadAnswer Fault). ReadsBlock key row old a new) is reads)

-- what is taken of a list that goes on after it
pub kept_items : (len : ℕ) (xs ys : List ℕ) → length xs ≡ len → take len (xs ++ ys) ≡ xs
kept_items len xs ys is = subst (λ n. take n (xs ++ ys) ≡ xs) is (take-append_seam xs ys)

-- one message more
pub one_more : (size writer count : ℕ)
    → messages_of size writer (count + 1)
    ≡ messages_of size writer count ++ message_of size writer count ∷ []
one_more size writer count =
    let e : count + 1 ≡ suc count = omega arith in ap (messages_of size writer) e

-- who wrote nothing has written on
pub same_writer : (writer : Writer) → HasWrittenOn writer writer
same_writer writer =
    record {
      end = record { queue = refl; row = refl; writer = refl };
      number = refl;
      writes = refl;
      size = refl;
      counts = λ before counts. counts;
    }

-- writing on, and then on
pub then_written : (old between new : Writer) → HasWrittenOn old between
    → HasWrittenOn between new → HasWrittenOn old new
then_written old between new first second =
    record {
      end = record {
        queue = second.end.queue ∙ first.end.queue;
        row = second.end.row ∙ first.end.row;
        writer = second.end.writer ∙ first.end.writer;
      };
      number = second.number ∙ first.number;
      writes = second.writes ∙ first.writes;
      size = second.size ∙ first.size;
      counts = λ before counts. second.counts before (first.counts before counts);
    }

-- a write that is counted where it was accepted
pub written_on : (old new : Writer) (before after : Running) (block : List ℕ)
    (answer : Result ℕ Fault)
    → Writes (call_of old.end block) (writer_of old.end before) answer (writer_of new.end after)
    → IsSameWriteEnd old.end new.end → new.number ≡ old.number → new.writes ≡ old.writes
    → vec_len new.message ≡ vec_len old.message
    → messages_of (vec_len old.message) old.number new.done
    ≡ messages_of (vec_len old.message) old.number old.done ++ written_by answer block
    → HasWrittenOn old new
written_on old new before after block answer wrote same number writes size count =
    record {
      end = same;
      number = number;
      writes = writes;
      size = size;
      counts = λ front counts.
          let done = messages_of (vec_len old.message) old.number old.done in
          subst (HasWrittenJust new.end)
          (append_assoc front done (written_by answer block)
          ∙ (ap (λ xs. front ++ xs) (sym count)
          ∙ (ap (λ s. front ++ messages_of s old.number new.done) (sym size)
          ∙ ap (λ n. front ++ messages_of (vec_len new.message) n new.done) (sym number))))
          ((writes_add old.end new.end before after block answer wrote same).just (front ++ done)
          counts);
    }
