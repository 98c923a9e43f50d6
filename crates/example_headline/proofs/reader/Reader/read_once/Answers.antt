-- the part that was read is kept, and where none was read nothing is; a refusal is told as it was
use Rattle.std.proofs.Common.{◌≡◌, ◌≢◌, ◌∷◌, ◌++◌, [], List, ℕ, arith, sym, ◌∙◌, ap, refl, subst}
use Rattle.std.proofs.Common.{take, drop, length}
use Rattle.std.specs.Prelude.{Ok, Err}
use Rattle.std.proofs.lemmas.List.{append-nil, take_at}
use Rattle.std.proofs.lemmas.Result.{err_from_is_err_and}
use Rattle.block_queue.specs.Seats.{key_of}
use Rattle.pipe_dev.specs.declared.answers.ReadAnswer.{ReadAnswer}
use Rattle.pipe_dev.specs.declared.answers.ReadAnswer.TheVariants as read
use Rattle.pipe_dev.specs.ReadCalls.{Reads, calling}
use Rattle.example_headline.proofs.CrewLemmas.{read_clear, read_on, read_stops, same_fault}
use Rattle.example_headline.proofs.CrewLemmas.{refusal_gets_nothing, refusal_is_no_answer, sees_end}
use Rattle.example_headline.proofs.CrewLemmas.{some_room, stops_for_memory, stops_same}
use Rattle.example_headline.proofs.reader.Reader.read_once.Goals as goal

pub returns-in_err-buffer-clause-stops : goal.returns-in_err-buffer-clause-stops
returns-in_err-buffer-clause-stops g c why is clear =
    let failed = err_from_is_err_and c.from_residual.result c.from_residual.ensures.1 in
    stops_for_memory _ _ failed.0 why failed.1 failed.2 is clear

pub returns-in_err-reserve-clause-stops : goal.returns-in_err-reserve-clause-stops
returns-in_err-reserve-clause-stops g c why is clear =
    let failed = err_from_is_err_and c.from_residual-in_err-reserve.result
    c.from_residual-in_err-reserve.ensures.1 in
    stops_for_memory _ _ failed.0 why failed.1 failed.2 is (record { clear = clear.clear })

pub returns-in_err-count : goal.returns-in_err-count
returns-in_err-count g c =
    let failed = err_from_is_err_and c.from_residual-in_err-count.result
    c.from_residual-in_err-count.ensures.1 in
    let room : c.as_mut_slice.result.now ≢ []
    = some_room c.as_mut_slice.result.now 4
    (c.as_mut_slice.ensures.len ∙ c.in_ok-buffer.ensures.len) (omega arith) in
    record {
      on = read_on c.args.self.now _ c.as_mut_slice.result.now (Err c.in_err-count.field-0.0)
          c.read.new.buffer room c.in_err-count.ensures.read c.in_err-count.ensures.end
          c.in_err-count.ensures.words
          (c.in_ok-reserve.ensures.items ∙ sym (append-nil c.args.self.now.got.items));
      clear = λ is. refusal_gets_nothing failed.0 (sym failed.1 ∙ is);
      end = λ is. refusal_is_no_answer failed.0 (sym failed.1 ∙ is);
      stops = λ why is clear.
          stops_same _ c.in_err-count.field-0.0 why
          (same_fault _ failed.0 c.in_err-count.field-0.0 why failed.1 failed.2 is)
          (read_stops c.args.self.now _ c.as_mut_slice.result.now c.in_err-count.field-0.0
          c.read.new.buffer c.in_err-count.ensures.read c.in_err-count.ensures.end
          c.in_err-count.ensures.words
          (λ bad. room (c.in_err-count.ensures.bad_count.0 bad))
          (λ owns foreign. (c.in_err-count.ensures.no_rendez room).0 foreign owns)
          (record { clear = clear.clear }));
      still = refl;
    }

pub returns-in-Got : goal.returns-in-Got
returns-in-Got g c =
    let piece : c.of.result ≡ take c.in-Got.count c.read.new.buffer =
    c.of.ensures
    ∙ (c.truncate.ensures.items
    ∙ ap (take c.in-Got.count)
    (take_at c.read.new.buffer (drop (length c.read.new.buffer) c.in_ok-buffer.buffer.items)
    c.in_ok-buffer.buffer.len (c.read.auto.buffer ∙ c.as_mut_slice.ensures.len))) in
    record {
      on = read_on c.args.self.now _ c.as_mut_slice.result.now (Ok (read.Got c.in-Got.count))
          c.read.new.buffer
          (some_room c.as_mut_slice.result.now 4
          (c.as_mut_slice.ensures.len ∙ c.in_ok-buffer.ensures.len) (omega arith))
          (subst (λ (answer : ReadAnswer).
          Reads (key_of c.args.self.now.end.queue) c.args.self.now.end.row
          (calling c.args.self.now.end c.args.self.now.proc c.as_mut_slice.result.now)
          (Ok answer) (calling c.read.new.self c.read.new.proc c.read.new.buffer))
          c.in-Got.is
          c.in_ok-count.ensures.read) c.in_ok-count.ensures.end c.in_ok-count.ensures.words
          (c.push_reserved.ensures.items
          ∙ (ap (λ (xs : List (List ℕ)). xs ++ c.of.result ∷ []) c.in_ok-reserve.ensures.items
          ∙ ap (λ (p : List ℕ). c.args.self.now.got.items ++ p ∷ []) piece));
      clear = λ is clear.
          read_clear c.args.self.now _ c.as_mut_slice.result.now c.in-Got.count c.read.new.buffer
          (subst (λ (answer : ReadAnswer).
          Reads (key_of c.args.self.now.end.queue) c.args.self.now.end.row
          (calling c.args.self.now.end c.args.self.now.proc c.as_mut_slice.result.now)
          (Ok answer) (calling c.read.new.self c.read.new.proc c.read.new.buffer))
          c.in-Got.is c.in_ok-count.ensures.read) c.in_ok-count.ensures.end
          c.in_ok-count.ensures.words clear;
      end = λ is. absurd (cc);
      stops = λ why is. absurd (cc);
      still = refl;
    }

pub returns-in-End : goal.returns-in-End
returns-in-End g c =
    let old = c.args.self.now in
    let reads = subst (λ (answer : ReadAnswer).
    Reads (key_of old.end.queue) old.end.row
    (calling old.end old.proc c.as_mut_slice.result.now) (Ok answer)
    (calling c.read.new.self c.read.new.proc c.read.new.buffer)) c.in-End.is
    c.in_ok-count.ensures.read in
    record {
      on = read_on old _ c.as_mut_slice.result.now (Ok read.End) c.read.new.buffer
          (some_room c.as_mut_slice.result.now 4
          (c.as_mut_slice.ensures.len ∙ c.in_ok-buffer.ensures.len) (omega arith)) reads
          c.in_ok-count.ensures.end c.in_ok-count.ensures.words
          (c.in_ok-reserve.ensures.items ∙ sym (append-nil old.got.items));
      clear = λ is. absurd (cc);
      end = λ is clear.
          sees_end old _ c.as_mut_slice.result.now c.read.new.buffer reads
          c.in_ok-count.ensures.end c.in_ok-count.ensures.words clear;
      stops = λ why is. absurd (cc);
      still = refl;
    }
