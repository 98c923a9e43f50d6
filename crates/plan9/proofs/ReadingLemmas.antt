-- What a reader knows of a piece that it got, and of the pieces with which it fills a buffer.
use Rattle.std.proofs.Common.{◌≡◌, ◌≢◌, ◌≤◌, ◌+◌, ◌-◌, ◌++◌, ℕ, suc, List, length, take, drop}
use Rattle.std.proofs.Common.{Result, Ok, Err, Option, Some, None, refl, ap, ◌∙◌, subst, arith}
use Rattle.std.proofs.Common.{length-append, length-drop}
use borrow.Rule.Slice.PartMut.{mid_of, put_mid}
use Rattle.std.proofs.lemmas.List.{take_all, drop_all, append-nil, length-take-le}
use Rattle.sync_base.specs.declared.fault.Fault.{Fault}
use Rattle.rendez_words.specs.Process.{Process}
use Rattle.block_queue.specs.declared.view.Key.{Key}
use Rattle.pipe_dev.specs.declared.answers.ReadAnswer.TheVariants as read
use Rattle.pipe_dev.specs.declared.row.Row.{Row}
use Rattle.pipe_dev.specs.Filling.{IsFilledBy, Taker}
use Rattle.pipe_dev.specs.Parts.{Part, bytes_of}
use Rattle.pipe_dev.specs.ReadCalls.{AsksForBytes, Calling, Reads}
use Rattle.pipe_dev.specs.Rendezes.{reader_rendez}
use Rattle.pipe_dev.proofs.AskedLemmas.{LastAsked, last_asked}
use Rattle.pipe_dev.specs.Rounds.{Rounds}
use Rattle.plan9.specs.Callers.{Reader, IsSameReader}
use Rattle.plan9.specs.Readings.{Filling, FillsUp, GoesOn, LiesIn, ReadsAfter}
use Rattle.plan9.specs.Readings.{ReadsPiece, filling, read_answer}

-- what was read lies in the buffer
got_fits : (key : Key) (row : Row) (old : Calling) (count : ℕ) (new : Calling)
    → Reads key row old (Ok (read.Got count)) new → count ≤ length new.seat.buffer
got_fits key row old count new reads =
    omega (
      arith,
      filled.count_is,
      ap length filled.bytes_are,
      length-append (bytes_of parts) (drop count last.before.seat.buffer),
    )
  where
    last : LastAsked (AsksForBytes key row) (reader_rendez row) (read.Got count) new.seat
    last =
        last_asked (AsksForBytes key row) (reader_rendez row) old (read.Got count) new reads

    parts : List Part
    parts = last.asked.tried.fills.filling.parts

    filled : IsFilledBy (bytes_of parts) last.before.seat.buffer new.seat.buffer count
    filled = last.asked.tried.fills.filled

-- a piece lies in the buffer into which it was read
pub piece_lies : (key : Key) (row : Row) (old : Calling) (answer : Result (Option ℕ) Fault)
    (taker : Taker) (process : Process) (buffer : List ℕ)
    → Reads key row old (read_answer answer)
    (record { seat = record { taker = taker; buffer = buffer }; process = process })
    → LiesIn buffer answer
piece_lies key row old (Ok (Some count)) taker process buffer reads =
    got_fits key row old count
    (record { seat = record { taker = taker; buffer = buffer }; process = process }) reads
piece_lies key row old (Ok None) taker process buffer reads = tt
piece_lies key row old (Err fault) taker process buffer reads = tt

-- ---- until a buffer is full

-- some pieces were read, one after the other, and lie in the buffer
pub record SoFar (start now : Filling) : Type 0 where
  -- what is filled
  pub within : now.count ≤ length now.buffer
  -- by the same reader
  pub same : IsSameReader start.reader now.reader
  -- in so many reads
  pub times : ℕ
  -- each after the one before it
  pub rounds : Rounds GoesOn times start now

-- what is left of the buffer, as the code lends it
abbrev pub rest_of : Filling → List ℕ
rest_of now = mid_of now.count (length now.buffer - now.count) now.buffer

-- the buffer once it has that back
abbrev pub back_of : Filling → List ℕ → List ℕ
back_of now rest = put_mid now.count (length now.buffer - now.count) now.buffer rest

-- what is left is all of the buffer after what is filled
rest_all : (count : ℕ) (buffer : List ℕ)
    → mid_of count (length buffer - count) buffer ≡ drop count buffer
rest_all count buffer =
    let size = length-drop count buffer in
    take_all (length buffer - count) (drop count buffer) (omega (arith, size))

back_all : (count : ℕ) (buffer rest : List ℕ)
    → put_mid count (length buffer - count) buffer rest ≡ take count buffer ++ rest
back_all count buffer rest =
    let size = length-drop count buffer in
    ap (λ xs. take count buffer ++ xs)
    (ap (λ ys. rest ++ ys)
    (drop_all (length buffer - count) (drop count buffer) (omega (arith, size)))
    ∙ append-nil rest)

-- the same reader, over two calls
same_on : (old between new : Reader) → IsSameReader old between → IsSameReader between new
    → IsSameReader old new
same_on old between new first second =
    record {
      end_is = record {
        queue = second.end_is.queue ∙ first.end_is.queue;
        row = second.end_is.row ∙ first.end_is.row;
      };
      words_are = second.words_are ∙ first.words_are;
    }

-- a read into what is left of the buffer was answered so
reads_after : (now : Filling) (answer : Result (Option ℕ) Fault) (reader : Reader)
    (rest : List ℕ) → ReadsPiece now.reader (rest_of now) answer reader rest
    → ReadsAfter now answer reader (back_of now rest)
reads_after now answer reader rest piece =
    record {
      rest = rest;
      read = subst (λ (xs : List ℕ). ReadsPiece now.reader xs answer reader rest)
          (rest_all now.count now.buffer) piece;
      buffer_is = back_all now.count now.buffer rest;
    }

-- one piece more
pub one_more : (start now : Filling) (answer : Result (Option ℕ) Fault) (more : ℕ)
    (reader : Reader) (rest : List ℕ) → SoFar start now → answer ≡ Ok (Some more)
    → ReadsPiece now.reader (rest_of now) answer reader rest
    → SoFar start (filling reader (back_of now rest) (now.count + more))
one_more start now answer more reader rest so_far is piece =
    let reads = subst
    (λ (a : Result (Option ℕ) Fault). ReadsAfter now a reader (back_of now rest))
    is (reads_after now answer reader rest piece) in
    let lies : more ≤ length rest =
    subst (λ (a : Result (Option ℕ) Fault). LiesIn rest a) is piece.fits in
    record {
      within = omega (
        arith,
        lies,
        so_far.within,
        ap length (back_all now.count now.buffer rest),
        length-append (take now.count now.buffer) rest,
        length-take-le now.count now.buffer so_far.within,
      );
      same = same_on start.reader now.reader reader so_far.same piece.same;
      times = suc so_far.times;
      rounds = record {
        between = now;
        rounds = so_far.rounds;
        last = record { more = more; reads = reads; count_is = refl };
      };
    }

-- no piece came: the end
pub at_the_end : (start now : Filling) (answer : Result (Option ℕ) Fault) (reader : Reader)
    (rest : List ℕ) → SoFar start now → answer ≡ Ok None
    → ReadsPiece now.reader (rest_of now) answer reader rest → start.count ≡ 0
    → now.count ≢ length now.buffer
    → FillsUp start.reader start.buffer (Err (record { count = now.count; fault = None })) reader
    (back_of now rest)
at_the_end start now answer reader rest so_far is piece none room =
    record {
      same = same_on start.reader now.reader reader so_far.same piece.same;
      times = so_far.times;
      before = now;
      pieces = subst
          (λ (n : ℕ). Rounds GoesOn so_far.times (filling start.reader start.buffer n) now)
          none so_far.rounds;
      ended = record {
        left = omega (arith, so_far.within, room);
        count_is = refl;
        reads = subst
            (λ (a : Result (Option ℕ) Fault). ReadsAfter now a reader (back_of now rest))
            is (reads_after now answer reader rest piece);
      };
    }

-- or a fault
pub at_a_fault : (start now : Filling) (answer : Result (Option ℕ) Fault) (fault : Fault)
    (reader : Reader) (rest : List ℕ) → SoFar start now → answer ≡ Err fault
    → ReadsPiece now.reader (rest_of now) answer reader rest → start.count ≡ 0
    → now.count ≢ length now.buffer
    → FillsUp start.reader start.buffer (Err (record { count = now.count; fault = Some fault }))
    reader (back_of now rest)
at_a_fault start now answer fault reader rest so_far is piece none room =
    record {
      same = same_on start.reader now.reader reader so_far.same piece.same;
      times = so_far.times;
      before = now;
      pieces = subst
          (λ (n : ℕ). Rounds GoesOn so_far.times (filling start.reader start.buffer n) now)
          none so_far.rounds;
      ended = record {
        left = omega (arith, so_far.within, room);
        count_is = refl;
        reads = subst
            (λ (a : Result (Option ℕ) Fault). ReadsAfter now a reader (back_of now rest))
            is (reads_after now answer reader rest piece);
      };
    }

-- the buffer is full
pub is_full : (start now : Filling) → SoFar start now → start.count ≡ 0
    → now.count ≡ length now.buffer
    → FillsUp start.reader start.buffer (Ok tt) now.reader now.buffer
is_full start now so_far none full =
    record {
      same = so_far.same;
      times = so_far.times;
      before = now;
      pieces = subst
          (λ (n : ℕ). Rounds GoesOn so_far.times (filling start.reader start.buffer n) now)
          none so_far.rounds;
      ended = ap (λ (n : ℕ). filling now.reader now.buffer n) full;
    }
