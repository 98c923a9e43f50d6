-- A writer and bytes that end the line are the words of the write; where one of them is not there,
-- no line asks for a write.
use Rattle.std.proofs.Common.{[], ◌∷◌, codes, refl, arith}
use Rattle.scripts.specs.PipeScript.{write_of}
use Rattle.scripts.proofs.OnePassLemmas.{after_number, no_line, none_before_space}
use Rattle.scripts.proofs.OnePassLemmas.{none_after_number}
use Rattle.scripts.proofs.PipeLineLemmas.{bytes_line, dash_line, no_bytes_asked, write_of-high}
use Rattle.scripts.proofs.PipeLineLemmas.{write_of-wrong}
use Rattle.scripts.proofs.PipeLineLemmas.{writes_of}
use Rattle.scripts.proofs.pipe_line.write_at.Goals as goal

pub returns-in_default : goal.returns-in_default
returns-in_default c =
    none_before_space write_of _ c.in_default.ensures (λ word. refl) write_of-wrong

pub returns-then-writer-ge-MAX_WRITERS : goal.returns-then-writer-ge-MAX_WRITERS
returns-then-writer-ge-MAX_WRITERS c =
    let writer = c.in-Some.ensures in
    none_after_number write_of _ _ _ writer
    (λ words rest begins fits.
    write_of-high writer.word words c.in-Some.writer writer.spells
    (omega (arith, c.if-writer-ge-MAX_WRITERS.true)))

pub returns-in-Some-after_word : goal.returns-in-Some-after_word
returns-in-Some-after_word c =
    let writer = c.in-Some.ensures in
    record {
      words = writer.word ∷ codes "-" ∷ [];
      begins = after_number _ _ _ _ _ writer (dash_line _ _ c.in-Some-after_word.ensures);
      asks = writes_of writer.word [] (codes "-") c.in-Some.writer writer.spells (omega arith)
          refl;
    }

pub returns-in_default-next_line : goal.returns-in_default-next_line
returns-in_default-next_line c =
    let writer = c.in-Some.ensures in
    none_after_number write_of _ _ _ writer
    (no_line (λ words. write_of (writer.word ∷ words)) _ c.in_default-next_line.ensures.lines)

pub returns-then-word-gt-MAX_LINE : goal.returns-then-word-gt-MAX_LINE
returns-then-word-gt-MAX_LINE c =
    let writer = c.in-Some.ensures in
    none_after_number write_of _ _ _ writer
    (no_bytes_asked writer.word _ _ c.in-Some-next_line.rest.now c.in-Some-next_line.ensures.lines
    (λ fits. absurd (omega (arith, fits, c.if-word-gt-MAX_LINE.true))))

pub returns-in_default-2 : goal.returns-in_default-2
returns-in_default-2 c =
    let writer = c.in-Some.ensures in
    none_after_number write_of _ _ _ writer
    (no_bytes_asked writer.word _ _ c.in-Some-next_line.rest.now
    c.in-Some-next_line.ensures.lines
    (λ fits. rw c.in_default-2.is at c.in_ok-bytes.ensures))

pub returns : goal.returns
returns c =
    let writer = c.in-Some.ensures in
    let word = c.in-Some-next_line.word.now in
    let bytes = c.in-Some-2.bytes.now in
    let read = rw c.in-Some-2.is at c.in_ok-bytes.ensures in
    record {
      words = writer.word ∷ word ∷ [];
      begins = after_number _ _ _ _ _ writer
          (bytes_line _ word _ bytes c.in-Some-next_line.ensures.lines
          c.in-Some-next_line.ensures.cut read);
      asks = writes_of writer.word bytes word c.in-Some.writer writer.spells (omega arith)
          read;
    }
