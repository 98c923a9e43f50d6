-- What no tally counts, no report says and no writer does: each against one row of a definition.
use Rattle.std.proofs.Common.{◌≡◌, ◌≢◌, ◌⊎◌, ◌+◌, ℕ, zero, suc, true, false, List, []}
use Rattle.std.proofs.Common.{◌∷◌, ◌≤◌, length, replicate, inl, inr, ap, refl, subst, arith}
use Rattle.std.specs.Prelude.{Some, Ok, OnOk, slice_get, slice_set, vec_len}
use Rattle.sync_base.specs.declared.threads_opts.ThreadsOpts.{ThreadsOpts}
use Rattle.crew.specs.declared.crew.Writer.{Writer}
use Rattle.crew.specs.declared.opts.Report.{Report}
use Rattle.crew.specs.declared.tally.Tally.{Tally}
use Rattle.crew.specs.Message.{message_of}
use Rattle.crew.specs.Tally.{AreOfOneRun, TakesNext, IsNewTally, IsTallyOf, CountsNext}
use Rattle.crew.specs.Tally.{ReportsTally}
use Rattle.crew.specs.Threads.{IsReportOf}
use Rattle.crew.specs.Writing.{IsReadyWriter, HasEnded}

-- ---- a piece

module _ (piece : List ℕ) where
  -- a piece of nobody, of a writer that has no message left, or that is no message
  of_nobody : (new : List ℕ) → TakesNext 1 16 [] new piece → ⊥
  of_nobody new takes = let expected = takes.expected in cc

  of_a_writer_that_has_none : (old new : List ℕ) → TakesNext 0 16 old new piece → ⊥
  of_a_writer_that_has_none old new takes = let within = takes.within in omega (arith, within)

  no_message : (old new : List ℕ)
      → ((writer number : ℕ) → piece ≢ message_of 16 writer number)
      → TakesNext 1 16 old new piece → ⊥
  no_message old new none takes = none takes.writer takes.number takes.whole

  -- the same message is the next one again
  is_next_again : TakesNext 1 16 (0 ∷ []) (0 ∷ []) piece → ⊥
  is_next_again takes = by takes.writer takes.number takes.expected takes.next
    where
      first : List ℕ → ℕ
      first [] = 0
      first (n ∷ ns) = n

      by : (writer number : ℕ) → slice_get (0 ∷ []) writer ≡ Some number
          → 0 ∷ [] ≡ slice_set (0 ∷ []) writer (number + 1) → ⊥
      by zero number expected next = let is : 0 ≡ number + 1 = ap first next in omega (arith, is)
      by (suc writer) number expected next = cc

-- ---- a tally

module _ (old new : Tally) (piece : List ℕ) where
  -- what is out of order is counted as in order again, or is no message of a writer
  in_order_again : old.in_order ≡ false → CountsNext old new piece → ⊥
  in_order_again out counts = let before = counts.before in cc

  of_no_writer : old.expected.each ≡ 0 → CountsNext old new piece → ⊥
  of_no_writer none counts = let within = counts.next.within in omega (arith, none, within)

  -- a piece is not counted, or its bytes are not
  not_counted : new.writes ≡ old.writes → CountsNext old new piece → ⊥
  not_counted same counts = let writes = counts.writes in omega (arith, same, writes)

  bytes_not_counted : new.bytes ≡ old.bytes + length piece + 1 → CountsNext old new piece → ⊥
  bytes_not_counted more counts = let bytes = counts.bytes in omega (arith, more, bytes)

module _ (old new : Tally) where
  -- a count of a run goes on as one of another: of fewer writers, or of more messages of each
  goes_on_without_a_writer : length new.expected.next.items + 1 ≡ length old.expected.next.items
      → AreOfOneRun old new → ⊥
  goes_on_without_a_writer less same = let writers = same.writers in omega (arith, less, writers)

  goes_on_with_more_messages : new.expected.each ≡ old.expected.each + 1 → AreOfOneRun old new → ⊥
  goes_on_with_more_messages more same = let each = same.each in omega (arith, more, each)

  goes_on_with_longer_messages : new.expected.size ≡ old.expected.size + 1
      → AreOfOneRun old new → ⊥
  goes_on_with_longer_messages more same = let size = same.size in omega (arith, more, size)

  goes_on_with_a_message_more_in_all : new.most ≡ old.most + 1 → AreOfOneRun old new → ⊥
  goes_on_with_a_message_more_in_all more same = let most = same.most in omega (arith, more, most)

module _ (opts : ThreadsOpts) (tally : Tally) where
  -- a tally of two writers counts for three, or one message more of each, or longer ones
  counts_for_a_writer_less : length tally.expected.next.items + 1 ≡ opts.writers
      → IsTallyOf opts tally → ⊥
  counts_for_a_writer_less less is = let writers = is.writers in omega (arith, less, writers)

  takes_a_message_more_of_each : tally.expected.each ≡ opts.writes + 1 → IsTallyOf opts tally → ⊥
  takes_a_message_more_of_each more is = let each = is.each in omega (arith, more, each)

  takes_longer_messages : tally.expected.size ≡ opts.size + 1 → IsTallyOf opts tally → ⊥
  takes_longer_messages more is = let size = is.size in omega (arith, more, size)

module _ (tally : Tally) where
  -- a new tally begins with the second message of a writer
  begins_with_the_second : tally.expected.next.items ≡ 1 ∷ [] → IsNewTally tally → ⊥
  begins_with_the_second second new =
      absurd (by tally.expected.next.items second new.next)
    where
      by : (next : List ℕ) → next ≡ 1 ∷ [] → next ≡ replicate (length next) 0 → ⊥
      by next is zeros =
          let e : 1 ∷ [] ≡ 0 ∷ [] = subst (λ (l : List ℕ). l ≡ replicate (length l) 0) is zeros in
          cc

  -- a new tally has counted something
  counted_before : tally.writes ≡ 1 → IsNewTally tally → ⊥
  counted_before one new = let writes = new.writes in omega (arith, one, writes)

  read_before : tally.bytes ≡ 1 → IsNewTally tally → ⊥
  read_before one new = let bytes = new.bytes in omega (arith, one, bytes)

  out_of_order_before : tally.in_order ≡ false → IsNewTally tally → ⊥
  out_of_order_before out new = let in_order = new.in_order in cc

-- ---- a report

module _ (tally : Tally) (report : Report) where
  -- it reports more writers, messages or bytes than were counted, or an order that was not
  reports_another_writer : report.writers ≡ 3 → ReportsTally 2 tally report → ⊥
  reports_another_writer three says = let writers = says.writers_is in omega (arith, three, writers)

  reports_another_message : report.writes ≡ tally.writes + 1 → ReportsTally 2 tally report → ⊥
  reports_another_message more says = let writes = says.writes in omega (arith, more, writes)

  reports_another_byte : report.bytes ≡ tally.bytes + 1 → ReportsTally 2 tally report → ⊥
  reports_another_byte more says = let bytes = says.bytes in omega (arith, more, bytes)

  reports_an_order : tally.in_order ≡ false → report.in_order ≡ true
      → ReportsTally 2 tally report → ⊥
  reports_an_order out order says = let in_order = says.in_order in cc

abbrev two_of_three : ThreadsOpts
two_of_three = record { writers = 2; writes = 3; size = 16 }

-- a report of one writer where two were asked for, of half a message, and of a seventh of six
abbrev report_of : ℕ → ℕ → ℕ → Report
report_of writers writes bytes =
    record { writers = writers; writes = writes; bytes = bytes; in_order = true }

of_one_writer : IsReportOf two_of_three (report_of 1 1 16) → ⊥
of_one_writer is = let writers : 1 ≡ 2 = is.writers in omega (arith, writers)

of_half_a_message : IsReportOf two_of_three (report_of 2 1 8) → ⊥
of_half_a_message is = let whole : 8 ≡ 16 = is.whole refl in omega (arith, whole)

of_a_seventh_message : IsReportOf two_of_three (report_of 2 7 112) → ⊥
of_a_seventh_message is = let most : 7 ≤ 6 = is.most refl in omega (arith, most)

of_six_messages : IsReportOf two_of_three (report_of 2 6 96)
of_six_messages =
    record { writers = refl; whole = λ yes. refl; most = λ yes. omega arith }

-- ---- a writer

module _ (opts : ThreadsOpts) (writer : Writer) where
  -- it has another's number, another count of messages or size, wrote one before, or was refused
  has_anothers_number : writer.number ≢ writer.end.writer → IsReadyWriter opts writer → ⊥
  has_anothers_number other ready = other ready.number

  has_one_message_less : writer.writes + 1 ≡ opts.writes → IsReadyWriter opts writer → ⊥
  has_one_message_less less ready = let writes = ready.writes in omega (arith, less, writes)

  has_another_size : vec_len writer.message ≡ opts.size + 1 → IsReadyWriter opts writer → ⊥
  has_another_size more ready = let size = ready.size in omega (arith, more, size)

  wrote_one_before : writer.done ≡ 1 → IsReadyWriter opts writer → ⊥
  wrote_one_before one ready = let none = ready.none in omega (arith, one, none)

  was_refused_before : writer.wrote ≢ Ok tt → IsReadyWriter opts writer → ⊥
  was_refused_before other ready = other ready.well

  -- it stops before its last message, though neither the gate stops it nor a write was refused
  stops_early : {G : Type 0} (may_stop : G → ℕ → ℕ → Type 0) (gate : G) → writer.wrote ≡ Ok tt
      → writer.done + 1 ≡ writer.writes → (may_stop gate writer.number writer.done → ⊥)
      → HasEnded may_stop gate writer → ⊥
  stops_early may_stop gate well left free ended =
      by (subst (λ wrote. OnOk wrote ((writer.done ≡ writer.writes)
      ⊎ may_stop gate writer.number writer.done)) well ended)
    where
      by : (writer.done ≡ writer.writes) ⊎ may_stop gate writer.number writer.done → ⊥
      by (inl all) = omega (arith, left, all)
      by (inr stopped) = free stopped
