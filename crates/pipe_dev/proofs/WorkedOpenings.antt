-- A new pipe worked out by its definitions alone: three writers in each direction, with the
-- kernel's Rendez from number 10 on.
use Rattle.std.proofs.Common.{◌≡◌, ◌≢◌, ◌+◌, ℕ, List, [], ◌∷◌, ap, refl, arith}
use Rattle.histories.specs.History.{IsPast}
use Rattle.sync_base.specs.declared.mode.Mode.TheVariants.{Message, Stream}
use Rattle.rendez_words.specs.declared.words.Words.{Words}
use Rattle.rendez_words.specs.Words.{rendez_of}
use Rattle.block_queue.specs.declared.entry.Entry.{Entry}
use Rattle.block_queue.specs.declared.queue.Queue.{Queue}
use Rattle.block_queue.specs.declared.view.Key.{Key}
use Rattle.block_queue.specs.Seats.{key_of}
use Rattle.pipe_dev.specs.declared.closing.Held.{Held}
use Rattle.pipe_dev.specs.declared.pipe.Opened.{Opened}
use Rattle.pipe_dev.specs.declared.row.Row.{Row}
use Rattle.pipe_dev.specs.Ends.{ReadSide, WriteSide}
use Rattle.pipe_dev.specs.Finishing.{FinishesEnds}
use Rattle.pipe_dev.specs.Openings.{Opens, OpensStream, OwnsRows, AreNewEnds, HasEachRendez}
use Rattle.pipe_dev.specs.Openings.{key_for, rendez_for}
use Rattle.pipe_dev.specs.Parts.{Part}
use Rattle.pipe_dev.specs.Rendezes.{OwnsRow, reader_rendez, writer_rendez}

-- it takes eight Rendez
takes_eight : rendez_for 3 ≡ 8
takes_eight = refl

new_key : key_for 16 3 ≡ record { limit = 16; first = 0; writers = 3 }
new_key = refl

module _ (opened : Opened) (opens : Opens 16 3 10 opened) where
  -- both directions hold 16 writes
  there_limit : (key_of opened.pipe.there).limit ≡ 16
  there_limit = ap (λ (key : Key). key.limit) opens.there_key

  back_limit : (key_of opened.pipe.back).limit ≡ 16
  back_limit = ap (λ (key : Key). key.limit) opens.back_key

  -- the reader there waits on 10, and its last writer on 13; the reader back on 14, and its last
  -- writer on 17
  reader_there : reader_rendez opened.start.there.row ≡ record { 0 = 10 }
  reader_there = ap (λ (n : ℕ). record { 0 = n }) opens.there_first

  writer_there : writer_rendez opened.start.there.row 2 ≡ record { 0 = 13 }
  writer_there = ap (λ (n : ℕ). record { 0 = n + 1 + 2 }) opens.there_first

  reader_back : reader_rendez opened.start.back.row ≡ record { 0 = 14 }
  reader_back = ap (λ (n : ℕ). record { 0 = n }) opens.back_first

  writer_back : writer_rendez opened.start.back.row 2 ≡ record { 0 = 17 }
  writer_back = ap (λ (n : ℕ). record { 0 = n + 1 + 2 }) opens.back_first

  -- so no kernel of 17 Rendez has its rows
  no_rows_of_17 : (words : Words) → rendez_of words ≡ 17 → opened.start.back.row.writers ≡ 3
      → ¬ OwnsRows words opened
  no_rows_of_17 words few three rows =
      let first = opens.back_first in
      let back = rows.back in
      absurd (omega (arith, few, three, first, back))

  -- and none of 13 those there
  no_rows_of_13 : (words : Words) → rendez_of words ≡ 13 → opened.start.there.row.writers ≡ 3
      → ¬ OwnsRows words opened
  no_rows_of_13 words few three rows =
      let first = opens.there_first in
      let there = rows.there in
      absurd (omega (arith, few, three, first, there))

-- ---- what no new pipe is

module _ (opened : Opened) where
  -- a pipe of messages whose reads go on there from write to write
  there_it_goes_on : Opens 16 3 10 opened → opened.start.there.row.mode ≡ Stream → ⊥
  there_it_goes_on opens stream = let mode = opens.there_mode in cc

  -- or back
  back_it_goes_on : Opens 16 3 10 opened → opened.start.back.row.mode ≡ Stream → ⊥
  back_it_goes_on opens stream = let mode = opens.back_mode in cc

  -- a stream whose reads stop at the end of a write
  there_a_stream_stops : OpensStream 16 3 10 opened → opened.start.there.row.mode ≡ Message → ⊥
  there_a_stream_stops opens message = let mode = opens.there_mode in cc

-- ---- what no new ends are

module _ (queue : Queue) (row : Row) (read : ReadSide) (write : WriteSide) where
  -- the reader is of another direction
  ends_of_another : read.queue ≢ queue → AreNewEnds queue row read (write ∷ []) → ⊥
  ends_of_another other new = other new.queue_is

  -- the reader has other Rendez
  ends_of_another_row : read.row ≢ row → AreNewEnds queue row read (write ∷ []) → ⊥
  ends_of_another_row other new = other new.row_is

  -- a kernel that lacks a Rendez of the reader, or of the writer
  a_kernel_without_the_row : (words : Words) → ¬ OwnsRow words read.row
      → ¬ HasEachRendez words read (write ∷ [])
  a_kernel_without_the_row words none has = none has.reader

  a_kernel_without_the_writers_row : (words : Words) → ¬ OwnsRow words write.row
      → ¬ HasEachRendez words read (write ∷ [])
  a_kernel_without_the_writers_row words none has = none has.writers.0

-- ---- what no finish is

-- a writer has seen what the history of all ends has not
a_writer_saw_more : (read : ReadSide) (parts : List Part) (write : WriteSide) (held : Held)
    → ((history : List Entry) → IsPast write.account.seen history → ⊥)
    → FinishesEnds read parts (write ∷ []) held → ⊥
a_writer_saw_more read parts write held none ends = none ends.finishes.history ends.writers_seen.0
