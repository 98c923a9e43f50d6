-- Histories in which a number that was told is below those of the wakeups that follow, and broken
-- ones in which it is not: each against one row.
use Rattle.std.proofs.Common.{◌≡◌, ◌<◌, List, [], ◌∷◌, refl, arith}
use Rattle.sync_base.specs.declared.limits.TheConstants.{LAST_WRITE}
use Rattle.block_queue.specs.declared.entry.Entry.{Entry}
use Rattle.block_queue.specs.declared.entry.Entry.TheVariants as entry
use Rattle.block_queue.specs.History.{IsNotYet, IsFull}
use Rattle.block_queue.specs.Meaning.{queue_after}
use Rattle.pipe_dev.specs.WaitLaws.{IsUnread, AreReadersWokenAbove, AreWritersWokenAbove}
use Rattle.pipe_dev.proofs.AboveLemmas.{readers_above, writers_above}
use Rattle.pipe_dev.proofs.WorkedEntries.{a, b, tight, IsRun, seen_3, seen_5}

-- ---- the reader

-- the reader is told 0, and then the first write stands with the number 1
the_first_write_wakes_its_reader : IsRun tight seen_3 → AreReadersWokenAbove seen_3
the_first_write_wakes_its_reader run = readers_above tight seen_3 run

-- a queue that tells its reader the last number of all: no write would wake it
abbrev told_the_last : List Entry
told_the_last = entry.Stood 0 1 ∷ entry.Taken 0 a 1 ∷ entry.NotYet LAST_WRITE ∷ []

a_reader_told_the_last_number_sleeps_on : ¬ AreReadersWokenAbove told_the_last
a_reader_told_the_last_number_sleeps_on above =
    let high : LAST_WRITE < 1 = above [] (entry.Taken 0 a 1 ∷ []) LAST_WRITE 0 1 refl tt in
    omega (arith, high)

no_queue_tells_the_last_number : ¬ IsNotYet 0 (queue_after tight []) LAST_WRITE
no_queue_tells_the_last_number not_yet =
    let high : LAST_WRITE ≡ 0 = not_yet.number_is in omega (arith, high)

-- the number of the write that it waits for is too high already
a_reader_told_the_next_number_sleeps_on :
    ¬ AreReadersWokenAbove (entry.Stood 0 1 ∷ entry.Taken 0 a 1 ∷ entry.NotYet 1 ∷ [])
a_reader_told_the_next_number_sleeps_on above =
    let same : 1 < 1 = above [] (entry.Taken 0 a 1 ∷ []) 1 0 1 refl tt in omega (arith, same)

-- so with a write that was accepted before the reader was told to wait, and stands only then
a_reader_that_waits_for_it_to_stand_sleeps_on :
    ¬ AreReadersWokenAbove (entry.Stood 0 1 ∷ entry.NotYet 1 ∷ entry.Taken 0 a 1 ∷ [])
a_reader_that_waits_for_it_to_stand_sleeps_on above =
    let same : 1 < 1 = above (entry.Taken 0 a 1 ∷ []) [] 1 0 1 refl tt in omega (arith, same)

-- but nobody waits for a write that was read
what_was_read_is_not_waited_for : ¬ IsUnread 1 (entry.Block 0 a 1 ∷ entry.Taken 0 a 1 ∷ [])
what_was_read_is_not_waited_for unread = unread.0 refl

what_is_next_is_waited_for : IsUnread 2 (entry.Block 0 a 1 ∷ entry.Taken 0 a 1 ∷ [])
what_is_next_is_waited_for = (λ same. omega (arith, same), tt)

-- ---- a writer

-- a writer is told 0, and then the first write is taken out
the_first_read_wakes_the_writer : IsRun tight seen_5 → AreWritersWokenAbove seen_5
the_first_read_wakes_the_writer run = writers_above tight seen_5 run

-- a queue that tells its writer the last number of all
a_writer_told_the_last_number_sleeps_on :
    ¬ AreWritersWokenAbove (entry.Block 0 a 1 ∷ entry.Full 0 b LAST_WRITE ∷ seen_3)
a_writer_told_the_last_number_sleeps_on above =
    let high : LAST_WRITE < 1 = above seen_3 [] 0 0 LAST_WRITE 1 b a refl in omega (arith, high)

no_queue_tells_a_writer_the_last_number : ¬ IsFull 0 (queue_after tight seen_3) LAST_WRITE
no_queue_tells_a_writer_the_last_number full =
    let high : LAST_WRITE ≡ 0 = full.number_is in omega (arith, high)
