-- Where a ring of sixteen places keeps what, worked out by the definitions alone.
use Rattle.std.proofs.Common.{◌≡◌, refl, true}
use Rattle.block_queue.specs.declared.places.TheConstants.{MARK}
use Rattle.block_queue.specs.History.{opening_state}
use Rattle.block_queue.specs.Places.{place_of, lap_of, sequence_of, ring_words, free_word}
use Rattle.block_queue.specs.Places.{stored_word, tail_word}

-- a line of eight words for the tail, and two words for each place after it
how_many_words : ring_words 16 ≡ 40
how_many_words = refl

word_of_the_first_place : sequence_of 0 ≡ 8
word_of_the_first_place = refl

word_of_the_last_place : sequence_of 15 ≡ 38
word_of_the_last_place = refl

-- write 35 is kept in place 3 of lap 2, as write 51 is a lap later
place_of_write_35 : place_of 16 35 ≡ 3
place_of_write_35 = refl

place_a_lap_later : place_of 16 51 ≡ 3
place_a_lap_later = refl

lap_of_write_35 : lap_of 16 35 ≡ 2
lap_of_write_35 = refl

-- what the word of its place is while it is free for the write, while the write stands there, and
-- when it was read
free_for_write_35 : free_word 16 35 ≡ 4
free_for_write_35 = refl

write_35_stands : stored_word 16 35 ≡ 5
write_35_stands = refl

free_a_lap_later : free_word 16 51 ≡ 6
free_a_lap_later = refl

-- the tail of a new queue, and of one that was hung up before any write
tail_of_a_new_queue : tail_word (opening_state 16).pipe ≡ 0
tail_of_a_new_queue = refl

tail_of_a_hung_queue : tail_word (record (opening_state 16).pipe { hung = true }) ≡ MARK
tail_of_a_hung_queue = refl
