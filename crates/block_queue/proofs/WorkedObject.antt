-- Calls on a sequential queue worked out by the definitions alone, and answers that come too early.
use Rattle.std.proofs.Common.{◌≡◌, ℕ, true, false, List, [], ◌∷◌, Some, None, refl}
use Rattle.kernel_lock.specs.declared.view.Operation.{Operation}
use Rattle.sync_base.specs.declared.limits.TheConstants.{LAST_WRITE}
use Rattle.block_queue.specs.declared.entry.Entry.TheVariants.{Taken, Stood, Full, Hungup, Worn}
use Rattle.block_queue.specs.declared.entry.Entry.TheVariants.{Block, NotYet, End, Hung}
use Rattle.block_queue.specs.declared.queue_object.QueueCall.{QueueCall}
use Rattle.block_queue.specs.declared.queue_object.QueueCall.TheVariants.{Put, Take, Hang}
use Rattle.block_queue.specs.declared.queue_object.QueueReply.{QueueReply}
use Rattle.block_queue.specs.declared.queue_object.QueueReply.TheVariants as reply
use Rattle.block_queue.specs.History.{QueueState, opening_state, after_entry}
use Rattle.block_queue.specs.Laws.{IsFirst, queue_history}
use Rattle.block_queue.specs.QueueObject.{Contents, new_kept, reply_to, kept_after, named_by}

abbrev a : List ℕ
a = 97 ∷ []

abbrev b : List ℕ
b = 98 ∷ []

abbrev served : ℕ → QueueCall → QueueReply → Operation QueueCall QueueReply
served by call answer = record { by = by; request = call; reply = answer }

-- what a queue of one place keeps with one block, and hung up
abbrev kept_full : Contents
kept_full = kept_after (new_kept 1 0) (Put 0 a)

abbrev kept_hung : Contents
kept_hung = kept_after kept_full Hang

-- ---- the answers of a run, and the first that applies

first_is_taken : reply_to (new_kept 1 0) (Put 0 a) ≡ reply.Taken 1
first_is_taken = refl

second_finds_no_room : reply_to kept_full (Put 1 b) ≡ reply.Full b 0
second_finds_no_room = refl

hangup_comes_before_full : reply_to kept_hung (Put 1 b) ≡ reply.Hungup b
hangup_comes_before_full = refl

worn_comes_before_taken : reply_to (new_kept 1 LAST_WRITE) (Put 0 a) ≡ reply.Worn a
worn_comes_before_taken = refl

any_number_is_a_writer : reply_to (new_kept 1 0) (Put 64 a) ≡ reply.Taken 1
any_number_is_a_writer = refl

a_put_names_the_seat_after_its_writer : named_by (Put 64 a) ≡ Some 65
a_put_names_the_seat_after_its_writer = refl

the_greatest_number_names_no_seat : named_by (Put 18446744073709551615 a) ≡ None
the_greatest_number_names_no_seat = refl

block_comes_before_end : reply_to kept_hung Take ≡ reply.Block a 0 1
block_comes_before_end = refl

then_it_ends : reply_to (kept_after kept_hung Take) Take ≡ reply.End
then_it_ends = refl

nothing_stands_yet : reply_to (kept_after kept_full Take) Take ≡ reply.NotYet 1
nothing_stands_yet = refl

-- ---- each row of the history that calls make

calls_make_a_history : queue_history (
    served 0 Take reply.End
    ∷ served 1 (Put 0 b) (reply.Hungup b)
    ∷ served 2 Hang reply.Hung
    ∷ served 0 Take (reply.NotYet 1)
    ∷ served 0 Take (reply.Block a 0 1)
    ∷ served 2 (Put 1 b) (reply.Full b 0)
    ∷ served 1 (Put 0 a) (reply.Taken 1)
    ∷ served 1 (Put 0 b) (reply.Worn b)
    ∷ []) ≡
    End ∷ Hungup 0 b ∷ Hung 2 ∷ NotYet 1 ∷ Block 0 a 1 ∷ Full 1 b 0 ∷ Stood 0 1 ∷ Taken 0 a 1
    ∷ Worn 0 b ∷ []
calls_make_a_history = refl

-- ---- answers before which another may be given

abbrev hung_state : QueueState
hung_state = after_entry (opening_state 1) (Hung 0)

abbrev left_state : QueueState
left_state = after_entry (opening_state 1) (Taken 0 a 1)

full_after_a_hangup : IsFirst 0 hung_state (reply.Full a 0) → ⊥
full_after_a_hangup is = let no : true ≡ false = is.0 in cc

full_after_the_last_number : IsFirst LAST_WRITE (opening_state 1) (reply.Full a 0) → ⊥
full_after_the_last_number is = is.1 refl

worn_after_a_hangup : IsFirst 0 hung_state (reply.Worn a) → ⊥
worn_after_a_hangup is = let no : true ≡ false = is in cc

taken_where_all_is_full : IsFirst 0 left_state (reply.Taken 2) → ⊥
taken_where_all_is_full is = is.2 refl

not_yet_after_a_hangup : IsFirst 0 hung_state (reply.NotYet 0) → ⊥
not_yet_after_a_hangup is = let no : true ≡ false = is.1 in cc

end_where_a_block_is_left : IsFirst 0 left_state reply.End → ⊥
end_where_a_block_is_left is = let none = is in cc
