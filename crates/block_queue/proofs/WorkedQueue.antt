-- Histories of a queue worked out by the definitions alone, and short ones that they refuse.
use Rattle.std.proofs.Common.{◌≡◌, ℕ, true, false, List, [], ◌∷◌, refl, inl, inr, ⊎_elim, ap, ◌∙◌}
use Rattle.std.proofs.Common.{◌+◌, arith, Some, None}
use Rattle.histories.specs.History.{IsLegal}
use Rattle.sync_base.specs.declared.limits.TheConstants.{LAST_WRITE}
use Rattle.block_queue.specs.declared.entry.Entry.{Entry}
use Rattle.block_queue.specs.declared.entry.Entry.TheVariants.{Taken, Stood, Full, Hungup, Worn}
use Rattle.block_queue.specs.declared.entry.Entry.TheVariants.{Block, NotYet, End, Hung}
use Rattle.sync_base.specs.Write.{Write}
use Rattle.block_queue.specs.History.{IsRight, opening_state, with_put}
use Rattle.block_queue.proofs.WordMoves.{same_some}
use Rattle.block_queue.specs.Meaning.{queue_meaning}

-- a queue of one place, whose first write has the number 1
abbrev IsRun : List Entry → Type 0
IsRun history = IsLegal (queue_meaning 0) (opening_state 1) history

abbrev a : List ℕ
a = 97 ∷ []

-- ---- a run, entry by entry: each answer is the one that the definitions allow there

taken_is_right : IsRight 0 (opening_state 1) (Taken 0 a 1)
taken_is_right =
    record {
      may = record { may = (refl, omega arith); number_is = refl; given = omega arith };
      in_turn = refl;
    }

taken_run : IsRun (Taken 0 a 1 ∷ [])
taken_run = (taken_is_right, tt)

-- the put has not returned, so the write is not there yet
waiting_run : IsRun (NotYet 0 ∷ Taken 0 a 1 ∷ [])
waiting_run = (
  record {
    may = record {
      none = inr record {
        write = record { writer = 0; bytes = a };
        next = refl;
        returning = refl;
      };
      number_is = refl;
    };
    in_turn = refl;
  },
  taken_run,
)

stood_run : IsRun (Stood 0 1 ∷ Taken 0 a 1 ∷ [])
stood_run = (record { may = tt; in_turn = refl }, taken_run)

full_run : IsRun (Full 1 a 0 ∷ Stood 0 1 ∷ Taken 0 a 1 ∷ [])
full_run = (record { may = record { may = refl; number_is = refl }; in_turn = refl }, stood_run)

block_run : IsRun (Block 0 a 1 ∷ Stood 0 1 ∷ Taken 0 a 1 ∷ [])
block_run = (record { may = record { next = refl; number_is = refl }; in_turn = refl }, stood_run)

empty_run : IsRun (NotYet 1 ∷ Block 0 a 1 ∷ Stood 0 1 ∷ Taken 0 a 1 ∷ [])
empty_run = (
  record { may = record { none = inl refl; number_is = refl }; in_turn = refl },
  block_run,
)

hung_run : IsRun (Hung 0 ∷ Block 0 a 1 ∷ Stood 0 1 ∷ Taken 0 a 1 ∷ [])
hung_run = (record { may = tt; in_turn = refl }, block_run)

hungup_run : IsRun (Hungup 0 a ∷ Hung 0 ∷ Block 0 a 1 ∷ Stood 0 1 ∷ Taken 0 a 1 ∷ [])
hungup_run = (record { may = refl; in_turn = refl }, hung_run)

ended_run : IsRun (End ∷ Hung 0 ∷ Block 0 a 1 ∷ Stood 0 1 ∷ Taken 0 a 1 ∷ [])
ended_run = (record { may = (refl, refl); in_turn = refl }, hung_run)

-- the last number is given once
worn_run : IsLegal (queue_meaning LAST_WRITE) (opening_state 1) (Worn 0 a ∷ [])
worn_run = (record { may = record { not_hung = refl; last = refl }; in_turn = refl }, tt)

-- ---- what is refused

taken_after_a_hangup : IsRun (Taken 0 a 1 ∷ Hung 0 ∷ []) → ⊥
taken_after_a_hangup run = let no : true ≡ false = run.0.may.may.0 in cc

taken_where_all_is_full : IsRun (Taken 1 a 2 ∷ Stood 0 1 ∷ Taken 0 a 1 ∷ []) → ⊥
taken_where_all_is_full run = let room = run.0.may.may.1 in omega arith

taken_with_another_number : IsRun (Taken 0 a 2 ∷ []) → ⊥
taken_with_another_number run = let number = run.0.may.number_is in omega arith

full_where_a_place_is_free : IsRun (Full 0 a 0 ∷ []) → ⊥
full_where_a_place_is_free run = let full = run.0.may.may in omega arith

hungup_before_a_hangup : IsRun (Hungup 0 a ∷ []) → ⊥
hungup_before_a_hangup run = let no : false ≡ true = run.0.may in cc

worn_before_the_last_number : IsRun (Worn 0 a ∷ []) → ⊥
worn_before_the_last_number run = let last = run.0.may.last in omega arith

a_write_stands_twice : IsRun (Stood 0 1 ∷ Stood 0 1 ∷ Taken 0 a 1 ∷ []) → ⊥
a_write_stands_twice run = let no : None ≡ Some 1 = run.0.in_turn in cc

a_write_stands_unput : IsRun (Stood 0 1 ∷ []) → ⊥
a_write_stands_unput run = let no : None ≡ Some 1 = run.0.in_turn in cc

a_writer_goes_on_before_its_write_stands : IsRun (Full 0 a 0 ∷ Taken 0 a 1 ∷ []) → ⊥
a_writer_goes_on_before_its_write_stands run = let no : Some 1 ≡ None = run.0.in_turn in cc

block_of_another_writer : IsRun (Block 1 a 1 ∷ Stood 0 1 ∷ Taken 0 a 1 ∷ []) → ⊥
block_of_another_writer run =
    let same = same_some (record { writer = 0; bytes = a }) (record { writer = 1; bytes = a })
    run.0.may.next in
    let writer : ◌≡◌ {A = ℕ} 0 1 = ap (λ (w : Write). w.writer) same in
    absurd (omega arith)

block_given_twice : IsRun (Block 0 a 2 ∷ Block 0 a 1 ∷ Stood 0 1 ∷ Taken 0 a 1 ∷ []) → ⊥
block_given_twice run = let next = run.0.may.next in cc

not_yet_where_the_next_stands : IsRun (NotYet 0 ∷ Stood 0 1 ∷ Taken 0 a 1 ∷ []) → ⊥
not_yet_where_the_next_stands run =
    ⊎_elim (λ none. cc)
    (λ unready.
    let same : record { writer = 0; bytes = a } ≡ unready.write =
    same_some (record { writer = 0; bytes = a }) unready.write unready.next in
    let no : None ≡ Some 1 = ap (λ (w : Write). with_put 1 None (with_put 1 (Some 1) (λ seat. None))
    (w.writer + 1)) same ∙ unready.returning in
    cc)
    run.0.may.none

end_where_a_write_is_left : IsRun (End ∷ Hung 0 ∷ Taken 0 a 1 ∷ []) → ⊥
end_where_a_write_is_left run = let none = run.0.may.1 in cc
