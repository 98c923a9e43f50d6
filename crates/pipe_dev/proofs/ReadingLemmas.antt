-- What steps make of a read end has read just what it took out.
use Rattle.std.proofs.Common.{◌≡◌, ◌⊎◌, inl, inr, ℕ, zero, suc, ◌+◌, ◌<◌, ◌≤◌, Bool, true}
use Rattle.std.proofs.Common.{false, if◌then◌else◌, List, [], ◌∷◌, ◌++◌, length, reverse, take}
use Rattle.std.proofs.Common.{drop, Option, None, Some, refl, sym, ◌∙◌, ap, subst, arith, zero-add}
use Rattle.std.specs.Prelude.{IsTrue, nat_le, slice_get}
use Rattle.std.proofs.lemmas.Bool.Decides.{nat_tests}
use Rattle.std.proofs.lemmas.List.{take_all, take-append-le, take-append-drop, length-drop}
use Rattle.std.proofs.lemmas.List.{length-take-le, append-nil}
use Rattle.std.proofs.lemmas.Option.{slice_get_within}
use Rattle.histories.specs.declared.account.Account.{Account}
use Rattle.histories.specs.Account.{has_number}
use Rattle.histories.specs.History.{entries_by}
use Rattle.sync_base.specs.Pipe.{PipeState}
use Rattle.sync_base.specs.Write.{Write}
use Rattle.block_queue.specs.declared.entry.Entry.{Entry}
use Rattle.block_queue.specs.declared.entry.Entry.TheVariants.{Taken}
use Rattle.block_queue.specs.declared.entry.Entry.TheVariants.{Block}
use Rattle.block_queue.specs.declared.view.Key.{Key}
use Rattle.block_queue.specs.History.{seat_of}
use Rattle.block_queue.specs.Meaning.{Enters, KnowsQueue, queue_after}
use Rattle.block_queue.specs.Opening.{reader_account}
use Rattle.block_queue.specs.Places.{IsQueueState}
use Rattle.block_queue.proofs.RuleMoves.{history_fits}
use Rattle.block_queue.proofs.SeatLemmas.{entered_own}
use Rattle.block_queue.proofs.StateLemmas.{begun_is}
use Rattle.pipe_dev.specs.CallLaws.{WhatIsReadIsRight}
use Rattle.pipe_dev.specs.Chain.{AddsPart, AddsNothing, ReadStep, IsNoBlock, taker_in}
use Rattle.pipe_dev.specs.Finishing.{left_state}
use Rattle.pipe_dev.specs.Parts.{Part, pieces_of, continued, with_part, whole_from, whole_at}
use Rattle.pipe_dev.specs.Filling.{IsLeft, IsTakenOut}
use Rattle.pipe_dev.specs.Parts.{is_empty, part_of, rest_of}
use Rattle.pipe_dev.specs.Reading.{Reading, IsReading, IsRight, IsRest, seen_state, first_reading}
use Rattle.pipe_dev.specs.Rounds.{Rounds}
use Rattle.pipe_dev.proofs.LawLemmas.{OnlyAccepts, only_grows, read_within}
use Rattle.pipe_dev.proofs.PartLemmas.{with_part-twice, with_part-next, whole_from-append}
use Rattle.pipe_dev.proofs.PartLemmas.{reverse-cons}
use Rattle.pipe_dev.proofs.RoundLemmas.{entered_right, entered_legal}
use Rattle.pipe_dev.proofs.SeatingLemmas.{same_entries, reader_knows}

-- ---- a part and the rest after it

some_bytes : (bytes : List ℕ) → 0 < length bytes → is_empty bytes ≡ false
some_bytes [] some = absurd (omega (arith, some))
some_bytes (byte ∷ bytes) some = refl

-- a rest has bytes
pub rest_is_some : (most : ℕ) (left : Part) → IsRest (rest_of most left)
rest_is_some most left = by (nat_le (length left.bytes) most) refl
  where
    by : (b : Bool) → nat_le (length left.bytes) most ≡ b
        → IsRest (if b then None else Some (record left { bytes = drop most left.bytes }))
    by true is = tt
    by false is =
        let above : most < length left.bytes = grind (arith, nat_tests) in
        let dropped = length-drop most left.bytes in
        let some = some_bytes (drop most left.bytes) (omega (arith, above, dropped)) in
        λ none. let empty = ap is_empty none in cc

-- a part, continued by its rest, makes the pieces that both together make
pub part_and_rest : (most : ℕ) (left : Part) (parts : List Part) → 0 < most
    → pieces_of (continued (rest_of most left) (part_of most left ∷ parts))
    ≡ pieces_of (left ∷ parts)
part_and_rest most left parts some = by (nat_le (length left.bytes) most) refl
  where
    by : (b : Bool) → nat_le (length left.bytes) most ≡ b
        → pieces_of
        (continued (if b then None else Some (record left { bytes = drop most left.bytes }))
        (part_of most left ∷ parts))
        ≡ pieces_of (left ∷ parts)
    by true is =
        ap (λ (bytes : List ℕ). with_part (record left { bytes = bytes }) (pieces_of parts))
        (take_all most left.bytes
        (let low : length left.bytes ≤ most = grind (arith, nat_tests) in low))
    by false is =
        let above : most < length left.bytes = grind (arith, nat_tests) in
        let dropped = length-drop most left.bytes in
        let taken = length-take-le most left.bytes (omega (arith, above)) in
        with_part-twice (part_of most left) (record left { bytes = drop most left.bytes })
        (pieces_of parts)
        record {
          place = refl;
          writer = refl;
          first_some = some_bytes (take most left.bytes) (omega (arith, some, taken));
          second_some = some_bytes (drop most left.bytes) (omega (arith, above, dropped));
        }
        ∙ ap (λ (bytes : List ℕ). with_part (record left { bytes = bytes }) (pieces_of parts))
        (take-append-drop most left.bytes)

-- ---- the state of the direction

take_suc : (xs : List Write) (k : ℕ) (x : Write) → slice_get xs k ≡ Some x
    → take (suc k) xs ≡ take k xs ++ x ∷ []
take_suc [] k x there = cc
take_suc (y ∷ ys) zero x there = let same : y ≡ x = cc in ap (λ z. z ∷ []) same
take_suc (y ∷ ys) (suc k) x there = ap (λ zs. y ∷ zs) (take_suc ys k x there)

take_next : (xs : List Write) (k : ℕ) (x : Write) → slice_get xs k ≡ Some x
    → take (k + 1) xs ≡ take k xs ++ x ∷ []
take_next xs k x there =
    let up : k + 1 ≡ suc k = omega arith in ap (λ n. take n xs) up ∙ take_suc xs k x there

-- an entry that takes no block out reads nothing, and only adds to what was accepted
no_block_accepts : (key : Key) (past : List Entry) (entry : Entry) → IsNoBlock entry
    → OnlyAccepts (left_state key past) (left_state key (entry ∷ past))
no_block_accepts key past (Taken writer block number) none =
    record { read = refl; more = record { writer = writer; bytes = block } ∷ []; accepted = refl }
no_block_accepts key past (Block writer block number) none = absurd none
no_block_accepts key past entry none =
    record { read = refl; more = []; accepted = sym (append-nil (left_state key past).accepted) }

-- what was read stays right where nothing is read
still_right : (before after : PipeState) (parts : List Part) (rest : Option Part)
    → OnlyAccepts before after → before.read_whole ≤ length before.accepted
    → IsRight before parts rest → IsRight after parts rest
still_right before after parts rest accepts within right =
    record {
      whole = right.whole ∙ ap (whole_from 0)
          (sym (ap (take after.read_whole) accepts.accepted
          ∙ (ap (λ n. take n (before.accepted ++ accepts.more)) accepts.read
          ∙ take-append-le before.read_whole before.accepted accepts.more within)));
      some_left = right.some_left;
    }

-- others did since what they did, and no block was taken out
pub since_accepts : (key : Key) (entry : Entry) (old new : Account Entry)
    → IsTrue (has_number old.shares 0)
    → KnowsQueue key old → (enters : Enters key entry old new)
    → OnlyAccepts (left_state key old.seen) (left_state key enters.adds.past)
since_accepts key entry old new own knows enters =
    let looked = enters.adds.looked in
    let same : entries_by seat_of 0 enters.adds.past ≡ entries_by seat_of 0 old.seen
    = same_entries old.seen enters.adds.past 0 old.shares knows.mine looked.mine own in
    only_grows key looked.since old.seen enters.adds.past looked.history_is same

-- ---- one step

right_before : (key : Key) (entry : Entry) (reading : Reading) (new : Account Entry)
    → IsReading key reading
    → (enters : Enters key entry reading.account new)
    → IsRight (left_state key enters.adds.past) reading.parts reading.rest
right_before key entry reading new is enters =
    still_right (seen_state key reading) (left_state key enters.adds.past) reading.parts
    reading.rest
    (since_accepts key entry reading.account new is.own is.knows enters)
    (read_within key reading.account.seen is.knows.history.legal) is.right

seen_now : (key : Key) (entry : Entry) (old new : Account Entry) (enters : Enters key entry old new)
    → new.seen ≡ entry ∷ enters.adds.past
seen_now key entry old new enters = ap (λ (a : Account Entry). a.seen) enters.adds.new_is

nothing_read : (key : Key) (old new : Reading) → IsReading key old → AddsNothing key old new
    → IsReading key new
nothing_read key old new is adds =
    record {
      own = entered_own key adds.entry old.account new.account 0 adds.entered is.own;
      knows = adds.entered.knows;
      right = rw
          (seen_now key adds.entry old.account new.account adds.entered, adds.rest, adds.parts)
          (still_right (left_state key past) (left_state key (adds.entry ∷ past)) old.parts old.rest
          (no_block_accepts key past adds.entry adds.no_block)
          (read_within key past (entered_legal key adds.entry old.account new.account adds.entered))
          (right_before key adds.entry old new.account is adds.entered));
    }
  where
    past : List Entry
    past = adds.entered.adds.past

-- what is left of the write that was begun gives one part more
goes_on_right : (s : PipeState) (left : Part) (parts : List Part) (most : ℕ) → 0 < most
    → IsRight s parts (Some left) → IsRight s (part_of most left ∷ parts) (rest_of most left)
goes_on_right s left parts most some right =
    record {
      whole = ap reverse (part_and_rest most left parts some) ∙ right.whole;
      some_left = rest_is_some most left;
    }

-- so does the next write, which was taken out
takes_right : (key : Key) (past : List Entry) (left : Part) (parts : List Part) (most : ℕ)
    → 0 < most
    → slice_get (left_state key past).accepted (left_state key past).read_whole
    ≡ Some (record { writer = left.writer; bytes = left.bytes })
    → left.place ≡ (left_state key past).read_whole
    → IsRight (left_state key past) parts None
    → IsRight (left_state key (Block left.writer left.bytes (left.place + 1) ∷ past))
    (part_of most left ∷ parts) (rest_of most left)
takes_right key past left parts most some next place right =
    record {
      whole = ap reverse (part_and_rest most left parts some)
          ∙ (ap reverse
          (with_part-next left (pieces_of parts) (take k accepted) right.whole
          (place ∙ sym taken))
          ∙ (reverse-cons left (pieces_of parts)
          ∙ (ap (λ ps. ps ++ left ∷ []) right.whole
          ∙ (ap (λ n. whole_from 0 (take k accepted) ++ whole_at n write ∷ [])
          (place ∙ (sym taken ∙ sym (zero-add (length (take k accepted)))))
          ∙ (sym (whole_from-append 0 (take k accepted) (write ∷ []))
          ∙ ap (whole_from 0) (sym (take_next accepted k write next)))))));
      some_left = rest_is_some most left;
    }
  where
    k : ℕ
    k = (left_state key past).read_whole

    accepted : List Write
    accepted = (left_state key past).accepted

    write : Write
    write = record { writer = left.writer; bytes = left.bytes }

    taken : length (take k accepted) ≡ k
    taken = length-take-le k accepted
        (let within = slice_get_within accepted k write next in omega (arith, within))

got_right : (key : Key) (old new : Reading) → key.first ≡ 0 → IsReading key old
    → (adds : AddsPart key old new) → IsReading key new
got_right key old new first is adds = by adds.taken.next
  where
    left : Part
    left = adds.taken.left

    now : (s : PipeState) → IsRight s (part_of adds.room left ∷ old.parts) (rest_of adds.room left)
        → IsRight s new.parts new.rest
    now s right = rw (adds.taken.rest, adds.parts, adds.taken.part_is) right

    by : IsLeft (taker_in old) left (taker_in new)
        ⊎ IsTakenOut key (taker_in old) left (taker_in new)
        → IsReading key new
    by (inl goes) =
        record {
          own = rw goes.account is.own;
          knows = rw goes.account is.knows;
          right = rw goes.account
              (now (seen_state key old)
              (goes_on_right (seen_state key old) left old.parts adds.room adds.some_room
              (rw goes.left_is at is.right)));
        }
    by (inr takes) =
        let enters = takes.taken in
        let entry = Block left.writer left.bytes (left.place + 1) in
        let legal = entered_legal key entry old.account new.account enters in
        let right = entered_right key entry old.account new.account enters in
        let fits : IsQueueState key.limit key.first (queue_after key enters.adds.past)
        = history_fits key enters.adds.past (omega (arith, first)) legal in
        let begun = begun_is (queue_after key enters.adds.past).pipe fits.whole in
        let number = right.may.number_is in
        record {
          own = entered_own key entry old.account new.account 0 enters is.own;
          knows = enters.knows;
          right = rw (seen_now key entry old.account new.account enters)
              (now (left_state key (entry ∷ enters.adds.past))
              (takes_right key enters.adds.past left old.parts adds.room adds.some_room
              right.may.next (omega (arith, begun, number, first))
              (rw takes.none_left at (right_before key entry old new.account is enters))));
        }

one_step : (key : Key) (old new : Reading) → key.first ≡ 0 → IsReading key old
    → ReadStep key old new → IsReading key new
one_step key old new first is (inl adds) = got_right key old new first is adds
one_step key old new first is (inr adds) = nothing_read key old new is adds

first_right : (key : Key) → IsReading key (first_reading (reader_account key.writers))
first_right key =
    record {
      own = refl;
      knows = reader_knows key;
      right = record { whole = refl; some_left = tt };
    }

all_steps : (key : Key) (times : ℕ) (reading : Reading) → key.first ≡ 0
    → Rounds (ReadStep key) times (first_reading (reader_account key.writers)) reading
    → IsReading key reading
all_steps key zero reading first steps =
    subst (λ (r : Reading). IsReading key r) (sym steps) (first_right key)
all_steps key (suc times) reading first steps =
    one_step key steps.between reading first
    (all_steps key times steps.between first steps.rounds) steps.last

-- what calls make of the read end of a new pipe has read just what it took out
pub what_is_read_is_right : WhatIsReadIsRight
what_is_read_is_right key reading made =
    all_steps key made.times reading made.first made.steps
