-- Reads that go on from write to write: the bytes that they join, and how far they come.
use Rattle.std.proofs.Common.{[], ◌≡◌, ◌==◌, ℕ, suc, zero, min, nat_lt, cond, ◌+◌, ◌-◌, ◌<◌, ◌≤◌}
use Rattle.std.proofs.Common.{List, ◌∷◌, ◌++◌, length, take, drop, get_or, Bool, true, false}
use Rattle.std.proofs.Common.{refl, ◌∙◌, sym, ap, subst, arith, length-drop}
use Rattle.std.proofs.Common.{length-append, drop-drop}
use Rattle.std.proofs.lemmas.List.{drop_more, drop-append-le, append_assoc}
use Rattle.std.proofs.lemmas.List.{nil_from_length, length-take, drop_at}
use Rattle.std.proofs.lemmas.Bool.Decides.{nat_tests}
use Rattle.sync_base.specs.declared.mode.Mode.TheVariants.{Stream}
use Rattle.sync_base.specs.Write.{Write}
use Rattle.sync_base.specs.Pipe.{PipeState, Reach, reach_of, and_one, stops_at, joined, by_mode}
use Rattle.sync_base.specs.Pipe.{after_read, after_message, after_stream, after_reach}
use Rattle.sync_base.specs.Pipe.{unread_writes}
use Rattle.sync_base.specs.PlainPipe.{Contents, Shows, kept_after, first_bytes}

-- no bytes have no front
pub take_none : (n : ℕ) (bytes : List ℕ) → bytes ≡ [] → take n bytes ≡ []
take_none n bytes none =
    let size = length-take n bytes in
    let size' : length bytes ≡ 0 = ap length none in
    nil_from_length _ (omega (arith, size, size'))

-- and nothing after a place
pub drop_none : (n : ℕ) (bytes : List ℕ) → bytes ≡ [] → drop n bytes ≡ []
drop_none n bytes none =
    let size = length-drop n bytes in
    let size' : length bytes ≡ 0 = ap length none in
    nil_from_length _ (omega (arith, size, size'))

-- the first bytes of two lists are those of the one, and then of the other
pub take_split : (n : ℕ) (xs ys : List ℕ)
    → take n (xs ++ ys) ≡ take n xs ++ take (n - length xs) ys
take_split n [] ys =
    let same : n ≡ n - length {A = ℕ} [] = omega arith in
    ap (λ k. take k ys) same
    ∙ sym (ap (λ l. l ++ take (n - length {A = ℕ} []) ys) (take_none n [] refl))
take_split zero (x ∷ xs) ys =
    let same : 0 ≡ 0 - length (x ∷ xs) = omega arith in
    ap (λ k. take k ys) same
take_split (suc n) (x ∷ xs) ys =
    let same : n - length xs ≡ suc n - length (x ∷ xs) = omega arith in
    ap (λ l. x ∷ l) (take_split n xs ys ∙ ap (λ k. take n xs ++ take k ys) same)

-- the writes from a place on are the one there and those after it
pub joined_here : (writes : List Write) (at : ℕ) (write : Write) → at < length writes
    → write ≡ get_or writes at write
    → joined (drop at writes) ≡ write.bytes ++ joined (drop (at + 1) writes)
joined_here writes at write within is =
    ap joined (drop_more writes at write within)
    ∙ ap (λ w. joined (w ∷ drop (at + 1) writes)) (sym is)

-- one write more is joined
pub joins_more : (room room' whole part : List ℕ) (writes : List Write) (at offset left : ℕ)
    (write : Write) → at < length writes → write ≡ get_or writes at write
    → offset ≤ length write.bytes → part ≡ take left (drop offset write.bytes)
    → room' ≡ room ++ part
    → room ++ take left (drop offset (joined (drop at writes))) ≡ whole
    → room' ++ take (left - length part) (joined (drop (at + 1) writes)) ≡ whole
joins_more room room' whole part writes at offset left write within is begun part_is more so_far =
    let rest = drop offset write.bytes in
    let following = joined (drop (at + 1) writes) in
    let bytes : drop offset (joined (drop at writes)) ≡ rest ++ following =
    ap (drop offset) (joined_here writes at write within is)
    ∙ drop-append-le offset write.bytes following begun in
    let size : length part ≡ min left (length rest) =
    ap length part_is ∙ length-take left rest in
    let same : left - length part ≡ left - length rest = omega (arith, size) in
    ap (λ l. l ++ take (left - length part) following) more
    ∙ (append_assoc room part _
    ∙ (ap (λ l. room ++ l)
    (ap (λ l. l ++ take (left - length part) following) part_is
    ∙ (ap (λ k. take left rest ++ take k following) same
    ∙ (sym (take_split left rest following) ∙ ap (take left) (sym bytes))))
    ∙ so_far))

-- a read that has no room left stays
reach_full : (offset : ℕ) (writes : List Write) → reach_of 0 offset writes ≡ stops_at offset
reach_full offset [] = refl
reach_full offset (write ∷ writes) = refl

-- what is kept after a read that has no room
pub keeps_all : (kept : Contents) (most : ℕ) → most ≡ 0
    → kept_after kept (reach_of most kept.offset kept.unread) ≡ kept
keeps_all kept most none =
    ap (λ m. kept_after kept (reach_of m kept.offset kept.unread)) none
    ∙ ap (kept_after kept) (reach_full kept.offset kept.unread)

-- a reach through some writes, by what is next
reach_cases : (P : Reach → Type 0) (most offset : ℕ) (write : Write) (writes : List Write)
    → (most ≡ 0 → P (stops_at offset))
    → (0 < most → most < length write.bytes - offset → P (stops_at (offset + most)))
    → (0 < most → length write.bytes - offset ≤ most
    → P (and_one (reach_of (most - (length write.bytes - offset)) 0 writes)))
    → P (reach_of most offset (write ∷ writes))
reach_cases P most offset write writes full inside on =
    pick (most == 0) refl (nat_lt most (length write.bytes - offset)) refl
  where
    pick : (a : Bool) → (most == 0) ≡ a → (b : Bool)
        → nat_lt most (length write.bytes - offset) ≡ b
        → P (cond a (stops_at offset) (cond b (stops_at (offset + most))
        (and_one (reach_of (most - (length write.bytes - offset)) 0 writes))))
    pick true none b more = full (grind (arith, nat_tests))
    pick false some true more = inside (grind (arith, nat_tests)) (grind (arith, nat_tests))
    pick false some false more = on (grind (arith, nat_tests)) (grind (arith, nat_tests))

-- the writes after the first and so many more
pub drop_one_more : (k : ℕ) (write : Write) (writes : List Write)
    → drop k writes ≡ drop (k + 1) (write ∷ writes)
drop_one_more k write writes =
    let same : 1 + k ≡ k + 1 = omega arith in
    drop-drop k 1 (write ∷ writes) ∙ ap (λ n. drop n (write ∷ writes)) same

-- no more writes are read whole than there are
pub reach_within : (most offset : ℕ) (writes : List Write)
    → (reach_of most offset writes).whole ≤ length writes
reach_within most offset [] = omega arith
reach_within most offset (write ∷ writes) =
    reach_cases (λ reach. reach.whole ≤ length (write ∷ writes)) most offset write writes
    (λ full. omega arith) (λ room more. omega arith)
    (λ room used_up.
    let further = reach_within (most - (length write.bytes - offset)) 0 writes in
    omega (arith, further))

-- a read that reads no write whole stays in the write or goes on in it
pub reach_grows : (most offset : ℕ) (writes : List Write)
    → (reach_of most offset writes).whole ≡ 0 → offset ≤ (reach_of most offset writes).offset
reach_grows most offset [] none = omega arith
reach_grows most offset (write ∷ writes) none =
    reach_cases (λ reach. reach.whole ≡ 0 → offset ≤ reach.offset) most offset write writes
    (λ full none. omega arith) (λ room more none. omega arith)
    (λ room used_up none. absurd (omega (arith, none)))
    none

-- a write that is begun has a byte left
pub reach_begun : (most offset : ℕ) (writes : List Write)
    → (0 < offset → offset < length (first_bytes writes))
    → 0 < (reach_of most offset writes).offset
    → (reach_of most offset writes).offset
    < length (first_bytes (drop (reach_of most offset writes).whole writes))
reach_begun most offset [] begun = begun
reach_begun most offset (write ∷ writes) begun =
    reach_cases
    (λ reach. 0 < reach.offset
    → reach.offset < length (first_bytes (drop reach.whole (write ∷ writes))))
    most offset write writes
    (λ full. begun) (λ room more some. omega arith)
    (λ room used_up some.
    let further = reach_of (most - (length write.bytes - offset)) 0 writes in
    subst (λ (ws : List Write). further.offset < length (first_bytes ws))
    (drop_one_more further.whole write writes)
    (reach_begun (most - (length write.bytes - offset)) 0 writes (λ some. omega arith) some))

-- what is read of a write is within it
pub offset_within : (offset size : ℕ) → (0 < offset → offset < size) → offset ≤ size
offset_within zero size begun = omega arith
offset_within (suc k) size begun = let within = begun (omega arith) in omega (arith, within)

-- the first of the writes from a place on
pub first_there : (writes : List Write) (at : ℕ) (write : Write) → at < length writes
    → write ≡ get_or writes at write → first_bytes (drop at writes) ≡ write.bytes
first_there writes at write within is =
    ap first_bytes (drop_more writes at write within) ∙ ap (λ (w : Write). w.bytes) (sym is)

-- where there is room for more than there is, each write is read whole
pub reach_passes_all : (most offset : ℕ) (writes : List Write)
    → (0 < offset → offset < length (first_bytes writes))
    → length (drop offset (joined writes)) < most
    → (reach_of most offset writes).whole ≡ length writes
reach_passes_all most offset [] begun more = refl
reach_passes_all most offset (write ∷ writes) begun more =
    let size : length (drop offset (joined (write ∷ writes)))
    ≡ length write.bytes + length (joined writes) - offset =
    length-drop offset (joined (write ∷ writes))
    ∙ ap (λ n. n - offset) (length-append write.bytes (joined writes)) in
    let at = offset_within offset _ begun in
    reach_cases (λ reach. reach.whole ≡ length (write ∷ writes)) most offset write writes
    (λ full. absurd (omega (arith, full, size, more)))
    (λ room inside. absurd (omega (arith, size, more, inside)))
    (λ room used_up.
    let further =
    reach_passes_all (most - (length write.bytes - offset)) 0 writes (λ some. omega arith)
    (omega (arith, size, more, at, used_up)) in
    omega (arith, further))

-- what is after the reach is what is after so many bytes
pub reach_loses_nothing : (most offset : ℕ) (writes : List Write)
    → (0 < offset → offset < length (first_bytes writes))
    → drop (reach_of most offset writes).offset
    (joined (drop (reach_of most offset writes).whole writes))
    ≡ drop most (drop offset (joined writes))
reach_loses_nothing most offset [] begun =
    drop_none offset [] refl ∙ sym (drop_none most _ (drop_none offset [] refl))
reach_loses_nothing most offset (write ∷ writes) begun =
    reach_cases
    (λ reach. drop reach.offset (joined (drop reach.whole (write ∷ writes)))
    ≡ drop most (drop offset (joined (write ∷ writes))))
    most offset write writes
    (λ full. ap (λ k. drop k (drop offset (joined (write ∷ writes)))) (sym full))
    (λ room more. sym (drop-drop most offset (joined (write ∷ writes))))
    (λ room used_up.
    let further = reach_of (most - (length write.bytes - offset)) 0 writes in
    let past : length write.bytes + (most - (length write.bytes - offset)) ≡ offset + most =
    omega (arith, offset_within offset _ begun) in
    ap (λ (ws : List Write). drop further.offset (joined ws))
    (sym (drop_one_more further.whole write writes))
    ∙ (reach_loses_nothing (most - (length write.bytes - offset)) 0 writes
    (λ some. omega arith)
    ∙ (following write writes (most - (length write.bytes - offset))
    ∙ (ap (λ k. drop k (joined (write ∷ writes))) past
    ∙ sym (drop-drop most offset (joined (write ∷ writes)))))))
  where
    -- the bytes after the first write and so many more
    following : (write : Write) (writes : List Write) (k : ℕ)
        → drop k (joined writes) ≡ drop (length write.bytes + k) (joined (write ∷ writes))
    following write writes k =
        ap (drop k) (sym (drop_at write.bytes (joined writes) (length write.bytes) refl))
        ∙ drop-drop k (length write.bytes) (joined (write ∷ writes))

-- the pipe keeps what a read in stream mode leaves
pub shows_after : (kept : Contents) (s : PipeState) (most : ℕ) → Shows kept s
    → kept.mode ≡ Stream
    → Shows (kept_after kept (reach_of most kept.offset kept.unread)) (after_read most s)
shows_after kept s most shows stream =
    let reach = reach_of most kept.offset kept.unread in
    let same : reach ≡ reach_of most s.offset (unread_writes s) =
    ap (λ k. reach_of most k kept.unread) shows.offset
    ∙ ap (λ writes. reach_of most s.offset writes) shows.unread in
    let after : after_read most s ≡ after_reach s reach =
    ap (λ mode. by_mode mode (after_message most s) (after_stream most s))
    (sym shows.mode ∙ stream)
    ∙ ap (after_reach s) (sym same) in
    let within = reach_within most kept.offset kept.unread in
    let left : length kept.unread ≡ length s.accepted - s.read_whole =
    rw shows.unread (length-drop s.read_whole s.accepted) in
    let position = shows.position in
    subst (Shows (kept_after kept reach)) (sym after)
    (record {
      limit = shows.limit;
      mode = shows.mode;
      unread = ap (drop reach.whole) shows.unread ∙ drop-drop reach.whole s.read_whole s.accepted;
      offset = refl;
      hung = shows.hung;
      position = omega (arith, within, left, position);
    })
