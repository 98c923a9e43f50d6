-- How a long write is cut into writes.
use Rattle.std.proofs.Common.{◌≡◌, ◌⊎◌, inl, inr, ℕ, zero, suc, ◌<◌, ◌≤◌, true, false, List}
use Rattle.std.proofs.Common.{[], ◌∷◌, ◌++◌, length, take, drop, reverse, refl, sym, ◌∙◌, ap}
use Rattle.std.proofs.Common.{arith}
use Rattle.std.specs.Prelude.{nat_le, Result}
use Rattle.std.proofs.lemmas.Bool.Decides.{leb_tells, nat_tests}
use Rattle.std.proofs.lemmas.List.{append_assoc, append-nil, reverse-append, length-drop}
use Rattle.histories.specs.declared.account.Account.{Account}
use Rattle.sync_base.specs.declared.fault.Fault.{Fault}
use Rattle.sync_base.specs.declared.limits.TheConstants.{ATOMIC_SIZE}
use Rattle.rendez_words.specs.declared.words.Words.{Words}
use Rattle.block_queue.specs.declared.entry.Entry.{Entry}
use Rattle.pipe_dev.specs.declared.row.Row.{Row}
use Rattle.pipe_dev.specs.Ends.{WriteSide, IsSameWriteEnd}
use Rattle.pipe_dev.specs.Rendezes.{OwnsRow}
use Rattle.pipe_dev.specs.WriteCalls.{RunsAWrite, RunsWrite, WritesBy, atomic_writes}
use Rattle.pipe_dev.specs.WriteCalls.{atomic_writes_in, call_of}
use Rattle.waiting.specs.Runners.{RunPoint, Runs}

-- bytes that fit are one write, whatever the fuel
one_write : (fuel : ℕ) (bytes : List ℕ) → length bytes ≤ ATOMIC_SIZE
    → atomic_writes_in fuel bytes ≡ bytes ∷ []
one_write zero bytes fits = refl
one_write (suc fuel) bytes fits = at_once fuel bytes fits
  where
    at_once : (fuel : ℕ) (bytes : List ℕ) → length bytes ≤ ATOMIC_SIZE
        → atomic_writes_in (suc fuel) bytes ≡ bytes ∷ []
    at_once fuel bytes fits = grind (arith, nat_tests)

-- of more bytes the first is cut off
one_more : (fuel : ℕ) (bytes : List ℕ) → ATOMIC_SIZE < length bytes
    → atomic_writes_in (suc fuel) bytes
    ≡ take ATOMIC_SIZE bytes ∷ atomic_writes_in fuel (drop ATOMIC_SIZE bytes)
one_more fuel bytes long = grind (arith, nat_tests)

-- enough fuel is enough
enough_fuel : (fuel more : ℕ) (bytes : List ℕ) → length bytes ≤ fuel → length bytes ≤ more
    → atomic_writes_in fuel bytes ≡ atomic_writes_in more bytes
enough_fuel zero more bytes low low' = sym (one_write more bytes (omega (arith, low)))
enough_fuel (suc fuel) zero bytes low low' = one_write (suc fuel) bytes (omega (arith, low'))
enough_fuel (suc fuel) (suc more) bytes low low' =
    let dropped = length-drop ATOMIC_SIZE bytes in
    by (leb_tells (length bytes) ATOMIC_SIZE)
    (λ long. enough_fuel fuel more (drop ATOMIC_SIZE bytes) (omega (arith, low, long, dropped))
    (omega (arith, low', long, dropped)))
  where
    by : ((nat_le (length bytes) ATOMIC_SIZE ≡ true) × (length bytes ≤ ATOMIC_SIZE))
        ⊎ ((nat_le (length bytes) ATOMIC_SIZE ≡ false) × (ATOMIC_SIZE < length bytes))
        → (ATOMIC_SIZE < length bytes → atomic_writes_in fuel (drop ATOMIC_SIZE bytes)
        ≡ atomic_writes_in more (drop ATOMIC_SIZE bytes))
        → atomic_writes_in (suc fuel) bytes ≡ atomic_writes_in (suc more) bytes
    by (inl fits) rest = one_write (suc fuel) bytes fits.1 ∙ sym (one_write (suc more) bytes fits.1)
    by (inr long) rest =
        one_more fuel bytes long.1
        ∙ (ap (λ blocks. take ATOMIC_SIZE bytes ∷ blocks) (rest long.1)
        ∙ sym (one_more more bytes long.1))

-- bytes of no more than the atomic size are one write
pub last_write : (bytes : List ℕ) → length bytes ≤ ATOMIC_SIZE → atomic_writes bytes ≡ bytes ∷ []
last_write bytes fits = one_write (length bytes) bytes fits

-- of more bytes the first write has the atomic size, and the others are those of the bytes after
pub next_atomic : (bytes : List ℕ) → ATOMIC_SIZE < length bytes
    → atomic_writes bytes ≡ take ATOMIC_SIZE bytes ∷ atomic_writes (drop ATOMIC_SIZE bytes)
next_atomic bytes long = by (length bytes) refl
  where
    by : (n : ℕ) → length bytes ≡ n
        → atomic_writes_in n bytes ≡ take ATOMIC_SIZE bytes ∷ atomic_writes (drop ATOMIC_SIZE bytes)
    by zero is = absurd (omega (arith, long, is))
    by (suc n) is =
        let dropped = length-drop ATOMIC_SIZE bytes in
        one_more n bytes long
        ∙ ap (λ blocks. take ATOMIC_SIZE bytes ∷ blocks)
        (enough_fuel n (length (drop ATOMIC_SIZE bytes)) (drop ATOMIC_SIZE bytes)
        (omega (arith, long, is, dropped)) (omega arith))

-- one more is done
pub one_done : (done : List (List ℕ)) (block : List ℕ) (others blocks : List (List ℕ))
    → blocks ≡ reverse done ++ block ∷ others → blocks ≡ reverse (block ∷ done) ++ others
one_done done block others blocks is =
    is ∙ (sym (append_assoc (reverse done) (block ∷ []) others)
    ∙ ap (λ front. front ++ others) (sym (reverse-append (block ∷ []) done)))

-- the end stays where it is
pub ran_at : {Timer : Type 0} (runs : Runs Timer) (old now : WriteSide) (block : List ℕ)
    (before : RunPoint Timer (Account Entry)) (answer : Result ℕ Fault)
    (after : RunPoint Timer (Account Entry)) → IsSameWriteEnd old now
    → WritesBy runs (call_of now block) before answer after
    → RunsAWrite (call_of now block) before.at answer after.at
    → RunsWrite runs (call_of old block) before answer after
ran_at runs old now block before answer after same wrote is =
    let ran : RunsWrite runs (call_of now block) before answer after =
    record { wrote = wrote; is_write = is } in
    rw (same.queue, same.row, same.writer) at ran

-- and so does its kernel
pub owns_still : {words now : Words} {row row' : Row} → OwnsRow words row → now ≡ words
    → row' ≡ row → OwnsRow now row'
owns_still owns same same_row = rw (same, same_row) owns

-- there is a first write
pub some_write : (bytes : List ℕ)
    → (block : List ℕ) × (others : List (List ℕ)) × (atomic_writes bytes ≡ block ∷ others)
some_write bytes = by (leb_tells (length bytes) ATOMIC_SIZE)
  where
    by : ((nat_le (length bytes) ATOMIC_SIZE ≡ true) × (length bytes ≤ ATOMIC_SIZE))
        ⊎ ((nat_le (length bytes) ATOMIC_SIZE ≡ false) × (ATOMIC_SIZE < length bytes))
        → (block : List ℕ) × (others : List (List ℕ)) × (atomic_writes bytes ≡ block ∷ others)
    by (inl fits) = (bytes, [], last_write bytes fits.1)
    by (inr long) =
        (take ATOMIC_SIZE bytes, atomic_writes (drop ATOMIC_SIZE bytes), next_atomic bytes long.1)

-- the next write is cut off
pub cut_next : (bytes left front back : List ℕ) (done : List (List ℕ)) → ATOMIC_SIZE < length left
    → front ≡ take ATOMIC_SIZE left → back ≡ drop ATOMIC_SIZE left
    → atomic_writes bytes ≡ reverse done ++ atomic_writes left
    → atomic_writes bytes ≡ reverse done ++ front ∷ atomic_writes back
cut_next bytes left front back done long front_is back_is cut =
    cut ∙ (ap (λ blocks. reverse done ++ blocks) (next_atomic left long)
    ∙ (ap (λ (x : List ℕ). reverse done ++ x ∷ atomic_writes (drop ATOMIC_SIZE left)) (sym front_is)
    ∙ ap (λ (x : List ℕ). reverse done ++ front ∷ atomic_writes x) (sym back_is)))

-- where what is left fits in one write, it is the last one after those that are done
pub cut_last : (bytes left : List ℕ) (done : List (List ℕ)) → length left ≤ ATOMIC_SIZE
    → atomic_writes bytes ≡ reverse done ++ atomic_writes left
    → atomic_writes bytes ≡ reverse done ++ left ∷ []
cut_last bytes left done fits cut = cut
    ∙ ap (λ blocks. reverse done ++ blocks) (last_write left fits)

-- and with it the writes that are done are all of the long write, in order
pub all_done : (bytes left : List ℕ) (done : List (List ℕ)) → length left ≤ ATOMIC_SIZE
    → atomic_writes bytes ≡ reverse done ++ atomic_writes left
    → reverse (left ∷ done) ≡ atomic_writes bytes
all_done bytes left done fits cut =
    sym (one_done done left [] (atomic_writes bytes) (cut_last bytes left done fits cut)
    ∙ append-nil (reverse (left ∷ done)))
