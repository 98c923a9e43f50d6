-- When bytes are all the same, and so the filler of a message.
use Rattle.std.proofs.Common.{◌≡◌, ◌==◌, ◌&&◌, ℕ, Bool, true, false, List, [], ◌∷◌, ◌++◌}
use Rattle.std.proofs.Common.{length, replicate, refl, sym, ap, ◌∙◌}
use Rattle.std.proofs.lemmas.Bool.{false≢true}
use Rattle.std.proofs.lemmas.Bool.Decides.{Decides-eqb}
use Rattle.std.proofs.lemmas.List.{length_push, replicate-append-replicate}

-- the bytes are all this one
abbrev pub AreAll : ℕ → List ℕ → Type 0
AreAll byte bytes = bytes ≡ replicate (length bytes) byte

-- the same byte after them, and they are all this one still
are_all_after : (byte : ℕ) (bytes : List ℕ) (next : ℕ) → AreAll byte bytes → next ≡ byte
    → AreAll byte (bytes ++ (next ∷ []))
are_all_after byte bytes next all same =
    ap (λ l. l ++ (next ∷ [])) all
    ∙ (ap (λ b. replicate (length bytes) byte ++ (b ∷ [])) same
    ∙ (replicate-append-replicate (length bytes) 1 byte
    ∙ ap (λ n. replicate n byte) (sym (length_push bytes next))))

-- one byte more, and whether they are all this one still
pub one_byte_more : (byte : ℕ) (bytes : List ℕ) (next : ℕ) (before after : Bool)
    → (before ≡ true → AreAll byte bytes) → after ≡ (before && (next == byte))
    → after ≡ true → AreAll byte (bytes ++ (next ∷ []))
one_byte_more byte bytes next true after all told is =
    are_all_after byte bytes next (all refl) ((Decides-eqb next byte).0 (sym told ∙ is))
one_byte_more byte bytes next false after all told is = absurd (false≢true (sym told ∙ is))
