-- Lines without a line feed make a text, and the text gives them back.
use Rattle.std.proofs.Common.{◌≡◌, ℕ, zero, suc, ◌<◌, ◌≤◌, Bool, true, false, cond, List, [], ◌∷◌}
use Rattle.std.proofs.Common.{◌++◌, length, take, drop, refl, ap, sym, ◌∙◌, append_assoc, arith}
use Rattle.std.proofs.Common.{length-append}
use Rattle.std.proofs.lemmas.List.{take-append-drop}
use Rattle.std.proofs.lemmas.Bool.Decides.{nat_tests}
use Rattle.scripts.specs.Lines.{is_line_feed, parts_of, onto_first, all_but_last, last_of, lines_of}
use Rattle.scripts.specs.Lines.{cut_line_of}
use Rattle.scripts.specs.ScriptLaws.{lines_text}
use Rattle.scripts.proofs.LineLemmas.{parts_of-some, all_but_last-cons, last_of-cons}

-- no line feed stands in the line, and none in these lines
abbrev pub IsPlain : List ℕ → Type 0
IsPlain [] = Unit {0}
IsPlain (b ∷ bs) = (is_line_feed b ≡ false) × IsPlain bs

-- no line feed stands in these lines
abbrev pub ArePlain : List (List ℕ) → Type 0
ArePlain [] = Unit {0}
ArePlain (line ∷ lines) = IsPlain line × ArePlain lines

plain_onto : (b : ℕ) (parts : List (List ℕ)) → is_line_feed b ≡ false → ArePlain parts
    → ArePlain (onto_first b parts)
plain_onto b [] is plain = tt
plain_onto b (part ∷ parts) is plain = ((is, plain.0), plain.1)

-- none stands in the lines of a text
plain_parts : (text : List ℕ) → ArePlain (parts_of is_line_feed text)
plain_parts [] = (tt, tt)
plain_parts (b ∷ bs) = step (is_line_feed b) refl (plain_parts bs)
  where
    step : (v : Bool) → is_line_feed b ≡ v → ArePlain (parts_of is_line_feed bs)
        → ArePlain (cond v ([] ∷ parts_of is_line_feed bs)
        (onto_first b (parts_of is_line_feed bs)))
    step true is rest = (tt, rest)
    step false is rest = plain_onto b (parts_of is_line_feed bs) is rest

plain_front : (parts : List (List ℕ)) → ArePlain parts → ArePlain (all_but_last parts)
plain_front [] plain = tt
plain_front (part ∷ []) plain = tt
plain_front (part ∷ next ∷ parts) plain = (plain.0, plain_front (next ∷ parts) plain.1)

-- the lines of a text are without line feeds, and so are the first of them
pub plain_lines : (text : List ℕ) → ArePlain (lines_of text)
plain_lines text = plain_front (parts_of is_line_feed text) (plain_parts text)

-- nor in some of them
pub plain_take : (k : ℕ) (lines : List (List ℕ)) → ArePlain lines → ArePlain (take k lines)
plain_take zero lines plain = tt
plain_take (suc k) [] plain = tt
plain_take (suc k) (line ∷ lines) plain = (plain.0, plain_take k lines plain.1)

-- a line with its line feed is the first part of a text
parts_of-line : (line rest : List ℕ) → IsPlain line
    → parts_of is_line_feed (line ++ 10 ∷ rest) ≡ line ∷ parts_of is_line_feed rest
parts_of-line [] rest plain = refl
parts_of-line (b ∷ bs) rest plain =
    ap (λ v. cond v ([] ∷ parts_of is_line_feed (bs ++ 10 ∷ rest))
    (onto_first b (parts_of is_line_feed (bs ++ 10 ∷ rest)))) plain.0
    ∙ ap (onto_first b) (parts_of-line bs rest plain.1)

-- a text that begins with these lines has them first, and is cut where the rest of it is
pub lines_of-text : (lines : List (List ℕ)) (rest : List ℕ) → ArePlain lines
    → lines_of (lines_text lines ++ rest) ≡ lines ++ lines_of rest
lines_of-text [] rest plain = refl
lines_of-text (line ∷ lines) rest plain =
    ap lines_of (append_assoc line (10 ∷ lines_text lines) rest) ∙
    (ap all_but_last (parts_of-line line (lines_text lines ++ rest) plain.0) ∙
    (all_but_last-cons line (parts_of is_line_feed (lines_text lines ++ rest))
    (parts_of-some is_line_feed (lines_text lines ++ rest)) ∙
    ap (λ all. line ∷ all) (lines_of-text lines rest plain.1)))

-- what follows the last of some lines is what is cut
pub cut_line_of-text : (lines : List (List ℕ)) (rest : List ℕ) → ArePlain lines
    → cut_line_of (lines_text lines ++ rest) ≡ cut_line_of rest
cut_line_of-text [] rest plain = refl
cut_line_of-text (line ∷ lines) rest plain =
    ap cut_line_of (append_assoc line (10 ∷ lines_text lines) rest) ∙
    (ap last_of (parts_of-line line (lines_text lines ++ rest) plain.0) ∙
    (last_of-cons line (parts_of is_line_feed (lines_text lines ++ rest))
    (parts_of-some is_line_feed (lines_text lines ++ rest)) ∙
    cut_line_of-text lines rest plain.1))

-- the parts with their line feeds, but for the last, make the text
abbrev joined : List (List ℕ) → List ℕ
joined parts = lines_text (all_but_last parts) ++ last_of parts

-- a byte in front of parts goes in front of their text
joined_onto : (b : ℕ) (parts : List (List ℕ)) → 0 < length parts
    → joined (onto_first b parts) ≡ b ∷ joined parts
joined_onto b [] some = absurd (omega arith)
joined_onto b (part ∷ []) some = refl
joined_onto b (part ∷ next ∷ parts) some = refl

joined_cons : (parts : List (List ℕ)) → 0 < length parts → joined ([] ∷ parts) ≡ 10 ∷ joined parts
joined_cons [] some = absurd (omega arith)
joined_cons (part ∷ parts) some = refl

line_feed-is : (b : ℕ) → is_line_feed b ≡ true → b ≡ 10
line_feed-is b is = grind (arith, nat_tests)

-- a text is its whole lines, and what is cut
pub lines_text-lines : (text : List ℕ) → lines_text (lines_of text) ++ cut_line_of text ≡ text
lines_text-lines [] = refl
lines_text-lines (b ∷ bs) = step (is_line_feed b) refl (lines_text-lines bs)
  where
    step : (v : Bool) → is_line_feed b ≡ v → joined (parts_of is_line_feed bs) ≡ bs
        → joined (cond v ([] ∷ parts_of is_line_feed bs) (onto_first b (parts_of is_line_feed bs)))
        ≡ b ∷ bs
    step true is rest = joined_cons (parts_of is_line_feed bs) (parts_of-some is_line_feed bs)
        ∙ (ap (λ all. 10 ∷ all) rest ∙ ap (λ c. c ∷ bs) (sym (line_feed-is b is)))
    step false is rest = joined_onto b (parts_of is_line_feed bs) (parts_of-some is_line_feed bs)
        ∙ ap (λ all. b ∷ all) rest

-- a text that goes on keeps its lines
pub lines_of-append : (text rest : List ℕ)
    → lines_of (text ++ rest) ≡ lines_of text ++ lines_of (cut_line_of text ++ rest)
lines_of-append text rest =
    ap (λ t. lines_of (t ++ rest)) (sym (lines_text-lines text)) ∙
    (ap lines_of (append_assoc (lines_text (lines_of text)) (cut_line_of text) rest) ∙
    lines_of-text (lines_of text) (cut_line_of text ++ rest) (plain_lines text))

-- the text of two lists of lines
lines_text-append : (a b : List (List ℕ)) → lines_text (a ++ b) ≡ lines_text a ++ lines_text b
lines_text-append [] b = refl
lines_text-append (line ∷ a) b = ap (λ t. line ++ 10 ∷ t) (lines_text-append a b)
    ∙ sym (append_assoc line (10 ∷ lines_text a) (lines_text b))

-- the first lines of a text are no longer than it
pub first_within : (k : ℕ) (text : List ℕ)
    → length (lines_text (take k (lines_of text))) ≤ length text
first_within k text =
    let lines = lines_of text in
    let whole : length (lines_text (take k lines) ++ lines_text (drop k lines))
    ≡ length (lines_text lines) =
    ap length (sym (lines_text-append (take k lines) (drop k lines))
    ∙ ap lines_text (take-append-drop k lines)) in
    let all : length (lines_text lines ++ cut_line_of text) ≡ length text =
    ap length (lines_text-lines text) in
    omega (
      arith,
      whole,
      all,
      length-append (lines_text (take k lines)) (lines_text (drop k lines)),
      length-append (lines_text lines) (cut_line_of text),
    )
