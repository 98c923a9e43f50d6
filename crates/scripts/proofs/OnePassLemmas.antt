-- Lines that are read in one pass: words that are found one after the other make a line, and where
-- one of them is not found no line makes them.
use Rattle.std.proofs.Common.{◌≡◌, ◌≤◌, ℕ, suc, ◌+◌, ◌&&◌, Bool, true, false, not, List, [], ◌∷◌}
use Rattle.std.proofs.Common.{◌++◌, length, take, Option, Some, None, Bor, refl, ap, sym, subst}
use Rattle.std.proofs.Common.{◌∙◌}
use Rattle.std.proofs.Common.{append_assoc, append-nil, ◌<◌, if◌then◌else◌, arith, length-append}
use Rattle.std.proofs.Common.{MatchOption, Result, Ok, Err, IfOk}
use Rattle.std.specs.List.{list_all}
use Rattle.std.proofs.Math.Seq.{take-length}
use Rattle.std.specs.Char.{is_ascii_digit}
use Rattle.std.proofs.lemmas.List.Folds.{list_all-append}
use Rattle.std.proofs.lemmas.Bool.Decides.{nat_tests}
use Rattle.std.proofs.lemmas.Slice.Eq.{bytes_eq-Decides}
use Rattle.scripts.specs.declared.lines.TheConstants.{COMMA, LINE_FEED, SPACE}
use Rattle.scripts.specs.declared.script.TheConstants.{MAX_LINE}
use Rattle.scripts.specs.Lines.{is_comma, is_line_feed, is_space, is_word, parts_of, all_but_last}
use Rattle.scripts.specs.Lines.{last_of, lines_of, cut_line_of, words_of, BeginsWithNumber}
use Rattle.scripts.specs.Lines.{BeginsWithLine}
use Rattle.scripts.specs.Lines.{BeginsWithNoNumber, FirstNumber, LineAsks, NoLineAsks, number_of}
use Rattle.scripts.specs.ScriptLaws.{lines_text}
use Rattle.scripts.proofs.TextLemmas.{IsPlain, ArePlain, plain_lines, lines_text-lines}
use Rattle.scripts.proofs.LineLemmas.{parts_of-part, parts_of-plain, parts_of-some}
use Rattle.scripts.proofs.LineLemmas.{all_but_last-cons, last_of-cons}
use Rattle.scripts.proofs.NumberLemmas.{number_digits}
use Rattle.scripts.proofs.PartLemmas.{TailHas, first_passes, parted, second_passes}

-- what has neither a space nor a line feed in it
pub record IsWord (word : List ℕ) : Type 0 where
  -- none of its bytes is a space
  pub no_space : list_all (λ b. not (is_space b)) word ≡ true
  -- and none is a line feed
  pub no_line_feed : list_all (λ b. not (is_line_feed b)) word ≡ true

-- what passes one test passes another
pub passes_too : (q p : ℕ → Bool) → ((b : ℕ) → q b ≡ true → p b ≡ true)
    → (word : List ℕ) → list_all q word ≡ true → list_all p word ≡ true
passes_too q p each [] digits = refl
passes_too q p each (b ∷ word) digits =
    step (q b) refl digits (passes_too q p each word)
  where
    step : (v : Bool) → q b ≡ v → (v && list_all q word) ≡ true
        → (list_all q word ≡ true → list_all p word ≡ true)
        → (p b && list_all p word) ≡ true
    step true is rest more = ap (λ v. v && list_all p word) (each b is) ∙ more rest
    step false is rest more = cc

-- digits make a word
pub digits_are_word : (word : List ℕ) → list_all is_ascii_digit word ≡ true → IsWord word
digits_are_word word digits =
    record {
      no_space = passes_too is_ascii_digit (λ b. not (is_space b))
          (λ b is. grind (arith, nat_tests)) word
          digits;
      no_line_feed = passes_too is_ascii_digit
          (λ b. not (is_line_feed b)) (λ b is. grind (arith, nat_tests)) word digits;
    }

-- digits hold no comma
pub digits_no_comma : (word : List ℕ) → list_all is_ascii_digit word ≡ true
    → list_all (λ b. not (is_comma b)) word ≡ true
digits_no_comma word digits =
    passes_too is_ascii_digit (λ b. not (is_comma b)) (λ b is. grind (arith, nat_tests)) word digits

-- so does what spells a number
pub number_is_word : (word : List ℕ) (n : ℕ) → number_of word ≡ Some n → IsWord word
number_is_word word n is = digits_are_word word (number_digits word n is)

-- a number that is all of a list
pub first_number_all : (list : List ℕ) (n count : ℕ) → number_of (take count list) ≡ Some n
    → count ≡ length list → FirstNumber list n None
first_number_all list n count spells all =
    let whole : take count list ≡ list = ap (λ m. take m list) all ∙ take-length list in
    let is : number_of list ≡ Some n = rw whole at spells in
    record {
      word = list;
      parts = parts_of-plain is_comma list (digits_no_comma list (number_digits list n is));
      spells = is;
    }

-- a number before a comma
pub first_number_before : (list : List ℕ) (n count : ℕ) (rest : Bor (List ℕ))
    → number_of (take count list) ≡ Some n → list ≡ take count list ++ COMMA ∷ rest.now
    → FirstNumber list n (Some rest)
first_number_before list n count rest spells split =
    record {
      word = take count list;
      parts = ap (parts_of is_comma) split
          ∙ parts_of-part is_comma (take count list) COMMA rest.now
          (digits_no_comma (take count list) (number_digits (take count list) n spells)) refl;
      spells = spells;
    }

-- a word that a line feed follows is a line
pub line_of_word : (text word rest : List ℕ) → text ≡ word ++ LINE_FEED ∷ rest → IsWord word
    → BeginsWithLine text (word ∷ []) rest
line_of_word text word rest split is =
    record {
      line = word;
      split = split;
      plain = is.no_line_feed;
      words_are = parts_of-plain is_space word is.no_space;
    }

-- a word and a space before a line make a line
pub line_after_word : (text word mid : List ℕ) (words : List (List ℕ)) (rest : List ℕ)
    → text ≡ word ++ SPACE ∷ mid → IsWord word → BeginsWithLine mid words rest
    → BeginsWithLine text (word ∷ words) rest
line_after_word text word mid words rest split is begins =
    record {
      line = word ++ SPACE ∷ begins.line;
      split = split ∙ (ap (λ (t : List ℕ). word ++ SPACE ∷ t) begins.split
          ∙ sym (append_assoc word (SPACE ∷ begins.line) (LINE_FEED ∷ rest)));
      plain = list_all-append (λ b. not (is_line_feed b)) word (SPACE ∷ begins.line)
          ∙ (ap (λ v. v && list_all (λ b. not (is_line_feed b)) begins.line) is.no_line_feed
          ∙ begins.plain);
      words_are = parts_of-part is_space word SPACE begins.line is.no_space refl
          ∙ ap (λ (ws : List (List ℕ)). word ∷ ws) begins.words_are;
    }

-- a text that begins with a line has it first, and is cut where the rest of it is
pub begins_lines : (text : List ℕ) (words : List (List ℕ)) (rest : List ℕ)
    (begins : BeginsWithLine text words rest)
    → (lines_of text ≡ begins.line ∷ lines_of rest) × (cut_line_of text ≡ cut_line_of rest)
begins_lines text words rest begins =
    let parts : parts_of is_line_feed text ≡ begins.line ∷ parts_of is_line_feed rest =
    ap (parts_of is_line_feed) begins.split
    ∙ parts_of-part is_line_feed begins.line LINE_FEED rest begins.plain refl in (
      ap all_but_last parts ∙ all_but_last-cons begins.line (parts_of is_line_feed rest)
          (parts_of-some is_line_feed rest),
      ap last_of parts ∙ last_of-cons begins.line (parts_of is_line_feed rest)
          (parts_of-some is_line_feed rest),
    )

-- the line is as long as the text is longer than its rest, but for the line feed
pub begins_length : (text : List ℕ) (words : List (List ℕ)) (rest : List ℕ)
    (begins : BeginsWithLine text words rest)
    → length text ≡ length begins.line + suc (length rest)
begins_length text words rest begins =
    ap length begins.split ∙ length-append begins.line (LINE_FEED ∷ rest)

-- the last number of a line
pub ends_line : (text : List ℕ) (n : ℕ) (rest : List ℕ)
    (begins : BeginsWithNumber LINE_FEED text n rest)
    → BeginsWithLine text (begins.word ∷ []) rest
ends_line text n rest begins =
    line_of_word text begins.word rest begins.split (number_is_word begins.word n begins.spells)

-- a number before others
pub after_number : (text : List ℕ) (n : ℕ) (mid : List ℕ) (words : List (List ℕ))
    (rest : List ℕ) (begins : BeginsWithNumber SPACE text n mid) → BeginsWithLine mid words rest
    → BeginsWithLine text (begins.word ∷ words) rest
after_number text n mid words rest begins line =
    line_after_word text begins.word mid words rest begins.split
    (number_is_word begins.word n begins.spells) line

-- no line feed stands in a line
plain_line : (line : List ℕ) → IsPlain line → list_all (λ b. not (is_line_feed b)) line ≡ true
plain_line [] plain = refl
plain_line (b ∷ line) plain =
    ap (λ v. not v && list_all (λ b. not (is_line_feed b)) line) plain.0
    ∙ plain_line line plain.1

-- a line that is split off begins the text
pub line_begins : (text line rest : List ℕ) → lines_of text ≡ line ∷ lines_of rest
    → cut_line_of text ≡ cut_line_of rest → BeginsWithLine text (words_of line) rest
line_begins text line rest is cut =
    let all_plain : ArePlain (line ∷ lines_of rest) = subst ArePlain is (plain_lines text) in
    record {
      line = line;
      split = sym (lines_text-lines text)
          ∙ (ap (λ (ls : List (List ℕ)). lines_text ls ++ cut_line_of text) is
          ∙ (ap (λ (c : List ℕ). lines_text (line ∷ lines_of rest) ++ c) cut
          ∙ (append_assoc line (LINE_FEED ∷ lines_text (lines_of rest)) (cut_line_of rest)
          ∙ ap (λ (t : List ℕ). line ++ LINE_FEED ∷ t) (lines_text-lines rest))));
      plain = plain_line line all_plain.0;
      words_are = refl;
    }

-- a text with no line asks for nothing
pub no_line : {A : Type 0} (asked : List (List ℕ) → Option A) (text : List ℕ) → lines_of text ≡ []
    → NoLineAsks asked text
no_line asked text none words rest begins fits =
    let is = (begins_lines text words rest begins).0 in
    let both : [] ≡ begins.line ∷ lines_of rest = sym none ∙ is in
    let long = ap (λ (ls : List (List ℕ)). length ls) both in
    absurd (omega (arith, long))

-- a line that begins as the text does goes on as the text does
record GoesOnAfter (word mid line rest : List ℕ) : Type 0 where
  -- what the line has after the word and the space
  pub after : List ℕ
  -- they are the line
  pub line_is : line ≡ word ++ SPACE ∷ after
  -- and what the text has there begins with it
  pub mid_is : mid ≡ after ++ LINE_FEED ∷ rest

line_goes_on : (word mid line rest : List ℕ)
    → list_all (λ b. not (is_line_feed b)) word ≡ true
    → word ++ SPACE ∷ mid ≡ line ++ LINE_FEED ∷ rest → GoesOnAfter word mid line rest
line_goes_on [] mid [] rest plain same =
    let bad : SPACE ≡ LINE_FEED = cc in absurd (omega (arith, bad))
line_goes_on [] mid (b ∷ line) rest plain same =
    let first : b ≡ SPACE = cc in
    let beyond : mid ≡ line ++ LINE_FEED ∷ rest = cc in
    record {
      after = line;
      line_is = ap (λ b. b ∷ line) first;
      mid_is = beyond;
    }
line_goes_on (w ∷ word) mid [] rest plain same =
    let first : w ≡ LINE_FEED = cc in
    let is : not (is_line_feed w) ≡ true =
    first_passes _ (list_all (λ b. not (is_line_feed b)) word) plain in
    absurd (grind (arith, nat_tests))
line_goes_on (w ∷ word) mid (b ∷ line) rest plain same =
    let first : b ≡ w = cc in
    let beyond : word ++ SPACE ∷ mid ≡ line ++ LINE_FEED ∷ rest = cc in
    let more = line_goes_on word mid line rest (second_passes (not (is_line_feed w)) _ plain) beyond
    in
    record {
      after = more.after;
      line_is = ap (λ b. b ∷ line) first ∙ ap (λ (t : List ℕ). w ∷ t) more.line_is;
      mid_is = more.mid_is;
    }

-- no line feed stands after a word of a line
plain_after : (word after : List ℕ)
    → list_all (λ b. not (is_line_feed b)) (word ++ SPACE ∷ after) ≡ true
    → list_all (λ b. not (is_line_feed b)) after ≡ true
plain_after [] after plain = plain
plain_after (w ∷ word) after plain =
    plain_after word after (second_passes (not (is_line_feed w)) _ plain)

-- after a word a text asks for nothing where no line after it completes the word
pub none_after_word : {A : Type 0} (asked : List (List ℕ) → Option A) (text word mid : List ℕ)
    → text ≡ word ++ SPACE ∷ mid → IsWord word → NoLineAsks (λ words. asked (word ∷ words)) mid
    → NoLineAsks asked text
none_after_word asked text word mid split is none words rest begins fits =
    let goes = line_goes_on word mid begins.line rest is.no_line_feed (sym split ∙ begins.split) in
    let words_are : word ∷ words_of goes.after ≡ words =
    sym (parts_of-part is_space word SPACE goes.after is.no_space refl)
    ∙ (ap words_of (sym goes.line_is) ∙ begins.words_are) in
    let long = ap length goes.line_is ∙ length-append word (SPACE ∷ goes.after) in
    ap asked (sym words_are) ∙ none (words_of goes.after) rest
    (record {
      line = goes.after;
      split = goes.mid_is;
      plain = plain_after word goes.after (rw goes.line_is at begins.plain);
      words_are = refl;
    }) (omega (arith, long, fits))

-- the same after a word that spells a number
pub none_after_number : {A : Type 0} (asked : List (List ℕ) → Option A) (text : List ℕ) (n : ℕ)
    (mid : List ℕ) (begins : BeginsWithNumber SPACE text n mid)
    → NoLineAsks (λ words. asked (begins.word ∷ words)) mid → NoLineAsks asked text
none_after_number asked text n mid begins none =
    none_after_word asked text begins.word mid begins.split
    (number_is_word begins.word n begins.spells) none

-- what is none by each number is none
by_number : {A : Type 0} (word : List ℕ) (o : Option A) → (number_of word ≡ None → o ≡ None)
    → ((n : ℕ) → ¬ (number_of word ≡ Some n)) → o ≡ None
by_number word o each never = by_value (number_of word) refl
  where
    by_value : (v : Option ℕ) → number_of word ≡ v → o ≡ None
    by_value None none = each none
    by_value (Some n) some = absurd (never n some)

-- where no number stands before a space, a text asks for nothing that wants one and more words
pub none_before_space : {A : Type 0} (asked : List (List ℕ) → Option A) (text : List ℕ)
    → BeginsWithNoNumber SPACE text → ((word : List ℕ) → asked (word ∷ []) ≡ None)
    → ((word : List ℕ) (words : List (List ℕ)) → number_of word ≡ None
    → asked (word ∷ words) ≡ None)
    → NoLineAsks asked text
none_before_space asked text never alone wrong words rest begins fits =
    let first = parted SPACE begins.line in
    ap asked (sym (sym first.parts ∙ begins.words_are))
    ∙ by_tail first.word first.tail first.others first.beyond first.split
  where
    by_tail : (front tail : List ℕ) (others : List (List ℕ)) → TailHas SPACE tail others
        → begins.line ≡ front ++ tail → asked (front ∷ others) ≡ None
    by_tail front [] [] beyond split = alone front
    by_tail front [] (word ∷ others) beyond split = absurd beyond
    by_tail front (b ∷ tail) others beyond split =
        by_number front (asked (front ∷ others)) (wrong front others)
        (λ n spells. never n (tail ++ LINE_FEED ∷ rest) (record {
          word = front;
          split = begins.split ∙ (ap (λ (l : List ℕ). l ++ LINE_FEED ∷ rest) split
              ∙ (append_assoc front (b ∷ tail) (LINE_FEED ∷ rest)
              ∙ ap (λ b. front ++ b ∷ (tail ++ LINE_FEED ∷ rest)) beyond.0));
          spells = spells;
        }))

-- where none stands before a line feed, it asks for nothing that wants one and no word more
pub none_before_line_feed : {A : Type 0} (asked : List (List ℕ) → Option A) (text : List ℕ)
    → BeginsWithNoNumber LINE_FEED text
    → ((word : List ℕ) → number_of word ≡ None → asked (word ∷ []) ≡ None)
    → ((word next : List ℕ) (words : List (List ℕ)) → asked (word ∷ next ∷ words) ≡ None)
    → NoLineAsks asked text
none_before_line_feed asked text never wrong long words rest begins fits =
    let first = parted SPACE begins.line in
    ap asked (sym (sym first.parts ∙ begins.words_are))
    ∙ by_tail first.word first.tail first.others first.beyond first.split
  where
    by_others : (front : List ℕ) (others : List (List ℕ)) → 0 < length others
        → asked (front ∷ others) ≡ None
    by_others front [] some = absurd (omega (arith, some))
    by_others front (next ∷ others) some = long front next others

    by_tail : (front tail : List ℕ) (others : List (List ℕ)) → TailHas SPACE tail others
        → begins.line ≡ front ++ tail → asked (front ∷ others) ≡ None
    by_tail front [] [] beyond split =
        by_number front (asked (front ∷ [])) (wrong front)
        (λ n spells. never n rest (record {
          word = front;
          split = begins.split ∙ ap (λ (l : List ℕ). l ++ LINE_FEED ∷ rest)
              (split ∙ append-nil front);
          spells = spells;
        }))
    by_tail front [] (word ∷ others) beyond split = absurd beyond
    by_tail front (b ∷ tail) others beyond split =
        by_others front others (rw beyond.1 (parts_of-some is_space tail))

-- a word before the words of a line asks with them for what it makes of what they ask for
pub asks_after_word : {A B : Type 0} (inner : List (List ℕ) → Option A)
    (outer : List (List ℕ) → Option B) (text word mid rest : List ℕ) (a : A) (b : B)
    → text ≡ word ++ SPACE ∷ mid → IsWord word
    → ((words : List (List ℕ)) → inner words ≡ Some a → outer (word ∷ words) ≡ Some b)
    → LineAsks inner mid a rest → LineAsks outer text b rest
asks_after_word inner outer text word mid rest a b split is each line =
    record {
      words = word ∷ line.words;
      begins = line_after_word text word mid line.words rest split is line.begins;
      asks = each line.words line.asks;
    }

-- and for nothing where they do
pub none_asked_after : {A B : Type 0} (inner : List (List ℕ) → Option A)
    (outer : List (List ℕ) → Option B) (text word mid : List ℕ) → text ≡ word ++ SPACE ∷ mid
    → IsWord word → ((words : List (List ℕ)) → inner words ≡ None → outer (word ∷ words) ≡ None)
    → NoLineAsks inner mid → NoLineAsks outer text
none_asked_after inner outer text word mid split is each none =
    none_after_word outer text word mid split is
    (λ words rest begins fits. each words (none words rest begins fits))

-- a text whose first line asks for nothing, where that line is not too long
pub none_on_line : {A : Type 0} (asked : List (List ℕ) → Option A) (text line rest : List ℕ)
    → lines_of text ≡ line ∷ lines_of rest → (length line ≤ MAX_LINE → asked (words_of line) ≡ None)
    → NoLineAsks asked text
none_on_line asked text line rest is none words after begins fits =
    let same : begins.line ∷ lines_of after ≡ line ∷ lines_of rest =
    sym (begins_lines text words after begins).0 ∙ is in
    let line_is : begins.line ≡ line = cc in
    ap asked (sym begins.words_are ∙ ap words_of line_is) ∙ none (rw line_is at fits)

-- a line asks for nothing where it does not as one word, and no two words do
pub none_of_words : {A : Type 0} (asked : List (List ℕ) → Option A) (line : List ℕ)
    → asked (line ∷ []) ≡ None
    → ((word next : List ℕ) (words : List (List ℕ)) → asked (word ∷ next ∷ words) ≡ None)
    → asked (words_of line) ≡ None
none_of_words {A} asked line alone long =
    let first = parted SPACE line in
    ap asked first.parts ∙ by_tail first.word first.tail first.others first.beyond first.split
  where
    by_others : (front : List ℕ) (others : List (List ℕ)) → 0 < length others
        → asked (front ∷ others) ≡ None
    by_others front [] some = absurd (omega (arith, some))
    by_others front (next ∷ others) some = long front next others

    by_tail : (front tail : List ℕ) (others : List (List ℕ)) → TailHas SPACE tail others
        → line ≡ front ++ tail → asked (front ∷ others) ≡ None
    by_tail front [] [] beyond split =
        subst (λ (w : List ℕ). asked (w ∷ []) ≡ None) (split ∙ append-nil front) alone
    by_tail front [] (word ∷ others) beyond split = absurd beyond
    by_tail front (b ∷ tail) others beyond split =
        by_others front others (rw beyond.1 (parts_of-some is_space tail))

-- a word is the one that it is read as, where the first test of several reads it
pub read_as : {A : Type 0} (spelt : A → List ℕ) (word text : List ℕ) (a b : A) (others : Option A)
    → (if is_word word text then Some a else others) ≡ Some b → text ≡ spelt a
    → (others ≡ Some b → word ≡ spelt b) → word ≡ spelt b
read_as {A} spelt word text a b others is spells each = by_test (is_word word text) refl is
  where
    by_test : (v : Bool) → is_word word text ≡ v → (if v then Some a else others) ≡ Some b
        → word ≡ spelt b
    by_test true same is =
        let which : a ≡ b = cc in
        (bytes_eq-Decides word text).0 same ∙ (spells ∙ ap spelt which)
    by_test false other is = each is

-- what holds of what was found, or of finding nothing, by one reading holds of it by another
pub found_by : {X : Type 0} (found : Option X) (N M : Type 0) (F G : X → Type 0) → (N → M)
    → ((x : X) → F x → G x) → MatchOption found N F → MatchOption found M G
found_by None N M F G none some holds = none holds
found_by (Some x) N M F G none some holds = some x holds

-- and so it does where memory may have run out in between
pub found_by_ok : {X E : Type 0} (result : Result (Option X) E) (N M : Type 0) (F G : X → Type 0)
    → (N → M) → ((x : X) → F x → G x) → IfOk result (λ found. MatchOption found N F)
    → IfOk result (λ found. MatchOption found M G)
found_by_ok (Ok found) N M F G none some holds = found_by found N M F G none some holds
found_by_ok (Err e) N M F G none some holds = holds
