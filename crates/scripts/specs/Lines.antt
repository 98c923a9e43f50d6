-- The lines, words and numbers of a script, as docs/SCRIPTS.md describes them.
use Rattle.std.specs.Prelude.{◌≡◌, ◌<◌, ◌≤◌, true, false, length, take, get_or, ◌++◌, ◌==◌, ◌&&◌}
use Rattle.std.specs.Prelude.{ℕ, ◌+◌, ◌-◌, ◌*◌}
use Rattle.std.specs.Prelude.{◌^◌, nat_lt, nat_le, Bool, not, if◌then◌else◌, List, [], ◌∷◌, fold}
use Rattle.std.specs.Prelude.{Option, None, Some, option_and_then}
use Rattle.std.specs.List.{list_all}
use Rattle.std.specs.Borrow.{Bor}
use Rattle.std.specs.Str.{bytes_eq}
use Rattle.std.specs.Char.{is_ascii_digit}
use Rattle.scripts.specs.declared.lines.TheConstants.{LINE_FEED, SPACE, COMMA, ZERO}
use Rattle.scripts.specs.declared.script.TheConstants.{MAX_LINE}

-- whether a byte ends a line
abbrev pub is_line_feed : ℕ → Bool
is_line_feed b = b == LINE_FEED

-- whether a byte comes between words
abbrev pub is_space : ℕ → Bool
is_space b = b == SPACE

-- whether a byte comes between kinds of notes
abbrev pub is_comma : ℕ → Bool
is_comma b = b == COMMA

-- a byte before these parts belongs to the first of them
abbrev pub onto_first : ℕ → List (List ℕ) → List (List ℕ)
onto_first b [] = []
onto_first b (part ∷ parts) = (b ∷ part) ∷ parts

-- the parts of a text between the bytes that part it; two such bytes have an empty part between
-- them
abbrev pub parts_of : (ℕ → Bool) → List ℕ → List (List ℕ)
parts_of is_parting [] = [] ∷ []
parts_of is_parting (b ∷ bs) =
    if is_parting b then [] ∷ parts_of is_parting bs else onto_first b (parts_of is_parting bs)

-- all of these but the last
abbrev pub all_but_last : List (List ℕ) → List (List ℕ)
all_but_last [] = []
all_but_last (part ∷ []) = []
all_but_last (part ∷ next ∷ parts) = part ∷ all_but_last (next ∷ parts)

-- the last of these
abbrev pub last_of : List (List ℕ) → List ℕ
last_of [] = []
last_of (part ∷ []) = part
last_of (part ∷ next ∷ parts) = last_of (next ∷ parts)

-- the lines that a line feed ends, in order, without it
abbrev pub lines_of : List ℕ → List (List ℕ)
lines_of text = all_but_last (parts_of is_line_feed text)

-- what follows the last line feed: a line that the end of the text cuts, or nothing
abbrev pub cut_line_of : List ℕ → List ℕ
cut_line_of text = last_of (parts_of is_line_feed text)

-- the words of a line: one space is between each two
abbrev pub words_of : List ℕ → List (List ℕ)
words_of line = parts_of is_space line

-- the parts of what follows a parting byte, if there was one
abbrev pub parts_of_rest : (ℕ → Bool) → Option (Bor (List ℕ)) → List (List ℕ)
parts_of_rest is_parting None = []
parts_of_rest is_parting (Some rest) = parts_of is_parting rest.now

-- the words of what follows a space
abbrev pub words_of_rest : Option (Bor (List ℕ)) → List (List ℕ)
words_of_rest rest = parts_of_rest is_space rest

-- the first four bytes of a text as one number, of which the first is the lowest
abbrev pub four_of : List ℕ → ℕ
four_of text =
    get_or text 0 0 + 256 * get_or text 1 0 + 65536 * get_or text 2 0 + 16777216 * get_or text 3 0

-- the first four are bytes
pub record FourAreBytes (text : List ℕ) : Type 0 where
  pub first : get_or text 0 0 < 256
  pub second : get_or text 1 0 < 256
  pub third : get_or text 2 0 < 256
  pub fourth : get_or text 3 0 < 256

-- whether a word is this one
abbrev pub is_word : List ℕ → List ℕ → Bool
is_word word other = bytes_eq word other

-- the number that digits spell
abbrev pub decimal_value : List ℕ → ℕ
decimal_value digits = fold (λ n digit. 10 * n + (digit - ZERO)) 0 digits

-- the number below 2^64 that digits spell
abbrev pub value_of : List ℕ → Option ℕ
value_of digits =
    if list_all is_ascii_digit digits && nat_lt (decimal_value digits) (2 ^ 64)
    then Some (decimal_value digits)
    else None

-- the number that a word spells: digits with no leading zero, but for the number 0
abbrev pub number_of : List ℕ → Option ℕ
number_of [] = None
number_of (digit ∷ []) = value_of (digit ∷ [])
number_of (digit ∷ next ∷ digits) = if digit == ZERO then None else value_of (digit ∷ next ∷ digits)

-- that number, where it is in this range
abbrev pub number_within : ℕ → ℕ → List ℕ → Option ℕ
number_within least most word =
    option_and_then (λ n. if nat_le least n && nat_le n most then Some n else None) (number_of word)

-- the first bytes of the text are this many digits, which spell this number
pub record LeadingDigits (text : List ℕ) (number count : ℕ) : Type 0 where
  pub within : count ≤ length text
  pub digits : list_all is_ascii_digit (take count text) ≡ true
  pub value : number ≡ decimal_value (take count text)

-- these are all digits that the text begins with
pub record AllLeadingDigits (text : List ℕ) (number count : ℕ) : Type 0 where
  pub leading : LeadingDigits text number count
  pub end : is_ascii_digit (get_or text count 0) ≡ false

-- the text begins with digits that spell 2^64 or more
pub record TooLarge (text : List ℕ) : Type 0 where
  pub count : ℕ
  pub within : count ≤ length text
  pub digits : list_all is_ascii_digit (take count text) ≡ true
  pub large : 2 ^ 64 ≤ decimal_value (take count text)

-- the first part of a list spells this number, and this follows the comma after it
pub record FirstNumber (list : List ℕ) (number : ℕ) (rest : Option (Bor (List ℕ))) : Type 0 where
  pub word : List ℕ
  pub parts : parts_of is_comma list ≡ word ∷ parts_of_rest is_comma rest
  pub spells : number_of word ≡ Some number

-- the first part of a list spells no number
abbrev pub FirstIsNoNumber : List ℕ → Type 0
FirstIsNoNumber list =
    (word : List ℕ) (words : List (List ℕ)) → parts_of is_comma list ≡ word ∷ words
    → number_of word ≡ None

-- the text begins with a word that spells this number, and then this byte, before the rest
pub record BeginsWithNumber (end : ℕ) (text : List ℕ) (number : ℕ) (rest : List ℕ) : Type 0 where
  pub word : List ℕ
  pub split : text ≡ word ++ end ∷ rest
  pub spells : number_of word ≡ Some number

-- the text begins with no such word
abbrev pub BeginsWithNoNumber : ℕ → List ℕ → Type 0
BeginsWithNoNumber end text = (number : ℕ) (rest : List ℕ) → ¬ BeginsWithNumber end text number rest

-- the text begins with a line of these words, before the rest
pub record BeginsWithLine (text : List ℕ) (words : List (List ℕ)) (rest : List ℕ) : Type 0 where
  pub line : List ℕ
  pub split : text ≡ line ++ LINE_FEED ∷ rest
  pub plain : list_all (λ b. not (is_line_feed b)) line ≡ true
  pub words_are : words_of line ≡ words

-- the text begins with a line whose words ask for this, before the rest
pub record LineAsks {A : Type 0} (asked_by : List (List ℕ) → Option A) (text : List ℕ) (asked : A)
    (rest : List ℕ) : Type 0 where
  pub words : List (List ℕ)
  pub begins : BeginsWithLine text words rest
  pub asks : asked_by words ≡ Some asked

-- the text begins with no line whose words ask for anything, unless that line is too long
abbrev pub NoLineAsks : {A : Type 0} → (List (List ℕ) → Option A) → List ℕ → Type 0
NoLineAsks asked_by text =
    (words : List (List ℕ)) (rest : List ℕ) (begins : BeginsWithLine text words rest)
    → length begins.line ≤ MAX_LINE → asked_by words ≡ None
