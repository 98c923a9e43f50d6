-- What a script says, whichever its language: its lines are answered in order, up to the first
-- that is not in the grammar.
use Rattle.std.specs.Prelude.{◌≡◌, ◌⊎◌, ◌||◌, ◌<◌, ℕ, ◌+◌, nat_lt, nat_le, Bool}
use Rattle.std.specs.Prelude.{if◌then◌else◌, List, [], ◌∷◌, ◌++◌, length, take, Option, None, Some}
use Rattle.std.specs.Option.{option_map_or}
use Rattle.std.specs.Borrow.{Bor}
use Rattle.scripts.specs.declared.lines.TheConstants.{LINE_FEED}
use Rattle.scripts.specs.declared.script.TheConstants.{MAX_LINE, MAX_SCRIPT}
use Rattle.scripts.specs.Lines.{lines_of, cut_line_of}

-- the answer to a line, without its line end, and the state after it
pub record Answered (S : Type 0) : Type 0 where
  pub text : List ℕ
  pub after : S

-- A language of scripts over a state. A line that is not in its grammar gives `None`.
pub record Language (S : Type 0) : Type 0 where
  pub opened_by : List ℕ → Option S  -- the state that the first line opens
  pub answer_to : S → List ℕ → Option (Answered S)  -- what each other line does
  pub closing_line : S → List ℕ  -- what is written after the last line

-- what a script writes, and the first line that is not in the grammar, counted from 1
pub record Transcript : Type 0 where
  pub output : List ℕ
  pub fault : Option ℕ

-- nothing is written, and the line with this number is at fault
abbrev pub fault_at : ℕ → Transcript
fault_at number = record { output = []; fault = Some number }

-- an answer with its line end, before what the other lines say
abbrev pub answer_then : List ℕ → Transcript → Transcript
answer_then text told = record { output = text ++ LINE_FEED ∷ told.output; fault = told.fault }

-- what a line gives, if it is not too long
abbrev pub if_fits : {A : Type 0} → (List ℕ → Option A) → List ℕ → Option A
if_fits read line = if nat_le (length line) MAX_LINE then read line else None

-- how far a script has come
pub record Stage (S : Type 0) : Type 0 where
  pub state : S
  pub number : ℕ  -- of the line to come, counted from 1

-- it has come to this state, and to the line with this number
abbrev pub stage : {S : Type 0} → S → ℕ → Stage S
stage state number = record { state = state; number = number }

-- what these lines say, from where a script has come to. After them comes the end of the script, or
-- a line that is cut or begins too far on.
abbrev pub told_from : {S : Type 0} → Language S → Bool → Stage S → List (List ℕ) → Transcript
told_from {S} language is_cut here [] =
    if is_cut
    then fault_at here.number
    else record { output = language.closing_line here.state; fault = None }
told_from {S} language is_cut here (line ∷ lines) =
    option_map_or
    (λ (answered : Answered S). answer_then answered.text
    (told_from language is_cut (stage answered.after (here.number + 1)) lines))
    (if_fits (language.answer_to here.state) line)
    (fault_at here.number)

-- what a script of these lines says
abbrev pub lines_told : {S : Type 0} → Language S → Bool → List (List ℕ) → Transcript
lines_told language is_cut [] = fault_at 1
lines_told language is_cut (line ∷ lines) =
    option_map_or (λ s. told_from language is_cut (stage s 2) lines)
    (if_fits language.opened_by line)
    (fault_at 1)

-- whether bytes follow the last whole line of the text, or follow the text
abbrev pub is_cut_off : List ℕ → Bool
is_cut_off input =
    nat_lt MAX_SCRIPT (length input) || nat_lt 0 (length (cut_line_of (take MAX_SCRIPT input)))

-- what a script says, as a function of its bytes
abbrev pub told : {S : Type 0} → Language S → List ℕ → Transcript
told language input = lines_told language (is_cut_off input) (lines_of (take MAX_SCRIPT input))

-- What a program that follows a language keeps of a state, in its own form: T stands for S where
-- `stands` says so.

-- the line opened this, as the language says
abbrev pub Opens : {T S : Type 0} → (T → S → Type 0) → Option S → Option T → Type 0
Opens stands None None = Unit {0}
Opens stands (Some s) (Some t) = stands t s
Opens stands None (Some t) = ⊥
Opens stands (Some s) None = ⊥

-- a text after which something may be written: as it was before, and as it is after
pub record Growth : Type 0 where
  pub before : List ℕ
  pub after : List ℕ

-- the text went from one to the other
abbrev pub growth : List ℕ → List ℕ → Growth
growth before after = record { before = before; after = after }

-- a program that follows a language
pub record Following (S : Type 0) : Type 1 where
  pub language : Language S
  pub from : S  -- the state for which what it kept stood before
  pub StandsFor : S → Type 0  -- whether what it keeps now stands for a state

-- the program went on from this state of the language, and what it keeps now stands for these
-- states
abbrev pub following : {S : Type 0} → Language S → S → (S → Type 0) → Following S
following language from StandsFor =
    record { language = language; from = from; StandsFor = StandsFor }

-- The text begins with a line, and the rest follows. The line was answered, and its answer comes
-- after what was written before.
pub record FirstAnswered {S : Type 0} (follows : Following S) (text rest : List ℕ)
    (output : Growth) : Type 0 where
  pub line : List ℕ
  pub answered : Answered S
  pub lines : lines_of text ≡ line ∷ lines_of rest
  pub cut : cut_line_of text ≡ cut_line_of rest
  pub shorter : length rest < length text
  pub in_grammar : if_fits (follows.language.answer_to follows.from) line ≡ Some answered
  pub stands_after : follows.StandsFor answered.after
  pub written : output.after ≡ output.before ++ answered.text ++ LINE_FEED ∷ []

-- the text has no whole line, or its first line is not in the grammar
abbrev pub IsStuck : {S : Type 0} → Following S → List ℕ → Type 0
IsStuck follows text =
    ((lines_of text ≡ []) × follows.StandsFor follows.from)
    ⊎ ((line : List ℕ) × (lines : List (List ℕ)) × (lines_of text ≡ line ∷ lines)
    × (if_fits (follows.language.answer_to follows.from) line ≡ None))

-- the first line of the text was answered, or no line could be
abbrev pub AnswersFirst : {S : Type 0} → Following S → List ℕ → Option (Bor (List ℕ)) → Growth
    → Type 0
AnswersFirst follows text (Some rest) output = FirstAnswered follows text rest.now output
AnswersFirst follows text None output = IsStuck follows text × (output.after ≡ output.before)

-- what follows a line is shorter than the text
abbrev pub IsShorter : Option (Bor (List ℕ)) → List ℕ → Type 0
IsShorter (Some rest) text = length rest.now < length text
IsShorter None text = Unit {0}
