-- What lists of lines say: longer lists go on, a closing line comes last, and a fault leaves what
-- the lines before it say.
use Rattle.std.proofs.Common.{◌≡◌, ℕ, suc, ◌+◌, ◌<◌, ◌≤◌, nat_le, Bool, true, false, cond, List, []}
use Rattle.std.proofs.Common.{◌∷◌, ◌++◌, length, take, Option, None, Some, refl, ap, sym, ◌∙◌}
use Rattle.std.proofs.Common.{append_assoc, arith}
use Rattle.std.specs.Option.{option_map_or}
use Rattle.scripts.specs.declared.script.TheConstants.{MAX_LINE}
use Rattle.scripts.specs.Script.{Language, Answered, Transcript, fault_at, answer_then, if_fits}
use Rattle.scripts.specs.Script.{told_from, lines_told, stage}
use Rattle.scripts.specs.ScriptLaws.{without_closing_line}

-- what a line that reads as this and these lines say; the first of them has this number
abbrev said_with : {S : Type 0} → Language S → Bool → ℕ → List (List ℕ) → Option (Answered S)
    → Transcript
said_with {S} language is_cut n rest answer =
    option_map_or
    (λ (answered : Answered S). answer_then answered.text
    (told_from language is_cut (stage answered.after (n + 1)) rest)) answer (fault_at n)

-- what lines say after a first line that opens this
abbrev said_from : {S : Type 0} → Language S → Bool → List (List ℕ) → Option S → Transcript
said_from language is_cut rest opened =
    option_map_or (λ s. told_from language is_cut (stage s 2) rest) opened (fault_at 1)

-- the text goes on
abbrev pub Grows : List ℕ → List ℕ → Type 0
Grows old new = (more : List ℕ) × (new ≡ old ++ more)

-- nothing is written where the lines end
no_answer : (is_cut : Bool) (n : ℕ)
    → (cond is_cut (fault_at n) (record { output = []; fault = None })).output ≡ []
no_answer true n = refl
no_answer false n = refl

-- after the same answer the text goes on
grows_after : (text old new : List ℕ) → Grows old new → Grows (text ++ 10 ∷ old) (text ++ 10 ∷ new)
grows_after text old new (more, is) =
    (more, ap (λ t. text ++ 10 ∷ t) is ∙ sym (append_assoc text (10 ∷ old) more))

-- by induction on the lines: their answers stand first, however many follow
answers_grow : {S : Type 0} (language : Language S) (is_cut goes_cut : Bool) (s : S) (n : ℕ)
    (lines more : List (List ℕ))
    → Grows (told_from (without_closing_line language) is_cut (stage s n) lines).output
    (told_from (without_closing_line language) goes_cut (stage s n) (lines ++ more)).output
answers_grow {S} language is_cut goes_cut s n [] more =
    let all = (told_from (without_closing_line language) goes_cut (stage s n) more).output in
    (all, ap (λ t. t ++ all) (sym (no_answer is_cut n)))
answers_grow {S} language is_cut goes_cut s n (line ∷ lines) more =
    step (if_fits (language.answer_to s) line)
    (λ t. answers_grow language is_cut goes_cut t (n + 1) lines more)
  where
    step : (v : Option (Answered S))
        → ((t : S)
        → Grows (told_from (without_closing_line language) is_cut (stage t (n + 1)) lines).output
        (told_from (without_closing_line language) goes_cut (stage t (n + 1))
        (lines ++ more)).output)
        → Grows (said_with (without_closing_line language) is_cut n lines v).output
        (said_with (without_closing_line language) goes_cut n (lines ++ more) v).output
    step None rest = ([], refl)
    step (Some x) rest =
        grows_after x.text
        (told_from (without_closing_line language) is_cut (stage x.after (n + 1)) lines).output
        (told_from (without_closing_line language) goes_cut (stage x.after (n + 1))
        (lines ++ more)).output
        (rest x.after)

-- longer lists of lines keep the answers
pub lines_grow : {S : Type 0} (language : Language S) (is_cut goes_cut : Bool)
    (lines more : List (List ℕ))
    → Grows (lines_told (without_closing_line language) is_cut lines).output
    (lines_told (without_closing_line language) goes_cut (lines ++ more)).output
lines_grow {S} language is_cut goes_cut [] more =
    ((lines_told (without_closing_line language) goes_cut more).output, refl)
lines_grow {S} language is_cut goes_cut (line ∷ lines) more = step (if_fits language.opened_by line)
  where
    step : (v : Option S)
        → Grows (said_from (without_closing_line language) is_cut lines v).output
        (said_from (without_closing_line language) goes_cut (lines ++ more) v).output
    step None = ([], refl)
    step (Some s) = answers_grow language is_cut goes_cut s 2 lines more

-- what is cut has a fault, and where there is none, the front of the lines has none
cut_of-fault : {S : Type 0} (language : Language S) (s : S) (n : ℕ) (lines : List (List ℕ))
    → (told_from language true (stage s n) lines).fault ≡ None → ⊥
cut_of-fault language s n [] none = cc
cut_of-fault {S} language s n (line ∷ lines) none =
    step (if_fits (language.answer_to s) line) (λ t. cut_of-fault language t (n + 1) lines) none
  where
    step : (v : Option (Answered S))
        → ((t : S) → (told_from language true (stage t (n + 1)) lines).fault ≡ None → ⊥)
        → (said_with language true n lines v).fault ≡ None → ⊥
    step None rest is = cc
    step (Some x) rest is = rest x.after is

-- a script that is cut has a fault
pub cut_lines-fault : {S : Type 0} (language : Language S) (lines : List (List ℕ))
    → (lines_told language true lines).fault ≡ None → ⊥
cut_lines-fault language [] none = cc
cut_lines-fault {S} language (line ∷ lines) none = step (if_fits language.opened_by line) none
  where
    step : (v : Option S) → (said_from language true lines v).fault ≡ None → ⊥
    step None is = cc
    step (Some s) is = cut_of-fault language s 2 lines is

-- by induction on the lines: where all have no fault, the first of them have none
front_of-sound : {S : Type 0} (language : Language S) (is_cut : Bool) (s : S) (n : ℕ)
    (lines more : List (List ℕ))
    → (told_from language is_cut (stage s n) (lines ++ more)).fault ≡ None
    → (told_from language false (stage s n) lines).fault ≡ None
front_of-sound language is_cut s n [] more none = refl
front_of-sound {S} language is_cut s n (line ∷ lines) more none =
    step (if_fits (language.answer_to s) line)
    (λ t. front_of-sound language is_cut t (n + 1) lines more) none
  where
    step : (v : Option (Answered S))
        → ((t : S) → (told_from language is_cut (stage t (n + 1)) (lines ++ more)).fault ≡ None
        → (told_from language false (stage t (n + 1)) lines).fault ≡ None)
        → (said_with language is_cut n (lines ++ more) v).fault ≡ None
        → (said_with language false n lines v).fault ≡ None
    step None rest is = is
    step (Some x) rest is = rest x.after is

-- the same of all lines, the first of which opens a state
pub front_lines-sound : {S : Type 0} (language : Language S) (is_cut : Bool)
    (lines more : List (List ℕ)) → 0 < length lines
    → (lines_told language is_cut (lines ++ more)).fault ≡ None
    → (lines_told language false lines).fault ≡ None
front_lines-sound language is_cut [] more some none = absurd (omega arith)
front_lines-sound {S} language is_cut (line ∷ lines) more some none =
    step (if_fits language.opened_by line) none
  where
    step : (v : Option S) → (said_from language is_cut (lines ++ more) v).fault ≡ None
        → (said_from language false lines v).fault ≡ None
    step None is = is
    step (Some s) is = front_of-sound language is_cut s 2 lines more is

-- What holds of each state that a first line opens, and stays at each answer.
pub record Stays {S : Type 0} (language : Language S) (P : S → Type 0) : Type 0 where
  -- it holds of the state that a first line opens
  pub opened : (line : List ℕ) (s : S) → language.opened_by line ≡ Some s → P s
  -- a line that is answered leaves a state of which it holds again
  pub answered : (s : S) (line : List ℕ) (answered : Answered S) → P s
      → language.answer_to s line ≡ Some answered → P answered.after

-- a line that is read fits
fits : {A : Type 0} (read : List ℕ → Option A) (line : List ℕ) (a : A) → if_fits read line ≡ Some a
    → read line ≡ Some a
fits {A} read line a is = by_length (nat_le (length line) MAX_LINE) refl
  where
    by_length : (within : Bool) → nat_le (length line) MAX_LINE ≡ within → read line ≡ Some a
    by_length true within = rw within at is
    by_length false within = let bad = rw within at is in absurd (cc)

-- What is told, and the same without the closing line, which is that of a state of this kind.
abbrev pub EndsInClosingLine : {S : Type 0} → Language S → (S → Type 0) → Transcript → Transcript
    → Type 0
EndsInClosingLine {S} language P told answers =
    (told.fault ≡ None → (s : S) × P s
    × (told.output ≡ answers.output ++ language.closing_line s)) ×
    ((n : ℕ) → told.fault ≡ Some n → told.output ≡ answers.output)

-- a line at fault is told alike with and without a closing line
at_fault : {S : Type 0} (language : Language S) (P : S → Type 0) (n : ℕ)
    → EndsInClosingLine language P (fault_at n) (fault_at n)
at_fault language P n = (λ none. cc, λ m is. refl)

-- after an answer a closing line stays last
closing_line_after : {S : Type 0} (language : Language S) (P : S → Type 0) (text : List ℕ)
    (told answers : Transcript)
    → EndsInClosingLine language P told answers
    → EndsInClosingLine language P (answer_then text told) (answer_then text answers)
closing_line_after language P text told answers (last, missing) = (
  λ none.
      let (s, held, is) = last none in (
        s,
        held,
        ap (λ t. text ++ 10 ∷ t) is
            ∙ sym (append_assoc text (10 ∷ answers.output) (language.closing_line s)),
      ),
  λ n fault. ap (λ t. text ++ 10 ∷ t) (missing n fault),
)

-- by induction on the lines: the closing line is that of the state to which they lead
closing_line_of_rest : {S : Type 0} (language : Language S) (P : S → Type 0) → Stays language P
    → (is_cut : Bool) (s : S) → P s
    → (n : ℕ) (lines : List (List ℕ))
    → EndsInClosingLine language P (told_from language is_cut (stage s n) lines)
    (told_from (without_closing_line language) is_cut (stage s n) lines)
closing_line_of_rest {S} language P stays is_cut s held n [] = at_end is_cut
  where
    at_end : (cut : Bool)
        → EndsInClosingLine language P
        (cond cut (fault_at n) (record { output = language.closing_line s; fault = None }))
        (cond cut (fault_at n) (record { output = []; fault = None }))
    at_end true = at_fault language P n
    at_end false = (λ none. (s, held, refl), λ m is. cc)
closing_line_of_rest {S} language P stays is_cut s held n (line ∷ lines) =
    step (if_fits (language.answer_to s) line) refl
    (λ t still. closing_line_of_rest language P stays is_cut t still (n + 1) lines)
  where
    step : (v : Option (Answered S)) → if_fits (language.answer_to s) line ≡ v
        → ((t : S) → P t
        → EndsInClosingLine language P (told_from language is_cut (stage t (n + 1)) lines)
        (told_from (without_closing_line language) is_cut (stage t (n + 1)) lines))
        → EndsInClosingLine language P (said_with language is_cut n lines v)
        (said_with (without_closing_line language) is_cut n lines v)
    step None is rest = at_fault language P n
    step (Some x) is rest =
        closing_line_after language P x.text
        (told_from language is_cut (stage x.after (n + 1)) lines)
        (told_from (without_closing_line language) is_cut (stage x.after (n + 1)) lines)
        (rest x.after (stays.answered s line x held (fits (language.answer_to s) line x is)))

-- the closing line comes last, and not where a line is at fault
pub closing_line_of_lines : {S : Type 0} (language : Language S) (P : S → Type 0) → Stays language P
    → (is_cut : Bool)
    (lines : List (List ℕ))
    → EndsInClosingLine language P (lines_told language is_cut lines)
    (lines_told (without_closing_line language) is_cut lines)
closing_line_of_lines language P stays is_cut [] = at_fault language P 1
closing_line_of_lines {S} language P stays is_cut (line ∷ lines) =
    step (if_fits language.opened_by line) refl
  where
    step : (v : Option S) → if_fits language.opened_by line ≡ v
        → EndsInClosingLine language P (said_from language is_cut lines v)
        (said_from (without_closing_line language) is_cut lines v)
    step None is = at_fault language P 1
    step (Some s) is =
        closing_line_of_rest language P stays is_cut s
        (stays.opened line s (fits language.opened_by line s is)) 2 lines

-- these lines are at fault in the line after the first k: these have no fault, and their answers
-- are written
pub record Leaves {S : Type 0} (language : Language S) (s : S) (n : ℕ) (lines : List (List ℕ))
    (told : Transcript) (m : ℕ) : Type 0 where
  -- so many lines stand before the one at fault
  pub k : ℕ
  -- its number is that of the first line and so many more
  pub is : m ≡ n + k
  -- there are as many lines as that
  pub within : k ≤ length lines
  -- what was told is what those lines answer, with no closing line
  pub output : told.output
      ≡ (told_from (without_closing_line language) false (stage s n) (take k lines)).output
  -- those lines alone have no fault
  pub fault : (told_from language false (stage s n) (take k lines)).fault ≡ None

-- the line at fault is the first of these
same_line : (n m : ℕ) → Some n ≡ Some m → m ≡ n + 0
same_line n m is = let same : n ≡ m = cc in omega arith

-- by induction on the lines: a fault leaves the answers before it
fault_leaves : {S : Type 0} (language : Language S) (is_cut : Bool) (s : S) (n : ℕ)
    (lines : List (List ℕ)) (m : ℕ) → (told_from language is_cut (stage s n) lines).fault ≡ Some m
    → Leaves language s n lines (told_from language is_cut (stage s n) lines) m
fault_leaves {S} language is_cut s n [] m h = at_end is_cut h
  where
    at_end : (cut : Bool)
        → (cond cut (fault_at n) (record { output = language.closing_line s; fault = None })).fault
        ≡ Some m → Leaves language s n []
        (cond cut (fault_at n) (record { output = language.closing_line s; fault = None })) m
    at_end true is =
        record { k = 0; is = same_line n m is; within = omega arith; output = refl; fault = refl }
    at_end false is = absurd (cc)
fault_leaves {S} language is_cut s n (line ∷ lines) m h =
    step (if_fits (language.answer_to s) line) refl
    (λ t. fault_leaves language is_cut t (n + 1) lines m) h
  where
    step : (v : Option (Answered S)) → if_fits (language.answer_to s) line ≡ v
        → ((t : S) → (told_from language is_cut (stage t (n + 1)) lines).fault ≡ Some m
        → Leaves language t (n + 1) lines (told_from language is_cut (stage t (n + 1)) lines) m)
        → (said_with language is_cut n lines v).fault ≡ Some m
        → Leaves language s n (line ∷ lines) (said_with language is_cut n lines v) m
    step None reads rest is =
        record { k = 0; is = same_line n m is; within = omega arith; output = refl; fault = refl }
    step (Some x) reads rest is =
        let here = rest x.after is in
        record {
          k = suc here.k;
          is = omega (arith, here.is);
          within = omega (arith, here.within);
          output = ap (λ t. x.text ++ 10 ∷ t) here.output
              ∙ ap (λ v. (said_with (without_closing_line language) false n (take here.k lines)
              v).output) (sym reads);
          fault = ap (λ v. (said_with language false n (take here.k lines) v).fault) reads
              ∙ here.fault;
        }

-- the same of all lines: the first k open a state where there are any
pub record LeavesFirst {S : Type 0} (language : Language S) (lines : List (List ℕ))
    (told : Transcript)
    (m : ℕ) : Type 0 where
  -- so many lines stand before the one at fault
  pub k : ℕ
  -- its number is one above that
  pub is : m ≡ suc k
  -- there are as many lines as that
  pub within : k ≤ length lines
  -- what was told is what those lines answer, with no closing line
  pub output : told.output
      ≡ (lines_told (without_closing_line language) false (take k lines)).output
  -- where there are any, those lines alone have no fault
  pub fault : 0 < k → (lines_told language false (take k lines)).fault ≡ None

-- the line at fault is the first of all
first_line : (m : ℕ) → Some 1 ≡ Some m → m ≡ 1
first_line m is = let same : 1 ≡ m = cc in omega arith

-- the same of all lines, the first of which opens a state
pub fault_leaves_first : {S : Type 0} (language : Language S) (is_cut : Bool)
    (lines : List (List ℕ)) (m : ℕ) → (lines_told language is_cut lines).fault ≡ Some m
    → LeavesFirst language lines (lines_told language is_cut lines) m
fault_leaves_first language is_cut [] m h =
    record {
      k = 0;
      is = first_line m h;
      within = omega arith;
      output = refl;
      fault =
          λ some. absurd (omega arith);
    }
fault_leaves_first {S} language is_cut (line ∷ lines) m h =
    step (if_fits language.opened_by line) refl h
  where
    step : (v : Option S) → if_fits language.opened_by line ≡ v
        → (said_from language is_cut lines v).fault ≡ Some m
        → LeavesFirst language (line ∷ lines) (said_from language is_cut lines v) m
    step None opens is =
        record {
          k = 0;
          is = first_line m is;
          within = omega arith;
          output = refl;
          fault =
              λ some. absurd (omega arith);
        }
    step (Some s) opens is =
        let here = fault_leaves language is_cut s 2 lines m is in
        record {
          k = suc here.k;
          is = omega (arith, here.is);
          within = omega (arith, here.within);
          output = here.output
              ∙ ap (λ v. (said_from (without_closing_line language) false
              (take here.k lines) v).output) (sym opens);
          fault = λ some. ap (λ v. (said_from language false (take here.k lines) v).fault) opens
              ∙ here.fault;
        }
