-- The laws of scripts, from what lists of lines say.
use Rattle.std.proofs.Common.{◌≡◌, ℕ, zero, suc, ◌+◌, ◌-◌, ◌<◌, ◌≤◌, ◌||◌, nat_lt, Bool, true}
use Rattle.std.proofs.Common.{false, List, [], ◌∷◌, ◌++◌, length, take, Option, None, Some, refl}
use Rattle.std.proofs.Common.{ap, sym, subst, ◌∙◌, arith, length-take, length-append}
use Rattle.std.proofs.lemmas.List.{append-nil, take_all, take-append-le}
use Rattle.std.proofs.lemmas.Bool.Decides.{nat_tests}
use Rattle.scripts.specs.declared.script.TheConstants.{MAX_SCRIPT}
use Rattle.scripts.specs.Lines.{lines_of, cut_line_of}
use Rattle.scripts.specs.Script.{Language, told, lines_told, is_cut_off}
use Rattle.scripts.specs.ScriptLaws.{without_closing_line, answers_of, lines_text, whole_lines}
use Rattle.scripts.specs.ScriptLaws.{first_lines, AnswersAreFinal, OutputIsFinal, TooLongStaysSo}
use Rattle.scripts.specs.ScriptLaws.{ClosingLineComesLast, FaultHasNoClosingLine, FaultIsInScript}
use Rattle.scripts.specs.ScriptLaws.{FaultLeavesAnswers, FirstFaultLeavesNone}
use Rattle.scripts.specs.ScriptLaws.{LinesBeforeHaveNoFault, FrontHasNoFault, PipeOutputIsFinal}
use Rattle.scripts.specs.PipeScript.{pipe_language}
use Rattle.scripts.proofs.DeviceLemmas.{told_by_front}
use Rattle.scripts.proofs.TextLemmas.{ArePlain, plain_lines, plain_take, lines_of-text}
use Rattle.scripts.proofs.TextLemmas.{cut_line_of-text, lines_of-append, first_within}
use Rattle.scripts.proofs.TextLemmas.{lines_text-lines}
use Rattle.scripts.proofs.TranscriptLemmas.{Stays, lines_grow, closing_line_of_lines, LeavesFirst}
use Rattle.scripts.proofs.TranscriptLemmas.{fault_leaves_first, cut_lines-fault, front_lines-sound}

-- the first bytes of two texts
take-append : (n : ℕ) (a b : List ℕ) → take n (a ++ b) ≡ take n a ++ take (n - length a) b
take-append zero a b = let none : 0 - length a ≡ 0 = omega arith in rw none refl
take-append (suc n) [] b = let all : suc n - 0 ≡ suc n = omega arith in rw all refl
take-append (suc n) (x ∷ a) b = let less : suc n - suc (length a) ≡ n - length a = omega arith in
    rw less (ap (λ t. x ∷ t) (take-append n a b))

-- the lines of a front are the first lines
lines_before : (front rest : List ℕ)
    → (more : List (List ℕ)) × (whole_lines (front ++ rest) ≡ whole_lines front ++ more)
lines_before front rest =
    let beyond = take (MAX_SCRIPT - length front) rest in (
      lines_of (cut_line_of (take MAX_SCRIPT front) ++ beyond),
      ap lines_of
          (take-append MAX_SCRIPT front rest) ∙ lines_of-append (take MAX_SCRIPT front) beyond,
    )

-- the law: a script that goes on keeps its answers
pub answers_final : {S : Type 0} (language : Language S) → AnswersAreFinal language
answers_final language front rest =
    let (lines, same) = lines_before front rest in
    let (more, is) =
    lines_grow language (is_cut_off front) (is_cut_off (front ++ rest)) (whole_lines front)
    lines in (
      more,
      ap (λ all.
          (lines_told (without_closing_line language) (is_cut_off (front ++ rest)) all).output) same
          ∙ is,
    )

-- the law: the closing line comes last
pub closing_line_last : {S : Type 0} (language : Language S) → ClosingLineComesLast language
closing_line_last {S} language input none =
    let (s, any, is) =
    (closing_line_of_lines language (λ _. Unit {0}) any_state (is_cut_off input)
    (whole_lines input)).0 none in (s, is)
  where
    any_state : Stays language (λ _. Unit {0})
    any_state = record { opened = λ line s is. tt; answered = λ s line answered any is. tt }

-- the law: and not after a fault
pub fault_has_no_closing_line : {S : Type 0} (language : Language S)
    → FaultHasNoClosingLine language
fault_has_no_closing_line language input n fault =
    (closing_line_of_lines language (λ _. Unit {0}) any_state (is_cut_off input)
    (whole_lines input)).1 n fault
  where
    any_state : Stays language (λ _. Unit {0})
    any_state = record { opened = λ line s is. tt; answered = λ s line answered any is. tt }

-- The closing line is that of a state of a kind that stays.
pub closing_line_kept : {S : Type 0} (language : Language S) (P : S → Type 0) → Stays language P
    → (input : List ℕ)
    → (told language input).fault ≡ None
    → (s : S) × P s ×
    ((told language input).output ≡ answers_of language input ++ language.closing_line s)
closing_line_kept language P stays input none =
    (closing_line_of_lines language P stays (is_cut_off input) (whole_lines input)).0 none

-- without closing lines a script writes its answers alone
answers_alone : {S : Type 0} (language : Language S) → ((s : S) → language.closing_line s ≡ [])
    → (input : List ℕ) → (told language input).output ≡ answers_of language input
answers_alone language silent input = step (told language input).fault refl
  where
    step : (v : Option ℕ) → (told language input).fault ≡ v
        → (told language input).output ≡ answers_of language input
    step (Some n) is = fault_has_no_closing_line language input n is
    step None is =
        let (s, last) = closing_line_last language input is in
        last ∙ (ap (λ t. answers_of language input ++ t) (silent s)
        ∙ append-nil (answers_of language input))

-- the law: without a closing line all that is written is final
pub output_final : {S : Type 0} (language : Language S) → OutputIsFinal language
output_final language silent front rest =
    let (more, is) = answers_final language front rest in (
      more,
      answers_alone language silent (front ++ rest)
          ∙ (is ∙ ap (λ t. t ++ more) (sym (answers_alone language silent front))),
    )

-- the law: of a script that is too long no more is looked at
pub too_long_stays : {S : Type 0} (language : Language S) → TooLongStaysSo language
too_long_stays language front rest long =
    let longer : length (front ++ rest) ≡ length front + length rest = length-append front rest in
    told_by_front language (front ++ rest) front
    (take-append-le MAX_SCRIPT front rest (omega arith)) (grind (arith, nat_tests))

-- a text of whole lines says what its lines say
told_whole : {S : Type 0} (language : Language S) (text : List ℕ) → length text ≤ MAX_SCRIPT
    → cut_line_of text ≡ [] → told language text ≡ lines_told language false (lines_of text)
told_whole language text within whole =
    let all : take MAX_SCRIPT text ≡ text = take_all MAX_SCRIPT text within in
    let short : nat_lt MAX_SCRIPT (length text) ≡ false = grind (arith, nat_tests) in
    rw (all, short, whole) refl

-- what a script of whole lines says
told_text : {S : Type 0} (language : Language S) (lines : List (List ℕ)) → ArePlain lines
    → length (lines_text lines) ≤ MAX_SCRIPT
    → told language (lines_text lines) ≡ lines_told language false lines
told_text language lines plain within =
    let bare : lines_text lines ++ [] ≡ lines_text lines = append-nil (lines_text lines) in
    let whole : cut_line_of (lines_text lines) ≡ [] = ap cut_line_of (sym bare)
    ∙ cut_line_of-text lines [] plain in
    let same : lines_of (lines_text lines) ≡ lines = ap lines_of (sym bare)
    ∙ (lines_of-text lines [] plain ∙ append-nil lines) in
    told_whole language (lines_text lines) within whole ∙ ap (lines_told language false) same

-- the first lines of a script are a script
told_first : {S : Type 0} (language : Language S) (k : ℕ) (input : List ℕ)
    → told language (first_lines k input) ≡ lines_told language false (take k (whole_lines input))
told_first language k input =
    let within = first_within k (take MAX_SCRIPT input) in
    told_text language (take k (whole_lines input))
    (plain_take k (whole_lines input) (plain_lines (take MAX_SCRIPT input)))
    (omega (arith, within, length-take MAX_SCRIPT input))

-- a fault in a line leaves the answers of those before it
leaves : {S : Type 0} (language : Language S) (input : List ℕ) (n : ℕ)
    → (told language input).fault ≡ Some n
    → LeavesFirst language (whole_lines input) (told language input) n
leaves language input n fault =
    fault_leaves_first language (is_cut_off input) (whole_lines input) n fault

before : (n k : ℕ) → n ≡ suc k → k ≡ n - 1
before n k is = omega arith

-- the law: the line at fault is one of the script, or after its last
pub fault_in_script : {S : Type 0} (language : Language S) → FaultIsInScript language
fault_in_script language input n fault =
    let here = leaves language input n fault in
    (omega (arith, here.is), omega (arith, here.is, here.within))

-- the law: a fault leaves the answers of the lines before it
pub fault_keeps : {S : Type 0} (language : Language S) → FaultLeavesAnswers language
fault_keeps language input n fault =
    let here = leaves language input n fault in
    here.output ∙
    (ap (λ t. t.output) (sym (told_first (without_closing_line language) here.k input))
    ∙ ap (λ k. answers_of language (first_lines k input)) (before n here.k here.is))

-- the law: a fault in the first line leaves none
pub first_fault : {S : Type 0} (language : Language S) → FirstFaultLeavesNone language
first_fault language input fault = fault_keeps language input 1 fault

-- the law: the lines before the one at fault have no fault
pub before_fault : {S : Type 0} (language : Language S) → LinesBeforeHaveNoFault language
before_fault language input n fault later =
    let here = leaves language input n fault in
    let same = ap (λ k. (told language (first_lines k input)).fault) (sym (before n here.k here.is))
    in
    same ∙ (ap (λ t. t.fault) (told_first language here.k input)
    ∙ here.fault (omega (arith, here.is, later)))

neither : (a b : Bool) → (a || b) ≡ false → a ≡ false
neither false b is = refl
neither true b is = is

-- a script without a fault is not too long
not_too_long : {S : Type 0} (language : Language S) (input : List ℕ)
    → (told language input).fault ≡ None → length input ≤ MAX_SCRIPT
not_too_long language input none = step (is_cut_off input) refl none
  where
    step : (v : Bool) → is_cut_off input ≡ v
        → (lines_told language v (whole_lines input)).fault ≡ None → length input ≤ MAX_SCRIPT
    step true is fault = absurd (cut_lines-fault language (whole_lines input) fault)
    step false is fault =
        let short : nat_lt MAX_SCRIPT (length input) ≡ false =
        neither (nat_lt MAX_SCRIPT (length input))
        (nat_lt 0 (length (cut_line_of (take MAX_SCRIPT input)))) is in
        grind (arith, nat_tests)

-- a text of whole lines that is not empty has a line
some_line : (lines : List (List ℕ)) (cut text : List ℕ) → lines_text lines ++ cut ≡ text → cut ≡ []
    → 0 < length text → 0 < length lines
some_line [] cut text is none some = absurd (omega (arith, ap length is, ap length none))
some_line (line ∷ lines) cut text is none some = omega arith

-- the law: a prefix of a script without a fault has none
pub front_sound : {S : Type 0} (language : Language S) → FrontHasNoFault language
front_sound language front rest whole some none =
    let short = not_too_long language (front ++ rest) none in
    let within : length front ≤ MAX_SCRIPT = omega (arith, short, length-append front rest) in
    let (more, same) = lines_before front rest in
    let lines : whole_lines (front ++ rest) ≡ lines_of front ++ more = same
    ∙ ap (λ t. lines_of t ++ more) (take_all MAX_SCRIPT front within) in
    let fault = subst (λ all. (lines_told language (is_cut_off (front ++ rest)) all).fault ≡ None)
    lines none in
    ap (λ t. t.fault) (told_whole language front within whole) ∙
    front_lines-sound language (is_cut_off (front ++ rest)) (lines_of front) more
    (some_line (lines_of front) (cut_line_of front) front (lines_text-lines front) whole some) fault

-- the law: all that a pipe script writes is final
pub pipe_output_final : PipeOutputIsFinal
pipe_output_final = output_final pipe_language (λ s. refl)
