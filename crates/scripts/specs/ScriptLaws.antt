-- What holds of every script of every language, said of the definitions alone.
use Rattle.std.specs.Prelude.{◌≡◌, ℕ, ◌+◌, ◌-◌, ◌<◌, ◌≤◌, List, [], ◌∷◌, ◌++◌, length, take, codes}
use Rattle.std.specs.Prelude.{None, Some}
use Rattle.scripts.specs.declared.lines.TheConstants.{LINE_FEED}
use Rattle.scripts.specs.declared.script.TheConstants.{MAX_SCRIPT}
use Rattle.scripts.specs.Lines.{lines_of, cut_line_of}
use Rattle.scripts.specs.Script.{Language, told}
use Rattle.scripts.specs.PipeScript.{pipe_told}
use Rattle.scripts.specs.Schedule.{schedule_language}

-- the language, except that nothing is written after the last line
abbrev pub without_closing_line : {S : Type 0} → Language S → Language S
without_closing_line language =
    record {
      opened_by = language.opened_by;
      answer_to = language.answer_to;
      closing_line = λ _. [];
    }

-- what a script writes before its closing line
abbrev pub answers_of : {S : Type 0} → Language S → List ℕ → List ℕ
answers_of language input = (told (without_closing_line language) input).output

-- these lines, each with its line feed
abbrev pub lines_text : List (List ℕ) → List ℕ
lines_text [] = []
lines_text (line ∷ lines) = line ++ LINE_FEED ∷ lines_text lines

-- the whole lines of a script, in the part of it that is looked at
abbrev pub whole_lines : List ℕ → List (List ℕ)
whole_lines input = lines_of (take MAX_SCRIPT input)

-- the script of the first k of these lines alone
abbrev pub first_lines : ℕ → List ℕ → List ℕ
first_lines k input = lines_text (take k (whole_lines input))

-- a text is its whole lines, and what follows the last line feed
abbrev pub LinesMakeText : Type 0
LinesMakeText = (text : List ℕ) → lines_text (lines_of text) ++ cut_line_of text ≡ text

-- a script that goes on keeps each answer of its prefix
abbrev pub AnswersAreFinal : {S : Type 0} → Language S → Type 0
AnswersAreFinal language =
    (front rest : List ℕ) →
    (more : List ℕ) × (answers_of language (front ++ rest) ≡ answers_of language front ++ more)

-- in a language without a closing line it keeps all that is written
abbrev pub OutputIsFinal : {S : Type 0} → Language S → Type 0
OutputIsFinal {S} language =
    ((s : S) → language.closing_line s ≡ []) →
    (front rest : List ℕ) →
    (more : List ℕ) ×
    ((told language (front ++ rest)).output ≡ (told language front).output ++ more)

-- and in any language the prefix of a script without a fault, cut after a line, has no fault
abbrev pub FrontHasNoFault : {S : Type 0} → Language S → Type 0
FrontHasNoFault language =
    (front rest : List ℕ) → cut_line_of front ≡ [] → 0 < length front →
    (told language (front ++ rest)).fault ≡ None → (told language front).fault ≡ None

-- a script that is too long says the same however it goes on
abbrev pub TooLongStaysSo : {S : Type 0} → Language S → Type 0
TooLongStaysSo language =
    (front rest : List ℕ) → MAX_SCRIPT < length front
    → told language (front ++ rest) ≡ told language front

-- where no line is at fault, the closing line of some state follows the answers
abbrev pub ClosingLineComesLast : {S : Type 0} → Language S → Type 0
ClosingLineComesLast {S} language =
    (input : List ℕ) → (told language input).fault ≡ None →
    (s : S) × ((told language input).output ≡ answers_of language input ++ language.closing_line s)

-- where a line is at fault, only the answers are written
abbrev pub FaultHasNoClosingLine : {S : Type 0} → Language S → Type 0
FaultHasNoClosingLine language =
    (input : List ℕ) (n : ℕ) → (told language input).fault ≡ Some n →
    (told language input).output ≡ answers_of language input

-- the line at fault is a whole line, or comes right after the last
abbrev pub FaultIsInScript : {S : Type 0} → Language S → Type 0
FaultIsInScript language =
    (input : List ℕ) (n : ℕ) → (told language input).fault ≡ Some n →
    (0 < n) × (n ≤ length (whole_lines input) + 1)

-- a fault in line n leaves the answers of the n - 1 lines before it
abbrev pub FaultLeavesAnswers : {S : Type 0} → Language S → Type 0
FaultLeavesAnswers language =
    (input : List ℕ) (n : ℕ) → (told language input).fault ≡ Some n →
    (told language input).output ≡ answers_of language (first_lines (n - 1) input)

-- a fault in the first line leaves no answers
abbrev pub FirstFaultLeavesNone : {S : Type 0} → Language S → Type 0
FirstFaultLeavesNone language =
    (input : List ℕ) → (told language input).fault ≡ Some 1 → (told language input).output ≡ []

-- and the lines before the line at fault, if there are any, are a script without a fault
abbrev pub LinesBeforeHaveNoFault : {S : Type 0} → Language S → Type 0
LinesBeforeHaveNoFault language =
    (input : List ℕ) (n : ℕ) → (told language input).fault ≡ Some n → 1 < n →
    (told language (first_lines (n - 1) input)).fault ≡ None

-- what is written for a pipe script is a prefix of what is written for each script that it begins
abbrev pub PipeOutputIsFinal : Type 0
PipeOutputIsFinal =
    (front rest : List ℕ) →
    (more : List ℕ) × ((pipe_told (front ++ rest)).output ≡ (pipe_told front).output ++ more)

-- a schedule without a fault ends in the line that no wakeup was lost
abbrev pub NoScheduleSaysLost : Type 0
NoScheduleSaysLost =
    (input : List ℕ) → (told schedule_language input).fault ≡ None →
    (told schedule_language input).output ≡ answers_of schedule_language input ++
    (codes "lost no" ++ LINE_FEED ∷ [])
