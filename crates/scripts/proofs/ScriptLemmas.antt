-- What a script says, line by line.
use Rattle.std.proofs.Common.{◌≡◌, inl, inr, ℕ, ◌+◌, ◌-◌, ◌<◌, ◌≤◌, ◌||◌, nat_lt, nat_le, min, Bool}
use Rattle.std.proofs.Common.{true, false, List, [], ◌∷◌, ◌++◌, length, take, drop, position}
use Rattle.std.proofs.Common.{Option, Some, None, Result, IfErr}
use Rattle.std.proofs.Common.{refl, ap, sym, subst, ◌∙◌, append_assoc, arith}
use Rattle.std.specs.Option.{option_map_or}
use Rattle.std.specs.Io.KnownBytes.{Appends}
use Rattle.std.proofs.lemmas.List.{append-nil, take-append-drop}
use Rattle.std.proofs.lemmas.Grind.{common_steps}
use Rattle.std.proofs.lemmas.Bool.Decides.{nat_tests}
use Rattle.scripts.specs.declared.lines.TheConstants.{LINE_FEED}
use Rattle.scripts.specs.declared.script.TheConstants.{MAX_LINE, MAX_SCRIPT}
use Rattle.scripts.specs.Lines.{is_line_feed, lines_of, cut_line_of, words_of, BeginsWithLine}
use Rattle.scripts.specs.Lines.{NoLineAsks}
use Rattle.sync_base.specs.declared.fault.Fault.{Fault}
use Rattle.scripts.specs.Device.{AppendsFront, Devices, IsRunFault, Runs, TakesUpTo}
use Rattle.scripts.specs.Device.{WritesTranscript}
use Rattle.scripts.specs.Script.{Language, Answered, Transcript, fault_at, answer_then, if_fits}
use Rattle.scripts.specs.Script.{told, lines_told, told_from, FirstAnswered, IsStuck, following}
use Rattle.scripts.specs.Script.{growth, stage}
use Rattle.scripts.proofs.DeviceLemmas.{IsWriting, appends_then, appends_front}
use Rattle.scripts.proofs.DeviceLemmas.{told_of_all}
use Rattle.scripts.specs.ScriptLaws.{lines_text}
use Rattle.scripts.proofs.TextLemmas.{lines_text-lines}
use Rattle.scripts.proofs.LineLemmas.{cut_line_of-at, lines_of-at, lines_of-missing}
use Rattle.scripts.proofs.OnePassLemmas.{begins_lines, begins_length, line_begins}

-- a line that is not too long is read
if_fits_short : {A : Type 0} (read : List ℕ → Option A) (line : List ℕ) → length line ≤ MAX_LINE
    → if_fits read line ≡ read line
if_fits_short read line fits = grind (arith, nat_tests)

-- the front of a list as a slice has it
pub front-take : (n k : ℕ) (bs : List ℕ) → k ≡ min (length bs) n → take k bs ≡ take n bs
front-take n k bs is_least = grind (arith, common_steps)

-- a run that read this of its script, and wrote what the front of it says
pub run_of : {S : Type 0} (language : Language S) (devices : Devices) (input read : List ℕ)
    (k n : ℕ) (result : Result (Unit {0}) Fault)
    → TakesUpTo (MAX_SCRIPT + 1) devices.unread devices.left input → read ≡ input
    → k ≡ min (length input) MAX_SCRIPT → n ≡ length input
    → WritesTranscript (lines_told language
    (nat_lt MAX_SCRIPT n || nat_lt 0 (length (cut_line_of (take k read)))) (lines_of (take k read)))
    devices.held devices.written result
    → IfErr result IsRunFault → Runs (told language) devices result
run_of language devices input read k n result takes is least long writes faults =
    let said : lines_told language
    (nat_lt MAX_SCRIPT n || nat_lt 0 (length (cut_line_of (take k read)))) (lines_of (take k read))
    ≡ told language input = rw (long, is, front-take MAX_SCRIPT k input least) refl in
    record {
      at_most = (input, takes.taken, takes.within);
      reads_first = inr (input, takes);
      told = told_of_all language devices.unread devices.left input devices.held devices.written
          result takes
          (subst (λ t. WritesTranscript t devices.held devices.written result) said writes);
      faults = faults;
    }

-- What was written, what is held back, and what the lines to come say, make what is told. The
-- script has come to a state, and the first line to come has this number.
pub record GoesOn {T S : Type 0} (stands : T → S → Type 0) (language : Language S)
    (too_long : Bool) (cut : List ℕ) (said : Transcript) (old now : Option (List ℕ)) (t : T)
    (number : ℕ)
    (held rest : List ℕ) : Type 0 where
  -- the state to which the lines so far have come
  pub state : S
  -- the script stands for that state
  pub stands_now : stands t state
  -- the lines to come end as the whole text does: cut short by the same bytes, or by none
  pub cut_is : cut_line_of rest ≡ cut
  -- what was written, what is held back and what the lines to come answer are all that is owed
  pub writing : IsWriting old now said.output
      (held ++ (told_from language (too_long || nat_lt 0 (length cut)) (stage state number)
      (lines_of rest)).output)
  -- the whole is at fault where the lines to come are
  pub fault : said.fault ≡ (told_from language (too_long || nat_lt 0 (length cut))
      (stage state number) (lines_of rest)).fault

-- what the lines say where the first of them is answered
told-answered : {S : Type 0} (language : Language S) (is_cut : Bool) (s : S) (number : ℕ)
    (line : List ℕ) (lines : List (List ℕ)) (answered : Answered S)
    → if_fits (language.answer_to s) line ≡ Some answered
    → told_from language is_cut (stage s number) (line ∷ lines)
    ≡ answer_then answered.text
    (told_from language is_cut (stage answered.after (number + 1)) lines)
told-answered {S} language is_cut s number line lines answered is =
    ap (λ (a : Option (Answered S)). option_map_or
    (λ (answered : Answered S). answer_then answered.text
    (told_from language is_cut (stage answered.after (number + 1)) lines)) a (fault_at number)) is

-- and where it is not in the grammar
told-refused : {S : Type 0} (language : Language S) (is_cut : Bool) (s : S) (number : ℕ)
    (line : List ℕ) (lines : List (List ℕ)) → if_fits (language.answer_to s) line ≡ None
    → told_from language is_cut (stage s number) (line ∷ lines) ≡ fault_at number
told-refused {S} language is_cut s number line lines is =
    ap (λ (a : Option (Answered S)). option_map_or
    (λ (answered : Answered S). answer_then answered.text
    (told_from language is_cut (stage answered.after (number + 1)) lines)) a (fault_at number)) is

-- an answer is held back after the others
pub goes_answered : {T S : Type 0} (stands : T → S → Type 0) (language : Language S)
    (too_long : Bool) (cut : List ℕ) (said : Transcript) (old now : Option (List ℕ)) (t t' : T)
    (number : ℕ) (held rest held' rest' : List ℕ)
    (goes : GoesOn stands language too_long cut said old now t number held rest)
    → FirstAnswered (following language goes.state (stands t')) rest rest' (growth held held')
    → GoesOn stands language too_long cut said old now t' (number + 1) held' rest'
goes_answered stands language too_long cut said old now t t' number held rest held' rest' goes
    first =
    let is_cut = too_long || nat_lt 0 (length cut) in
    let more = told_from language is_cut (stage first.answered.after (number + 1))
    (lines_of rest') in
    let says : told_from language is_cut (stage goes.state number) (lines_of rest)
    ≡ answer_then first.answered.text more =
    ap (told_from language is_cut (stage goes.state number)) first.lines
    ∙ told-answered language is_cut goes.state number first.line (lines_of rest')
    first.answered first.in_grammar in
    let same : held ++ (told_from language is_cut (stage goes.state number) (lines_of rest)).output
    ≡ held' ++ more.output = rw (says, first.written) (simp append_assoc) in
    record {
      state = first.answered.after;
      stands_now = first.stands_after;
      cut_is = sym first.cut ∙ goes.cut_is;
      writing = subst (IsWriting old now said.output) same goes.writing;
      fault = goes.fault ∙ ap (λ (t : Transcript). t.fault) says;
    }

-- what was held back is written
pub writes_held : (old now next : Option (List ℕ)) (bytes held more : List ℕ)
    → IsWriting old now bytes (held ++ more) → Appends now next held
    → IsWriting old next bytes more
writes_held old now next bytes held more so_far appends =
    record {
      written = so_far.written ++ held;
      whole = append_assoc so_far.written held more ∙ so_far.whole;
      appended = appends_then old now next so_far.written held so_far.appended appends;
    }

-- once what was held back is written nothing is held back, and the lines to come go on as before
pub goes_written : {T S : Type 0} (stands : T → S → Type 0) (language : Language S)
    (too_long : Bool) (cut : List ℕ) (said : Transcript) (old now next : Option (List ℕ)) (t : T)
    (number : ℕ) (held rest none : List ℕ)
    → GoesOn stands language too_long cut said old now t number held rest
    → Appends now next held → none ≡ []
    → GoesOn stands language too_long cut said old next t number none rest
goes_written stands language too_long cut said old now next t number held rest none goes appends
    is =
    let more = (told_from language (too_long || nat_lt 0 (length cut)) (stage goes.state number)
    (lines_of rest)).output in
    record {
      state = goes.state;
      stands_now = goes.stands_now;
      cut_is = goes.cut_is;
      writing = subst
          (λ (h : List ℕ). IsWriting old next said.output (h ++ more)) (sym is)
          (writes_held old now next said.output held more goes.writing appends);
      fault = goes.fault;
    }

-- also where a front of what was held back was written last
pub front_of_held : (old now next : Option (List ℕ)) (bytes held more : List ℕ)
    → IsWriting old now bytes (held ++ more) → AppendsFront now next held
    → AppendsFront old next bytes
front_of_held old now next bytes held more so_far (n, appends) =
    let whole : (so_far.written ++ take n held) ++ (drop n held ++ more) ≡ bytes =
    append_assoc so_far.written (take n held) (drop n held ++ more)
    ∙ (ap (λ (b : List ℕ). so_far.written ++ b)
    (sym (append_assoc (take n held) (drop n held) more)
    ∙ ap (λ (b : List ℕ). b ++ more) (take-append-drop n held)) ∙ so_far.whole) in
    appends_front old next (so_far.written ++ take n held) (drop n held ++ more) bytes whole
    (appends_then old now next so_far.written (take n held) so_far.appended appends)

-- where a front of what is held back was written, it is a front of what is told
pub goes_partly : {T S : Type 0} (stands : T → S → Type 0) (language : Language S)
    (too_long : Bool) (cut : List ℕ) (said : Transcript) (old now next : Option (List ℕ)) (t : T)
    (number : ℕ) (held rest : List ℕ)
    → GoesOn stands language too_long cut said old now t number held rest
    → AppendsFront now next held → AppendsFront old next said.output
goes_partly stands language too_long cut said old now next t number held rest goes front =
    front_of_held old now next said.output held _ goes.writing front

-- a text without a whole line is cut as a whole
no_lines-cut : (rest cut : List ℕ) → lines_of rest ≡ [] → cut_line_of rest ≡ cut → rest ≡ cut
no_lines-cut rest cut none is =
    sym (lines_text-lines rest)
    ∙ (ap (λ (ls : List (List ℕ)). lines_text ls ++ cut_line_of rest) none ∙ is)

-- bytes are left where there is one
some_left : (x : ℕ) (r : List ℕ) → nat_lt 0 (length (x ∷ r)) ≡ true
some_left x r = grind (arith, nat_tests)

-- what comes after the lines: a fault where bytes are left or the script is too long, and else the
-- closing line
pub goes_end : {T S : Type 0} (stands : T → S → Type 0) (language : Language S) (too_long : Bool)
    (cut : List ℕ) (said : Transcript) (old now : Option (List ℕ)) (t t' : T) (number : ℕ)
    (held rest held' : List ℕ) (b : Bool) (fault : Option ℕ)
    (goes : GoesOn stands language too_long cut said old now t number held rest)
    → IsStuck (following language goes.state (stands t')) rest
    → b ≡ (too_long || nat_lt 0 (length rest))
    → (b ≡ true → (fault ≡ Some number) × (held' ≡ held))
    → (b ≡ false → (s : S) → stands t' s
    → (fault ≡ None) × (held' ≡ held ++ language.closing_line s))
    → IsWriting old now said.output (held' ++ []) × (fault ≡ said.fault)
goes_end {T} {S} stands language too_long cut said old now t t' number held rest held' b fault
    goes stuck is at_fault at_end = by_case b refl
  where
    is_cut : Bool
    is_cut = too_long || nat_lt 0 (length cut)

    joined : (last : Transcript)
        → told_from language is_cut (stage goes.state number) (lines_of rest) ≡ last
        → held' ≡ held ++ last.output → fault ≡ last.fault
        → IsWriting old now said.output (held' ++ []) × (fault ≡ said.fault)
    joined last says held_is fault_is = (
      subst (IsWriting old now said.output)
          (ap (λ (t : Transcript). held ++ t.output) says ∙ (sym held_is ∙ sym (append-nil held')))
          goes.writing,
      fault_is ∙ sym (goes.fault ∙ ap (λ (t : Transcript). t.fault) says),
    )

    none_left : lines_of rest ≡ [] → is_cut ≡ b
    none_left none =
        ap (λ (r : List ℕ). too_long || nat_lt 0 (length r))
        (sym (no_lines-cut rest cut none goes.cut_is)) ∙ sym is

    says_fault : b ≡ true → IsStuck (following language goes.state (stands t')) rest
        → told_from language is_cut (stage goes.state number) (lines_of rest) ≡ fault_at number
    says_fault is_true (inl none) =
        rw (none.0, none_left none.0 ∙ is_true) refl
    says_fault is_true (inr (line, lines, lines_is, refused)) =
        ap (told_from language is_cut (stage goes.state number)) lines_is
        ∙ told-refused language is_cut goes.state number line lines refused

    no_long : (v : Bool) → (v || true) ≡ false → ⊥
    no_long true h = cc
    no_long false h = cc

    no_line : (line : List ℕ) (lines : List (List ℕ)) → lines_of rest ≡ line ∷ lines
        → b ≡ false → (r : List ℕ) → rest ≡ r → ⊥
    no_line line lines lines_is is_false [] rest_is =
        let none : lines_of rest ≡ [] = ap lines_of rest_is in cc
    no_line line lines lines_is is_false (x ∷ r) rest_is =
        let long : (too_long || true) ≡ false =
        ap (λ (v : Bool). too_long || v) (sym (some_left x r))
        ∙ (ap (λ (l : List ℕ). too_long || nat_lt 0 (length l)) (sym rest_is)
        ∙ (sym is ∙ is_false)) in no_long too_long long

    says_end : b ≡ false → IsStuck (following language goes.state (stands t')) rest
        → IsWriting old now said.output (held' ++ []) × (fault ≡ said.fault)
    says_end is_false (inl none) =
        let ends = at_end is_false goes.state none.1 in
        joined (record { output = language.closing_line goes.state; fault = None })
        (rw (none.0, none_left none.0 ∙ is_false) refl) ends.1 ends.0
    says_end is_false (inr (line, lines, lines_is, refused)) =
        absurd (no_line line lines lines_is is_false rest refl)

    by_case : (v : Bool) → b ≡ v
        → IsWriting old now said.output (held' ++ []) × (fault ≡ said.fault)
    by_case true is_true =
        joined (fault_at number) (says_fault is_true stuck)
        ((at_fault is_true).1 ∙ sym (append-nil held)) (at_fault is_true).0
    by_case false is_false = says_end is_false stuck

-- a line that was found and answered
pub found_answered : {S : Type 0} (StandsFor : S → Type 0) (language : Language S) (s : S)
    (text old : List ℕ) (words : List (List ℕ)) (rest new : List ℕ)
    (answered : Answered S) (begins : BeginsWithLine text words rest)
    → length text - length rest ≤ MAX_LINE + 1
    → language.answer_to s begins.line ≡ Some answered → StandsFor answered.after
    → new ≡ old ++ answered.text ++ LINE_FEED ∷ []
    → FirstAnswered (following language s StandsFor) text rest (growth old new)
found_answered StandsFor language s text old words rest new answered begins near is stands_after
    written =
    let split = begins_lines text words rest begins in
    let longer = begins_length text words rest begins in
    record {
      line = begins.line;
      answered = answered;
      lines = split.0;
      cut = split.1;
      shorter = omega (arith, longer);
      in_grammar = if_fits_short (language.answer_to s) begins.line (omega (arith, longer)) ∙ is;
      stands_after = stands_after;
      written = written;
    }

-- a line that is too long is not read
if_fits_long : {A : Type 0} (read : List ℕ → Option A) (line : List ℕ) → MAX_LINE < length line
    → if_fits read line ≡ None
if_fits_long read line long = grind (arith, nat_tests)

-- where no line asks for anything, the script is stuck
pub none_is_stuck : {A S : Type 0} (StandsFor : S → Type 0) (language : Language S) (s : S)
    (asked : List (List ℕ) → Option A) (text : List ℕ) → NoLineAsks asked text
    → ((line : List ℕ) → asked (words_of line) ≡ None → language.answer_to s line ≡ None)
    → StandsFor s → IsStuck (following language s StandsFor) text
none_is_stuck StandsFor language s asked text none each stands =
    by_place (position is_line_feed text) refl
  where
    by_length : (line : List ℕ) (fits : Bool) → nat_le (length line) MAX_LINE ≡ fits
        → (length line ≤ MAX_LINE → language.answer_to s line ≡ None)
        → if_fits (language.answer_to s) line ≡ None
    by_length line true is answer =
        let fits : length line ≤ MAX_LINE = grind (arith, nat_tests) in
        if_fits_short (language.answer_to s) line fits ∙ answer fits
    by_length line false is answer =
        let long : MAX_LINE < length line = grind (arith, nat_tests) in
        if_fits_long (language.answer_to s) line long

    by_place : (place : Option ℕ) → position is_line_feed text ≡ place
        → IsStuck (following language s StandsFor) text
    by_place None nowhere = inl (lines_of-missing text nowhere, stands)
    by_place (Some n) found =
        let line = take n text in
        let rest = take (length text - (n + 1)) (drop (n + 1) text) in
        let lines = lines_of-at text n found in
        let begins = line_begins text line rest lines (cut_line_of-at text n found) in
        let both : begins.line ∷ lines_of rest ≡ line ∷ lines_of rest =
        sym (begins_lines text (words_of line) rest begins).0 ∙ lines in
        let line_is : begins.line ≡ line = cc in
        inr (
          line,
          lines_of rest,
          lines,
          by_length line (nat_le (length line) MAX_LINE) refl
              (λ fits. each line (none (words_of line) rest begins (rw line_is fits))),
        )

-- and where the first line is too long
pub long_is_stuck : {S : Type 0} (StandsFor : S → Type 0) (language : Language S) (s : S)
    (text : List ℕ) (words : List (List ℕ)) (rest : List ℕ)
    (begins : BeginsWithLine text words rest) → MAX_LINE + 1 < length text - length rest
    → IsStuck (following language s StandsFor) text
long_is_stuck StandsFor language s text words rest begins long =
    let longer = begins_length text words rest begins in
    inr (
      begins.line,
      lines_of rest,
      (begins_lines text words rest begins).0,
      if_fits_long (language.answer_to s) begins.line (omega (arith, longer, long)),
    )
