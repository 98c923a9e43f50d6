-- What is not read off a line: each against one row of what a reader of it promises, or what that
-- row gives.
use Rattle.std.proofs.Common.{◌≡◌, ◌≤◌, ◌^◌, ◌++◌, ℕ, List, [], ◌∷◌, length, take, codes}
use Rattle.std.proofs.Common.{Option, Some, None, Bor, true, false, refl, ap, ◌∙◌, arith}
use Rattle.std.proofs.Common.{length-append}
use Rattle.std.specs.Char.{is_ascii_digit}
use Rattle.std.specs.List.{list_all}
use Rattle.scripts.specs.declared.group_line.GroupNote.{GroupNote}
use Rattle.scripts.specs.declared.lines.TheConstants.{COMMA, LINE_FEED, SPACE}
use Rattle.scripts.specs.GroupNote.{BeginsWithGroup}
use Rattle.scripts.specs.Lines.{AllLeadingDigits, BeginsWithNoNumber, BeginsWithNumber}
use Rattle.scripts.specs.Lines.{FirstIsNoNumber, FirstNumber, LeadingDigits, LineAsks, NoLineAsks}
use Rattle.scripts.specs.Lines.{TooLarge, decimal_value, number_of}
use Rattle.scripts.specs.PipeScript.{Op, Hangs_up, op_of}
use Rattle.scripts.specs.Schedule.{IsFirst, IsNotFirst, group_of, notes_to}

more_digits_than_bytes : ¬ LeadingDigits [] 0 1
more_digits_than_bytes lead = let few : 1 ≤ 0 = lead.within in omega (arith, few)

a_space_is_no_digit : ¬ LeadingDigits (codes " ") 0 1
a_space_is_no_digit lead = let no : false ≡ true = lead.digits in cc

no_digits_spell_one : ¬ LeadingDigits [] 1 0
no_digits_spell_one lead = let no : 1 ≡ 0 = lead.value in omega (arith, no)

module _ (text : List ℕ) (number count : ℕ) (all : AllLeadingDigits text number count) where
  all_digits_lead : count ≤ length text
  all_digits_lead = all.leading.within

no_digit_follows_them : ¬ AllLeadingDigits (codes "7") 0 0
no_digit_follows_them all = let no : true ≡ false = all.end in cc

module _ (text : List ℕ) (large : TooLarge text) where
  too_many_stand_in_the_text : large.count ≤ length text
  too_many_stand_in_the_text = large.within

  too_many_are_digits : list_all is_ascii_digit (take large.count text) ≡ true
  too_many_are_digits = large.digits

  too_many_spell_too_much : 2 ^ 64 ≤ decimal_value (take large.count text)
  too_many_spell_too_much = large.large

the_word_spells_the_number : (end number : ℕ) (text rest : List ℕ)
    (begins : BeginsWithNumber end text number rest) → number_of begins.word ≡ Some number
the_word_spells_the_number end number text rest begins = begins.spells

a_number_is_not_passed_over : ¬ BeginsWithNoNumber SPACE (codes "7 ")
a_number_is_not_passed_over never =
    never 7 [] (record { word = codes "7"; split = refl; spells = refl })

a_first_number_is_not_passed_over : ¬ FirstIsNoNumber (codes "7")
a_first_number_is_not_passed_over never =
    let n : ℕ = 7 in
    let none : Some n ≡ None = never (codes "7") [] refl in
    cc

the_first_part_spells_the_number : (list : List ℕ) (number : ℕ) (rest : Option (Bor (List ℕ)))
    (first : FirstNumber list number rest) → number_of first.word ≡ Some number
the_first_part_spells_the_number list number rest first = first.spells

-- a line that asks for something is not passed over, and one that is read asks for it
a_hangup_is_not_passed_over : ¬ NoLineAsks op_of (codes "hangup" ++ LINE_FEED ∷ [])
a_hangup_is_not_passed_over none =
    let no : Some Hangs_up ≡ None = none (codes "hangup" ∷ []) []
    (record { line = codes "hangup"; split = refl; plain = refl; words_are = refl })
    (omega arith) in
    cc

module _ (text rest : List ℕ) (op : Op) (line : LineAsks op_of text op rest) where
  a_line_comes_first : text ≡ line.begins.line ++ LINE_FEED ∷ rest
  a_line_comes_first = line.begins.split

  its_words_ask_for_it : op_of line.words ≡ Some op
  its_words_ask_for_it = line.asks

-- a kind is all of its part
a_comma_is_no_end : ¬ IsFirst (codes "alarm") (codes "alarm,") None
a_comma_is_no_end first = let long : 6 ≡ 5 = ap length first in omega (arith, long)

an_end_is_no_comma : (rest : Bor (List ℕ)) → ¬ IsFirst (codes "alarm") (codes "alarm") (Some rest)
an_end_is_no_comma rest first =
    let long = ap length first ∙ length-append (codes "alarm") (COMMA ∷ rest.now) in
    omega (arith, long)

a_kind_is_not_passed_over : ¬ IsNotFirst (codes "alarm") (codes "alarm")
a_kind_is_not_passed_over never = never.not_alone refl

nor_is_one_before_others : ¬ IsNotFirst (codes "alarm") (codes "alarm,")
nor_is_one_before_others never = never.not_before [] refl

module _ (text rest : List ℕ) (group : GroupNote) (found : BeginsWithGroup text group rest) where
  a_line_to_a_group_comes_first : text ≡ found.begins.line ++ LINE_FEED ∷ rest
  a_line_to_a_group_comes_first = found.begins.split

  its_words_ask_for_the_notes :
      group_of found.words ≡ Some (notes_to group.notes found.asked.pids)
  its_words_ask_for_the_notes = found.asked.ask
