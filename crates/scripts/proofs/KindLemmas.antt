-- What spells kinds of notes is one word: no kind has a space in it, and a comma is none.
use Rattle.std.proofs.Common.{◌≡◌, ◌&&◌, ℕ, Bool, true, false, not, List, [], ◌∷◌, ◌++◌, length}
use Rattle.std.proofs.Common.{if◌then◌else◌, codes, Option, None, Some, option_and_then, refl}
use Rattle.std.proofs.Common.{ap, sym, ◌∙◌, append-nil, length-append, arith}
use Rattle.std.specs.List.{list_all}
use Rattle.std.proofs.lemmas.Bool.Decides.{nat_tests}
use Rattle.std.proofs.lemmas.Slice.Eq.{bytes_eq-Decides}
use Rattle.sync_base.specs.declared.note.Note.{Note}
use Rattle.sync_base.specs.declared.note.Note.TheVariants.{Interrupt, Hangup, Alarm, ClosedPipe}
use Rattle.sync_base.specs.declared.note.Note.TheVariants.{Expired}
use Rattle.sync_base.specs.declared.note.NoteSet.{NoteSet}
use Rattle.sync_base.specs.NoteSet.{no_notes}
use Rattle.scripts.specs.declared.lines.TheConstants.{COMMA}
use Rattle.scripts.specs.EventText.{kind_text}
use Rattle.scripts.specs.Lines.{is_comma, is_space, is_word, onto_first, parts_of}
use Rattle.scripts.specs.Lines.{words_of}
use Rattle.scripts.specs.Schedule.{IsNotFirst, kind_added, kinds_of, note_named}
use Rattle.scripts.specs.Schedule.{with_kinds}
use Rattle.scripts.proofs.LineLemmas.{parts_of-plain, parts_of-some}
use Rattle.scripts.proofs.NumberLemmas.{same_rest}
use Rattle.scripts.proofs.OnePassLemmas.{read_as}
use Rattle.scripts.proofs.PartLemmas.{TailHas, parted}

-- no byte of the word is a space
abbrev pub has_no_space : List ℕ → Bool
has_no_space word = list_all (λ b. not (is_space b)) word

-- a word that another byte than a comma follows is not the first part of a list
pub other_after : (word list : List ℕ) (byte : ℕ) (beyond : List ℕ)
    → list ≡ word ++ byte ∷ beyond → ¬ (byte ≡ COMMA) → IsNotFirst word list
other_after word list byte beyond split differs =
    record {
      not_alone = λ is.
          let long = ap length (sym is ∙ split) ∙ length-append word (byte ∷ beyond) in
          omega (arith, long);
      not_before = λ rest is.
          let same = same_rest word (byte ∷ beyond) (COMMA ∷ rest) (sym split ∙ is) in
          differs (cc);
    }

-- a word has no space where the word that it is has none
same_word : (word other : List ℕ) → is_word word other ≡ true → has_no_space other ≡ true
    → has_no_space word ≡ true
same_word word other is plain = rw ((bytes_eq-Decides word other).0 is) plain

-- a word that is read as a kind is the kind's
kind_is : (word : List ℕ) (note : Note) → note_named word ≡ Some note → word ≡ kind_text note
kind_is word note is =
    read_as kind_text word (codes "interrupt") Interrupt note _ is refl
    (λ is. read_as kind_text word (codes "hangup") Hangup note _ is refl
    (λ is. read_as kind_text word (codes "alarm") Alarm note _ is refl
    (λ is. read_as kind_text word (codes "closed") ClosedPipe note _ is refl
    (λ is. read_as kind_text word (codes "expired") Expired note _ is refl
    (λ is. absurd (cc))))))

-- it has no space in it, and no comma
kind_has_no_space : (note : Note) → has_no_space (kind_text note) ≡ true
kind_has_no_space Interrupt = refl
kind_has_no_space Hangup = refl
kind_has_no_space Alarm = refl
kind_has_no_space ClosedPipe = refl
kind_has_no_space Expired = refl

-- the word of a kind has no space
kind_has_none : (word : List ℕ) (note : Note) → note_named word ≡ Some note
    → has_no_space word ≡ true
kind_has_none word note is = rw (kind_is word note is) (kind_has_no_space note)

-- and one that begins with none has none
pub kinds_are_none : (set : NoteSet) (list : List ℕ)
    → ((note : Note) → IsNotFirst (kind_text note) list)
    → with_kinds set (parts_of is_comma list) ≡ None
kinds_are_none set list never =
    let first = parted COMMA list in
    ap (with_kinds set) first.parts
    ∙ by_kind first.word first.tail first.others first.beyond first.split
    (note_named first.word) refl
  where
    by_tail : (note : Note) (tail : List ℕ) (others : List (List ℕ)) → TailHas COMMA tail others
        → list ≡ kind_text note ++ tail → ⊥
    by_tail note [] others beyond split =
        (never note).not_alone (split ∙ append-nil (kind_text note))
    by_tail note (b ∷ tail) others beyond split =
        (never note).not_before tail (split ∙ ap (λ b. kind_text note ++ b ∷ tail) beyond.0)

    by_kind : (word tail : List ℕ) (others : List (List ℕ)) → TailHas COMMA tail others
        → list ≡ word ++ tail → (kind : Option Note) → note_named word ≡ kind
        → with_kinds set (word ∷ others) ≡ None
    by_kind word tail others beyond split None none = rw none refl
    by_kind word tail others beyond split (Some note) some =
        absurd (by_tail note tail others beyond
        (split ∙ ap (λ (w : List ℕ). w ++ tail) (kind_is word note some)))

-- nor have those of several
kinds_have_none : (set : NoteSet) (words : List (List ℕ)) (all : NoteSet)
    → with_kinds set words ≡ Some all → list_all has_no_space words ≡ true
kinds_have_none set [] all is = refl
kinds_have_none set (word ∷ words) all is =
    by_kind (note_named word) refl (λ more rest. kinds_have_none more words all rest) is
  where
    by_set : (note : Note) → note_named word ≡ Some note
        → ((more : NoteSet) → with_kinds more words ≡ Some all
        → list_all has_no_space words ≡ true)
        → (added : Option NoteSet)
        → option_and_then (λ more. with_kinds more words) added ≡ Some all
        → list_all has_no_space (word ∷ words) ≡ true
    by_set note named rest None is = absurd (cc)
    by_set note named rest (Some more) is =
        ap (λ v. v && list_all has_no_space words) (kind_has_none word note named) ∙ rest more is

    by_kind : (kind : Option Note) → note_named word ≡ kind
        → ((more : NoteSet) → with_kinds more words ≡ Some all
        → list_all has_no_space words ≡ true)
        → option_and_then
        (λ note. option_and_then (λ more. with_kinds more words) (kind_added set note)) kind
        ≡ Some all
        → list_all has_no_space (word ∷ words) ≡ true
    by_kind None named rest is = absurd (cc)
    by_kind (Some note) named rest is = by_set note named rest (kind_added set note) is

-- three that hold, as two facts
both : (x y z : Bool) → ((x && y) && z) ≡ true → (x ≡ true) × ((y && z) ≡ true)
both true y z is = (refl, is)
both false y z is = absurd (cc)

-- a text has no space where its parts between commas have none
parts_have_none : (text : List ℕ) → list_all has_no_space (parts_of is_comma text) ≡ true
    → has_no_space text ≡ true
parts_have_none [] is = refl
parts_have_none (b ∷ text) is =
    by_byte (is_comma b) refl (parts_of is_comma text) refl (λ h. parts_have_none text h) is
  where
    by_byte : (v : Bool) → is_comma b ≡ v → (parts : List (List ℕ))
        → parts_of is_comma text ≡ parts
        → (list_all has_no_space (parts_of is_comma text) ≡ true → has_no_space text ≡ true)
        → list_all has_no_space (if v then [] ∷ parts else onto_first b parts) ≡ true
        → has_no_space (b ∷ text) ≡ true
    by_byte true comma parts same rest is =
        let other : not (is_space b) ≡ true = grind (arith, nat_tests) in
        ap (λ v. v && has_no_space text) other ∙ rest (ap (list_all has_no_space) same ∙ is)
    by_byte false other [] same rest is =
        let some = parts_of-some is_comma text in
        absurd (omega (arith, some, ap (λ (ps : List (List ℕ)). length ps) same))
    by_byte false other (part ∷ parts) same rest is =
        let two = both (not (is_space b)) (has_no_space part) (list_all has_no_space parts) is in
        ap (λ v. v && has_no_space text) two.0 ∙ rest (ap (list_all has_no_space) same ∙ two.1)

-- what spells kinds is the only word of its line
pub kinds_are_word : (word : List ℕ) (set : NoteSet) → kinds_of word ≡ Some set
    → words_of word ≡ word ∷ []
kinds_are_word word set is =
    parts_of-plain is_space word (by_dash (is_word word (codes "-")) refl is)
  where
    by_dash : (v : Bool) → is_word word (codes "-") ≡ v
        → (if v then Some no_notes else with_kinds no_notes (parts_of is_comma word)) ≡ Some set
        → has_no_space word ≡ true
    by_dash true dash is = same_word word (codes "-") dash refl
    by_dash false other is =
        parts_have_none word (kinds_have_none no_notes (parts_of is_comma word) set is)
