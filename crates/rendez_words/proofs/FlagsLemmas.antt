-- A word of flags: that bits set in it are set in the flags, and that it is read back.
use Rattle.std.proofs.Common.{◌≡◌, ◌==◌, ℕ, ◌+◌, ◌*◌, ◌/◌, ◌%◌, ◌<◌, Bool, true, false, ◌||◌}
use Rattle.std.proofs.Common.{if◌then◌else◌, List, [], ◌∷◌, length, bit_or, refl, ◌∙◌, ap}
use Rattle.std.proofs.Common.{arith}
use Rattle.std.proofs.lemmas.Nat.{or_block, div-mul-add, mod-mul-add}
use Rattle.sync_base.specs.declared.note.Note.{Note}
use Rattle.sync_base.specs.declared.note.Note.TheVariants.{Interrupt, Hangup, Alarm, ClosedPipe}
use Rattle.sync_base.specs.declared.note.Note.TheVariants.{Expired}
use Rattle.sync_base.specs.declared.note.NoteSet.{NoteSet}
use Rattle.sync_base.specs.NoteSet.{holds, joined, only, no_notes}
use Rattle.sleep_core.specs.declared.phase.ProcFlags.{ProcFlags}
use Rattle.rendez_words.specs.FlagsWord.{bits_of, number_of_bits, flags_word}

-- one bit
or_bit : (x y : Bool) → bit_or (if x then 1 else 0) (if y then 1 else 0) ≡ (if x || y then 1 else 0)
or_bit true true = refl
or_bit true false = refl
or_bit false true = refl
or_bit false false = refl

bit_low : (x : Bool) → (if x then 1 else 0) < 2
bit_low true = omega arith
bit_low false = omega arith

-- one bit more
or_more : (x y : Bool) (xs ys zs : List Bool)
    → bit_or (number_of_bits xs) (number_of_bits ys) ≡ number_of_bits zs
    → bit_or (number_of_bits (x ∷ xs)) (number_of_bits (y ∷ ys)) ≡ number_of_bits ((x || y) ∷ zs)
or_more x y xs ys zs is =
    or_block 1 (number_of_bits xs) (number_of_bits ys) (if x then 1 else 0) (if y then 1 else 0)
    (bit_low x) (bit_low y)
    ∙ ap (λ n. n * 2 + bit_or (if x then 1 else 0) (if y then 1 else 0)) is
    ∙ ap (λ n. number_of_bits zs * 2 + n) (or_bit x y)

or_true : (x : Bool) → (x || true) ≡ true
or_true true = refl
or_true false = refl

or_false : (x : Bool) → (x || false) ≡ x
or_false true = refl
or_false false = refl

-- the bits of both words are set
abbrev joined_bits : List Bool → List Bool → List Bool
joined_bits [] ys = []
joined_bits (x ∷ xs) [] = []
joined_bits (x ∷ xs) (y ∷ ys) = (x || y) ∷ joined_bits xs ys

or_bits : (xs ys : List Bool) → length xs ≡ length ys
    → bit_or (number_of_bits xs) (number_of_bits ys) ≡ number_of_bits (joined_bits xs ys)
or_bits [] [] same = refl
or_bits [] (y ∷ ys) same = absurd (omega arith)
or_bits (x ∷ xs) [] same = absurd (omega arith)
or_bits (x ∷ xs) (y ∷ ys) same = or_more x y xs ys (joined_bits xs ys) (or_bits xs ys (omega arith))

or_flags : (a b : ProcFlags) → bit_or (flags_word a) (flags_word b)
    ≡ number_of_bits (joined_bits (bits_of a) (bits_of b))
or_flags a b = or_bits (bits_of a) (bits_of b) refl

-- the mark is set, and the notes stay
pub or_mark : (flags : ProcFlags) → bit_or (flags_word flags)
    (flags_word (record { wake = true; notes = no_notes }))
    ≡ flags_word (record { wake = true; notes = flags.notes })
or_mark flags =
    or_flags flags (record { wake = true; notes = no_notes })
    ∙ (λ k. number_of_bits (or_true flags.wake k
    ∷ or_false (holds flags.notes Interrupt) k
    ∷ or_false (holds flags.notes Hangup) k
    ∷ or_false (holds flags.notes Alarm) k
    ∷ or_false (holds flags.notes ClosedPipe) k
    ∷ or_false (holds flags.notes Expired) k
    ∷ []))

-- the notes are joined, and the mark stays
pub or_notes : (flags : ProcFlags) (new : NoteSet)
    → bit_or (flags_word flags) (flags_word (record { wake = false; notes = new }))
    ≡ flags_word (record { wake = flags.wake; notes = joined flags.notes new })
or_notes flags new =
    or_flags flags (record { wake = false; notes = new })
    ∙ ap (λ wake. number_of_bits (wake
    ∷ (holds flags.notes Interrupt || holds new Interrupt)
    ∷ (holds flags.notes Hangup || holds new Hangup)
    ∷ (holds flags.notes Alarm || holds new Alarm)
    ∷ (holds flags.notes ClosedPipe || holds new ClosedPipe)
    ∷ (holds flags.notes Expired || holds new Expired)
    ∷ [])) (or_false flags.wake)

-- the lowest bit is read, and the others are left
pub lowest : (bit : Bool) (rest : List Bool) (word : ℕ) → word ≡ number_of_bits (bit ∷ rest)
    → (word % 2 == 1) ≡ bit
lowest bit rest word is =
    ap (λ n. n == 1) (ap (λ n. n % 2) is ∙ mod-mul-add (number_of_bits rest) 2
    (if bit then 1 else 0) (bit_low bit)) ∙ tells bit
  where
    tells : (b : Bool) → ((if b then 1 else 0) == 1) ≡ b
    tells true = refl
    tells false = refl

-- half of the word has the other bits
pub others : (bit : Bool) (rest : List Bool) (word : ℕ) → word ≡ number_of_bits (bit ∷ rest)
    → word / 2 ≡ number_of_bits rest
others bit rest word is =
    ap (λ n. n / 2) is ∙ div-mul-add (number_of_bits rest) 2 (if bit then 1 else 0) (bit_low bit)

-- the notes whose bits are set
abbrev with_note : NoteSet → Note → Bool → NoteSet
with_note notes note is_set = if is_set then joined notes (only note) else notes

abbrev notes_from : (interrupt hangup alarm closed_pipe expired : Bool) → NoteSet
notes_from interrupt hangup alarm closed_pipe expired =
    let first = with_note no_notes Interrupt interrupt in
    let second = with_note first Hangup hangup in
    let third = with_note second Alarm alarm in
    let fourth = with_note third ClosedPipe closed_pipe in
    with_note fourth Expired expired

notes_again : (interrupt hangup alarm closed_pipe expired : Bool)
    → notes_from interrupt hangup alarm closed_pipe expired ≡ record {
      interrupt = interrupt;
      hangup = hangup;
      alarm = alarm;
      closed_pipe = closed_pipe;
      expired = expired;
    }
notes_again true true true true true = refl
notes_again true true true true false = refl
notes_again true true true false true = refl
notes_again true true true false false = refl
notes_again true true false true true = refl
notes_again true true false true false = refl
notes_again true true false false true = refl
notes_again true true false false false = refl
notes_again true false true true true = refl
notes_again true false true true false = refl
notes_again true false true false true = refl
notes_again true false true false false = refl
notes_again true false false true true = refl
notes_again true false false true false = refl
notes_again true false false false true = refl
notes_again true false false false false = refl
notes_again false true true true true = refl
notes_again false true true true false = refl
notes_again false true true false true = refl
notes_again false true true false false = refl
notes_again false true false true true = refl
notes_again false true false true false = refl
notes_again false true false false true = refl
notes_again false true false false false = refl
notes_again false false true true true = refl
notes_again false false true true false = refl
notes_again false false true false true = refl
notes_again false false true false false = refl
notes_again false false false true true = refl
notes_again false false false true false = refl
notes_again false false false false true = refl
notes_again false false false false false = refl

-- notes that were joined one by one
pub notes_read : (empty first second third fourth fifth : NoteSet)
    (interrupt hangup alarm closed_pipe expired : Bool) → empty ≡ no_notes
    → first ≡ with_note empty Interrupt interrupt → second ≡ with_note first Hangup hangup
    → third ≡ with_note second Alarm alarm → fourth ≡ with_note third ClosedPipe closed_pipe
    → fifth ≡ with_note fourth Expired expired
    → fifth ≡ notes_from interrupt hangup alarm closed_pipe expired
notes_read empty first second third fourth fifth interrupt hangup alarm closed_pipe expired e i h a
    c x =
    let one = i ∙ ap (λ n. with_note n Interrupt interrupt) e in
    let two = h ∙ ap (λ n. with_note n Hangup hangup) one in
    let three = a ∙ ap (λ n. with_note n Alarm alarm) two in
    let four = c ∙ ap (λ n. with_note n ClosedPipe closed_pipe) three in
    x ∙ ap (λ n. with_note n Expired expired) four

-- flags whose bits were read are the flags
pub flags_again : (flags : ProcFlags) (wake interrupt hangup alarm closed_pipe expired : Bool)
    → wake ≡ flags.wake → interrupt ≡ holds flags.notes Interrupt
    → hangup ≡ holds flags.notes Hangup → alarm ≡ holds flags.notes Alarm
    → closed_pipe ≡ holds flags.notes ClosedPipe → expired ≡ holds flags.notes Expired
    → record { wake = wake; notes = notes_from interrupt hangup alarm closed_pipe expired } ≡ flags
flags_again flags wake interrupt hangup alarm closed_pipe expired w i h a c x =
    (λ k. record { wake = w k; notes = notes_from (i k) (h k) (a k) (c k) (x k) })
    ∙ ap (λ notes. record { wake = flags.wake; notes = notes })
    (notes_again (holds flags.notes Interrupt) (holds flags.notes Hangup) (holds flags.notes Alarm)
    (holds flags.notes ClosedPipe) (holds flags.notes Expired))
