-- What each set of flags asks for, computed from the definitions alone.
use Rattle.std.proofs.Common.{◌≡◌, ℕ, Bool, true, false, arith, refl}
use Rattle.sync_base.specs.declared.flags.Flags.{Flags}
use Rattle.sync_base.specs.declared.flags.Wants.{Wants}
use Rattle.sync_base.specs.Flags.{AreKnown, asks_child, asks_group, asks_space, wants_of}

-- RFPROC is 1, RFREND is 2, and RFNOTEG is 4
abbrev flags_of : ℕ → Flags
flags_of bits = record { bits = bits }

-- a new process, a new tag space and a new note group
abbrev wanting : Bool → Bool → Bool → Wants
wanting process space group = record { process = process; space = space; note_group = group }

no_flag_asks_for_nothing : wants_of (flags_of 0) ≡ wanting false false false
no_flag_asks_for_nothing = refl

rfproc_asks_for_a_process : wants_of (flags_of 1) ≡ wanting true false false
rfproc_asks_for_a_process = refl

rfrend_asks_for_a_space : wants_of (flags_of 2) ≡ wanting false true false
rfrend_asks_for_a_space = refl

a_process_in_a_space : wants_of (flags_of 3) ≡ wanting true true false
a_process_in_a_space = refl

rfnoteg_asks_for_a_group : wants_of (flags_of 4) ≡ wanting false false true
rfnoteg_asks_for_a_group = refl

a_process_in_a_group : wants_of (flags_of 5) ≡ wanting true false true
a_process_in_a_group = refl

a_space_and_a_group : wants_of (flags_of 6) ≡ wanting false true true
a_space_and_a_group = refl

all_three : wants_of (flags_of 7) ≡ wanting true true true
all_three = refl

-- each word is that of its own bit, also beside a bit that is unknown
process_is_the_first_bit : (asks_child (flags_of 9) ≡ true) × (asks_child (flags_of 14) ≡ false)
process_is_the_first_bit = (refl, refl)

space_is_the_second_bit : (asks_space (flags_of 10) ≡ true) × (asks_space (flags_of 13) ≡ false)
space_is_the_second_bit = (refl, refl)

group_is_the_third_bit : (asks_group (flags_of 12) ≡ true) × (asks_group (flags_of 11) ≡ false)
group_is_the_third_bit = (refl, refl)

-- the last flags that are known, and the next ones
seven_is_known : AreKnown (flags_of 7)
seven_is_known = omega arith

eight_is_unknown : ¬ AreKnown (flags_of 8)
eight_is_unknown known = omega (arith, known)
