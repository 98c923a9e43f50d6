-- What rfork leaves by each of its flags, worked out by its definitions alone, with four processes
-- in two groups; and what no rfork leaves.
use Rattle.std.proofs.Common.{◌≡◌, ℕ, List, [], ◌∷◌, Some, None, true, false, ap, arith, refl}
use Rattle.sync_base.specs.declared.flags.Flags.{Flags}
use Rattle.rendez_words.specs.Words.{one_less}
use Rattle.sleep_wakeup.specs.Broken.{four_in_two}
use Rattle.sleep_wakeup.specs.Forks.{AreOfRoster, AsksChild, AsksNobody, Forks}
use Rattle.sleep_wakeup.specs.Kernel.{Unused, next_process}

-- RFPROC is 1, RFREND is 2, and RFNOTEG is 4
abbrev flags_of : ℕ → Flags
flags_of bits = record { bits = bits }

-- no flag, and RFNOTEG alone, ask for nobody
no_flag_asks_nobody : AsksNobody (flags_of 0)
no_flag_asks_nobody =
    record { of_roster = record { known = omega arith; no_space = refl }; nobody = refl }

rfnoteg_asks_nobody : AsksNobody (flags_of 4)
rfnoteg_asks_nobody =
    record { of_roster = record { known = omega arith; no_space = refl }; nobody = refl }

-- RFPROC asks for a child, alone and with RFNOTEG
rfproc_asks_a_child : AsksChild (flags_of 1)
rfproc_asks_a_child =
    record { of_roster = record { known = omega arith; no_space = refl }; child = refl }

both_ask_a_child : AsksChild (flags_of 5)
both_ask_a_child =
    record { of_roster = record { known = omega arith; no_space = refl }; child = refl }

-- it is one or the other
rfproc_asks_nobody : ¬ AsksNobody (flags_of 1)
rfproc_asks_nobody asks = let nobody : true ≡ false = asks.nobody in cc

rfnoteg_asks_a_child : ¬ AsksChild (flags_of 4)
rfnoteg_asks_a_child asks = let child : false ≡ true = asks.child in cc

-- RFREND is no roster's, nor is an unknown bit
rfrend_is_no_rosters : ¬ AreOfRoster (flags_of 3)
rfrend_is_no_rosters are = let space : true ≡ false = are.no_space in cc

an_unknown_bit_is_no_rosters : ¬ AreOfRoster (flags_of 9)
an_unknown_bit_is_no_rosters are = let known = are.known in omega (arith, known)

-- the roster with these groups, and with these after a child
abbrev grouped : Unused → List (List ℕ) → Unused
grouped unused groups = record unused { groups = groups }

abbrev with_child : Unused → List (List ℕ) → Unused
with_child unused groups = record unused { pids = one_less unused.pids; groups = groups }

module _ (unused : Unused) where
  -- without a flag all is as before
  no_flag : Forks 1 (grouped unused four_in_two) (flags_of 0) None (grouped unused four_in_two)
  no_flag = (no_flag_asks_nobody, refl)

  -- with RFNOTEG alone process 1 begins a group, and 0 stays where it was
  group_alone : Forks 1 (grouped unused four_in_two) (flags_of 4) None
      (grouped unused ((1 ∷ []) ∷ (2 ∷ 3 ∷ []) ∷ (0 ∷ []) ∷ []))
  group_alone = (rfnoteg_asks_nobody, refl)

  -- with RFPROC the child is in the group of its parent
  child : Forks 1 (grouped unused four_in_two) (flags_of 1) (Some (next_process unused))
      (with_child unused ((2 ∷ 3 ∷ []) ∷ (0 ∷ 1 ∷ unused.pids.next ∷ []) ∷ []))
  child = (rfproc_asks_a_child, refl, refl)

  -- with both the child is in a group of its own, and its parent where it was
  child_in_a_group : Forks 1 (grouped unused four_in_two) (flags_of 5) (Some (next_process unused))
      (with_child unused ((unused.pids.next ∷ []) ∷ four_in_two))
  child_in_a_group = (both_ask_a_child, refl, refl)

  -- with RFNOTEG alone nobody else goes along
  takes_another_along : Forks 1 (grouped unused ((0 ∷ 1 ∷ 2 ∷ []) ∷ [])) (flags_of 4) None
      (grouped unused ((1 ∷ 2 ∷ []) ∷ (0 ∷ []) ∷ [])) → ⊥
  takes_another_along (asks, after) = let groups = ap (λ (u : Unused). u.groups) after in cc

  -- nor does the parent with its child
  parent_goes_along : Forks 1 (grouped unused four_in_two) (flags_of 5) (Some (next_process unused))
      (with_child unused ((1 ∷ unused.pids.next ∷ []) ∷ (2 ∷ 3 ∷ []) ∷ (0 ∷ []) ∷ [])) → ⊥
  parent_goes_along (asks, is_next, after) =
      let groups = ap (λ (u : Unused). u.groups) after in cc

  -- and a child does not join another's group
  joins_another_group : Forks 1 (grouped unused four_in_two) (flags_of 1)
      (Some (next_process unused))
      (with_child unused ((2 ∷ 3 ∷ unused.pids.next ∷ []) ∷ (0 ∷ 1 ∷ []) ∷ [])) → ⊥
  joins_another_group (asks, is_next, after) =
      let groups = ap (λ (u : Unused). u.groups) after in cc
