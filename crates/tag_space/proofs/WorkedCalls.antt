-- What comes of calls in the worked histories, computed.
use Rattle.std.proofs.Common.{◌≡◌, ◌≢◌, ℕ, List, [], ◌∷◌, ◌++◌, Ok, Err, refl, inl, inr, ap, sym}
use Rattle.std.proofs.Common.{◌∙◌, arith}
use Rattle.histories.specs.History.{IsLegal}
use Rattle.sync_base.specs.NoteSet.{no_notes}
use Rattle.sync_base.specs.declared.fault.Fault.{Fault}
use Rattle.sync_base.specs.declared.fault.Fault.TheVariants as fault
use Rattle.tag_space.specs.declared.calls.GroupReply.TheVariants.{Wait}
use Rattle.tag_space.specs.Outcome.{calls_by, ComesOf, Exchange, HasPartner, IsInPair, IsOneOfCalls}
use Rattle.tag_space.specs.Outcome.{IsOutForGood, word_of}
use Rattle.tag_space.specs.Promises.{IsAlone}
use Rattle.tag_space.specs.Rendezvous.{Entry, Space, Party, Offered, Offer, Pair, rendezvous}
use Rattle.tag_space.proofs.WorkedSpaces.{told, gives, offer, two, one_waits, one_is_found}
use Rattle.tag_space.proofs.WorkedSpaces.{one_is_told, the_pair}

-- ---- a member's calls

a_call_is_its_members : calls_by 0 one_is_told ≡ offer 0 0 7 5 ∷ []
a_call_is_its_members = refl

and_nobody_elses : calls_by 1 one_is_told ≡ offer 1 1 7 9 ∷ []
and_nobody_elses = refl

-- a second call of the same member stands before the first, under its own number
calls_are_told_apart : calls_by 0 (told (gives 0 7 5) (Wait 1) ∷ one_is_told) ≡ offer 3 0 7 5 ∷
    offer 0 0 7 5 ∷ []
calls_are_told_apart = refl

-- ---- who is in a pair

-- both are in the pair, and each gets the other's value
who_waited_gets_the_finders_value : IsInPair one_is_found (offer 0 0 7 5) 9
who_waited_gets_the_finders_value =
    record { pair = the_pair; is_pair = inl refl; exchanged = inl (refl, refl) }

who_found_gets_the_waiters_value : IsInPair one_is_found (offer 1 1 7 9) 5
who_found_gets_the_waiters_value =
    record { pair = the_pair; is_pair = inl refl; exchanged = inr (refl, refl) }

-- who waits is in no pair
nobody_is_in_a_pair_yet : IsInPair one_waits (offer 0 0 7 5) 9 → ⊥
nobody_is_in_a_pair_yet in_pair = in_pair.is_pair

-- and its own value is not the answer, nor is another
an_invented_value : IsInPair one_is_found (offer 0 0 7 5) 8 → ⊥
an_invented_value in_pair = elim in_pair.is_pair [
  | inl is ↦ elim in_pair.exchanged [
    | inl first ↦
        let value : 8 ≡ 9 = first.1 ∙ sym (ap (λ (p : Pair). p.finding.value) is) in
        omega (arith, value)
    | inr second ↦
        let value : 8 ≡ 5 = second.1 ∙ sym (ap (λ (p : Pair). p.waiting.value) is) in
        omega (arith, value)
  ]
  | inr none ↦ none
]

-- ---- who is whose partner

-- of two calls that met the one is the other's partner
who_waited_has_a_partner : HasPartner one_is_found (offer 0 0 7 5) 9
who_waited_has_a_partner =
    record {
      partner = offer 1 1 7 9;
      call = inl refl;
      another = λ same. omega (arith, same);
      tag_is = refl;
      gives = refl;
      gets = who_found_gets_the_waiters_value;
    }

-- a call that waits has none
nobody_is_a_partner_yet : HasPartner one_waits (offer 0 0 7 5) 9 → ⊥
nobody_is_a_partner_yet has = has.gets.is_pair

-- a call that nobody made is no call of the member
no_call_from_nowhere : IsOneOfCalls (offer 1 1 7 8) (calls_by 1 one_is_found) → ⊥
no_call_from_nowhere (inl is) =
    let value : 9 ≡ 8 = ap (λ (o : Offer). o.value) is in
    omega (arith, value)
no_call_from_nowhere (inr none) = none

-- ---- the exchange

-- member 0 of a space of two, and what it offers
abbrev the_first : Party
the_first = record { space = two; member = 0 }

abbrev seven_and_five : Offered
seven_and_five = record { tag = record { 0 = 7 }; value = 5 }

-- the member's one call, its own, is in a pair
who_waited_exchanged : Exchange the_first seven_and_five [] one_is_told (Ok 9)
who_waited_exchanged =
    record {
      offer = offer 0 0 7 5;
      one = refl;
      member_is = refl;
      tag_is = refl;
      value_is = refl;
      outcome = record { pair = the_pair; is_pair = inl refl; exchanged = inl (refl, refl) };
    }

-- the call of another is not the member's
anothers_call_is_not_its_own :
    (exchange : Exchange the_first seven_and_five [] one_is_told (Ok 9))
    → exchange.offer ≡ offer 1 1 7 9 → ⊥
anothers_call_is_not_its_own exchange is =
    let member : 0 ≡ 1 = sym exchange.member_is ∙ ap (λ (o : Offer). o.member) is in
    omega (arith, member)

-- ---- the word for an answer

a_value_is_its_own_word : word_of (Ok 5) ≡ Ok 5
a_value_is_its_own_word = refl

an_interruption_is_all_ones : word_of (Err (fault.Interrupted no_notes)) ≡ Ok 18446744073709551615
an_interruption_is_all_ones = refl

another_fault_stays : word_of (Err fault.Worn) ≡ Err fault.Worn
another_fault_stays = refl

module _ (space : Space) (history : List Entry) (made : Offer) where
  nobody_is_its_own_partner : (given : ℕ) (has : HasPartner history made given)
      → has.partner.member ≢ made.member
  nobody_is_its_own_partner given has = has.another

  -- who is in a pair at last is not out for good
  out_for_good_and_met : (since : List Entry) → IsLegal (rendezvous space) [] (since ++ history)
      → ¬ IsAlone (since ++ history) made.number → ¬ IsOutForGood space history made
  out_for_good_and_met since legal met out = met (out since legal)

  refused_and_not_out_for_good : (why : Fault) → ¬ IsOutForGood space history made
      → ¬ ComesOf space history made (Err why)
  refused_and_not_out_for_good why in_line comes = in_line comes
