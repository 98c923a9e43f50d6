-- A member is found with a count above each number that it was told before.
use Rattle.std.proofs.Common.{◌≡◌, ℕ, ◌+◌, ◌≤◌, eqb, cond, List, [], ◌∷◌, ◌++◌}
use Rattle.std.proofs.Common.{subst, arith}
use Rattle.std.proofs.lemmas.List.Sums.{sum_by-append}
use Rattle.histories.proofs.HistoryLemmas.{legal_past}
use Rattle.tag_space.specs.declared.calls.GroupCall.{GroupCall}
use Rattle.tag_space.specs.declared.calls.GroupCall.TheVariants.{Call, Collect, Leave}
use Rattle.tag_space.specs.declared.calls.GroupReply.TheVariants.{Met, Wait}
use Rattle.tag_space.specs.GroupObject.{member_of}
use Rattle.tag_space.specs.Rendezvous.{Entry, Space, Pair, IsAnswered, count_of, pairs_of}
use Rattle.tag_space.specs.Rendezvous.{pair_made, rendezvous}
use Rattle.tag_space.specs.WakeLaws.{WaitersAreFoundAbove}
use Rattle.tag_space.proofs.PromiseLemmas.{is_right}

module _ (space : Space) (member : ℕ) where
  -- whether a pair met a call of the member
  abbrev is_own : Pair → ℕ
  is_own pair = cond {A = ℕ} (eqb pair.waiting.member member) 1 0

  -- an entry takes no meeting back
  count_rises : (entry : Entry) (past : List Entry)
      → count_of space past member ≤ count_of space (entry ∷ past) member
  count_rises entry past =
      let sum = sum_by-append is_own (pair_made past entry.request entry.reply) (pairs_of past) in
      omega (arith, sum)

  counts_rise : (since past : List Entry)
      → count_of space past member ≤ count_of space (since ++ past) member
  counts_rise [] past = omega arith
  counts_rise (entry ∷ since) past =
      let before = counts_rise since past in
      let more = count_rises entry (since ++ past) in
      omega (arith, before, more)

  -- a member is told to wait with the count of its meetings
  waits_with : (past : List Entry) (call : GroupCall) (number : ℕ)
      → IsAnswered space past call (Wait number) → member_of call ≡ member
      → number ≡ count_of space past member
  waits_with past (Call caller tag value) number answered own =
      subst (λ m. number ≡ count_of space past m) own answered.2
  waits_with past (Collect caller) number answered own =
      subst (λ m. number ≡ count_of space past m) own answered.1
  waits_with past (Leave caller) number answered own = absurd answered

  -- and is found with one more
  found_with : (past : List Entry) (call : GroupCall) (given count : ℕ)
      → IsAnswered space past call (Met given member count)
      → count ≡ count_of space past member + 1
  found_with past (Call caller tag value) given count answered = answered.1.count_is
  found_with past (Collect caller) given count answered = absurd answered
  found_with past (Leave caller) given count answered = absurd answered

-- so the one count is above the other
pub found_above : WaitersAreFoundAbove
found_above space past since waits found number given member count legal told own met =
    let then = is_right space (since ++ waits ∷ past) found legal in
    let first = is_right space past waits
    (legal_past (rendezvous space) [] since (waits ∷ past) legal.1) in
    let low = waits_with space member past waits.request number
    (subst (IsAnswered space past waits.request) told first.answered) own in
    let high = found_with space member (since ++ waits ∷ past) found.request given count
    (subst (IsAnswered space (since ++ waits ∷ past) found.request) met then.answered) in
    let more = counts_rise space member since (waits ∷ past) in
    let one = count_rises space member waits past in
    omega (arith, low, high, more, one)
