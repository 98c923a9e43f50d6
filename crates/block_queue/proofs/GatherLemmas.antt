-- What a gather finds: which blocks are left, and what the tail tells of them.
use Rattle.std.proofs.Common.{◌≡◌, ℕ, ◌+◌, ◌-◌, ◌%◌, ◌≤◌, Bool, true, false, leb, zero, suc, List}
use Rattle.std.proofs.Common.{[], ◌∷◌, length, refl, sym, ap, ◌∙◌, arith, Some}
use Rattle.std.specs.Prelude.{slice_get, drop}
use Rattle.histories.specs.Account.{HasAllNumbers}
use Rattle.std.proofs.lemmas.Bool.Decides.{nat_tests}
use Rattle.histories.specs.History.{IsLegal, IsPast}
use Rattle.histories.proofs.HistoryLemmas.{past_legal}
use Rattle.histories.proofs.ListLemmas.{past_refl, past_cons, past_trans}
use Rattle.sync_base.specs.Write.{Write}
use Rattle.block_queue.specs.declared.entry.Entry.{Entry}
use Rattle.block_queue.specs.declared.entry.Entry.TheVariants as entry
use Rattle.block_queue.specs.declared.view.Key.{Key}
use Rattle.block_queue.specs.declared.places.TheConstants.{MARK}
use Rattle.block_queue.specs.declared.view.View.{View}
use Rattle.block_queue.specs.GatherSteps.{KnowsState}
use Rattle.block_queue.specs.Places.{IsQueueState}
use Rattle.block_queue.specs.Gather.{with_blocks, IsLeft}
use Rattle.block_queue.proofs.RuleMoves.{history_fits}
use Rattle.block_queue.proofs.WordMoves.{same_some}
use Rattle.block_queue.specs.History.{QueueState, opening_state}
use Rattle.block_queue.specs.Meaning.{KnowsQueue, queue_after, queue_meaning}

-- ---- which blocks are left

drop_here : {A : Type 0} (xs : List A) (n : ℕ) (x : A) → slice_get xs n ≡ Some x →
    drop n xs ≡ x ∷ drop (suc n) xs
drop_here [] zero x at = cc
drop_here [] (suc n) x at = cc
drop_here (y ∷ ys) zero x at = ap (λ z. z ∷ ys) (same_some y x at)
drop_here (y ∷ ys) (suc n) x at = drop_here ys n x at

drop_end : {A : Type 0} (xs : List A) (n : ℕ) → length xs ≡ n → drop n xs ≡ []
drop_end [] zero same = refl
drop_end [] (suc n) same = refl
drop_end (x ∷ xs) zero same = absurd (omega arith)
drop_end (x ∷ xs) (suc n) same = drop_end xs n (omega arith)

-- takes go on from the history after them
with_blocks_past : (number : ℕ) (writes : List Write) (history : List Entry) →
    IsPast history (with_blocks number writes history)
with_blocks_past number [] history = past_refl history
with_blocks_past number (write ∷ writes) history =
    past_trans history after (with_blocks (number + 1) writes after)
    (past_cons history history (entry.Block write.writer write.bytes (number + 1))
    (past_refl history))
    (with_blocks_past (number + 1) writes after)
  where
    after : List Entry
    after = entry.Block write.writer write.bytes (number + 1) ∷ history

-- takes after which nothing is left take what was left before them
pub blocks_left : (key : Key) (number : ℕ) (writes : List Write) (history : List Entry) →
    IsLegal (queue_meaning key.first) (opening_state key.limit) (with_blocks number writes history)
    →
    length (queue_after key (with_blocks number writes history)).pipe.accepted ≡
    (queue_after key (with_blocks number writes history)).pipe.read_whole →
    writes ≡ drop (queue_after key history).pipe.read_whole (queue_after key history).pipe.accepted
blocks_left key number [] history legal all =
    sym (drop_end (queue_after key history).pipe.accepted (queue_after key history).pipe.read_whole
    all)
blocks_left key number (write ∷ writes) history legal all =
    ap (λ (ws : List Write). write ∷ ws) (blocks_left key (number + 1) writes after legal all)
    ∙ ap (λ (n : ℕ). write ∷ drop n (queue_after key history).pipe.accepted) next
    ∙ sym (drop_here (queue_after key history).pipe.accepted
    (queue_after key history).pipe.read_whole write right.0.may.next)
  where
    next : (queue_after key history).pipe.read_whole + 1 ≡
        suc (queue_after key history).pipe.read_whole
    next = omega arith

    after : List Entry
    after = entry.Block write.writer write.bytes (number + 1) ∷ history

    right : IsLegal (queue_meaning key.first) (opening_state key.limit) after
    right = past_legal (queue_meaning key.first) (opening_state key.limit) after
        (with_blocks (number + 1) writes after) (with_blocks_past (number + 1) writes after) legal

-- ---- what the tail tells at the end

module _ (key : Key) (view : View) (found : ℕ) (own : HasAllNumbers view.account) (knows :
    KnowsQueue key view.account) (told : KnowsState key view found view.account.seen) where
  abbrev final : QueueState
  final = queue_after key view.account.seen

  fits : IsQueueState key.limit key.first final
  fits = history_fits key view.account.seen told.given knows.history.legal

  tail_parts : (found % MARK ≡ length final.pipe.accepted) × (leb MARK found ≡ final.pipe.hung)
  tail_parts = of final.pipe.hung refl
    where
      of : (b : Bool) → final.pipe.hung ≡ b → (found % MARK ≡ length final.pipe.accepted) ×
          (leb MARK found ≡ final.pipe.hung)
      of true hung =
          let given = fits.given in
          let tail : found ≡ length final.pipe.accepted + MARK = told.tail ∙ rw hung refl in
          let high : leb MARK found ≡ true = grind (arith, nat_tests) in
          (omega arith, high ∙ sym hung)
      of false unhung =
          let given = fits.given in
          let tail : found ≡ length final.pipe.accepted = told.tail ∙ rw unhung refl in
          let low : leb MARK found ≡ false = grind (arith, nat_tests) in
          (omega arith, low ∙ sym unhung)

  -- no more writes were taken than the tail counts
  pub taken_within : view.taken ≤ found % MARK
  taken_within = let within = fits.within in let taken = told.taken in let accepted =
      tail_parts.0 in omega arith

  -- what is left fits in the queue
  pub left_within : found % MARK - view.taken ≤ key.limit
  left_within = let room = fits.room in let taken = told.taken in let accepted =
      tail_parts.0 in omega arith

  -- as many writes are left as the tail counts above those that were taken
  pub is_left : IsLeft key view.account (found % MARK - view.taken)
  is_left = record {
    all = own;
    knows = knows;
    puts = told.puts;
    left_is = let within =
        fits.within in let taken = told.taken in let accepted = tail_parts.0 in omega arith;
  }

  -- the mark of the tail says whether the queue is hung up
  pub hung_is : leb MARK found ≡ final.pipe.hung
  hung_is = tail_parts.1
