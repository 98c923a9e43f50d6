-- What the takes come to by which a reader with all numbers empties its queue.
use Rattle.std.proofs.Common.{[], ◌≡◌, ◌≢◌, ⊎_elim, length-append, ℕ, ◌+◌, ◌-◌, ◌<◌, ◌≤◌, List, ◌∷◌}
use Rattle.std.proofs.Common.{◌++◌, length, get_or, sym, ap, subst, ◌∙◌, arith, Some, None}
use Rattle.std.specs.Prelude.{slice_get}
use Rattle.std.proofs.lemmas.Option.{slice_get-get_or}
use Rattle.histories.specs.declared.account.Account.{Account}
use Rattle.histories.specs.Account.{HasAllNumbers}
use Rattle.sync_base.specs.declared.limits.TheConstants.{LAST_WRITE}
use Rattle.histories.specs.History.{IsLegal}
use Rattle.histories.proofs.AloneLemmas.{entered_has_all}
use Rattle.sync_base.specs.Pipe.{begun_number, next_write}
use Rattle.sync_base.specs.Write.{Write}
use Rattle.block_queue.specs.declared.entry.Entry.{Entry}
use Rattle.block_queue.specs.declared.entry.Entry.TheVariants as entry
use Rattle.block_queue.specs.declared.view.Key.{Key}
use Rattle.block_queue.specs.Gather.{with_blocks, IsLeft, IsEmptying}
use Rattle.block_queue.proofs.RuleMoves.{history_fits}
use Rattle.block_queue.proofs.StateLemmas.{begun_is}
use Rattle.block_queue.specs.History.{QueueState, IsRight, IsBlock, IsNotYet, seat_of, after_entry}
use Rattle.block_queue.specs.History.{opening_state}
use Rattle.block_queue.specs.Meaning.{Enters, queue_after, queue_meaning}

-- ---- the last takes

-- one take more, after the others
pub with_blocks-snoc : (number : ℕ) (writes : List Write) (write : Write) (history : List Entry) →
    with_blocks number (writes ++ write ∷ []) history ≡
    entry.Block write.writer write.bytes (number + length writes + 1) ∷
    with_blocks number writes history
with_blocks-snoc number [] write history =
    ap (λ (n : ℕ). entry.Block write.writer write.bytes n ∷ history) (omega arith)
with_blocks-snoc number (first ∷ writes) write history =
    with_blocks-snoc (number + 1) writes write (entry.Block first.writer first.bytes (number + 1) ∷
    history)
    ∙ ap (λ (n : ℕ). entry.Block write.writer write.bytes n ∷ with_blocks (number +
    1) writes (entry.Block first.writer first.bytes (number + 1) ∷ history)) (omega arith)

-- a seat that has all the numbers makes its entry after all that it had seen
pub after_all : (key : Key) (made : Entry) (old new : Account Entry) → HasAllNumbers old →
    Enters key made old new → (new.seen ≡ made ∷ old.seen) ×
    IsRight key.first (queue_after key old.seen) made × HasAllNumbers new
after_all key made old new all enters =
    let looked = enters.adds.looked in
    let past_is : enters.adds.past ≡ old.seen = looked.history_is ∙
    ap (λ (since : List Entry). since ++ old.seen) (looked.alone all) in
    let seen : new.seen ≡ made ∷ old.seen = ap (λ (a : Account Entry). a.seen) enters.adds.new_is ∙
    ap (λ (past : List Entry). made ∷ past) past_is in
    let legal = subst (λ (h : List Entry). IsLegal (queue_meaning key.first)
    (opening_state key.limit) h) seen enters.knows.history.legal in (
      seen,
      legal.0,
      subst HasAllNumbers (sym enters.adds.new_is)
          (entered_has_all seat_of made enters.adds.past old all),
    )

module _ (key : Key) (account : Account Entry) (left : ℕ) (is : IsLeft key account left) (more : 0 <
    left) where
  abbrev s : QueueState
  s = queue_after key account.seen

  -- a block is there
  there : next_write s.pipe ≢ None
  there none =
      let left_is = is.left_is in
      let at : slice_get s.pipe.accepted s.pipe.read_whole ≡
      Some (get_or s.pipe.accepted s.pipe.read_whole (record { writer = 0; bytes = [] })) =
      slice_get-get_or s.pipe.accepted s.pipe.read_whole (record { writer = 0; bytes = [] })
      (omega arith) in
      let no : None ≡ Some (get_or s.pipe.accepted s.pipe.read_whole
      (record { writer = 0; bytes = [] })) = sym none ∙ at in
      cc

  -- a seat with all numbers is not told the end while a write is left
  pub not_ended : (new : Account Entry) → Enters key entry.End account new → ⊥
  not_ended new enters = let told =
      after_all key entry.End account new is.all enters in there told.1.may.1

  -- nor is it told that the next write is not there yet
  pub not_waiting : (number : ℕ) (new : Account Entry) →
      Enters key (entry.NotYet number) account new → ⊥
  not_waiting number new enters =
      let told = after_all key (entry.NotYet number) account new is.all enters in
      let may : IsNotYet key.first s number = told.1.may in
      ⊎_elim there
      (λ unready. let none : None ≡ Some (begun_number key.first s.pipe + 1) =
      sym (is.puts (unready.write.writer + 1)) ∙ unready.returning in cc)
      may.none

  -- one block fewer is left
  pub one_less : (write : Write) (number : ℕ) (new : Account Entry) →
      Enters key (entry.Block write.writer write.bytes number) account new →
      IsLeft key new (left - 1) × (new.seen ≡ entry.Block write.writer write.bytes number ∷
      account.seen) × (number ≡ begun_number key.first s.pipe + 1)
  one_less write number new enters =
      let told = after_all key (entry.Block write.writer write.bytes number) account new is.all
      enters in
      let may : IsBlock key.first s write number = told.1.may in
      let left_is = is.left_is in
      let state : queue_after key new.seen ≡ after_entry s
      (entry.Block write.writer write.bytes number) = ap (queue_after key) told.0 in (
        record {
          all = told.2;
          knows = enters.knows;
          puts = λ n. ap (λ (z : QueueState). z.putting n) state ∙ is.puts n;
          left_is = ap (λ (z : QueueState). length z.pipe.accepted) state ∙ omega arith ∙
              sym (ap (λ (z : QueueState). z.pipe.read_whole + (left - 1)) state);
        },
        told.0,
        may.number_is,
      )

  -- a block that it takes makes the number of the last begun write one more
  pub begun_more : key.first ≤ LAST_WRITE → (write : Write) (number : ℕ) (new : Account Entry) →
      Enters key (entry.Block write.writer write.bytes number) account new
      → begun_number key.first (queue_after key new.seen).pipe ≡ begun_number key.first s.pipe + 1
  begun_more given write number new enters =
      let told = after_all key (entry.Block write.writer write.bytes number) account new is.all
      enters in
      let whole = (history_fits key account.seen given is.knows.history.legal).whole in
      let before = begun_is s.pipe whole in
      ap (λ (h : List Entry). begun_number key.first (queue_after key h).pipe) told.0 ∙ omega arith

-- ---- the loop of takes

-- a take of the next block adds its write after those that were taken before
pub one_emptied : (key : Key) (left : ℕ) (old now new : Account Entry) (blocks :
    List Write) (write : Write) (number : ℕ) → key.first ≤ LAST_WRITE → length blocks < left →
    IsEmptying key left old now blocks
    → Enters key (entry.Block write.writer write.bytes number) now new →
    IsEmptying key left old new (blocks ++ write ∷ [])
one_emptied key left old now new blocks write number given more is enters =
    let longer : length (blocks ++ write ∷ []) ≡ length blocks + 1 =
    length-append blocks (write ∷ []) in
    let less = one_less key now (left - length blocks) is.is_left (omega arith) write number new
    enters in
    let begun = begun_more key now (left - length blocks) is.is_left (omega arith) given write
    number new enters in
    let count : number ≡ begun_number key.first (queue_after key old.seen).pipe + length blocks +
    1 = less.2 ∙ ap (λ (n : ℕ). n + 1) is.begun in
    record {
      few = omega arith;
      is_left = subst (IsLeft key new) (omega arith) less.0;
      seen = less.1 ∙ ap (λ (n : ℕ). entry.Block write.writer write.bytes n ∷ now.seen) count
          ∙ ap (λ (h : List Entry). entry.Block write.writer write.bytes
          (begun_number key.first (queue_after key old.seen).pipe + length blocks + 1) ∷
          h) is.seen
          ∙ sym (with_blocks-snoc (begun_number key.first (queue_after key old.seen).pipe) blocks
          write old.seen);
      begun = begun ∙ ap (λ (n : ℕ). n + 1) is.begun ∙ omega arith;
    }
