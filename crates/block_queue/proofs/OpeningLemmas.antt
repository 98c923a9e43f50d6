-- How the reader of a new queue hands its numbers over.
use Rattle.std.proofs.Common.{[], ◌≡◌, ℕ, suc, ◌+◌, ◌-◌, ◌<◌, List, ◌∷◌, ◌++◌, length, map, refl}
use Rattle.std.proofs.Common.{sym, ap, subst, ◌∙◌, arith, length-append, eq-eqb}
use Rattle.std.specs.Prelude.{slice_get}
use Rattle.std.proofs.lemmas.Option.{slice_get_within}
use native.Mathlib.Decide.{ℕ_discrete}
use mathlib.Core.Logic.{dite}
use Rattle.histories.specs.declared.account.Share.{Share}
use Rattle.histories.specs.Account.{has_number, unused_share, numbers_from}
use Rattle.block_queue.specs.declared.entry.Entry.{Entry}
use Rattle.block_queue.specs.declared.queue.Queue.{Queue}
use Rattle.block_queue.specs.declared.seats.PutSeat.{PutSeat}
use Rattle.block_queue.specs.declared.view.View.{View}
use Rattle.block_queue.specs.Opening.{IsNewPutSeat, AreNewPutSeats, handing_view, new_account}
use Rattle.block_queue.specs.Seats.{put_view, head_view}
use Rattle.block_queue.specs.Steps.{HasToHand, keeper_view, handed_view, without_second}
use Rattle.block_queue.specs.Steps.{second_share}
use Rattle.block_queue.proofs.WordMoves.{slice_get_snoc, slice_get_last, same_some}

-- the numbers that are left to hand over
left_numbers : (writers done : ℕ) → done < writers → numbers_from (done + 1) (writers - done) ≡
    (done + 1) ∷ numbers_from (done + 1 + 1) (writers - (done + 1))
left_numbers writers done more =
    let count : writers - done ≡ suc (writers - (done + 1)) = omega arith in
    ap (numbers_from (done + 1)) count

left_shares : (writers done : ℕ) → done < writers → (handing_view writers done).account.shares ≡
    unused_share 0 ∷ unused_share (done + 1) ∷
    map unused_share (numbers_from (done + 1 + 1) (writers - (done + 1)))
left_shares writers done more = ap (λ (numbers : List ℕ). unused_share 0 ∷
    map unused_share numbers) (left_numbers writers done more)

-- while a writer has no seat, the reader's seat has a second number to hand on
pub next_to_hand : (writers done : ℕ) (view : View) → view ≡ handing_view writers done → done <
    writers → HasToHand view
next_to_hand writers done view is more =
    subst HasToHand (sym is)
    record {
      own = unused_share 0;
      next = unused_share (done + 1);
      others = map unused_share (numbers_from (done + 1 + 1) (writers - (done + 1)));
      shares_are = left_shares writers done more;
      own_is = refl;
      next_is = omega arith;
      stage_is = refl;
    }

-- once it is handed on, the reader's seat is as with one writer more done
pub handed_on : (writers done : ℕ) → done < writers → keeper_view (handing_view writers done) ≡
    handing_view writers (done + 1)
handed_on writers done more = ap (λ (shares : List (Share Entry)). record
    (handing_view writers done) {
      account = record (handing_view writers done).account
          { shares = without_second shares };
    }) (left_shares writers done more)

handed_is : (writers done : ℕ) → done < writers →
    (handed_view (handing_view writers done)).account ≡ new_account (done + 1)
handed_is writers done more =
    ap (λ (shares : List (Share Entry)). record {
      number = (second_share shares).number;
      shares =
          second_share shares ∷ [];
      seen = [];
      gave = [];
    }) (left_shares writers done more)

-- a seat that got the number of its writer is a new seat of that writer
pub new_put_seat : (queue : Queue) (seat : PutSeat) (view : View) → seat.badge.table_id ≡
    queue.table.shared.table_id → seat.badge.views ≡ view ∷ [] → seat.writer < queue.key.writers →
    view ≡ handed_view (handing_view queue.key.writers seat.writer)
    → IsNewPutSeat queue seat.writer seat
new_put_seat queue seat view table views below is =
    let known : put_view seat ≡ view = ap head_view views in
    let account : (put_view seat).account ≡ new_account (seat.writer + 1) =
    ap (λ (v : View). v.account) (known ∙ is) ∙ handed_is queue.key.writers seat.writer below in
    record {
      seat_is = record {
        table = table;
        views = views ∙ ap (λ (v : View). v ∷ []) (sym known);
        writer_is = below;
        own = ap (λ a. has_number a.shares (seat.writer + 1)) account ∙
            rw (eq-eqb (seat.writer + 1) (seat.writer + 1) refl) refl;
        number_is = ap (λ a. a.number) account;
        stage = ap (λ (v : View). v.stage) (known ∙ is);
      };
      writer_is = refl;
      account_is = account;
    }

-- a new seat after the new seats of the writers before it
pub one_more_seat : (queue : Queue) (count : ℕ) (seats : List PutSeat) (seat : PutSeat) →
    AreNewPutSeats queue count seats → IsNewPutSeat queue count seat →
    AreNewPutSeats queue (count + 1) (seats ++ seat ∷ [])
one_more_seat queue count seats seat are is =
    record {
      count_is = let old = are.count_is in omega (arith, length-append seats (seat ∷ []));
      each = λ writer other at.
          dite (ℕ_discrete writer (length seats))
          (λ last.
          let same : seat ≡ other = same_some seat other (sym (slice_get_last seats seat) ∙
          ap (slice_get (seats ++ seat ∷ [])) (sym last) ∙ at) in
          subst (IsNewPutSeat queue writer) same (subst (λ (n : ℕ). IsNewPutSeat queue n seat)
          (sym (last ∙ are.count_is)) is))
          (λ apart.
          let below : writer < length (seats ++ seat ∷ []) =
          slice_get_within (seats ++ seat ∷ []) writer other at in
          let less : writer < length seats = omega (arith, length-append seats (seat ∷ [])) in
          are.each writer other (sym (slice_get_snoc seats seat writer less) ∙ at));
    }
