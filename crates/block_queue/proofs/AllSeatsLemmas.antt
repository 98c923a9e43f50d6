-- All seats of a queue: they are in order when it is made, and each call leaves them so.
use Rattle.std.proofs.Common.{[], ◌≡◌, ℕ, suc, ◌+◌, List, ◌∷◌, length}
use Rattle.std.proofs.Common.{refl, sym, ap, ◌∙◌, arith, Some}
use Rattle.std.specs.Prelude.{slice_get}
use Rattle.std.specs.List.{AllByRecursion}
use Rattle.histories.specs.declared.account.Account.{Account}
use Rattle.histories.specs.Account.{numbers_from}
use Rattle.block_queue.specs.declared.answers.PutAnswer.{PutAnswer}
use Rattle.block_queue.specs.declared.answers.PutAnswer.TheVariants as put
use Rattle.block_queue.specs.declared.answers.TakeAnswer.{TakeAnswer}
use Rattle.block_queue.specs.declared.answers.TakeAnswer.TheVariants as take
use Rattle.block_queue.specs.declared.entry.Entry.{Entry}
use Rattle.block_queue.specs.declared.entry.Entry.TheVariants as entry
use Rattle.block_queue.specs.declared.queue.Queue.{Queue}
use Rattle.block_queue.specs.declared.seats.PutSeat.{PutSeat}
use Rattle.block_queue.specs.declared.seats.TakeSeat.{TakeSeat}
use Rattle.block_queue.specs.declared.view.Key.{Key}
use Rattle.block_queue.specs.Calls.{Puts, Takes}
use Rattle.block_queue.specs.Gather.{AreAllSeats, numbers_of}
use Rattle.block_queue.specs.Meaning.{Enters}
use Rattle.block_queue.specs.Opening.{AreNewPutSeats}
use Rattle.block_queue.specs.Seats.{IsPutSeatOf, IsSameSeat, put_account, take_account}

-- ---- what a call leaves of its seat

-- an entry leaves its seat the number that it has and those that it gave
pub enters_same : (key : Key) (made : Entry) (old new : Account Entry) → Enters key made old new →
    IsSameSeat old new
enters_same key made old new enters =
    record {
      number = ap (λ (a : Account Entry). a.number) enters.adds.new_is;
      gave = ap (λ (a : Account Entry). a.gave) enters.adds.new_is;
    }

-- two calls that leave a seat its numbers leave them one after the other too
pub same_then : (old between new : Account Entry) → IsSameSeat old between →
    IsSameSeat between new → IsSameSeat old new
same_then old between new first second =
    record { number = second.number ∙ first.number; gave = second.gave ∙ first.gave }

-- a put leaves its seat its numbers, whatever it is answered
pub puts_same : (key : Key) (writer : ℕ) (block : List ℕ) (old new : Account Entry)
    (answer : PutAnswer) → Puts key writer block old new answer → IsSameSeat old new
puts_same key writer block old new (put.Taken number) stands =
    same_then old stands.between new
    (enters_same key (entry.Taken writer block number) old stands.between stands.taken)
    (enters_same key (entry.Stood writer number) stands.between new stands.stood)
puts_same key writer block old new (put.Full back number) refuses =
    enters_same key (entry.Full writer block number) old new refuses.refused
puts_same key writer block old new (put.Hungup back) refuses =
    enters_same key (entry.Hungup writer block) old new refuses.refused
puts_same key writer block old new (put.Worn back) refuses =
    enters_same key (entry.Worn writer block) old new refuses.refused

-- a take leaves its seat its numbers, whatever it is answered
pub takes_same : (key : Key) (old new : Account Entry) (answer : TakeAnswer) →
    Takes key old new answer → IsSameSeat old new
takes_same key old new (take.Block block writer number) enters =
    enters_same key (entry.Block writer block number) old new enters
takes_same key old new (take.NotYet number) enters =
    enters_same key (entry.NotYet number) old new enters
takes_same key old new take.End enters = enters_same key entry.End old new enters

-- what a call tells of the seat while it makes its steps, it tells of the seat
pub sat_same : (old before after new : Account Entry) → before ≡ old → new ≡ after →
    IsSameSeat before after → IsSameSeat old new
sat_same old before after new stood sat same =
    record {
      number = ap (λ (a : Account Entry). a.number) sat ∙ same.number
          ∙ ap (λ (a : Account Entry). a.number) stood;
      gave = ap (λ (a : Account Entry). a.gave) sat ∙ same.gave
          ∙ ap (λ (a : Account Entry). a.gave) stood;
    }

-- ---- all seats, in their order

-- the seat at each index is that of its writer, and gave no number
abbrev pub AreInOrder : ℕ → List PutSeat → Type 0
AreInOrder first puts =
    (index : ℕ) (seat : PutSeat) → slice_get puts index ≡ Some seat →
    (seat.writer ≡ first + index) × ((put_account seat).gave ≡ [])

order_after : (first : ℕ) (seat : PutSeat) (puts : List PutSeat) →
    AreInOrder first (seat ∷ puts) → AreInOrder (first + 1) puts
order_after first seat puts are index other at =
    let known = are (suc index) other at in
    let writer = known.0 in
    (omega arith, known.1)

numbers_in_order : (first : ℕ) (puts : List PutSeat) → AreInOrder first puts →
    numbers_of puts ≡ numbers_from (first + 1) (length puts)
numbers_in_order first [] are = refl
numbers_in_order first (seat ∷ puts) are =
    let writer = (are 0 seat refl).0 in
    let number : seat.writer + 1 ≡ first + 1 = omega arith in
    ap (λ (n : ℕ). n ∷ numbers_of puts) number
    ∙ ap (λ (ns : List ℕ). (first + 1) ∷ ns)
    (numbers_in_order (first + 1) puts (order_after first seat puts are))

none_given : (first : ℕ) (puts : List PutSeat) → AreInOrder first puts →
    AllByRecursion (λ seat. (put_account seat).gave ≡ []) puts
none_given first [] are = tt
none_given first (seat ∷ puts) are =
    ((are 0 seat refl).1, none_given (first + 1) puts (order_after first seat puts are))

-- the reader's seat and those it gave numbers to, in the writers' order, are all seats of the queue
pub all_in_order : (take : TakeSeat) (puts : List PutSeat) →
    (take_account take).gave ≡ numbers_from 1 (length puts) → AreInOrder 0 puts →
    AreAllSeats take puts
all_in_order take puts gave are =
    record { order = gave ∙ sym (numbers_in_order 0 puts are); none = none_given 0 puts are }

-- the seats of a new queue
pub new_are_all : (queue : Queue) (count : ℕ) (take : TakeSeat) (puts : List PutSeat) →
    (take_account take).gave ≡ numbers_from 1 count → AreNewPutSeats queue count puts →
    AreAllSeats take puts
new_are_all queue count take puts gave are =
    all_in_order take puts (gave ∙ ap (numbers_from 1) (sym are.count_is))
    (λ index seat at.
    let new = are.each index seat at in
    let writer = new.writer_is in
    (omega arith, ap (λ (a : Account Entry). a.gave) new.account_is))

seats_from : (queue : Queue) (seats : List PutSeat) →
    ((index : ℕ) (seat : PutSeat) → slice_get seats index ≡ Some seat → IsPutSeatOf queue seat) →
    AllByRecursion (IsPutSeatOf queue) seats
seats_from queue [] each = tt
seats_from queue (seat ∷ seats) each =
    (each 0 seat refl, seats_from queue seats (λ index other at. each (suc index) other at))

-- each new writer's seat is a writer's seat of its queue
pub new_are_seats : (queue : Queue) (count : ℕ) (puts : List PutSeat) →
    AreNewPutSeats queue count puts → AllByRecursion (IsPutSeatOf queue) puts
new_are_seats queue count puts are =
    seats_from queue puts (λ index seat at. (are.each index seat at).seat_is)
