-- What a read that goes on as its mode says comes to in message mode: one part, or nothing.
use Rattle.std.proofs.Common.{◌≡◌, ◌≢◌, ◌⊎◌, inl, inr, ℕ, zero, suc, ◌-◌, Bool, true, false}
use Rattle.std.proofs.Common.{nat_lt, if◌then◌else◌, List, [], ◌∷◌, length, refl, sym}
use Rattle.std.proofs.Common.{◌∙◌, ap, subst, arith}
use Rattle.std.proofs.lemmas.Bool.Decides.{nat_tests}
use Rattle.sync_base.specs.declared.mode.Mode.{Mode}
use Rattle.sync_base.specs.declared.mode.Mode.TheVariants.{Message, Stream}
use Rattle.block_queue.specs.declared.entry.Entry.{Entry}
use Rattle.block_queue.specs.declared.entry.Entry.TheVariants as entry
use Rattle.block_queue.specs.declared.view.Key.{Key}
use Rattle.pipe_dev.specs.declared.answers.ReadAnswer.{ReadAnswer}
use Rattle.pipe_dev.specs.declared.answers.ReadAnswer.TheVariants as read
use Rattle.pipe_dev.specs.declared.filling.ReadOutcome.{ReadOutcome}
use Rattle.pipe_dev.specs.declared.filling.Stop.{Stop}
use Rattle.pipe_dev.specs.declared.filling.Stop.TheVariants as stop
use Rattle.pipe_dev.specs.declared.row.Row.{Row}
use Rattle.pipe_dev.specs.CallLaws.{GetsOne, MessagesAreReadOneByOne, ReadsOneOrNone}
use Rattle.pipe_dev.specs.Filling.{Taker, TakesPart, TakesMore, Filling, FindsNothing, IsFilledBy}
use Rattle.pipe_dev.specs.Filling.{Lending, StopsAt, begins, goes_further, has_none, last_number}
use Rattle.pipe_dev.specs.Parts.{Part, bytes_of}
use Rattle.pipe_dev.specs.ReadCalls.{AsksForBytes, Calling, FindsNone, TriesOn, came_to, is_got}
use Rattle.pipe_dev.specs.ReadSteps.{found_at, found_of}
use Rattle.pipe_dev.specs.Rendezes.{WakesWith}
use Rattle.pipe_dev.specs.Rounds.{Rounds}
use Rattle.waiting.specs.declared.call.Reply.{Reply}
use Rattle.waiting.specs.declared.call.Reply.TheVariants.{Done, Wait, Refused}
use Rattle.waiting.specs.Waiting.{IsLow, StandsSo}
use Rattle.pipe_dev.proofs.RoundLemmas.{not_yet_low}

-- ---- messages

-- one part was read
record ReadsOne (key : Key) (old : Lending) (filling : Filling) : Type 0 where
  part : Part
  taken : TakesPart key (length old.buffer) old.taker part filling.taker
  parts : filling.parts ≡ part ∷ []

all_room : (room : ℕ) → room - 0 ≡ room
all_room room = omega arith

-- so many parts of messages are one or none
one_or_none : (key : Key) (old : Lending) (times : ℕ) (filling : Filling)
    → Rounds (TakesMore key (record { mode = Message; room = length old.buffer })) times
    (begins old.taker) filling
    → (filling ≡ begins old.taker) ⊎ ReadsOne key old filling
one_or_none key old zero filling taken = inl taken
one_or_none key old (suc zero) filling taken =
    let part = taken.last.part in
    inr record {
      part = part;
      taken =
          subst (λ (n : ℕ). TakesPart key n old.taker part filling.taker)
          (all_room (length old.buffer))
          (subst (λ (f : Filling). TakesPart key (length old.buffer - length (bytes_of f.parts))
          f.taker part filling.taker) taken.rounds taken.last.taken);
      parts = taken.last.parts ∙ ap (λ (f : Filling). part ∷ f.parts) taken.rounds;
    }
one_or_none key old (suc (suc times)) filling taken =
    let has = ap has_none taken.rounds.last.parts in
    let further : has_none taken.between.parts ≡ true = taken.last.further in
    let no : false ≡ true = sym has ∙ further in
    cc

module _ (key : Key) (row : Row) (old new : Calling) where
  -- a fill of one part or none, which gave so many bytes and woke so
  record CameTo (count : ℕ) (filling : Filling) : Type 0 where
    read : (filling ≡ begins old.seat.taker) ⊎ ReadsOne key old.seat filling
    filled : IsFilledBy (bytes_of filling.parts) old.seat.buffer new.seat.buffer count
    woken : WakesWith row (last_number old.seat.taker.rest filling.parts) old.process
        new.process

  -- one that got bytes is of one part
  got_one : (count : ℕ) (why : Stop) (filling : Filling) → is_got (came_to count why) ≡ true
      → StopsAt key (record { mode = Message; room = length old.seat.buffer }) why filling
      new.seat.taker
      → CameTo count filling → GetsOne key row old count new
  got_one count why filling got stopped came = by why got stopped came.read
    where
      no_byte : filling ≡ begins old.seat.taker → nat_lt 0 count ≡ false
      no_byte none =
          ap (nat_lt 0)
          (came.filled.count_is ∙ ap (λ (f : Filling). length (bytes_of f.parts)) none)

      by : (why : Stop) → is_got (came_to count why) ≡ true
          → StopsAt key (record { mode = Message; room = length old.seat.buffer }) why filling
          new.seat.taker
          → (filling ≡ begins old.seat.taker) ⊎ ReadsOne key old.seat filling
          → GetsOne key row old count new
      by stop.Enough got stopped (inr one) =
          record {
            part = one.part;
            taken = subst (λ (t : Taker). TakesPart key (length old.seat.buffer)
                old.seat.taker one.part t) (sym stopped.1) one.taken;
            filled = subst
                (λ (ps : List Part).
                IsFilledBy (bytes_of ps) old.seat.buffer new.seat.buffer count) one.parts
                came.filled;
            woken = subst
                (λ (ps : List Part).
                WakesWith row (last_number old.seat.taker.rest ps) old.process new.process)
                one.parts came.woken;
          }
      by stop.Enough got stopped (inl none) =
          let no : true ≡ false =
          sym (ap (λ (f : Filling). has_none f.parts) none) ∙ stopped.0 in
          cc
      by (stop.NotYet number) got stopped (inl none) =
          let no : false ≡ true = sym (no_byte none) ∙ got in cc
      by stop.End got stopped (inl none) = let no : false ≡ true = sym (no_byte none) ∙ got in cc
      by (stop.NotYet number) got stopped (inr one) =
          let no : false ≡ true = sym (ap has_none one.parts) ∙ stopped.0 in cc
      by stop.End got stopped (inr one) =
          let no : false ≡ true = sym (ap has_none one.parts) ∙ stopped.0 in cc

  -- one that went on and found nothing is of none
  found_none : (made : Entry) (filling : Filling)
      → goes_further (record { mode = Message; room = length old.seat.buffer }) filling.parts ≡ true
      → FindsNothing key made filling.taker new.seat.taker → CameTo 0 filling
      → FindsNone key made old new
  found_none made filling further found came = by came.read
    where
      by : (filling ≡ begins old.seat.taker) ⊎ ReadsOne key old.seat filling
          → FindsNone key made old new
      by (inl none) =
          record {
            nothing = subst (λ (f : Filling). FindsNothing key made f.taker new.seat.taker)
                none found;
            process = subst
                (λ (f : Filling).
                WakesWith row (last_number old.seat.taker.rest f.parts) old.process new.process)
                none came.woken;
            buffer = (subst
                (λ (f : Filling).
                IsFilledBy (bytes_of f.parts) old.seat.buffer new.seat.buffer 0) none
                came.filled).bytes_are;
          }
      by (inr one) = let no : false ≡ true = sym (ap has_none one.parts) ∙ further in cc

-- so a try of messages
came_so : (key : Key) (row : Row) (old new : Calling) (count : ℕ) (why : Stop)
    (tried : TriesOn key (record row { mode = Message }) old (came_to count why) new)
    → CameTo key (record row { mode = Message }) old new count tried.fills.filling
came_so key row old new count why tried =
    let fills = tried.fills in
    record {
      read = one_or_none key old.seat fills.times fills.filling fills.taken;
      filled = fills.filled;
      woken = tried.woken;
    }

-- no try of messages joins two writes
pub messages_are_read_one_by_one : MessagesAreReadOneByOne
messages_are_read_one_by_one key row old told new is asks = by row.mode is told asks
  where
    by : (mode : Mode) → mode ≡ Message → (told : Reply ReadAnswer)
        → AsksForBytes key (record row { mode = mode }) old told new
        → ReadsOneOrNone key (record row { mode = mode }) old told new
    by Stream is told asks = cc
    by Message is (Done (read.Got count)) gives =
        got_one key (record row { mode = Message }) old new count gives.why
        gives.tried.fills.filling gives.got gives.tried.fills.stopped
        (came_so key row old new count gives.why gives.tried)
    by Message is (Done read.End) tried =
        found_none key (record row { mode = Message }) old new entry.End tried.fills.filling
        tried.fills.stopped.0 tried.fills.stopped.1
        (came_so key row old new 0 stop.End tried)
    by Message is (Wait number) tried =
        found_none key (record row { mode = Message }) old new (entry.NotYet number)
        tried.fills.filling tried.fills.stopped.0 tried.fills.stopped.1.nothing
        (came_so key row old new 0 (stop.NotYet number) tried)
    by Message is (Refused why) none = absurd none

-- ---- by what a try is answered

module _ (key : Key) (row : Row) (old new : Calling) where
  -- it gave bytes, or else this is told
  some_or_none : (P : Reply ReadAnswer → Type 0) (count : ℕ) (none : Reply ReadAnswer)
      → (nat_lt 0 count ≡ true → P (Done (read.Got count))) → (count ≡ 0 → P none)
      → P (if nat_lt 0 count then Done (read.Got count) else none)
  some_or_none P count none some zero_so = by (nat_lt 0 count) refl
    where
      no_count : (n : ℕ) → nat_lt 0 n ≡ false → n ≡ 0
      no_count n is = grind (arith, nat_tests)

      by : (b : Bool) → nat_lt 0 count ≡ b
          → P (if b then Done (read.Got count) else none)
      by true is = some is
      by false is = zero_so (no_count count is)

  -- what a try tells a read
  asks : (count : ℕ) (why : Stop) → TriesOn key row old (came_to count why) new
      → AsksForBytes key row old (found_at count why) new
  asks count stop.Enough tried = record { why = stop.Enough; tried = tried; got = refl }
  asks count (stop.NotYet number) tried =
      some_or_none (λ told. AsksForBytes key row old told new) count (Wait number)
      (λ some. record { why = stop.NotYet number; tried = tried; got = some })
      (λ zero. subst (λ n. TriesOn key row old (came_to n (stop.NotYet number)) new) zero tried)
  asks count stop.End tried =
      some_or_none (λ told. AsksForBytes key row old told new) count (Done read.End)
      (λ some. record { why = stop.End; tried = tried; got = some })
      (λ zero. subst (λ n. TriesOn key row old (came_to n stop.End) new) zero tried)

  -- one request of a read
  pub asks_as_found : (came : ReadOutcome) (told : Reply ReadAnswer)
      → TriesOn key row old came new → told ≡ found_of came → AsksForBytes key row old told new
  asks_as_found came told tried is =
      subst (λ told. AsksForBytes key row old told new) (sym is) (asks came.count came.stop tried)

  -- the number that it is told is low
  pub told_low : (told : Reply ReadAnswer) → key.first ≡ 0
      → AsksForBytes key row old told new → IsLow told
  told_low (Done answer) first asked = tt
  told_low (Refused why) first asked = tt
  told_low (Wait number) first asked =
      not_yet_low key number asked.fills.filling.taker.account new.seat.taker.account first
      asked.fills.stopped.1.nothing.entered

-- a seat that stands so whatever it is told
pub stands_so : {Seat Out : Type 0} (Stands : Seat → Type 0) (told : Reply Out) (seat : Seat)
    → Stands seat → StandsSo Stands Stands told seat
stands_so Stands (Done out) seat stands = stands
stands_so Stands (Wait number) seat stands = stands
stands_so Stands (Refused why) seat stands = stands

-- a buffer with room stays one
pub still_some : (xs ys : List ℕ) → length ys ≡ length xs → xs ≢ [] → ys ≢ []
still_some [] ys same some none = some refl
still_some (x ∷ xs) ys same some none =
    let size : length ys ≡ 0 = ap length none in
    absurd (omega (arith, size, same))
