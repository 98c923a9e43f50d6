-- What each call keeps of those who wait.
use Rattle.std.proofs.Common.{◌≡◌, ◌<◌, ◌≤◌, ℕ, zero, suc, ◌+◌, Bool, true, false, ◌||◌, ◌&&◌}
use Rattle.std.proofs.Common.{Option, None, Some}
use Rattle.messages.specs.declared.line.OpenSeat.{OpenSeat}
use Rattle.std.proofs.Common.{List, [], ◌∷◌, ◌++◌, length, drop, nat_lt, refl, sym, ap, ◌∙◌, subst}
use Rattle.std.proofs.Common.{arith}
use Rattle.std.specs.List.{AllByRecursion}
use Rattle.std.proofs.lemmas.Bool.Decides.{nat_tests}
use Rattle.messages.specs.declared.limits.TheConstants.{LAST_GRANT}
use Rattle.std.proofs.Common.{if◌then◌else◌}
use Rattle.messages.specs.Lines.{Waiters, stands_in, without, first_served, served, gone, in_line}
use Rattle.messages.specs.Lines.{joined, place_of, closed, with_seat}
use Rattle.messages.specs.MessageObject.{Contents, one_more, can_put, can_take, has_number}
use Rattle.messages.specs.MessageObject.{may_wait, given_back, sender_closed, receiver_closed}
use Rattle.messages.specs.MessageObject.{places_below}
use Rattle.messages.specs.MessageObject.{accepted, taken, sender_gone, receiver_gone, opening}
use Rattle.messages.specs.Soundness.{IsLine, IsSound}
use Rattle.messages.proofs.LineLemmas.{length_without, length_most, not_there, all_without}
use Rattle.messages.proofs.LineLemmas.{length_join, all_join, all_opened, HasLeft, leaves}

-- ---- one side

-- what the grant to the first in line changes
pub record IsServed (line new : Waiters) (grants grants_new : ℕ) : Type 0 where
  -- there are as many seats as before
  pub seats : new.seats ≡ line.seats
  -- each grant takes a number from who waited for one
  pub numbers : grants_new + length new.waiting ≡ grants + length line.waiting
  -- as many wait or were granted something as before
  pub both : length new.waiting + length new.granted ≡
      length line.waiting + length line.granted
  -- at most one more was granted something
  pub most : length new.granted ≤ length line.granted + 1
  -- just one more, where somebody waited
  pub one : 0 < length line.waiting → length new.granted ≡ length line.granted + 1
  -- no more wait than before
  pub fewer : length new.waiting ≤ length line.waiting
  -- as many are open as before
  pub opened : new.opened ≡ line.opened
  -- who waits did so before
  pub among : (bound : ℕ) → AllByRecursion (λ s. s < bound) line.waiting
      → AllByRecursion (λ s. s < bound) new.waiting

-- what it changes that the first in line is served
pub serves : (line : Waiters) (grants : ℕ)
    → IsServed line (served line) grants (one_more grants line.waiting)
serves line grants = by line.waiting refl
  where
    by : (xs : List ℕ) → line.waiting ≡ xs
        → IsServed line (first_served line xs) grants (one_more grants xs)
    by [] is =
        let none = ap (λ (l : List ℕ). length l) is in
        record {
          seats = refl;
          numbers = refl;
          both = refl;
          most = omega arith;
          one = λ some. omega (arith, none, some);
          fewer = omega arith;
          opened = refl;
          among = λ bound are. are;
        }
    by (x ∷ xs) is =
        let long = ap (λ (l : List ℕ). length l) is in
        let more = length_join line.granted x in
        record {
          seats = refl;
          numbers = omega (arith, long);
          both = omega (arith, long, more);
          most = omega (arith, more);
          one = λ some. more;
          fewer = omega (arith, long);
          opened = refl;
          among = λ bound are. (subst (AllByRecursion (λ s. s < bound)) is are).1;
        }

-- what it changes that a seat waits no more
pub record HasGone (line : Waiters) (seat : ℕ) : Type 0 where
  -- no more wait than before
  pub waiting : length (without seat line.waiting) ≤ length line.waiting
  -- no more were granted something than before
  pub granted : length (without seat line.granted) ≤ length line.granted
  -- one fewer, where the seat had been
  pub had : stands_in line.granted seat ≡ true
      → length (without seat line.granted) + 1 ≡ length line.granted
  -- and as many, where it had not
  pub had_not : stands_in line.granted seat ≡ false
      → length (without seat line.granted) ≡ length line.granted

-- so it is of each line and seat
pub goes : (line : Waiters) (seat : ℕ) → HasGone line seat
goes line seat =
    record {
      waiting = length_most line.waiting seat;
      granted = length_most line.granted seat;
      had = length_without line.granted seat;
      had_not = λ has_not. ap (λ (l : List ℕ). length l) (not_there line.granted seat has_not);
    }

line_gone : (handles : ℕ) (line : Waiters) (seat : ℕ) → IsLine handles line
    → IsLine handles (gone seat line)
line_gone handles line seat is =
    let few = is.few in
    let less = goes line seat in
    let waiting = less.waiting in
    let granted = less.granted in
    record {
      seats_are = is.seats_are;
      among = all_without handles line.waiting seat is.among;
      few = omega (arith, few, waiting, granted);
      placed = is.placed;
    }

line_served : (handles grants : ℕ) (line : Waiters) → IsLine handles line
    → IsLine handles (served line)
line_served handles grants line is =
    let few = is.few in
    let same = serves line grants in
    let both = same.both in
    record {
      seats_are = same.seats ∙ is.seats_are;
      among = same.among handles is.among;
      few = omega (arith, few, both);
      placed = subst (AllByRecursion (λ one. one.place < handles)) (sym same.opened) is.placed;
    }

-- ---- the queue

-- nobody waits for what is there
pub record WaitsForSome {T : Type 0} (kept : Contents T) : Type 0 where
  -- whoever waits for room finds no place free
  pub senders : 0 < length kept.senders.waiting
      → kept.capacity ≤ length kept.values + length kept.senders.granted
  -- whoever waits for a value finds none free
  pub receivers : 0 < length kept.receivers.waiting
      → length kept.values ≤ length kept.receivers.granted

-- a test of a bound or of a list
either : (a b : ℕ) (has : Bool) → (nat_lt a b || has) ≡ true → has ≡ false → a < b
either a b has may none = grind (arith, nat_tests, may, none)

-- if neither holds, then both are not so
pub neither : (a b : ℕ) (has : Bool) → (nat_lt a b || has) ≡ false → (b ≤ a) × (has ≡ false)
neither a b has none = by (nat_lt a b) refl has none
  where
    by : (less : Bool) → nat_lt a b ≡ less → (has : Bool) → (less || has) ≡ false
        → (b ≤ a) × (has ≡ false)
    by true is has none = cc
    by false is true none = cc
    by false is false none = (grind (arith, nat_tests, is), refl)

module _ {T : Type 0} (handles : ℕ) (kept : Contents T) (sound : IsSound handles kept)
    (seat : ℕ) where
  -- ---- a value is accepted

  -- a queue that accepts a value is sound
  pub accepts_sound : (value : T) → can_put kept seat ≡ true
      → IsSound handles (accepted kept seat value)
  accepts_sound value may = by (stands_in kept.senders.granted seat) refl
    where
      less : HasGone kept.senders seat
      less = goes kept.senders seat

      more : IsServed kept.receivers (served kept.receivers) kept.grants
          (one_more kept.grants kept.receivers.waiting)
      more = serves kept.receivers kept.grants

      made : length kept.values + 1 + length (without seat kept.senders.granted) ≤ kept.capacity
          → IsSound handles (accepted kept seat value)
      made room =
          let longer = length_join kept.values value in
          let values = sound.values in
          let most = more.most in
          let numbers = sound.numbers in
          let same = more.numbers in
          let fewer = less.waiting in
          let places = sound.places in
          let opened = ap (λ (l : List OpenSeat). length l) more.opened in
          record {
            room = omega (arith, room, longer);
            values = omega (arith, values, most, longer);
            numbers = omega (arith, numbers, same, fewer);
            places = omega (arith, places, opened);
            free = sound.free;
            senders = line_gone handles kept.senders seat sound.senders;
            receivers = line_served handles kept.grants kept.receivers sound.receivers;
          }

      by : (has : Bool) → stands_in kept.senders.granted seat ≡ has
          → IsSound handles (accepted kept seat value)
      by true has =
          let room = sound.room in let one = less.had has in made (omega (arith, room, one))
      by false has =
          let free = either (length kept.values + length kept.senders.granted) kept.capacity _ may
          has in
          let same = less.had_not has in
          made (omega (arith, free, same))

  -- and nobody waits then for what is there
  pub accepts_waits : (value : T) → can_put kept seat ≡ true → WaitsForSome kept
      → WaitsForSome (accepted kept seat value)
  accepts_waits value may waits =
      let less = goes kept.senders seat in
      let more = serves kept.receivers kept.grants in
      let longer = length_join kept.values value in
      record {
        senders = λ some. by (stands_in kept.senders.granted seat) refl some;
        receivers = λ some.
            let fewer = more.fewer in
            let was = waits.receivers (omega (arith, some, fewer)) in
            let one = more.one (omega (arith, some, fewer)) in
            omega (arith, was, one, longer);
      }
    where
      by : (has : Bool) → stands_in kept.senders.granted seat ≡ has
          → 0 < length (without seat kept.senders.waiting)
          → kept.capacity ≤ length (kept.values ++ value ∷ [])
          + length (without seat kept.senders.granted)
      by true has some =
          let less = goes kept.senders seat in
          let longer = length_join kept.values value in
          let fewer = less.waiting in
          let was = waits.senders (omega (arith, some, fewer)) in
          let one = less.had has in
          omega (arith, was, one, longer)
      by false has some =
          let less = goes kept.senders seat in
          let fewer = less.waiting in
          let was = waits.senders (omega (arith, some, fewer)) in
          let free = either (length kept.values + length kept.senders.granted) kept.capacity _ may
          has in
          omega (arith, was, free)

  -- ---- a value is taken

  module _ (value : T) (rest : List T) (are : kept.values ≡ value ∷ rest) where
    shorter : length (drop 1 kept.values) + 1 ≡ length kept.values
    shorter = rw are (omega arith)

    -- a queue of which a value is taken is sound
    pub takes_sound : can_take kept seat ≡ true → IsSound handles (taken kept seat)
    takes_sound may = by (stands_in kept.receivers.granted seat) refl
      where
        less : HasGone kept.receivers seat
        less = goes kept.receivers seat

        more : IsServed kept.senders (served kept.senders) kept.grants
            (one_more kept.grants kept.senders.waiting)
        more = serves kept.senders kept.grants

        made : length (without seat kept.receivers.granted) ≤ length (drop 1 kept.values)
            → IsSound handles (taken kept seat)
        made values =
            let short = shorter in
            let room = sound.room in
            let most = more.most in
            let numbers = sound.numbers in
            let same = more.numbers in
            let fewer = less.waiting in
            let places = sound.places in
            let opened = ap (λ (l : List OpenSeat). length l) more.opened in
            record {
              room = omega (arith, room, most, short);
              values = values;
              numbers = omega (arith, numbers, same, fewer);
              places = omega (arith, places, opened);
              free = sound.free;
              senders = line_served handles kept.grants kept.senders sound.senders;
              receivers = line_gone handles kept.receivers seat sound.receivers;
            }

        by : (has : Bool) → stands_in kept.receivers.granted seat ≡ has
            → IsSound handles (taken kept seat)
        by true has =
            let short = shorter in
            let values = sound.values in
            let one = less.had has in
            made (omega (arith, values, one, short))
        by false has =
            let short = shorter in
            let free = either (length kept.receivers.granted) (length kept.values) _ may has in
            let same = less.had_not has in
            made (omega (arith, free, same, short))

    -- and nobody waits then for what is there
    pub takes_waits : can_take kept seat ≡ true → WaitsForSome kept
        → WaitsForSome (taken kept seat)
    takes_waits may waits =
        let more = serves kept.senders kept.grants in
        let short = shorter in
        record {
          senders = λ some.
              let fewer = more.fewer in
              let was = waits.senders (omega (arith, some, fewer)) in
              let one = more.one (omega (arith, some, fewer)) in
              omega (arith, was, one, short);
          receivers = λ some. by (stands_in kept.receivers.granted seat) refl some;
        }
      where
        by : (has : Bool) → stands_in kept.receivers.granted seat ≡ has
            → 0 < length (without seat kept.receivers.waiting)
            → length (drop 1 kept.values) ≤ length (without seat kept.receivers.granted)
        by true has some =
            let less = goes kept.receivers seat in
            let short = shorter in
            let fewer = less.waiting in
            let was = waits.receivers (omega (arith, some, fewer)) in
            let one = less.had has in
            omega (arith, was, one, short)
        by false has some =
            let less = goes kept.receivers seat in
            let fewer = less.waiting in
            let was = waits.receivers (omega (arith, some, fewer)) in
            let free = either (length kept.receivers.granted) (length kept.values) _ may has in
            omega (arith, was, free)

  -- whoever was granted a value finds one
  pub has_value : can_take kept seat ≡ true → kept.values ≡ [] → ⊥
  has_value may none = by (stands_in kept.receivers.granted seat) refl
    where
      by : (has : Bool) → stands_in kept.receivers.granted seat ≡ has → ⊥
      by true has =
          let empty = ap (λ (l : List T). length l) none in
          let values = sound.values in
          let one = length_without kept.receivers.granted seat has in
          omega (arith, empty, values, one)
      by false has =
          let empty = ap (λ (l : List T). length l) none in
          let free = either (length kept.receivers.granted) (length kept.values) _ may has in
          omega (arith, empty, free)

  -- ---- a seat leaves

  -- a queue that a sender leaves is sound
  pub sender_goes_sound : IsSound handles (sender_gone kept seat)
  sender_goes_sound =
      let less = goes kept.senders seat in
      let room = sound.room in
      let numbers = sound.numbers in
      let waiting = less.waiting in
      let granted = less.granted in
      record {
        room = omega (arith, room, granted);
        values = sound.values;
        numbers = omega (arith, numbers, waiting);
        places = sound.places;
        free = sound.free;
        senders = line_gone handles kept.senders seat sound.senders;
        receivers = sound.receivers;
      }

  -- and nobody waits then for what is there
  pub sender_goes_waits : stands_in kept.senders.granted seat ≡ false → WaitsForSome kept
      → WaitsForSome (sender_gone kept seat)
  sender_goes_waits has_not waits =
      let less = goes kept.senders seat in
      let waiting = less.waiting in
      let same = less.had_not has_not in
      record {
        senders = λ some.
            let was = waits.senders (omega (arith, some, waiting)) in omega (arith, was, same);
        receivers = waits.receivers;
      }

  -- a queue that a receiver leaves is sound
  pub receiver_goes_sound : IsSound handles (receiver_gone kept seat)
  receiver_goes_sound =
      let less = goes kept.receivers seat in
      let values = sound.values in
      let numbers = sound.numbers in
      let waiting = less.waiting in
      let granted = less.granted in
      record {
        room = sound.room;
        values = omega (arith, values, granted);
        numbers = omega (arith, numbers, waiting);
        places = sound.places;
        free = sound.free;
        senders = sound.senders;
        receivers = line_gone handles kept.receivers seat sound.receivers;
      }

  -- and nobody waits then for what is there
  pub receiver_goes_waits : stands_in kept.receivers.granted seat ≡ false → WaitsForSome kept
      → WaitsForSome (receiver_gone kept seat)
  receiver_goes_waits has_not waits =
      let less = goes kept.receivers seat in
      let waiting = less.waiting in
      let same = less.had_not has_not in
      record {
        senders = waits.senders;
        receivers = λ some.
            let was = waits.receivers (omega (arith, some, waiting)) in omega (arith, was, same);
      }

  -- ---- a seat joins

  -- what a seat that may wait and does not yet finds
  joins_where : (line : Waiters) → may_wait kept line seat ≡ true
      → stands_in line.waiting seat ≡ false
      → (seat < line.seats) × ((length line.waiting + length line.granted < line.seats)
      × (kept.grants + (length kept.senders.waiting + length kept.receivers.waiting)
      < LAST_GRANT))
  joins_where line may new =
      split (nat_lt seat line.seats) (nat_lt (length line.waiting + length line.granted) line.seats)
      (has_number kept) refl refl refl
      (subst (λ b. (b || ((nat_lt seat line.seats
      && nat_lt (length line.waiting + length line.granted) line.seats) && has_number kept))
      ≡ true) new may)
    where
      split : (a b c : Bool) → nat_lt seat line.seats ≡ a
          → nat_lt (length line.waiting + length line.granted) line.seats ≡ b
          → has_number kept ≡ c → ((a && b) && c) ≡ true
          → (seat < line.seats) × ((length line.waiting + length line.granted < line.seats)
          × (kept.grants + (length kept.senders.waiting + length kept.receivers.waiting)
          < LAST_GRANT))
      split true true true first second third is = (
        grind (arith, nat_tests, first),
        (
          grind (arith, nat_tests, second),
          grind (arith, nat_tests, third),
        ),
      )
      split true true false first second third is = cc
      split true false c first second third is = cc
      split false b c first second third is = cc

  -- a queue that a sender waits at is sound
  pub sender_joins_sound : may_wait kept kept.senders seat ≡ true
      → IsSound handles (record kept { senders = in_line seat kept.senders })
  sender_joins_sound may = by (stands_in kept.senders.waiting seat) refl
    where
      by : (there : Bool) → stands_in kept.senders.waiting seat ≡ there
          → IsSound handles (record kept {
            senders = if there then kept.senders else joined seat kept.senders;
          })
      by true is = record {
        room = sound.room;
        values = sound.values;
        numbers = sound.numbers;
        places = sound.places;
        free = sound.free;
        senders = sound.senders;
        receivers = sound.receivers;
      }
      by false is =
          let where_to = joins_where kept.senders may is in
          let longer = length_join kept.senders.waiting seat in
          let numbers = where_to.1.1 in
          let free = where_to.1.0 in
          let was = sound.senders in
          let seats = was.seats_are in
          let below = where_to.0 in
          record {
            room = sound.room;
            values = sound.values;
            numbers = omega (arith, numbers, longer);
            places = sound.places;
            free = sound.free;
            senders = record {
              seats_are = seats;
              among = all_join handles kept.senders.waiting seat sound.senders.among
                  (omega (arith, below, seats));
              few = omega (arith, free, longer, seats);
              placed = was.placed;
            };
            receivers = sound.receivers;
          }

  -- a queue that a receiver waits at is sound
  pub receiver_joins_sound : may_wait kept kept.receivers seat ≡ true
      → IsSound handles (record kept { receivers = in_line seat kept.receivers })
  receiver_joins_sound may = by (stands_in kept.receivers.waiting seat) refl
    where
      by : (there : Bool) → stands_in kept.receivers.waiting seat ≡ there
          → IsSound handles (record kept {
            receivers = if there then kept.receivers else joined seat kept.receivers;
          })
      by true is = record {
        room = sound.room;
        values = sound.values;
        numbers = sound.numbers;
        places = sound.places;
        free = sound.free;
        senders = sound.senders;
        receivers = sound.receivers;
      }
      by false is =
          let where_to = joins_where kept.receivers may is in
          let longer = length_join kept.receivers.waiting seat in
          let numbers = where_to.1.1 in
          let free = where_to.1.0 in
          let was = sound.receivers in
          let seats = was.seats_are in
          let below = where_to.0 in
          record {
            room = sound.room;
            values = sound.values;
            numbers = omega (arith, numbers, longer);
            places = sound.places;
            free = sound.free;
            senders = sound.senders;
            receivers = record {
              seats_are = seats;
              among = all_join handles kept.receivers.waiting seat sound.receivers.among
                  (omega (arith, below, seats));
              few = omega (arith, free, longer, seats);
              placed = was.placed;
            };
          }

  -- and no place is free that it waits for
  pub sender_joins_waits : can_put kept seat ≡ false → WaitsForSome kept
      → WaitsForSome (record kept { senders = in_line seat kept.senders })
  sender_joins_waits full waits = by (stands_in kept.senders.waiting seat)
    where
      by : (there : Bool) → WaitsForSome (record kept {
        senders = if there then kept.senders else joined seat kept.senders;
      })
      by true = record { senders = waits.senders; receivers = waits.receivers }
      by false =
          let most = (neither (length kept.values + length kept.senders.granted) kept.capacity _
          full).0 in
          record { senders = λ some. most; receivers = waits.receivers }

  -- and no value is free that it waits for
  pub receiver_joins_waits : can_take kept seat ≡ false → WaitsForSome kept
      → WaitsForSome (record kept { receivers = in_line seat kept.receivers })
  receiver_joins_waits none waits = by (stands_in kept.receivers.waiting seat)
    where
      by : (there : Bool) → WaitsForSome (record kept {
        receivers = if there then kept.receivers else joined seat kept.receivers;
      })
      by true = record { senders = waits.senders; receivers = waits.receivers }
      by false =
          let most = (neither (length kept.receivers.granted) (length kept.values) _ none).0 in
          record { senders = waits.senders; receivers = λ some. most }

-- ---- a seat opens or closes

module _ {T : Type 0} (handles : ℕ) (kept : Contents T) (sound : IsSound handles kept)
    (seat : ℕ) where
  -- one side, and the free places, when a seat opens at a place
  line_opened : (line : Waiters) (place : ℕ) → IsLine handles line → place < handles
      → IsLine handles (with_seat seat place line)
  line_opened line place is below =
      record {
        seats_are = is.seats_are;
        among = is.among;
        few = is.few;
        placed = all_opened (λ one. one.place < handles) line.opened
            (record { seat = seat; place = place }) is.placed below;
      }

  module _ (place : ℕ) (rest : List ℕ) (are : kept.free ≡ place ∷ rest) where
    fewer_free : length (drop 1 kept.free) + 1 ≡ length kept.free
    fewer_free = rw are (omega arith)

    first_below : (place < handles) × AllByRecursion (λ p. p < handles) (drop 1 kept.free)
    first_below =
        let all = subst (AllByRecursion (λ p. p < handles)) are sound.free in
        (all.0, rw are all.1)

    -- a queue at which a sender opens is sound
    pub sender_opens_sound : IsSound handles
        (record kept { senders = with_seat seat place kept.senders; free = drop 1 kept.free })
    sender_opens_sound =
        let places = sound.places in
        let one = fewer_free in
        let more = length_join kept.senders.opened (record { seat = seat; place = place }) in
        record {
          room = sound.room;
          values = sound.values;
          numbers = sound.numbers;
          places = omega (arith, places, one, more);
          free = first_below.1;
          senders = line_opened kept.senders place sound.senders first_below.0;
          receivers = sound.receivers;
        }

    -- and one at which a receiver opens
    pub receiver_opens_sound : IsSound handles
        (record kept { receivers = with_seat seat place kept.receivers; free = drop 1 kept.free })
    receiver_opens_sound =
        let places = sound.places in
        let one = fewer_free in
        let more = length_join kept.receivers.opened (record { seat = seat; place = place }) in
        record {
          room = sound.room;
          values = sound.values;
          numbers = sound.numbers;
          places = omega (arith, places, one, more);
          free = first_below.1;
          senders = sound.senders;
          receivers = line_opened kept.receivers place sound.receivers first_below.0;
        }

  -- what becomes of a side and of the free places when a seat closes
  record Closing (line : Waiters) : Type 0 where
    -- as many places are free or open as before
    pub count : length (given_back (place_of seat line.opened) kept.free)
        + length (closed seat line.opened) ≡ length kept.free + length line.opened
    -- each that is free is one of the queue's
    pub free : AllByRecursion (λ p. p < handles)
        (given_back (place_of seat line.opened) kept.free)
    -- and so is that of each seat that is open
    pub placed : AllByRecursion (λ one. one.place < handles) (closed seat line.opened)

  closing : (line : Waiters) → IsLine handles line → Closing line
  closing line is = record {
    count = (by (place_of seat line.opened) refl).0;
    free = (by (place_of seat line.opened) refl).1;
    placed = left.all;
  }
    where
      left : HasLeft (λ one. one.place < handles) line.opened seat (place_of seat line.opened)
          (closed seat line.opened)
      left = leaves (λ one. one.place < handles) line.opened seat is.placed

      by : (o : Option ℕ) → place_of seat line.opened ≡ o
          → (length (given_back o kept.free) + length (closed seat line.opened) ≡
          length kept.free + length line.opened)
          × AllByRecursion (λ p. p < handles) (given_back o kept.free)
      by None not = let same = left.was_not not in (omega (arith, same), sound.free)
      by (Some place) at =
          let was = left.was place at in
          let one = was.0 in
          let more = length_join kept.free place in
          let below : place < handles = subst (λ p. p < handles) was.1.1.1 was.1.1.0 in
          (omega (arith, one, more), all_join handles kept.free place sound.free below)

  -- a queue at which a sender closes is sound
  pub sender_closes_sound : IsSound handles (sender_closed kept seat)
  sender_closes_sound =
      let close = closing kept.senders sound.senders in
      let places = sound.places in
      let count = close.count in
      record {
        room = sound.room;
        values = sound.values;
        numbers = sound.numbers;
        places = omega (arith, places, count);
        free = close.free;
        senders = record {
          seats_are = sound.senders.seats_are;
          among = sound.senders.among;
          few = sound.senders.few;
          placed = close.placed;
        };
        receivers = sound.receivers;
      }

  -- and one at which a receiver closes
  pub receiver_closes_sound : IsSound handles (receiver_closed kept seat)
  receiver_closes_sound =
      let close = closing kept.receivers sound.receivers in
      let places = sound.places in
      let count = close.count in
      record {
        room = sound.room;
        values = sound.values;
        numbers = sound.numbers;
        places = omega (arith, places, count);
        free = close.free;
        senders = sound.senders;
        receivers = record {
          seats_are = sound.receivers.seats_are;
          among = sound.receivers.among;
          few = sound.receivers.few;
          placed = close.placed;
        };
      }

-- ---- a new queue

-- there are so many places below a number
pub below_length : (count : ℕ) → length (places_below count) ≡ count
below_length zero = refl
below_length (suc count) =
    let more = length_join (places_below count) count in
    let same = below_length count in
    omega (arith, more, same)

below_all : (bound count : ℕ) → count ≤ bound
    → AllByRecursion (λ p. p < bound) (places_below count)
below_all bound zero most = tt
below_all bound (suc count) most =
    all_join bound (places_below count) count (below_all bound count (omega (arith, most)))
    (omega (arith, most))

-- a new queue is sound, as nobody waits
pub opening_sound : {T : Type 0} (capacity handles : ℕ)
    → IsSound handles (opening {T = T} capacity handles)
opening_sound capacity handles =
    let free = below_length handles in
    record {
      room = omega arith;
      values = omega arith;
      numbers = omega arith;
      places = omega (arith, free);
      free = below_all handles handles (omega arith);
      senders = record { seats_are = refl; among = tt; few = omega arith; placed = tt };
      receivers = record { seats_are = refl; among = tt; few = omega arith; placed = tt };
    }
