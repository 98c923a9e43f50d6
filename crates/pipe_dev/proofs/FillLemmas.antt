-- How a read fills its buffer, one part after the other.
use Rattle.std.proofs.Common.{[], ◌≡◌, ◌⊎◌, inl, inr, ℕ, suc, ◌+◌, ◌-◌, ◌*◌, ◌<◌, ◌≤◌, Bool, true}
use Rattle.std.proofs.Common.{false, nat_lt, List, ◌∷◌, ◌++◌, length, take, drop, Option, None}
use Rattle.std.proofs.Common.{Some, refl, sym, ◌∙◌, ap, subst, arith, length-append, length-drop}
use Rattle.std.proofs.Common.{drop-drop}
use borrow.Rule.Slice.PartMut.{mid_of, put_mid, put_same, same_len_mid}
use Rattle.std.specs.Prelude.{IsTrue}
use Rattle.std.proofs.lemmas.Bool.Decides.{nat_tests}
use Rattle.std.proofs.lemmas.List.{append_assoc, take_at, drop_at, length-take-le, length-take}
use Rattle.std.proofs.lemmas.List.{take_all, drop_all, append-nil}
use Rattle.histories.specs.declared.account.Account.{Account}
use Rattle.histories.specs.Account.{has_number}
use Rattle.sync_base.specs.declared.limits.TheConstants.{LAST_WRITE}
use Rattle.sync_base.specs.declared.mode.Mode.{Mode}
use Rattle.sync_base.specs.declared.mode.Mode.TheVariants.{Message, Stream}
use Rattle.sync_base.specs.Pipe.{by_mode}
use Rattle.block_queue.specs.declared.entry.Entry.{Entry}
use Rattle.block_queue.specs.declared.entry.Entry.TheVariants as entry
use Rattle.block_queue.specs.declared.view.Key.{Key}
use Rattle.block_queue.specs.Meaning.{Enters, KnowsQueue, queue_after}
use Rattle.block_queue.specs.Places.{IsQueueState}
use Rattle.block_queue.proofs.RuleMoves.{history_fits}
use Rattle.pipe_dev.specs.Filling.{Taker, TakesPart, TakesMore, Filling, Lending, begins}
use Rattle.pipe_dev.specs.Filling.{IsLeft, IsTakenOut}
use Rattle.pipe_dev.specs.Filling.{IsFilledBy, has_none, goes_further, number_of, last_number}
use Rattle.pipe_dev.specs.Filling.{StopsAt, FindsNotThere, FindsNothing}
use Rattle.pipe_dev.specs.FillSteps.{GivesPart, GivesNext, HasFilled}
use Rattle.pipe_dev.specs.declared.filling.Next.TheVariants as next
use Rattle.pipe_dev.specs.declared.filling.Stop.{Stop}
use Rattle.pipe_dev.specs.declared.filling.Stop.TheVariants as stop
use Rattle.pipe_dev.specs.Finishing.{left_state}
use Rattle.pipe_dev.specs.Parts.{Part, part_of, rest_of, bytes_of}
use Rattle.pipe_dev.specs.Rounds.{Rounds}
use Rattle.pipe_dev.proofs.ReadingLemmas.{since_accepts}
use Rattle.pipe_dev.proofs.RoundLemmas.{entered_right}

-- ---- one part

-- a write that was taken out, by its entry
module _ (key : Key) (old new : Account Entry) (writer : ℕ) (block : List ℕ) (number : ℕ)
    (whole : Part) (is : whole ≡ record { place = number - 1; writer = writer; bytes = block })
    (enters : Enters key (entry.Block writer block number) old new) where
  -- its number is the next one
  pub whole_number : number ≡ whole.place + 1
  whole_number =
      let right =
      (entered_right key (entry.Block writer block number) old new enters).may.number_is in
      let place : whole.place ≡ number - 1 = ap (λ (w : Part). w.place) is in
      omega (arith, right, place)

  -- and it stands at the place below its number
  pub taken_whole : Enters key (entry.Block whole.writer whole.bytes (whole.place + 1)) old new
  taken_whole =
      subst (λ (n : ℕ). Enters key (entry.Block whole.writer whole.bytes n) old new) whole_number
      (subst (λ (w : Part). Enters key (entry.Block w.writer w.bytes number) old new) (sym is)
      enters)

-- a part of which something is left fills its room
rest_or_full : (room : ℕ) (left : Part)
    → (rest_of room left ≡ None) ⊎ (length (part_of room left).bytes ≡ room)
rest_or_full room left =
    let full = length-take-le room left.bytes in grind (arith, nat_tests, full)

-- ---- so many parts

-- the parts that a read has read, as far as it has come
pub record SoFar (key : Key) (mode : Mode) (first now : Lending) (took : Option ℕ) (count : ℕ)
    (further : Bool) : Type 0 where
  -- how many parts it has read
  pub times : ℕ
  -- the parts that it has read, and the end as they leave it
  pub filling : Filling
  -- they were read one after the other, each into the room that the ones before it left
  pub taken : Rounds (TakesMore key (record { mode = mode; room = length first.buffer })) times
      (begins first.taker) filling
  -- the end is as the last part left it
  pub taker_is : now.taker ≡ filling.taker
  -- the number kept is that of the last write that was taken out
  pub took_is : took ≡ last_number first.taker.rest filling.parts
  -- the bytes of the parts stand in front in the buffer, and after them it is as it was
  pub filled : IsFilledBy (bytes_of filling.parts) first.buffer now.buffer count
  -- the buffer is as long as it was
  pub size : length now.buffer ≡ length first.buffer
  -- no more bytes were given than the buffer has room for
  pub fits : count ≤ length first.buffer
  -- whether it goes on is told by its mode, the room and the parts
  pub further_is : further ≡
      goes_further (record { mode = mode; room = length first.buffer }) filling.parts
  -- it has just begun; or it has a part, and if it goes on nothing is left of a write
  pub rest_none : (filling ≡ begins first.taker)
      ⊎ ((has_none filling.parts ≡ false) × (further ≡ true → now.taker.rest ≡ None))

last_more : (begun : Option Part) (part : Part) (parts : List Part) → has_none parts ≡ false
    → last_number begun (part ∷ parts) ≡ Some (part.place + 1)
last_more begun part [] none = cc
last_more begun part (other ∷ parts) none = refl

-- the bytes of a part more
filled_more : (bytes : List ℕ) (part : List ℕ) (first now now' room : List ℕ) (count more : ℕ)
    → IsFilledBy bytes first now count → IsFilledBy part (drop count now) room more
    → now' ≡ take count now ++ room
    → IsFilledBy (bytes ++ part) first now' (count + more)
filled_more bytes part first now now' room count more before filled is =
    let count_is : length bytes ≡ count = sym before.count_is in
    let front : take count now ≡ bytes =
    ap (take count) before.bytes_are ∙ take_at bytes (drop count first) count count_is in
    let after : drop count now ≡ drop count first =
    ap (drop count) before.bytes_are ∙ drop_at bytes (drop count first) count count_is in
    record {
      count_is =
          let many = length-append bytes part in
          let before_is = before.count_is in
          let more_is = filled.count_is in
          omega (arith, many, before_is, more_is);
      bytes_are =
          is
          ∙ (ap (λ (xs : List ℕ). xs ++ room) front
          ∙ (ap (λ (xs : List ℕ). bytes ++ xs)
          (filled.bytes_are
          ∙ ap (λ (xs : List ℕ). part ++ xs)
          (ap (drop more) after ∙ drop-drop more count first))
          ∙ sym (append_assoc bytes part (drop (count + more) first))));
    }

-- whether it goes on after a part, as the code tests it
abbrev pub goes_on_after : Mode → ℕ → List ℕ → Bool
goes_on_after mode count buffer = by_mode mode false (nat_lt count (length buffer))

-- ---- it comes to an end

-- one where a write is begun
abbrev pub rests : Option Part → ℕ
rests None = 0
rests (Some left) = 1

-- how many writes can still be taken out, and whether one is begun
pub writes_left : Key → Taker → ℕ
writes_left key taker =
    2 * (LAST_WRITE - (left_state key taker.account.seen).read_whole) + rests taker.rest

-- where it goes on
abbrev pub left_to_take : Key → Taker → Bool → ℕ
left_to_take key taker true = suc (writes_left key taker)
left_to_take key taker false = 0

-- a write that was taken out is read whole, and there are no more than there are numbers
pub one_more_whole : (key : Key) (writer : ℕ) (block : List ℕ) (number : ℕ)
    (old new : Account Entry) → key.first ≡ 0 → IsTrue (has_number old.shares 0)
    → KnowsQueue key old → Enters key (entry.Block writer block number) old new
    → ((left_state key new.seen).read_whole ≡ (left_state key old.seen).read_whole + 1)
    × ((left_state key new.seen).read_whole ≤ LAST_WRITE)
one_more_whole key writer block number old new first own knows enters =
    let made = entry.Block writer block number in
    let accepts = since_accepts key made old new own knows enters in
    let seen : new.seen ≡ made ∷ enters.adds.past
    = ap (λ (a : Account Entry). a.seen) enters.adds.new_is in
    let whole = ap (λ (h : List Entry). (left_state key h).read_whole) seen in
    let read = accepts.read in
    let fits : IsQueueState key.limit key.first (queue_after key new.seen)
    = history_fits key new.seen (omega (arith, first)) enters.knows.history.legal in
    let within = fits.within in
    let given = fits.given in
    (omega (arith, whole, read), omega (arith, within, given))

-- a read that has no part begun after it has fewer writes to take out
pub takes_fewer : (key : Key) (room : ℕ) (old new : Taker) (part : Part) → key.first ≡ 0
    → IsTrue (has_number old.account.shares 0) → KnowsQueue key old.account
    → TakesPart key room old part new → new.rest ≡ None → writes_left key new < writes_left key old
unfolding writes_left
takes_fewer key room old new part first own knows takes none = by takes.next
  where
    none_now : rests new.rest ≡ 0
    none_now = ap rests none

    by : IsLeft old takes.left new ⊎ IsTakenOut key old takes.left new
        → writes_left key new < writes_left key old
    by (inl goes) =
        let one : rests old.rest ≡ 1 = ap rests goes.left_is in
        let same = ap (λ (a : Account Entry). (left_state key a.seen).read_whole) goes.account in
        let now = none_now in
        omega (arith, one, same, now)
    by (inr out) =
        let left = takes.left in
        let whole =
        one_more_whole key left.writer left.bytes (left.place + 1) old.account new.account first own
        knows out.taken in
        let one = whole.0 in
        let low = whole.1 in
        let now = none_now in
        omega (arith, one, low, now)

-- ---- what the code's steps make of it

-- the room after what was read is all of the buffer after it
room_all : (count : ℕ) (buffer : List ℕ)
    → mid_of count (length buffer - count) buffer ≡ drop count buffer
room_all count buffer =
    let size = length-drop count buffer in
    take_all (length buffer - count) (drop count buffer) (omega (arith, size))

back_all : (count : ℕ) (buffer room : List ℕ)
    → put_mid count (length buffer - count) buffer room ≡ take count buffer ++ room
back_all count buffer room =
    let size = length-drop count buffer in
    ap (λ xs. take count buffer ++ xs)
    (ap (λ ys. room ++ ys)
    (drop_all (length buffer - count) (drop count buffer) (omega (arith, size)))
    ∙ append-nil room)

-- the end and the room that is left of its buffer
abbrev pub room_of : Lending → ℕ → Lending
room_of now count =
    record {
      taker = now.taker;
      buffer = mid_of count (length now.buffer - count) now.buffer;
    }

-- the end and its buffer, with that room filled
abbrev pub back_of : Lending → ℕ → Taker → List ℕ → Lending
back_of now count new room =
    record { taker = new; buffer = put_mid count (length now.buffer - count) now.buffer room }

-- it goes no further
ends_so_far : {key : Key} {mode : Mode} {first now : Lending} {took : Option ℕ} {count : ℕ}
    {further : Bool} (so_far : SoFar key mode first now took count further) (why : Stop)
    (new : Lending) → new.buffer ≡ now.buffer
    → StopsAt key (record { mode = mode; room = length first.buffer }) why so_far.filling new.taker
    → HasFilled key mode first
    (record { took = took; came = record { count = count; stop = why } }) new
ends_so_far so_far why new buffer stops =
    record {
      fills = record {
        times = so_far.times;
        filling = so_far.filling;
        taken = so_far.taken;
        stopped = stops;
        filled = record {
          count_is = so_far.filled.count_is;
          bytes_are = buffer ∙ so_far.filled.bytes_are;
        };
      };
      took = so_far.took_is;
    }

-- it has enough
pub enough_so_far : {key : Key} {mode : Mode} {first now : Lending} {took : Option ℕ} {count : ℕ}
    {further : Bool} → SoFar key mode first now took count further → further ≡ false
    → HasFilled key mode first
    (record { took = took; came = record { count = count; stop = stop.Enough } }) now
enough_so_far {now = now} so_far enough =
    ends_so_far so_far stop.Enough now refl (sym so_far.further_is ∙ enough, so_far.taker_is)

-- after the parts so far it goes on
module _ {key : Key} {mode : Mode} {first now : Lending} {took : Option ℕ} {count : ℕ} {on : Bool}
    (so_far : SoFar key mode first now took count on) (goes : on ≡ true) where
  goes_so : goes_further (record { mode = mode; room = length first.buffer })
      so_far.filling.parts ≡ true
  goes_so = sym so_far.further_is ∙ goes

  -- and reads a part more into the room that is left
  module _ (new : Taker) (room : List ℕ) {more : ℕ} {number : Option ℕ}
      (gives : GivesPart key (room_of now count) more number
      (record { taker = new; buffer = room }))
      (size : length room ≡ length (room_of now count).buffer) (further : Bool)
      (on_after : further ≡ goes_on_after mode (count + more) (back_of now count new room).buffer)
    where
      given_part : GivesPart key (record { taker = now.taker; buffer = drop count now.buffer }) more
          number (record { taker = new; buffer = room })
      given_part =
          subst (λ (xs : List ℕ). GivesPart key (record { taker = now.taker; buffer = xs }) more
          number (record { taker = new; buffer = room })) (room_all count now.buffer) gives

      dropped : length (drop count now.buffer) ≡ length now.buffer - count
      dropped = length-drop count now.buffer

      back_size : length (back_of now count new room).buffer ≡ length now.buffer
      back_size = same_len_mid count (length now.buffer - count) now.buffer room size

      -- where it goes on after the part, nothing of the part's write is left
      nothing_left : further ≡ true → new.rest ≡ None
      nothing_left further_is =
          by (rest_or_full (length (drop count now.buffer)) given_part.taken.left)
        where
          by : (rest_of (length (drop count now.buffer)) given_part.taken.left ≡ None)
              ⊎ (length (part_of (length (drop count now.buffer)) given_part.taken.left).bytes
              ≡ length (drop count now.buffer))
              → new.rest ≡ None
          by (inl none) = given_part.taken.rest ∙ none
          by (inr full) = absurd (never mode (sym further_is ∙ on_after))
            where
              never : (m : Mode)
                  → true ≡ goes_on_after m (count + more) (back_of now count new room).buffer → ⊥
              never Message says = cc
              never Stream says =
                  let part_is = ap (λ (p : Part). length p.bytes) given_part.taken.part_is in
                  let more_is = given_part.filled.count_is in
                  let fits = so_far.fits in
                  let first_size = so_far.size in
                  let f = full in
                  let d = dropped in
                  let b = back_size in
                  let low : count + more < length (back_of now count new room).buffer =
                  grind (arith, nat_tests) in
                  omega (arith, f, part_is, more_is, fits, first_size, d, b, low)

      -- so it has a part more
      pub next_so_far : SoFar key mode first (back_of now count new room) number (count + more)
          further
      next_so_far =
          record {
            times = suc so_far.times;
            filling = record { taker = new; parts = given_part.part ∷ so_far.filling.parts };
            taken = record {
              between = so_far.filling;
              rounds = so_far.taken;
              last = record {
                further = goes_so;
                part = given_part.part;
                taken = subst (λ (t : Taker). TakesPart key
                    (length first.buffer - length (bytes_of so_far.filling.parts)) t given_part.part
                    new) so_far.taker_is
                    (subst (λ (n : ℕ). TakesPart key n now.taker given_part.part new) room_is
                    given_part.taken);
                parts = refl;
              };
            };
            taker_is = refl;
            took_is = given_part.number_is ∙ number_at so_far.rest_none;
            filled = filled;
            size = back_size ∙ so_far.size;
            fits =
                let part_is = ap (λ (p : Part). length p.bytes) given_part.taken.part_is in
                let taken =
                length-take (length (drop count now.buffer)) given_part.taken.left.bytes in
                let d = dropped in
                omega (
                  arith,
                  so_far.fits,
                  so_far.size,
                  part_is,
                  taken,
                  given_part.filled.count_is,
                  d,
                );
            further_is = on_after ∙ on_is mode;
            rest_none = inr (refl, nothing_left);
          }
        where
          room_is : length (drop count now.buffer)
              ≡ length first.buffer - length (bytes_of so_far.filling.parts)
          room_is =
              let count_is = so_far.filled.count_is in
              let size_is = so_far.size in
              let d = dropped in
              omega (arith, d, count_is, size_is)

          filled : IsFilledBy (bytes_of so_far.filling.parts ++ given_part.part.bytes) first.buffer
              (back_of now count new room).buffer (count + more)
          filled =
              filled_more (bytes_of so_far.filling.parts) given_part.part.bytes first.buffer
              now.buffer (back_of now count new room).buffer room count more so_far.filled
              given_part.filled
              (back_all count now.buffer room)

          number_at : (so_far.filling ≡ begins first.taker)
              ⊎ ((has_none so_far.filling.parts ≡ false) × (on ≡ true → now.taker.rest ≡ None))
              → number_of now.taker.rest given_part.part
              ≡ last_number first.taker.rest (given_part.part ∷ so_far.filling.parts)
          number_at (inl begun) =
              ap (λ (t : Taker). number_of t.rest given_part.part)
              (so_far.taker_is ∙ ap (λ (f : Filling). f.taker) begun)
              ∙ sym (ap (λ (f : Filling). last_number first.taker.rest (given_part.part ∷ f.parts))
              begun)
          number_at (inr some) =
              ap (λ (r : Option Part). number_of r given_part.part) (some.1 goes)
              ∙ sym (last_more first.taker.rest given_part.part so_far.filling.parts some.0)

          on_is : (m : Mode)
              → goes_on_after m (count + more) (back_of now count new room).buffer
              ≡ goes_further (record { mode = m; room = length first.buffer })
              (given_part.part ∷ so_far.filling.parts)
          on_is Message = refl
          on_is Stream =
              ap (λ (n : ℕ). nat_lt n (length (back_of now count new room).buffer)) filled.count_is
              ∙ ap (nat_lt (length (bytes_of so_far.filling.parts ++ given_part.part.bytes)))
              (back_size ∙ so_far.size)

      -- and comes to an end
      pub next_is_nearer : key.first ≡ 0 → IsTrue (has_number now.taker.account.shares 0)
          → KnowsQueue key now.taker.account
          → left_to_take key new further < left_to_take key now.taker true
      next_is_nearer first own knows = by further nothing_left
        where
          by : (b : Bool) → (b ≡ true → new.rest ≡ None)
              → left_to_take key new b < left_to_take key now.taker true
          by true none =
              let fewer = takes_fewer key (length (drop count now.buffer)) now.taker new
              given_part.part first own knows given_part.taken (none refl) in
              omega (arith, fewer)
          by false none = omega arith

  -- or finds no part
  module _ (new : Taker) (room : List ℕ) where
    -- the next write is not there yet
    pub not_yet_so_far : (number : ℕ)
        → GivesNext key (room_of now count) (next.NotYet number)
        (record { taker = new; buffer = room })
        → HasFilled key mode first
        (record { took = took; came = record { count = count; stop = stop.NotYet number } })
        (back_of now count new room)
    not_yet_so_far number found =
        ends_so_far so_far (stop.NotYet number) (back_of now count new room)
        (ap (put_mid count (length now.buffer - count) now.buffer) found.1
        ∙ put_same count (length now.buffer - count) now.buffer)
        (goes_so, subst (λ (t : Taker). FindsNotThere key number t new) so_far.taker_is found.0)

    -- or no more will come
    pub end_so_far : GivesNext key (room_of now count) next.End
        (record { taker = new; buffer = room })
        → HasFilled key mode first
        (record { took = took; came = record { count = count; stop = stop.End } })
        (back_of now count new room)
    end_so_far found =
        ends_so_far so_far stop.End (back_of now count new room)
        (ap (put_mid count (length now.buffer - count) now.buffer) found.1
        ∙ put_same count (length now.buffer - count) now.buffer)
        (goes_so, subst (λ (t : Taker). FindsNothing key entry.End t new) so_far.taker_is found.0)
