-- The sequential queue of values: what it keeps, its replies, and what they leave. After Channel in
-- thread(2): a bounded buffer, from which the oldest value is received, and processes that wait in
-- the order in which they came. After the channels of Go and of Rust's std: it ends with the last
-- of its senders, or of its receivers. Own: the hangup; and that room or a value is granted to the
-- first that waits for it, and is kept for that process until it comes for it.
use Rattle.std.specs.Prelude.{ℕ, zero, suc, ◌+◌, ◌-◌, ◌==◌, nat_lt}
use Rattle.std.specs.Prelude.{Bool, true, false, if◌then◌else◌, ◌&&◌, ◌||◌}
use Rattle.std.specs.Prelude.{List, [], ◌∷◌, ◌++◌, length, drop, Option, None, Some}
use Rattle.kernel_lock.specs.Definition.{Definition}
use Rattle.messages.specs.declared.limits.TheConstants.{LAST_GRANT}
use Rattle.messages.specs.declared.message_object.MessageCall.{MessageCall}
use Rattle.messages.specs.declared.message_object.MessageCall.TheVariants.{Put, Take, LeaveSender}
use Rattle.messages.specs.declared.message_object.MessageCall.TheVariants.{LeaveReceiver, Hang}
use Rattle.messages.specs.declared.message_object.MessageCall.TheVariants.{Open, Close, Count}
use Rattle.messages.specs.declared.message_object.MessageReply.{MessageReply}
use Rattle.messages.specs.declared.message_object.MessageReply.TheVariants as reply
use Rattle.messages.specs.declared.message_object.Side.{Side}
use Rattle.messages.specs.declared.message_object.Side.TheVariants.{Senders, Receivers}
use Rattle.messages.specs.declared.message_object.Wake.{Wake}
use Rattle.messages.specs.Lines.{Waiters, stands_in, in_line, served, gone}
use Rattle.messages.specs.Lines.{place_of, closed, with_seat, without_seat}

-- what the queue keeps
pub record Contents (T : Type 0) : Type 0 where
  pub capacity : ℕ
  pub values : List T  -- the values that were accepted and not received, the oldest first
  pub senders : Waiters  -- who sends, who waits for room, and who was granted some
  pub receivers : Waiters  -- who receives, who waits for a value, and who was granted one
  pub free : List ℕ  -- the places that no open seat has
  pub grants : ℕ  -- how many grants were made
  pub hung : Bool

-- nobody is open and nobody waits, of this many places
abbrev pub nobody : ℕ → Waiters
nobody seats = record { seats = seats; waiting = []; granted = []; opened = [] }

-- the places below this number
abbrev pub places_below : ℕ → List ℕ
places_below zero = []
places_below (suc count) = places_below count ++ count ∷ []

-- the place of a seat that closes is free again
abbrev pub given_back : Option ℕ → List ℕ → List ℕ
given_back None free = free
given_back (Some place) free = free ++ place ∷ []

-- ---- a grant

-- the first in line is to be woken, with the number of its grant
abbrev pub first_woken : ℕ → List ℕ → Option Wake
first_woken grants [] = None
first_woken grants (place ∷ rest) = Some (record { place = place; number = suc grants })

abbrev pub wake_of : Waiters → ℕ → Option Wake
wake_of line grants = first_woken grants line.waiting

-- one more grant, where somebody waits
abbrev pub one_more : ℕ → List ℕ → ℕ
one_more grants [] = grants
one_more grants (place ∷ rest) = suc grants

module _ {T : Type 0} where
  -- a new queue
  abbrev pub opening : ℕ → ℕ → Contents T
  opening capacity handles =
      record {
        capacity = capacity;
        values = [];
        senders = nobody handles;
        receivers = nobody handles;
        free = places_below handles;
        grants = 0;
        hung = false;
      }

  -- the first sender in line is granted room, and the first receiver a value
  abbrev pub sender_served : Contents T → Contents T
  sender_served kept =
      record kept {
        senders = served kept.senders;
        grants = one_more kept.grants kept.senders.waiting;
      }

  abbrev pub receiver_served : Contents T → Contents T
  receiver_served kept =
      record kept {
        receivers = served kept.receivers;
        grants = one_more kept.grants kept.receivers.waiting;
      }

  -- ---- who may

  -- there is room that nobody has been granted, or the place has some
  abbrev pub can_put : Contents T → ℕ → Bool
  can_put kept place =
      nat_lt (length kept.values + length kept.senders.granted) kept.capacity
      || stands_in kept.senders.granted place

  -- there is a value that nobody has been granted, or the place has one
  abbrev pub can_take : Contents T → ℕ → Bool
  can_take kept place =
      nat_lt (length kept.receivers.granted) (length kept.values)
      || stands_in kept.receivers.granted place

  -- there is a number for each grant to those who wait, and one more
  abbrev pub has_number : Contents T → Bool
  has_number kept =
      nat_lt (kept.grants + (length kept.senders.waiting + length kept.receivers.waiting))
      LAST_GRANT

  -- whoever has the place may wait on that side: it waits already, or there is room in line and a
  -- number
  abbrev pub may_wait : Contents T → Waiters → ℕ → Bool
  may_wait kept line place =
      stands_in line.waiting place
      || ((nat_lt place line.seats && nat_lt (length line.waiting + length line.granted) line.seats)
      && has_number kept)

  -- ---- replies

  -- Own: the first of Hungup, Accepted, NotNow, Full and Worn that may be the answer.
  abbrev pub answer_put : Contents T → ℕ → T → Bool → MessageReply T
  answer_put kept place value wait =
      if kept.hung then reply.Hungup value
      else (if can_put kept place then reply.Accepted (wake_of kept.receivers kept.grants)
      else (if wait then (if may_wait kept kept.senders place then reply.Full value kept.grants
      else reply.Worn value)
      else reply.NotNow value))

  -- the oldest of these values, with whom to wake
  abbrev pub given : Contents T → List T → MessageReply T
  given kept [] = reply.End
  given kept (value ∷ values) = reply.Value value (wake_of kept.senders kept.grants)

  -- Own: the first of Value, End, Empty, Wait and WornOut that may be the answer.
  abbrev pub answer_take : Contents T → ℕ → Bool → MessageReply T
  answer_take kept place wait =
      if can_take kept place then given kept kept.values
      else (if kept.hung then reply.End
      else (if wait then (if may_wait kept kept.receivers place then reply.Wait kept.grants
      else reply.WornOut)
      else reply.Empty))

  -- who was granted room before its wait ended puts its value in
  abbrev pub answer_leave_sender : Contents T → ℕ → T → MessageReply T
  answer_leave_sender kept place value =
      if kept.hung then reply.NotNow value
      else (if stands_in kept.senders.granted place
      then reply.Accepted (wake_of kept.receivers kept.grants)
      else reply.NotNow value)

  -- who was granted a value before its wait ended takes it
  abbrev pub answer_leave_receiver : Contents T → ℕ → MessageReply T
  answer_leave_receiver kept place =
      if stands_in kept.receivers.granted place then given kept kept.values else reply.Empty

  abbrev pub answer_hang : Contents T → MessageReply T
  answer_hang kept = if kept.hung then reply.HungBefore else reply.Hung (suc kept.grants)

  -- all of this side have closed: nobody opens there any more
  abbrev pub has_closed : Contents T → Waiters → Bool
  has_closed kept line = kept.hung && (length line.opened == 0)

  -- the first of these places
  abbrev pub given_place : List ℕ → MessageReply T
  given_place [] = reply.NoPlace
  given_place (place ∷ rest) = reply.Opened place

  -- Own: the first of NoPlace and Opened that may be the answer.
  abbrev pub answer_open : Contents T → Waiters → MessageReply T
  answer_open kept line = if has_closed kept line then reply.NoPlace else given_place kept.free

  -- the answer to a seat that is open, if it has a place
  abbrev pub if_open : Option ℕ → MessageReply T → MessageReply T
  if_open None answer = reply.Closed
  if_open (Some place) answer = answer

  -- the last open seat of a side hangs the queue up
  abbrev pub answer_close : Contents T → Waiters → ℕ → MessageReply T
  answer_close kept line seat =
      if_open (place_of seat line.opened)
      (if nat_lt 0 (length (closed seat line.opened)) then reply.Closed else answer_hang kept)

  -- how many values there are, and for how many there is room that nobody has been granted
  abbrev pub answer_count : Contents T → MessageReply T
  answer_count kept =
      reply.Counted (length kept.values)
      (kept.capacity - (length kept.values + length kept.senders.granted))

  abbrev pub answer_to : Contents T → MessageCall T → MessageReply T
  answer_to kept (Put seat place value wait) = answer_put kept place value wait
  answer_to kept (Take seat place wait) = answer_take kept place wait
  answer_to kept (LeaveSender seat place value) = answer_leave_sender kept place value
  answer_to kept (LeaveReceiver seat place) = answer_leave_receiver kept place
  answer_to kept Hang = answer_hang kept
  answer_to kept (Open Senders seat) = answer_open kept kept.senders
  answer_to kept (Open Receivers seat) = answer_open kept kept.receivers
  answer_to kept (Close Senders seat) = answer_close kept kept.senders seat
  answer_to kept (Close Receivers seat) = answer_close kept kept.receivers seat
  answer_to kept Count = answer_count kept

  -- ---- what they leave

  -- who has the place waits no more for room, and for a value
  abbrev pub sender_gone : Contents T → ℕ → Contents T
  sender_gone kept place = record kept { senders = gone place kept.senders }

  abbrev pub receiver_gone : Contents T → ℕ → Contents T
  receiver_gone kept place = record kept { receivers = gone place kept.receivers }

  -- the value is the newest, and the first receiver in line is granted one
  abbrev pub accepted : Contents T → ℕ → T → Contents T
  accepted kept place value =
      receiver_served
      (record (sender_gone kept place) { values = kept.values ++ value ∷ [] })

  -- the oldest value is gone, and the first sender in line is granted its room
  abbrev pub taken : Contents T → ℕ → Contents T
  taken kept place =
      sender_served (record (receiver_gone kept place) { values = drop 1 kept.values })

  -- a seat has closed
  abbrev pub sender_closed : Contents T → ℕ → Contents T
  sender_closed kept seat =
      record kept {
        senders = without_seat seat kept.senders;
        free = given_back (place_of seat kept.senders.opened) kept.free;
      }

  abbrev pub receiver_closed : Contents T → ℕ → Contents T
  receiver_closed kept seat =
      record kept {
        receivers = without_seat seat kept.receivers;
        free = given_back (place_of seat kept.receivers.opened) kept.free;
      }

  -- what a put leaves that got this answer
  abbrev pub after_put : Contents T → ℕ → T → MessageReply T → Contents T
  after_put kept place value (reply.Accepted wake) = accepted kept place value
  after_put kept place value (reply.Full back grants) =
      record kept { senders = in_line place kept.senders }
  after_put kept place value (reply.Hungup back) = sender_gone kept place
  after_put kept place value answer = kept

  abbrev pub after_take : Contents T → ℕ → MessageReply T → Contents T
  after_take kept place (reply.Value value wake) = taken kept place
  after_take kept place (reply.Wait grants) =
      record kept { receivers = in_line place kept.receivers }
  after_take kept place reply.End = receiver_gone kept place
  after_take kept place answer = kept

  abbrev pub after_leave_sender : Contents T → ℕ → T → MessageReply T → Contents T
  after_leave_sender kept place value (reply.Accepted wake) = accepted kept place value
  after_leave_sender kept place value (reply.NotNow back) = sender_gone kept place
  after_leave_sender kept place value answer = kept

  abbrev pub after_leave_receiver : Contents T → ℕ → MessageReply T → Contents T
  after_leave_receiver kept place (reply.Value value wake) = taken kept place
  after_leave_receiver kept place reply.Empty = receiver_gone kept place
  after_leave_receiver kept place reply.End = receiver_gone kept place
  after_leave_receiver kept place answer = kept

  -- the queue is hung up by the call that is answered with the number to wake all with
  abbrev pub after_hang : Contents T → MessageReply T → Contents T
  after_hang kept (reply.Hung number) = record kept { hung = true }
  after_hang kept answer = kept

  abbrev pub after_open : Contents T → Side → ℕ → MessageReply T → Contents T
  after_open kept Senders seat (reply.Opened place) =
      record kept { senders = with_seat seat place kept.senders; free = drop 1 kept.free }
  after_open kept Receivers seat (reply.Opened place) =
      record kept { receivers = with_seat seat place kept.receivers; free = drop 1 kept.free }
  after_open kept side seat answer = kept

  abbrev pub after_close : Contents T → Side → ℕ → MessageReply T → Contents T
  after_close kept Senders seat answer = after_hang (sender_closed kept seat) answer
  after_close kept Receivers seat answer = after_hang (receiver_closed kept seat) answer

  -- what a call leaves that got this answer
  abbrev pub after_reply : Contents T → MessageCall T → MessageReply T → Contents T
  after_reply kept (Put seat place value wait) answer = after_put kept place value answer
  after_reply kept (Take seat place wait) answer = after_take kept place answer
  after_reply kept (LeaveSender seat place value) answer =
      after_leave_sender kept place value answer
  after_reply kept (LeaveReceiver seat place) answer = after_leave_receiver kept place answer
  after_reply kept Hang answer = after_hang kept answer
  after_reply kept (Open side seat) answer = after_open kept side seat answer
  after_reply kept (Close side seat) answer = after_close kept side seat answer
  after_reply kept Count answer = kept

  -- what a call leaves
  abbrev pub after : Contents T → MessageCall T → Contents T
  after kept call = after_reply kept call (answer_to kept call)

  -- the number of the seat that a request names
  abbrev pub seat_named : MessageCall T → Option ℕ
  seat_named (Put seat place value wait) = Some seat
  seat_named (Take seat place wait) = Some seat
  seat_named (LeaveSender seat place value) = Some seat
  seat_named (LeaveReceiver seat place) = Some seat
  seat_named Hang = None
  seat_named (Open side seat) = Some seat
  seat_named (Close side seat) = Some seat
  seat_named Count = None

  -- the sequential queue as an object
  abbrev pub message_definition :
      Definition (Contents T) (Contents T) (MessageCall T) (MessageReply T)
  message_definition =
      record { state = λ kept. kept; answer = answer_to; after = after; named = seat_named }
