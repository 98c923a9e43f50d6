-- What each call keeps of the laws of a queue of values.
use Rattle.std.proofs.Common.{◌≡◌, ◌⊎◌, inl, inr, ℕ, suc, ◌+◌, ◌<◌, ◌≤◌, ◌==◌}
use Rattle.std.proofs.Common.{Bool, true, false, ◌||◌, ◌&&◌}
use Rattle.std.proofs.Common.{None, Some}
use Rattle.std.specs.Prelude.{◌↔◌}
use Rattle.std.proofs.Common.{List, [], ◌∷◌, ◌++◌, length, drop, nat_lt}
use Rattle.std.proofs.Common.{refl, sym, ap, ◌∙◌, subst, arith, append_assoc, append-nil}
use Rattle.std.proofs.lemmas.Bool.Decides.{nat_tests}
use Rattle.std.specs.List.{AllByRecursion}
use Rattle.histories.specs.History.{state_after, IsLegal}
use Rattle.messages.specs.declared.message_object.MessageCall.{MessageCall}
use Rattle.messages.specs.declared.message_object.MessageCall.TheVariants.{Put, Take, LeaveSender}
use Rattle.messages.specs.declared.message_object.MessageCall.TheVariants.{LeaveReceiver, Hang}
use Rattle.messages.specs.declared.message_object.MessageCall.TheVariants.{Open, Close, Count}
use Rattle.messages.specs.declared.message_object.MessageReply.{MessageReply}
use Rattle.messages.specs.declared.message_object.MessageReply.TheVariants as reply
use Rattle.messages.specs.declared.message_object.Side.TheVariants.{Senders, Receivers}
use Rattle.messages.specs.declared.line.OpenSeat.{OpenSeat}
use Rattle.messages.specs.History.{MessageEntry, message_meaning, sent, received}
use Rattle.messages.specs.History.{sent_by, received_by, IsOver, open_seats, was_used}
use Rattle.messages.specs.Lines.{Waiters, in_line, place_of, closed, seats_of, without}
use Rattle.messages.specs.MessageObject.{Contents, opening, answer_to, after_reply, can_put}
use Rattle.messages.specs.MessageObject.{can_take, has_closed}
use Rattle.messages.specs.MessageObject.{accepted, taken, wake_of}
use Rattle.messages.specs.Soundness.{IsSound}
use Rattle.messages.proofs.AnswerLemmas.{put_cases, take_cases, leave_sender_cases}
use Rattle.messages.proofs.AnswerLemmas.{leave_receiver_cases, hang_cases, open_cases, close_cases}
use Rattle.messages.proofs.LineLemmas.{served_opened, in_line_opened, seats_join, seats_length}
use Rattle.messages.proofs.LineLemmas.{HasLeft, leaves}
use Rattle.messages.proofs.SoundLemmas.{WaitsForSome, accepts_sound, accepts_waits, takes_sound}
use Rattle.messages.proofs.SoundLemmas.{takes_waits, sender_goes_sound, sender_goes_waits}
use Rattle.messages.proofs.SoundLemmas.{receiver_goes_sound, receiver_goes_waits, has_value}
use Rattle.messages.proofs.SoundLemmas.{sender_joins_sound, sender_joins_waits}
use Rattle.messages.proofs.SoundLemmas.{receiver_joins_sound, receiver_joins_waits, opening_sound}
use Rattle.messages.proofs.SoundLemmas.{sender_opens_sound, receiver_opens_sound}
use Rattle.messages.proofs.SoundLemmas.{sender_closes_sound, receiver_closes_sound}

-- a test that holds of one side holds of both
pub or_right : (a b : Bool) → b ≡ true → (a || b) ≡ true
or_right true b is = refl
or_right false b is = is

-- no test comes out both ways
pub not_both : (b : Bool) → b ≡ true → b ≡ false → ⊥
not_both true is not_is = cc
not_both false is not_is = cc

-- no list that one has joined is empty
joined_some : (xs : List ℕ) (x : ℕ) → xs ++ x ∷ [] ≡ [] → ⊥
joined_some [] x is = cc
joined_some (y ∷ ys) x is = cc

over_map : {H P Q A B : Type 0} → (P → A) → (Q → B) → H ⊎ (P ⊎ Q) → H ⊎ (A ⊎ B)
over_map f g (inl h) = inl h
over_map f g (inr (inl p)) = inr (inl (f p))
over_map f g (inr (inr q)) = inr (inr (g q))

-- a list of no length has nothing
pub none_there : {X : Type 0} (xs : List X) → length xs ≡ 0 → xs ≡ []
none_there [] is = refl
none_there (x ∷ xs) is = cc

-- no queue is over at first
never : (T : Type 0) → IsOver {T = T} [] → false ≡ true
never T (inl on) = on
never T (inr (inl gone)) = gone.0
never T (inr (inr gone)) = gone.0

-- ---- the open seats of one side

-- those that it has are those of the history, and none if none was opened
module _ (opened : List OpenSeat) (shown : List ℕ) (used : Bool) (same : seats_of opened ≡ shown)
    (never : used ≡ false → shown ≡ []) where
  as_long : length shown ≡ length opened
  as_long = ap (λ (l : List ℕ). length l) (sym same) ∙ seats_length opened

  module _ (seat handles : ℕ) (placed : AllByRecursion (λ one. one.place < handles) opened) where
    left : HasLeft (λ one. one.place < handles) opened seat (place_of seat opened)
        (closed seat opened)
    left = leaves (λ one. one.place < handles) opened seat placed

    -- who is left is whom the history leaves
    pub left_same : seats_of (closed seat opened) ≡ without seat shown
    left_same = left.seats ∙ ap (without seat) same

    left_long : length (without seat shown) ≡ length (closed seat opened)
    left_long = ap (λ (l : List ℕ). length l) (sym left_same) ∙ seats_length (closed seat opened)

    -- where the seat was not shown, nobody is left only if nobody was there
    pub none_before : place_of seat opened ≡ None → without seat shown ≡ [] → shown ≡ []
    none_before not none =
        let gone = ap (λ (l : List ℕ). length l) none in
        let a = left_long in
        let b = left.was_not not in
        let c = as_long in
        none_there shown (omega (arith, gone, a, b, c))

    -- while a seat is left on the side, the list that is shown is not empty
    pub some_left : nat_lt 0 (length (closed seat opened)) ≡ true → without seat shown ≡ [] → ⊥
    some_left some none =
        let gone = ap (λ (l : List ℕ). length l) none in
        let a = left_long in
        let more : 0 < length (closed seat opened) = grind (arith, nat_tests, some) in
        omega (arith, gone, a, more)

    -- and once none is left, it is
    pub none_left : nat_lt 0 (length (closed seat opened)) ≡ false → without seat shown ≡ []
    none_left none =
        let a = left_long in
        let no_more : length (closed seat opened) ≤ 0 = grind (arith, nat_tests, none) in
        none_there (without seat shown) (omega (arith, a, no_more))

    -- an open seat was opened
    pub was_there : (place : ℕ) → place_of seat opened ≡ Some place → used ≡ true
    was_there place at = by used refl
      where
        by : (b : Bool) → used ≡ b → b ≡ true
        by true is = refl
        by false is =
            let none = ap (λ (l : List ℕ). length l) (never is) in
            let a = as_long in
            let one = (left.was place at).0 in
            absurd (omega (arith, none, a, one))

module _ {T : Type 0} where
  -- what holds of who is open: just those who opened and have not closed, and the queue is hung up
  -- just where it is over
  abbrev pub EndKept : List (MessageEntry T) → Contents T → Type 0
  EndKept past kept =
      (seats_of kept.senders.opened ≡ open_seats Senders past)
      × ((seats_of kept.receivers.opened ≡ open_seats Receivers past)
      × ((was_used Senders past ≡ false → open_seats Senders past ≡ [])
      × ((was_used Receivers past ≡ false → open_seats Receivers past ≡ [])
      × (kept.hung ≡ true ↔ IsOver past))))

  -- what holds of a queue after a history
  pub record Kept (capacity handles : ℕ) (past : List (MessageEntry T)) (kept : Contents T)
      : Type 0 where
    -- its capacity is what it was at first
    pub capacity_is : kept.capacity ≡ capacity
    -- what was accepted is what was received and what it keeps
    pub order : sent past ≡ received past ++ kept.values
    -- it is hung up just where it is over
    pub ends : EndKept past kept
    -- it is sound, as each of its states
    pub sound : IsSound handles kept
    -- before a hangup nobody waits for what is there
    pub waits : kept.hung ≡ false → WaitsForSome kept

  module _ (capacity handles by : ℕ) (past : List (MessageEntry T)) (kept : Contents T)
      (held : Kept capacity handles past kept) where
    abbrev entry_of : MessageCall T → MessageReply T → MessageEntry T
    entry_of call answer = record { by = by; request = call; reply = answer }

    -- nothing was accepted or received, and nobody hung up
    same_order : (call : MessageCall T) (answer : MessageReply T) → sent_by call answer ≡ []
        → received_by call answer ≡ []
        → sent (entry_of call answer ∷ past) ≡ received (entry_of call answer ∷ past)
        ++ kept.values
    same_order call answer none nothing =
        ap (λ (xs : List T). sent past ++ xs) none ∙ append-nil (sent past) ∙ held.order
        ∙ sym (ap (λ (xs : List T). (received past ++ xs) ++ kept.values) nothing
        ∙ ap (λ (xs : List T). xs ++ kept.values) (append-nil (received past)))

    -- one value more was accepted
    longer_order : (value : T) → sent past ++ value ∷ []
        ≡ (received past ++ []) ++ (kept.values ++ value ∷ [])
    longer_order value =
        ap (λ (xs : List T). xs ++ value ∷ []) held.order
        ∙ append_assoc (received past) kept.values (value ∷ [])
        ∙ ap (λ (xs : List T). xs ++ (kept.values ++ value ∷ []))
        (sym (append-nil (received past)))

    -- one value more was received
    shorter_order : (value : T) (rest : List T) → kept.values ≡ value ∷ rest
        → sent past ++ [] ≡ (received past ++ value ∷ []) ++ drop 1 kept.values
    shorter_order value rest are =
        let cut : kept.values ≡ value ∷ drop 1 kept.values = rw are refl in
        append-nil (sent past) ∙ held.order
        ∙ ap (λ (xs : List T). received past ++ xs) cut
        ∙ sym (append_assoc (received past) (value ∷ []) (drop 1 kept.values))

    -- a queue with the same open seats, that is hung up if this one is
    ends_same : (new : Contents T) → new.senders.opened ≡ kept.senders.opened
        → new.receivers.opened ≡ kept.receivers.opened → new.hung ≡ kept.hung → EndKept past new
    ends_same new senders receivers hung = (
      ap seats_of senders ∙ held.ends.0,
      (
        ap seats_of receivers ∙ held.ends.1.0,
        (
          held.ends.1.1.0,
          (
            held.ends.1.1.1.0,
            ((λ is. held.ends.1.1.1.1.0 (sym hung ∙ is)), λ over. hung ∙ held.ends.1.1.1.1.1 over),
          ),
        ),
      ),
    )

    -- nothing changed
    stays : (call : MessageCall T) (answer : MessageReply T) → sent_by call answer ≡ []
        → received_by call answer ≡ [] → EndKept (entry_of call answer ∷ past) kept
        → Kept capacity handles (entry_of call answer ∷ past) kept
    stays call answer none nothing ends =
        record {
          capacity_is = held.capacity_is;
          order = same_order call answer none nothing;
          ends = ends;
          sound = held.sound;
          waits = held.waits;
        }

    put_keeps : (seat place : ℕ) (value : T) (wait : Bool)
        → Kept capacity handles
        (entry_of (Put seat place value wait) (answer_to kept (Put seat place value wait)) ∷ past)
        (after_reply kept (Put seat place value wait) (answer_to kept (Put seat place value wait)))
    put_keeps seat place value wait =
        put_cases kept (λ answer. Kept capacity handles
        (entry_of (Put seat place value wait) answer ∷ past)
        (after_reply kept (Put seat place value wait) answer)) place value wait
        (λ is. record {
          capacity_is = held.capacity_is;
          order = same_order (Put seat place value wait) (reply.Hungup value) refl refl;
          ends = held.ends;
          sound = sender_goes_sound handles kept held.sound place;
          waits = λ not. absurd (not_both kept.hung is not);
        })
        (λ is may. record {
          capacity_is = held.capacity_is;
          order = longer_order value;
          ends = ends_same (accepted kept place value) refl (served_opened kept.receivers) refl;
          sound = accepts_sound handles kept held.sound place value may;
          waits = λ not. accepts_waits handles kept held.sound place value may (held.waits not);
        })
        (λ is full. stays (Put seat place value wait) (reply.NotNow value) refl refl held.ends)
        (λ is full may. record {
          capacity_is = held.capacity_is;
          order = same_order (Put seat place value wait) (reply.Full value kept.grants) refl refl;
          ends = ends_same (record kept { senders = in_line place kept.senders })
              (in_line_opened place kept.senders) refl refl;
          sound = sender_joins_sound handles kept held.sound place may;
          waits = λ not. sender_joins_waits handles kept held.sound place full (held.waits not);
        })
        (λ is full. stays (Put seat place value wait) (reply.Worn value) refl refl held.ends)

    leave_sender_keeps : (seat place : ℕ) (value : T)
        → Kept capacity handles
        (entry_of (LeaveSender seat place value)
        (answer_to kept (LeaveSender seat place value)) ∷ past)
        (after_reply kept (LeaveSender seat place value)
        (answer_to kept (LeaveSender seat place value)))
    leave_sender_keeps seat place value =
        leave_sender_cases kept (λ answer. Kept capacity handles
        (entry_of (LeaveSender seat place value) answer ∷ past)
        (after_reply kept (LeaveSender seat place value) answer)) place value
        (λ is. record {
          capacity_is = held.capacity_is;
          order = same_order (LeaveSender seat place value) (reply.NotNow value) refl refl;
          ends = held.ends;
          sound = sender_goes_sound handles kept held.sound place;
          waits = λ not. absurd (not_both kept.hung is not);
        })
        (λ is has.
        let may : can_put kept place ≡ true =
        or_right (nat_lt (length kept.values + length kept.senders.granted) kept.capacity) _ has in
        record {
          capacity_is = held.capacity_is;
          order = longer_order value;
          ends = ends_same (accepted kept place value) refl (served_opened kept.receivers) refl;
          sound = accepts_sound handles kept held.sound place value may;
          waits = λ not. accepts_waits handles kept held.sound place value may (held.waits not);
        })
        (λ is has_not. record {
          capacity_is = held.capacity_is;
          order = same_order (LeaveSender seat place value) (reply.NotNow value) refl refl;
          ends = held.ends;
          sound = sender_goes_sound handles kept held.sound place;
          waits = λ not. sender_goes_waits handles kept held.sound place has_not (held.waits not);
        })

    -- the oldest value was taken
    took : (call : MessageCall T) (place : ℕ) (value : T) (rest : List T)
        → kept.values ≡ value ∷ rest → can_take kept place ≡ true
        → sent_by call (reply.Value value (wake_of kept.senders kept.grants)) ≡ []
        → received_by call (reply.Value value (wake_of kept.senders kept.grants)) ≡ value ∷ []
        → EndKept (entry_of call (reply.Value value (wake_of kept.senders kept.grants)) ∷ past)
        (taken kept place)
        → Kept capacity handles
        (entry_of call (reply.Value value (wake_of kept.senders kept.grants)) ∷ past)
        (taken kept place)
    took call place value rest are may none one ends =
        record {
          capacity_is = held.capacity_is;
          order = ap (λ (xs : List T). sent past ++ xs) none ∙ shorter_order value rest are
              ∙ sym (ap (λ (xs : List T). (received past ++ xs) ++ drop 1 kept.values) one);
          ends = ends;
          sound = takes_sound handles kept held.sound place value rest are may;
          waits = λ not.
              takes_waits handles kept held.sound place value rest are may (held.waits not);
        }

    take_keeps : (seat place : ℕ) (wait : Bool)
        → Kept capacity handles
        (entry_of (Take seat place wait) (answer_to kept (Take seat place wait)) ∷ past)
        (after_reply kept (Take seat place wait) (answer_to kept (Take seat place wait)))
    take_keeps seat place wait =
        take_cases kept (λ answer. Kept capacity handles
        (entry_of (Take seat place wait) answer ∷ past)
        (after_reply kept (Take seat place wait) answer)) place wait
        (λ may value rest are. took (Take seat place wait) place value rest are may refl refl
        (ends_same (taken kept place) (served_opened kept.senders) refl refl))
        (λ may none. absurd (has_value handles kept held.sound place may none))
        (λ empty is. record {
          capacity_is = held.capacity_is;
          order = same_order (Take seat place wait) reply.End refl refl;
          ends = held.ends;
          sound = receiver_goes_sound handles kept held.sound place;
          waits = λ not. absurd (not_both kept.hung is not);
        })
        (λ empty is. stays (Take seat place wait) reply.Empty refl refl held.ends)
        (λ empty is may. record {
          capacity_is = held.capacity_is;
          order = same_order (Take seat place wait) (reply.Wait kept.grants) refl refl;
          ends = ends_same (record kept { receivers = in_line place kept.receivers }) refl
              (in_line_opened place kept.receivers) refl;
          sound = receiver_joins_sound handles kept held.sound place may;
          waits = λ not. receiver_joins_waits handles kept held.sound place empty (held.waits not);
        })
        (λ empty is. stays (Take seat place wait) reply.WornOut refl refl held.ends)

    leave_receiver_keeps : (seat place : ℕ)
        → Kept capacity handles
        (entry_of (LeaveReceiver seat place) (answer_to kept (LeaveReceiver seat place)) ∷ past)
        (after_reply kept (LeaveReceiver seat place) (answer_to kept (LeaveReceiver seat place)))
    leave_receiver_keeps seat place =
        leave_receiver_cases kept (λ answer. Kept capacity handles
        (entry_of (LeaveReceiver seat place) answer ∷ past)
        (after_reply kept (LeaveReceiver seat place) answer)) place
        (λ has value rest are. took (LeaveReceiver seat place) place value rest are
        (or_right (nat_lt (length kept.receivers.granted) (length kept.values)) _ has)
        refl refl (ends_same (taken kept place) (served_opened kept.senders) refl refl))
        (λ has none. absurd (has_value handles kept held.sound place
        (or_right (nat_lt (length kept.receivers.granted) (length kept.values)) _ has) none))
        (λ has_not. record {
          capacity_is = held.capacity_is;
          order = same_order (LeaveReceiver seat place) reply.Empty refl refl;
          ends = held.ends;
          sound = receiver_goes_sound handles kept held.sound place;
          waits = λ not. receiver_goes_waits handles kept held.sound place has_not (held.waits not);
        })

    hang_keeps : Kept capacity handles (entry_of Hang (answer_to kept Hang) ∷ past)
        (after_reply kept Hang (answer_to kept Hang))
    hang_keeps =
        hang_cases kept (λ answer. Kept capacity handles (entry_of Hang answer ∷ past)
        (after_reply kept Hang answer))
        (λ is. record {
          capacity_is = held.capacity_is;
          order = same_order Hang reply.HungBefore refl refl;
          ends = (
            held.ends.0,
            (
              held.ends.1.0,
              (
                held.ends.1.1.0,
                (
                  held.ends.1.1.1.0,
                  ((λ on. inl refl), λ over. is),
                ),
              ),
            ),
          );
          sound = held.sound;
          waits = held.waits;
        })
        (λ is. record {
          capacity_is = held.capacity_is;
          order = same_order Hang (reply.Hung (suc kept.grants)) refl refl;
          ends = (
            held.ends.0,
            (
              held.ends.1.0,
              (
                held.ends.1.1.0,
                (
                  held.ends.1.1.1.0,
                  ((λ on. inl refl), λ over. refl),
                ),
              ),
            ),
          );
          sound = record {
            room = held.sound.room;
            values = held.sound.values;
            numbers = held.sound.numbers;
            places = held.sound.places;
            free = held.sound.free;
            senders = held.sound.senders;
            receivers = held.sound.receivers;
          };
          waits = λ not. absurd (not_both true refl not);
        })

    -- ---- a seat opens or closes

    -- a side that has not closed and has no open seat is not hung up
    not_ended : (line : Waiters) (shown : List ℕ) → has_closed kept line ≡ false
        → seats_of line.opened ≡ shown → kept.hung ≡ true → shown ≡ [] → ⊥
    not_ended line shown yet same hung none =
        let zero_is : length line.opened ≡ 0 =
        sym (seats_length line.opened) ∙ ap (λ (l : List ℕ). length l) (same ∙ none) in
        not_both (kept.hung && (length line.opened == 0)) (rw (hung, zero_is) refl) yet

    sender_opens_keeps : (seat : ℕ)
        → Kept capacity handles
        (entry_of (Open Senders seat) (answer_to kept (Open Senders seat)) ∷ past)
        (after_reply kept (Open Senders seat) (answer_to kept (Open Senders seat)))
    sender_opens_keeps seat =
        open_cases kept (λ answer. Kept capacity handles
        (entry_of (Open Senders seat) answer ∷ past)
        (after_reply kept (Open Senders seat) answer)) kept.senders
        (λ over. stays (Open Senders seat) reply.NoPlace refl refl held.ends)
        (λ yet full. stays (Open Senders seat) reply.NoPlace refl refl held.ends)
        (λ yet place rest are. record {
          capacity_is = held.capacity_is;
          order = same_order (Open Senders seat) (reply.Opened place) refl refl;
          ends = (
            seats_join kept.senders.opened (record { seat = seat; place = place })
                ∙ ap (λ (l : List ℕ). l ++ seat ∷ []) held.ends.0,
            (
              held.ends.1.0,
              (
                (λ is. absurd (not_both true refl is)),
                (
                  held.ends.1.1.1.0,
                  (
                    (λ on. over_map (λ closed. absurd (not_ended kept.senders (open_seats Senders
                        past) yet held.ends.0 on closed.1)) (λ closed. closed) (held.ends.1.1.1.1.0
                        on)),
                    (λ over. held.ends.1.1.1.1.1 (over_map (λ closed. absurd (joined_some
                        (open_seats Senders past) seat closed.1)) (λ closed. closed) over)),
                  ),
                ),
              ),
            ),
          );
          sound = sender_opens_sound handles kept held.sound seat place rest are;
          waits = λ not. record {
            senders = (held.waits not).senders;
            receivers = (held.waits not).receivers;
          };
        })

    receiver_opens_keeps : (seat : ℕ)
        → Kept capacity handles
        (entry_of (Open Receivers seat) (answer_to kept (Open Receivers seat)) ∷ past)
        (after_reply kept (Open Receivers seat) (answer_to kept (Open Receivers seat)))
    receiver_opens_keeps seat =
        open_cases kept (λ answer. Kept capacity handles
        (entry_of (Open Receivers seat) answer ∷ past)
        (after_reply kept (Open Receivers seat) answer)) kept.receivers
        (λ over. stays (Open Receivers seat) reply.NoPlace refl refl held.ends)
        (λ yet full. stays (Open Receivers seat) reply.NoPlace refl refl held.ends)
        (λ yet place rest are. record {
          capacity_is = held.capacity_is;
          order = same_order (Open Receivers seat) (reply.Opened place) refl refl;
          ends = (
            held.ends.0,
            (
              seats_join kept.receivers.opened (record { seat = seat; place = place })
                  ∙ ap (λ (l : List ℕ). l ++ seat ∷ []) held.ends.1.0,
              (
                held.ends.1.1.0,
                (
                  (λ is. absurd (not_both true refl is)),
                  (
                    (λ on. over_map (λ closed. closed) (λ closed. absurd (not_ended kept.receivers
                        (open_seats Receivers past) yet held.ends.1.0 on closed.1))
                        (held.ends.1.1.1.1.0 on)),
                    (λ over. held.ends.1.1.1.1.1 (over_map (λ closed. closed) (λ closed. absurd
                        (joined_some (open_seats Receivers past) seat closed.1)) over)),
                  ),
                ),
              ),
            ),
          );
          sound = receiver_opens_sound handles kept held.sound seat place rest are;
          waits = λ not. record {
            senders = (held.waits not).senders;
            receivers = (held.waits not).receivers;
          };
        })

    sender_closes_keeps : (seat : ℕ)
        → Kept capacity handles
        (entry_of (Close Senders seat) (answer_to kept (Close Senders seat)) ∷ past)
        (after_reply kept (Close Senders seat) (answer_to kept (Close Senders seat)))
    sender_closes_keeps seat =
        close_cases kept (λ answer. Kept capacity handles
        (entry_of (Close Senders seat) answer ∷ past)
        (after_reply kept (Close Senders seat) answer)) kept.senders seat
        (λ not. record {
          capacity_is = held.capacity_is;
          order = same_order (Close Senders seat) reply.Closed refl refl;
          ends = (
            left_same kept.senders.opened (open_seats Senders past) (was_used Senders past)
                held.ends.0 held.ends.1.1.0 seat handles
                held.sound.senders.placed,
            (
              held.ends.1.0,
              (
                (λ unused. ap (without seat) (held.ends.1.1.0 unused)),
                (
                  held.ends.1.1.1.0,
                  (
                    (λ on. over_map (λ closed. (closed.0, ap (without seat) closed.1)) (λ closed.
                        closed) (held.ends.1.1.1.1.0 on)),
                    (λ over. held.ends.1.1.1.1.1 (over_map (λ closed. (
                      closed.0,
                      none_before kept.senders.opened (open_seats Senders past) (was_used Senders
                          past) held.ends.0 held.ends.1.1.0 seat handles
                          held.sound.senders.placed not closed.1,
                    )) (λ closed. closed) over)),
                  ),
                ),
              ),
            ),
          );
          sound = sender_closes_sound handles kept held.sound seat;
          waits = λ before. record {
            senders = (held.waits before).senders;
            receivers = (held.waits before).receivers;
          };
        })
        (λ place at some. record {
          capacity_is = held.capacity_is;
          order = same_order (Close Senders seat) reply.Closed refl refl;
          ends = (
            left_same kept.senders.opened (open_seats Senders past) (was_used Senders past)
                held.ends.0 held.ends.1.1.0 seat handles
                held.sound.senders.placed,
            (
              held.ends.1.0,
              (
                (λ unused. ap (without seat) (held.ends.1.1.0 unused)),
                (
                  held.ends.1.1.1.0,
                  (
                    (λ on. over_map (λ closed. (closed.0, ap (without seat) closed.1)) (λ closed.
                        closed) (held.ends.1.1.1.1.0 on)),
                    (λ over. held.ends.1.1.1.1.1 (over_map (λ closed. absurd (some_left
                        kept.senders.opened (open_seats Senders past) (was_used Senders past)
                        held.ends.0 held.ends.1.1.0 seat handles
                        held.sound.senders.placed some closed.1)) (λ closed. closed) over)),
                  ),
                ),
              ),
            ),
          );
          sound = sender_closes_sound handles kept held.sound seat;
          waits = λ not. record {
            senders = (held.waits not).senders;
            receivers = (held.waits not).receivers;
          };
        })
        (λ place at none hung. record {
          capacity_is = held.capacity_is;
          order = same_order (Close Senders seat) reply.HungBefore refl refl;
          ends = (
            left_same kept.senders.opened (open_seats Senders past) (was_used Senders past)
                held.ends.0 held.ends.1.1.0 seat handles
                held.sound.senders.placed,
            (
              held.ends.1.0,
              (
                (λ unused. ap (without seat) (held.ends.1.1.0 unused)),
                (
                  held.ends.1.1.1.0,
                  (
                    (λ on. over_map (λ closed. (closed.0, ap (without seat) closed.1)) (λ closed.
                        closed) (held.ends.1.1.1.1.0 on)),
                    (λ over. hung),
                  ),
                ),
              ),
            ),
          );
          sound = sender_closes_sound handles kept held.sound seat;
          waits = λ not. record {
            senders = (held.waits not).senders;
            receivers = (held.waits not).receivers;
          };
        })
        (λ place at none hung. record {
          capacity_is = held.capacity_is;
          order = same_order (Close Senders seat) (reply.Hung (suc kept.grants)) refl refl;
          ends = (
            left_same kept.senders.opened (open_seats Senders past) (was_used Senders past)
                held.ends.0 held.ends.1.1.0 seat handles
                held.sound.senders.placed,
            (
              held.ends.1.0,
              (
                (λ unused. ap (without seat) (held.ends.1.1.0 unused)),
                (
                  held.ends.1.1.1.0,
                  (
                    (λ on. inr (inl (
                      was_there kept.senders.opened (open_seats Senders past) (was_used Senders
                          past) held.ends.0 held.ends.1.1.0 seat handles
                          held.sound.senders.placed place at,
                      none_left kept.senders.opened (open_seats Senders past) (was_used Senders
                          past) held.ends.0 held.ends.1.1.0 seat handles
                          held.sound.senders.placed none,
                    ))),
                    (λ over. refl),
                  ),
                ),
              ),
            ),
          );
          sound = record {
            room = (sender_closes_sound handles kept held.sound seat).room;
            values = (sender_closes_sound handles kept held.sound seat).values;
            numbers = (sender_closes_sound handles kept held.sound seat).numbers;
            places = (sender_closes_sound handles kept held.sound seat).places;
            free = (sender_closes_sound handles kept held.sound seat).free;
            senders = (sender_closes_sound handles kept held.sound seat).senders;
            receivers = (sender_closes_sound handles kept held.sound seat).receivers;
          };
          waits = λ not. absurd (not_both true refl not);
        })

    receiver_closes_keeps : (seat : ℕ)
        → Kept capacity handles
        (entry_of (Close Receivers seat) (answer_to kept (Close Receivers seat)) ∷ past)
        (after_reply kept (Close Receivers seat) (answer_to kept (Close Receivers seat)))
    receiver_closes_keeps seat =
        close_cases kept (λ answer. Kept capacity handles
        (entry_of (Close Receivers seat) answer ∷ past)
        (after_reply kept (Close Receivers seat) answer)) kept.receivers seat
        (λ not. record {
          capacity_is = held.capacity_is;
          order = same_order (Close Receivers seat) reply.Closed refl refl;
          ends = (
            held.ends.0,
            (
              left_same kept.receivers.opened (open_seats Receivers past) (was_used Receivers past)
                  held.ends.1.0 held.ends.1.1.1.0 seat handles
                  held.sound.receivers.placed,
              (
                held.ends.1.1.0,
                (
                  (λ unused. ap (without seat) (held.ends.1.1.1.0 unused)),
                  (
                    (λ on. over_map (λ closed. closed) (λ closed. (
                      closed.0,
                      ap (without seat)
                          closed.1,
                    )) (held.ends.1.1.1.1.0 on)),
                    (λ over. held.ends.1.1.1.1.1 (over_map (λ closed. closed) (λ closed. (
                      closed.0,
                      none_before kept.receivers.opened (open_seats Receivers past) (was_used
                          Receivers past) held.ends.1.0 held.ends.1.1.1.0 seat handles
                          held.sound.receivers.placed not closed.1,
                    )) over)),
                  ),
                ),
              ),
            ),
          );
          sound = receiver_closes_sound handles kept held.sound seat;
          waits = λ before. record {
            senders = (held.waits before).senders;
            receivers = (held.waits before).receivers;
          };
        })
        (λ place at some. record {
          capacity_is = held.capacity_is;
          order = same_order (Close Receivers seat) reply.Closed refl refl;
          ends = (
            held.ends.0,
            (
              left_same kept.receivers.opened (open_seats Receivers past) (was_used Receivers past)
                  held.ends.1.0 held.ends.1.1.1.0 seat handles
                  held.sound.receivers.placed,
              (
                held.ends.1.1.0,
                (
                  (λ unused. ap (without seat) (held.ends.1.1.1.0 unused)),
                  (
                    (λ on. over_map (λ closed. closed) (λ closed. (
                      closed.0,
                      ap (without seat)
                          closed.1,
                    )) (held.ends.1.1.1.1.0 on)),
                    (λ over. held.ends.1.1.1.1.1 (over_map (λ closed. closed) (λ closed. absurd
                        (some_left kept.receivers.opened (open_seats Receivers past) (was_used
                        Receivers past) held.ends.1.0 held.ends.1.1.1.0 seat handles
                        held.sound.receivers.placed some closed.1)) over)),
                  ),
                ),
              ),
            ),
          );
          sound = receiver_closes_sound handles kept held.sound seat;
          waits = λ not. record {
            senders = (held.waits not).senders;
            receivers = (held.waits not).receivers;
          };
        })
        (λ place at none hung. record {
          capacity_is = held.capacity_is;
          order = same_order (Close Receivers seat) reply.HungBefore refl refl;
          ends = (
            held.ends.0,
            (
              left_same kept.receivers.opened (open_seats Receivers past) (was_used Receivers past)
                  held.ends.1.0 held.ends.1.1.1.0 seat handles
                  held.sound.receivers.placed,
              (
                held.ends.1.1.0,
                (
                  (λ unused. ap (without seat) (held.ends.1.1.1.0 unused)),
                  (
                    (λ on. over_map (λ closed. closed) (λ closed. (
                      closed.0,
                      ap (without seat)
                          closed.1,
                    )) (held.ends.1.1.1.1.0 on)),
                    (λ over. hung),
                  ),
                ),
              ),
            ),
          );
          sound = receiver_closes_sound handles kept held.sound seat;
          waits = λ not. record {
            senders = (held.waits not).senders;
            receivers = (held.waits not).receivers;
          };
        })
        (λ place at none hung. record {
          capacity_is = held.capacity_is;
          order = same_order (Close Receivers seat) (reply.Hung (suc kept.grants)) refl refl;
          ends = (
            held.ends.0,
            (
              left_same kept.receivers.opened (open_seats Receivers past) (was_used Receivers past)
                  held.ends.1.0 held.ends.1.1.1.0 seat handles
                  held.sound.receivers.placed,
              (
                held.ends.1.1.0,
                (
                  (λ unused. ap (without seat) (held.ends.1.1.1.0 unused)),
                  (
                    (λ on. inr (inr (
                      was_there kept.receivers.opened (open_seats Receivers past) (was_used
                          Receivers past) held.ends.1.0 held.ends.1.1.1.0 seat handles
                          held.sound.receivers.placed place at,
                      none_left kept.receivers.opened (open_seats Receivers past) (was_used
                          Receivers past) held.ends.1.0 held.ends.1.1.1.0 seat handles
                          held.sound.receivers.placed none,
                    ))),
                    (λ over. refl),
                  ),
                ),
              ),
            ),
          );
          sound = record {
            room = (receiver_closes_sound handles kept held.sound seat).room;
            values = (receiver_closes_sound handles kept held.sound seat).values;
            numbers = (receiver_closes_sound handles kept held.sound seat).numbers;
            places = (receiver_closes_sound handles kept held.sound seat).places;
            free = (receiver_closes_sound handles kept held.sound seat).free;
            senders = (receiver_closes_sound handles kept held.sound seat).senders;
            receivers = (receiver_closes_sound handles kept held.sound seat).receivers;
          };
          waits = λ not. absurd (not_both true refl not);
        })

    -- each call keeps the laws
    pub call_keeps : (call : MessageCall T)
        → Kept capacity handles (entry_of call (answer_to kept call) ∷ past)
        (after_reply kept call (answer_to kept call))
    call_keeps (Put seat place value wait) = put_keeps seat place value wait
    call_keeps (Take seat place wait) = take_keeps seat place wait
    call_keeps (LeaveSender seat place value) = leave_sender_keeps seat place value
    call_keeps (LeaveReceiver seat place) = leave_receiver_keeps seat place
    call_keeps Hang = hang_keeps
    call_keeps (Open Senders seat) = sender_opens_keeps seat
    call_keeps (Open Receivers seat) = receiver_opens_keeps seat
    call_keeps (Close Senders seat) = sender_closes_keeps seat
    call_keeps (Close Receivers seat) = receiver_closes_keeps seat
    call_keeps Count = stays Count (answer_to kept Count) refl refl held.ends

  -- each legal history keeps all of this
  pub history_keeps : (capacity handles : ℕ) (past : List (MessageEntry T))
      → IsLegal message_meaning (opening capacity handles) past
      → Kept capacity handles past (state_after message_meaning (opening capacity handles) past)
  history_keeps capacity handles [] legal =
      record {
        capacity_is = refl;
        order = refl;
        ends = (
          refl,
          (
            refl,
            (
              (λ unused. refl),
              (
                (λ unused. refl),
                (
                  (λ on. inl on),
                  λ over. never T
                      over,
                ),
              ),
            ),
          ),
        );
        sound = opening_sound capacity handles;
        waits = λ not. record {
          senders = λ some. omega (arith, some);
          receivers = λ some. omega (arith, some);
        };
      }
  history_keeps capacity handles (entry ∷ past) legal =
      let kept = state_after message_meaning (opening capacity handles) past in
      let held = history_keeps capacity handles past legal.1 in
      subst (λ answer. Kept capacity handles
      (record { by = entry.by; request = entry.request; reply = answer } ∷ past)
      (after_reply kept entry.request (answer_to kept entry.request)))
      (sym legal.0.reply)
      (call_keeps capacity handles entry.by past kept held entry.request)
