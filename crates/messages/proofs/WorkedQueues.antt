-- Queues of numbers, computed: what a few calls are answered.
use Rattle.std.proofs.Common.{◌≡◌, ℕ, true, false, List, [], ◌∷◌, None, Some, refl}
use Rattle.messages.specs.declared.limits.TheConstants.{LAST_GRANT}
use Rattle.messages.specs.declared.message_object.MessageCall.{MessageCall}
use Rattle.messages.specs.declared.message_object.MessageCall.TheVariants.{Put, Take, LeaveSender}
use Rattle.messages.specs.declared.message_object.MessageCall.TheVariants.{LeaveReceiver, Hang}
use Rattle.messages.specs.declared.message_object.MessageCall.TheVariants.{Open, Close}
use Rattle.messages.specs.declared.message_object.MessageReply.{MessageReply}
use Rattle.messages.specs.declared.message_object.MessageReply.TheVariants.{Accepted, NotNow, Full}
use Rattle.messages.specs.declared.message_object.MessageReply.TheVariants.{Hungup, Worn, Value}
use Rattle.messages.specs.declared.message_object.MessageReply.TheVariants.{Empty, Wait, WornOut}
use Rattle.messages.specs.declared.message_object.MessageReply.TheVariants.{End, Hung, HungBefore}
use Rattle.messages.specs.declared.message_object.MessageReply.TheVariants.{Opened, NoPlace, Closed}
use Rattle.messages.specs.declared.message_object.Side.TheVariants.{Senders, Receivers}
use Rattle.messages.specs.declared.message_object.Wake.{Wake}
use Rattle.messages.specs.History.{MessageEntry, sent, received, is_hung, told_number}
use Rattle.messages.specs.History.{waking_number}
use Rattle.messages.specs.MessageObject.{Contents, opening, answer_to, after}

-- what the calls are answered, one after the other
abbrev replies : Contents ℕ → List (MessageCall ℕ) → List (MessageReply ℕ)
replies kept [] = []
replies kept (call ∷ calls) = answer_to kept call ∷ replies (after kept call) calls

-- what they leave
abbrev left : Contents ℕ → List (MessageCall ℕ) → Contents ℕ
left kept [] = kept
left kept (call ∷ calls) = left (after kept call) calls

-- who waits at the place is to be woken with this number
abbrev woken : ℕ → ℕ → Wake
woken place number = record { place = place; number = number }

values_come_in_order : replies (opening 2 2)
    (Put 0 0 7 true ∷ Put 0 0 8 true ∷ Take 1 1 true ∷ Take 1 1 true ∷ []) ≡
    Accepted None ∷ Accepted None ∷ Value 7 None ∷ Value 8 None ∷ []
values_come_in_order = refl

a_call_that_is_not_to_wait_is_in_no_line : replies (opening 1 2)
    (Take 1 1 false ∷ Put 0 0 7 false ∷ Put 0 0 8 false ∷ Take 1 1 false ∷ Put 0 0 9 false ∷ []) ≡
    Empty ∷ Accepted None ∷ NotNow 8 ∷ Value 7 None ∷ Accepted None ∷ []
a_call_that_is_not_to_wait_is_in_no_line = refl

-- ---- grants

a_freed_place_is_kept_for_who_waited : replies (opening 1 3)
    (Put 0 0 7 true ∷ Put 0 0 8 true ∷ Take 1 1 true ∷ Put 2 2 9 false ∷ Put 0 0 8 true ∷ Take 1 1
    true ∷ []) ≡
    Accepted None ∷ Full 8 0 ∷ Value 7 (Some (woken 0 1)) ∷ NotNow 9 ∷ Accepted None
    ∷ Value 8 None ∷ []
a_freed_place_is_kept_for_who_waited = refl

a_value_is_kept_for_who_waited : replies (opening 1 3)
    (Take 1 1 true ∷ Put 0 0 7 true ∷ Take 2 2 false ∷ Take 1 1 true ∷ []) ≡
    Wait 0 ∷ Accepted (Some (woken 1 1)) ∷ Empty ∷ Value 7 None ∷ []
a_value_is_kept_for_who_waited = refl

who_waits_is_served_in_order : replies (opening 2 4)
    (Take 1 1 true ∷ Take 2 2 true ∷ Put 0 0 7 true ∷ Put 0 0 8 true ∷ Take 3 3 true ∷ Take 2 2 true
    ∷ []) ≡
    Wait 0 ∷ Wait 0 ∷ Accepted (Some (woken 1 1)) ∷ Accepted (Some (woken 2 2)) ∷ Wait 2
    ∷ Value 7 None ∷ []
who_waits_is_served_in_order = refl

who_is_not_granted_anything_waits_on_in_its_place : replies (opening 1 4)
    (Take 1 1 true ∷ Take 2 2 true ∷ Take 1 1 true ∷ Put 0 0 7 true ∷ []) ≡
    Wait 0 ∷ Wait 0 ∷ Wait 0 ∷ Accepted (Some (woken 1 1)) ∷ []
who_is_not_granted_anything_waits_on_in_its_place = refl

senders_wait_on_in_their_places : replies (opening 1 4)
    (Put 0 0 7 true ∷ Put 1 1 8 true ∷ Put 2 2 9 true ∷ Put 1 1 8 true ∷ Take 3 3 true ∷ []) ≡
    Accepted None ∷ Full 8 0 ∷ Full 9 0 ∷ Full 8 0 ∷ Value 7 (Some (woken 1 1)) ∷ []
senders_wait_on_in_their_places = refl

-- ---- waits that end

who_leaves_is_in_line_no_more : replies (opening 1 3)
    (Take 1 1 true ∷ LeaveReceiver 1 1 ∷ Put 0 0 7 true ∷ Put 0 0 8 true ∷ LeaveSender 0 0 8 ∷ Take
    1 1 true
    ∷ []) ≡
    Wait 0 ∷ Empty ∷ Accepted None ∷ Full 8 0 ∷ NotNow 8 ∷ Value 7 None ∷ []
who_leaves_is_in_line_no_more = refl

who_leaves_takes_its_value_along : replies (opening 1 3)
    (Take 1 1 true ∷ Put 0 0 7 true ∷ Put 0 0 8 true ∷ LeaveReceiver 1 1 ∷ Take 2 2 false ∷ []) ≡
    Wait 0 ∷ Accepted (Some (woken 1 1)) ∷ Full 8 1 ∷ Value 7 (Some (woken 0 2)) ∷ Empty ∷ []
who_leaves_takes_its_value_along = refl

who_leaves_puts_its_value_in : replies (opening 1 3)
    (Put 0 0 7 true ∷ Put 0 0 8 true ∷ Take 1 1 true ∷ Take 2 2 true ∷ LeaveSender 0 0 8 ∷ Take 2 2
    true ∷ []) ≡
    Accepted None ∷ Full 8 0 ∷ Value 7 (Some (woken 0 1)) ∷ Wait 1 ∷ Accepted (Some (woken 2 2))
    ∷ Value 8 None ∷ []
who_leaves_puts_its_value_in = refl

-- ---- a hangup

a_hangup_leaves_what_was_accepted : replies (opening 1 2)
    (Put 0 0 7 true ∷ Put 0 0 8 true ∷ Hang ∷ Put 0 0 8 true ∷ Take 1 1 true ∷ Take 1 1 true ∷ Hang
    ∷ []) ≡
    Accepted None ∷ Full 8 0 ∷ Hung 1 ∷ Hungup 8 ∷ Value 7 None ∷ End ∷ HungBefore ∷ []
a_hangup_leaves_what_was_accepted = refl

a_hangup_leaves_a_value_to_whom_it_was_granted : replies (opening 1 3)
    (Take 1 1 true ∷ Put 0 0 7 true ∷ Hang ∷ Take 2 2 true ∷ Take 1 1 true ∷ Take 1 1 true ∷ []) ≡
    Wait 0 ∷ Accepted (Some (woken 1 1)) ∷ Hung 2 ∷ End ∷ Value 7 None ∷ End ∷ []
a_hangup_leaves_a_value_to_whom_it_was_granted = refl

who_waited_comes_to_the_end : replies (opening 1 3)
    (Take 1 1 true ∷ Take 2 2 true ∷ Hang ∷ Take 1 1 true ∷ LeaveReceiver 2 2 ∷ []) ≡
    Wait 0 ∷ Wait 0 ∷ Hung 1 ∷ End ∷ Empty ∷ []
who_waited_comes_to_the_end = refl

room_that_was_granted_is_none_after_a_hangup : replies (opening 1 2)
    (Put 0 0 7 true ∷ Put 0 0 8 true ∷ Take 1 1 true ∷ Hang ∷ LeaveSender 0 0 8 ∷ Take 1 1 true ∷
    []) ≡
    Accepted None ∷ Full 8 0 ∷ Value 7 (Some (woken 0 1)) ∷ Hung 2 ∷ NotNow 8 ∷ End ∷ []
room_that_was_granted_is_none_after_a_hangup = refl

nobody_is_left_in_line : (left (opening 1 2)
    (Put 0 0 7 true ∷ Put 0 0 8 true ∷ Hang ∷ Put 0 0 8 true ∷ [])).senders.waiting ≡ []
nobody_is_left_in_line = refl

-- ---- who is open

a_queue_ends_with_its_last_sender : replies (opening 2 3)
    (Open Senders 0 ∷ Open Receivers 1 ∷ Open Senders 2 ∷ Put 0 0 7 true ∷ Close Senders 0
    ∷ Close Senders 2 ∷ Take 1 1 true ∷ Take 1 1 true ∷ Close Receivers 1 ∷ []) ≡
    Opened 0 ∷ Opened 1 ∷ Opened 2 ∷ Accepted None ∷ Closed ∷ Hung 1 ∷ Value 7 None ∷ End
    ∷ HungBefore ∷ []
a_queue_ends_with_its_last_sender = refl

senders_are_refused_when_the_last_receiver_has_closed : replies (opening 2 2)
    (Open Senders 0 ∷ Open Receivers 1 ∷ Close Receivers 1 ∷ Put 0 0 7 true ∷ []) ≡
    Opened 0 ∷ Opened 1 ∷ Hung 1 ∷ Hungup 7 ∷ []
senders_are_refused_when_the_last_receiver_has_closed = refl

a_place_comes_back : replies (opening 2 2)
    (Open Senders 0 ∷ Open Receivers 1 ∷ Open Senders 2 ∷ Close Senders 9 ∷ Open Senders 2
    ∷ Close Receivers 1 ∷ Open Senders 2 ∷ Open Receivers 3 ∷ []) ≡
    Opened 0 ∷ Opened 1 ∷ NoPlace ∷ Closed ∷ NoPlace ∷ Hung 1 ∷ Opened 1 ∷ NoPlace ∷ []
a_place_comes_back = refl

-- ---- numbers that are worn out, and places that there are not

at_the_last_grant_nobody_waits : replies (record (opening 1 2) { grants = LAST_GRANT })
    (Take 1 1 true ∷ Put 0 0 7 true ∷ Put 0 0 8 true ∷ Take 1 1 true ∷ []) ≡
    WornOut ∷ Accepted None ∷ Worn 8 ∷ Value 7 None ∷ []
at_the_last_grant_nobody_waits = refl

there_is_a_number_for_each_who_waits : replies
    (record (opening 1 3) { grants = 18446744073709551613 })
    (Take 1 1 true ∷ Take 2 2 true ∷ Put 0 0 7 true ∷ []) ≡
    Wait 18446744073709551613 ∷ WornOut ∷ Accepted (Some (woken 1 18446744073709551614)) ∷ []
there_is_a_number_for_each_who_waits = refl

only_places_wait : replies (opening 1 2) (Take 2 2 true ∷ Put 0 0 7 true ∷ Put 2 2 8 true ∷ []) ≡
    WornOut ∷ Accepted None ∷ Worn 8 ∷ []
only_places_wait = refl

-- ---- what a history adds up to

abbrev made : MessageCall ℕ → MessageReply ℕ → MessageEntry ℕ
made call answer = record { by = 0; request = call; reply = answer }

-- newest first
abbrev a_history : List (MessageEntry ℕ)
a_history =
    made (LeaveReceiver 1 1) (Value 8 None) ∷ made Hang (Hung 2)
    ∷ made (LeaveSender 0 0 8) (Accepted (Some (woken 1 2))) ∷ made (Take 1 1 true) (Wait 1)
    ∷ made (Take 1 1 true) (Value 7 (Some (woken 0 1))) ∷ made (Put 0 0 8 true) (Full 8 0)
    ∷ made (Put 0 0 7 true) (Accepted None) ∷ []

what_was_sent : sent a_history ≡ 7 ∷ 8 ∷ []
what_was_sent = refl

what_was_received : received a_history ≡ 7 ∷ 8 ∷ []
what_was_received = refl

it_was_hung_up : is_hung a_history ≡ true
it_was_hung_up = refl

numbers_that_are_told : (told_number {T = ℕ} (Full 8 3) ≡ Some 3)
    × (told_number {T = ℕ} (Wait 4) ≡ Some 4)
numbers_that_are_told = (refl, refl)

numbers_that_wake : (waking_number {T = ℕ} (Accepted (Some (woken 1 2))) ≡ Some 2)
    × ((waking_number {T = ℕ} (Value 7 (Some (woken 0 1))) ≡ Some 1)
    × (waking_number {T = ℕ} (Hung 5) ≡ Some 5))
numbers_that_wake = (refl, (refl, refl))
