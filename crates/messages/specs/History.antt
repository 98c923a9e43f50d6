-- The history of a queue of values: its calls with their replies, newest first, and what they add
-- up to.
use Rattle.std.specs.Prelude.{◌≡◌, ◌⊎◌, ℕ, Bool, true, false, List, [], ◌∷◌, ◌++◌}
use Rattle.std.specs.Prelude.{Option, None, Some}
use Rattle.histories.specs.History.{Meaning}
use Rattle.kernel_lock.specs.declared.view.Operation.{Operation}
use Rattle.kernel_lock.specs.Definition.{meaning_of}
use Rattle.messages.specs.declared.message_object.MessageCall.{MessageCall}
use Rattle.messages.specs.declared.message_object.MessageCall.TheVariants.{Put, Take, LeaveSender}
use Rattle.messages.specs.declared.message_object.MessageCall.TheVariants.{LeaveReceiver, Hang}
use Rattle.messages.specs.declared.message_object.MessageCall.TheVariants.{Open, Close}
use Rattle.messages.specs.declared.message_object.MessageReply.{MessageReply}
use Rattle.messages.specs.declared.message_object.MessageReply.TheVariants as reply
use Rattle.messages.specs.declared.message_object.Side.{Side}
use Rattle.messages.specs.declared.message_object.Side.TheVariants.{Senders, Receivers}
use Rattle.messages.specs.declared.message_object.Wake.{Wake}
use Rattle.messages.specs.Lines.{without}
use Rattle.messages.specs.MessageObject.{Contents, message_definition}

-- one call: the number of the seat that made it, and its answer
abbrev pub MessageEntry : Type 0 → Type 0
MessageEntry T = Operation (MessageCall T) (MessageReply T)

-- the number of the grant for which somebody is to be woken
abbrev pub number_in : Option Wake → Option ℕ
number_in None = None
number_in (Some wake) = Some wake.number

module _ {T : Type 0} where
  abbrev pub message_meaning : Meaning (Contents T) (MessageEntry T)
  message_meaning = meaning_of message_definition

  -- ---- values

  -- the value that was accepted by this call, or none
  abbrev pub sent_by : MessageCall T → MessageReply T → List T
  sent_by (Put seat place value wait) (reply.Accepted wake) = value ∷ []
  sent_by (LeaveSender seat place value) (reply.Accepted wake) = value ∷ []
  sent_by call other = []

  -- the value that was received by this call, or none
  abbrev pub received_by : MessageCall T → MessageReply T → List T
  received_by (Take seat place wait) (reply.Value value wake) = value ∷ []
  received_by (LeaveReceiver seat place) (reply.Value value wake) = value ∷ []
  received_by call other = []

  -- all values that were accepted, the first one first
  abbrev pub sent : List (MessageEntry T) → List T
  sent [] = []
  sent (entry ∷ past) = sent past ++ sent_by entry.request entry.reply

  -- all values that were received, the first one first
  abbrev pub received : List (MessageEntry T) → List T
  received [] = []
  received (entry ∷ past) = received past ++ received_by entry.request entry.reply

  -- ---- the end

  -- whether a hangup is among them
  abbrev pub hung_by : MessageCall T → Bool → Bool
  hung_by Hang before = true
  hung_by call before = before

  abbrev pub is_hung : List (MessageEntry T) → Bool
  is_hung [] = false
  is_hung (entry ∷ past) = hung_by entry.request (is_hung past)

  -- the seats that are open on this side: those that were opened and have not closed
  abbrev pub open_by : Side → MessageCall T → MessageReply T → List ℕ → List ℕ
  open_by Senders (Open Senders seat) (reply.Opened place) before = before ++ seat ∷ []
  open_by Senders (Close Senders seat) answer before = without seat before
  open_by Receivers (Open Receivers seat) (reply.Opened place) before = before ++ seat ∷ []
  open_by Receivers (Close Receivers seat) answer before = without seat before
  open_by side call answer before = before

  abbrev pub open_seats : Side → List (MessageEntry T) → List ℕ
  open_seats side [] = []
  open_seats side (entry ∷ past) = open_by side entry.request entry.reply (open_seats side past)

  -- whether a seat was opened on this side
  abbrev pub used_by : Side → MessageCall T → MessageReply T → Bool → Bool
  used_by Senders (Open Senders seat) (reply.Opened place) before = true
  used_by Receivers (Open Receivers seat) (reply.Opened place) before = true
  used_by side call answer before = before

  abbrev pub was_used : Side → List (MessageEntry T) → Bool
  was_used side [] = false
  was_used side (entry ∷ past) = used_by side entry.request entry.reply (was_used side past)

  -- each seat that was opened on this side has closed
  abbrev pub HasClosed : Side → List (MessageEntry T) → Type 0
  HasClosed side past = (was_used side past ≡ true) × (open_seats side past ≡ [])

  -- the queue was hung up, or one of its sides has closed
  abbrev pub IsOver : List (MessageEntry T) → Type 0
  IsOver past =
      (is_hung past ≡ true) ⊎ (HasClosed Senders past ⊎ HasClosed Receivers past)

  -- ---- who waits, and who is woken

  -- the number that the answer tells to who waits
  abbrev pub told_number : MessageReply T → Option ℕ
  told_number (reply.Full value grants) = Some grants
  told_number (reply.Wait grants) = Some grants
  told_number other = None

  -- whom the answer names to be woken
  abbrev pub named_by : MessageReply T → Option Wake
  named_by (reply.Accepted wake) = wake
  named_by (reply.Value value wake) = wake
  named_by other = None

  -- the number with which the answer has somebody woken, or all
  abbrev pub waking_number : MessageReply T → Option ℕ
  waking_number (reply.Hung number) = Some number
  waking_number (reply.Accepted wake) = number_in wake
  waking_number (reply.Value value wake) = number_in wake
  waking_number other = None
