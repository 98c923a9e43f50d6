-- What holds of a queue of values after every legal history, said of the definitions alone.
use Rattle.std.specs.Prelude.{◌≡◌, ◌≢◌, ◌≤◌, ◌<◌, ◌⊎◌, ◌↔◌, ◌+◌, ℕ, suc, true, false, List}
use Rattle.std.specs.Prelude.{[], ◌∷◌, ◌++◌}
use Rattle.std.specs.Prelude.{length, Some, IfSome}
use Rattle.std.specs.List.{AllByRecursion}
use Rattle.histories.specs.History.{state_after, IsLegal}
use Rattle.messages.specs.declared.message_object.MessageCall.TheVariants.{Close, Open}
use Rattle.messages.specs.declared.message_object.MessageReply.TheVariants as reply
use Rattle.messages.specs.declared.message_object.Side.{Side}
use Rattle.messages.specs.declared.message_object.Side.TheVariants.{Senders, Receivers}
use Rattle.messages.specs.History.{MessageEntry, message_meaning, sent, received}
use Rattle.messages.specs.History.{IsOver, open_seats}
use Rattle.messages.specs.History.{named_by, told_number, waking_number}
use Rattle.messages.specs.Lines.{stands_in}
use Rattle.messages.specs.MessageObject.{Contents, opening}
use Rattle.messages.specs.Soundness.{IsSound}

module _ (T : Type 0) where
  -- a law of the state that each legal history leaves
  abbrev pub AlwaysHolds : (ℕ → ℕ → List (MessageEntry T) → Contents T → Type 0) → Type 0
  AlwaysHolds Holds =
      (capacity handles : ℕ) (past : List (MessageEntry T))
      → IsLegal message_meaning (opening capacity handles) past
      → Holds capacity handles past (state_after message_meaning (opening capacity handles) past)

  -- a law of a call after this history
  abbrev pub EachCall :
      (MessageEntry T → List (MessageEntry T) → Contents T → Contents T → Type 0) → Type 0
  EachCall Holds =
      (capacity handles : ℕ) (entry : MessageEntry T) (past : List (MessageEntry T))
      → IsLegal message_meaning (opening capacity handles) (entry ∷ past)
      → Holds entry past (state_after message_meaning (opening capacity handles) past)
      (state_after message_meaning (opening capacity handles) (entry ∷ past))

  -- ---- values

  -- Each value that was received was sent, once, and in the order in which they were accepted: what
  -- was accepted is what was received and then what the queue keeps.
  abbrev pub FirstInFirstOut : Type 0
  FirstInFirstOut =
      AlwaysHolds (λ capacity handles past kept. sent past ≡ received past ++ kept.values)

  -- no more values are kept than the capacity
  abbrev pub NeverOverfull : Type 0
  NeverOverfull = AlwaysHolds (λ capacity handles past kept. length kept.values ≤ capacity)

  -- ---- the end

  -- a queue is hung up just where it was by a call, or where each seat of a side has closed
  abbrev pub EndsWithASide : Type 0
  EndsWithASide = AlwaysHolds (λ capacity handles past kept. kept.hung ≡ true ↔ IsOver past)

  -- the last seat of a side that closes before the end is told a number to wake all with
  abbrev pub LastCloseWakes : Type 0
  LastCloseWakes =
      EachCall (λ entry past before after. (side : Side) (seat : ℕ)
      → entry.request ≡ Close side seat → open_seats side past ≡ seat ∷ [] → (¬ IsOver past)
      → entry.reply ≡ reply.Hung (suc before.grants))

  -- a seat is refused only where as many are open as there are places, or where none of its side is
  -- open any more after the end
  abbrev pub PlacesComeBack : Type 0
  PlacesComeBack =
      EachCall (λ entry past before after. (side : Side) (seat : ℕ)
      → entry.request ≡ Open side seat → entry.reply ≡ reply.NoPlace
      → (length (open_seats Senders past) + length (open_seats Receivers past) ≡
      before.senders.seats) ⊎ (IsOver past × (open_seats side past ≡ [])))

  -- nothing is accepted after the end
  abbrev pub NothingAfterHangup : Type 0
  NothingAfterHangup =
      AlwaysHolds (λ capacity handles past kept. (entry : MessageEntry T)
      → IsLegal message_meaning (opening capacity handles) (entry ∷ past)
      → IsOver past → sent (entry ∷ past) ≡ sent past)

  -- a value is refused as Hungup only after it
  abbrev pub RefusedAfterHangup : Type 0
  RefusedAfterHangup =
      EachCall (λ entry past before after. (value : T) → entry.reply ≡ reply.Hungup value
      → IsOver past)

  -- the end is told only after it, when each value that was accepted was received or was granted
  -- to a receiver that has yet to come for it
  abbrev pub EndIsAfterAll : Type 0
  EndIsAfterAll =
      EachCall (λ entry past before after. entry.reply ≡ reply.End
      → IsOver past × (length before.values ≤ length before.receivers.granted))

  -- one hangup, or one close, is the first
  abbrev pub OneHangupIsFirst : Type 0
  OneHangupIsFirst =
      EachCall (λ entry past before after. (number : ℕ) → entry.reply ≡ reply.Hung number
      → ¬ IsOver past)

  -- ---- who waits

  -- Whoever was granted room or a value finds it, whatever others do, and there is a number for
  -- each grant to come.
  abbrev pub StatesAreSound : Type 0
  StatesAreSound = AlwaysHolds (λ capacity handles past kept. IsSound handles kept)

  -- before a hangup nobody waits for room where there is a place that nobody was granted, or for a
  -- value where there is one
  abbrev pub NobodyWaitsForNothing : Type 0
  NobodyWaitsForNothing =
      AlwaysHolds (λ capacity handles past kept. kept.hung ≡ false
      → (kept.senders.waiting ≢ []
      → length kept.values + length kept.senders.granted ≡ capacity)
      × (kept.receivers.waiting ≢ []
      → length kept.values ≡ length kept.receivers.granted))

  -- the answer names this place to be woken, with the number of the last grant
  pub record IsNamed (entry : MessageEntry T) (after : Contents T) (place : ℕ) : Type 0 where
    pub named : named_by entry.reply ≡ Some (record { place = place; number = after.grants })

  -- whoever is granted room or a value is named to be woken by the answer that grants it
  abbrev pub EachGrantIsNamed : Type 0
  EachGrantIsNamed =
      EachCall (λ entry past before after. (place : ℕ)
      → (stands_in after.senders.granted place ≡ true
      → (stands_in before.senders.granted place ≡ true) ⊎ IsNamed entry after place)
      × (stands_in after.receivers.granted place ≡ true
      → (stands_in before.receivers.granted place ≡ true) ⊎ IsNamed entry after place))

  -- And that is enough: whoever is woken after it was told to wait with a number, by a grant or by
  -- the hangup, is woken with a number above it.
  abbrev pub WakersAreAbove : Type 0
  WakersAreAbove =
      (capacity handles : ℕ) (past since : List (MessageEntry T)) (waits : MessageEntry T)
      (number : ℕ)
      → IsLegal message_meaning (opening capacity handles) (since ++ waits ∷ past)
      → told_number waits.reply ≡ Some number
      → AllByRecursion (λ entry. IfSome (waking_number entry.reply) (λ above. number < above))
      since
