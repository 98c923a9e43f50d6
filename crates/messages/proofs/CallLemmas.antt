-- What the answer to one call tells of the queue that it found.
use Rattle.std.proofs.Common.{◌≡◌, ◌≤◌, ◌<◌, ◌⊎◌, inl, inr, ℕ, suc, ◌+◌, Bool, true, false, cond}
use Rattle.std.proofs.Common.{◌&&◌, ◌==◌, eqb}
use Rattle.std.proofs.lemmas.Bool.Decides.{nat_tests}
use Rattle.std.proofs.Common.{List, [], ◌∷◌, ◌++◌, length, nat_lt, Option, None, Some, IfSome}
use Rattle.std.proofs.Common.{refl, sym, ap, ◌∙◌, subst, arith}
use Rattle.std.specs.List.{AllByRecursion}
use Rattle.histories.specs.History.{state_after, IsLegal}
use Rattle.messages.specs.declared.message_object.MessageCall.{MessageCall}
use Rattle.messages.specs.declared.message_object.MessageCall.TheVariants.{Put, Take, LeaveSender}
use Rattle.messages.specs.declared.message_object.MessageCall.TheVariants.{LeaveReceiver, Hang}
use Rattle.messages.specs.declared.message_object.MessageCall.TheVariants.{Open, Close, Count}
use Rattle.messages.specs.declared.line.OpenSeat.{OpenSeat}
use Rattle.messages.specs.declared.message_object.Side.{Side}
use Rattle.messages.specs.declared.message_object.Side.TheVariants.{Senders, Receivers}
use Rattle.messages.specs.declared.message_object.MessageReply.{MessageReply}
use Rattle.messages.specs.declared.message_object.MessageReply.TheVariants as reply
use Rattle.messages.specs.History.{MessageEntry, message_meaning, sent_by, told_number}
use Rattle.messages.specs.History.{waking_number, number_in, IsOver, open_seats}
use Rattle.messages.specs.Lines.{Waiters, stands_in, in_line, joined, served, first_served}
use Rattle.messages.specs.Lines.{closed, place_of, seats_of, without}
use Rattle.messages.specs.MessageLaws.{IsNamed}
use Rattle.messages.specs.MessageObject.{Contents, opening, answer_to, after_reply, wake_of}
use Rattle.messages.specs.MessageObject.{first_woken, has_closed, one_more}
use Rattle.messages.specs.Soundness.{IsSound}
use Rattle.messages.proofs.AnswerLemmas.{put_cases, take_cases, leave_sender_cases}
use Rattle.messages.proofs.AnswerLemmas.{leave_receiver_cases, hang_cases, open_cases, close_cases}
use Rattle.messages.proofs.LawLemmas.{EndKept, none_there, not_both, or_right}
use Rattle.messages.proofs.LineLemmas.{stood_before, stood_or_joined, leaves, seats_length}
use Rattle.messages.proofs.SoundLemmas.{has_value, neither}

-- ---- one side

-- whoever is granted something is named, with the number of the grant
served_named : (line : Waiters) (grants seat : ℕ) → stands_in (served line).granted seat ≡ true
    → (stands_in line.granted seat ≡ true) ⊎ (wake_of line grants ≡
    Some (record { place = seat; number = one_more grants line.waiting }))
served_named line grants seat is = by line.waiting is
  where
    by : (xs : List ℕ) → stands_in (first_served line xs).granted seat ≡ true
        → (stands_in line.granted seat ≡ true) ⊎ (first_woken grants xs ≡
        Some (record { place = seat; number = one_more grants xs }))
    by [] is = inl is
    by (x ∷ xs) is = joined (stood_or_joined line.granted x seat is)
      where
        joined : (stands_in line.granted seat ≡ true) ⊎ (x ≡ seat)
            → (stands_in line.granted seat ≡ true) ⊎ (first_woken grants (x ∷ xs) ≡
            Some (record { place = seat; number = one_more grants (x ∷ xs) }))
        joined (inl before) = inl before
        joined (inr same) =
            inr (ap (λ s. Some (record { place = s; number = suc grants })) same)

-- who joins the line is granted nothing
same_granted : (line : Waiters) (other seat : ℕ)
    → stands_in (in_line other line).granted seat ≡ true → stands_in line.granted seat ≡ true
same_granted line other seat = by (stands_in line.waiting other)
  where
    by : (there : Bool) → stands_in (cond there line (joined other line)).granted seat ≡ true
        → stands_in line.granted seat ≡ true
    by true has = has
    by false has = has

-- its number is above each before it
woken_above : (grants : ℕ) (xs : List ℕ)
    → IfSome (number_in (first_woken grants xs)) (λ number. grants < number)
woken_above grants [] = tt
woken_above grants (x ∷ xs) = omega arith

grants_grow : (grants : ℕ) (xs : List ℕ) → grants ≤ one_more grants xs
grants_grow grants [] = omega arith
grants_grow grants (x ∷ xs) = omega arith

if_above : (less more : ℕ) → less ≤ more → (o : Option ℕ) → IfSome o (λ n. more < n)
    → IfSome o (λ n. less < n)
if_above less more most None is = tt
if_above less more most (Some n) is = omega (arith, most, is)

-- ---- one call

module _ {T : Type 0} (kept : Contents T) where
  -- a queue that is hung up accepts nothing
  pub none_accepted : kept.hung ≡ true → (call : MessageCall T)
      → sent_by call (answer_to kept call) ≡ []
  none_accepted hung (Put seat place value wait) =
      put_cases kept (λ answer. sent_by (Put seat place value wait) answer ≡ []) place value wait
      (λ is. refl) (λ is may. absurd (not_both kept.hung hung is)) (λ is full. refl)
      (λ is full may. refl) (λ is full. refl)
  none_accepted hung (Take seat place wait) =
      take_cases kept (λ answer. sent_by (Take seat place wait) answer ≡ []) place wait
      (λ may value rest are. refl) (λ may none. refl) (λ empty is. refl) (λ empty is. refl)
      (λ empty is may. refl) (λ empty is. refl)
  none_accepted hung (LeaveSender seat place value) =
      leave_sender_cases kept (λ answer. sent_by (LeaveSender seat place value) answer ≡ []) place
      value
      (λ is. refl) (λ is has. absurd (not_both kept.hung hung is)) (λ is has_not. refl)
  none_accepted hung (LeaveReceiver seat place) =
      leave_receiver_cases kept (λ answer. sent_by (LeaveReceiver seat place) answer ≡ []) place
      (λ has value rest are. refl) (λ has none. refl) (λ has_not. refl)
  none_accepted hung Hang =
      hang_cases kept (λ answer. sent_by Hang answer ≡ []) (λ is. refl) (λ is. refl)
  none_accepted hung (Open Senders seat) =
      open_cases kept (λ answer. sent_by (Open Senders seat) answer ≡ []) kept.senders
      (λ over. refl) (λ yet full. refl) (λ yet place rest are. refl)
  none_accepted hung (Open Receivers seat) =
      open_cases kept (λ answer. sent_by (Open Receivers seat) answer ≡ []) kept.receivers
      (λ over. refl) (λ yet full. refl) (λ yet place rest are. refl)
  none_accepted hung (Close Senders seat) =
      close_cases kept (λ answer. sent_by (Close Senders seat) answer ≡ []) kept.senders seat
      (λ not. refl) (λ place at some. refl)
      (λ place at none on. refl)
      (λ place at none on. refl)
  none_accepted hung (Close Receivers seat) =
      close_cases kept (λ answer. sent_by (Close Receivers seat) answer ≡ []) kept.receivers seat
      (λ not. refl) (λ place at some. refl)
      (λ place at none on. refl)
      (λ place at none on. refl)
  none_accepted hung Count = refl

  -- a queue that refused a value as hung up was
  pub refused_hung : (call : MessageCall T) (back : T) → answer_to kept call ≡ reply.Hungup back
      → kept.hung ≡ true
  refused_hung (Put seat place value wait) back =
      put_cases kept (λ answer. answer ≡ reply.Hungup back → kept.hung ≡ true) place value wait
      (λ is not. is) (λ is may not. cc) (λ is full not. cc) (λ is full may not. cc)
      (λ is full not. cc)
  refused_hung (Take seat place wait) back =
      take_cases kept (λ answer. answer ≡ reply.Hungup back → kept.hung ≡ true) place wait
      (λ may value rest are not. cc) (λ may none not. cc) (λ empty is not. is)
      (λ empty is not. cc) (λ empty is may not. cc) (λ empty is not. cc)
  refused_hung (LeaveSender seat place value) back =
      leave_sender_cases kept (λ answer. answer ≡ reply.Hungup back → kept.hung ≡ true) place value
      (λ is not. is) (λ is has not. cc) (λ is has_not not. cc)
  refused_hung (LeaveReceiver seat place) back =
      leave_receiver_cases kept (λ answer. answer ≡ reply.Hungup back → kept.hung ≡ true) place
      (λ has value rest are not. cc) (λ has none not. cc) (λ has_not not. cc)
  refused_hung Hang back =
      hang_cases kept (λ answer. answer ≡ reply.Hungup back → kept.hung ≡ true)
      (λ is not. is) (λ is not. cc)
  refused_hung (Open Senders seat) back =
      open_cases kept (λ answer. answer ≡ reply.Hungup back → kept.hung ≡ true) kept.senders
      (λ over is. cc) (λ yet full is. cc) (λ yet place rest are is. cc)
  refused_hung (Open Receivers seat) back =
      open_cases kept (λ answer. answer ≡ reply.Hungup back → kept.hung ≡ true) kept.receivers
      (λ over is. cc) (λ yet full is. cc) (λ yet place rest are is. cc)
  refused_hung (Close Senders seat) back =
      close_cases kept (λ answer. answer ≡ reply.Hungup back → kept.hung ≡ true) kept.senders seat
      (λ not is. cc) (λ place at some is. cc)
      (λ place at none on is. cc)
      (λ place at none on is. cc)
  refused_hung (Close Receivers seat) back =
      close_cases kept (λ answer. answer ≡ reply.Hungup back → kept.hung ≡ true) kept.receivers seat
      (λ not is. cc) (λ place at some is. cc)
      (λ place at none on is. cc)
      (λ place at none on is. cc)
  refused_hung Count back = λ is. cc

  -- at the end the queue is hung up, and each value that it has was granted
  pub ended : (handles : ℕ) → IsSound handles kept → (call : MessageCall T)
      → answer_to kept call ≡ reply.End
      → (kept.hung ≡ true) × (length kept.values ≤ length kept.receivers.granted)
  ended handles sound (Put seat place value wait) =
      put_cases kept (λ answer. answer ≡ reply.End → (kept.hung ≡ true)
      × (length kept.values ≤ length kept.receivers.granted)) place value wait
      (λ is not. cc) (λ is may not. cc) (λ is full not. cc) (λ is full may not. cc)
      (λ is full not. cc)
  ended handles sound (Take seat place wait) =
      take_cases kept (λ answer. answer ≡ reply.End → (kept.hung ≡ true)
      × (length kept.values ≤ length kept.receivers.granted)) place wait
      (λ may value rest are not. cc)
      (λ may none is. absurd (has_value handles kept sound place may none))
      (λ empty hung is. (
        hung,
        (neither (length kept.receivers.granted) (length kept.values) _ empty).0,
      ))
      (λ empty is not. cc) (λ empty is may not. cc) (λ empty is not. cc)
  ended handles sound (LeaveSender seat place value) =
      leave_sender_cases kept (λ answer. answer ≡ reply.End → (kept.hung ≡ true)
      × (length kept.values ≤ length kept.receivers.granted)) place value
      (λ is not. cc) (λ is has not. cc) (λ is has_not not. cc)
  ended handles sound (LeaveReceiver seat place) =
      leave_receiver_cases kept (λ answer. answer ≡ reply.End → (kept.hung ≡ true)
      × (length kept.values ≤ length kept.receivers.granted)) place
      (λ has value rest are not. cc)
      (λ has none is. absurd (has_value handles kept sound place
      (or_right (nat_lt (length kept.receivers.granted) (length kept.values)) _ has) none))
      (λ has_not not. cc)
  ended handles sound Hang =
      hang_cases kept (λ answer. answer ≡ reply.End → (kept.hung ≡ true)
      × (length kept.values ≤ length kept.receivers.granted)) (λ is not. cc) (λ is not. cc)
  ended handles sound (Open Senders seat) =
      open_cases kept (λ answer. answer ≡ reply.End → (kept.hung ≡ true)
      × (length kept.values ≤ length kept.receivers.granted)) kept.senders
      (λ over is. cc) (λ yet full is. cc) (λ yet place rest are is. cc)
  ended handles sound (Open Receivers seat) =
      open_cases kept (λ answer. answer ≡ reply.End → (kept.hung ≡ true)
      × (length kept.values ≤ length kept.receivers.granted)) kept.receivers
      (λ over is. cc) (λ yet full is. cc) (λ yet place rest are is. cc)
  ended handles sound (Close Senders seat) =
      close_cases kept (λ answer. answer ≡ reply.End → (kept.hung ≡ true)
      × (length kept.values ≤ length kept.receivers.granted)) kept.senders seat
      (λ not is. cc) (λ place at some is. cc)
      (λ place at none on is. cc)
      (λ place at none on is. cc)
  ended handles sound (Close Receivers seat) =
      close_cases kept (λ answer. answer ≡ reply.End → (kept.hung ≡ true)
      × (length kept.values ≤ length kept.receivers.granted)) kept.receivers seat
      (λ not is. cc) (λ place at some is. cc)
      (λ place at none on is. cc)
      (λ place at none on is. cc)
  ended handles sound Count = λ is. cc

  -- the first hangup finds a queue that is not hung up
  pub first_hung : (call : MessageCall T) (number : ℕ)
      → answer_to kept call ≡ reply.Hung number → kept.hung ≡ false
  first_hung (Put seat place value wait) number =
      put_cases kept (λ answer. answer ≡ reply.Hung number → kept.hung ≡ false) place value wait
      (λ is not. cc) (λ is may not. is) (λ is full not. is) (λ is full may not. is)
      (λ is full not. is)
  first_hung (Take seat place wait) number =
      take_cases kept (λ answer. answer ≡ reply.Hung number → kept.hung ≡ false) place wait
      (λ may value rest are not. cc) (λ may none not. cc) (λ empty is not. cc)
      (λ empty is not. is) (λ empty is may not. is) (λ empty is not. is)
  first_hung (LeaveSender seat place value) number =
      leave_sender_cases kept (λ answer. answer ≡ reply.Hung number → kept.hung ≡ false)
      place value (λ is not. cc) (λ is has not. is) (λ is has_not not. is)
  first_hung (LeaveReceiver seat place) number =
      leave_receiver_cases kept (λ answer. answer ≡ reply.Hung number → kept.hung ≡ false) place
      (λ has value rest are not. cc) (λ has none not. cc) (λ has_not not. cc)
  first_hung Hang number =
      hang_cases kept (λ answer. answer ≡ reply.Hung number → kept.hung ≡ false)
      (λ is not. cc) (λ is not. is)
  first_hung (Open Senders seat) number =
      open_cases kept (λ answer. answer ≡ reply.Hung number → kept.hung ≡ false) kept.senders
      (λ over is. cc) (λ yet full is. cc) (λ yet place rest are is. cc)
  first_hung (Open Receivers seat) number =
      open_cases kept (λ answer. answer ≡ reply.Hung number → kept.hung ≡ false) kept.receivers
      (λ over is. cc) (λ yet full is. cc) (λ yet place rest are is. cc)
  first_hung (Close Senders seat) number =
      close_cases kept (λ answer. answer ≡ reply.Hung number → kept.hung ≡ false) kept.senders seat
      (λ not is. cc) (λ place at some is. cc)
      (λ place at none on is. cc)
      (λ place at none on is. on)
  first_hung (Close Receivers seat) number =
      close_cases kept (λ answer. answer ≡ reply.Hung number →
      kept.hung ≡ false) kept.receivers seat
      (λ not is. cc) (λ place at some is. cc)
      (λ place at none on is. cc)
      (λ place at none on is. on)
  first_hung Count number = λ is. cc

  -- ---- who waits, and who is woken

  -- a seat that was granted something before, or that the answer names
  abbrev pub WasNamed : ℕ → MessageEntry T → Contents T → Type 0
  WasNamed seat entry after =
      (stands_in after.senders.granted seat ≡ true
      → (stands_in kept.senders.granted seat ≡ true) ⊎ IsNamed T entry after seat)
      × (stands_in after.receivers.granted seat ≡ true
      → (stands_in kept.receivers.granted seat ≡ true) ⊎ IsNamed T entry after seat)

  abbrev AnswerNamed : ℕ → MessageCall T → ℕ → MessageReply T → Type 0
  AnswerNamed by call seat answer =
      WasNamed seat (record { by = by; request = call; reply = answer })
      (after_reply kept call answer)

  named_too : {A B C : Type 0} → (B → C) → A ⊎ B → A ⊎ C
  named_too f (inl a) = inl a
  named_too f (inr b) = inr (f b)

  -- each call names whom it grants something
  pub grant_named : (by seat : ℕ) (call : MessageCall T)
      → AnswerNamed by call seat (answer_to kept call)
  grant_named by seat (Put of other value wait) =
      put_cases kept (AnswerNamed by (Put of other value wait) seat) other value wait
      (λ is. ((λ has. inl (stood_before kept.senders.granted other seat has)), λ has. inl has))
      (λ is may. (
        (λ has. inl (stood_before kept.senders.granted other seat has)),
        λ has. named_too (λ named. record { named = named })
            (served_named kept.receivers kept.grants seat has),
      ))
      (λ is full. ((λ has. inl has), λ has. inl has))
      (λ is full may. ((λ has. inl (same_granted kept.senders other seat has)), λ has. inl has))
      (λ is full. ((λ has. inl has), λ has. inl has))
  grant_named by seat (Take of other wait) =
      take_cases kept (AnswerNamed by (Take of other wait) seat) other wait
      (λ may value rest are. (
        (λ has. named_too (λ named. record { named = named })
            (served_named kept.senders kept.grants seat has)),
        λ has. inl (stood_before kept.receivers.granted other seat has),
      ))
      (λ may none. (
        (λ has. inl has),
        λ has. inl (stood_before kept.receivers.granted other seat has),
      ))
      (λ empty is. (
        (λ has. inl has),
        λ has. inl (stood_before kept.receivers.granted other seat has),
      ))
      (λ empty is. ((λ has. inl has), λ has. inl has))
      (λ empty is may. (
        (λ has. inl has),
        λ has. inl (same_granted kept.receivers other seat has),
      ))
      (λ empty is. ((λ has. inl has), λ has. inl has))
  grant_named by seat (LeaveSender of other value) =
      leave_sender_cases kept (AnswerNamed by (LeaveSender of other value) seat) other value
      (λ is. ((λ has. inl (stood_before kept.senders.granted other seat has)), λ has. inl has))
      (λ is may. (
        (λ has. inl (stood_before kept.senders.granted other seat has)),
        λ has. named_too (λ named. record { named = named })
            (served_named kept.receivers kept.grants seat has),
      ))
      (λ is full. (
        (λ has. inl (stood_before kept.senders.granted other seat has)),
        λ has. inl has,
      ))
  grant_named by seat (LeaveReceiver of other) =
      leave_receiver_cases kept (AnswerNamed by (LeaveReceiver of other) seat) other
      (λ may value rest are. (
        (λ has. named_too (λ named. record { named = named })
            (served_named kept.senders kept.grants seat has)),
        λ has. inl (stood_before kept.receivers.granted other seat has),
      ))
      (λ may none. (
        (λ has. inl has),
        λ has. inl (stood_before kept.receivers.granted other seat has),
      ))
      (λ has_not. (
        (λ has. inl has),
        λ has. inl (stood_before kept.receivers.granted other seat has),
      ))
  grant_named by seat Hang =
      hang_cases kept (AnswerNamed by Hang seat) (λ is. ((λ has. inl has), λ has. inl has))
      (λ is. ((λ has. inl has), λ has. inl has))
  grant_named by seat (Open Senders other) =
      open_cases kept (AnswerNamed by (Open Senders other) seat) kept.senders
      (λ over. ((λ has. inl has), λ has. inl has)) (λ yet full. ((λ has. inl has), λ has. inl has))
      (λ yet place rest are. ((λ has. inl has), λ has. inl has))
  grant_named by seat (Open Receivers other) =
      open_cases kept (AnswerNamed by (Open Receivers other) seat) kept.receivers
      (λ over. ((λ has. inl has), λ has. inl has)) (λ yet full. ((λ has. inl has), λ has. inl has))
      (λ yet place rest are. ((λ has. inl has), λ has. inl has))
  grant_named by seat (Close Senders other) =
      close_cases kept (AnswerNamed by (Close Senders other) seat) kept.senders other
      (λ not. ((λ has. inl has), λ has. inl has)) (λ place at some. (
        (λ has. inl has),
        λ has. inl
            has,
      ))
      (λ place at none on. ((λ has. inl has), λ has. inl has))
      (λ place at none on. ((λ has. inl has), λ has. inl has))
  grant_named by seat (Close Receivers other) =
      close_cases kept (AnswerNamed by (Close Receivers other) seat) kept.receivers other
      (λ not. ((λ has. inl has), λ has. inl has)) (λ place at some. (
        (λ has. inl has),
        λ has. inl
            has,
      ))
      (λ place at none on. ((λ has. inl has), λ has. inl has))
      (λ place at none on. ((λ has. inl has), λ has. inl has))
  grant_named by seat Count = ((λ has. inl has), λ has. inl has)

  -- whoever has to wait is told how many grants were made
  pub told_is : (call : MessageCall T) (number : ℕ)
      → told_number (answer_to kept call) ≡ Some number → number ≡ kept.grants
  told_is (Put seat place value wait) number =
      put_cases kept (λ answer. told_number answer ≡ Some number → number ≡ kept.grants)
      place value wait (λ is not. cc) (λ is may not. cc) (λ is full not. cc)
      (λ is full may told. cc) (λ is full not. cc)
  told_is (Take seat place wait) number =
      take_cases kept (λ answer. told_number answer ≡ Some number → number ≡ kept.grants) place wait
      (λ may value rest are not. cc) (λ may none not. cc) (λ empty is not. cc)
      (λ empty is not. cc) (λ empty is may told. cc) (λ empty is not. cc)
  told_is (LeaveSender seat place value) number =
      leave_sender_cases kept (λ answer. told_number answer ≡ Some number → number ≡ kept.grants)
      place value (λ is not. cc) (λ is has not. cc) (λ is has_not not. cc)
  told_is (LeaveReceiver seat place) number =
      leave_receiver_cases kept (λ answer. told_number answer ≡ Some number
      → number ≡ kept.grants) place
      (λ has value rest are not. cc) (λ has none not. cc) (λ has_not not. cc)
  told_is Hang number =
      hang_cases kept (λ answer. told_number answer ≡ Some number → number ≡ kept.grants)
      (λ is not. cc) (λ is not. cc)
  told_is (Open Senders seat) number =
      open_cases kept (λ answer. told_number answer ≡ Some number →
      number ≡ kept.grants) kept.senders
      (λ over is. cc) (λ yet full is. cc) (λ yet place rest are is. cc)
  told_is (Open Receivers seat) number =
      open_cases kept (λ answer. told_number answer ≡ Some number →
      number ≡ kept.grants) kept.receivers
      (λ over is. cc) (λ yet full is. cc) (λ yet place rest are is. cc)
  told_is (Close Senders seat) number =
      close_cases kept (λ answer. told_number answer ≡ Some number →
      number ≡ kept.grants) kept.senders seat
      (λ not is. cc) (λ place at some is. cc)
      (λ place at none on is. cc)
      (λ place at none on is. cc)
  told_is (Close Receivers seat) number =
      close_cases kept (λ answer. told_number answer ≡ Some number →
      number ≡ kept.grants) kept.receivers seat
      (λ not is. cc) (λ place at some is. cc)
      (λ place at none on is. cc)
      (λ place at none on is. cc)
  told_is Count number = λ is. cc

  -- no number comes twice: the grants grow, and who is woken has a greater number
  pub record GrowsTo (call : MessageCall T) (answer : MessageReply T) : Type 0 where
    -- no grant is taken back
    pub grants : kept.grants ≤ (after_reply kept call answer).grants
    -- who is woken has a number above those
    pub above : IfSome (waking_number answer) (λ number. kept.grants < number)

  still : (call : MessageCall T) (answer : MessageReply T)
      → (after_reply kept call answer).grants ≡ kept.grants → waking_number answer ≡ None
      → GrowsTo call answer
  still call answer same none =
      record {
        grants = omega (arith, same);
        above = subst (λ o. IfSome o (λ number. kept.grants < number)) (sym none) tt;
      }

  -- so it is of each call
  pub grows : (call : MessageCall T) → GrowsTo call (answer_to kept call)
  grows (Put seat place value wait) =
      put_cases kept (GrowsTo (Put seat place value wait)) place value wait
      (λ is. still _ _ refl refl)
      (λ is may. record {
        grants = grants_grow kept.grants kept.receivers.waiting;
        above = woken_above kept.grants kept.receivers.waiting;
      })
      (λ is full. still _ _ refl refl) (λ is full may. still _ _ refl refl)
      (λ is full. still _ _ refl refl)
  grows (Take seat place wait) =
      take_cases kept (GrowsTo (Take seat place wait)) place wait
      (λ may value rest are. record {
        grants = grants_grow kept.grants kept.senders.waiting;
        above = woken_above kept.grants kept.senders.waiting;
      })
      (λ may none. still _ _ refl refl) (λ empty is. still _ _ refl refl)
      (λ empty is. still _ _ refl refl) (λ empty is may. still _ _ refl refl)
      (λ empty is. still _ _ refl refl)
  grows (LeaveSender seat place value) =
      leave_sender_cases kept (GrowsTo (LeaveSender seat place value)) place value
      (λ is. still _ _ refl refl)
      (λ is has. record {
        grants = grants_grow kept.grants kept.receivers.waiting;
        above = woken_above kept.grants kept.receivers.waiting;
      })
      (λ is has_not. still _ _ refl refl)
  grows (LeaveReceiver seat place) =
      leave_receiver_cases kept (GrowsTo (LeaveReceiver seat place)) place
      (λ has value rest are. record {
        grants = grants_grow kept.grants kept.senders.waiting;
        above = woken_above kept.grants kept.senders.waiting;
      })
      (λ has none. still _ _ refl refl) (λ has_not. still _ _ refl refl)
  grows Hang =
      hang_cases kept (GrowsTo Hang) (λ is. still _ _ refl refl)
      (λ is. record { grants = omega arith; above = omega arith })
  grows (Open Senders seat) =
      open_cases kept (GrowsTo (Open Senders seat)) kept.senders
      (λ over. still _ _ refl refl) (λ yet full. still _ _ refl refl) (λ yet place rest are. still _
      _ refl refl)
  grows (Open Receivers seat) =
      open_cases kept (GrowsTo (Open Receivers seat)) kept.receivers
      (λ over. still _ _ refl refl) (λ yet full. still _ _ refl refl) (λ yet place rest are. still _
      _ refl refl)
  grows (Close Senders seat) =
      close_cases kept (GrowsTo (Close Senders seat)) kept.senders seat
      (λ not. still _ _ refl refl) (λ place at some. still _ _ refl refl)
      (λ place at none on. still _ _ refl refl)
      (λ place at none on. record { grants = omega arith; above = omega arith })
  grows (Close Receivers seat) =
      close_cases kept (GrowsTo (Close Receivers seat)) kept.receivers seat
      (λ not. still _ _ refl refl) (λ place at some. still _ _ refl refl)
      (λ place at none on. still _ _ refl refl)
      (λ place at none on. record { grants = omega arith; above = omega arith })
  grows Count = still _ _ refl refl

-- ---- who is open

-- the first of two tests that hold
first_of_both : (a b : Bool) → (a && b) ≡ true → a ≡ true
first_of_both true b is = refl
first_of_both false b is = cc

second_of_both : (a b : Bool) → (a && b) ≡ true → b ≡ true
second_of_both true b is = is
second_of_both false b is = cc

abbrev none_of : ℕ → List ℕ
none_of seat = []

-- whoever closes as the last one leaves nobody
nobody_left : (opened : List OpenSeat) (seat handles : ℕ)
    → AllByRecursion (λ one. one.place < handles) opened → seats_of opened ≡ seat ∷ []
    → (place_of seat opened ≡ None → ⊥) × (length (closed seat opened) ≡ 0)
nobody_left opened seat handles placed only =
    let left = leaves (λ one. one.place < handles) opened seat placed in
    let found : eqb seat seat ≡ true = grind (arith, nat_tests) in
    let alone : without seat (seat ∷ []) ≡ [] = ap (λ b. cond b (none_of seat) (seat ∷ [])) found in
    let gone : seats_of (closed seat opened) ≡ [] = left.seats ∙ ap (without seat) only ∙ alone in
    let none = sym (seats_length (closed seat opened)) ∙ ap (λ (l : List ℕ). length l) gone in
    let one = sym (seats_length opened) ∙ ap (λ (l : List ℕ). length l) only in (
      (λ not. let same = left.was_not not in omega (arith, none, one, same)),
      none,
    )

module _ {T : Type 0} (handles : ℕ) (kept : Contents T) (past : List (MessageEntry T))
    (sound : IsSound handles kept) (ends : EndKept past kept) where
  -- the last seat of a side that closes is told the number of the end
  pub last_wakes : (side : Side) (seat : ℕ) → open_seats side past ≡ seat ∷ [] → (¬ IsOver past)
      → answer_to kept (Close side seat) ≡ reply.Hung (suc kept.grants)
  last_wakes Senders seat only on =
      let left = nobody_left kept.senders.opened seat handles sound.senders.placed
      (ends.0 ∙ only) in
      let none = left.1 in
      close_cases kept (λ answer. answer ≡ reply.Hung (suc kept.grants)) kept.senders seat
      (λ not. absurd (left.0 not)) (λ place at some. absurd (grind (arith, nat_tests, some, none)))
      (λ place at none hung. absurd (on (ends.1.1.1.1.0 hung))) (λ place at none hung. refl)
  last_wakes Receivers seat only on =
      let left = nobody_left kept.receivers.opened seat handles sound.receivers.placed
      (ends.1.0 ∙ only) in
      let none = left.1 in
      close_cases kept (λ answer. answer ≡ reply.Hung (suc kept.grants)) kept.receivers seat
      (λ not. absurd (left.0 not)) (λ place at some. absurd (grind (arith, nat_tests, some, none)))
      (λ place at none hung. absurd (on (ends.1.1.1.1.0 hung))) (λ place at none hung. refl)

  -- each place has an open seat, or none of this side is open any more
  abbrev IsRefused : Side → Type 0
  IsRefused side =
      (length (open_seats Senders past) + length (open_seats Receivers past) ≡ kept.senders.seats)
      ⊎ (IsOver past × (open_seats side past ≡ []))

  -- where no place is free each has an open seat
  full : (side : Side) → kept.free ≡ [] → IsRefused side
  full side none =
      let places = sound.places in
      let seats = sound.senders.seats_are in
      let empty = ap (λ (l : List ℕ). length l) none in
      let senders = sym (seats_length kept.senders.opened)
      ∙ ap (λ (l : List ℕ). length l) ends.0 in
      let receivers = sym (seats_length kept.receivers.opened)
      ∙ ap (λ (l : List ℕ). length l) ends.1.0 in
      inl (omega (arith, places, seats, empty, senders, receivers))

  -- where a side has closed none of it is open
  closed_side : (line : Waiters) (shown : List ℕ) → seats_of line.opened ≡ shown
      → has_closed kept line ≡ true → IsOver past × (shown ≡ [])
  closed_side line shown same is =
      let none : length line.opened ≡ 0 =
      grind (arith, nat_tests, second_of_both kept.hung (length line.opened == 0) is) in
      let long = sym (ap (λ (l : List ℕ). length l) same) ∙ seats_length line.opened in
      (ends.1.1.1.1.0 (first_of_both kept.hung _ is), none_there shown (omega (arith, none, long)))

  -- so a seat is refused only there
  pub no_place : (side : Side) (seat : ℕ) → answer_to kept (Open side seat) ≡ reply.NoPlace
      → IsRefused side
  no_place Senders seat =
      open_cases kept (λ answer. answer ≡ reply.NoPlace → IsRefused Senders) kept.senders
      (λ over is. inr (closed_side kept.senders (open_seats Senders past) ends.0 over))
      (λ yet none is. full Senders none) (λ yet place rest are not. cc)
  no_place Receivers seat =
      open_cases kept (λ answer. answer ≡ reply.NoPlace → IsRefused Receivers) kept.receivers
      (λ over is. inr (closed_side kept.receivers (open_seats Receivers past) ends.1.0 over))
      (λ yet none is. full Receivers none) (λ yet place rest are not. cc)

-- ---- a history

module _ {T : Type 0} (capacity handles : ℕ) (past : List (MessageEntry T))
    (waits : MessageEntry T) (number : ℕ) where
  -- after a call that was told to wait, the grants are no fewer than it was told, and each number
  -- with which somebody is woken is above that
  pub above_all : (since : List (MessageEntry T))
      → IsLegal message_meaning (opening capacity handles) (since ++ waits ∷ past)
      → told_number waits.reply ≡ Some number
      → (number ≤ (state_after message_meaning (opening capacity handles)
      (since ++ waits ∷ past)).grants)
      × AllByRecursion (λ entry. IfSome (waking_number entry.reply) (λ above. number < above))
      since
  above_all [] legal told =
      let kept = state_after message_meaning (opening capacity handles) past in
      let is = told_is kept waits.request number
      (ap told_number (sym legal.0.reply) ∙ told) in
      let more = (grows kept waits.request).grants in
      (omega (arith, is, more), tt)
  above_all (entry ∷ since) legal told =
      let kept = state_after message_meaning (opening capacity handles) (since ++ waits ∷ past) in
      let before = above_all since legal.1 told in
      let most = before.0 in
      let grown = grows kept entry.request in
      let more = grown.grants in
      let above = subst (λ answer. IfSome (waking_number answer) (λ n. kept.grants < n))
      (sym legal.0.reply) grown.above in (
        omega (arith, most, more),
        (if_above number kept.grants most (waking_number entry.reply) above, before.1),
      )
