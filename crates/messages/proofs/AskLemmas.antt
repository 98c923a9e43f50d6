-- What a request of a handle is answered, and which Rendez the handle has.
use Rattle.std.proofs.Common.{◌≡◌, ◌≢◌, ◌<◌, ℕ, true, Option, None, Some, IfSome}
use Rattle.std.proofs.Common.{List, [], ◌∷◌, refl, sym, ap, ◌∙◌, subst, arith}
use Rattle.std.specs.List.{AllByRecursion}
use Rattle.histories.specs.History.{state_after, IsLegal}
use Rattle.kernel_lock.specs.Seats.{SeesHistory, Applies, served_by}
use Rattle.rendez_words.specs.declared.words.Words.{Words}
use Rattle.rendez_words.specs.Words.{rendez_of}
use Rattle.messages.specs.declared.channel.Channel.{Channel}
use Rattle.messages.specs.declared.message_object.MessageCall.{MessageCall}
use Rattle.messages.specs.declared.message_object.MessageCall.TheVariants.{Put, Take, LeaveSender}
use Rattle.messages.specs.declared.message_object.MessageCall.TheVariants.{LeaveReceiver, Hang}
use Rattle.messages.specs.declared.message_object.MessageCall.TheVariants.{Open, Close, Count}
use Rattle.messages.specs.declared.message_object.Side.{Side}
use Rattle.messages.specs.declared.message_object.Side.TheVariants.{Senders, Receivers}
use Rattle.messages.specs.declared.message_object.MessageReply.{MessageReply}
use Rattle.messages.specs.declared.message_object.MessageReply.TheVariants as reply
use Rattle.messages.specs.declared.message_object.Wake.{Wake}
use Rattle.messages.specs.Asking.{HandleSeat, IsQueueLock, IsTold}
use Rattle.messages.specs.Handles.{OwnsRow, rendez_of_place}
use Rattle.messages.specs.History.{MessageEntry, message_meaning, named_by, told_number}
use Rattle.messages.specs.MessageObject.{Contents, opening, answer_to, message_definition}
use Rattle.messages.specs.MessageObject.{first_woken}
use Rattle.messages.specs.Soundness.{IsSound}
use Rattle.messages.proofs.AnswerLemmas.{put_cases, put_cases_by, take_cases}
use Rattle.messages.proofs.CallLemmas.{told_is}
use Rattle.sync_base.specs.declared.limits.TheConstants.{TOP_LEVEL}
use Rattle.std.specs.Prelude.{⊤}
use Rattle.messages.proofs.AnswerLemmas.{take_cases_by, leave_sender_cases}
use Rattle.messages.proofs.AnswerLemmas.{leave_receiver_cases, hang_cases, open_cases, close_cases}
use Rattle.messages.proofs.LawLemmas.{history_keeps, not_both}

module _ {T : Type 0} where
  -- the Rendez of a place is among those of the kernel
  pub is_in_row : (channel : Channel T) (place : ℕ) (words : Words)
      → place < channel.handles → OwnsRow channel words
      → (rendez_of_place channel place).0 < rendez_of words
  is_in_row channel place words below row = omega (arith, below, row)

  -- the state that a request finds is what a legal history leaves
  pub told_in : (channel : Channel T) (call : MessageCall T) (answer : MessageReply T)
      (old new : HandleSeat T) → IsQueueLock channel.lock channel.handles
      → SeesHistory message_definition channel.lock new
      → Applies message_definition old call answer new → IsTold channel.handles call answer
  told_in channel call answer old new opened history served =
      let entry : MessageEntry T = served_by message_definition old call answer in
      let past = served.account.past in
      let at_first = opening opened.capacity channel.handles in
      let legal : IsLegal message_meaning at_first (entry ∷ past) =
      subst (λ s. IsLegal message_meaning s (entry ∷ past)) opened.opening_is
      (rw served.account.new_is at history.history.legal) in
      record {
        kept = state_after message_meaning at_first past;
        sound = (history_keeps opened.capacity channel.handles past legal.1).sound;
        told_is = legal.0.reply;
      }

-- ---- what each request may be answered

-- the place that the answer gives
abbrev pub place_in : {T : Type 0} → MessageReply T → Option ℕ
place_in (reply.Opened place) = Some place
place_in answer = None

-- whom a line names to be woken is at one of the places
first_there : (handles grants : ℕ) (xs : List ℕ)
    → AllByRecursion (λ place. place < handles) xs
    → IfSome (first_woken grants xs) (λ wake. wake.place < handles)
first_there handles grants [] are = tt
first_there handles grants (x ∷ xs) are = are.0

module _ {T : Type 0} (handles : ℕ) where
  abbrev IsThere : MessageReply T → Type 0
  IsThere answer = IfSome (named_by answer) (λ wake. wake.place < handles)

  there : (kept : Contents T) → IsSound handles kept → (call : MessageCall T)
      → IsThere (answer_to kept call)
  there kept sound (Put seat place value wait) =
      put_cases kept IsThere place value wait (λ is. tt)
      (λ is may. first_there handles kept.grants kept.receivers.waiting sound.receivers.among)
      (λ is full. tt) (λ is full may. tt) (λ is full. tt)
  there kept sound (Take seat place wait) =
      take_cases kept IsThere place wait
      (λ may value rest are.
      first_there handles kept.grants kept.senders.waiting sound.senders.among)
      (λ may none. tt) (λ empty is. tt) (λ empty is. tt) (λ empty is may. tt) (λ empty is. tt)
  there kept sound (LeaveSender seat place value) =
      leave_sender_cases kept IsThere place value (λ is. tt)
      (λ is has. first_there handles kept.grants kept.receivers.waiting sound.receivers.among)
      (λ is has_not. tt)
  there kept sound (LeaveReceiver seat place) =
      leave_receiver_cases kept IsThere place
      (λ has value rest are.
      first_there handles kept.grants kept.senders.waiting sound.senders.among)
      (λ has none. tt) (λ has_not. tt)
  there kept sound Hang = hang_cases kept IsThere (λ is. tt) (λ is. tt)
  there kept sound (Open Senders seat) =
      open_cases kept IsThere kept.senders
      (λ over. tt) (λ yet full. tt) (λ yet place rest are. tt)
  there kept sound (Open Receivers seat) =
      open_cases kept IsThere kept.receivers
      (λ over. tt) (λ yet full. tt) (λ yet place rest are. tt)
  there kept sound (Close Senders seat) =
      close_cases kept IsThere kept.senders seat
      (λ not. tt) (λ place at some. tt)
      (λ place at none on. tt)
      (λ place at none on. tt)
  there kept sound (Close Receivers seat) =
      close_cases kept IsThere kept.receivers seat
      (λ not. tt) (λ place at some. tt)
      (λ place at none on. tt)
      (λ place at none on. tt)
  there kept sound Count = tt

  -- whom an answer names to be woken is at one of the places
  pub named_is_there : (call : MessageCall T) (answer : MessageReply T)
      → IsTold handles call answer → IfSome (named_by answer) (λ wake. wake.place < handles)
  named_is_there call answer told =
      subst IsThere (sym told.told_is) (there told.kept told.sound call)

  -- whoever is to wait is told a number below that of the last level
  pub told_low : (call : MessageCall T) (answer : MessageReply T) → IsTold handles call answer
      → IfSome (told_number answer) (λ number. number < TOP_LEVEL)
  told_low call answer told = by (told_number answer) refl
    where
      by : (o : Option ℕ) → told_number answer ≡ o → IfSome o (λ number. number < TOP_LEVEL)
      by None is = tt
      by (Some number) is =
          let same = told_is told.kept call number (ap told_number (sym told.told_is) ∙ is) in
          let numbers = told.sound.numbers in
          omega (arith, same, numbers)

  -- a put that is to wait gives this value back, if it gives one back
  abbrev pub GivesBack : T → MessageReply T → Type 0
  GivesBack value (reply.Full back grants) = back ≡ value
  GivesBack value (reply.Hungup back) = back ≡ value
  GivesBack value (reply.Worn back) = back ≡ value
  GivesBack value answer = ⊤

  -- the value that comes back is the one that was to be put
  pub put_back : (seat place : ℕ) (value : T) (answer : MessageReply T)
      → IsTold handles (Put seat place value true) answer → GivesBack value answer
  put_back seat place value answer told =
      subst (GivesBack value) (sym told.told_is)
      (put_cases told.kept (GivesBack value) place value true (λ is. refl) (λ is may. tt)
      (λ is full. tt) (λ is full may. refl) (λ is full. refl))

  -- and it is answered that it was accepted, is full, hung up, or worn out
  pub put_never : (seat place : ℕ) (value : T) (answer : MessageReply T)
      → IsTold handles (Put seat place value true) answer
      → ((wake : Option Wake) → answer ≢ reply.Accepted wake)
      → ((back : T) (grants : ℕ) → answer ≢ reply.Full back grants)
      → ((back : T) → answer ≢ reply.Hungup back) → ((back : T) → answer ≢ reply.Worn back) → ⊥
  put_never seat place value answer told a b c d =
      put_cases_by told.kept (λ is. answer ≡ is → ⊥) place value true (λ hung. c value)
      (λ on may. a _) (λ on full to. absurd (not_both true refl to)) (λ on full may to. b value _)
      (λ on full to. d value) told.told_is

  -- a take that is to wait is answered with a value or the end, waits, or is worn out
  pub take_never : (seat place : ℕ) (answer : MessageReply T)
      → IsTold handles (Take seat place true) answer
      → ((value : T) (wake : Option Wake) → answer ≢ reply.Value value wake)
      → answer ≢ reply.End → ((grants : ℕ) → answer ≢ reply.Wait grants)
      → answer ≢ reply.WornOut → ⊥
  take_never seat place answer told a b c d =
      take_cases_by told.kept (λ is. answer ≡ is → ⊥) place true
      (λ may value rest are. a value _) (λ may none. b) (λ empty hung. b)
      (λ empty hung no. absurd (not_both true refl no)) (λ empty hung may to. c _)
      (λ empty hung to. d) told.told_is

  abbrev GivesPlace : MessageReply T → Type 0
  GivesPlace answer = IfSome (place_in answer) (λ place. place < handles)

  first_below : (kept : Contents T) → IsSound handles kept → (place : ℕ) (rest : List ℕ)
      → kept.free ≡ place ∷ rest → place < handles
  first_below kept sound place rest are =
      (subst (AllByRecursion (λ p. p < handles)) are sound.free).0

  -- the place of a seat that opens is one of them
  pub opened_below : (side : Side) (seat : ℕ) (answer : MessageReply T)
      → IsTold handles (Open side seat) answer → IfSome (place_in answer) (λ place. place < handles)
  opened_below Senders seat answer told =
      subst GivesPlace (sym told.told_is)
      (open_cases told.kept GivesPlace told.kept.senders (λ over. tt) (λ yet full. tt)
      (λ yet place rest are. first_below told.kept told.sound place rest are))
  opened_below Receivers seat answer told =
      subst GivesPlace (sym told.told_is)
      (open_cases told.kept GivesPlace told.kept.receivers (λ over. tt) (λ yet full. tt)
      (λ yet place rest are. first_below told.kept told.sound place rest are))

  -- a seat that opens is answered with a place, or that there is none
  pub open_never : (side : Side) (seat : ℕ) (answer : MessageReply T)
      → IsTold handles (Open side seat) answer
      → ((place : ℕ) → answer ≢ reply.Opened place) → answer ≢ reply.NoPlace → ⊥
  open_never Senders seat answer told a b =
      open_cases told.kept (λ is. answer ≡ is → ⊥) told.kept.senders (λ over. b)
      (λ yet full. b) (λ yet place rest are. a place) told.told_is
  open_never Receivers seat answer told a b =
      open_cases told.kept (λ is. answer ≡ is → ⊥) told.kept.receivers (λ over. b)
      (λ yet full. b) (λ yet place rest are. a place) told.told_is

  -- a seat that closes is answered with the end, or that others are open
  pub close_never : (side : Side) (seat : ℕ) (answer : MessageReply T)
      → IsTold handles (Close side seat) answer
      → ((number : ℕ) → answer ≢ reply.Hung number) → answer ≢ reply.HungBefore
      → answer ≢ reply.Closed → ⊥
  close_never Senders seat answer told a b c =
      close_cases told.kept (λ is. answer ≡ is → ⊥) told.kept.senders seat (λ not. c)
      (λ place at some. c) (λ place at none on. b) (λ place at none on. a _) told.told_is
  close_never Receivers seat answer told a b c =
      close_cases told.kept (λ is. answer ≡ is → ⊥) told.kept.receivers seat (λ not. c)
      (λ place at some. c) (λ place at none on. b) (λ place at none on. a _) told.told_is
