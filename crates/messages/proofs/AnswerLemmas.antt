-- What a call may be answered, case by case.
use Rattle.std.proofs.Common.{◌≡◌, ℕ, suc, Bool, true, false, List, [], ◌∷◌, cond, refl}
use Rattle.std.proofs.Common.{Option, None, Some, length, nat_lt}
use Rattle.messages.specs.declared.message_object.MessageReply.{MessageReply}
use Rattle.messages.specs.declared.message_object.MessageReply.TheVariants as reply
use Rattle.messages.specs.Lines.{stands_in}
use Rattle.messages.specs.MessageObject.{Contents, can_put, can_take, may_wait, wake_of, given}
use Rattle.messages.specs.MessageObject.{answer_put, answer_take, answer_leave_sender}
use Rattle.messages.specs.MessageObject.{answer_leave_receiver, answer_hang, answer_open}
use Rattle.messages.specs.MessageObject.{answer_close, if_open, has_closed, given_place}
use Rattle.messages.specs.Lines.{Waiters, place_of, closed}

module _ {T : Type 0} (kept : Contents T) (P : MessageReply T → Type 0) where
  -- what holds of each answer to a put, by whether it is to wait
  pub put_cases_by : (seat : ℕ) (value : T) (wait : Bool)
      → (kept.hung ≡ true → P (reply.Hungup value))
      → (kept.hung ≡ false → can_put kept seat ≡ true
      → P (reply.Accepted (wake_of kept.receivers kept.grants)))
      → (kept.hung ≡ false → can_put kept seat ≡ false → wait ≡ false → P (reply.NotNow value))
      → (kept.hung ≡ false → can_put kept seat ≡ false → may_wait kept kept.senders seat ≡ true
      → wait ≡ true → P (reply.Full value kept.grants))
      → (kept.hung ≡ false → can_put kept seat ≡ false → wait ≡ true → P (reply.Worn value))
      → P (answer_put kept seat value wait)
  put_cases_by seat value wait hungup accepts not_now full worn =
      by kept.hung refl (can_put kept seat) refl wait refl (may_wait kept kept.senders seat) refl
    where
      by : (hung : Bool) → kept.hung ≡ hung → (can : Bool) → can_put kept seat ≡ can
          → (waits : Bool) → wait ≡ waits → (may : Bool) → may_wait kept kept.senders seat ≡ may
          → P (cond hung (reply.Hungup value)
          (cond can (reply.Accepted (wake_of kept.receivers kept.grants))
          (cond waits (cond may (reply.Full value kept.grants) (reply.Worn value))
          (reply.NotNow value))))
      by true hung can is_can waits to may is_may = hungup hung
      by false hung true is_can waits to may is_may = accepts hung is_can
      by false hung false is_can true to true is_may = full hung is_can is_may to
      by false hung false is_can true to false is_may = worn hung is_can to
      by false hung false is_can false to may is_may = not_now hung is_can to

  -- what holds of each answer to a put
  pub put_cases : (seat : ℕ) (value : T) (wait : Bool)
      → (kept.hung ≡ true → P (reply.Hungup value))
      → (kept.hung ≡ false → can_put kept seat ≡ true
      → P (reply.Accepted (wake_of kept.receivers kept.grants)))
      → (kept.hung ≡ false → can_put kept seat ≡ false → P (reply.NotNow value))
      → (kept.hung ≡ false → can_put kept seat ≡ false → may_wait kept kept.senders seat ≡ true
      → P (reply.Full value kept.grants))
      → (kept.hung ≡ false → can_put kept seat ≡ false → P (reply.Worn value))
      → P (answer_put kept seat value wait)
  put_cases seat value wait hungup accepts not_now full worn =
      put_cases_by seat value wait hungup accepts (λ is can to. not_now is can)
      (λ is can may to. full is can may) (λ is can to. worn is can)

  -- the oldest of the values, or the end
  given_cases : (values : List T) → kept.values ≡ values
      → ((value : T) (rest : List T) → kept.values ≡ value ∷ rest
      → P (reply.Value value (wake_of kept.senders kept.grants)))
      → (kept.values ≡ [] → P reply.End)
      → P (given kept values)
  given_cases [] is some none = none is
  given_cases (value ∷ rest) is some none = some value rest is

  -- what holds of each answer to a take, by whether it is to wait
  pub take_cases_by : (seat : ℕ) (wait : Bool)
      → (can_take kept seat ≡ true → (value : T) (rest : List T) → kept.values ≡ value ∷ rest
      → P (reply.Value value (wake_of kept.senders kept.grants)))
      → (can_take kept seat ≡ true → kept.values ≡ [] → P reply.End)
      → (can_take kept seat ≡ false → kept.hung ≡ true → P reply.End)
      → (can_take kept seat ≡ false → kept.hung ≡ false → wait ≡ false → P reply.Empty)
      → (can_take kept seat ≡ false → kept.hung ≡ false → may_wait kept kept.receivers seat ≡ true
      → wait ≡ true → P (reply.Wait kept.grants))
      → (can_take kept seat ≡ false → kept.hung ≡ false → wait ≡ true → P reply.WornOut)
      → P (answer_take kept seat wait)
  take_cases_by seat wait some none ends empty waits worn =
      by (can_take kept seat) refl kept.hung refl wait refl (may_wait kept kept.receivers seat) refl
    where
      by : (can : Bool) → can_take kept seat ≡ can → (hung : Bool) → kept.hung ≡ hung
          → (to_wait : Bool) → wait ≡ to_wait
          → (may : Bool) → may_wait kept kept.receivers seat ≡ may
          → P (cond can (given kept kept.values) (cond hung reply.End
          (cond to_wait (cond may (reply.Wait kept.grants) reply.WornOut) reply.Empty)))
      by true is_can hung is_hung to_wait to may is_may =
          given_cases kept.values refl (some is_can) (none is_can)
      by false is_can true is_hung to_wait to may is_may = ends is_can is_hung
      by false is_can false is_hung true to true is_may = waits is_can is_hung is_may to
      by false is_can false is_hung true to false is_may = worn is_can is_hung to
      by false is_can false is_hung false to may is_may = empty is_can is_hung to

  -- what holds of each answer to a take
  pub take_cases : (seat : ℕ) (wait : Bool)
      → (can_take kept seat ≡ true → (value : T) (rest : List T) → kept.values ≡ value ∷ rest
      → P (reply.Value value (wake_of kept.senders kept.grants)))
      → (can_take kept seat ≡ true → kept.values ≡ [] → P reply.End)
      → (can_take kept seat ≡ false → kept.hung ≡ true → P reply.End)
      → (can_take kept seat ≡ false → kept.hung ≡ false → P reply.Empty)
      → (can_take kept seat ≡ false → kept.hung ≡ false → may_wait kept kept.receivers seat ≡ true
      → P (reply.Wait kept.grants))
      → (can_take kept seat ≡ false → kept.hung ≡ false → P reply.WornOut)
      → P (answer_take kept seat wait)
  take_cases seat wait some none ends empty waits worn =
      take_cases_by seat wait some none ends (λ is hung to. empty is hung)
      (λ is hung may to. waits is hung may) (λ is hung to. worn is hung)

  -- what holds of each answer to a sender that leaves
  pub leave_sender_cases : (seat : ℕ) (value : T)
      → (kept.hung ≡ true → P (reply.NotNow value))
      → (kept.hung ≡ false → stands_in kept.senders.granted seat ≡ true
      → P (reply.Accepted (wake_of kept.receivers kept.grants)))
      → (kept.hung ≡ false → stands_in kept.senders.granted seat ≡ false
      → P (reply.NotNow value))
      → P (answer_leave_sender kept seat value)
  leave_sender_cases seat value hungup accepts not_now =
      by kept.hung refl (stands_in kept.senders.granted seat) refl
    where
      by : (hung : Bool) → kept.hung ≡ hung
          → (has : Bool) → stands_in kept.senders.granted seat ≡ has
          → P (cond hung (reply.NotNow value)
          (cond has (reply.Accepted (wake_of kept.receivers kept.grants)) (reply.NotNow value)))
      by true hung has is = hungup hung
      by false hung true is = accepts hung is
      by false hung false is = not_now hung is

  -- what holds of each answer to a receiver that leaves
  pub leave_receiver_cases : (seat : ℕ)
      → (stands_in kept.receivers.granted seat ≡ true → (value : T) (rest : List T)
      → kept.values ≡ value ∷ rest → P (reply.Value value (wake_of kept.senders kept.grants)))
      → (stands_in kept.receivers.granted seat ≡ true → kept.values ≡ [] → P reply.End)
      → (stands_in kept.receivers.granted seat ≡ false → P reply.Empty)
      → P (answer_leave_receiver kept seat)
  leave_receiver_cases seat some none empty =
      by (stands_in kept.receivers.granted seat) refl
    where
      by : (has : Bool) → stands_in kept.receivers.granted seat ≡ has
          → P (cond has (given kept kept.values) reply.Empty)
      by true is = given_cases kept.values refl (some is) (none is)
      by false is = empty is

  -- what holds of each answer to a hangup
  pub hang_cases : (kept.hung ≡ true → P reply.HungBefore)
      → (kept.hung ≡ false → P (reply.Hung (suc kept.grants)))
      → P (answer_hang kept)
  hang_cases before first = by kept.hung refl
    where
      by : (hung : Bool) → kept.hung ≡ hung
          → P (cond hung reply.HungBefore (reply.Hung (suc kept.grants)))
      by true is = before is
      by false is = first is

  -- what holds of each answer to a seat that opens on this side
  pub open_cases : (line : Waiters)
      → (has_closed kept line ≡ true → P reply.NoPlace)
      → (has_closed kept line ≡ false → kept.free ≡ [] → P reply.NoPlace)
      → (has_closed kept line ≡ false → (place : ℕ) (rest : List ℕ) → kept.free ≡ place ∷ rest
      → P (reply.Opened place))
      → P (answer_open kept line)
  open_cases line over full opens = by (has_closed kept line) refl kept.free refl
    where
      by : (over : Bool) → has_closed kept line ≡ over → (free : List ℕ) → kept.free ≡ free
          → P (cond over reply.NoPlace (given_place free))
      by true is free are = over is
      by false is [] are = full is are
      by false is (place ∷ rest) are = opens is place rest are

  -- what holds of each answer to a seat that closes on this side
  pub close_cases : (line : Waiters) (seat : ℕ)
      → (place_of seat line.opened ≡ None → P reply.Closed)
      → ((place : ℕ) → place_of seat line.opened ≡ Some place
      → nat_lt 0 (length (closed seat line.opened)) ≡ true → P reply.Closed)
      → ((place : ℕ) → place_of seat line.opened ≡ Some place
      → nat_lt 0 (length (closed seat line.opened)) ≡ false → kept.hung ≡ true
      → P reply.HungBefore)
      → ((place : ℕ) → place_of seat line.opened ≡ Some place
      → nat_lt 0 (length (closed seat line.opened)) ≡ false → kept.hung ≡ false
      → P (reply.Hung (suc kept.grants)))
      → P (answer_close kept line seat)
  close_cases line seat not others before last =
      by (place_of seat line.opened) refl (nat_lt 0 (length (closed seat line.opened))) refl
      kept.hung refl
    where
      by : (o : Option ℕ) → place_of seat line.opened ≡ o
          → (some : Bool) → nat_lt 0 (length (closed seat line.opened)) ≡ some
          → (hung : Bool) → kept.hung ≡ hung
          → P (if_open o (cond some reply.Closed
          (cond hung reply.HungBefore (reply.Hung (suc kept.grants)))))
      by None is some are hung on = not is
      by (Some place) is true are hung on = others place is are
      by (Some place) is false are true on = before place is are on
      by (Some place) is false are false on = last place is are on
