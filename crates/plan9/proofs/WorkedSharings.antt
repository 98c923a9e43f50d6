-- What is no shared end, nobody who shares one and no turn: each against one row of what the calls
-- of a shared end say.
use Rattle.std.proofs.Common.{◌≡◌, ◌≢◌, ℕ, true, false, List, [], Result, Ok, Err}
use Rattle.std.proofs.Common.{Bool, IfErr, IfSome, None, Some, inl, inr, refl, ⊎_elim, ap, subst}
use Rattle.sync_base.specs.declared.fault.Fault.{Fault}
use Rattle.sync_base.specs.declared.fault.Fault.TheVariants as fault
use Rattle.sleep_wakeup.specs.Kernel.{Running, Unused, HasRendez, rendez_less}
use Rattle.semaphore.specs.Acquiring.{Semacquires}
use Rattle.semaphore.specs.Opening.{WhyNotOpened}
use Rattle.semaphore.specs.Releasing.{Releases}
use Rattle.block_queue.specs.Seats.{key_of}
use Rattle.pipe_dev.specs.BlockReads.{ReadsBlock}
use Rattle.pipe_dev.specs.ReadCalls.{Calling, Tries, calling}
use Rattle.sleep_core.specs.Limits.{IsProcCount}
use Rattle.pipe_dev.specs.declared.answers.ReadAnswer.{ReadAnswer}
use Rattle.pipe_dev.specs.declared.answers.ReadAnswer.TheVariants as read
use Rattle.pipe_dev.specs.declared.answers.TryAnswer.{TryAnswer}
use Rattle.pipe_dev.specs.declared.answers.TryAnswer.TheVariants as try
use Rattle.pipe_dev.specs.Ends.{ReadSide, IsSameReadEnd}
use Rattle.pipe_dev.specs.Rendezes.{OwnsRow}
use Rattle.waiting.specs.Waiting.{point}
use Rattle.plan9.specs.declared.place.Lying.{Lying}
use Rattle.plan9.specs.declared.place.Receipt.{Receipt}
use Rattle.plan9.specs.declared.place.Swapped.{Swapped}
use Rattle.plan9.specs.declared.shares.Share.{Share}
use Rattle.plan9.specs.declared.shares.SharedEnd.{SharedEnd}
use Rattle.plan9.specs.declared.shares.Unshared.{Unshared}
use Rattle.plan9.specs.Callers.{Reader, reader}
use Rattle.plan9.specs.Places.{IsLaid, Swaps, end_in}
use Rattle.plan9.specs.Readings.{ReadsBy}
use Rattle.plan9.specs.Semaphores.{IsFirst, IsFurther, IsNew, IsSameSeat, got_now}
use Rattle.plan9.specs.Sharings.{AsksForTurn, AsksNow, Buffers, CallsAndLays, CallsShared}
use Rattle.plan9.specs.Sharings.{GivesTurnBack, HasNoTurn, HasTurn, InTurn, IsFirstShare}
use Rattle.plan9.specs.Sharings.{IsFurtherShare, IsNewShared, IsNotShared, IsSameShare, KnowsTurns}
use Rattle.plan9.specs.Sharings.{MayNotAsk, ReadsBlockOnce, ReadsOnce, Sharer, TriesInTurn}
use Rattle.plan9.specs.Sharings.{TriesOnce, Turn, buffers, end_of, first_end, turn_of}

-- ---- how an end is shared

module _ (before after : Unused) (end : ReadSide) (procs : ℕ) where
  module _ (shared : SharedEnd) where
    -- too many processes share it, or there are too few Rendez
    too_many_share : (IsProcCount procs → ⊥) → IsNewShared before end procs shared after → ⊥
    too_many_share many new = many new.in_range

    rendez_are_missing : (HasRendez before procs → ⊥) → IsNewShared before end procs shared after
        → ⊥
    rendez_are_missing few new = few new.room

    -- two have a turn at once, or it is another end
    two_have_a_turn : (IsNew before 1 procs shared.turns → ⊥)
        → IsNewShared before end procs shared after → ⊥
    two_have_a_turn two new = two new.turns

    another_end : first_end shared ≢ end → IsNewShared before end procs shared after → ⊥
    another_end other new = other new.end_is

    -- no Rendez are used up
    rendez_are_left : after ≢ rendez_less procs before
        → IsNewShared before end procs shared after → ⊥
    rendez_are_left other new = other new.roster

  module _ (refused : Unshared) where
    -- it is refused for no reason, with another end, or Rendez are used up
    refused_for_nothing : (WhyNotOpened before 1 procs refused.fault → ⊥)
        → IsNotShared before end procs refused after → ⊥
    refused_for_nothing none not = none not.why

    another_end_comes_back : refused.end ≢ end → IsNotShared before end procs refused after → ⊥
    another_end_comes_back other not = other not.end_is

    refusal_uses_rendez_up : after ≢ before → IsNotShared before end procs refused after → ⊥
    refusal_uses_rendez_up other not = other not.roster

-- ---- who shares it

module _ (shared : SharedEnd) (share : Share) where
  -- the first has a seat at other turns, or is at another end
  first_of_another : (IsFirst shared.turns share.seat → ⊥) → IsFirstShare shared share → ⊥
  first_of_another other first = other first.first

  first_at_another_end : end_of share ≢ first_end shared → IsFirstShare shared share → ⊥
  first_at_another_end other first = other first.end_is

module _ (old new child : Share) where
  -- a call moves the share to another seat, or to another end
  call_at_another_seat : (IsSameSeat old.seat new.seat → ⊥) → IsSameShare old new → ⊥
  call_at_another_seat other same = other same.seat_is

  call_at_another_end : end_of new ≢ end_of old → IsSameShare old new → ⊥
  call_at_another_end other same = other same.end_is

  -- a further share has no seat of its own, or is at another end
  share_without_a_seat : (IsFurther old.seat new.seat child.seat → ⊥)
      → IsFurtherShare old new child → ⊥
  share_without_a_seat none further = none further.further

  share_at_another_end : end_of child ≢ end_of old → IsFurtherShare old new child → ⊥
  share_at_another_end other further = other further.end_is

-- ---- a turn

module _ (Asks : Turn → Turn → Type 0) (old new : Sharer) (before after : List ℕ) where
  module _ (Call : Reader → Reader → Type 0) where
    -- a call without a turn, or whose turn is not given back, or by a process that may not ask
    call_without_a_turn : ((begun : Turn) → Asks (turn_of old) begun → ⊥)
        → HasTurn Asks old Call new → ⊥
    call_without_a_turn none turn = none turn.begun turn.asks

    turn_is_kept : ((ended : Turn) → GivesTurnBack ended (turn_of new) → ⊥)
        → HasTurn Asks old Call new → ⊥
    turn_is_kept kept turn =
        kept (record { seat = turn.begun.seat; proc = turn.called }) turn.gives_back

    call_without_rendez : ¬ KnowsTurns (turn_of old) → HasTurn Asks old Call new → ⊥
    call_without_rendez few turn = few turn.knows

  -- no turn was got, and yet the buffer was filled, or it was not asked for, or a process asked
  -- that may not
  filled_without_a_turn : after ≢ before → HasNoTurn Asks old (buffers before after) new → ⊥
  filled_without_a_turn other none = other none.buffer_same

  nothing_was_asked : (Asks (turn_of old) (turn_of new) → ⊥)
      → HasNoTurn Asks old (buffers before after) new → ⊥
  nothing_was_asked not none = not none.asks

  asked_without_rendez : ¬ KnowsTurns (turn_of old)
      → HasNoTurn Asks old (buffers before after) new → ⊥
  asked_without_rendez few none = few none.knows

module _ (old new : Sharer) (buffer : Buffers) where
  -- a process that may ask is refused a turn for want of Rendez, or for another fault; or one that
  -- may not has done something
  refused_with_rendez : (why : Fault) → KnowsTurns (turn_of old)
      → ¬ MayNotAsk old buffer why new
  refused_with_rendez why may refused = refused.unknown may

  unknown_as_another_fault : ¬ MayNotAsk old buffer fault.Worn new
  unknown_as_another_fault refused = let no = refused.why_is in cc

  unknown_and_did_something : (why : Fault) → new ≢ old → ¬ MayNotAsk old buffer why new
  unknown_and_did_something why other refused = other refused.same

  unknown_and_filled : (why : Fault) → buffer.after ≢ buffer.before
      → ¬ MayNotAsk old buffer why new
  unknown_and_filled why other refused = other refused.buffer_same

  -- bytes came and no turn was got
  bytes_without_a_turn : ((begun : Turn) → AsksForTurn (Ok tt) (turn_of old) begun → ⊥)
      → InTurn ReadsOnce old buffer (Ok (read.Got 3)) new → ⊥
  bytes_without_a_turn none turn = none turn.begun turn.asks

  bytes_without_a_turn_now : ((begun : Turn) → AsksNow true (turn_of old) begun → ⊥)
      → TriesInTurn old buffer (Ok (try.Got 3)) new → ⊥
  bytes_without_a_turn_now none turn = none turn.begun turn.asks

  -- bytes came to a process that may not ask
  bytes_without_rendez : ¬ KnowsTurns (turn_of old)
      → InTurn ReadsBlockOnce old buffer (Ok (read.Got 3)) new → ⊥
  bytes_without_rendez few turn = few turn.knows

  -- it is not yet there, and no turn was asked for
  not_yet_without_asking : (AsksNow false (turn_of old) (turn_of new) → ⊥)
      → ((begun : Turn) → AsksNow true (turn_of old) begun → ⊥)
      → TriesInTurn old buffer (Ok try.NotYet) new → ⊥
  not_yet_without_asking not none (inl refused) = not refused.asks
  not_yet_without_asking not none (inr turn) = none turn.begun turn.asks

  -- no turn was got, and its fault is another
  refused_for_another_fault :
      ((why : Fault) → AsksForTurn (Err why) (turn_of old) (turn_of new) → ⊥)
      → ((begun : Turn) → AsksForTurn (Ok tt) (turn_of old) begun → ⊥)
      → InTurn ReadsOnce old buffer (Err fault.Worn) new → ⊥
  refused_for_another_fault not none (inl unknown) = let no = unknown.why_is in cc
  refused_for_another_fault not none (inr (inl refused)) = not fault.Worn refused.asks
  refused_for_another_fault not none (inr (inr turn)) = none turn.begun turn.asks

  -- a try is refused for want of a turn, where it is NotYet
  try_refused_without_a_turn : KnowsTurns (turn_of old)
      → ((begun : Turn) → AsksNow true (turn_of old) begun → ⊥)
      → TriesInTurn old buffer (Err fault.Worn) new → ⊥
  try_refused_without_a_turn may none (inl unknown) = unknown.unknown may
  try_refused_without_a_turn may none (inr turn) = none turn.begun turn.asks

module _ (old new : Turn) where
  -- a unit is not given back, or one is asked for and waited for
  no_unit_is_given_back : ((answer : Result ℕ Fault)
      → Releases old.seat.sema 1 (point old.seat.seat old.proc) answer
      (point new.seat.seat new.proc) → ⊥)
      → GivesTurnBack old new → ⊥
  no_unit_is_given_back none gives = none gives.answer gives.called

  who_asks_now_waits : (has : Bool) → (Semacquires false old.seat.sema
      (point old.seat.seat old.proc) (got_now has) (point new.seat.seat new.proc) → ⊥)
      → AsksNow has old new → ⊥
  who_asks_now_waits has waits asks = waits asks

module _ (end : ReadSide) (old new : Running) (Call : Reader → Reader → Type 0) where
  -- an end of another pipe lay there, or lies there then
  end_of_another_pipe_lay_there : ((lay : ReadSide) → lay.queue ≢ end.queue)
      → CallsShared end old Call new → ⊥
  end_of_another_pipe_lay_there other calls = other calls.lay calls.lay_is.queue

  end_of_another_pipe_lies_there : ((lies : ReadSide) → lies.row ≢ end.row)
      → CallsShared end old Call new → ⊥
  end_of_another_pipe_lies_there other calls = other calls.lies calls.lies_is.row

  -- a call of that end was not made
  no_call_was_made : ((lay lies : ReadSide) → Call (reader lay old) (reader lies new) → ⊥)
      → CallsShared end old Call new → ⊥
  no_call_was_made none calls = none calls.lay calls.lies calls.called

  -- the process moves to another kernel
  call_moves_to_another_kernel : new.words ≢ old.words → CallsShared end old Call new → ⊥
  call_moves_to_another_kernel other calls = other calls.words_are

-- another end was laid down than the one that lies there then
what_lies_was_laid_down : (end : ReadSide) (old new : Running) (Call : Reader → Reader → Type 0)
    (laid : Receipt) → (calls : CallsAndLays end old Call laid new)
    → IsLaid calls.calls.lies laid
what_lies_was_laid_down end old new Call laid calls = calls.laid_is

no_call_and_an_end_laid_down : (end : ReadSide) (old new : Running)
    (Call : Reader → Reader → Type 0) (laid : Receipt) → ¬ CallsShared end old Call new
    → ¬ CallsAndLays end old Call laid new
no_call_and_an_end_laid_down end old new Call laid none calls = none calls.calls

-- nothing was put there, and an end was laid down
nothing_is_laid_down : (end : ReadSide) (receipt : Receipt) → receipt.what.value ≡ None
    → ¬ IsLaid end receipt
nothing_is_laid_down end receipt none laid = cc

module _ (first : ReadSide) (swapped : Swapped) where
  -- an end was to be put there, and nothing was; or what lay there is an end of another pipe
  nothing_is_put_there : (lying : Lying) → swapped.put.what.value ≡ None
      → ¬ Swaps first (Some lying) swapped
  nothing_is_put_there lying none swaps = let put = swaps.put_is in cc

  an_end_of_another_pipe_lay_there : (found : Lying) → swapped.found ≡ Some found
      → ¬ IsSameReadEnd first found.end.value → ¬ Swaps first None swapped
  an_end_of_another_pipe_lay_there found is other swaps =
      other (subst (λ lay. IfSome lay (λ it. IsSameReadEnd first it.end.value)) is swaps.found_is)

-- an end that lies there is given, and none is where none does
an_end_that_lies_there : (lying : Lying) → end_in (Some lying) ≡ Some lying.end.value
an_end_that_lies_there lying = refl

no_end_that_lies_there : end_in None ≡ None
no_end_that_lies_there = refl

-- ---- what was read

module _ (old new : Reader) (buffer : Buffers) where
  -- a read of a buffer with no bytes is not refused
  no_bytes_are_read : buffer.before ≡ [] → ReadsOnce buffer (Ok (read.Got 3)) old new → ⊥
  no_bytes_are_read none reads =
      subst (λ (answer : Result ReadAnswer Fault). IfErr answer (λ why. ⊥))
      (reads.bad_count.1 none) tt

  no_bytes_are_tried : buffer.before ≡ [] → TriesOnce buffer (Ok (try.Got 3)) old new → ⊥
  no_bytes_are_tried none tries =
      subst (λ (answer : Result TryAnswer Fault). IfErr answer (λ why. ⊥))
      (tries.bad_count.1 none) tt

  -- bytes are read, or tried, and the process knows not all Rendez
  read_without_rendez : buffer.before ≢ [] → (OwnsRow old.proc.words old.end.row → ⊥)
      → ReadsOnce buffer (Ok (read.Got 3)) old new → ⊥
  read_without_rendez some none reads =
      subst (λ (answer : Result ReadAnswer Fault). IfErr answer (λ why. ⊥))
      ((reads.no_rendez some).1 none) tt

  try_without_rendez : buffer.before ≢ [] → (OwnsRow old.proc.words old.end.row → ⊥)
      → TriesOnce buffer (Ok (try.Got 3)) old new → ⊥
  try_without_rendez some none tries =
      subst (λ (answer : Result TryAnswer Fault). IfErr answer (λ why. ⊥))
      ((tries.no_rendez some).1 none) tt

  -- what was read, or tried, was not
  no_bytes_were_read : (ReadsBy old buffer.before (Ok (read.Got 3)) new buffer.after → ⊥)
      → ReadsOnce buffer (Ok (read.Got 3)) old new → ⊥
  no_bytes_were_read none reads = none reads.reads

  no_block_was_read : (ReadsBlock (key_of old.end.queue) old.end.row
      (calling old.end old.proc buffer.before) (Ok read.End)
      (calling new.end new.proc buffer.after) → ⊥)
      → ReadsBlockOnce buffer (Ok read.End) old new → ⊥
  no_block_was_read none reads = none reads.reads

  nothing_was_tried : (Tries (key_of old.end.queue) old.end.row
      (calling old.end old.proc buffer.before) (try.Got 3)
      (calling new.end new.proc buffer.after) → ⊥)
      → TriesOnce buffer (Ok (try.Got 3)) old new → ⊥
  nothing_was_tried none tries = none tries.tries

  -- a block is read, and the process knows not all Rendez
  block_without_rendez : (OwnsRow old.proc.words old.end.row → ⊥)
      → ReadsBlockOnce buffer (Ok read.End) old new → ⊥
  block_without_rendez none reads =
      subst (λ (answer : Result ReadAnswer Fault). IfErr answer (λ why. ⊥))
      (reads.no_rendez.1 none) tt

  -- a read that doesn't wait is refused as out of numbers, or did something and was refused
  try_is_worn : TriesOnce buffer (Err fault.Worn) old new → ⊥
  try_is_worn tries = ⊎_elim (λ bad. cc) (λ none. cc) tries.fault

  refused_try_read : buffer.after ≢ buffer.before
      → TriesOnce buffer (Err fault.BadCount) old new → ⊥
  refused_try_read other tries = other (ap (λ (c : Calling). c.seat.buffer) tries.tries)
