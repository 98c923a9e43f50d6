-- Requests of a member that are no such request, and answers that are none, each against one row.
use Rattle.std.proofs.Common.{◌≡◌, ◌≢◌, ℕ, ◌<◌, List, ◌∷◌, length, inl, inr, ap, arith}
use Rattle.std.proofs.Common.{Some, None, Result, Ok, Err, sym, ◌∙◌}
use Rattle.std.proofs.lemmas.List.{length-append}
use Rattle.histories.specs.declared.account.Account.{Account}
use Rattle.rendez_words.specs.Process.{Process}
use Rattle.rendez_words.specs.Steps.{raises}
use Rattle.sleep_wakeup.specs.Calls.{Ends}
use Rattle.sleep_wakeup.specs.Kernel.{Unused}
use Rattle.sync_base.specs.declared.fault.Fault.{Fault}
use Rattle.sync_base.specs.declared.fault.Fault.TheVariants as fault
use Rattle.sync_base.specs.declared.flags.Flags.{Flags}
use Rattle.sync_base.specs.declared.limits.TheConstants.{TOP_LEVEL}
use Rattle.sync_base.specs.declared.note.NoteSet.{NoteSet}
use Rattle.tag_space.specs.declared.calls.GroupCall.{GroupCall}
use Rattle.tag_space.specs.declared.calls.GroupReply.{GroupReply}
use Rattle.tag_space.specs.declared.calls.GroupReply.TheVariants as group
use Rattle.tag_space.specs.declared.member.Member.{Member}
use Rattle.tag_space.specs.declared.space.TagSpace.{TagSpace}
use Rattle.tag_space.specs.Asking.{Asks, Requests, OnlyRequests, Finds, Begins, Collects, Leaves}
use Rattle.tag_space.specs.Asking.{IsCalled, IsCollected, IsLeft, meeting, Meets, MeetsBy}
use Rattle.tag_space.specs.Asking.{RendezvousesInWords}
use Rattle.tag_space.specs.Forks.{rfork_of, WhyNotForked}
use Rattle.tag_space.specs.Members.{IsOneOf, IsSameMember}
use Rattle.tag_space.specs.Members.{account_of, number_of, rendez_of_member, seen_of}
use Rattle.tag_space.specs.Outcome.{calls_by, word_of}
use Rattle.tag_space.specs.Rendezvous.{Entry, Offered, Offer, stage_of}
use Rattle.tag_space.specs.Rendezvous.Stage.{Over}
use Rattle.tag_space.specs.Spaces.{WhyNoGroup, WhyNoSpace}
use Rattle.waiting.specs.declared.call.Reply.TheVariants as reply
use Rattle.waiting.specs.Runners.{RunPoint, Runs}
use Rattle.waiting.specs.Waiting.{Point, Waited}

-- ---- each request is one entry more

asking_adds : (call : GroupCall) (told : GroupReply) (before after : Account Entry)
    → Asks call told before after → length before.seen < length after.seen
asking_adds call told before after adds =
    let new = ap (λ (account : Account Entry). length account.seen) adds.new_is in
    let past = ap (λ (history : List Entry). length history) adds.looked.history_is in
    let since = length-append adds.looked.since before.seen in
    omega (arith, new, past, since)

module _ (space : TagSpace) (offered : Offered) (before after : Point Member)
    (same : length (seen_of after.seat) ≡ length (seen_of before.seat)) where
  nothing_was_asked : (call : GroupCall) (told : GroupReply)
      → ¬ Requests space call told before.seat after.seat
  nothing_was_asked call told is =
      let more = asking_adds call told (account_of before.seat) (account_of after.seat) is.entered
      in
      omega (arith, same, more)

  found_without_a_call : (given : ℕ) → ¬ Begins space offered before (reply.Done given) after
  found_without_a_call given found = nothing_was_asked _ _ found.requested

  waits_without_a_call : (count : ℕ) → ¬ Begins space offered before (reply.Wait count) after
  waits_without_a_call count waits = nothing_was_asked _ _ waits.requested

  worn_without_a_call : ¬ Begins space offered before (reply.Refused fault.Worn) after
  worn_without_a_call worn = nothing_was_asked _ _ worn.requested

  told_without_asking : (given : ℕ) → ¬ Collects space before (reply.Done given) after
  told_without_asking given told = nothing_was_asked _ _ told.requested

  waits_on_without_asking : (count : ℕ) → ¬ Collects space before (reply.Wait count) after
  waits_on_without_asking count waits = nothing_was_asked _ _ waits.requested

  told_late_without_leaving : (given : ℕ) → ¬ Leaves space before.seat (Some given) after.seat
  told_late_without_leaving given told = nothing_was_asked _ _ told

  gone_without_leaving : ¬ Leaves space before.seat None after.seat
  gone_without_leaving gone = nothing_was_asked _ _ gone

-- ---- who asks: a member of the space, which it is after its request too

module _ (space : TagSpace) (call : GroupCall) (told : GroupReply) (before after : Member) where
  no_member_asks : ¬ IsOneOf space after → ¬ Requests space call told before after
  no_member_asks none asked = none asked.one

  another_member_asks : ¬ IsSameMember before after → ¬ Requests space call told before after
  another_member_asks other asked = other asked.same

-- ---- where a call waits: in its member's own Rendez

module _ (space : TagSpace) (offered : Offered) (answer : Result ℕ Fault) where
  waits_in_its_own_rendez : (before after : Point Member) → Meets space offered before answer after
      → Waited (meeting space offered) before.seat.rendez before answer after
  waits_in_its_own_rendez before after meets = meets

  is_run_in_its_own_rendez : {Timer : Type 0} (runs : Runs Timer)
      (before after : RunPoint Timer Member) → MeetsBy runs space offered before answer after
      → runs.ran (meeting space offered) before.at.seat.rendez before answer after
  is_run_in_its_own_rendez runs before after meets = meets

-- ---- for what a request is refused

module _ (space : TagSpace) (offered : Offered) (before after : Point Member) where
  -- the kernel has the Rendez of every member
  no_call_wants_a_rendez : ¬ Begins space offered before (reply.Refused fault.NoRendez) after
  no_call_wants_a_rendez begins = begins

  who_waits_is_not_worn_out : ¬ Collects space before (reply.Refused fault.Worn) after
  who_waits_is_not_worn_out collects = collects

-- ---- what a request leaves of its member

module _ (space : TagSpace) (member : Member) where
  a_partner_of_no_number : (value count : ℕ)
      → ¬ IsCalled space member (group.Met value space.procs count)
  a_partner_of_no_number value count called = let below = called.0 in omega (arith, below)

  -- nobody waits with a count that leaves no level above it
  a_call_waits_with_the_top : ¬ IsCalled space member (group.Wait TOP_LEVEL)
  a_call_waits_with_the_top called = let low = called.0 in omega (arith, low)

  a_wait_goes_on_with_the_top : ¬ IsCollected space member (group.Wait TOP_LEVEL)
  a_wait_goes_on_with_the_top collected = let low = collected.0 in omega (arith, low)

  module _ (under_way : stage_of (seen_of member) (number_of member) ≢ Over) where
    who_found_rests : (given other count : ℕ)
        → ¬ IsCalled space member (group.Met given other count)
    who_found_rests given other count called = under_way called.1.rests

    who_is_worn_out_rests : ¬ IsCalled space member group.Worn
    who_is_worn_out_rests called = under_way called.rests

    who_was_met_rests : (given : ℕ) → ¬ IsCollected space member (group.WasMet given)
    who_was_met_rests given collected = under_way collected.rests

    who_left_late_rests : (given : ℕ) → ¬ IsLeft space member (group.WasMet given)
    who_left_late_rests given left = under_way left.rests

    who_left_rests : ¬ IsLeft space member group.Gone
    who_left_rests left = under_way left.rests

  module _ (over : stage_of (seen_of member) (number_of member) ≡ Over) where
    who_is_told_to_wait_waits : ¬ IsCalled space member (group.Wait 0)
    who_is_told_to_wait_waits called = called.1.under_way over

    who_is_told_to_wait_on_waits : ¬ IsCollected space member (group.Wait 0)
    who_is_told_to_wait_on_waits collected = collected.1.under_way over

  no_call_is_gone : ¬ IsCalled space member group.Gone
  no_call_is_gone called = called

  no_collect_is_gone : ¬ IsCollected space member group.Gone
  no_collect_is_gone collected = collected

  no_leave_is_busy : ¬ IsLeft space member group.Busy
  no_leave_is_busy left = left

-- ---- the steps of the process

abbrev steps_of : Process → ℕ
steps_of process = length process.trace

-- a request is no step of the process
asked_with_a_step : (space : TagSpace) (call : GroupCall) (told : GroupReply)
    (before after : Point Member) → after.process ≢ before.process
    → ¬ OnlyRequests space call told before after
asked_with_a_step space call told before after other asked = other asked.idle

-- a partner is not found and left asleep
found_and_left_asleep : (space : TagSpace) (call : GroupCall) (given : ℕ)
    (before after : Point Member) → after.process ≡ before.process
    → ¬ Finds space call given before after
found_and_left_asleep space call given before after same finds = by finds.woken.woken.ends
  where
    none : steps_of after.process ≡ steps_of before.process
    none = ap steps_of same

    by : ¬ Ends (raises before.process (rendez_of_member space finds.other) finds.count)
        after.process
    by (inl nobody) =
        let steps = ap (λ (process : Process). steps_of process) nobody in
        omega (arith, none, steps)
    by (inr (sleeper, marked)) =
        let steps = ap (λ (process : Process). steps_of process) marked in
        omega (arith, none, steps)

-- ---- the word for an answer

-- no word says that notes ended a sleep
no_word_is_of_notes : (set : NoteSet) (answer : Result ℕ Fault)
    → ¬ (Err (fault.Interrupted set) ≡ word_of answer)
no_word_is_of_notes set (Ok given) is = cc
no_word_is_of_notes set (Err (fault.Interrupted notes)) is = cc
no_word_is_of_notes set (Err other) is = cc

-- with one call more they are others
one_more : (offer : Offer) (offers : List Offer) → ¬ (offers ≡ offer ∷ offers)
one_more offer offers same =
    let counts = ap (λ (list : List Offer). length list) same in
    omega (arith, counts)

module _ (space : TagSpace) (offered : Offered) (before after : Point Member)
    (told : Result ℕ Fault) (words : RendezvousesInWords space offered before told after) where
  -- an interruption is a word and no fault
  interrupted_in_words : (set : NoteSet) → ¬ (told ≡ Err (fault.Interrupted set))
  interrupted_in_words set is = no_word_is_of_notes set words.answer (sym is ∙ words.told_is)

  -- no word comes to who made no call
  a_word_without_a_call :
      ¬ (calls_by (number_of before.seat) (seen_of after.seat)
      ≡ calls_by (number_of before.seat) (seen_of before.seat))
  a_word_without_a_call same =
      one_more words.exchange.offer (calls_by (number_of before.seat) (seen_of before.seat))
      (sym same ∙ words.exchange.one)

  -- and it waits as any call does
  waits_for_its_word : Meets space offered before words.answer after
  waits_for_its_word = words.waited

-- ---- why nothing is made: for none of these reasons

module _ (unused : Unused) (space : TagSpace) (flags : Flags) (before after : Member) where
  forked_by_a_double_sleep :
      ¬ WhyNotForked (rfork_of unused space flags) before after fault.DoubleSleep
  forked_by_a_double_sleep why = why

  no_group_for_want_of_a_pid : ¬ WhyNoGroup unused 2 fault.NoProc
  no_group_for_want_of_a_pid why = why

  no_space_for_a_bad_argument : ¬ WhyNoSpace unused 2 fault.BadArg
  no_space_for_a_bad_argument why = why
