-- What one call of rendezvous asks of its space, after rendezvous(2): the first of two waits for
-- the second. How it sleeps in between is the wait of all devices.
use Rattle.std.specs.Prelude.{◌≡◌, ◌<◌, ℕ, Option, Some, None, Result}
use Rattle.histories.specs.Changes.{AddsEntry}
use Rattle.histories.specs.declared.account.Account.{Account}
use Rattle.kernel_lock.specs.Definition.{server}
use Rattle.sleep_wakeup.specs.Actions.{WakesOne}
use Rattle.sync_base.specs.declared.fault.Fault.{Fault}
use Rattle.sync_base.specs.declared.fault.Fault.TheVariants as fault
use Rattle.sync_base.specs.declared.limits.TheConstants.{TOP_LEVEL}
use Rattle.tag_space.specs.declared.calls.GroupCall.{GroupCall}
use Rattle.tag_space.specs.declared.calls.GroupCall.TheVariants.{Call, Collect, Leave}
use Rattle.tag_space.specs.declared.calls.GroupReply.{GroupReply}
use Rattle.tag_space.specs.declared.calls.GroupReply.TheVariants as group
use Rattle.tag_space.specs.declared.member.Member.{Member}
use Rattle.tag_space.specs.declared.space.TagSpace.{TagSpace}
use Rattle.tag_space.specs.GroupObject.{member_of}
use Rattle.tag_space.specs.Members.{IsMemberOf, IsOneOf, IsSameMember, IsWaitingMember}
use Rattle.tag_space.specs.Members.{rendez_of_member, account_of, number_of, party_of, seen_of}
use Rattle.tag_space.specs.Outcome.{Exchange, word_of}
use Rattle.tag_space.specs.Rendezvous.{Entry, Offered}
use Rattle.waiting.specs.declared.call.Reply.{Reply}
use Rattle.waiting.specs.declared.call.Reply.TheVariants as reply
use Rattle.waiting.specs.Runners.{RunPoint, Runs}
use Rattle.waiting.specs.Waiting.{Promise, Point, Waited}

-- ---- one request

-- a request is in the history with its reply, and its past continues what the member had seen
abbrev pub Asks : GroupCall → GroupReply → Account Entry → Account Entry → Type 0
Asks call told before after =
    AddsEntry server (record { by = member_of call; request = call; reply = told }) before after

-- the member asked, and is the same member of its space
pub record Requests (space : TagSpace) (call : GroupCall) (told : GroupReply)
    (before after : Member) : Type 0 where
  pub entered : Asks call told (account_of before) (account_of after)
  pub one : IsOneOf space after
  pub same : IsSameMember before after

-- a member that called found one of the space's members, and its call is over; or it waits, with a
-- count that leaves a level above it; or it was worn out, and its call is over
abbrev pub IsCalled : TagSpace → Member → GroupReply → Type 0
IsCalled space member (group.Met given other count) =
    (other < space.procs) × IsMemberOf space member
IsCalled space member (group.Wait count) = (count < TOP_LEVEL) × IsWaitingMember space member
IsCalled space member group.Worn = IsMemberOf space member
IsCalled space member told = ⊥

-- a member that asked was met, and its call is over; or it waits on
abbrev pub IsCollected : TagSpace → Member → GroupReply → Type 0
IsCollected space member (group.WasMet given) = IsMemberOf space member
IsCollected space member (group.Wait count) = (count < TOP_LEVEL) × IsWaitingMember space member
IsCollected space member told = ⊥

-- and the call of a member that left is over
abbrev pub IsLeft : TagSpace → Member → GroupReply → Type 0
IsLeft space member (group.WasMet given) = IsMemberOf space member
IsLeft space member group.Gone = IsMemberOf space member
IsLeft space member told = ⊥

-- ---- the requests of one call

-- the member asked, and its process did nothing
pub record OnlyRequests (space : TagSpace) (call : GroupCall) (told : GroupReply)
    (before after : Point Member) : Type 0 where
  pub requested : Requests space call told before.seat after.seat
  pub idle : after.process ≡ before.process

-- the call found a call that waits, and woke its Rendez, once, with the count of its meetings
pub record Finds (space : TagSpace) (call : GroupCall) (given : ℕ)
    (before after : Point Member) : Type 0 where
  pub other : ℕ
  pub count : ℕ
  pub requested : Requests space call (group.Met given other count) before.seat after.seat
  pub woken : WakesOne before.process (rendez_of_member space other) count after.process

-- the first request is the call: it found a partner, or waits with the count of its meetings, or
-- was refused because that was the last count
abbrev pub Begins : TagSpace → Offered → Point Member → Reply ℕ → Point Member → Type 0
Begins space offered before (reply.Done given) after =
    Finds space (Call (number_of before.seat) offered.tag offered.value) given before after
Begins space offered before (reply.Wait count) after =
    OnlyRequests space (Call (number_of before.seat) offered.tag offered.value) (group.Wait count)
    before after
Begins space offered before (reply.Refused fault.Worn) after =
    OnlyRequests space (Call (number_of before.seat) offered.tag offered.value) group.Worn
    before after
Begins space offered before (reply.Refused why) after = ⊥

-- after a sleep it asks whether it was met
abbrev pub Collects : TagSpace → Point Member → Reply ℕ → Point Member → Type 0
Collects space before (reply.Done given) after =
    OnlyRequests space (Collect (number_of before.seat)) (group.WasMet given) before after
Collects space before (reply.Wait count) after =
    OnlyRequests space (Collect (number_of before.seat)) (group.Wait count) before after
Collects space before (reply.Refused why) after = ⊥

-- and where a sleep failed it asks the same, and waits no longer
abbrev pub Leaves : TagSpace → Member → Option ℕ → Member → Type 0
Leaves space before (Some given) after =
    Requests space (Leave (number_of before)) (group.WasMet given) before after
Leaves space before None after = Requests space (Leave (number_of before)) group.Gone before after

-- one call of rendezvous, as its wait asks the space
abbrev pub meeting : TagSpace → Offered → Promise Member ℕ
meeting space offered =
    record { begun = Begins space offered; asked = Collects space; left = Leaves space }

-- ---- the call

-- One call of rendezvous makes one Call. Where the Call finds a partner it wakes the partner's
-- Rendez and never sleeps; else it waits on its member's own Rendez as a call of each device does,
-- and wakes nobody.
abbrev pub Meets : TagSpace → Offered → Point Member → Result ℕ Fault → Point Member → Type 0
Meets space offered before answer after =
    Waited (meeting space offered) before.seat.rendez before answer after

-- the same call, as its runner runs it
abbrev pub MeetsBy : {Timer : Type 0} → Runs Timer → TagSpace → Offered → RunPoint Timer Member
    → Result ℕ Fault → RunPoint Timer Member → Type 0
MeetsBy runs space offered before answer after =
    runs.ran (meeting space offered) before.at.seat.rendez before answer after

-- the same call, and the word for its answer
pub record RendezvousesInWords (space : TagSpace) (offered : Offered) (before : Point Member)
    (told : Result ℕ Fault) (after : Point Member) : Type 0 where
  pub answer : Result ℕ Fault
  pub told_is : told ≡ word_of answer
  pub exchange : Exchange (party_of space before.seat) offered (seen_of before.seat)
      (seen_of after.seat) answer
  pub waited : Meets space offered before answer after
