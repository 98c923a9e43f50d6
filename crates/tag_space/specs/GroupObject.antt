-- A tag space as an object for one thread: what is kept of each member, the answer to each step,
-- and what the step leaves. After rendezvous(2). Own: the steps Collect and Leave, and the counts,
-- by which a member that waits is woken.
use Rattle.std.specs.Prelude.{ℕ, ◌+◌, ◌==◌, nat_lt, Bool, true, false, ◌&&◌, if◌then◌else◌}
use Rattle.std.specs.Prelude.{Option, Some, None, List, length, replicate}
use Rattle.std.specs.Prelude.{slice_index_or, slice_set}
use Rattle.std.specs.Prelude.{position}
use Rattle.sync_base.specs.declared.ids.Tag.{Tag}
use Rattle.kernel_lock.specs.Definition.{Definition}
use Rattle.tag_space.specs.declared.calls.GroupCall.{GroupCall}
use Rattle.tag_space.specs.declared.calls.GroupCall.TheVariants.{Call, Collect, Leave}
use Rattle.tag_space.specs.declared.calls.GroupReply.{GroupReply}
use Rattle.tag_space.specs.declared.calls.GroupReply.TheVariants as reply
use Rattle.tag_space.specs.declared.place.CallState.{CallState}
use Rattle.tag_space.specs.declared.place.CallState.TheVariants.{Idle, Waiting, Met}
use Rattle.tag_space.specs.declared.place.Place.{Place}
use Rattle.tag_space.specs.declared.limits.TheConstants.{LAST_MEETING}

-- a member that never called
abbrev pub fresh_place : ℕ → Place
fresh_place count = record { state = Idle; meetings = count }

-- before the first call nobody waits, and each member has this count
abbrev pub opening : ℕ → ℕ → List Place
opening members count = replicate members (fresh_place count)

-- what is kept of a member
abbrev pub place_of : List Place → ℕ → Place
place_of places member = slice_index_or places member (fresh_place 0)

-- the member's state becomes this one, and its count this one
abbrev pub put : List Place → ℕ → CallState → ℕ → List Place
put places member state count =
    slice_set places member (record { state = state; meetings = count })

-- whether a member with this state has no call under way
abbrev pub is_idle : CallState → Bool
is_idle Idle = true
is_idle (Waiting tag value) = false
is_idle (Met value) = false

-- whether a call with this state waits with the tag
abbrev pub waits_with : ℕ → CallState → Bool
waits_with tag Idle = false
waits_with tag (Waiting key value) = key.0 == tag
waits_with tag (Met value) = false

-- the value that a waiting call gives
abbrev pub value_given : CallState → ℕ
value_given Idle = 0
value_given (Waiting tag value) = value
value_given (Met value) = 0

-- the member that waits with the tag
abbrev pub waiter_of : List Place → ℕ → Option ℕ
waiter_of places tag = position (λ place. waits_with tag place.state) places

-- there is such a member, and it may call
abbrev pub may_call : List Place → ℕ → Bool
may_call places member =
    nat_lt member (length places) && is_idle (place_of places member).state

-- the answer to a call of this member, where `waiter` waits with its tag
abbrev pub answer_to_call : List Place → ℕ → Option ℕ → GroupReply
answer_to_call places member (Some waiter) =
    let place = place_of places waiter in
    reply.Met (value_given place.state) waiter (place.meetings + 1)
answer_to_call places member None =
    let count = (place_of places member).meetings in
    if count == LAST_MEETING then reply.Worn else reply.Wait count

-- the answer where a member with this state and this count asks whether its call was met
abbrev pub answer_to_collect : CallState → ℕ → GroupReply
answer_to_collect Idle count = reply.Wait count
answer_to_collect (Waiting tag value) count = reply.Wait count
answer_to_collect (Met value) count = reply.WasMet value

-- the same where the member waits no longer
abbrev pub answer_to_leave : CallState → GroupReply
answer_to_leave Idle = reply.Gone
answer_to_leave (Waiting tag value) = reply.Gone
answer_to_leave (Met value) = reply.WasMet value

-- the answer to each step
abbrev pub answer_to : List Place → GroupCall → GroupReply
answer_to places (Call member tag value) =
    if may_call places member
    then answer_to_call places member (waiter_of places tag.0)
    else reply.Busy
answer_to places (Collect member) =
    let place = place_of places member in
    if nat_lt member (length places)
    then answer_to_collect place.state place.meetings
    else reply.Busy
answer_to places (Leave member) =
    if nat_lt member (length places)
    then answer_to_leave (place_of places member).state
    else reply.Busy

-- a call with this value meets the call that waits, or waits in its turn
abbrev pub after_call : List Place → ℕ → Tag → ℕ → Option ℕ → List Place
after_call places member tag value (Some waiter) =
    put places waiter (Met value) ((place_of places waiter).meetings + 1)
after_call places member tag value None =
    let count = (place_of places member).meetings in
    if count == LAST_MEETING then places else put places member (Waiting tag value) count

-- a call that was met is over once its member got the answer
abbrev pub after_collect : CallState → CallState
after_collect Idle = Idle
after_collect (Waiting tag value) = Waiting tag value
after_collect (Met value) = Idle

-- what each step leaves
abbrev pub places_after : List Place → GroupCall → List Place
places_after places (Call member tag value) =
    if may_call places member
    then after_call places member tag value (waiter_of places tag.0)
    else places
places_after places (Collect member) =
    let place = place_of places member in
    if nat_lt member (length places)
    then put places member (after_collect place.state) place.meetings
    else places
places_after places (Leave member) =
    if nat_lt member (length places)
    then put places member Idle (place_of places member).meetings
    else places

-- the member that a call names
abbrev pub member_of : GroupCall → ℕ
member_of (Call member tag value) = member
member_of (Collect member) = member
member_of (Leave member) = member

-- a space as an object: what is kept of each member, and what each step does
abbrev pub group : Definition (List Place) (List Place) GroupCall GroupReply
group =
    record {
      state = λ places. places;
      answer = answer_to;
      after = places_after;
      named = λ call. Some (member_of call);
    }
