-- What clauses see of a tag space, and of the members of it.
use Rattle.std.specs.Prelude.{◌≡◌, ◌+◌, ⊤, ℕ, List, Option, Some, None, Result}
use Rattle.sync_base.specs.declared.fault.Fault.{Fault}
use Rattle.kernel_lock.specs.Seats.{KnowsAllGiven}
use Rattle.sleep_wakeup.specs.Kernel.{Running, Unused}
use Rattle.tag_space.specs.declared.member.Member.{Member}
use Rattle.tag_space.specs.declared.space.TagSpace.{TagSpace}
use Rattle.tag_space.specs.Asking.{Meets, MeetsBy, RendezvousesInWords, meeting}
use Rattle.tag_space.specs.Members.{IsMemberOf, IsSameMember, party_of, seen_of}
use Rattle.tag_space.specs.Outcome.{Exchange}
use Rattle.tag_space.specs.Rendezvous.{Offered}
use Rattle.tag_space.specs.Spaces.{IsFirstMember, IsFurtherMember, IsNewSpace}
use Rattle.waiting.specs.Runners.{IsACall, run_point}
use Rattle.waiting.specs.Waiting.{point}
use Rattle.plan9.specs.Chains.{AreChained, MayHave, WhyNotMany}
use Rattle.plan9.specs.Watches.{Watching, until}

-- a tag space, and the first member as long as nobody has it
pub record Hosting : Type 0 where
  pub space : TagSpace
  pub spare : Option Member

-- a member, with its tag space
pub record Membered : Type 0 where
  pub space : TagSpace
  pub member : Member

-- this is the Rendez behind the last one of the space
abbrev pub SpaceEndsBefore : TagSpace → ℕ → Type 0
SpaceEndsBefore space beyond = space.first.0 + space.procs ≡ beyond

-- nobody has the member, or it is one of the space's between two calls
abbrev pub IsSpareMember : TagSpace → Option Member → Type 0
IsSpareMember space None = ⊤
IsSpareMember space (Some member) = IsMemberOf space member

-- a new space of this size, whose first member nobody has
abbrev pub IsNewSpaceFor : Unused → ℕ → Hosting → Type 0
IsNewSpaceFor roster procs hosting =
    IsNewSpace roster procs hosting.space
    × ((member : Member) × IsFirstMember hosting.space member × (hosting.spare ≡ Some member))

-- ---- who is a member

-- the member that nobody had
pub record IsFirstOf (hosting : Hosting) (membered : Membered) : Type 0 where
  pub space_is : membered.space ≡ hosting.space
  pub member_is : Some membered.member ≡ hosting.spare

-- the same member of the same space
pub record IsSame (old new : Membered) : Type 0 where
  pub space_is : new.space ≡ old.space
  pub member_is : IsSameMember old.member new.member

-- a member of the same space that was given to no other
pub record IsFurtherMemberOf (old new child : Membered) : Type 0 where
  pub space_is : child.space ≡ old.space
  pub further : IsFurtherMember old.space old.member new.member child.member

-- all members were given, as far as the member can know
abbrev pub KnowsNoMember : Membered → Membered → Type 0
KnowsNoMember old new = KnowsAllGiven old.space.lock old.member.seat new.member.seat

-- ---- many at once

-- a member gives another
pub record GivesAnother (old new child : Membered) : Type 0 where
  pub same : IsSame old new
  pub further : IsFurtherMemberOf old new child

-- so many members: the first one, and each other given by the one before it
abbrev pub AreMembers : Hosting → ℕ → List Membered → Type 0
AreMembers hosting = AreChained GivesAnother (IsFirstOf hosting)

-- one or more are asked for, and no more than the space has
abbrev pub MayGive : Hosting → ℕ → Type 0
MayGive hosting = MayHave hosting.space.procs

-- why there are no members
abbrev pub WhyNoMembers : Hosting → ℕ → Fault → Type 0
WhyNoMembers hosting =
    WhyNotMany GivesAnother (IsFirstOf hosting) KnowsNoMember (hosting.spare ≡ None)
    hosting.space.procs

-- ---- a call

-- a member, and the process that calls by it
pub record Calling : Type 0 where
  pub by : Membered
  pub proc : Running

abbrev pub calls : Membered → Running → Calling
calls by proc = record { by = by; proc = proc }

-- The member made one call, which is in a pair exactly where a value is answered; and so its
-- process slept, and woke its partner.
pub record MeetsOnce (offered : Offered) (old : Calling) (answer : Result ℕ Fault) (new : Calling) :
    Type 0 where
  pub exchange : Exchange (party_of old.by.space old.by.member) offered (seen_of old.by.member)
      (seen_of new.by.member) answer
  pub waited : Meets old.by.space offered (point old.by.member old.proc) answer
      (point new.by.member new.proc)

-- the same with the word for its answer
abbrev pub MeetsInWords : Offered → Calling → Result ℕ Fault → Calling → Type 0
MeetsInWords offered old answer new =
    RendezvousesInWords old.by.space offered (point old.by.member old.proc) answer
    (point new.by.member new.proc)

-- a call with a watch: the member, the process that calls by it, and the watch
pub record WatchedCall : Type 0 where
  pub by : Membered
  pub proc : Running
  pub watch : Watching

abbrev pub calls_with : Membered → Running → Watching → WatchedCall
calls_with by proc watch = record { by = by; proc = proc; watch = watch }

-- The member made one call, which is in a pair exactly where a value is answered; so its process
-- slept until a moment, woke its partner, and asked its timers; and what holds of a call without a
-- deadline holds of it.
pub record MeetsUntil (offered : Offered) (moment : ℕ) (old : WatchedCall)
    (answer : Result ℕ Fault) (new : WatchedCall) : Type 0 where
  pub exchange : Exchange (party_of old.by.space old.by.member) offered (seen_of old.by.member)
      (seen_of new.by.member) answer
  pub waited : MeetsBy (until old.watch moment) old.by.space offered
      (run_point old.by.member old.watch.seat old.proc) answer
      (run_point new.by.member new.watch.seat new.proc)
  pub is_call : IsACall (meeting old.by.space offered) old.by.member.rendez
      (point old.by.member old.proc) answer (point new.by.member new.proc)
