-- What a tag space begins with, how a member is given and two are joined, and why no space is made.
use Rattle.std.specs.Prelude.{◌≡◌, ◌≢◌, ◌<◌, ℕ, []}
use Rattle.histories.specs.History.{IsPast}
use Rattle.sleep_core.specs.Limits.{IsProcCount}
use Rattle.kernel_lock.specs.Seats.{IsFirstSeat, Splits, Joins}
use Rattle.sleep_wakeup.specs.Kernel.{Unused, HasRendez}
use Rattle.sync_base.specs.declared.fault.Fault.{Fault}
use Rattle.sync_base.specs.declared.fault.Fault.TheVariants as fault
use Rattle.tag_space.specs.declared.member.Member.{Member}
use Rattle.tag_space.specs.declared.space.TagSpace.{TagSpace}
use Rattle.tag_space.specs.Members.{IsMemberOf, OwnsRow, number_of, seen_of}
use Rattle.tag_space.specs.Outcome.{calls_by}

-- a space of this many members, whose row of Rendez is the next one
pub record IsNewSpace (before : Unused) (procs : ℕ) (space : TagSpace) : Type 0 where
  pub procs_are : space.procs ≡ procs
  pub first_is : space.first.0 ≡ before.rendez
  pub row : OwnsRow space before.words

-- its first member, which has given no other member; nobody has called
pub record IsFirstMember (space : TagSpace) (member : Member) : Type 0 where
  pub member_of : IsMemberOf space member
  pub first : IsFirstSeat member.seat

-- A further member: this one gave it and nothing else, its number is above this one's, and it has
-- made no call.
pub record IsFurtherMember (space : TagSpace) (before after further : Member) : Type 0 where
  pub given : Splits space.lock before.seat after.seat further.seat
  pub above : number_of before < number_of further
  pub no_calls : calls_by (number_of further) (seen_of further) ≡ []

-- what the member had seen is a past of what the joined member has seen, and has all its calls
pub record IsKeptIn (joined member : Member) : Type 0 where
  pub past : IsPast (seen_of member) (seen_of joined)
  pub calls : calls_by (number_of member) (seen_of joined)
      ≡ calls_by (number_of member) (seen_of member)

-- one member of two: both are in the one history that it has seen
pub record JoinsMembers (first second joined : Member) : Type 0 where
  pub seats : Joins first.seat second.seat joined.seat
  pub apart : number_of first ≢ number_of second
  pub first_kept : IsKeptIn joined first
  pub second_kept : IsKeptIn joined second

-- Own: a row of Rendez is asked for before memory.
abbrev pub WhyNoGroup : Unused → ℕ → Fault → Type 0
WhyNoGroup unused procs fault.NoRendez = ¬ HasRendez unused procs
WhyNoGroup unused procs fault.Memory = HasRendez unused procs
WhyNoGroup unused procs other = ⊥

-- Own: the number of members that are asked for is tested before both.
abbrev pub WhyNoSpace : Unused → ℕ → Fault → Type 0
WhyNoSpace unused procs fault.NoProc = ¬ IsProcCount procs
WhyNoSpace unused procs fault.NoRendez = IsProcCount procs × (¬ HasRendez unused procs)
WhyNoSpace unused procs fault.Memory = IsProcCount procs × HasRendez unused procs
WhyNoSpace unused procs other = ⊥
