-- What clauses see of a tag space and of its members.
use Rattle.std.specs.Prelude.{◌≡◌, ◌≢◌, ◌+◌, ◌≤◌, ℕ, List, []}
use Rattle.histories.specs.Account.{KnowsHistory}
use Rattle.histories.specs.declared.account.Account.{Account}
use Rattle.kernel_lock.specs.Seats as seats
use Rattle.kernel_lock.specs.Seats.{IsSeatOf}
use Rattle.rendez_words.specs.declared.words.Words.{Words}
use Rattle.rendez_words.specs.Words.{rendez_of}
use Rattle.sync_base.specs.declared.ids.RendezId.{RendezId}
use Rattle.tag_space.specs.declared.member.Member.{Member}
use Rattle.tag_space.specs.declared.space.TagSpace.{TagSpace}
use Rattle.tag_space.specs.Rendezvous.{Entry, Space, Party, rendezvous, stage_of}
use Rattle.tag_space.specs.Rendezvous.Stage.{Over}

-- how many members the space has, none of which was met when it was made
abbrev pub space_of : TagSpace → Space
space_of space = record { members = space.procs; count = 0 }

-- what the member knows: its own calls with their replies, and the history that it has seen
abbrev pub account_of : Member → Account Entry
account_of member = seats.account_of member.seat

-- the history of its space as far as the member has seen it, newest first
abbrev pub seen_of : Member → List Entry
seen_of member = seats.seen_of member.seat

abbrev pub number_of : Member → ℕ
number_of member = seats.number_of member.seat

-- the member, as a party of an exchange in its space
abbrev pub party_of : TagSpace → Member → Party
party_of space member = record { space = space_of space; member = number_of member }

-- the Rendez of the member with this number
abbrev pub rendez_of_member : TagSpace → ℕ → RendezId
rendez_of_member space number = record { 0 = space.first.0 + number }

-- the Rendez of all members are Rendez of these words
abbrev pub OwnsRow : TagSpace → Words → Type 0
OwnsRow space words = space.first.0 + space.procs ≤ rendez_of words

-- One of the space's members, in a call or between two: what it has seen is a legal history of
-- rendezvous in this space, which has each of its own calls once; and it has its own Rendez.
pub record IsOneOf (space : TagSpace) (member : Member) : Type 0 where
  pub seat : IsSeatOf space.lock member.seat
  pub history : KnowsHistory (rendezvous (space_of space)) [] space.procs (account_of member)
  pub rendez : member.rendez.0 ≡ space.first.0 + number_of member

-- a member of the space between two calls: none of its calls waits
pub record IsMemberOf (space : TagSpace) (member : Member) : Type 0 where
  pub one : IsOneOf space member
  pub rests : stage_of (seen_of member) (number_of member) ≡ Over

-- a member of the space whose last call is under way: it waits, where a call that meets it will
-- find it, or was met and has not got the answer
pub record IsWaitingMember (space : TagSpace) (member : Member) : Type 0 where
  pub one : IsOneOf space member
  pub under_way : stage_of (seen_of member) (number_of member) ≢ Over

-- it is the same member, whatever it knows
pub record IsSameMember (before after : Member) : Type 0 where
  pub number : number_of after ≡ number_of before
  pub rendez : after.rendez ≡ before.rendez
