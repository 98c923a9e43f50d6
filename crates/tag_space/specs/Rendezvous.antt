-- The history of a tag space: who called, who waits, and who met whom. After rendezvous(2): two
-- processes that call with one tag exchange their values, and the first waits for the second. Own:
-- Collect and Leave, by which a call that waits ends, and the counts of meetings. It has calls and
-- pairs, and does not say how a call that waits is found.
use Rattle.std.specs.Prelude.{◌≡◌, ◌≢◌, ◌==◌, ℕ, ◌+◌, ◌<◌, ◌≤◌, if◌then◌else◌}
use Rattle.std.specs.Prelude.{Option, Some, None, List, [], ◌∷◌, ◌++◌, length, count_by}
use Rattle.histories.specs.History.{Meaning}
use Rattle.kernel_lock.specs.declared.view.Operation.{Operation}
use Rattle.sync_base.specs.declared.ids.Tag.{Tag}
use Rattle.tag_space.specs.GroupObject.{member_of}
use Rattle.tag_space.specs.declared.calls.GroupCall.{GroupCall}
use Rattle.tag_space.specs.declared.calls.GroupCall.TheVariants.{Call, Collect, Leave}
use Rattle.tag_space.specs.declared.calls.GroupReply.{GroupReply}
use Rattle.tag_space.specs.declared.calls.GroupReply.TheVariants.{Met, WasMet, Wait, Worn}
use Rattle.tag_space.specs.declared.calls.GroupReply.TheVariants.{Gone, Busy}
use Rattle.tag_space.specs.declared.limits.TheConstants.{LAST_MEETING}

-- a call with its reply, and the number of the seat that made it
abbrev pub Entry : Type 0
Entry = Operation GroupCall GroupReply

-- a tag space: how many members it has, and the count with which each begins
pub record Space : Type 0 where
  pub members : ℕ
  pub count : ℕ

-- a member of a space, which is one party of an exchange
pub record Party : Type 0 where
  pub space : Space
  pub member : ℕ

-- what a call of rendezvous(2) offers: a tag, and a value for the call with the same tag
pub record Offered : Type 0 where
  pub tag : Tag
  pub value : ℕ

-- one call of rendezvous(2) in a history: who made it, and what it offers
pub record Offer : Type 0 where
  pub number : ℕ  -- how many entries stood before the call: no other call has this number
  pub member : ℕ
  pub tag : ℕ
  pub value : ℕ

-- two calls that met: the call that waited, and the call that found it
pub record Pair : Type 0 where
  pub waiting : Offer
  pub finding : Offer

-- the state of a member's last call that had to wait
pub data Stage : Type 0 where
  -- there was none, or it is over
  Over : Stage
  -- it waits
  Waits : (offer : Offer) → Stage
  -- it was found, and its member did not get the answer yet
  Paired : (pair : Pair) → Stage

-- a call that waits is found by this one
abbrev pub found_by : Offer → Stage → Stage
found_by finding Over = Over
found_by finding (Waits offer) = Paired (record { waiting = offer; finding = finding })
found_by finding (Paired pair) = Paired pair

-- the stage of a member after a call with this number that got this answer
abbrev pub stage_after : ℕ → ℕ → Stage → GroupCall → GroupReply → Stage
stage_after number member stage (Call caller tag value) (Wait count) =
    if caller == member
    then Waits (record { number = number; member = caller; tag = tag.0; value = value })
    else stage
stage_after number member stage (Call caller tag value) (Met given other count) =
    let finding : Offer =
    record { number = number; member = caller; tag = tag.0; value = value } in
    if other == member then found_by finding stage else stage
stage_after number member stage (Collect caller) (WasMet given) =
    if caller == member then Over else stage
stage_after number member stage (Leave caller) (WasMet given) =
    if caller == member then Over else stage
stage_after number member stage (Leave caller) Gone = if caller == member then Over else stage
stage_after number member stage call reply = stage

-- the state of the member's last call, after this history
abbrev pub stage_of : List Entry → ℕ → Stage
stage_of [] member = Over
stage_of (entry ∷ past) member =
    stage_after (length past) member (stage_of past member) entry.request entry.reply

-- the newest call of a member that was answered with Wait, where this entry is the newest
abbrev pub wait_after : ℕ → ℕ → Option Offer → GroupCall → GroupReply → Option Offer
wait_after number member before (Call caller tag value) (Wait count) =
    if caller == member
    then Some (record { number = number; member = caller; tag = tag.0; value = value })
    else before
wait_after number member before call reply = before

-- the newest call of the member that was answered with Wait, over or not
abbrev pub last_wait : List Entry → ℕ → Option Offer
last_wait [] member = None
last_wait (entry ∷ past) member =
    wait_after (length past) member (last_wait past member) entry.request entry.reply

-- the call that found this call is its partner
abbrev pub pair_with : Offer → Option Offer → List Pair
pair_with finding None = []
pair_with finding (Some offer) = record { waiting = offer; finding = finding } ∷ []

-- the pair that a call with this answer makes: the reply says whose call it found
abbrev pub pair_made : List Entry → GroupCall → GroupReply → List Pair
pair_made past (Call caller tag value) (Met given other count) =
    let finding : Offer =
    record { number = length past; member = caller; tag = tag.0; value = value } in
    pair_with finding (last_wait past other)
pair_made past call reply = []

-- the pairs that a history gives, the newest first
abbrev pub pairs_of : List Entry → List Pair
pairs_of [] = []
pairs_of (entry ∷ past) = pair_made past entry.request entry.reply ++ pairs_of past

-- how often the member's waiting calls were met, counted on from the number with which the space
-- began
abbrev pub count_of : Space → List Entry → ℕ → ℕ
count_of space past member =
    space.count + count_by (λ pair. pair.waiting.member == member) (pairs_of past)

-- the member may call: there is such a member, and its last call is over
pub record MayCall (space : Space) (past : List Entry) (member : ℕ) : Type 0 where
  pub exists : member < space.members
  pub is_over : stage_of past member ≡ Over

-- nobody waits with the tag
abbrev pub NobodyWaits : List Entry → ℕ → Type 0
NobodyWaits past tag =
    (member : ℕ) (offer : Offer) → stage_of past member ≡ Waits offer → offer.tag ≢ tag

-- the answer to a call about the call that it found: the value that this one gives, its member, and
-- how often the member's calls were met, this meeting included
pub record Found : Type 0 where
  pub given : ℕ
  pub other : ℕ
  pub count : ℕ

-- a call with this tag finds a call that waits, and gets this answer about it
pub record Finds (space : Space) (past : List Entry) (tag : ℕ) (found : Found) : Type 0 where
  pub offer : Offer
  pub waits : stage_of past found.other ≡ Waits offer
  pub tag_is : offer.tag ≡ tag
  pub given_is : found.given ≡ offer.value
  pub count_is : found.count ≡ count_of space past found.other + 1

-- the member's call was found by a call that gives this value
pub record IsMet (past : List Entry) (member given : ℕ) : Type 0 where
  pub pair : Pair
  pub paired : stage_of past member ≡ Paired pair
  pub given_is : given ≡ pair.finding.value

-- there is such a member, and it got the answer for each call of it that was found
pub record IsUnmet (space : Space) (past : List Entry) (member : ℕ) : Type 0 where
  pub exists : member < space.members
  pub none : (pair : Pair) → stage_of past member ≢ Paired pair

-- the call may get this answer after this history
abbrev pub IsAnswered : Space → List Entry → GroupCall → GroupReply → Type 0
IsAnswered space past (Call member tag value) (Met given other count) =
    MayCall space past member
    × Finds space past tag.0 (record { given = given; other = other; count = count })
IsAnswered space past (Call member tag value) (Wait count) =
    MayCall space past member × NobodyWaits past tag.0
    × (count ≡ count_of space past member) × (count ≢ LAST_MEETING)
IsAnswered space past (Call member tag value) Worn =
    MayCall space past member × NobodyWaits past tag.0
    × (count_of space past member ≡ LAST_MEETING)
IsAnswered space past (Call member tag value) Busy = ¬ (MayCall space past member)
IsAnswered space past (Collect member) (WasMet given) =
    (member < space.members) × IsMet past member given
IsAnswered space past (Collect member) (Wait count) =
    IsUnmet space past member × (count ≡ count_of space past member)
IsAnswered space past (Collect member) Busy = space.members ≤ member
IsAnswered space past (Leave member) (WasMet given) =
    (member < space.members) × IsMet past member given
IsAnswered space past (Leave member) Gone = IsUnmet space past member
IsAnswered space past (Leave member) Busy = space.members ≤ member
IsAnswered space past call reply = ⊥

-- a member makes its own calls, and each gets the answer that the history before it asks for
pub record IsRight (space : Space) (past : List Entry) (entry : Entry) : Type 0 where
  pub own : entry.by ≡ member_of entry.request
  pub answered : IsAnswered space past entry.request entry.reply

-- what the entries of a space mean: its state is its history
abbrev pub rendezvous : Space → Meaning (List Entry) Entry
rendezvous space =
    record {
      by = λ entry. entry.by;
      IsRight = IsRight space;
      after = λ past entry. entry ∷ past;
    }
