-- What clauses see of a read end that several processes share, each of which reads in its turn.
-- Own: the turn is the unit of a semaphore, where Plan 9's pipes have a lock (qlock in lock(2)), so
-- that a note ends the wait for it.
use Rattle.std.specs.Prelude.{◌≡◌, ◌≢◌, ◌↔◌, ◌⊎◌, ⊤, ℕ, Bool, true, false, List, []}
use Rattle.std.specs.Prelude.{None, Result, Ok, Err, IsErrOf, IfErr}
use Rattle.sync_base.specs.declared.fault.Fault.{Fault}
use Rattle.sync_base.specs.declared.fault.Fault.TheVariants.{BadCount, NoRendez}
use Rattle.sleep_core.specs.Limits.{IsProcCount}
use Rattle.sleep_wakeup.specs.Kernel.{Running, Unused, HasRendez, rendez_less}
use Rattle.semaphore.specs.Acquiring.{Semacquires}
use Rattle.semaphore.specs.Opening.{WhyNotOpened}
use Rattle.semaphore.specs.Releasing.{Releases}
use Rattle.semaphore.specs.Seats as sema
use Rattle.waiting.specs.Waiting.{point}
use Rattle.block_queue.specs.Seats.{key_of}
use Rattle.pipe_dev.specs.declared.answers.ReadAnswer.{ReadAnswer}
use Rattle.pipe_dev.specs.declared.answers.TryAnswer.{TryAnswer}
use Rattle.pipe_dev.specs.declared.answers.TryAnswer.TheVariants as try
use Rattle.pipe_dev.specs.BlockReads.{ReadsBlock}
use Rattle.pipe_dev.specs.Ends.{ReadSide, IsSameReadEnd}
use Rattle.pipe_dev.specs.ReadCalls.{Tries, calling}
use Rattle.pipe_dev.specs.Rendezes.{OwnsRow}
use Rattle.plan9.specs.declared.shares.Share.{Share}
use Rattle.plan9.specs.declared.shares.SharedEnd.{SharedEnd}
use Rattle.plan9.specs.declared.shares.Unshared.{Unshared}
use Rattle.plan9.specs.declared.place.Receipt.{Receipt}
use Rattle.plan9.specs.Callers.{Reader, reader}
use Rattle.plan9.specs.Places.{IsLaid}
use Rattle.plan9.specs.Readings.{ReadsBy}
use Rattle.plan9.specs.Chains.{AreChained, MayHave, WhyNotMany}
use Rattle.plan9.specs.Semaphores.{Seated, IsFirst, IsFurther, IsNew, IsSameSeat, KnowsNoSeat}
use Rattle.plan9.specs.Semaphores.{got, got_now}

-- the end that is shared, as it was at first
abbrev pub first_end : SharedEnd → ReadSide
first_end shared = shared.place.slot.value

-- and the end of a share
abbrev pub end_of : Share → ReadSide
end_of share = share.place.now.slot.value

-- ---- who shares

-- a new semaphore of one unit, which is the turn, and this end; this many Rendez are used up
pub record IsNewShared (before : Unused) (end : ReadSide) (procs : ℕ) (shared : SharedEnd)
    (after : Unused) : Type 0 where
  pub in_range : IsProcCount procs
  pub room : HasRendez before procs
  pub turns : IsNew before 1 procs shared.turns
  pub end_is : first_end shared ≡ end
  pub roster : after ≡ rendez_less procs before

-- the end was refused, as a semaphore of one unit is, and no Rendez is used up; the end comes back
pub record IsNotShared (before : Unused) (end : ReadSide) (procs : ℕ) (refused : Unshared)
    (after : Unused) : Type 0 where
  pub why : WhyNotOpened before 1 procs refused.fault
  pub end_is : refused.end ≡ end
  pub roster : after ≡ before

-- the share that nobody had
pub record IsFirstShare (shared : SharedEnd) (share : Share) : Type 0 where
  pub first : IsFirst shared.turns share.seat
  pub end_is : end_of share ≡ first_end shared

-- the same share of the same end
pub record IsSameShare (old new : Share) : Type 0 where
  pub seat_is : IsSameSeat old.seat new.seat
  pub end_is : end_of new ≡ end_of old

-- a share of the same end that was given to no other
pub record IsFurtherShare (old new child : Share) : Type 0 where
  pub further : IsFurther old.seat new.seat child.seat
  pub end_is : end_of child ≡ end_of old

-- all shares were given, as far as the share can know
abbrev pub KnowsNoShare : Share → Share → Type 0
KnowsNoShare old new = KnowsNoSeat old.seat new.seat

-- ---- many at once

-- a share gives another
pub record GivesShare (old new child : Share) : Type 0 where
  pub same : IsSameShare old new
  pub further : IsFurtherShare old new child

-- so many shares: the first one, and each other given by the one before it
abbrev pub AreShares : SharedEnd → ℕ → List Share → Type 0
AreShares shared = AreChained GivesShare (IsFirstShare shared)

-- one or more are asked for, and no more than the end has
abbrev pub MayShare : SharedEnd → ℕ → Type 0
MayShare shared = MayHave shared.turns.sema.procs

-- why there are no shares
abbrev pub WhyNoShares : SharedEnd → ℕ → Fault → Type 0
WhyNoShares shared =
    WhyNotMany GivesShare (IsFirstShare shared) KnowsNoShare (shared.turns.spare ≡ None)
    shared.turns.sema.procs

-- ---- a turn

-- a seat at the turns, and the process that calls by it
pub record Turn : Type 0 where
  pub seat : Seated
  pub proc : Running

abbrev pub turn : Seated → Running → Turn
turn seat proc = record { seat = seat; proc = proc }

-- a share, and the process that reads by it
pub record Sharer : Type 0 where
  pub share : Share
  pub proc : Running

abbrev pub sharer : Share → Running → Sharer
sharer share proc = record { share = share; proc = proc }

-- its seat at the turns
abbrev pub turn_of : Sharer → Turn
turn_of sharer = turn sharer.share.seat sharer.proc

-- the process may ask for a turn: its kernel has the Rendez of the turns
abbrev pub KnowsTurns : Turn → Type 0
KnowsTurns turn = sema.OwnsRow turn.seat.sema turn.proc.words

-- it asked for a turn, and waited for it where another process had it
abbrev pub AsksForTurn : Result ⊤ Fault → Turn → Turn → Type 0
AsksForTurn answer old new =
    Semacquires true old.seat.sema (point old.seat.seat old.proc) (got answer)
    (point new.seat.seat new.proc)

-- it asked for a turn, and did not wait for it
abbrev pub AsksNow : Bool → Turn → Turn → Type 0
AsksNow has old new =
    Semacquires false old.seat.sema (point old.seat.seat old.proc) (got_now has)
    (point new.seat.seat new.proc)

-- it gave the turn back, once, and woke the process that got it
pub record GivesTurnBack (old new : Turn) : Type 0 where
  pub answer : Result ℕ Fault
  pub called : Releases old.seat.sema 1 (point old.seat.seat old.proc) answer
      (point new.seat.seat new.proc)

-- a buffer, before and after a call
pub record Buffers : Type 0 where
  pub before : List ℕ
  pub after : List ℕ

abbrev pub buffers : List ℕ → List ℕ → Buffers
buffers before after = record { before = before; after = after }

-- one call of an end of this direction, as the end was before the call and after it
pub record CallsShared (end : ReadSide) (old : Running) (Call : Reader → Reader → Type 0)
    (new : Running) : Type 0 where
  pub lay : ReadSide
  pub lies : ReadSide
  pub lay_is : IsSameReadEnd end lay
  pub lies_is : IsSameReadEnd end lies
  pub called : Call (reader lay old) (reader lies new)
  pub words_are : new.words ≡ old.words

-- and a receipt says that the end was laid down as it was after the call
pub record CallsAndLays (end : ReadSide) (old : Running) (Call : Reader → Reader → Type 0)
    (laid : Receipt) (new : Running) : Type 0 where
  pub calls : CallsShared end old Call new
  pub laid_is : IsLaid calls.lies laid

-- A read, with this answer. A buffer of no bytes is refused first, and then a process of a kernel
-- that has too few Rendez for the direction.
pub record ReadsOnce (buffer : Buffers) (answer : Result ReadAnswer Fault) (old new : Reader) :
    Type 0 where
  pub bad_count : IsErrOf answer BadCount ↔ (buffer.before ≡ [])
  pub no_rendez : buffer.before ≢ []
      → (IsErrOf answer NoRendez ↔ ¬ OwnsRow old.proc.words old.end.row)
  pub reads : ReadsBy old buffer.before answer new buffer.after

-- the read of a block
pub record ReadsBlockOnce (block : Buffers) (answer : Result ReadAnswer Fault)
    (old new : Reader) : Type 0 where
  pub no_rendez : IsErrOf answer NoRendez ↔ ¬ OwnsRow old.proc.words old.end.row
  pub reads : ReadsBlock (key_of old.end.queue) old.end.row
      (calling old.end old.proc block.before) answer
      (calling new.end new.proc block.after)

-- what a read that doesn't wait did; a refused read did nothing
abbrev pub TriesBy : Reader → List ℕ → Result TryAnswer Fault → Reader → List ℕ → Type 0
TriesBy old buffer (Ok answer) new buffer' =
    Tries (key_of old.end.queue) old.end.row (calling old.end old.proc buffer) answer
    (calling new.end new.proc buffer')
TriesBy old buffer (Err why) new buffer' =
    calling new.end new.proc buffer' ≡ calling old.end old.proc buffer

-- A read that doesn't wait. It is refused as a read is, and for nothing else.
pub record TriesOnce (buffer : Buffers) (answer : Result TryAnswer Fault) (old new : Reader) :
    Type 0 where
  pub bad_count : IsErrOf answer BadCount ↔ (buffer.before ≡ [])
  pub no_rendez : buffer.before ≢ []
      → (IsErrOf answer NoRendez ↔ ¬ OwnsRow old.proc.words old.end.row)
  pub fault : IfErr answer (λ why. (why ≡ BadCount) ⊎ (why ≡ NoRendez))
  pub tries : TriesBy old buffer.before answer new buffer.after

-- it asked and got its turn, made this call, and gave the turn back
pub record HasTurn (Asks : Turn → Turn → Type 0) (old : Sharer)
    (Call : Reader → Reader → Type 0) (new : Sharer) : Type 0 where
  pub knows : KnowsTurns (turn_of old)
  pub begun : Turn
  pub called : Running
  pub asks : Asks (turn_of old) begun
  pub calls : CallsShared (end_of old.share) begun.proc Call called
  pub gives_back : GivesTurnBack (turn begun.seat called) (turn_of new)

-- it asked and got no turn, and did nothing else
pub record HasNoTurn (Asks : Turn → Turn → Type 0) (old : Sharer) (buffer : Buffers)
    (new : Sharer) : Type 0 where
  pub knows : KnowsTurns (turn_of old)
  pub asks : Asks (turn_of old) (turn_of new)
  pub buffer_same : buffer.after ≡ buffer.before

-- it may not ask for a turn: it was refused for that, and nothing was done
pub record MayNotAsk (old : Sharer) (buffer : Buffers) (why : Fault) (new : Sharer) : Type 0 where
  pub unknown : ¬ KnowsTurns (turn_of old)
  pub why_is : why ≡ NoRendez
  pub same : new ≡ old
  pub buffer_same : buffer.after ≡ buffer.before

-- what a call in turn did, by its answer: a refused call may not ask, or got no turn, or called and
-- was refused
abbrev pub InTurn : (Buffers → Result ReadAnswer Fault → Reader → Reader → Type 0)
    → Sharer → Buffers → Result ReadAnswer Fault → Sharer → Type 0
InTurn Call old buffer (Ok answer) new =
    HasTurn (AsksForTurn (Ok tt)) old (Call buffer (Ok answer)) new
InTurn Call old buffer (Err why) new =
    MayNotAsk old buffer why new
    ⊎ (HasNoTurn (AsksForTurn (Err why)) old buffer new
    ⊎ HasTurn (AsksForTurn (Ok tt)) old (Call buffer (Err why)) new)

-- what a call did that does not wait for its turn: NotYet is also the answer where another process
-- has the turn
abbrev pub TriesInTurn : Sharer → Buffers → Result TryAnswer Fault → Sharer → Type 0
TriesInTurn old buffer (Ok try.NotYet) new =
    HasNoTurn (AsksNow false) old buffer new
    ⊎ HasTurn (AsksNow true) old (TriesOnce buffer (Ok try.NotYet)) new
TriesInTurn old buffer (Ok answer) new =
    HasTurn (AsksNow true) old (TriesOnce buffer (Ok answer)) new
TriesInTurn old buffer (Err why) new =
    MayNotAsk old buffer why new ⊎ HasTurn (AsksNow true) old (TriesOnce buffer (Err why)) new
