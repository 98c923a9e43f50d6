-- The calls of a read end are steps, and what all steps and a finish come to.
use Rattle.std.proofs.Common.{◌≡◌, ◌≢◌, inl, inr, ℕ, zero, suc, ◌+◌, ◌-◌, ◌<◌, true, List, []}
use Rattle.std.proofs.Common.{◌∷◌, ◌++◌, length, drop, refl, sym, ◌∙◌, ap, subst, arith}
use Rattle.std.proofs.Common.{length-append}
use Rattle.std.specs.Prelude.{Result, Ok, Err, take}
use Rattle.std.specs.List.{AllByRecursion}
use Rattle.std.proofs.lemmas.Bool.Decides.{nat_tests}
use Rattle.std.proofs.lemmas.List.{take_at, append-nil, append_assoc}
use Rattle.histories.specs.declared.account.Share.{Share}
use Rattle.histories.specs.Account.{has_number}
use Rattle.histories.proofs.ListLemmas.{all_past, all_since}
use Rattle.sync_base.specs.declared.fault.Fault.{Fault}
use Rattle.sync_base.specs.declared.fault.Fault.TheVariants as fault
use Rattle.sync_base.specs.declared.ids.RendezId.{RendezId}
use Rattle.sync_base.specs.declared.mode.Mode.{Mode}
use Rattle.sync_base.specs.declared.mode.Mode.TheVariants.{Message, Stream}
use Rattle.block_queue.specs.declared.entry.Entry.{Entry}
use Rattle.block_queue.specs.declared.entry.Entry.TheVariants.{NotYet, End, Hung}
use Rattle.block_queue.specs.declared.view.Key.{Key}
use Rattle.block_queue.specs.Seats.{key_of}
use Rattle.pipe_dev.specs.declared.answers.ReadAnswer.{ReadAnswer}
use Rattle.pipe_dev.specs.declared.answers.ReadAnswer.TheVariants as read
use Rattle.pipe_dev.specs.declared.answers.TryAnswer.{TryAnswer}
use Rattle.pipe_dev.specs.declared.answers.TryAnswer.TheVariants as try
use Rattle.pipe_dev.specs.declared.filling.Stop.{Stop}
use Rattle.pipe_dev.specs.declared.filling.Stop.TheVariants as stop
use Rattle.pipe_dev.specs.declared.row.Row.{Row}
use Rattle.pipe_dev.specs.Calls.{waits_by}
use Rattle.pipe_dev.specs.CallLaws.{GetsOne, ReadsAreSteps, ReadsOneOrNone, TriesAreSteps}
use Rattle.pipe_dev.specs.CallLaws.{HangupsAreSteps}
use Rattle.pipe_dev.specs.Chain.{ReadStep, AddsBytes, AddsNoByte, AddsOne, AddsParts, AddsRead}
use Rattle.pipe_dev.specs.Chain.{AddsTry, IsNoBlock, IsOfSteps, reading_at}
use Rattle.pipe_dev.specs.Ends.{WriteSide, reading_of}
use Rattle.pipe_dev.specs.Filling.{Extent, Filling, FindsNothing, Lending, StopsAt, Taker}
use Rattle.pipe_dev.specs.Filling.{TakesMore, TakesPart, begins, goes_further}
use Rattle.pipe_dev.specs.Finishing.{accepted_in, shares_of, holdings_of}
use Rattle.pipe_dev.specs.Laws.{EachWriteIsReadWholeAndOnce, IsAllOfWriter, IsAllWritten, found_at}
use Rattle.pipe_dev.specs.Parts.{Part, bytes_by, bytes_of}
use Rattle.pipe_dev.specs.ReadCalls.{AsksForBytes, Calling, Tries, TriesOn, came_to}
use Rattle.pipe_dev.specs.ReadCalls.{reading}
use Rattle.pipe_dev.specs.Rendezes.{reader_rendez}
use Rattle.pipe_dev.specs.Rounds.{Rounds}
use Rattle.waiting.specs.declared.call.Reply.{Reply}
use Rattle.waiting.specs.declared.call.Reply.TheVariants.{Done, Wait}
use Rattle.waiting.specs.Waiting.{Point, Waited, reply_of}
use Rattle.pipe_dev.proofs.LawLemmas.{each_share_is_read_whole_and_once}
use Rattle.pipe_dev.proofs.ModeLemmas.{messages_are_read_one_by_one}
use Rattle.pipe_dev.proofs.ReadingLemmas.{what_is_read_is_right}
use Rattle.pipe_dev.proofs.RoundLemmas.{has_room}
use Rattle.pipe_dev.proofs.SeatingLemmas.{either}
use Rattle.pipe_dev.proofs.OutcomeLemmas.{waited_ends}

-- ---- one step

-- a call of one step
pub one_step : {key : Key} {Adds : List Part → List Part → Type 0} {old new : Taker}
    {parts : List Part} (parts' : List Part) → Adds parts parts'
    → ReadStep key (reading_at old parts) (reading_at new parts') → IsOfSteps key Adds old parts new
one_step {old = old} {parts = parts} parts' adds step =
    record {
      parts' = parts';
      added = adds;
      times = 1;
      steps = record { between = reading_at old parts; rounds = refl; last = step };
    }

-- a call that did nothing adds nothing
pub no_step : {key : Key} {Adds : List Part → List Part → Type 0} {old new : Taker}
    {parts : List Part} → new ≡ old → Adds parts parts → IsOfSteps key Adds old parts new
no_step {parts = parts} same adds =
    record {
      parts' = parts;
      added = adds;
      times = 0;
      steps = ap (λ (t : Taker). reading_at t parts) same;
    }

-- a take that found nothing is a step that adds nothing
pub nothing_step : {key : Key} {made : Entry} {old new : Taker} (parts : List Part) → IsNoBlock made
    → FindsNothing key made old new
    → ReadStep key (reading_at old parts) (reading_at new parts)
nothing_step {made = made} parts none finds =
    inr record {
      entry = made;
      entered = finds.entered;
      no_block = none;
      rest = finds.rest ∙ sym finds.none_left;
      parts = refl;
    }

-- a part that was read, for which there was room, is one part more
pub part_step : {key : Key} {old new : Taker} {part : Part} (room : ℕ) (parts : List Part)
    → 0 < room → TakesPart key room old part new
    → ReadStep key (reading_at old parts) (reading_at new (part ∷ parts))
part_step {part = part} room parts some taken =
    inl record { room = room; some_room = some; part = part; taken = taken; parts = refl }

-- ---- steps after steps

-- some rounds, and others after them
pub rounds_then : {A : Type 0} (Round : A → A → Type 0) (times more : ℕ) (first between last : A)
    → Rounds Round times first between → Rounds Round more between last
    → (all : ℕ) × Rounds Round all first last
rounds_then Round times zero first between last before same =
    (times, subst (Rounds Round times first) (sym same) before)
rounds_then Round times (suc more) first between last before later =
    let all =
    rounds_then Round times more first between later.between before later.rounds in
    (suc all.0, record { between = later.between; rounds = all.1; last = later.last })

-- ---- reads that go on

-- one part more has room
room_left : (mode : Mode) (room : ℕ) (parts : List Part) → 0 < room
    → goes_further (record { mode = mode; room = room }) parts ≡ true
    → 0 < room - length (bytes_of parts)
room_left Message room [] some further = omega (arith, some)
room_left Message room (part ∷ parts) some further = cc
room_left Stream room parts some further =
    let low : length (bytes_of parts) < room = grind (arith, nat_tests) in omega (arith, low)

-- the parts that a try reads are as many steps
parts_steps : (key : Key) (mode : Mode) (room : ℕ) (taker : Taker) (parts : List Part) → 0 < room
    → (times : ℕ) (filling : Filling)
    → Rounds (TakesMore key (record { mode = mode; room = room })) times (begins taker) filling
    → Rounds (ReadStep key) times (reading_at taker parts)
    (reading_at filling.taker (filling.parts ++ parts))
parts_steps key mode room taker parts some zero filling taken =
    ap (λ (f : Filling). reading_at f.taker (f.parts ++ parts)) taken
parts_steps key mode room taker parts some (suc times) filling taken =
    let before = taken.between in
    record {
      between = reading_at before.taker (before.parts ++ parts);
      rounds = parts_steps key mode room taker parts some times before taken.rounds;
      last = inl record {
        room = room - length (bytes_of before.parts);
        some_room = room_left mode room before.parts some taken.last.further;
        part = taken.last.part;
        taken = taken.last.taken;
        parts = ap (λ (ps : List Part). ps ++ parts) taken.last.parts;
      };
    }

-- and where a take found nothing there is one more
stop_steps : (key : Key) (extent : Extent) (filling : Filling) (new : Taker) (parts : List Part)
    (why : Stop) → StopsAt key extent why filling new
    → (times : ℕ) × Rounds (ReadStep key) times (reading_at filling.taker parts)
    (reading_at new parts)
stop_steps key extent filling new parts stop.Enough stopped =
    (0, ap (λ (t : Taker). reading_at t parts) stopped.1)
stop_steps key extent filling new parts (stop.NotYet number) stopped = (
  1,
  record {
    between = reading_at filling.taker parts;
    rounds = refl;
    last = nothing_step {made = NotYet number} parts tt stopped.1.nothing;
  },
)
stop_steps key extent filling new parts stop.End stopped = (
  1,
  record {
    between = reading_at filling.taker parts;
    rounds = refl;
    last = nothing_step {made = End} parts tt stopped.1;
  },
)

-- one try: the bytes that it gave stand in the buffer
try_adds : {key : Key} {row : Row} {old : Calling} {count : ℕ} {why : Stop} {new : Calling}
    (parts : List Part) → old.seat.buffer ≢ [] → TriesOn key row old (came_to count why) new
    → IsOfSteps key (AddsParts (take count new.seat.buffer)) old.seat.taker parts new.seat.taker
try_adds {key} {row} {old} {count} {why} {new} parts room tries =
    let fills = tries.fills in
    let read = fills.filling.parts in
    let extent : Extent = record { mode = row.mode; room = length old.seat.buffer } in
    let stops = stop_steps key extent fills.filling new.seat.taker (read ++ parts) why
    fills.stopped in
    let all = rounds_then (ReadStep key) fills.times stops.0 (reading_at old.seat.taker parts)
    (reading_at fills.filling.taker (read ++ parts)) (reading_at new.seat.taker (read ++ parts))
    (parts_steps key row.mode (length old.seat.buffer) old.seat.taker parts
    (has_room old.seat.buffer room) fills.times fills.filling fills.taken) stops.1 in
    record {
      parts' = read ++ parts;
      added = record {
        added = read;
        bytes_are = sym
            (ap (take count) fills.filled.bytes_are
            ∙ take_at (bytes_of read) (drop count old.seat.buffer) count
            (sym fills.filled.count_is));
        parts_are = refl;
      };
      times = all.0;
      steps = all.1;
    }

-- one try of messages: one part, or nothing
one_part : (key : Key) (row : Row) (old new : Calling) (count : ℕ) → old.seat.buffer ≢ []
    → (parts : List Part) → GetsOne key row old count new
    → IsOfSteps key (AddsOne (take count new.seat.buffer)) old.seat.taker parts new.seat.taker
one_part key row old new count room parts one =
    one_step (one.part ∷ parts)
    (record {
      part = one.part;
      bytes_are = sym
          (ap (take count) one.filled.bytes_are
          ∙ take_at one.part.bytes (drop count old.seat.buffer) count (sym one.filled.count_is));
      parts_are = refl;
    })
    (part_step (length old.seat.buffer) parts (has_room old.seat.buffer room) one.taken)

-- each read that does not wait is such steps
pub tries_are_steps : TriesAreSteps
tries_are_steps key row old answer new room tries parts = by row.mode answer tries
  where
    one : (told : Reply ReadAnswer)
        → AsksForBytes key (record row { mode = Message }) old told new
        → ReadsOneOrNone key (record row { mode = Message }) old told new
    one told =
        messages_are_read_one_by_one key (record row { mode = Message }) old told new refl

    by : (mode : Mode) (answer : TryAnswer) → Tries key (record row { mode = mode }) old answer new
        → IsOfSteps key (AddsTry mode answer new.seat.buffer) old.seat.taker parts new.seat.taker
    by Message (try.Got count) gives =
        one_part key (record row { mode = Message }) old new count room parts
        (one (Done (read.Got count)) gives)
    by Message try.NotYet tries =
        one_step parts refl
        (nothing_step {made = NotYet tries.number} parts tt
        (one (Wait tries.number) tries.tried).nothing)
    by Message try.End tries =
        one_step parts refl (nothing_step {made = End} parts tt (one (Done read.End) tries).nothing)
    by Stream (try.Got count) gives = try_adds parts room gives.tried
    by Stream try.NotYet tries = try_adds parts room tries.tried
    by Stream try.End tries = try_adds parts room tries

-- ---- a read that waits

-- the newest parts stand in front
bytes_append : (xs ys : List Part) → bytes_of (xs ++ ys) ≡ bytes_of ys ++ bytes_of xs
bytes_append [] ys = sym (append-nil (bytes_of ys))
bytes_append (x ∷ xs) ys =
    ap (λ (bs : List ℕ). bs ++ x.bytes) (bytes_append xs ys)
    ∙ append_assoc (bytes_of ys) (bytes_of xs) x.bytes

-- what is added after empty writes
parts_then : (parts between after : List Part) (bytes : List ℕ) → AddsParts [] parts between
    → AddsParts bytes between after → AddsParts bytes parts after
parts_then parts between after bytes first second =
    record {
      added = second.added ++ first.added;
      bytes_are =
          bytes_append second.added first.added
          ∙ (ap (λ (xs : List ℕ). xs ++ bytes_of second.added) first.bytes_are
          ∙ second.bytes_are);
      parts_are =
          second.parts_are
          ∙ (ap (λ (ps : List Part). second.added ++ ps) first.parts_are
          ∙ sym (append_assoc second.added first.added parts));
    }

-- a call that did nothing adds nothing in either mode
adds_none : (mode : Mode) (parts : List Part) → AddsNoByte mode parts parts
adds_none Message parts = refl
adds_none Stream parts = record { added = []; bytes_are = refl; parts_are = refl }

-- what is added after a request that was told to wait
waits_then : (mode : Mode) (parts between after : List Part) → AddsNoByte mode parts between
    → AddsNoByte mode between after → AddsNoByte mode parts after
waits_then Message parts between after none adds = adds ∙ none
waits_then Stream parts between after none adds = parts_then parts between after [] none adds

bytes_then : (mode : Mode) (bytes : List ℕ) (parts between after : List Part)
    → AddsNoByte mode parts between → AddsBytes mode bytes between after
    → AddsBytes mode bytes parts after
bytes_then Message bytes parts between after none adds =
    subst (λ (ps : List Part). AddsOne bytes ps after) none adds
bytes_then Stream bytes parts between after none adds =
    parts_then parts between after bytes none adds

adds_then : (mode : Mode) (buffer : List ℕ) (answer : Result ReadAnswer Fault)
    (parts between after : List Part) → AddsNoByte mode parts between
    → AddsRead mode answer buffer between after → AddsRead mode answer buffer parts after
adds_then mode buffer (Ok (read.Got count)) parts between after none adds =
    bytes_then mode (take count buffer) parts between after none adds
adds_then mode buffer (Ok read.End) parts between after none adds =
    waits_then mode parts between after none adds
adds_then mode buffer (Err why) parts between after none adds =
    waits_then mode parts between after none adds

-- A read that waits, by what each of its requests does: one that is told to wait adds no byte and
-- leaves the buffer with room, and the last one adds what the read does.
module _ (key : Key) (mode : Mode) (Asks : Calling → Reply ReadAnswer → Calling → Type 0)
    (Room : List ℕ → Type 0)
    (waits : (old : Calling) (number : ℕ) (new : Calling) → Room old.seat.buffer
    → Asks old (Wait number) new
    → Room new.seat.buffer
    × ((parts : List Part) → IsOfSteps key (AddsNoByte mode) old.seat.taker parts new.seat.taker))
    (ends : (old : Calling) (answer : Result ReadAnswer Fault) (new : Calling)
    → Room old.seat.buffer → Asks old (reply_of answer) new
    → (parts : List Part)
    → IsOfSteps key (AddsRead mode answer new.seat.buffer) old.seat.taker parts new.seat.taker)
    (first : Calling) (parts : List Part) where
  abbrev On : Lending → Type 0
  On seat =
      Room seat.buffer × IsOfSteps key (AddsNoByte mode) first.seat.taker parts seat.taker

  abbrev Over : Result ReadAnswer Fault → Lending → Type 0
  Over answer seat =
      IsOfSteps key (AddsRead mode answer seat.buffer) first.seat.taker parts seat.taker

  -- one request more
  more : (Adds : List Part → List Part → Type 0) (old new : Point Lending)
      → ((between after : List Part) → AddsNoByte mode parts between → Adds between after
      → Adds parts after)
      → IsOfSteps key (AddsNoByte mode) first.seat.taker parts old.seat.taker
      → ((ps : List Part) → IsOfSteps key Adds old.seat.taker ps new.seat.taker)
      → IsOfSteps key Adds first.seat.taker parts new.seat.taker
  more Adds old new joins before asked =
      let later = asked before.parts' in
      let all = rounds_then (ReadStep key) before.times later.times
      (reading_at first.seat.taker parts) (reading_at old.seat.taker before.parts')
      (reading_at new.seat.taker later.parts') before.steps later.steps in
      record {
        parts' = later.parts';
        added = joins before.parts' later.parts' before.added later.added;
        times = all.0;
        steps = all.1;
      }

  -- so the whole read is such steps
  pub waited_steps : (rendez : RendezId) (answer : Result ReadAnswer Fault) (new : Calling)
      → Room first.seat.buffer → Waited (waits_by Asks) rendez first answer new
      → IsOfSteps key (AddsRead mode answer new.seat.buffer) first.seat.taker parts new.seat.taker
  waited_steps rendez answer new room waited =
      waited_ends Asks rendez On Over
      (λ old new number on asks. let next = waits old number new on.0 asks in
      (next.0, more (AddsNoByte mode) old new (waits_then mode parts) on.1 next.1))
      (λ old new answer on asks. more (AddsRead mode answer new.seat.buffer) old new
      (adds_then mode new.seat.buffer answer parts) on.1 (ends old answer new on.0 asks))
      (λ seat why on. on.1) first answer new
      (room, record { parts' = parts; added = adds_none mode parts; times = 0; steps = refl })
      waited

-- each request of a read
module _ (key : Key) (row : Row) where
  waits_so : (old : Calling) (number : ℕ) (new : Calling) → old.seat.buffer ≢ []
      → AsksForBytes key row old (Wait number) new
      → (new.seat.buffer ≢ [])
      × ((parts : List Part)
      → IsOfSteps key (AddsNoByte row.mode) old.seat.taker parts new.seat.taker)
  waits_so old number new room asks = (
    λ none. let filled = asks.fills.filled in
        let some = has_room old.seat.buffer room in
        let size = ap length filled.bytes_are
        ∙ length-append (bytes_of asks.fills.filling.parts) old.seat.buffer in
        let empty : length new.seat.buffer ≡ 0 = ap length none in
        absurd (omega (arith, some, size, empty)),
    tries_are_steps key row old try.NotYet new room (record { number = number; tried = asks }),
  )

  ends_so : (old : Calling) (answer : Result ReadAnswer Fault) (new : Calling)
      → old.seat.buffer ≢ [] → AsksForBytes key row old (reply_of answer) new → (parts : List Part)
      → IsOfSteps key (AddsRead row.mode answer new.seat.buffer) old.seat.taker parts new.seat.taker
  ends_so old (Ok (read.Got count)) new room asks =
      tries_are_steps key row old (try.Got count) new room asks
  ends_so old (Ok read.End) new room asks = tries_are_steps key row old try.End new room asks
  ends_so old (Err why) new room asks = absurd asks

  reads_so : (old : Calling) (answer : Result ReadAnswer Fault) (new : Calling)
      (parts : List Part) → old.seat.buffer ≢ []
      → Waited (reading key row) (reader_rendez row) old answer new
      → IsOfSteps key (AddsRead row.mode answer new.seat.buffer) old.seat.taker parts new.seat.taker
  reads_so old answer new parts room waited =
      waited_steps key row.mode (AsksForBytes key row) (λ buffer. buffer ≢ []) waits_so ends_so
      old parts (reader_rendez row) answer new room waited

-- each read is steps of its end, and adds the parts whose bytes it got in its buffer
pub reads_are_steps : ReadsAreSteps
reads_are_steps key row old (Ok answer) new room reads parts =
    reads_so key row old (Ok answer) new parts room reads
reads_are_steps key row old (Err fault.BadCount) new room reads parts =
    no_step (ap (λ (c : Calling). c.seat.taker) reads) (adds_none row.mode parts)
reads_are_steps key row old (Err fault.NoRendez) new room reads parts =
    no_step (ap (λ (c : Calling). c.seat.taker) reads) (adds_none row.mode parts)
reads_are_steps key row old (Err why) new room reads parts =
    reads_so key row old (Err why) new parts room reads

-- a hangup by the reader is one step of its end, and adds no part
pub hangups_are_steps : HangupsAreSteps
hangups_are_steps key old new enters rest parts =
    one_step parts refl
    (inr (record { entry = Hung 0; entered = enters; no_block = tt; rest = rest; parts = refl }))

-- ---- what is read and held is what was written

-- the share of the writer is among those of its end
one_write : (pieces : List Part) (writer : ℕ) (blocks : List (List ℕ)) (shares : List (Share Entry))
    → AllByRecursion (IsAllOfWriter pieces) shares
    → AllByRecursion (λ share. share.number ≡ writer + 1 → accepted_in share.mine ≡ blocks) shares
    → has_number shares (writer + 1) ≡ true → bytes_by writer pieces ≡ blocks
one_write pieces writer blocks [] all are has = cc
one_write pieces writer blocks (share ∷ shares) all are has =
    either share.number (writer + 1) (has_number shares (writer + 1))
    (λ same. all.0 writer same ∙ are.0 same)
    (one_write pieces writer blocks shares all.1 are.1) has

each_write : (pieces : List Part) (writes : List WriteSide)
    → AllByRecursion (IsAllOfWriter pieces) (shares_of writes)
    → AllByRecursion (IsAllWritten pieces) writes
each_write pieces [] all = tt
each_write pieces (write ∷ writes) all = (
  λ blocks written. one_write pieces write.writer blocks write.account.shares
      (all_since (IsAllOfWriter pieces) write.account.shares (shares_of writes) all) written.are
      written.own,
  each_write pieces writes
      (all_past (IsAllOfWriter pieces) write.account.shares (shares_of writes) all),
)

-- what was read and what a finish gives are each write end's writes that were answered a number,
-- in its order, each whole and once
pub each_write_is_read_whole_and_once : EachWriteIsReadWholeAndOnce
each_write_is_read_whole_and_once read parts writes held made gives =
    each_write (found_at read parts held) writes
    (each_share_is_read_whole_and_once (key_of read.queue) (reading_of read parts)
    (shares_of writes) (holdings_of held)
    (what_is_read_is_right (key_of read.queue) (reading_of read parts) made)
    (gives parts).finishes)
