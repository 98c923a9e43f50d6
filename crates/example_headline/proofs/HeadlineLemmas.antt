-- What all ends of a crew come to.
use Rattle.std.proofs.Common.{[], ◌≡◌, ◌+◌, ◌++◌, ◌<◌, ℕ, zero, suc, List, ◌∷◌, length, map, refl}
use Rattle.std.proofs.Common.{sym, true}
use Rattle.std.proofs.Common.{◌∙◌, ap, subst, arith}
use Rattle.std.specs.Prelude.{Option, Some, None, slice_index_or, take}
use Rattle.std.specs.List.{AllByRecursion, AllZip}
use Rattle.std.proofs.lemmas.List.{length-map, take_all}
use Rattle.histories.specs.Account.{HasItsEntries, numbers_from}
use Rattle.histories.specs.History.{entries_by}
use Rattle.histories.proofs.ListLemmas.{all_past, all_since, all_weaker}
use Rattle.sync_base.specs.declared.fault.Fault.{Fault}
use Rattle.sync_base.specs.declared.flags.Flags.{Flags}
use Rattle.sync_base.specs.declared.mode.Mode.TheVariants.{Message}
use Rattle.sync_base.specs.Write.{Write}
use Rattle.rendez_words.specs.declared.words.Words.{Words}
use Rattle.rendez_words.specs.Process.{Process}
use Rattle.sleep_wakeup.specs.Forks.{Forks}
use Rattle.sleep_wakeup.specs.Kernel.{Running, Unused}
use Rattle.histories.specs.declared.account.Account.{Account}
use Rattle.block_queue.specs.declared.entry.Entry.{Entry}
use Rattle.block_queue.specs.declared.entry.Entry.TheVariants.{Hung, Hungup}
use Rattle.block_queue.specs.declared.queue.Queue.{Queue}
use Rattle.block_queue.specs.declared.view.Key.{Key}
use Rattle.block_queue.specs.History.{seat_of}
use Rattle.block_queue.specs.Seats.{key_of}
use Rattle.pipe_dev.specs.declared.pipe.DirectionStart.{DirectionStart}
use Rattle.pipe_dev.specs.declared.row.Row.{Row}
use Rattle.pipe_dev.specs.Ends.{AreOfOne, ReadSide, WriteSide, reading_of}
use Rattle.pipe_dev.specs.Finishing.{GivesHeld, accepted_in, left_state, shares_of}
use Rattle.pipe_dev.specs.Laws.{IsAllWritten}
use Rattle.pipe_dev.specs.Openings.{IsDirectionStartOf, AreNewEnds, IsNewWriteEnd, key_for}
use Rattle.pipe_dev.specs.Parts.{Part, whole_from, bytes_by}
use Rattle.pipe_dev.specs.Reading.{IsReading, seen_state}
use Rattle.pipe_dev.specs.Rendezes.{OwnsRow}
use Rattle.pipe_dev.specs.Sides.{HasWrittenJust}
use Rattle.pipe_dev.specs.WriteCalls.{HasHang}
use Rattle.pipe_dev.proofs.AboveLemmas.{readers_above, writers_above}
use Rattle.pipe_dev.proofs.LawLemmas.{LegalFor, none_is_accepted_after_hangup}
use Rattle.pipe_dev.proofs.ReadingLemmas.{what_is_read_is_right}
use Rattle.pipe_dev.proofs.SideLemmas.{new_ends_are_unused, calls_keep_all_ends}
use Rattle.pipe_dev.proofs.SideLemmas.{finishes_find_accepted}
use Rattle.example_headline.specs.declared.crew.Crew.{Crew}
use Rattle.example_headline.specs.declared.settling.Outcome.{Outcome}
use Rattle.example_headline.specs.declared.settling.Written.{Written}
use Rattle.example_headline.specs.declared.writer.Writer.{Writer}
use Rattle.example_headline.specs.Crew.{IsReady, IsFresh, HasReadOn, HasWrittenOn, OfMine}
use Rattle.example_headline.specs.Crew.{EndsFor, HasEnded, HasMadeNone, HasWorked, HaveWoken}
use Rattle.example_headline.specs.Crew.{CountsAll, HasRoom, IsClearWriter, ends_of, messages_of}
use Rattle.example_headline.specs.Crew.{written_of}
use Rattle.example_headline.specs.Headline.{AreFirst, AreTheirs, AreWritersOf, HasHistory}
use Rattle.example_headline.specs.Headline.{IsReaderOf, IsWholeAndOnce, IsWriterOf, KeepsHeadline}
use Rattle.example_headline.specs.Headline.{accepted_of}
use Rattle.example_headline.specs.Refusals.{EachHungupIsAfterHangup, HangsUpLast, HasHungUp}
use Rattle.example_headline.specs.Refusals.{IsClear}
use Rattle.example_headline.specs.Refusals.{TellsWhyRefused, TellsWhyStopped}
use Rattle.example_headline.specs.Wakes.{HasWoken, Wakes}
use Rattle.example_headline.proofs.CrewLemmas.{same_ends, still_counts}
use Rattle.example_headline.proofs.EndLemmas.{is_held_hung, nothing_is_held}
use Rattle.example_headline.proofs.MineLemmas.{of_history, of_mine_weaker}
use Rattle.example_headline.proofs.WakeLemmas.{have_woken}

-- the ends of a new direction
pub fresh_ends : (queue : Queue) (start : DirectionStart) (read : ReadSide)
    (writes : List WriteSide)
    → IsDirectionStartOf queue start → start.row.mode ≡ Message
    → AreNewEnds queue start.row read writes
    → IsFresh read writes
fresh_ends queue start read writes is_start mode new =
    record {
      ends = record {
        all = new.all;
        known = ap (λ row. row.writers) new.row_is
            ∙ (is_start.row_is.writers ∙ ap (λ q. (key_of q).writers) (sym new.queue_is));
      };
      mode = ap (λ row. row.mode) new.row_is ∙ mode;
      unused = new_ends_are_unused queue start read writes is_start new;
      reader = subst (HasMadeNone 0) (sym new.unread) (λ same. refl, tt);
      writers = each writes new.unwritten;
    }
  where
    each : (some : List WriteSide) → AllByRecursion (IsNewWriteEnd queue start.row) some
        → AllByRecursion (λ write. HasMadeNone (write.writer + 1) write.account) some
    each [] unwritten = tt
    each (write ∷ others) unwritten = (
      subst (HasMadeNone (write.writer + 1)) (sym unwritten.0.unused) (λ same. refl, tt),
      each others unwritten.1,
    )

-- as many writers have written on
as_many : (olds news : List Writer) → AllZip HasWrittenOn olds news → length news ≡ length olds
as_many [] [] on = refl
as_many [] (new ∷ news) on = absurd on
as_many (old ∷ olds) [] on = absurd on
as_many (old ∷ olds) (new ∷ news) on = ap suc (as_many olds news on.1)

-- a crew that has worked is still ready
pub still_ready : (old new : Crew) → IsReady old → HasReadOn old.reader new.reader
    → AllZip HasWrittenOn old.writers.items new.writers.items → new.room ≡ old.room → IsReady new
still_ready old new ready reader writers room =
    record {
      room = subst (HasRoom (length new.writers.items)) (sym room)
          (subst (λ (n : ℕ). HasRoom n old.room)
          (sym (as_many old.writers.items new.writers.items writers)) ready.room);
      ends = record {
        all = calls_keep_all_ends old.reader.end new.reader.end (ends_of old.writers.items)
            (ends_of new.writers.items) reader.end
            (same_ends old.writers.items new.writers.items writers) ready.ends.all;
        known = ap (λ row. row.writers) reader.end.row
            ∙ (ready.ends.known ∙ ap (λ q. (key_of q).writers) (sym reader.end.queue));
      };
      keeps = reader.keeps ready.keeps;
      counts = still_counts old.writers.items new.writers.items writers ready.counts;
    }

abbrev first_of : List ℕ → ℕ
first_of [] = 0
first_of (x ∷ xs) = x

abbrev others_of : List ℕ → List ℕ
others_of [] = []
others_of (x ∷ xs) = xs

-- a list of so many numbers from the first on has that length
pub length_numbers : (first count : ℕ) → length (numbers_from first count) ≡ count
length_numbers first zero = refl
length_numbers first (suc count) = ap suc (length_numbers (first + 1) count)

-- each writer's pieces are what it counts
pub their_pieces : (pieces : List Part) (first count : ℕ) (writers : List Writer)
    → map (λ write. write.writer) (ends_of writers) ≡ numbers_from first count
    → AllByRecursion (IsAllWritten pieces) (ends_of writers)
    → AllByRecursion CountsAll writers
    → AreTheirs first (map written_of writers) pieces
their_pieces pieces first count [] order all counts = tt
their_pieces pieces first zero (writer ∷ writers) order all counts = cc
their_pieces pieces first (suc count) (writer ∷ writers) order all counts = (
  ap (λ n. bytes_by n pieces) (sym (ap first_of order)) ∙ all.0 (accepted_of (written_of writer))
      counts.0.just,
  their_pieces pieces (first + 1) count writers (ap others_of order) all.1 counts.1,
)

-- what is told of writers has their messages
told_messages : (writers : List Writer)
    → map (λ (written : Written). written.messages.items) (map written_of writers)
    ≡ messages_of writers
told_messages [] = refl
told_messages (writer ∷ writers) =
    ap (λ mss. writer.messages.items ∷ mss) (told_messages writers)

-- of writers that count all, and have ended, the first of their messages were accepted
are_first : (writers : List Writer) → AllByRecursion CountsAll writers
    → AllByRecursion HasEnded writers → AllByRecursion AreFirst (map written_of writers)
are_first [] counts ended = tt
are_first (writer ∷ writers) counts ended = (
  record {
    within = counts.0.within;
    all = λ none.
        let most = counts.0.within in
        let least = ended.0.all none in
        omega (arith, most, least);
  },
  are_first writers counts.1 ended.1,
)

-- where no write was refused, all messages were accepted
all_are_accepted : (writers : List Written) → AllByRecursion AreFirst writers
    → AllByRecursion (λ written. written.refused ≡ None) writers
    → map accepted_of writers ≡ map (λ (written : Written). written.messages.items) writers
all_are_accepted [] first none = refl
all_are_accepted (written ∷ others) first none =
    let all = first.0.all none.0 in
    ap (λ (ms : List (List ℕ)). ms ∷ map accepted_of others)
    (take_all written.accepted written.messages.items (omega (arith, all)))
    ∙ ap (λ mss. written.messages.items ∷ mss) (all_are_accepted others first.1 none.1)

-- a direction is hung up only after a hangup
was_hung : (key : Key) (history : List Entry) → (left_state key history).hung ≡ true
    → HasHang history
was_hung key [] hung = cc
was_hung key (Hung seat ∷ past) hung = tt
was_hung key (entry ∷ past) hung = was_hung key past hung

-- so a write is told so only after one
each_hungup_is_after_hangup : (key : Key) (history : List Entry) → LegalFor key history
    → EachHungupIsAfterHangup history
each_hungup_is_after_hangup key [] legal = tt
each_hungup_is_after_hangup key (Hungup writer block ∷ past) legal =
    (was_hung key past legal.0.may, each_hungup_is_after_hangup key past legal.1)
each_hungup_is_after_hangup key (entry ∷ past) legal =
    each_hungup_is_after_hangup key past legal.1

-- the process of a writer
abbrev pub process_of : Writer → Process
process_of writer = writer.proc.process

-- all write ends have the Rendez of the read end
rows_of : (read : ReadSide) (writes : List WriteSide) → AllByRecursion (AreOfOne read) writes
    → AllByRecursion (λ write. write.row ≡ read.row) writes
rows_of read writes one =
    all_weaker (AreOfOne read) (λ (write : WriteSide). write.row ≡ read.row)
    (λ write of_one. of_one.row) writes one

-- what a writer that has ended knows is what the history tells of it
writer_of_history : (history : List Entry) (row : Row) (writer : Writer) → writer.end.row ≡ row
    → AllByRecursion (HasItsEntries seat_of history) writer.end.account.shares
    → CountsAll writer → HasEnded writer
    → IsWriterOf history row writer.end.writer (written_of writer) (process_of writer)
writer_of_history history row writer row_is its counts ended =
    let number = writer.end.writer + 1 in
    let of_writer : (P : List Entry → Type 0) → OfMine number P writer.end.account
    → P (entries_by seat_of number history)
    = λ P of. of_history number P history writer.end.account.shares counts.just.own of its in
    record {
      accepted = of_writer (λ mine. accepted_in mine ≡ accepted_of (written_of writer))
          counts.just.are;
      refused = λ why is.
          let was = ended.refused why is counts.kernel in
          record {
            left = was.left;
            told = of_writer (λ mine. TellsWhyRefused why writer.end.writer
                (slice_index_or writer.messages.items writer.accepted []) mine
                writer.proc.process.trace) was.told;
          };
      last = of_writer HangsUpLast ended.last;
      woken = subst (λ (r : Row). AllByRecursion (Wakes (HasWoken (process_of writer)) r)
          (entries_by seat_of number history)) row_is
          (have_woken (process_of writer) writer.end.row (entries_by seat_of number history)
          (of_writer (HaveWoken writer.proc.process.trace writer.end.row) counts.woken));
    }

-- so of all writers
writers_of_history : (history : List Entry) (row : Row) (first count : ℕ) (writers : List Writer)
    → map (λ write. write.writer) (ends_of writers) ≡ numbers_from first count
    → AllByRecursion (λ write. write.row ≡ row) (ends_of writers)
    → AllByRecursion (HasItsEntries seat_of history) (shares_of (ends_of writers))
    → AllByRecursion CountsAll writers → AllByRecursion HasEnded writers
    → AreWritersOf history row first (map written_of writers) (map process_of writers)
writers_of_history history row first count [] order rows its counts ended = tt
writers_of_history history row first zero (writer ∷ writers) order rows its counts ended = cc
writers_of_history history row first (suc count) (writer ∷ writers) order rows its counts ended = (
  subst (λ (n : ℕ). IsWriterOf history row n (written_of writer) (process_of writer))
      (ap first_of order)
      (writer_of_history history row writer rows.0
      (all_since (HasItsEntries seat_of history) writer.end.account.shares
      (shares_of (ends_of writers)) its) counts.0 ended.0),
  writers_of_history history row (first + 1) count writers (ap others_of order) rows.1
      (all_past (HasItsEntries seat_of history) writer.end.account.shares
      (shares_of (ends_of writers)) its) counts.1 ended.1,
)

-- a finish of all ends of a crew that has worked
module _ (crew : Crew) (outcome : Outcome) (worked : HasWorked crew)
    (told : outcome.writers.items ≡ map written_of crew.writers.items)
    (got : outcome.got.items ≡ crew.reader.got.items)
    (stopped : outcome.stopped ≡ crew.reader.stopped)
    (gives : GivesHeld crew.reader.end (ends_of crew.writers.items) outcome.held) where
  abbrev ready : IsReady crew
  ready = worked.ready

  abbrev read : ReadSide
  read = crew.reader.end

  abbrev key : Key
  key = key_of read.queue

  abbrev writes : List WriteSide
  writes = ends_of crew.writers.items

  abbrev parts : List Part
  parts = ready.keeps.got.parts

  -- its reader tells why it stopped as the outcome does
  ends_for : (why : Option Fault) → outcome.stopped ≡ why → EndsFor why crew.reader
  ends_for why is =
      subst (λ (w : Option Fault). EndsFor w crew.reader) (sym stopped ∙ is)
      (worked.stopped.ends ready.keeps.got.mode ready.keeps.kernel)

  many : read.row.writers ≡ length outcome.writers.items
  many =
      sym (length_numbers 0 read.row.writers)
      ∙ (sym (ap length ready.ends.all.order)
      ∙ (length-map writes (λ (write : WriteSide). write.writer)
      ∙ (length-map crew.writers.items (λ (writer : Writer). writer.end)
      ∙ (sym (length-map crew.writers.items written_of) ∙ sym (ap length told)))))

  firsts : AllByRecursion AreFirst outcome.writers.items
  firsts =
      subst (AllByRecursion AreFirst) (sym told)
      (are_first crew.writers.items ready.counts worked.ended)

  given : map (λ (written : Written). written.messages.items) outcome.writers.items
      ≡ messages_of crew.writers.items
  given =
      ap (λ (writers : List Written). map (λ written. written.messages.items) writers) told
      ∙ told_messages crew.writers.items

  whole_and_once : IsWholeAndOnce (messages_of crew.writers.items) outcome
  whole_and_once =
      let found =
      finishes_find_accepted read parts writes outcome.held ready.keeps.got.just gives in
      record {
        accepted = found.accepted;
        parts = parts;
        rest = read.rest;
        place = (seen_state key (reading_of read parts)).read_whole;
        got = ready.keeps.got.bytes ∙ sym got;
        begun = sym (gives parts).finishes.rest;
        whole = found.whole;
        known = subst (λ (n : ℕ).
            AllByRecursion (λ (write : Write). write.writer < n) found.accepted)
            (sym ready.ends.known ∙ many) found.known;
        theirs = subst (λ (writers : List Written).
            AreTheirs 0 writers (whole_from 0 found.accepted)) (sym told)
            (their_pieces (whole_from 0 found.accepted) 0 read.row.writers crew.writers.items
            ready.ends.all.order
            (subst (λ (pieces : List Part). AllByRecursion (IsAllWritten pieces) writes) found.whole
            found.theirs) ready.counts);
        own = given;
        first = firsts;
        all_read = λ none.
            nothing_is_held read parts writes outcome.held (ends_for None none).0 (gives parts);
      }

  -- what the one history tells
  has_history : HasHistory key read.row.first outcome
  has_history =
      let found = (gives parts).finishes in
      let legal = found.legal in
      record {
        history = found.history;
        legal = legal;
        accepted = none_is_accepted_after_hangup key found.history legal;
        hungup = each_hungup_is_after_hangup key found.history legal.legal;
        hung = found.hung;
        reader_above = readers_above key found.history legal;
        writers_above = writers_above key found.history legal;
        row = read.row;
        row_first = refl;
        row_writers = many;
        reader = crew.reader.proc.process;
        writers = map process_of crew.writers.items;
        is_reader = reader_of_history;
        are_writers = subst (λ (told : List Written).
            AreWritersOf found.history read.row 0 told (map process_of crew.writers.items))
            (sym told)
            (writers_of_history found.history read.row 0 read.row.writers crew.writers.items
            ready.ends.all.order (rows_of read writes ready.ends.all.one) found.shares
            ready.counts worked.ended);
      }
    where
      history : List Entry
      history = (gives parts).finishes.history

      reading : IsReading key (reading_of read parts)
      reading = what_is_read_is_right key (reading_of read parts) ready.keeps.got.just

      -- what holds of the reader's own entries holds of those that the history has by it
      of_reader : (P : List Entry → Type 0) → OfMine 0 P read.account
          → P (entries_by seat_of 0 history)
      of_reader P of =
          subst P (sym (gives parts).finishes.no_more_read)
          (of_history 0 P read.account.seen read.account.shares reading.own of
          reading.knows.mine)

      reader_of_history : IsReaderOf history read.row outcome crew.reader.proc.process
      reader_of_history =
          record {
            ended = λ none.
                is_held_hung read parts writes outcome.held (ends_for None none).0 (gives parts);
            quiet = λ none. of_reader (λ mine. ¬ HasHang mine) (ends_for None none).1;
            stopped = λ why is.
                of_reader (λ mine. TellsWhyStopped why mine crew.reader.proc.process.trace)
                (ends_for (Some why) is).1;
            hung = λ why is. of_reader HasHungUp (ends_for (Some why) is).0;
            woken = have_woken crew.reader.proc.process read.row (entries_by seat_of 0 history)
                (of_reader (HaveWoken crew.reader.proc.process.trace read.row)
                ready.keeps.woken);
          }

  -- the headline holds of the outcome of the run
  pub keeps_headline : KeepsHeadline key read.row.first (messages_of crew.writers.items) outcome
  keeps_headline =
      record {
        whole = whole_and_once;
        complete = λ unrefused.
            all_are_accepted outcome.writers.items firsts unrefused ∙ given;
        made = has_history;
      }

-- a writer that has written nothing yet counts all
pub all_count : (words : Words) (read : ReadSide) (writes : List WriteSide)
    (writers : List Writer) → IsFresh read writes → OwnsRow words read.row
    → ends_of writers ≡ writes
    → AllByRecursion (λ writer. writer.accepted ≡ 0) writers
    → AllByRecursion (λ writer. writer.proc.words ≡ words) writers
    → AllByRecursion CountsAll writers
all_count words read writes writers fresh owns ends none kernel =
    each writers
    (subst (AllByRecursion (λ (write : WriteSide). HasWrittenJust write [])) (sym ends)
    fresh.unused.written_none)
    (subst (AllByRecursion (λ (write : WriteSide). HasMadeNone (write.writer + 1) write.account))
    (sym ends) fresh.writers)
    (subst (AllByRecursion (AreOfOne read)) (sym ends) fresh.ends.all.one) none kernel
  where
    each : (some : List Writer)
        → AllByRecursion (λ (write : WriteSide). HasWrittenJust write []) (ends_of some)
        → AllByRecursion (λ (write : WriteSide). HasMadeNone (write.writer + 1) write.account)
        (ends_of some)
        → AllByRecursion (AreOfOne read) (ends_of some)
        → AllByRecursion (λ (writer : Writer). writer.accepted ≡ 0) some
        → AllByRecursion (λ (writer : Writer). writer.proc.words ≡ words) some
        → AllByRecursion CountsAll some
    each [] unused made one zeros kernel = tt
    each (writer ∷ others) unused made one zeros kernel = (
      record {
        just = subst (HasWrittenJust writer.end)
            (sym (ap (λ (n : ℕ). take n writer.messages.items) zeros.0)) unused.0;
        within = let zero = zeros.0 in omega (arith, zero);
        kernel = subst (λ (w : Words). OwnsRow w writer.end.row) (sym kernel.0)
            (subst (OwnsRow words) (sym one.0.row) owns);
        woken = of_mine_weaker (writer.end.writer + 1) writer.end.account (λ mine. mine ≡ [])
            (HaveWoken writer.proc.process.trace writer.end.row)
            (λ mine none. subst (HaveWoken writer.proc.process.trace writer.end.row) (sym none) tt)
            made.0;
      },
      each others unused.1 made.1 one.1 zeros.1 kernel.1,
    )

-- a seat that has made no entry is clear
pub none_is_clear : (number : ℕ) (account : Account Entry) → HasMadeNone number account
    → OfMine number IsClear account
none_is_clear number account none =
    of_mine_weaker number account (λ mine. mine ≡ []) IsClear
    (λ mine none. subst IsClear (sym none) (record { given = tt; quiet = λ hang. hang })) none

-- so are all writers
pub all_clear : (writers : List Writer)
    → AllByRecursion (λ write. HasMadeNone (write.writer + 1) write.account) (ends_of writers)
    → AllByRecursion IsClearWriter writers
all_clear [] none = tt
all_clear (writer ∷ writers) none =
    (none_is_clear (writer.end.writer + 1) writer.end.account none.0, all_clear writers none.1)

-- a list of no elements
pub nothing_left : {A : Type 0} (xs : List A) → length xs ≡ 0 → xs ≡ []
nothing_left [] none = refl
nothing_left (x ∷ xs) none = cc

-- as many writers as have these ends
pub as_many_writers : (writers : List Writer) (writes : List WriteSide) → ends_of writers ≡ writes
    → length writes ≡ length writers
as_many_writers writers writes are =
    sym (ap length are) ∙ length-map writers (λ (writer : Writer). writer.end)

-- a new direction has as many write ends as its queue has writers
pub as_many_ends : (queue : Queue) (start : DirectionStart) (read : ReadSide)
    (writes : List WriteSide) (limit count : ℕ) → IsDirectionStartOf queue start
    → AreNewEnds queue start.row read writes → key_of queue ≡ key_for limit count
    → length writes ≡ count
as_many_ends queue start read writes limit count is_start new key =
    sym (length-map writes (λ (write : WriteSide). write.writer))
    ∙ (ap length new.all.order
    ∙ (length_numbers 0 read.row.writers
    ∙ (ap (λ (row : Row). row.writers) new.row_is
    ∙ (is_start.row_is.writers ∙ ap (λ (k : Key). k.writers) key))))

-- a child takes one pid of the roster
pub one_pid_gone : (parent : ℕ) (before after : Unused) (flags : Flags) (child : Option Running)
    (proc : Running) → child ≡ Some proc → Forks parent before flags child after
    → after.pids.next ≡ before.pids.next + 1
one_pid_gone parent before after flags None proc is forks = absurd cc
one_pid_gone parent before after flags (Some child) proc is forks =
    ap (λ (left : Unused). left.pids.next) forks.2

-- and is a process of the kernel of the roster
pub child_of_kernel : (parent : ℕ) (before after : Unused) (flags : Flags) (child : Option Running)
    (proc : Running) → child ≡ Some proc → Forks parent before flags child after
    → proc.words ≡ before.words
child_of_kernel parent before after flags None proc is forks = absurd cc
child_of_kernel parent before after flags (Some child) proc is forks =
    let same : child ≡ proc = cc in
    ap (λ (it : Running). it.words) (sym same ∙ forks.1)

-- what holds of each and of one more holds of them and of that
pub all_and_one : {A : Type 0} (Holds : A → Type 0) (xs : List A) (x : A)
    → AllByRecursion Holds xs → Holds x → AllByRecursion Holds (xs ++ x ∷ [])
all_and_one Holds [] x all one = (one, tt)
all_and_one Holds (y ∷ ys) x all one = (all.0, all_and_one Holds ys x all.1 one)
