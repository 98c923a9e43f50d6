-- How a reader and writers go on, by what their ends' calls answer.
use Rattle.std.proofs.Common.{[], ◌≡◌, ◌≢◌, ◌⊎◌, ◌↔◌, inl, inr, ◌+◌, ◌++◌, ◌<◌, ℕ, suc, List, ◌∷◌}
use Rattle.std.proofs.Common.{length, map, refl, true, false}
use Rattle.std.proofs.Common.{reverse, sym, ◌∙◌, ap, subst, arith, Some, None}
use Rattle.std.proofs.Common.{◌≤◌, Bool}
use Rattle.std.specs.Prelude.{Option, Result, Ok, Err, IsErrOf, take, slice_index_or, vec_items}
use Rattle.std.specs.List.{AllByRecursion, AllZip}
use Rattle.std.proofs.lemmas.List.{append-nil, map-append, reverse-append}
use Rattle.sync_base.specs.declared.fault.Fault.{Fault}
use Rattle.sync_base.specs.declared.fault.Fault.TheVariants as fault
use Rattle.sync_base.specs.declared.limits.TheConstants.{ATOMIC_SIZE}
use Rattle.sync_base.specs.declared.mode.Mode.{Mode}
use Rattle.sync_base.specs.declared.mode.Mode.TheVariants.{Message}
use Rattle.rendez_words.specs.declared.words.Words.{Words}
use Rattle.sleep_wakeup.specs.Kernel.{Running}
use Rattle.histories.specs.declared.account.Account.{Account}
use Rattle.block_queue.specs.declared.entry.Entry.{Entry}
use Rattle.block_queue.specs.declared.entry.Entry.TheVariants.{End, Hung}
use Rattle.block_queue.specs.declared.view.Key.{Key}
use Rattle.block_queue.specs.Meaning.{Enters}
use Rattle.block_queue.specs.Seats.{key_of}
use Rattle.pipe_dev.specs.declared.answers.ReadAnswer.{ReadAnswer}
use Rattle.pipe_dev.specs.declared.answers.ReadAnswer.TheVariants as read
use Rattle.pipe_dev.specs.declared.row.Row.{Row}
use Rattle.pipe_dev.specs.Chain.{AddsRead, written_by}
use Rattle.pipe_dev.specs.Ends.{ReadSide, WriteSide, IsSameReadEnd, IsSameWriteEnd}
use Rattle.pipe_dev.specs.Parts.{Part}
use Rattle.pipe_dev.specs.Filling.{FindsNothing}
use Rattle.pipe_dev.specs.ReadCalls.{AsksForBytes, Reads, calling}
use Rattle.pipe_dev.specs.Rendezes.{OwnsRow, WakesIfKnown, reader_rendez}
use Rattle.pipe_dev.proofs.AskedLemmas.{LastAsked, last_asked}
use Rattle.pipe_dev.specs.Sides.{HasWrittenJust}
use Rattle.pipe_dev.specs.WriteCalls.{HasHang, Writes, call_of, writer_of}
use Rattle.pipe_dev.proofs.SideLemmas.{reads_add, read_ends_hang_up, writes_add, write_ends_hang_up}
use Rattle.example_headline.specs.declared.reader.Reader.{Reader}
use Rattle.example_headline.specs.declared.writer.Writer.{Writer}
use Rattle.example_headline.specs.Crew.{HasReadOn, HasSeenEnd, HasWrittenOn, CountsAll, EndsFor}
use Rattle.example_headline.specs.Crew.{EndsFrom, HasEnded, HasStopped, HaveWoken, IfItsReader}
use Rattle.example_headline.specs.Crew.{IsClearReader, IsClearWriter, IsQuiet, KeepsAll, OfMine}
use Rattle.example_headline.specs.Crew.{SeesEnd, StaysEnded, StopsFor, WasRefused}
use Rattle.example_headline.specs.Crew.{WasStopped, ends_of, messages_of}
use Rattle.example_headline.specs.Refusals.{HangsUpLast, HasHungUp, IsClear, TellsWhyRefused}
use Rattle.example_headline.specs.Refusals.{TellsWhyStopped, WasGiven, last_told}
use Rattle.example_headline.proofs.MineLemmas.{of_mine_more, of_mine_weaker}
use Rattle.example_headline.proofs.ReadLemmas.{gets_are_clear, reads_quiet, reads_tell_why}
use Rattle.example_headline.proofs.ReadLemmas.{reads_wake}
use Rattle.example_headline.proofs.RefusalLemmas.{hung_woken, quiet_is_last, refused_still}
use Rattle.example_headline.proofs.RefusalLemmas.{stops_still}
use Rattle.example_headline.proofs.WakeLemmas.{all_more}
use Rattle.example_headline.proofs.WriteLemmas.{accepts_clear, writes_quiet, writes_tell_why}
use Rattle.example_headline.proofs.WriteLemmas.{writes_wake}

-- ---- the reader

-- a refusal is no answer
pub refusal_is_no_answer : {P : Type 0} (why : Fault) → Err why ≡ Ok false → P
refusal_is_no_answer why is = cc

-- nor one of bytes
pub refusal_gets_nothing : {P : Type 0} (why : Fault) → Err why ≡ Ok true → P
refusal_gets_nothing why is = cc

-- what an answer adds to what was got
abbrev pub got_by : Result ReadAnswer Fault → List ℕ → List (List ℕ)
got_by (Ok (read.Got count)) buffer = take count buffer ∷ []
got_by (Ok read.End) buffer = []
got_by (Err why) buffer = []

abbrev bytes_of : List Part → List (List ℕ)
bytes_of parts = map (λ part. part.bytes) (reverse parts)

-- so the parts and their bytes grow alike
grown : (answer : Result ReadAnswer Fault) (buffer : List ℕ) (parts parts' : List Part)
    → AddsRead Message answer buffer parts parts'
    → bytes_of parts' ≡ bytes_of parts ++ got_by answer buffer
grown (Ok (read.Got count)) buffer parts parts' adds =
    ap bytes_of adds.parts_are
    ∙ (ap (map (λ (part : Part). part.bytes)) (reverse-append (adds.part ∷ []) parts)
    ∙ (map-append (λ (part : Part). part.bytes) (reverse parts) (adds.part ∷ [])
    ∙ ap (λ (bytes : List ℕ). bytes_of parts ++ bytes ∷ []) adds.bytes_are))
grown (Ok read.End) buffer parts parts' adds =
    ap bytes_of adds ∙ sym (append-nil (bytes_of parts))
grown (Err why) buffer parts parts' adds =
    ap bytes_of adds ∙ sym (append-nil (bytes_of parts))

-- a reader of the pipe's kernel is still, where its end and its words stayed
kernel_still : (old new : Reader) → new.proc.words ≡ old.proc.words
    → IsSameReadEnd old.end new.end
    → OwnsRow old.proc.words old.end.row → OwnsRow new.proc.words new.end.row
kernel_still old new words same owns =
    subst (λ (w : Words). OwnsRow w new.end.row) (sym words)
    (subst (OwnsRow old.proc.words) (sym same.row) owns)

-- what holds of such a reader held of it before
back : (old new : Reader) → new.proc.words ≡ old.proc.words → IsSameReadEnd old.end new.end
    → (Before After : Reader → Type 0)
    → (old.end.row.mode ≡ Message → OwnsRow old.proc.words old.end.row → Before old → After new)
    → IfItsReader Before old → IfItsReader After new
back old new words same Before After step holds mode owns =
    let was : OwnsRow old.proc.words old.end.row
    = subst (λ (w : Words). OwnsRow w old.end.row) words
    (subst (OwnsRow new.proc.words) same.row owns) in
    let its : old.end.row.mode ≡ Message = sym (ap (λ (r : Row). r.mode) same.row) ∙ mode in
    step its was (holds its was)

-- a read whose part is kept
pub read_on : (old new : Reader) (buffer : List ℕ) (answer : Result ReadAnswer Fault)
    (buffer' : List ℕ) → buffer ≢ []
    → Reads (key_of old.end.queue) old.end.row (calling old.end old.proc buffer) answer
    (calling new.end new.proc buffer') → IsSameReadEnd old.end new.end
    → new.proc.words ≡ old.proc.words
    → new.got.items ≡ old.got.items ++ got_by answer buffer' → HasReadOn old new
read_on old new buffer answer buffer' room reads same words got =
    record { end = same; keeps = keeps }
  where
    keeps : KeepsAll old → KeepsAll new
    keeps kept =
        let was = kept.got in
        let call =
        reads_add old.end new.end old.proc new.proc buffer answer buffer' room reads same was.parts
        was.just in
        record {
          got = record {
            mode = ap (λ (r : Row). r.mode) same.row ∙ was.mode;
            parts = call.parts';
            just = call.just;
            bytes = grown answer buffer' was.parts call.parts'
                (subst (λ (m : Mode). AddsRead m answer buffer' was.parts call.parts') was.mode
                call.added)
                ∙ (ap (λ (xs : List (List ℕ)). xs ++ got_by answer buffer') was.bytes ∙ sym got);
          };
          kernel = kernel_still old new words same kept.kernel;
          woken = subst (λ (r : Row).
              OfMine 0 (HaveWoken new.proc.process.trace r) new.end.account) (sym same.row)
              (reads_wake (key_of old.end.queue) old.end.row was.mode
              (calling old.end old.proc buffer) answer
              (calling new.end new.proc buffer') reads kept.woken);
        }

-- the answer of a read that is refused for this
abbrev pub as_read : Fault → Result ReadAnswer Fault
as_read why = Err why

-- the answer of a write that is refused for this
abbrev pub as_write : Fault → Result ℕ Fault
as_write why = Err why

-- what was refused nothing has hung nothing up
quiet_reader : (reader : Reader) → OfMine 0 IsClear reader.end.account → IsQuiet reader
quiet_reader reader clear =
    of_mine_weaker 0 reader.end.account IsClear (λ mine. ¬ HasHang mine)
    (λ mine clear. clear.quiet) clear

-- a read that is refused tells why
pub read_stops : (old new : Reader) (buffer : List ℕ) (why : Fault) (buffer' : List ℕ)
    → Reads (key_of old.end.queue) old.end.row (calling old.end old.proc buffer)
    (Err why) (calling new.end new.proc buffer') → IsSameReadEnd old.end new.end
    → new.proc.words ≡ old.proc.words → ¬ IsErrOf (as_read why) fault.BadCount
    → (OwnsRow old.proc.words old.end.row → ¬ IsErrOf (as_read why) fault.NoRendez)
    → IsClearReader old → StopsFor why new
read_stops old new buffer why buffer' reads same words some known clear =
    record {
      told = back old new words same (λ reader. OfMine 0 IsClear reader.end.account)
          (λ reader. IsQuiet reader × WasStopped why reader)
          (λ mode owns clear. (
            reads_quiet (key_of old.end.queue) old.end.row mode
                (calling old.end old.proc buffer) (Err why) (calling new.end new.proc buffer') reads
                (quiet_reader old clear),
            reads_tell_why (key_of old.end.queue) old.end.row mode
                (calling old.end old.proc buffer) (Err why) (calling new.end new.proc buffer')
                reads some
                (known owns),
          )) clear.clear;
    }

-- one that got bytes is still clear
pub read_clear : (old new : Reader) (buffer : List ℕ) (count : ℕ) (buffer' : List ℕ)
    → Reads (key_of old.end.queue) old.end.row (calling old.end old.proc buffer)
    (Ok (read.Got count)) (calling new.end new.proc buffer')
    → IsSameReadEnd old.end new.end → new.proc.words ≡ old.proc.words → IsClearReader old
    → IsClearReader new
read_clear old new buffer count buffer' reads same words clear =
    record {
      clear = back old new words same (λ reader. OfMine 0 IsClear reader.end.account)
          (λ reader. OfMine 0 IsClear reader.end.account)
          (λ mode owns clear.
          gets_are_clear (key_of old.end.queue) old.end.row mode
          (calling old.end old.proc buffer) count (calling new.end new.proc buffer') reads clear)
          clear.clear;
    }

-- the fault that is answered is the one that came
abbrev fault_in : Result Bool Fault → Fault
fault_in (Ok more) = fault.Memory
fault_in (Err why) = why

-- it is the same
pub same_fault : (answer : Result Bool Fault) (came other why : Fault) → answer ≡ Err came
    → came ≡ other → answer ≡ Err why → other ≡ why
same_fault answer came other why is same told =
    sym same ∙ (sym (ap fault_in is) ∙ ap fault_in told)

-- so a reader stops for it
pub stops_same : (reader : Reader) (came why : Fault) → came ≡ why → StopsFor came reader
    → StopsFor why reader
stops_same reader came why same stops =
    subst (λ (f : Fault). StopsFor f reader) same stops

-- one that has no memory for it was refused before its read
pub stops_for_memory : (reader : Reader) (answer : Result Bool Fault) (came why : Fault)
    → answer ≡ Err came → came ≡ fault.Memory → answer ≡ Err why → IsClearReader reader
    → StopsFor why reader
stops_for_memory reader answer came why is memory told clear =
    stops_same reader fault.Memory why
    (same_fault answer came fault.Memory why is memory told)
    (record {
      told = λ mode owns. (
        quiet_reader reader (clear.clear mode owns),
        of_mine_weaker 0 reader.end.account IsClear (λ mine. WasGiven (last_told mine))
            (λ mine clear. clear.given) (clear.clear mode owns),
      );
    })

-- a read that was answered the end has seen it
its_end : (key : Key) (row : Row) (old end : ReadSide) (before after : Running)
    (buffer buffer' : List ℕ)
    → Reads key row (calling old before buffer) (Ok read.End)
    (calling end after buffer') → HasSeenEnd end
its_end key row old end before after buffer buffer' reads =
    record {
      past = found.entered.adds.past;
      newest = ap (λ (a : Account Entry). a.seen) found.entered.adds.new_is;
      rest = found.rest;
    }
  where
    last : LastAsked (AsksForBytes key row) (reader_rendez row) read.End
        (calling end after buffer').seat
    last =
        last_asked (AsksForBytes key row) (reader_rendez row)
        (calling old before buffer) read.End (calling end after buffer')
        reads

    found : FindsNothing key End last.asked.fills.filling.taker
        (calling end after buffer').seat.taker
    found = last.asked.fills.stopped.1

-- and has not hung up, where it was clear
pub sees_end : (old new : Reader) (buffer buffer' : List ℕ)
    → Reads (key_of old.end.queue) old.end.row (calling old.end old.proc buffer)
    (Ok read.End) (calling new.end new.proc buffer')
    → IsSameReadEnd old.end new.end → new.proc.words ≡ old.proc.words → IsClearReader old
    → SeesEnd new
sees_end old new buffer buffer' reads same words clear =
    record {
      seen = back old new words same (λ reader. OfMine 0 IsClear reader.end.account) (EndsFor None)
          (λ mode owns clear. (
            its_end (key_of old.end.queue) old.end.row old.end new.end old.proc new.proc buffer
                buffer' reads,
            reads_quiet (key_of old.end.queue) old.end.row mode
                (calling old.end old.proc buffer) (Ok read.End) (calling new.end new.proc buffer')
                reads
                (quiet_reader old clear),
          )) clear.clear;
    }

-- a reader that hung up has read on: its end has read no more
module _ (old new : Reader)
    (enters : Enters (key_of old.end.queue) (Hung 0) old.end.account new.end.account)
    (woken : WakesIfKnown old.end.row old.proc new.proc.process)
    (same : IsSameReadEnd old.end new.end) (words : new.proc.words ≡ old.proc.words) where
  -- it keeps what it had got
  pub hung_read : new.end.rest ≡ old.end.rest → new.got.items ≡ old.got.items
      → HasReadOn old new
  hung_read rest got = record { end = same; keeps = keeps }
    where
      keeps : KeepsAll old → KeepsAll new
      keeps kept =
          let was = kept.got in
          let call = read_ends_hang_up old.end new.end enters rest same was.parts was.just in
          record {
            got = record {
              mode = ap (λ (r : Row). r.mode) same.row ∙ was.mode;
              parts = call.parts';
              just = call.just;
              bytes = ap bytes_of call.added ∙ (was.bytes ∙ sym got);
            };
            kernel = kernel_still old new words same kept.kernel;
            woken = subst (λ (r : Row).
                OfMine 0 (HaveWoken new.proc.process.trace r) new.end.account) (sym same.row)
                (hung_woken (key_of old.end.queue) old.end.row 0 old.end.account new.end.account
                old.proc.process new.proc.process enters (woken.known kept.kernel) kept.woken);
          }

  -- and it tells why it stopped
  pub hung_stops : (why : Fault) → new.stopped ≡ Some why → StopsFor why old → HasStopped new
  hung_stops why is stops =
      record {
        ends = subst (λ (stopped : Option Fault). IfItsReader (EndsFor stopped) new) (sym is)
            (back old new words same (λ reader. IsQuiet reader × WasStopped why reader)
            (EndsFor (Some why))
            (λ mode owns was. (
              of_mine_more (key_of old.end.queue) (Hung 0) 0 old.end.account new.end.account
                  (λ mine. ¬ HasHang mine) HasHungUp enters refl
                  (λ mine quiet. record { hung = tt; last = quiet_is_last mine quiet }) was.0,
              of_mine_more (key_of old.end.queue) (Hung 0) 0 old.end.account new.end.account
                  (λ mine. TellsWhyStopped why mine old.proc.process.trace)
                  (λ mine. TellsWhyStopped why mine new.proc.process.trace) enters refl
                  (λ mine tells.
                  stops_still 0 mine old.proc.process.trace new.proc.process.trace
                  (all_more old.end.row old.proc.process new.proc.process (woken.known owns)) why
                  tells) was.1,
            )) stops.told);
      }

-- a buffer of some bytes is not empty
pub some_room : (xs : List ℕ) (count : ℕ) → length xs ≡ count → 0 < count → xs ≢ []
some_room xs count many some none =
    let e : length xs ≡ 0 = ap length none in absurd (omega (arith, e, many, some))

-- ---- a writer

-- a writer of the pipe's kernel is still, where its end and its words stayed
kernel_stays : (old new : Writer) → new.proc.words ≡ old.proc.words
    → IsSameWriteEnd old.end new.end
    → OwnsRow old.proc.words old.end.row → OwnsRow new.proc.words new.end.row
kernel_stays old new words same owns =
    subst (λ (w : Words). OwnsRow w new.end.row) (sym words)
    (subst (OwnsRow old.proc.words) (sym same.row) owns)

-- and was before
kernel_was : (old new : Writer) → new.proc.words ≡ old.proc.words
    → IsSameWriteEnd old.end new.end
    → OwnsRow new.proc.words new.end.row → OwnsRow old.proc.words old.end.row
kernel_was old new words same owns =
    subst (λ (w : Words). OwnsRow w old.end.row) words
    (subst (OwnsRow new.proc.words) same.row owns)

-- its wakeups are those of the same end
woken_there : (old new : Writer) → IsSameWriteEnd old.end new.end
    → OfMine (old.end.writer + 1) (HaveWoken new.proc.process.trace old.end.row) new.end.account
    → OfMine (new.end.writer + 1) (HaveWoken new.proc.process.trace new.end.row) new.end.account
woken_there old new same woken =
    subst (λ (r : Row).
    OfMine (new.end.writer + 1) (HaveWoken new.proc.process.trace r) new.end.account)
    (sym same.row)
    (subst (λ (n : ℕ).
    OfMine (n + 1) (HaveWoken new.proc.process.trace old.end.row) new.end.account)
    (sym same.writer) woken)

-- a write that is counted where it was accepted
pub written_on : (old new : Writer) (block : List ℕ) (answer : Result ℕ Fault)
    → Writes (call_of old.end block) (writer_of old.end old.proc) answer
    (writer_of new.end new.proc)
    → IsSameWriteEnd old.end new.end → new.proc.words ≡ old.proc.words
    → new.messages ≡ old.messages
    → take new.accepted new.messages.items
    ≡ take old.accepted old.messages.items ++ written_by answer block
    → (old.accepted ≤ length old.messages.items → new.accepted ≤ length new.messages.items)
    → HasWrittenOn old new
written_on old new block answer writes same words messages count within =
    record { end = same; messages = messages; counts = counts_on }
  where
    counts_on : CountsAll old → CountsAll new
    counts_on counts =
        record {
          just = subst (HasWrittenJust new.end) (sym count)
              ((writes_add old.end new.end old.proc new.proc block answer writes same).just
              (take old.accepted old.messages.items) counts.just);
          within = within counts.within;
          kernel = kernel_stays old new words same counts.kernel;
          woken = woken_there old new same
              (writes_wake (call_of old.end block) (writer_of old.end old.proc) answer
              (writer_of new.end new.proc) writes counts.woken);
        }

-- a write that was refused tells why
pub write_refused : (old new : Writer) (block : List ℕ) (why : Fault)
    → Writes (call_of old.end block) (writer_of old.end old.proc) (Err why)
    (writer_of new.end new.proc)
    → IsSameWriteEnd old.end new.end → new.proc.words ≡ old.proc.words
    → new.messages ≡ old.messages → new.accepted ≡ old.accepted
    → block ≡ slice_index_or old.messages.items old.accepted []
    → old.accepted < length old.messages.items
    → (IsErrOf (as_write why) fault.TooBig → ATOMIC_SIZE < length block)
    → (OwnsRow old.proc.words old.end.row → ¬ IsErrOf (as_write why) fault.NoRendez)
    → IsClearWriter old → OwnsRow new.proc.words new.end.row → WasRefused why new
write_refused old new block why writes same words messages accepted is left big known clear owns =
    let next : block ≡ slice_index_or new.messages.items new.accepted []
    = is
    ∙ (ap (λ ms. slice_index_or (vec_items ms) old.accepted []) (sym messages)
    ∙ ap (λ n. slice_index_or new.messages.items n []) (sym accepted)) in
    record {
      left = let many : length new.messages.items ≡ length old.messages.items
          = ap (λ ms. length (vec_items ms)) messages in
          omega (arith, many, accepted, left);
      told = subst (λ (n : ℕ). OfMine (n + 1)
          (λ mine. TellsWhyRefused why n (slice_index_or new.messages.items new.accepted []) mine
          new.proc.process.trace) new.end.account) (sym same.writer)
          (subst (λ (b : List ℕ). OfMine (old.end.writer + 1)
          (λ mine. TellsWhyRefused why old.end.writer b mine new.proc.process.trace)
          new.end.account) next
          (writes_tell_why (call_of old.end block) (writer_of old.end old.proc) (Err why)
          (writer_of new.end new.proc) writes big
          (known (kernel_was old new words same owns)) clear));
    }

-- its seat's own entries are those of the same writer
there : (old new : WriteSide) (P : List Entry → Type 0) → IsSameWriteEnd old new
    → OfMine (old.writer + 1) P new.account → OfMine (new.writer + 1) P new.account
there old new P same of = subst (λ (n : ℕ). OfMine (n + 1) P new.account) (sym same.writer) of

-- a writer whose write was accepted is still clear
pub accepted_clear : (old : Writer) (end : WriteSide) (proc : Running) (block : List ℕ)
    (number : ℕ)
    → Writes (call_of old.end block) (writer_of old.end old.proc) (Ok number) (writer_of end proc)
    → IsSameWriteEnd old.end end → IsClearWriter old → OfMine (end.writer + 1) IsClear end.account
accepted_clear old end proc block number writes same clear =
    there old.end end IsClear same
    (accepts_clear (call_of old.end block) (writer_of old.end old.proc) number
    (writer_of end proc) writes clear)

-- and one whose write was refused has hung nothing up
pub refused_last : (old : Writer) (end : WriteSide) (proc : Running) (block : List ℕ)
    (why : Fault)
    → Writes (call_of old.end block) (writer_of old.end old.proc) (Err why) (writer_of end proc)
    → IsSameWriteEnd old.end end → IsClearWriter old
    → OfMine (end.writer + 1) HangsUpLast end.account
refused_last old end proc block why writes same clear =
    there old.end end HangsUpLast same
    (of_mine_weaker (old.end.writer + 1) end.account (λ mine. ¬ HasHang mine) HangsUpLast
    quiet_is_last
    (writes_quiet (call_of old.end block) (writer_of old.end old.proc) (Err why)
    (writer_of end proc) writes
    (of_mine_weaker (old.end.writer + 1) old.end.account IsClear (λ mine. ¬ HasHang mine)
    (λ mine clear. clear.quiet) clear)))

-- a process of the pipe's kernel is not refused as a foreign one
pub is_not_foreign : (count : ℕ) (Owns : Type 0) (why : Fault)
    → (IsErrOf (as_write why) fault.TooBig ↔ (ATOMIC_SIZE < count))
    → (count ≤ ATOMIC_SIZE → (IsErrOf (as_write why) fault.NoRendez ↔ ¬ Owns))
    → Owns → ¬ IsErrOf (as_write why) fault.NoRendez
is_not_foreign count Owns why big foreign owns is = by (either count ATOMIC_SIZE)
  where
    either : (a b : ℕ) → (a ≤ b) ⊎ (b < a)
    either a b = grind arith

    by : (count ≤ ATOMIC_SIZE) ⊎ (ATOMIC_SIZE < count) → ⊥
    by (inl small) = (foreign small).0 is owns
    by (inr large) = let too_big = big.1 large in cc

-- a writer one of whose writes was refused has ended
pub ends_refused : (writer : Writer) (why : Fault) → writer.refused ≡ Some why
    → (OwnsRow writer.proc.words writer.end.row → WasRefused why writer)
    → OfMine (writer.end.writer + 1) HangsUpLast writer.end.account → HasEnded writer
ends_refused writer why is told last =
    record {
      last = last;
      all = λ none. let refused : Some why ≡ None = sym is ∙ none in absurd (cc);
      refused = λ other other_is owns.
          let same : Some why ≡ Some other = sym is ∙ other_is in
          subst (λ (f : Fault). WasRefused f writer) (cc) (told owns);
    }

-- and so has one all of whose messages are accepted
pub ends_with_all : (start writer : Writer) → writer.refused ≡ None
    → length writer.messages.items ≤ writer.accepted
    → (IsClearWriter start → IsClearWriter writer) → EndsFrom start writer
ends_with_all start writer none most clear began =
    record {
      last = of_mine_weaker (writer.end.writer + 1) writer.end.account IsClear HangsUpLast
          (λ mine clear. quiet_is_last mine clear.quiet) (clear began);
      all = λ same. most;
      refused = λ why is owns.
          let refused : None ≡ Some why = sym none ∙ is in absurd (cc);
    }

-- a writer that hung up has written on: its messages are the same, and no more are accepted
module _ (old new : Writer)
    (enters : Enters (key_of old.end.queue) (Hung (old.end.writer + 1)) old.end.account
    new.end.account)
    (woken : WakesIfKnown old.end.row old.proc new.proc.process)
    (same : IsSameWriteEnd old.end new.end) (words : new.proc.words ≡ old.proc.words)
    (messages : new.messages ≡ old.messages) (accepted : new.accepted ≡ old.accepted) where
  many : length new.messages.items ≡ length old.messages.items
  many = ap (λ ms. length (vec_items ms)) messages

  -- it counts what it counted
  pub hung_write : HasWrittenOn old new
  hung_write =
      let taken : take new.accepted new.messages.items ≡ take old.accepted old.messages.items
      = ap (λ n. take n new.messages.items) accepted
      ∙ ap (λ ms. take old.accepted (vec_items ms)) messages in
      record {
        end = same;
        messages = messages;
        counts = λ counts.
            record {
              just = subst (HasWrittenJust new.end)
                  (append-nil (take old.accepted old.messages.items) ∙ sym taken)
                  ((write_ends_hang_up old.end new.end enters same).just
                  (take old.accepted old.messages.items) counts.just);
              within = let least = counts.within in omega (arith, accepted, many, least);
              kernel = kernel_stays old new words same counts.kernel;
              woken = woken_there old new same
                  (hung_woken (key_of old.end.queue) old.end.row (old.end.writer + 1)
                  old.end.account new.end.account old.proc.process new.proc.process enters
                  (woken.known counts.kernel) counts.woken);
            };
      }

  -- and it has ended if it had
  pub hung_ended : new.refused ≡ old.refused → StaysEnded old new
  hung_ended refused ended =
      record {
        last = there old.end new.end HangsUpLast same
            (of_mine_more (key_of old.end.queue) (Hung (old.end.writer + 1)) (old.end.writer + 1)
            old.end.account new.end.account HangsUpLast HangsUpLast enters refl
            (λ mine last. last) ended.last);
        all = λ none.
            let least = ended.all (sym refused ∙ none) in omega (arith, accepted, many, least);
        refused = λ why is owns.
            let was = kernel_was old new words same owns in
            let told = ended.refused why (sym refused ∙ is) was in
            let next : slice_index_or old.messages.items old.accepted []
            ≡ slice_index_or new.messages.items new.accepted []
            = ap (λ ms. slice_index_or (vec_items ms) old.accepted []) (sym messages)
            ∙ ap (λ n. slice_index_or new.messages.items n []) (sym accepted) in
            record {
              left = let left = told.left in omega (arith, many, accepted, left);
              told = subst (λ (n : ℕ). OfMine (n + 1)
                  (λ mine. TellsWhyRefused why n
                  (slice_index_or new.messages.items new.accepted []) mine
                  new.proc.process.trace) new.end.account) (sym same.writer)
                  (subst (λ (b : List ℕ). OfMine (old.end.writer + 1)
                  (λ mine. TellsWhyRefused why old.end.writer b mine new.proc.process.trace)
                  new.end.account) next
                  (of_mine_more (key_of old.end.queue) (Hung (old.end.writer + 1))
                  (old.end.writer + 1) old.end.account new.end.account
                  (λ mine. TellsWhyRefused why old.end.writer
                  (slice_index_or old.messages.items old.accepted []) mine
                  old.proc.process.trace)
                  (λ mine. TellsWhyRefused why old.end.writer
                  (slice_index_or old.messages.items old.accepted []) mine
                  new.proc.process.trace) enters refl
                  (λ mine tells.
                  refused_still (old.end.writer + 1) mine old.proc.process.trace
                  new.proc.process.trace
                  (all_more old.end.row old.proc.process new.proc.process (woken.known was))
                  old.end.writer (slice_index_or old.messages.items old.accepted []) why
                  tells) told.told));
            };
      }

-- so has one that tells no refusal
pub tells_none : (writer : Writer) → HasWrittenOn writer (record writer { refused = None })
tells_none writer =
    record {
      end = record { queue = refl; row = refl; writer = refl };
      messages = refl;
      counts = λ counts.
          record {
            just = counts.just;
            within = counts.within;
            kernel = counts.kernel;
            woken = counts.woken;
          };
    }

-- whoever wrote on, and then wrote on again, has written on
pub write_then : (old between new : Writer) → HasWrittenOn old between → HasWrittenOn between new
    → HasWrittenOn old new
write_then old between new first second =
    record {
      end = record {
        queue = second.end.queue ∙ first.end.queue;
        row = second.end.row ∙ first.end.row;
        writer = second.end.writer ∙ first.end.writer;
      };
      messages = second.messages ∙ first.messages;
      counts = λ counts. second.counts (first.counts counts);
    }

-- ---- all writers

-- what is true at each place is true of each
pub at_each : (olds news : List Writer) → length news ≡ length olds
    → ((i : ℕ) (d : Writer) → i < length olds
    → HasWrittenOn (slice_index_or olds i d) (slice_index_or news i d))
    → AllZip HasWrittenOn olds news
at_each [] [] many each = tt
at_each [] (new ∷ news) many each = cc
at_each (old ∷ olds) [] many each = cc
at_each (old ∷ olds) (new ∷ news) many each = (
  each 0 old (omega arith),
  at_each olds news (omega (arith, many)) (λ i d low. each (suc i) d (omega (arith, low))),
)

-- what is true at each place of what writers have become is true of each of them
pub ended_at_each : (olds news : List Writer) → length news ≡ length olds
    → ((i : ℕ) (d : Writer) → i < length olds
    → EndsFrom (slice_index_or olds i d) (slice_index_or news i d))
    → AllZip EndsFrom olds news
ended_at_each [] [] many each = tt
ended_at_each [] (new ∷ news) many each = cc
ended_at_each (old ∷ olds) [] many each = cc
ended_at_each (old ∷ olds) (new ∷ news) many each = (
  each 0 old (omega arith),
  ended_at_each olds news (omega (arith, many)) (λ i d low. each (suc i) d (omega (arith, low))),
)

-- writers that have ended have ended still, where that is true at each place
pub still_ended : (starts olds news : List Writer) → length news ≡ length olds
    → ((i : ℕ) (d : Writer) → i < length olds
    → StaysEnded (slice_index_or olds i d) (slice_index_or news i d))
    → AllZip EndsFrom starts olds → AllZip EndsFrom starts news
still_ended [] [] [] many each ended = tt
still_ended [] [] (new ∷ news) many each ended = cc
still_ended [] (old ∷ olds) news many each ended = absurd ended
still_ended (start ∷ starts) [] news many each ended = absurd ended
still_ended (start ∷ starts) (old ∷ olds) [] many each ended = cc
still_ended (start ∷ starts) (old ∷ olds) (new ∷ news) many each ended = (
  λ clear. each 0 old (omega arith) (ended.0 clear),
  still_ended starts olds news (omega (arith, many))
      (λ i d low. each (suc i) d (omega (arith, low))) ended.1,
)

-- writers that began clear have ended
pub all_ended : (starts news : List Writer) → AllZip EndsFrom starts news
    → AllByRecursion IsClearWriter starts → AllByRecursion HasEnded news
all_ended [] [] ended clear = tt
all_ended [] (new ∷ news) ended clear = absurd ended
all_ended (start ∷ starts) [] ended clear = absurd ended
all_ended (start ∷ starts) (new ∷ news) ended clear =
    (ended.0 clear.0, all_ended starts news ended.1 clear.1)

-- writers that have written on have the same messages
pub same_messages : (olds news : List Writer) → AllZip HasWrittenOn olds news
    → messages_of news ≡ messages_of olds
same_messages [] [] on = refl
same_messages [] (new ∷ news) on = absurd on
same_messages (old ∷ olds) [] on = absurd on
same_messages (old ∷ olds) (new ∷ news) on =
    ap (λ ms. vec_items ms ∷ messages_of news) on.0.messages
    ∙ ap (λ mss. old.messages.items ∷ mss) (same_messages olds news on.1)

-- where each writer wrote on, and then on again, each has written on
pub each_then : (olds betweens news : List Writer) → AllZip HasWrittenOn olds betweens
    → AllZip HasWrittenOn betweens news → AllZip HasWrittenOn olds news
each_then [] [] [] first second = tt
each_then [] [] (new ∷ news) first second = absurd second
each_then [] (between ∷ betweens) news first second = absurd first
each_then (old ∷ olds) [] news first second = absurd first
each_then (old ∷ olds) (between ∷ betweens) [] first second = absurd second
each_then (old ∷ olds) (between ∷ betweens) (new ∷ news) first second = (
  write_then old between new first.0 second.0,
  each_then olds betweens news first.1 second.1,
)

-- writers that count all that they wrote still do when they have written on
pub still_counts : (olds news : List Writer) → AllZip HasWrittenOn olds news
    → AllByRecursion CountsAll olds → AllByRecursion CountsAll news
still_counts [] [] on counts = tt
still_counts [] (new ∷ news) on counts = absurd on
still_counts (old ∷ olds) [] on counts = absurd on
still_counts (old ∷ olds) (new ∷ news) on counts =
    (on.0.counts counts.0, still_counts olds news on.1 counts.1)

-- writers that have written on have the same ends of the same queue
pub same_ends : (olds news : List Writer) → AllZip HasWrittenOn olds news
    → AllZip IsSameWriteEnd (ends_of olds) (ends_of news)
same_ends [] [] on = tt
same_ends [] (new ∷ news) on = absurd on
same_ends (old ∷ olds) [] on = absurd on
same_ends (old ∷ olds) (new ∷ news) on = (on.0.end, same_ends olds news on.1)
