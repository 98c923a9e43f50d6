-- What a call of a shared end is, in the words of the end that lay there.
use Rattle.std.proofs.Common.{◌≡◌, ◌↔◌, ◌⊎◌, ◌+◌, ℕ, true, List, Option, Some, None, Result, Ok}
use Rattle.std.proofs.Common.{Err, IsErrOf, IfOk, OnErr, arith, inl, inr, refl, subst, sym, ⊎_elim}
use Rattle.std.proofs.Common.{◌∙◌}
use Rattle.std.specs.Prelude.{⊤}
use Rattle.std.specs.Result.{IsErrAnd}
use Rattle.std.proofs.lemmas.Bool.{cases_lt}
use Rattle.sync_base.specs.declared.fault.Fault.{Fault}
use Rattle.sync_base.specs.declared.fault.Fault.TheVariants.{NoRendez}
use Rattle.rendez_words.specs.Words.{rendez_of}
use Rattle.sleep_wakeup.specs.Kernel.{Running}
use Rattle.block_queue.specs.Seats.{key_of}
use Rattle.pipe_dev.specs.declared.answers.ReadAnswer.{ReadAnswer}
use Rattle.pipe_dev.specs.declared.answers.TryAnswer.{TryAnswer}
use Rattle.pipe_dev.specs.declared.answers.TryAnswer.TheVariants as try
use Rattle.pipe_dev.specs.Ends.{ReadSide, IsSameReadEnd}
use Rattle.pipe_dev.specs.ReadCalls.{Tries, calling}
use Rattle.plan9.specs.declared.place.Receipt.{Receipt}
use Rattle.plan9.specs.Callers.{Reader, reader}
use Rattle.plan9.specs.Known.{IfKnown}
use Rattle.plan9.specs.Places.{IsLaid}
use Rattle.plan9.specs.Readings.{LiesIn, read_answer}
use Rattle.plan9.specs.Semaphores.{Seated, IsSameSeat}
use Rattle.plan9.specs.Sharings.{AsksForTurn, AsksNow, Buffers, CallsAndLays, HasTurn, InTurn}
use Rattle.plan9.specs.Sharings.{KnowsTurns, ReadsOnce, Sharer, TriesBy, TriesInTurn, TriesOnce}
use Rattle.plan9.specs.Sharings.{Turn, buffers, sharer, turn, turn_of}
use Rattle.plan9.specs.TimedSharings.{AsksUntil, EndCall, HasTimedTurn, InTimedTurn}
use Rattle.plan9.specs.TimedSharings.{WatchedSharer, watched_sharer, watches}
use Rattle.plan9.specs.Watches.{Watching}
use Rattle.plan9.proofs.ReadingLemmas.{piece_lies}

-- a call of the end that lay there is one of the shared end, as it has the same direction; and
-- what was laid down lies there
pub calls_shared : (end lay lies : ReadSide) (old new : Running)
    (Call : Reader → Reader → Type 0)
    → IsSameReadEnd end lay
    → IsSameReadEnd lay lies
    → Call (reader lay old) (reader lies new)
    → new.words ≡ old.words
    → (laid : Receipt) → IsLaid lies laid
    → CallsAndLays end old Call laid new
calls_shared end lay lies old new Call same kept call words laid is =
    record {
      calls = record {
        lay = lay;
        lies = lies;
        lay_is = same;
        lies_is = record {
          queue = kept.queue ∙ same.queue;
          row = kept.row ∙ same.row;
        };
        called = call;
        words_are = words;
      };
      laid_is = is;
    }

-- what a read that doesn't wait tells, by its answer
pub tries_by : (old : Reader) (buffer : List ℕ) (answer : Result TryAnswer Fault) (new : Reader)
    (buffer' : List ℕ)
    → IfOk answer (λ it. Tries (key_of old.end.queue) old.end.row
    (calling old.end old.proc buffer) it
    (calling new.end new.proc buffer'))
    → OnErr answer
    (calling new.end new.proc buffer' ≡ calling old.end old.proc buffer)
    → TriesBy old buffer answer new buffer'
tries_by old buffer (Ok answer) new buffer' tries refused = tries
tries_by old buffer (Err why) new buffer' tries refused = refused

-- ---- who may ask for a turn

may_ask : (turn : Turn) → KnowsTurns turn ⊎ ¬ KnowsTurns turn
may_ask turn =
    let sema = turn.seat.sema in
    ⊎_elim (λ few. inr (λ may. omega arith)) (λ may. inl may)
    (cases_lt (rendez_of turn.proc.words) (sema.first + sema.procs))

-- who was not refused may
pub who_asked_may : {A : Type 0} (turn : Turn) (answer : A)
    → (IsErrOf (Ok answer) NoRendez ↔ ¬ KnowsTurns turn) → KnowsTurns turn
who_asked_may turn answer no_rendez =
    ⊎_elim (λ may. may) (λ may_not. let no = no_rendez.1 may_not in cc) (may_ask turn)

-- and may still, when it has called
pub may_still : (old : Turn) (seat : Seated) (begun called : Running) → KnowsTurns old
    → IsSameSeat old.seat seat → begun.words ≡ old.proc.words → called.words ≡ begun.words
    → KnowsTurns (turn seat called)
may_still old seat begun called may same asked words =
    rw same.sema_is (rw (words ∙ asked) may)

-- ---- who has had a turn

-- whatever it was answered, it had its turn
pub has_turn : (Call : Buffers → Result ReadAnswer Fault → Reader → Reader → Type 0)
    (old : Sharer) (buffer : Buffers) (answer : Result ReadAnswer Fault) (new : Sharer)
    → HasTurn (AsksForTurn (Ok tt)) old (Call buffer answer) new → InTurn Call old buffer answer new
has_turn Call old buffer (Ok answer) new turn = turn
has_turn Call old buffer (Err why) new turn = inr (inr turn)

-- and so where it waited until a moment
pub has_timed_turn : (moment : ℕ) (Call : EndCall) (old : WatchedSharer) (buffer : Buffers)
    (answer : Result ReadAnswer Fault) (new : WatchedSharer)
    → HasTimedTurn moment old (λ watch. Call watch buffer answer) new
    → InTimedTurn moment Call old buffer answer new
has_timed_turn moment Call old buffer (Ok answer) new turn = turn
has_timed_turn moment Call old buffer (Err why) new turn = inr (inr turn)

-- a share whose seat is as it was is the same
same_sharer : (old : Sharer) (seat : Seated) (proc : Running) → seat ≡ old.share.seat
    → proc ≡ old.proc
    → sharer (record { seat = seat; place = old.share.place }) proc ≡ old
same_sharer old seat proc seat_is proc_is = rw seat_is (rw proc_is refl)

-- who got no turn by a moment may not ask for one, or asked until then and got none
pub has_no_timed_turn : (moment : ℕ) (Call : EndCall) (old : WatchedSharer) (bytes : List ℕ)
    (why : Fault) (answer : Result ReadAnswer Fault) (seat : Seated) (proc : Running)
    (watch : Watching) → IsErrAnd answer (λ told. told ≡ why)
    → IfKnown {A = ⊤} (KnowsTurns (turn_of old.sharer)) (Err why)
    ((seat ≡ old.sharer.share.seat) × (proc ≡ old.sharer.proc) × (watch ≡ old.watch))
    (AsksUntil moment (watches old.watch watch) (Err why) (turn_of old.sharer) (turn seat proc))
    → InTimedTurn moment Call old (buffers bytes bytes) answer
    (watched_sharer (record { seat = seat; place = old.sharer.share.place }) proc watch)
has_no_timed_turn moment Call old bytes why (Ok answer) seat proc watch told known = absurd told
has_no_timed_turn moment Call old bytes why (Err other) seat proc watch told known =
    let new = watched_sharer (record { seat = seat; place = old.sharer.share.place }) proc watch in
    subst (λ it. InTimedTurn moment Call old (buffers bytes bytes) (Err it) new) (sym told)
    (⊎_elim
    (λ may. inr (inl (record { knows = may; asks = known.called may; buffer_same = refl })))
    (λ may_not.
    let nothing = known.refused may_not in
    let is = known.no_rendez.1 may_not in
    inl (
      record {
        unknown = may_not;
        why_is = cc;
        same = same_sharer old.sharer seat proc nothing.0 nothing.1;
        buffer_same = refl;
      },
      nothing.2,
    ))
    (may_ask (turn_of old.sharer)))

-- and so where it waited for none
pub has_turn_now : (old : Sharer) (buffer : Buffers) (answer : Result TryAnswer Fault)
    (new : Sharer) → HasTurn (AsksNow true) old (TriesOnce buffer answer) new
    → TriesInTurn old buffer answer new
has_turn_now old buffer (Ok try.NotYet) new turn = inr turn
has_turn_now old buffer (Ok (try.Got count)) new turn = turn
has_turn_now old buffer (Ok try.End) new turn = turn
has_turn_now old buffer (Err why) new turn = inr turn

-- a piece that was read in turn lies in the buffer
pub piece_lies_in_turn : (old : Sharer) (buffer : Buffers) (answer : Result (Option ℕ) Fault)
    (new : Sharer) → InTurn ReadsOnce old buffer (read_answer answer) new
    → LiesIn buffer.after answer
piece_lies_in_turn old buffer (Ok (Some count)) new turn =
    piece_lies _ _ _ (Ok (Some count)) _ _ buffer.after turn.calls.called.reads
piece_lies_in_turn old buffer (Ok None) new turn = tt
piece_lies_in_turn old buffer (Err why) new turn = tt
