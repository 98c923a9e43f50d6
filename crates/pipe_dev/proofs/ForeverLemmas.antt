-- What a call that its runner runs as long as it takes did, and when it is refused for what.
use Rattle.std.proofs.Common.{◌≡◌, ◌≢◌, ◌⊎◌, ◌<◌, ◌≤◌, ◌+◌, ℕ, List, [], ◌∷◌, inl, inr, refl}
use Rattle.std.proofs.Common.{Result, Ok, Err, sym, ap, ◌∙◌, subst, arith}
use Rattle.std.specs.Prelude.{◌↔◌, ⊤, Option, Some, None, IsErrOf}
use Rattle.histories.specs.declared.account.Account.{Account}
use Rattle.rendez_words.specs.declared.words.Words.{Words}
use Rattle.rendez_words.specs.Words.{rendez_of}
use Rattle.sync_base.specs.declared.fault.Fault.{Fault}
use Rattle.sync_base.specs.declared.fault.Fault.TheVariants as fault
use Rattle.sync_base.specs.declared.limits.TheConstants.{ATOMIC_SIZE}
use Rattle.block_queue.specs.declared.entry.Entry.{Entry}
use Rattle.block_queue.specs.declared.view.Key.{Key}
use Rattle.pipe_dev.specs.declared.answers.Long.{Long}
use Rattle.pipe_dev.specs.declared.answers.ReadAnswer.{ReadAnswer}
use Rattle.pipe_dev.specs.declared.row.Row.{Row}
use Rattle.pipe_dev.specs.BlockReads.{AsksForBlock, ReadsBlock, ReadsBlockBy}
use Rattle.pipe_dev.specs.Calls.{IsAsked}
use Rattle.pipe_dev.specs.Filling.{Lending}
use Rattle.pipe_dev.specs.ReadCalls.{AsksForBytes, Calling, Reads, ReadsBy, run_call}
use Rattle.pipe_dev.specs.Rendezes.{OwnsRow, reader_rendez}
use Rattle.pipe_dev.specs.WriteCalls.{EndsLong, EndsLongBy, IsLongRefusedAs, IsRefusedAs, RunsEach}
use Rattle.pipe_dev.specs.WriteCalls.{WriteCall, Writes, WritesBy, WritesEach, WritesLong}
use Rattle.pipe_dev.specs.WriteCalls.{WritesLongBy, call_for}
use Rattle.waiting.specs.Runners.{RunPoint, as_long_as_it_takes}
use Rattle.waiting.proofs.Cases.{below_or_not}
use Rattle.pipe_dev.proofs.AskedLemmas.{block_reads_so, is_asked_read, reads_so}
use Rattle.pipe_dev.proofs.CallLemmas.{is_asked_write, writes_so}
use Rattle.pipe_dev.proofs.LongLemmas.{some_write}

-- the answer of a write that was refused
abbrev refusal : Fault → Result ℕ Fault
refusal why = Err why

-- a kernel owns all the Rendez of a direction, or not
owns_or_not : (words : Words) (row : Row) → OwnsRow words row ⊎ (¬ OwnsRow words row)
owns_or_not words row = by (below_or_not (rendez_of words) (row.first + 1 + row.writers))
  where
    by : (rendez_of words < row.first + 1 + row.writers) ⊎ OwnsRow words row
        → OwnsRow words row ⊎ (¬ OwnsRow words row)
    by (inl less) = inr (λ owns. omega (arith, less, owns))
    by (inr owns) = inl owns

-- two refusals are for one reason
abbrev reason_in : {Out : Type 0} → Result Out Fault → Fault
reason_in (Ok out) = fault.Memory
reason_in (Err why) = why

one_reason : {Out At : Type 0} {old new : At} {answer : Result Out Fault} (why other : Fault)
    → IsRefusedAs why old answer new → answer ≡ Err other → other ≡ why
one_reason why other refused is = ap reason_in (sym is ∙ refused.answer_is)

-- what a call does that is refused for this where that is bad, and then where a kernel does not own
-- all the Rendez
pub record IsSo {Out : Type 0} (bad : Fault) (Bad Good Owns : Type 0) (answer : Result Out Fault)
    (Did : Type 0) : Type 0 where
  -- refused for this just where it is so
  pub refused : IsErrOf answer bad ↔ Bad
  -- else a kernel has no Rendez just where it does not own them all
  pub foreign : Good → (IsErrOf answer fault.NoRendez ↔ ¬ Owns)
  -- what it did is what such a call does
  pub did : Did

module _ {Seat Out : Type 0} (bad : Fault) (other : bad ≢ fault.NoRendez) (Bad Good : Type 0)
    (either : Bad ⊎ Good) (words : Words) (row : Row) (old new : RunPoint ⊤ Seat)
    (answer : Result Out Fault) (Does : Result Out Fault → Type 0)
    (idle : new.at ≡ old.at → Does (Err bad) × Does (Err fault.NoRendez))
    (refused : Bad → IsRefusedAs bad old answer new)
    (no_rendez : Good → ¬ OwnsRow words row → IsRefusedAs fault.NoRendez old answer new)
    (ran : Good → OwnsRow words row
    → (answer ≢ Err bad) × (answer ≢ Err fault.NoRendez) × Does answer) where
  is_so : IsSo bad Bad Good (OwnsRow words row) answer (Does answer)
  is_so =
      record {
        refused = (λ is. by is either (owns_or_not words row), λ is. (refused is).answer_is);
        foreign = λ good. (
          λ is owns. (ran good owns).1 is,
          λ foreign. (no_rendez good foreign).answer_is,
        );
        did = does either (owns_or_not words row);
      }
    where
      by : answer ≡ Err bad → Bad ⊎ Good → OwnsRow words row ⊎ (¬ OwnsRow words row) → Bad
      by is (inl its) row_is = its
      by is (inr good) (inl owns) = absurd ((ran good owns).0 is)
      by is (inr good) (inr foreign) =
          absurd (other (one_reason fault.NoRendez bad (no_rendez good foreign) is))

      same : (why : Fault) → IsRefusedAs why old answer new → new.at ≡ old.at
      same why refused = ap (λ (t : RunPoint ⊤ Seat). t.at) refused.same

      does : Bad ⊎ Good → OwnsRow words row ⊎ (¬ OwnsRow words row) → Does answer
      does (inl its) row_is =
          subst Does (sym (refused its).answer_is) (idle (same bad (refused its))).0
      does (inr good) (inl owns) = (ran good owns).2
      does (inr good) (inr foreign) =
          let none = no_rendez good foreign in
          subst Does (sym none.answer_is) (idle (same fault.NoRendez none)).1

-- what a write did that was run as long as it takes: it was not refused at once, and is a write
ran_so : (call : WriteCall) (old new : RunPoint ⊤ (Account Entry)) (answer : Result ℕ Fault)
    → WritesBy as_long_as_it_takes call old answer new
    → (answer ≢ Err fault.TooBig) × (answer ≢ Err fault.NoRendez)
    × Writes call old.at answer new.at
ran_so call old new answer (inl none) = (
  λ is. let same = one_reason fault.Memory fault.TooBig none is in cc,
  λ is. let same = one_reason fault.Memory fault.NoRendez none is in cc,
  subst (λ (a : Result ℕ Fault). Writes call old.at a new.at) (sym none.answer_is)
      (ap (λ (t : RunPoint ⊤ (Account Entry)). t.at) none.same),
)
ran_so call old new answer (inr waited) =
    let asked = is_asked_write call old.at answer new.at waited in (
      λ is. subst IsAsked is asked,
      λ is. subst IsAsked is asked,
      writes_so call old.at answer new.at waited,
    )

-- so of a write that is refused as too big first
pub write_so : (call : WriteCall) (words : Words) (size : ℕ)
    (old new : RunPoint ⊤ (Account Entry)) (answer : Result ℕ Fault)
    → (ATOMIC_SIZE < size → IsRefusedAs fault.TooBig old answer new)
    → (size ≤ ATOMIC_SIZE → ¬ OwnsRow words call.row → IsRefusedAs fault.NoRendez old answer new)
    → (size ≤ ATOMIC_SIZE → OwnsRow words call.row
    → WritesBy as_long_as_it_takes call old answer new)
    → IsSo fault.TooBig (ATOMIC_SIZE < size) (size ≤ ATOMIC_SIZE) (OwnsRow words call.row) answer
    (Writes call old.at answer new.at)
write_so call words size old new answer too_big no_rendez wrote =
    is_so fault.TooBig (λ same. cc) (ATOMIC_SIZE < size) (size ≤ ATOMIC_SIZE)
    (below_or_not ATOMIC_SIZE size) words call.row old new answer
    (λ (a : Result ℕ Fault). Writes call old.at a new.at) (λ same. (same, same)) too_big no_rendez
    (λ within owns. ran_so call old new answer (wrote within owns))

empty_or_not : (bytes : List ℕ) → (bytes ≡ []) ⊎ (bytes ≢ [])
empty_or_not [] = inl refl
empty_or_not (byte ∷ bytes) = inr (λ same. cc)

-- and of a read that is refused first where its buffer is empty
pub read_so : (key : Key) (row : Row) (words : Words) (old new : Calling) (lent back : ⊤)
    (answer : Result ReadAnswer Fault)
    → (old.seat.buffer ≡ []
    → IsRefusedAs fault.BadCount (run_call old lent) answer (run_call new back))
    → (old.seat.buffer ≢ [] → ¬ OwnsRow words row
    → IsRefusedAs fault.NoRendez (run_call old lent) answer (run_call new back))
    → (old.seat.buffer ≢ [] → OwnsRow words row
    → ReadsBy as_long_as_it_takes key row (run_call old lent) answer (run_call new back))
    → IsSo fault.BadCount (old.seat.buffer ≡ []) (old.seat.buffer ≢ []) (OwnsRow words row) answer
    (Reads key row old answer new)
read_so key row words old new lent back answer bad_count no_rendez read =
    is_so fault.BadCount (λ same. cc) (old.seat.buffer ≡ []) (old.seat.buffer ≢ [])
    (empty_or_not old.seat.buffer) words row (run_call old lent) (run_call new back) answer
    (λ (a : Result ReadAnswer Fault). Reads key row old a new) (λ same. (same, same)) bad_count
    no_rendez
    (λ some owns.
    let asked = is_asked_read (AsksForBytes key row) (reader_rendez row)
    (λ old new why asks. asks) old answer new (read some owns) in (
      λ is. subst IsAsked is asked,
      λ is. subst IsAsked is asked,
      reads_so key row old answer new (read some owns),
    ))

-- and of a read of a block, which is refused for its kernel alone
pub block_read_so : (key : Key) (row : Row) (words : Words) (old new : Calling) (lent back : ⊤)
    (answer : Result ReadAnswer Fault)
    → (¬ OwnsRow words row
    → IsRefusedAs fault.NoRendez (run_call old lent) answer (run_call new back))
    → (OwnsRow words row
    → ReadsBlockBy as_long_as_it_takes key row (run_call old lent) answer (run_call new back))
    → (IsErrOf answer fault.NoRendez ↔ ¬ OwnsRow words row) × ReadsBlock key row old answer new
block_read_so key row words old new lent back answer no_rendez read = by (owns_or_not words row)
  where
    by : OwnsRow words row ⊎ (¬ OwnsRow words row)
        → (IsErrOf answer fault.NoRendez ↔ ¬ OwnsRow words row) × ReadsBlock key row old answer new
    by (inl owns) =
        let asked =
        is_asked_read (AsksForBlock key row) (reader_rendez row) (λ old new why asks. asks) old
        answer new (read owns) in (
          (λ is. absurd (subst IsAsked is asked), λ foreign. absurd (foreign owns)),
          block_reads_so key row old answer new (read owns),
        )
    by (inr foreign) =
        let none = no_rendez foreign in (
          (λ is. foreign, λ other. none.answer_is),
          subst (λ (a : Result ReadAnswer Fault). ReadsBlock key row old a new)
              (sym none.answer_is) (ap (λ (t : RunPoint ⊤ Lending). t.at) none.same),
        )

-- ---- a long write

-- each of its writes that was accepted
each_so : (call : WriteCall) (done : List (List ℕ)) (old new : RunPoint ⊤ (Account Entry))
    → RunsEach as_long_as_it_takes call done old new → WritesEach call done old.at new.at
each_so call [] old new same = ap (λ (t : RunPoint ⊤ (Account Entry)). t.at) same
each_so call (block ∷ blocks) old new more =
    record {
      between = more.between.at;
      rounds = each_so call blocks old more.between more.rounds;
      last = record {
        number = more.last.number;
        accepted =
            (ran_so (call_for call block) more.between new (Ok more.last.number)
            more.last.accepted.wrote).2;
      };
    }

-- how it ended, and for what it did not
ended_so : (call : WriteCall) (done : List (List ℕ)) (old : RunPoint ⊤ (Account Entry))
    (why : Option Fault) (new : RunPoint ⊤ (Account Entry))
    → EndsLongBy as_long_as_it_takes call done old why new
    → (why ≢ Some fault.TooBig) × (why ≢ Some fault.NoRendez)
    × EndsLong call done old.at why new.at
ended_so call done old None new (same, all) = (
  λ is. cc,
  λ is. cc,
  (ap (λ (t : RunPoint ⊤ (Account Entry)). t.at) same, all),
)
ended_so call done old (Some why) new (block, others, cut, wrote) =
    let ran = ran_so (call_for call block) old new (Err why) wrote.wrote in (
      λ is. let same : refusal why ≡ refusal fault.TooBig = cc in ran.0 same,
      λ is. let same : refusal why ≡ refusal fault.NoRendez = cc in ran.1 same,
      (block, others, cut, ran.2),
    )

pub long_so : (call : WriteCall) (words : Words) (old new : RunPoint ⊤ (Account Entry))
    (long : Long)
    → (¬ OwnsRow words call.row → IsLongRefusedAs fault.NoRendez old long new)
    → (OwnsRow words call.row → WritesLongBy as_long_as_it_takes call old long new)
    → (long.fault ≢ Some fault.TooBig)
    × ((long.fault ≡ Some fault.NoRendez) ↔ ¬ OwnsRow words call.row)
    × WritesLong call old.at long new.at
long_so call words old new long no_rendez wrote = by (owns_or_not words call.row)
  where
    by : OwnsRow words call.row ⊎ (¬ OwnsRow words call.row)
        → (long.fault ≢ Some fault.TooBig)
        × ((long.fault ≡ Some fault.NoRendez) ↔ ¬ OwnsRow words call.row)
        × WritesLong call old.at long new.at
    by (inl owns) =
        let ran = wrote owns in
        let ended = ended_so call ran.done ran.between long.fault new ran.ended in (
          ended.0,
          (λ is. absurd (ended.1 is), λ foreign. absurd (foreign owns)),
          record {
            done = ran.done;
            between = ran.between.at;
            written = each_so call ran.done old ran.between ran.written;
            taken = ran.taken;
            ended = ended.2;
          },
        )
    by (inr foreign) =
        let none = no_rendez foreign in
        let first = some_write call.bytes in (
          λ is. let same : Some fault.NoRendez ≡ Some fault.TooBig =
              sym (ap (λ (l : Long). l.fault) none.long_is) ∙ is in cc,
          (λ is. foreign, λ other. ap (λ (l : Long). l.fault) none.long_is),
          subst (λ (l : Long). WritesLong call old.at l new.at) (sym none.long_is)
              (record {
                done = [];
                between = old.at;
                written = refl;
                taken = refl;
                ended = (
                  first.0,
                  first.1,
                  first.2,
                  ap (λ (t : RunPoint ⊤ (Account Entry)). t.at) none.same,
                );
              }),
        )
