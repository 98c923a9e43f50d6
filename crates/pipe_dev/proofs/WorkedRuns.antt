-- Runs of calls of the ends that did what none may do, each against one row.
use Rattle.std.proofs.Common.{◌≡◌, ◌≢◌, ◌<◌, ◌++◌, ◌∷◌, [], ℕ, List, reverse, None, Some}
use Rattle.std.proofs.Common.{Result, Ok, Err, inl, inr, refl}
use Rattle.histories.specs.declared.account.Account.{Account}
use Rattle.histories.specs.History.{IsPast}
use Rattle.sync_base.specs.declared.fault.Fault.{Fault}
use Rattle.sync_base.specs.declared.fault.Fault.TheVariants as fault
use Rattle.rendez_words.specs.Process.{Process}
use Rattle.sleep_wakeup.specs.Kernel.{Running}
use Rattle.block_queue.specs.declared.entry.Entry.{Entry}
use Rattle.block_queue.specs.declared.view.Key.{Key}
use Rattle.pipe_dev.specs.declared.answers.Long.{Long}
use Rattle.pipe_dev.specs.declared.answers.ReadAnswer.{ReadAnswer}
use Rattle.pipe_dev.specs.declared.row.Row.{Row}
use Rattle.pipe_dev.specs.BlockReads.{AsksForBlock, ReadsBlockBy, RunsABlockRead, block_reading}
use Rattle.pipe_dev.specs.Calls.{RunsAs}
use Rattle.pipe_dev.specs.Ends.{WriteSide}
use Rattle.pipe_dev.specs.Filling.{Lending}
use Rattle.pipe_dev.specs.ReadCalls.{AsksForBytes, Calling, ReadsBy, RunsARead}
use Rattle.pipe_dev.specs.ReadCalls.{reading, run_call}
use Rattle.pipe_dev.specs.WaitLaws.{LastBlockReleases, LastTryReleases, ReleasesWriters}
use Rattle.sleep_core.specs.Laws.{ReleasesBelow}
use Rattle.sleep_core.specs.State.{State}
use Rattle.waiting.specs.declared.call.Reply.TheVariants.{Done}
use Rattle.pipe_dev.specs.Rendezes.{WakesWith, reader_rendez, writer_rendez}
use Rattle.pipe_dev.specs.WriteCalls.{EndsLongBy, IsLongRefusedAs, IsRefusedAs, RunsAWrite}
use Rattle.pipe_dev.specs.WriteCalls.{RunsEach, RunsWell, RunsWrite, WriteCall, Writer, WritesBy}
use Rattle.pipe_dev.specs.WriteCalls.{WritesLongBy, atomic_writes, bytes_in, call_for, run_writer}
use Rattle.pipe_dev.specs.WriteCalls.{writer_of, writing}
use Rattle.waiting.specs.Waiting.{Point}
use Rattle.waiting.specs.Runners.{ComesToSame, IsACall, RunPoint, Runs}

-- ---- at once

-- a write that is refused for this
abbrev refusal : Fault → Result ℕ Fault
refusal why = Err why

module _ {At : Type 0} (old new : At) where
  refused_for_another_reason :
      ¬ IsRefusedAs {Out = ℕ} fault.TooBig old (Err fault.NoRendez) new
  refused_for_another_reason is =
      let clash : refusal fault.NoRendez ≡ refusal fault.TooBig = is.answer_is in cc

  refused_and_does_it : new ≢ old → ¬ IsRefusedAs {Out = ℕ} fault.TooBig old (Err fault.TooBig) new
  refused_and_does_it other is = other is.same

-- ---- as it is run

module _ {Timer : Type 0} (runs : Runs Timer) (call : WriteCall)
    (old new : RunPoint Timer (Account Entry)) (answer : Result ℕ Fault) where
  -- it neither wanted memory nor was run
  writes_in_no_way : ¬ IsRefusedAs fault.Memory old answer new
      → ¬ runs.ran (writing call) (writer_rendez call.row call.writer) old answer new
      → ¬ WritesBy runs call old answer new
  writes_in_no_way none ran (inl wants) = none wants
  writes_in_no_way none ran (inr runs) = ran runs

module _ (call : WriteCall) (old new : Writer) (answer : Result ℕ Fault) where
  -- nor was it a call
  writes_as_no_call : ¬ IsRefusedAs fault.Memory old answer new
      → ¬ IsACall (writing call) (writer_rendez call.row call.writer) old answer new
      → ¬ RunsAWrite call old answer new
  writes_as_no_call none other (inl wants) = none wants
  writes_as_no_call none other (inr is) = other is

-- where a read stands with a timer is where it stands, and the timer
the_timer_goes_along : {Timer : Type 0} (call : Calling) (timer : Timer)
    → ((run_call call timer).at ≡ call) × ((run_call call timer).timer ≡ timer)
the_timer_goes_along call timer = (refl, refl)

-- and so of a write
the_writer_goes_along : {Timer : Type 0} (side : WriteSide) (timer : Timer) (proc : Running)
    → ((run_writer side timer proc).at ≡ writer_of side proc)
    × ((run_writer side timer proc).timer ≡ timer)
the_writer_goes_along side timer proc = (refl, refl)

module _ (key : Key) (row : Row) (old new : Calling) (answer : Result ReadAnswer Fault) where
  -- it was not run on the reader's Rendez
  reads_in_no_way : {Timer : Type 0} (runs : Runs Timer) (first last : RunPoint Timer Lending)
      → ¬ runs.ran (reading key row) (reader_rendez row) first answer last
      → ¬ ReadsBy runs key row first answer last
  reads_in_no_way runs first last ran reads = ran reads

  reads_as_no_call :
      ¬ IsACall (reading key row) (reader_rendez row) old answer new
      → ¬ RunsARead key row old answer new
  reads_as_no_call other is = other is

-- a read of a block was not run on the reader's Rendez, or was no call
module _ (key : Key) (row : Row) (old new : Calling) (answer : Result ReadAnswer Fault) where
  reads_a_block_in_no_way : {Timer : Type 0} (runs : Runs Timer)
      → (first last : RunPoint Timer Lending)
      → ¬ runs.ran (block_reading key row) (reader_rendez row) first answer last
      → ¬ ReadsBlockBy runs key row first answer last
  reads_a_block_in_no_way runs first last ran reads = ran reads

  reads_a_block_as_no_call :
      ¬ IsACall (block_reading key row) (reader_rendez row) old answer new
      → ¬ RunsABlockRead key row old answer new
  reads_a_block_as_no_call other is = other is

-- ---- a long write as it is run

module _ {At : Type 0} (why : Fault) (old new : At) (long : Long) where
  refused_though_it_took : long ≢ record { taken = 0; fault = Some why }
      → ¬ IsLongRefusedAs why old long new
  refused_though_it_took other is = other is.long_is

  refused_long_and_does_it : new ≢ old → ¬ IsLongRefusedAs why old long new
  refused_long_and_does_it other is = other is.same

module _ {Timer : Type 0} (runs : Runs Timer) (call : WriteCall)
    (old new : RunPoint Timer (Account Entry)) where
  one_of_its_writes_is_run_in_no_way : (answer : Result ℕ Fault)
      → ¬ WritesBy runs call old answer new → ¬ RunsWrite runs call old answer new
  one_of_its_writes_is_run_in_no_way answer none run = none run.wrote

  one_of_its_writes_is_no_write : (answer : Result ℕ Fault)
      → ¬ RunsAWrite call old.at answer new.at → ¬ RunsWrite runs call old answer new
  one_of_its_writes_is_no_write answer none run = none run.is_write

  -- it was accepted with no number
  none_was_accepted : ((number : ℕ) → ¬ RunsWrite runs call old (Ok number) new)
      → ¬ RunsWell runs call old new
  none_was_accepted none runs = none runs.number runs.accepted

  -- one of its writes got a fault, or was written after another
  wrote_on_after_a_fault : (block : List ℕ) (blocks : List (List ℕ))
      → ((between : RunPoint Timer (Account Entry))
      → ¬ RunsWell runs (call_for call block) between new)
      → ¬ RunsEach runs call (block ∷ blocks) old new
  wrote_on_after_a_fault block blocks none more = none more.between more.last

  wrote_another_first : (block : List ℕ) (blocks : List (List ℕ))
      → ((between : RunPoint Timer (Account Entry)) → ¬ RunsEach runs call blocks old between)
      → ¬ RunsEach runs call (block ∷ blocks) old new
  wrote_another_first block blocks none more = none more.between more.rounds

  -- it wrote nothing, and did something
  wrote_none_and_did_it : new ≢ old → ¬ RunsEach runs call [] old new
  wrote_none_and_did_it other same = other same

  module _ (done : List (List ℕ)) where
    ended_with_bytes_left : reverse done ≢ atomic_writes call.bytes
        → ¬ EndsLongBy runs call done old None new
    ended_with_bytes_left left ended = left ended.1

    did_more_after_all : new ≢ old → ¬ EndsLongBy runs call done old None new
    did_more_after_all other ended = other ended.0

    stopped_at_no_write : (why : Fault)
        → ((block : List ℕ) → ¬ RunsWrite runs (call_for call block) old (Err why) new)
        → ¬ EndsLongBy runs call done old (Some why) new
    stopped_at_no_write why none ended = none ended.0 ended.3

    stopped_at_another_write : (why : Fault)
        → ((block : List ℕ) (others : List (List ℕ))
        → atomic_writes call.bytes ≢ reverse done ++ block ∷ others)
        → ¬ EndsLongBy runs call done old (Some why) new
    stopped_at_another_write why none ended = none ended.0 ended.1 ended.2

  module _ (long : Long) where
    counts_other_bytes : ((done : List (List ℕ)) → long.taken ≢ bytes_in done)
        → ¬ WritesLongBy runs call old long new
    counts_other_bytes other wrote = other wrote.done wrote.taken

    wrote_no_such_writes : ((done : List (List ℕ)) (between : RunPoint Timer (Account Entry))
        → ¬ RunsEach runs call done old between) → ¬ WritesLongBy runs call old long new
    wrote_no_such_writes none wrote = none wrote.done wrote.between wrote.written

    ended_in_no_way : ((done : List (List ℕ)) (between : RunPoint Timer (Account Entry))
        → ¬ EndsLongBy runs call done between long.fault new)
        → ¬ WritesLongBy runs call old long new
    ended_in_no_way none wrote = none wrote.done wrote.between wrote.ended

-- ---- as a call that waits as long as it takes

module _ {Seat Out : Type 0} (Does : Result Out Fault → Point Seat → Type 0)
    (answer : Result Out Fault) (new : Point Seat) where
  comes_to_another : ((told : Result Out Fault) → ¬ ComesToSame told answer)
      → ¬ RunsAs Does answer new
  comes_to_another none is = none is.told is.same

  does_another : ((told : Result Out Fault) (process : Process)
      → ¬ Does told (record { seat = new.seat; process = process }))
      → ¬ RunsAs Does answer new
  does_another none is = none is.told is.process is.did

  -- another process made its steps
  is_the_call_of_another : ((process : Process) → ¬ IsPast process.trace new.process.trace)
      → ¬ RunsAs Does answer new
  is_the_call_of_another none is = none is.process is.own

-- ---- whom it wakes

module _ (state : State) (row : Row) (number : ℕ) where
  leaves_a_writer_asleep : (writer : ℕ) → writer < row.writers
      → ¬ ReleasesBelow state (writer_rendez row writer) number → ¬ ReleasesWriters state row number
  leaves_a_writer_asleep writer one none releases = none (releases writer one)

module _ (state : State) (key : Key) (row : Row) (answer : ReadAnswer) (new : Calling)
    (last : LastTryReleases state key row answer new) where
  it_answers_what_it_was_told_last :
      AsksForBytes key row last.before (Done answer) (record new { process = last.process })
  it_answers_what_it_was_told_last = last.asked

  takes_writes_and_leaves_the_writers : (number : ℕ) → ¬ ReleasesWriters state row number
      → ¬ WakesWith row (Some number) last.before.process last.process
  takes_writes_and_leaves_the_writers number none wakes = none (last.released number wakes)

module _ (state : State) (key : Key) (row : Row) (answer : ReadAnswer) (new : Calling)
    (last : LastBlockReleases state key row answer new) where
  its_block_is_what_it_got_last :
      AsksForBlock key row last.before (Done answer) (record new { process = last.process })
  its_block_is_what_it_got_last = last.asked

  takes_a_block_and_leaves_the_writers : (number : ℕ) → ¬ ReleasesWriters state row number
      → ¬ WakesWith row (Some number) last.before.process last.process
  takes_a_block_and_leaves_the_writers number none wakes = none (last.released number wakes)
