-- What the calls of a read end do, after pipe(2), pipe(3) and read(2).
use Rattle.std.specs.Prelude.{◌≡◌, ℕ, nat_lt, Bool, true, List, Result, Err}
use Rattle.sync_base.specs.declared.fault.Fault.{Fault}
use Rattle.sync_base.specs.declared.fault.Fault.TheVariants as fault
use Rattle.sleep_wakeup.specs.Kernel.{Running}
use Rattle.block_queue.specs.declared.entry.Entry.{Entry}
use Rattle.block_queue.specs.declared.view.Key.{Key}
use Rattle.pipe_dev.specs.declared.answers.ReadAnswer.{ReadAnswer}
use Rattle.pipe_dev.specs.declared.answers.ReadAnswer.TheVariants as read
use Rattle.pipe_dev.specs.declared.answers.TryAnswer.{TryAnswer}
use Rattle.pipe_dev.specs.declared.answers.TryAnswer.TheVariants as try
use Rattle.pipe_dev.specs.declared.filling.ReadOutcome.{ReadOutcome}
use Rattle.pipe_dev.specs.declared.filling.Stop.{Stop}
use Rattle.pipe_dev.specs.declared.filling.Stop.TheVariants as stop
use Rattle.pipe_dev.specs.declared.row.Row.{Row}
use Rattle.pipe_dev.specs.Calls.{RunsAs, waits_by}
use Rattle.pipe_dev.specs.Ends.{ReadSide}
use Rattle.pipe_dev.specs.Filling.{Lending, FillsUp, FindsNothing, last_number}
use Rattle.pipe_dev.specs.Rendezes.{reader_rendez, WakesWith}
use Rattle.waiting.specs.declared.call.Reply.{Reply}
use Rattle.waiting.specs.declared.call.Reply.TheVariants as reply
use Rattle.waiting.specs.Runners.{IsACall, RunPoint, Runs}
use Rattle.waiting.specs.Waiting.{Promise, Point, Waited, point}

-- a read between two steps: its end with the buffer that it fills, and the process that calls
abbrev pub Calling : Type 0
Calling = Point Lending

abbrev pub calling : ReadSide → Running → List ℕ → Calling
calling side proc buffer =
    point (record {
      taker = record { account = side.account; rest = side.rest };
      buffer = buffer;
    }) proc

-- ---- one try

abbrev pub came_to : ℕ → Stop → ReadOutcome
came_to count why = record { count = count; stop = why }

-- One try, in the mode of the direction. It filled the buffer part by part, up to where it stopped.
-- Where it took writes out, it then woke each writer, with the number of the last of them.
pub record TriesOn (key : Key) (row : Row) (old : Calling) (came : ReadOutcome) (new : Calling) :
    Type 0 where
  pub fills : FillsUp key row.mode old.seat came new.seat
  pub woken : WakesWith row (last_number old.seat.taker.rest fills.filling.parts) old.process
      new.process

-- whether the answer of a try that came this far is Got: it had enough, or it gave at least one
-- byte
abbrev pub is_got_by : Stop → Bool → Bool
is_got_by stop.Enough some = true
is_got_by (stop.NotYet number) some = some
is_got_by stop.End some = some

abbrev pub is_got : ReadOutcome → Bool
is_got came = is_got_by came.stop (nat_lt 0 came.count)

-- Got: this many bytes
pub record GivesBytes (key : Key) (row : Row) (old : Calling) (count : ℕ) (new : Calling) :
    Type 0 where
  pub why : Stop
  pub tried : TriesOn key row old (came_to count why) new
  pub got : is_got (came_to count why) ≡ true

-- a try with the answer NotYet, and some number
pub record IsNotYet (key : Key) (row : Row) (old new : Calling) : Type 0 where
  pub number : ℕ
  pub tried : TriesOn key row old (came_to 0 (stop.NotYet number)) new

-- a take found nothing, and nothing else was done
pub record FindsNone (key : Key) (found : Entry) (old new : Calling) : Type 0 where
  pub nothing : FindsNothing key found old.seat.taker new.seat.taker
  pub process : new.process ≡ old.process
  pub buffer : new.seat.buffer ≡ old.seat.buffer

-- what a read that does not wait did, by its answer
abbrev pub Tries : Key → Row → Calling → TryAnswer → Calling → Type 0
Tries key row old (try.Got count) new = GivesBytes key row old count new
Tries key row old try.NotYet new = IsNotYet key row old new
Tries key row old try.End new = TriesOn key row old (came_to 0 stop.End) new

-- One request of a read that waits, by its answer: a try. A try with the answer Wait gave no byte,
-- and in stream mode it has passed the empty writes that it met.
abbrev pub AsksForBytes : Key → Row → Calling → Reply ReadAnswer → Calling → Type 0
AsksForBytes key row old (reply.Done (read.Got count)) new = Tries key row old (try.Got count) new
AsksForBytes key row old (reply.Done read.End) new = Tries key row old try.End new
AsksForBytes key row old (reply.Wait number) new =
    TriesOn key row old (came_to 0 (stop.NotYet number)) new
AsksForBytes key row old (reply.Refused why) new = ⊥

-- a read, as its wait asks the queue
abbrev pub reading : Key → Row → Promise Lending ReadAnswer
reading key row = waits_by (AsksForBytes key row)

-- What a read did, by its answer. Own: a read into a buffer of no bytes is refused first, and then
-- a read by a process whose kernel lacks Rendez of the direction; they do nothing.
abbrev pub Reads : Key → Row → Calling → Result ReadAnswer Fault → Calling → Type 0
Reads key row old (Err fault.BadCount) new = new ≡ old
Reads key row old (Err fault.NoRendez) new = new ≡ old
Reads key row old answer new = Waited (reading key row) (reader_rendez row) old answer new

-- ---- a read as it is run

-- the state of a read, and the timer that its runner is lent
abbrev pub run_call : {Timer : Type 0} → Calling → Timer → RunPoint Timer Lending
run_call call timer = record { at = call; timer = timer }

-- what a read did that was not refused at once
abbrev pub ReadsBy : {Timer : Type 0} → Runs Timer → Key → Row → RunPoint Timer Lending
    → Result ReadAnswer Fault → RunPoint Timer Lending → Type 0
ReadsBy runs key row = runs.ran (reading key row) (reader_rendez row)

-- and whatever its runner is, it was a call
abbrev pub RunsARead : Key → Row → Calling → Result ReadAnswer Fault → Calling → Type 0
RunsARead key row = IsACall (reading key row) (reader_rendez row)

abbrev pub RunsOfReadsAreReads : Type 0
RunsOfReadsAreReads =
    (key : Key) (row : Row) (old new : Calling) (answer : Result ReadAnswer Fault)
    → RunsARead key row old answer new → RunsAs (Reads key row old) answer new
