-- A direction that holds one write, entry by entry, and what a process does: the worked calls are
-- made of these.
use Rattle.std.proofs.Common.{◌≡◌, ◌≢◌, ℕ, false, true, List, [], ◌∷◌, ◌++◌, refl, inl, inr, ap}
use Rattle.std.proofs.Common.{arith, None, Result, Err}
use Rattle.histories.specs.declared.account.Account.{Account}
use Rattle.histories.specs.Account.{AreByOthers}
use Rattle.histories.specs.Changes.{entered_account}
use Rattle.histories.specs.History.{IsHistory, entries_by}
use Rattle.sync_base.specs.declared.fault.Fault.{Fault}
use Rattle.sync_base.specs.declared.fault.Fault.TheVariants as fault
use Rattle.sync_base.specs.declared.ids.RendezId.{RendezId}
use Rattle.sync_base.specs.declared.mode.Mode.{Mode}
use Rattle.sync_base.specs.declared.mode.Mode.TheVariants.{Message}
use Rattle.sync_base.specs.declared.note.Note.TheVariants.{Interrupt}
use Rattle.sync_base.specs.declared.note.NoteSet.{NoteSet}
use Rattle.sync_base.specs.NoteSet.{no_notes, only}
use Rattle.sleep_core.specs.declared.answer.Answer.TheVariants as answer
use Rattle.rendez_words.specs.Process.{Process, TableId}
use Rattle.rendez_words.specs.Steps.{posts, tests, clears, raises, finds_nobody}
use Rattle.sleep_wakeup.specs.Actions.{WakesOne}
use Rattle.sleep_wakeup.specs.Calls.{Ends, Sleeps}
use Rattle.block_queue.specs.declared.entry.Entry.{Entry}
use Rattle.block_queue.specs.declared.entry.Entry.TheVariants as entry
use Rattle.block_queue.specs.declared.view.Key.{Key}
use Rattle.block_queue.specs.History.{seat_of, opening_state}
use Rattle.block_queue.specs.Meaning.{Enters, queue_meaning}
use Rattle.pipe_dev.specs.declared.row.Row.{Row}
use Rattle.pipe_dev.specs.Rendezes.{WakesWriters}
use Rattle.waiting.specs.declared.call.Reply.TheVariants.{Wait}
use Rattle.waiting.specs.declared.wait.WaitEnd.TheVariants.{Answered, Stopped}
use Rattle.waiting.specs.Waiting.{Promise, Point, WaitPoint, Waited, reply_of}

-- the bytes of a write
abbrev pub a : List ℕ
a = 97 ∷ 98 ∷ []

-- and those of the write after it
abbrev pub b : List ℕ
b = 99 ∷ []

-- ---- a direction that holds one write, entry by entry

-- it holds one write, of one writer
abbrev pub tight : Key
tight = record { limit = 1; first = 0; writers = 1 }

-- these entries are a history of its two seats; a search finds that they are
abbrev pub IsRun : Key → List Entry → Type 0
IsRun key history = IsHistory (queue_meaning key.first) (opening_state key.limit) 2 history

-- nothing was there
abbrev pub seen_1 : List Entry
seen_1 = entry.NotYet 0 ∷ []

-- a write was put and stood
abbrev pub seen_3 : List Entry
seen_3 = entry.Stood 0 1 ∷ entry.Taken 0 a 1 ∷ seen_1

-- another found no room
abbrev pub seen_4 : List Entry
seen_4 = entry.Full 0 b 0 ∷ seen_3

-- the first was taken out
abbrev pub seen_5 : List Entry
seen_5 = entry.Block 0 a 1 ∷ seen_4

-- the other was put
abbrev pub seen_6 : List Entry
seen_6 = entry.Taken 0 b 2 ∷ seen_5

-- ---- what the reader's seat knows

-- the seat, with what it made and what it has seen
abbrev pub taker : List Entry → List Entry → Account Entry
taker mine seen =
    record {
      number = 0;
      shares = record { number = 0; mine = mine } ∷ [];
      seen = seen;
      gave = 1 ∷ [];
    }

-- others made some entries since, and the seat then this one
pub taker_enters : (limit : ℕ) (made : Entry) (since mine seen : List Entry)
    → AreByOthers seat_of (taker mine seen).shares since
    → entries_by seat_of 0 (since ++ seen) ≡ mine
    → entries_by seat_of 0 (made ∷ since ++ seen) ≡ made ∷ mine
    → taker (made ∷ mine) (made ∷ since ++ seen)
    ≡ entered_account seat_of made (since ++ seen) (taker mine seen)
    → IsRun (record tight { limit = limit }) (made ∷ since ++ seen)
    → Enters (record tight { limit = limit }) made (taker mine seen)
    (taker (made ∷ mine) (made ∷ since ++ seen))
taker_enters limit made since mine seen others before after is run =
    record {
      adds = record {
        past = since ++ seen;
        looked = record {
          since = since;
          history_is = refl;
          by_others = others;
          mine = (record { entries = before }, tt);
          alone = λ all. let no : false ≡ true = all.gave.0 in cc;
        };
        new_is = is;
      };
      knows = record {
        history = run;
        mine = (record { entries = after }, tt);
        different = (tt, tt);
        numbers = (omega arith, tt);
        gave = (omega arith, tt);
      };
    }

-- before its first entry
abbrev pub unread : Account Entry
unread = taker [] []

-- ---- what a process does

-- a Rendez of this number
abbrev pub at_rendez : ℕ → RendezId
at_rendez number = record { 0 = number }

-- the reader sleeps on the Rendez 3, and the writer on 4
abbrev pub row_in : Mode → Row
row_in mode = record { first = 3; writers = 1; mode = mode; small = omega arith }

-- where writes stay apart
abbrev pub rendez_row : Row
rendez_row = row_in Message

-- it made a wakeup on a Rendez, on which nobody slept
abbrev pub woke : Process → ℕ → ℕ → Process
woke before number level = finds_nobody (raises before (at_rendez number) level)

-- this is that wakeup, by the process 0
pub wakes_one : (before : Process) (number level : ℕ)
    → WakesOne (record before { pid = 0 }) (at_rendez number) level
    (woke (record before { pid = 0 }) number level)
wakes_one before number level =
    record {
      receipt = record { rendez = at_rendez number; level = level };
      woken = record { ends = inl refl; rendez_is = refl; level_is = refl; receipt = inl refl };
    }

-- and so it wakes the one writer
pub wakes_writer : (mode : Mode) (before : Process) (level : ℕ)
    → WakesWriters (row_in mode) 1 level (record before { pid = 0 })
    (woke (record before { pid = 0 }) 4 level)
wakes_writer mode before level =
    record {
      between = record before { pid = 0 };
      rounds = refl;
      last = wakes_one before 4 level;
    }

-- it slept: its test found the condition true, and these notes were pending as it cleared its flags
abbrev pub slept : Process → ℕ → ℕ → NoteSet → Process
slept before number threshold set =
    clears (tests (posts before (at_rendez number) threshold answer.Posted) answer.Leaving) set

-- these are the steps of a sleep
pub sleeps : (before : Process) (number threshold : ℕ) (set : NoteSet)
    → Sleeps before (at_rendez number) threshold set (slept before number threshold set)
sleeps before number threshold set =
    record {
      tested = answer.Leaving;
      leaves = record { waiting = []; of_wait = tt; cleared = refl };
      cause = λ none. inl refl;
    }

-- a call that was told to wait with this number
abbrev pub told_to_wait : {Seat : Type 0} → Seat → Process → ℕ → WaitPoint Seat
told_to_wait seat process number =
    record { at = record { seat = seat; process = process }; number = number }

module _ {Seat Out : Type 0} (promise : Promise Seat Out) (rendez : ℕ) (old : Point Seat)
    (told new : Seat) (before : Process) (number : ℕ)
    (begun : promise.begun old (Wait number) (record { seat = told; process = before })) where
  -- it slept once, and then asked and was answered
  pub slept_once : (answer : Result Out Fault) (after : Process)
      → promise.asked (record { seat = told; process = slept before rendez number no_notes })
      (reply_of answer) (record { seat = new; process = after })
      → Waited promise (at_rendez rendez) old answer (record { seat = new; process = after })
  slept_once answer after asked =
      inr (record {
        first = told_to_wait told before number;
        begun = begun;
        waited = record {
          ending = Answered answer;
          process = after;
          slept = record {
            times = 0;
            last = told_to_wait told before number;
            rounds = refl;
            ends = record {
              woken = slept before rendez number no_notes;
              slept = sleeps before rendez number no_notes;
              asked = asked;
            };
          };
          returned = refl;
          answer_is = refl;
        };
      })

  -- it slept once, and a note ended its sleep
  pub interrupted : promise.left told None new
      → Waited promise (at_rendez rendez) old (Err (fault.Interrupted (only Interrupt)))
      (record { seat = new; process = slept before rendez number (only Interrupt) })
  interrupted left =
      inr (record {
        first = told_to_wait told before number;
        begun = begun;
        waited = record {
          ending = Stopped (fault.Interrupted (only Interrupt)) None;
          process = slept before rendez number (only Interrupt);
          slept = record {
            times = 0;
            last = told_to_wait told before number;
            rounds = refl;
            ends = record {
              failed = (sleeps before rendez number (only Interrupt), has_notes);
              left = left;
            };
          };
          returned = refl;
          answer_is = refl;
        };
      })
    where
      has_notes : only Interrupt ≢ no_notes
      has_notes none = let held = ap (λ (set : NoteSet). set.interrupt) none in cc

-- a process that has woken somebody did something
pub is_not_idle : (table : TableId) (before : Process) (level : ℕ)
    → Ends (raises before (at_rendez 4) level) (record { table = table; pid = 0; trace = [] }) → ⊥
is_not_idle table before level (inl nobody) = let trace = ap (λ (p : Process). p.trace) nobody in cc
is_not_idle table before level (inr sleeper) =
    let trace = ap (λ (p : Process). p.trace) sleeper.1 in cc
