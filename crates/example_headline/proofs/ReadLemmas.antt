-- What a read of messages leaves: the wakeups that it owes have returned, and a refusal is told as
-- it was.
use Rattle.std.proofs.Common.{◌≡◌, ◌⊎◌, ◌+◌, inl, inr, ℕ, List, ◌∷◌, refl, sym, ◌∙◌, ap, subst}
use Rattle.std.specs.Prelude.{Option, Result, Ok, Err, IsErrOf, ⊤, Some, None}
use Rattle.histories.specs.declared.account.Account.{Account}
use Rattle.histories.proofs.ListLemmas.{past_refl}
use Rattle.sync_base.specs.declared.fault.Fault.{Fault}
use Rattle.sync_base.specs.declared.fault.Fault.TheVariants as fault
use Rattle.sync_base.specs.declared.mode.Mode.TheVariants.{Message}
use Rattle.sync_base.specs.NoteSet.{no_notes}
use Rattle.sleep_core.specs.declared.answer.Answer.TheVariants as answer
use Rattle.sleep_core.specs.declared.event.Event.TheVariants.{Post}
use Rattle.sleep_core.specs.Table.{ending_of}
use Rattle.rendez_words.specs.Process.{Process, pid_in}
use Rattle.sleep_wakeup.specs.Actions.{FailsAsleep, SleepsWell}
use Rattle.block_queue.specs.declared.entry.Entry.{Entry}
use Rattle.block_queue.specs.declared.entry.Entry.TheVariants as entry
use Rattle.block_queue.specs.declared.view.Key.{Key}
use Rattle.block_queue.specs.History.{seat_of}
use Rattle.block_queue.specs.Meaning.{Enters}
use Rattle.pipe_dev.specs.declared.answers.ReadAnswer.{ReadAnswer}
use Rattle.pipe_dev.specs.declared.answers.ReadAnswer.TheVariants as read
use Rattle.pipe_dev.specs.declared.row.Row.{Row}
use Rattle.pipe_dev.specs.CallLaws.{GetsOne, ReadsOneOrNone}
use Rattle.pipe_dev.specs.Filling.{IsLeft, IsTakenOut, Lending, number_of}
use Rattle.pipe_dev.specs.Parts.{Part}
use Rattle.pipe_dev.specs.ReadCalls.{AsksForBytes, Calling, FindsNone, Reads, reading}
use Rattle.pipe_dev.specs.Rendezes.{WakesWith, WakesWriters, reader_rendez}
use Rattle.pipe_dev.specs.WriteCalls.{HasHang}
use Rattle.waiting.specs.Waiting.{Waited, WaitPoint, reply_of}
use Rattle.waiting.specs.declared.call.Reply.{Reply}
use Rattle.waiting.specs.declared.call.Reply.TheVariants.{Done, Wait}
use Rattle.pipe_dev.proofs.ModeLemmas.{messages_are_read_one_by_one}
use Rattle.example_headline.specs.Crew.{HaveWoken, OfMine}
use Rattle.example_headline.specs.Refusals.{IsClear, TellsWhyStopped, WasAnswered, last_told}
use Rattle.example_headline.specs.Wakes.{HasReturnedIn, Wakes}
use Rattle.example_headline.proofs.MineLemmas.{of_mine_more, of_mine_new}
use Rattle.example_headline.proofs.MineLemmas.{of_mine_weaker}
use Rattle.example_headline.proofs.WaitLemmas.{wait_over}
use Rattle.example_headline.proofs.WakeLemmas.{Was, sleep_more, step_more, writers_more}
use Rattle.example_headline.proofs.WakeLemmas.{woken_still, writers_returned}

module _ (key : Key) (row : Row) (mode : row.mode ≡ Message) (start : Calling) where
  -- what its seat knows
  abbrev account_in : Calling → Account Entry
  account_in at = at.seat.taker.account

  abbrev Mine : (List Entry → Type 0) → Calling → Type 0
  Mine Holds at = OfMine 0 Holds (account_in at)

  -- the wakeups that the reader owes have returned
  abbrev pub Woken : Calling → Type 0
  Woken at = Mine (HaveWoken at.process.trace row) at

  -- why it was refused
  abbrev pub Why : Result ReadAnswer Fault → Calling → Type 0
  Why (Ok its) at = ⊤
  Why (Err why) at = Mine (λ mine. TellsWhyStopped why mine at.process.trace) at

  -- its seat has hung nothing up
  abbrev pub Quiet : Calling → Type 0
  Quiet at = Mine (λ mine. ¬ HasHang mine) at

  -- nor was it refused anything
  abbrev pub Clear : Calling → Type 0
  Clear at = Mine IsClear at

  -- so it is after a read that got bytes
  abbrev pub Went : Result ReadAnswer Fault → Calling → Type 0
  Went (Ok (read.Got count)) at = Clear at
  Went other at = ⊤

  -- while it waits
  record IsWaiting (at : WaitPoint Lending) : Type 0 where
    woken : Woken start → Woken at.at
    quiet : Quiet start → Quiet at.at
    rest : at.at.seat.taker.rest ≡ None
    told : Mine (λ mine. last_told mine ≡ Some (entry.NotYet at.number)) at.at

  -- and when it is answered
  pub record IsAnswered (answer : Result ReadAnswer Fault) (at : Calling) : Type 0 where
    -- its wakeups have returned, if they had
    pub woken : Woken start → Woken at
    -- it has hung up no more than before
    pub quiet : Quiet start → Quiet at
    -- and is clear where it got bytes and was so
    pub went : Clear start → Went answer at
    -- and a refusal is told
    pub why : Why answer at

  -- an entry more, whose wakeups have returned
  enters : (made : Entry) (old new : Calling)
      → Enters key made (account_in old) (account_in new)
      → seat_of made ≡ 0 → Was old.process new.process
      → Wakes (HasReturnedIn new.process.trace) row made → Woken old → Woken new
  enters made old new entered by_it was wakes woken =
      of_mine_more key made 0 (account_in old) (account_in new) (HaveWoken old.process.trace row)
      (HaveWoken new.process.trace row) entered by_it
      (λ mine all. (wakes, woken_still old.process.trace new.process.trace row was mine all))
      woken

  -- steps more
  steps : (old new : Calling) → account_in new ≡ account_in old → Was old.process new.process
      → Woken old → Woken new
  steps old new same was woken =
      subst (λ (account : Account Entry). OfMine 0 (HaveWoken new.process.trace row) account)
      (sym same)
      (of_mine_weaker 0 (account_in old) (HaveWoken old.process.trace row)
      (HaveWoken new.process.trace row)
      (woken_still old.process.trace new.process.trace row was) woken)

  same_process : (old new : Process) → new ≡ old → Was old new
  same_process old new same = subst (λ (p : Process). Was old p) (sym same) (past_refl old.trace)

  -- a take that found nothing
  finds : (made : Entry) (old new : Calling) → FindsNone key made old new → seat_of made ≡ 0
      → Wakes (HasReturnedIn new.process.trace) row made → Woken old
      → Woken new
  finds made old new none by_it wakes =
      enters made old new none.nothing.entered by_it
      (same_process old.process new.process none.process) wakes

  -- what one try did
  one : (old new : Calling) (told : Reply ReadAnswer) → AsksForBytes key row old told new
      → ReadsOneOrNone key row old told new
  one old new told = messages_are_read_one_by_one key row old told new mode

  -- where no write was begun it took the next one out, and woke with its number
  woke : (old new : Calling) (count : ℕ) (gets : GetsOne key row old count new)
      → old.seat.taker.rest ≡ None
      → WakesWriters row row.writers (gets.taken.left.place + 1) old.process
      new.process
  woke old new count gets none =
      subst (λ (n : ℕ).
      WakesWriters row row.writers (n + 1) old.process new.process)
      (ap (λ (p : Part). p.place) gets.taken.part_is)
      (subst (λ (r : Option Part).
      WakesWith row (number_of r gets.part) old.process new.process) none
      gets.woken)

  -- it went on with a write that was begun, or took the next one out
  got : (old new : Calling) (count : ℕ) → GetsOne key row old count new → Woken old
      → Woken new
  got old new count gets = by gets.taken.next
    where
      left : Part
      left = gets.taken.left

      by : IsLeft old.seat.taker left new.seat.taker
          ⊎ IsTakenOut key old.seat.taker left new.seat.taker
          → Woken old → Woken new
      by (inl goes) =
          steps old new goes.account
          (same_process old.process new.process
          (subst (λ (r : Option Part).
          WakesWith row (number_of r gets.part) old.process new.process)
          goes.left_is gets.woken))
      by (inr takes) =
          let woken = woke old new count gets takes.none_left in
          enters (entry.Block left.writer left.bytes (left.place + 1)) old new
          takes.taken refl
          (writers_more row (left.place + 1) row.writers old.process new.process
          woken)
          (writers_returned row (left.place + 1) row.writers old.process
          new.process woken)

  -- a request that is answered
  answered : (old new : Calling) (told : Result ReadAnswer Fault)
      → AsksForBytes key row old (reply_of told) new → Woken old → Woken new
  answered old new (Ok (read.Got count)) asks =
      got old new count (one old new (Done (read.Got count)) asks)
  answered old new (Ok read.End) asks =
      finds entry.End old new (one old new (Done read.End) asks) refl tt
  answered old new (Err why) asks = absurd asks

  -- an entry more, which is no hangup
  enters_quiet : (made : Entry) (old new : Calling)
      → Enters key made (account_in old) (account_in new)
      → seat_of made ≡ 0 → ((mine : List Entry) → ¬ HasHang mine → ¬ HasHang (made ∷ mine))
      → Quiet old → Quiet new
  enters_quiet made old new entered by_it still quiet =
      of_mine_more key made 0 (account_in old) (account_in new) (λ mine. ¬ HasHang mine)
      (λ mine. ¬ HasHang mine) entered by_it still quiet

  -- so of a read that got bytes
  gets_quiet : (old new : Calling) (left : Part)
      → IsLeft old.seat.taker left new.seat.taker
      ⊎ IsTakenOut key old.seat.taker left new.seat.taker → Quiet old → Quiet new
  gets_quiet old new left (inl goes) quiet =
      subst (λ (account : Account Entry). OfMine 0 (λ mine. ¬ HasHang mine) account)
      (sym goes.account) quiet
  gets_quiet old new left (inr takes) quiet =
      enters_quiet (entry.Block left.writer left.bytes (left.place + 1)) old new takes.taken refl
      (λ mine none. none) quiet

  -- it was refused nothing, where it had not been while it went on with a write
  gets_clear : (old new : Calling) (left : Part)
      → IsLeft old.seat.taker left new.seat.taker
      ⊎ IsTakenOut key old.seat.taker left new.seat.taker
      → (old.seat.taker.rest ≡ Some left → Clear old) → Quiet old → Clear new
  gets_clear old new left (inl goes) clear quiet =
      subst (λ (account : Account Entry). OfMine 0 IsClear account) (sym goes.account)
      (clear goes.left_is)
  gets_clear old new left (inr takes) clear quiet =
      of_mine_more key (entry.Block left.writer left.bytes (left.place + 1)) 0 (account_in old)
      (account_in new) (λ mine. ¬ HasHang mine) IsClear takes.taken refl
      (λ mine none. record { given = tt; quiet = none }) quiet

  answered_quiet : (old new : Calling) (told : Result ReadAnswer Fault)
      → AsksForBytes key row old (reply_of told) new → Quiet old → Quiet new
  answered_quiet old new (Ok (read.Got count)) asks =
      let taken = (one old new (Done (read.Got count)) asks).taken in
      gets_quiet old new taken.left taken.next
  answered_quiet old new (Ok read.End) asks =
      enters_quiet entry.End old new (one old new (Done read.End) asks).nothing.entered refl
      (λ mine none. none)
  answered_quiet old new (Err why) asks = absurd asks

  went : (old new : Calling) (told : Result ReadAnswer Fault)
      → AsksForBytes key row old (reply_of told) new
      → ((left : Part) → old.seat.taker.rest ≡ Some left → Clear old) → Quiet old
      → Went told new
  went old new (Ok (read.Got count)) asks clear quiet =
      let taken = (one old new (Done (read.Got count)) asks).taken in
      gets_clear old new taken.left taken.next (clear taken.left) quiet
  went old new (Ok read.End) asks clear quiet = tt
  went old new (Err why) asks clear quiet = tt

  -- what was refused nothing has hung nothing up
  is_quiet : (at : Calling) → Clear at → Quiet at
  is_quiet at clear =
      of_mine_weaker 0 (account_in at) IsClear (λ mine. ¬ HasHang mine) (λ mine clear. clear.quiet)
      clear

  over : (old new : Calling) (told : Result ReadAnswer Fault)
      → AsksForBytes key row old (reply_of told) new → Why told new
  over old new (Ok its) asks = tt
  over old new (Err why) asks = absurd asks

  -- a request that is told to wait
  waits : (old new : Calling) (told : ℕ) → (Woken start → Woken old)
      → (Quiet start → Quiet old)
      → AsksForBytes key row old (Wait told) new
      → IsWaiting (record { at = new; number = told })
  waits old new told woken quiet asks =
      let found = one old new (Wait told) asks in
      record {
        quiet = λ had. enters_quiet (entry.NotYet told) old new found.nothing.entered
            refl (λ mine none. none) (quiet had);
        rest = found.nothing.rest;
        woken = λ had.
            finds (entry.NotYet told) old new found refl tt (woken had);
        told = of_mine_new key (entry.NotYet told) 0 (account_in old) (account_in new)
            (λ mine. last_told mine ≡ Some (entry.NotYet told)) found.nothing.entered refl
            (λ mine. refl);
      }

  -- a sleep that failed
  fails : (old : WaitPoint Lending) (why : Fault) (new : Process) → IsWaiting old
      → FailsAsleep old.at.process (reader_rendez row) old.number new why
      → IsAnswered (Err why) (record { seat = old.at.seat; process = new })
  fails old (fault.Interrupted notes) new on failed =
      let after : Calling = record { seat = old.at.seat; process = new } in
      let told : WasAnswered (ending_of notes) new.trace
      = subst (λ (p : Process). WasAnswered (ending_of notes) p.trace)
      (sym failed.0.leaves.cleared) (inl refl) in
      record {
        woken = λ had.
            steps old.at after refl
            (sleep_more old.at.process (reader_rendez row) old.number notes new failed.0)
            (on.woken had);
        quiet = on.quiet;
        went = λ had. tt;
        why = of_mine_weaker 0 (account_in after)
            (λ mine. last_told mine ≡ Some (entry.NotYet old.number))
            (λ mine. TellsWhyStopped (fault.Interrupted notes) mine new.trace)
            (λ mine none. ((old.number, none), (failed.1, told))) on.told;
      }
  fails old fault.DoubleSleep new on failed =
      let after : Calling = record { seat = old.at.seat; process = new } in
      let told : WasAnswered answer.DoubleSleep new.trace
      = subst (λ (p : Process). WasAnswered answer.DoubleSleep p.trace) (sym failed) (inl refl) in
      record {
        woken = λ had.
            steps old.at after refl
            (subst (λ (p : Process). Was old.at.process p) (sym failed)
            (step_more old.at.process old.at.process
            (Post (pid_in old.at.process) (reader_rendez row) old.number) answer.DoubleSleep
            (past_refl old.at.process.trace))) (on.woken had);
        quiet = on.quiet;
        went = λ had. tt;
        why = of_mine_weaker 0 (account_in after)
            (λ mine. last_told mine ≡ Some (entry.NotYet old.number))
            (λ mine. TellsWhyStopped fault.DoubleSleep mine new.trace)
            (λ mine none. ((old.number, none), told)) on.told;
      }
  fails old other new on failed = absurd failed

  -- where it stands after a sleep that ended well
  slept : (old : WaitPoint Lending) (woken : Process) → IsWaiting old
      → SleepsWell old.at.process (reader_rendez row) old.number woken
      → Woken start → Woken (record { seat = old.at.seat; process = woken })
  slept old woken on well had =
      steps old.at (record { seat = old.at.seat; process = woken }) refl
      (sleep_more old.at.process (reader_rendez row) old.number no_notes woken well)
      (on.woken had)

  waited : (told : Result ReadAnswer Fault) (new : Calling)
      → Waited (reading key row) (reader_rendez row) start told new → IsAnswered told new
  waited told new (inl begun) =
      record {
        woken = answered start new told begun;
        quiet = answered_quiet start new told begun;
        went = λ clear.
            went start new told begun (λ left is. clear)
            (is_quiet start clear);
        why = over start new told begun;
      }
  waited told new (inr begins) =
      wait_over (reading key row) (reader_rendez row) IsWaiting IsAnswered
      (λ old its new on asks.
      waits (record { seat = old.at.seat; process = asks.woken }) new its
      (slept old asks.woken on asks.slept) on.quiet asks.asked)
      (λ old its new on asks.
      let woken : Calling = record { seat = old.at.seat; process = asks.woken } in
      record {
        woken = λ had.
            answered woken new its asks.asked
            (slept old asks.woken on asks.slept had);
        quiet = λ had.
            answered_quiet woken new its asks.asked (on.quiet had);
        went = λ clear.
            went woken new its asks.asked
            (λ left is. let some : None ≡ Some left = sym on.rest ∙ is in absurd (cc))
            (on.quiet (is_quiet start clear));
        why = over woken new its asks.asked;
      })
      (λ old why new on leaves.
      subst (λ (seat : Lending).
      IsAnswered (Err why) (record { seat = seat; process = new.process })) (sym leaves.left)
      (fails old why new.process on leaves.failed))
      (λ old new out late. late) begins.first told new
      (waits start begins.first.at begins.first.number (λ had. had) (λ had. had) begins.begun)
      begins.waited

  abbrev Reading : Result ReadAnswer Fault → Calling → Type 0
  Reading told new = Reads key row start told new

  -- the wakeups that a read owes have returned
  pub reads_wake : (told : Result ReadAnswer Fault) (new : Calling) → Reading told new
      → Woken start → Woken new
  reads_wake (Ok its) new reads = (waited (Ok its) new reads).woken
  reads_wake (Err fault.BadCount) new none =
      subst (λ (r : Calling). Woken start → Woken r) (sym none) (λ had. had)
  reads_wake (Err fault.NoRendez) new none =
      subst (λ (r : Calling). Woken start → Woken r) (sym none) (λ had. had)
  reads_wake (Err why) new reads = (waited (Err why) new reads).woken

  -- a read is no hangup
  pub reads_quiet : (told : Result ReadAnswer Fault) (new : Calling) → Reading told new
      → Quiet start → Quiet new
  reads_quiet (Ok its) new reads = (waited (Ok its) new reads).quiet
  reads_quiet (Err fault.BadCount) new none =
      subst (λ (r : Calling). Quiet start → Quiet r) (sym none) (λ had. had)
  reads_quiet (Err fault.NoRendez) new none =
      subst (λ (r : Calling). Quiet start → Quiet r) (sym none) (λ had. had)
  reads_quiet (Err why) new reads = (waited (Err why) new reads).quiet

  -- and one that got bytes is no refusal
  pub gets_are_clear : (count : ℕ) (new : Calling) → Reading (Ok (read.Got count)) new
      → Clear start → Clear new
  gets_are_clear count new reads =
      (waited (Ok (read.Got count)) new reads).went

  -- and a refusal is told as it was
  pub reads_tell_why : (told : Result ReadAnswer Fault) (new : Calling) → Reading told new
      → ¬ IsErrOf told fault.BadCount → ¬ IsErrOf told fault.NoRendez → Why told new
  reads_tell_why (Ok its) new reads some known = tt
  reads_tell_why (Err fault.BadCount) new none some known = absurd (some refl)
  reads_tell_why (Err fault.NoRendez) new none some known = absurd (known refl)
  reads_tell_why (Err why) new reads some known = (waited (Err why) new reads).why
