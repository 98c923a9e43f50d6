-- What a write leaves: the wakeups that it owes have returned, and a refusal is told as it was.
use Rattle.std.proofs.Common.{◌≡◌, ◌<◌, ◌+◌, inl, inr, ℕ, List, ◌∷◌, length, refl, sym, subst}
use Rattle.std.specs.Prelude.{Result, Ok, Err, IsErrOf, ⊤, Some}
use Rattle.histories.specs.declared.account.Account.{Account}
use Rattle.histories.proofs.ListLemmas.{past_refl}
use Rattle.sync_base.specs.declared.fault.Fault.{Fault}
use Rattle.sync_base.specs.declared.fault.Fault.TheVariants as fault
use Rattle.sync_base.specs.declared.limits.TheConstants.{ATOMIC_SIZE}
use Rattle.sync_base.specs.declared.note.Note.TheVariants.{ClosedPipe}
use Rattle.sync_base.specs.NoteSet.{no_notes, only}
use Rattle.sleep_core.specs.declared.answer.Answer.TheVariants as answer
use Rattle.sleep_core.specs.declared.event.Event.TheVariants.{Note, Post}
use Rattle.rendez_words.specs.Process.{Process, pid_in}
use Rattle.sleep_core.specs.Table.{ending_of}
use Rattle.sleep_wakeup.specs.Actions.{FailsAsleep, SleepsWell}
use Rattle.block_queue.specs.declared.entry.Entry.{Entry}
use Rattle.block_queue.specs.declared.entry.Entry.TheVariants as entry
use Rattle.block_queue.specs.History.{seat_of}
use Rattle.block_queue.specs.Meaning.{Enters}
use Rattle.pipe_dev.specs.Rendezes.{reader_rendez, writer_rendez}
use Rattle.pipe_dev.specs.WriteCalls.{AsksForRoom, FindsFull, HasHang, WriteCall, Writer, Writes}
use Rattle.pipe_dev.specs.WriteCalls.{writing}
use Rattle.waiting.specs.Waiting.{Waited, WaitPoint, reply_of}
use Rattle.example_headline.specs.Crew.{HaveWoken, OfMine}
use Rattle.example_headline.specs.Refusals.{IsClear, TellsWhyRefused, WasAnswered, WasGiven}
use Rattle.example_headline.specs.Refusals.{last_told}
use Rattle.example_headline.specs.Wakes.{HasReturnedIn, Wakes}
use Rattle.example_headline.proofs.MineLemmas.{of_mine_any, of_mine_more, of_mine_new}
use Rattle.example_headline.proofs.MineLemmas.{of_mine_weaker}
use Rattle.example_headline.proofs.WaitLemmas.{wait_over}
use Rattle.example_headline.proofs.WakeLemmas.{Was, sleep_more, step_more, wake_more}
use Rattle.example_headline.proofs.WakeLemmas.{wake_returned, woken_still}

module _ (call : WriteCall) (start : Writer) where
  abbrev number : ℕ
  number = call.writer + 1

  abbrev Mine : (List Entry → Type 0) → Writer → Type 0
  Mine Holds at = OfMine number Holds at.seat

  -- the wakeups that the writer owes have returned
  abbrev pub Woken : Writer → Type 0
  Woken at = Mine (HaveWoken at.process.trace call.row) at

  -- its seat has hung nothing up
  abbrev pub Quiet : Writer → Type 0
  Quiet at = Mine (λ mine. ¬ HasHang mine) at

  -- nor was it refused anything
  abbrev pub Clear : Writer → Type 0
  Clear at = Mine IsClear at

  -- so it is after a write that was accepted
  abbrev pub Went : Result ℕ Fault → Writer → Type 0
  Went (Ok its) at = Clear at
  Went (Err why) at = ⊤

  -- it was told so last
  abbrev LastTold : Entry → Writer → Type 0
  LastTold told at = Mine (λ mine. last_told mine ≡ Some told) at

  -- why it was refused
  abbrev pub Why : Result ℕ Fault → Writer → Type 0
  Why (Ok its) at = ⊤
  Why (Err why) at =
      Mine (λ mine. TellsWhyRefused why call.writer call.bytes mine at.process.trace) at

  -- while it waits
  record IsWaiting (at : WaitPoint (Account Entry)) : Type 0 where
    woken : Woken start → Woken at.at
    quiet : Quiet start → Quiet at.at
    told : LastTold (entry.Full call.writer call.bytes at.number) at.at

  -- and when it is answered
  pub record IsAnswered (answer : Result ℕ Fault) (at : Writer) : Type 0 where
    -- its wakeups have returned, if they had
    pub woken : Woken start → Woken at
    -- it has hung up no more than before
    pub quiet : Quiet start → Quiet at
    -- and is clear where it was accepted
    pub went : Quiet start → Went answer at
    -- and a refusal is told
    pub why : Why answer at

  -- an entry more, whose wakeups have returned
  enters : (made : Entry) (old new : Writer) → Enters call.key made old.seat new.seat
      → seat_of made ≡ number → Was old.process new.process
      → Wakes (HasReturnedIn new.process.trace) call.row made → Woken old → Woken new
  enters made old new entered by_it was wakes woken =
      of_mine_more call.key made number old.seat new.seat
      (HaveWoken old.process.trace call.row) (HaveWoken new.process.trace call.row) entered by_it
      (λ mine all. (wakes, woken_still old.process.trace new.process.trace call.row was mine all))
      woken

  -- an entry more, which is no hangup
  enters_quiet : (made : Entry) (old new : Writer) → Enters call.key made old.seat new.seat
      → seat_of made ≡ number → ((mine : List Entry) → ¬ HasHang mine → ¬ HasHang (made ∷ mine))
      → Quiet old → Quiet new
  enters_quiet made old new entered by_it still quiet =
      of_mine_more call.key made number old.seat new.seat (λ mine. ¬ HasHang mine)
      (λ mine. ¬ HasHang mine) entered by_it still quiet

  -- steps more
  steps : (seat : Account Entry) (old new : Process) → Was old new
      → Woken (record { seat = seat; process = old })
      → Woken (record { seat = seat; process = new })
  steps seat old new was woken =
      of_mine_weaker number seat (HaveWoken old.trace call.row) (HaveWoken new.trace call.row)
      (woken_still old.trace new.trace call.row was) woken

  same_process : (old new : Process) → new ≡ old → Was old new
  same_process old new same = subst (λ (p : Process). Was old p) (sym same) (past_refl old.trace)

  -- a request that is answered
  answered : (old new : Writer) (told : Result ℕ Fault) → (Woken start → Woken old)
      → (Quiet start → Quiet old) → AsksForRoom call old (reply_of told) new → IsAnswered told new
  answered old new (Ok its) woken quiet accepts =
      let between : Writer = record { seat = accepts.stands.between; process = new.process } in
      let taken : Quiet start → Quiet between
      = λ had. enters_quiet (entry.Taken call.writer call.bytes its) old between
      accepts.stands.taken refl (λ mine none. none) (quiet had) in
      record {
        quiet = λ had. enters_quiet (entry.Stood call.writer its) between new accepts.stands.stood
            refl (λ mine none. none) (taken had);
        went = λ had.
            of_mine_more call.key (entry.Stood call.writer its) number between.seat new.seat
            (λ mine. ¬ HasHang mine) IsClear accepts.stands.stood refl
            (λ mine none. record { given = tt; quiet = none }) (taken had);
        woken = λ had.
            enters (entry.Stood call.writer its) between new accepts.stands.stood refl
            (past_refl new.process.trace) tt
            (enters (entry.Taken call.writer call.bytes its) old between accepts.stands.taken refl
            (wake_more old.process (reader_rendez call.row) its new.process accepts.woken)
            (wake_returned old.process (reader_rendez call.row) its new.process accepts.woken)
            (woken had));
        why = tt;
      }
  answered old new (Err fault.Hungup) woken quiet late =
      record {
        quiet = λ had. enters_quiet (entry.Hungup call.writer call.bytes) old new late.entered refl
            (λ mine none. none) (quiet had);
        went = λ had. tt;
        woken = λ had.
            enters (entry.Hungup call.writer call.bytes) old new late.entered refl
            (subst (λ (p : Process). Was old.process p) (sym late.noted)
            (step_more old.process old.process (Note (pid_in old.process) (only ClosedPipe))
            answer.Noted (past_refl old.process.trace))) tt (woken had);
        why = of_mine_new call.key (entry.Hungup call.writer call.bytes) number old.seat new.seat
            (λ mine. last_told mine ≡ Some (entry.Hungup call.writer call.bytes)) late.entered refl
            (λ mine. refl);
      }
  answered old new (Err fault.Worn) woken quiet worn =
      record {
        quiet = λ had. enters_quiet (entry.Worn call.writer call.bytes) old new worn.entered refl
            (λ mine none. none) (quiet had);
        went = λ had. tt;
        woken = λ had.
            enters (entry.Worn call.writer call.bytes) old new worn.entered refl
            (same_process old.process new.process worn.process) tt (woken had);
        why = of_mine_new call.key (entry.Worn call.writer call.bytes) number old.seat new.seat
            (λ mine. last_told mine ≡ Some (entry.Worn call.writer call.bytes)) worn.entered refl
            (λ mine. refl);
      }
  answered old new (Err why) woken quiet asks = absurd asks

  -- a request that is told to wait
  waits : (old new : Writer) (told : ℕ) → (Woken start → Woken old) → (Quiet start → Quiet old)
      → FindsFull call told old new → IsWaiting (record { at = new; number = told })
  waits old new told woken quiet full =
      record {
        quiet = λ had. enters_quiet (entry.Full call.writer call.bytes told) old new full.entered
            refl (λ mine none. none) (quiet had);
        woken = λ had.
            enters (entry.Full call.writer call.bytes told) old new full.entered refl
            (same_process old.process new.process full.process) tt (woken had);
        told = of_mine_new call.key (entry.Full call.writer call.bytes told) number old.seat
            new.seat (λ mine. last_told mine ≡ Some (entry.Full call.writer call.bytes told))
            full.entered refl (λ mine. refl);
      }

  -- a sleep that failed
  fails : (old : WaitPoint (Account Entry)) (why : Fault) (new : Process) → IsWaiting old
      → FailsAsleep old.at.process (writer_rendez call.row call.writer) old.number new why
      → IsAnswered (Err why) (record { seat = old.at.seat; process = new })
  fails old (fault.Interrupted notes) new on failed =
      let told : WasAnswered (ending_of notes) new.trace
      = subst (λ (p : Process). WasAnswered (ending_of notes) p.trace)
      (sym failed.0.leaves.cleared) (inl refl) in
      record {
        woken = λ had.
            steps old.at.seat old.at.process new
            (sleep_more old.at.process (writer_rendez call.row call.writer) old.number notes new
            failed.0) (on.woken had);
        quiet = on.quiet;
        went = λ had. tt;
        why = of_mine_weaker number old.at.seat
            (λ mine. last_told mine ≡ Some (entry.Full call.writer call.bytes old.number))
            (λ mine. TellsWhyRefused (fault.Interrupted notes) call.writer call.bytes mine
            new.trace)
            (λ mine full. ((old.number, full), (failed.1, told))) on.told;
      }
  fails old fault.DoubleSleep new on failed =
      let told : WasAnswered answer.DoubleSleep new.trace
      = subst (λ (p : Process). WasAnswered answer.DoubleSleep p.trace) (sym failed) (inl refl) in
      record {
        woken = λ had.
            steps old.at.seat old.at.process new
            (subst (λ (p : Process). Was old.at.process p) (sym failed)
            (step_more old.at.process old.at.process
            (Post (pid_in old.at.process) (writer_rendez call.row call.writer) old.number)
            answer.DoubleSleep (past_refl old.at.process.trace))) (on.woken had);
        quiet = on.quiet;
        went = λ had. tt;
        why = of_mine_weaker number old.at.seat
            (λ mine. last_told mine ≡ Some (entry.Full call.writer call.bytes old.number))
            (λ mine. TellsWhyRefused fault.DoubleSleep call.writer call.bytes mine new.trace)
            (λ mine full. ((old.number, full), told)) on.told;
      }
  fails old other new on failed = absurd failed

  -- where it stands after a sleep that ended well
  slept : (old : WaitPoint (Account Entry)) (woken : Process) → IsWaiting old
      → SleepsWell old.at.process (writer_rendez call.row call.writer) old.number woken
      → Woken start → Woken (record { seat = old.at.seat; process = woken })
  slept old woken on well had =
      steps old.at.seat old.at.process woken
      (sleep_more old.at.process (writer_rendez call.row call.writer) old.number no_notes woken
      well) (on.woken had)

  waited : (answer : Result ℕ Fault) (new : Writer)
      → Waited (writing call) (writer_rendez call.row call.writer) start answer new
      → IsAnswered answer new
  waited told new (inl begun) = answered start new told (λ had. had) (λ had. had) begun
  waited told new (inr begins) =
      wait_over (writing call) (writer_rendez call.row call.writer) IsWaiting IsAnswered
      (λ old its new on asks.
      waits (record { seat = old.at.seat; process = asks.woken }) new its
      (slept old asks.woken on asks.slept) on.quiet asks.asked)
      (λ old its new on asks.
      answered (record { seat = old.at.seat; process = asks.woken }) new its
      (slept old asks.woken on asks.slept) on.quiet asks.asked)
      (λ old why new on leaves.
      subst (λ (seat : Account Entry).
      IsAnswered (Err why) (record { seat = seat; process = new.process })) (sym leaves.left)
      (fails old why new.process on leaves.failed))
      (λ old new out late. late) begins.first told new
      (waits start begins.first.at begins.first.number (λ had. had) (λ had. had) begins.begun)
      begins.waited

  -- the wakeups that a write owes have returned
  pub writes_wake : (told : Result ℕ Fault) (new : Writer) → Writes call start told new
      → Woken start → Woken new
  writes_wake (Ok its) new writes = (waited (Ok its) new writes).woken
  writes_wake (Err fault.TooBig) new same = subst (λ (w : Writer). Woken start → Woken w) (sym same)
      (λ had. had)
  writes_wake (Err fault.NoRendez) new same =
      subst (λ (w : Writer). Woken start → Woken w) (sym same) (λ had. had)
  writes_wake (Err fault.Memory) new same =
      subst (λ (w : Writer). Woken start → Woken w) (sym same) (λ had. had)
  writes_wake (Err why) new writes = (waited (Err why) new writes).woken

  -- a write is no hangup
  pub writes_quiet : (told : Result ℕ Fault) (new : Writer) → Writes call start told new
      → Quiet start → Quiet new
  writes_quiet (Ok its) new writes = (waited (Ok its) new writes).quiet
  writes_quiet (Err fault.TooBig) new same =
      subst (λ (w : Writer). Quiet start → Quiet w) (sym same) (λ had. had)
  writes_quiet (Err fault.NoRendez) new same =
      subst (λ (w : Writer). Quiet start → Quiet w) (sym same) (λ had. had)
  writes_quiet (Err fault.Memory) new same =
      subst (λ (w : Writer). Quiet start → Quiet w) (sym same) (λ had. had)
  writes_quiet (Err why) new writes = (waited (Err why) new writes).quiet

  -- and one that was accepted is no refusal
  pub accepts_clear : (its : ℕ) (new : Writer) → Writes call start (Ok its) new → Clear start
      → Clear new
  accepts_clear its new writes clear =
      (waited (Ok its) new writes).went
      (of_mine_weaker number start.seat IsClear (λ mine. ¬ HasHang mine)
      (λ mine clear. clear.quiet) clear)

  -- and a refusal is told as it was
  pub writes_tell_why : (told : Result ℕ Fault) (new : Writer) → Writes call start told new
      → (IsErrOf told fault.TooBig → ATOMIC_SIZE < length call.bytes)
      → ¬ IsErrOf told fault.NoRendez → Clear start → Why told new
  writes_tell_why (Ok its) new writes big known clear = tt
  writes_tell_why (Err fault.TooBig) new same big known clear =
      of_mine_weaker number new.seat (λ mine. ⊤) (λ mine. ATOMIC_SIZE < length call.bytes)
      (λ mine none. big refl) (of_mine_any number new.seat)
  writes_tell_why (Err fault.NoRendez) new same big known clear = absurd (known refl)
  writes_tell_why (Err fault.Memory) new same big known clear =
      of_mine_weaker number new.seat IsClear (λ mine. WasGiven (last_told mine))
      (λ mine clear. clear.given) (subst Clear (sym same) clear)
  writes_tell_why (Err why) new writes big known clear = (waited (Err why) new writes).why
