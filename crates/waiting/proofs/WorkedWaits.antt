-- Calls at small devices that count the requests: what a wait does, and what it may not do, each
-- against one row.
use Rattle.std.proofs.Common.{◌≡◌, ◌⊎◌, ◌≤◌, ◌+◌, ◌*◌, ℕ, zero, suc, List, [], ◌∷◌, ◌++◌, length}
use Rattle.std.proofs.Common.{⊎_elim, Option, Some, None, Result, Ok, Err, inl, inr, refl, sym, ap}
use Rattle.std.proofs.Common.{◌∙◌, subst, arith}
use Rattle.std.proofs.lemmas.List.{length-append}
use Rattle.rendez_words.specs.Process.{Process, TableId}
use Rattle.rendez_words.specs.Steps.{posts, tests}
use Rattle.sleep_core.specs.declared.answer.Answer.TheVariants as answer
use Rattle.sleep_core.specs.declared.event.Event.{Event}
use Rattle.sleep_core.specs.declared.event.Event.TheVariants.{Post}
use Rattle.sleep_core.specs.Runs.{Entry}
use Rattle.sleep_wakeup.specs.Broken.{after, rendez, posted_in, passed, cleared, noted, saw_notes}
use Rattle.sleep_wakeup.specs.Broken.{went_out}
use Rattle.sleep_wakeup.specs.Broken.{answers_at_once, posts_elsewhere, leaves_with_an_alarm}
use Rattle.sleep_wakeup.specs.Calls.{Sleeps}
use Rattle.sleep_wakeup.specs.Actions.{SleepsWell, FailsAsleep}
use Rattle.sleep_wakeup.proofs.BrokenLemmas.{of_sleep, rendez_of}
use Rattle.sync_base.specs.declared.fault.Fault.{Fault}
use Rattle.sync_base.specs.declared.fault.Fault.TheVariants as fault
use Rattle.sync_base.specs.declared.ids.RendezId.{RendezId}
use Rattle.sync_base.specs.declared.limits.TheConstants.{TOP_LEVEL}
use Rattle.sync_base.specs.declared.note.Note.TheVariants.{Alarm}
use Rattle.sync_base.specs.declared.note.NoteSet.{NoteSet}
use Rattle.sync_base.specs.NoteSet.{no_notes, only}
use Rattle.waiting.specs.declared.call.Reply.{Reply}
use Rattle.waiting.specs.declared.call.Reply.TheVariants.{Done, Wait, Refused}
use Rattle.waiting.specs.declared.wait.WaitEnd.{WaitEnd}
use Rattle.waiting.specs.declared.wait.WaitEnd.TheVariants.{Answered, Stopped}
use Rattle.waiting.specs.Waiting.{Point, Promise, WaitPoint, StandsSo, IsLow, Rounds, Ends, Returns}
use Rattle.waiting.specs.Waiting.{answer_of, reply_of, Waited}

-- ---- what an answer leaves

-- a seat that rests is 0, and one that waits is 1
abbrev Stands : Reply ℕ → ℕ → Type 0
Stands reply seat = StandsSo (λ seat. seat ≡ 0) (λ seat. seat ≡ 1) reply seat

who_is_done_waits_no_more : ¬ Stands (Done 7) 1
who_is_done_waits_no_more stands = cc

who_is_told_to_wait_waits : ¬ Stands (Wait 4) 0
who_is_told_to_wait_waits stands = cc

who_is_refused_waits_no_more : ¬ Stands (Refused fault.Worn) 1
who_is_refused_waits_no_more stands = cc

no_level_is_above_the_top : ¬ IsLow {Out = ℕ} (Wait TOP_LEVEL)
no_level_is_above_the_top low = omega (arith, low)

-- ---- a device that answers the second request

-- one request more, at which the process did nothing
record Counts (old new : Point ℕ) : Type 0 where
  seat_is : new.seat ≡ suc old.seat
  idle : new.process ≡ old.process

-- the first request is told to wait with this number, the next one is answered 7, and who leaves
-- is told this
abbrev device : ℕ → Option ℕ → Promise ℕ ℕ
device number late =
    record {
      begun = λ old reply new. (reply ≡ Wait number) × Counts old new;
      asked = λ old reply new. (reply ≡ Done 7) × Counts old new;
      left = λ old reply new. (reply ≡ late) × (new ≡ suc old);
    }

abbrev number_in : Reply ℕ → ℕ
number_in (Wait number) = number
number_in reply = 0

-- an answer is no wait
no_answer_waits : (answer : Result ℕ Fault) (number : ℕ) → ¬ (reply_of answer ≡ Wait number)
no_answer_waits (Ok out) number is = cc
no_answer_waits (Err why) number is = cc

-- the shortest sleep of Rendez 0 with this number
abbrev short : ℕ → List Entry
short number = cleared ∷ passed ∷ posted_in 0 number ∷ []

module _ (table : TableId) where
  -- after so many requests and these steps
  abbrev at : ℕ → List Entry → Point ℕ
  at requests steps = record { seat = requests; process = after table steps }

  abbrev told : ℕ → WaitPoint ℕ
  told number = record { at = at 1 []; number = number }

  slept_short : SleepsWell (after table []) (rendez 0) 4 (after table (short 4))
  slept_short =
      record {
        tested = answer.Leaving;
        leaves = record { waiting = []; of_wait = tt; cleared = refl };
        cause = λ none. inl refl;
      }

  alarmed : FailsAsleep (after table []) (rendez 0) 0 (after table leaves_with_an_alarm)
      (fault.Interrupted (only Alarm))
  alarmed = (
    record {
      tested = answer.Asleep;
      leaves = record {
        waiting = went_out ∷ saw_notes ∷ [];
        of_wait = (tt, (tt, tt));
        cleared = refl;
      };
      cause = λ none. let bad = ap (λ (set : NoteSet). set.alarm) none in absurd (cc);
    },
    λ none. let bad = ap (λ (set : NoteSet). set.alarm) none in cc,
  )

  -- ---- as it should be

  -- a call that is told to wait once, and whose only sleep ends so
  waits_once : (number : ℕ) (late : Option ℕ) (ending : WaitEnd ℕ) (process : Process)
      (steps : List Entry)
      → Ends (device number late) (rendez 0) (told number) ending
      (record { seat = 2; process = process }) → Returns ending process (after table steps)
      → Waited (device number late) (rendez 0) (at 0 []) (answer_of ending) (at 2 steps)
  waits_once number late ending process steps ends returned =
      inr (record {
        first = told number;
        begun = (refl, record { seat_is = refl; idle = refl });
        waited = record {
          ending = ending;
          process = process;
          slept = record { times = 0; last = told number; rounds = refl; ends = ends };
          returned = returned;
          answer_is = refl;
        };
      })

  it_sleeps_and_is_answered : Waited (device 4 None) (rendez 0) (at 0 []) (Ok 7) (at 2 (short 4))
  it_sleeps_and_is_answered =
      waits_once 4 None (Answered (Ok 7)) (after table (short 4)) (short 4)
      (record {
        woken = after table (short 4);
        slept = slept_short;
        asked = (refl, record { seat_is = refl; idle = refl });
      }) refl

  it_is_alarmed_and_leaves : Waited (device 0 None) (rendez 0) (at 0 [])
      (Err (fault.Interrupted (only Alarm))) (at 2 leaves_with_an_alarm)
  it_is_alarmed_and_leaves =
      waits_once 0 None (Stopped (fault.Interrupted (only Alarm)) None)
      (after table leaves_with_an_alarm) leaves_with_an_alarm
      (record { failed = alarmed; left = (refl, refl) }) refl

  -- what it came to is answered, and the alarm is pending again
  it_leaves_late : Waited (device 0 (Some 9)) (rendez 0) (at 0 []) (Ok 9)
      (at 2 (noted 0 ∷ leaves_with_an_alarm))
  it_leaves_late =
      waits_once 0 (Some 9) (Stopped (fault.Interrupted (only Alarm)) (Some 9))
      (after table leaves_with_an_alarm) (noted 0 ∷ leaves_with_an_alarm)
      (record { failed = alarmed; left = (refl, refl) }) refl

  -- ---- what such a call can have done

  module _ (number : ℕ) (late : Option ℕ) (reply : Result ℕ Fault) (now : Point ℕ) where
    -- it slept, asked, and was answered
    record IsAnswered : Type 0 where
      slept : SleepsWell (after table []) (rendez 0) number now.process
      seat_is : now.seat ≡ 2
      answer_is : reply ≡ Ok 7

    -- its sleep failed, and it left
    record HasLeft : Type 0 where
      why : Fault
      process : Process
      failed : FailsAsleep (after table []) (rendez 0) number process why
      seat_is : now.seat ≡ 2
      returned : Returns (Stopped why late) process now.process
      answer_is : reply ≡ answer_of (Stopped why late)

    module _ (first last : WaitPoint ℕ) (same : last ≡ first) (told_is : first.number ≡ number)
        (seat_is : first.at.seat ≡ 1) (idle : first.at.process ≡ after table [])
        (process : Process) where
      ends : (end : WaitEnd ℕ)
          → Ends (device number late) (rendez 0) last end
          (record { seat = now.seat; process = process })
          → Returns end process now.process → reply ≡ answer_of end → IsAnswered ⊎ HasLeft
      ends (Answered answer) asked returned answer_is =
          inl (record {
            slept = rw (returned, asked.asked.1.idle)
                (rw (same, idle, told_is) at asked.slept);
            seat_is = rw (same, seat_is) at asked.asked.1.seat_is;
            answer_is = answer_is ∙ done answer asked.asked.0;
          })
        where
          done : (answer : Result ℕ Fault) → reply_of answer ≡ Done 7 → answer ≡ Ok 7
          done (Ok out) is = ap (λ n. Ok n) (ap out_of is)
            where
              out_of : Reply ℕ → ℕ
              out_of (Done out) = out
              out_of other = 0
          done (Err why) is = absurd (cc)
      ends (Stopped why out) left returned answer_is =
          inr (record {
            why = why;
            process = process;
            failed = rw (same, idle, told_is) at left.failed;
            seat_is = rw (same, seat_is) at left.left.1;
            returned = rw left.left.0 at returned;
            answer_is = rw left.left.0 at answer_is;
          })

    came_to : Waited (device number late) (rendez 0) (at 0 []) reply now → IsAnswered ⊎ HasLeft
    came_to (inl at_once) = absurd (no_answer_waits reply number at_once.0)
    came_to (inr waits) =
        let slept = waits.waited.slept in
        by slept.times slept.last slept.rounds slept.ends
      where
        by : (times : ℕ) (last : WaitPoint ℕ)
            → Rounds (device number late) (rendez 0) times waits.first last
            → Ends (device number late) (rendez 0) last waits.waited.ending
            (record { seat = now.seat; process = waits.waited.process })
            → IsAnswered ⊎ HasLeft
        by zero last same is =
            ends waits.first last same (ap number_in waits.begun.0) waits.begun.1.seat_is
            waits.begun.1.idle waits.waited.process waits.waited.ending is waits.waited.returned
            waits.waited.answer_is
        by (suc times) last more is = let bad = more.last.asked.0 in absurd (cc)

  -- ---- as it should not be

  asks_again_without_a_sleep : ¬ Waited (device 0 None) (rendez 0) (at 0 []) (Ok 7)
      (at 2 answers_at_once)
  asks_again_without_a_sleep waited =
      ⊎_elim
      (λ is. let bad = ap (λ (e : Entry). e.event)
      (of_sleep table no_notes answers_at_once is.slept).last in cc)
      (λ left. let bad = left.answer_is in cc) (came_to _ _ _ _ waited)

  -- the number of its shortest sleep
  slept_with : (number posted : ℕ)
      → SleepsWell (after table []) (rendez 0) number (after table (short posted))
      → number ≡ posted
  slept_with number posted slept =
      by slept.leaves.waiting (ap (λ (p : Process). p.trace) slept.leaves.cleared)
    where
      threshold_of : Event → ℕ
      threshold_of (Post pid at threshold) = threshold
      threshold_of event = 0

      first_of : List Entry → ℕ
      first_of (clear ∷ test ∷ post ∷ []) = threshold_of post.event
      first_of steps = 0

      by : (waiting : List Entry)
          → short posted ≡ cleared ∷ (waiting
          ++ (tests (posts (after table []) (rendez 0) number answer.Posted) slept.tested).trace)
          → number ≡ posted
      by [] is = sym (ap first_of is)
      by (step ∷ waiting) is =
          let longer = ap (λ (steps : List Entry). length steps) is in
          let more = length-append waiting
          (tests (posts (after table []) (rendez 0) number answer.Posted) slept.tested).trace in
          absurd (omega (arith, longer, more))

  another_number : (number posted : ℕ)
      → Waited (device number None) (rendez 0) (at 0 []) (Ok 7) (at 2 (short posted))
      → number ≡ posted
  another_number number posted waited =
      ⊎_elim (λ is. slept_with number posted is.slept)
      (λ left. let bad = left.answer_is in absurd (cc)) (came_to _ _ _ _ waited)

  sleeps_with_a_lower_number : ¬ Waited (device 4 None) (rendez 0) (at 0 []) (Ok 7)
      (at 2 (short 3))
  sleeps_with_a_lower_number waited = let bad = another_number 4 3 waited in cc

  sleeps_with_a_higher_number : ¬ Waited (device 4 None) (rendez 0) (at 0 []) (Ok 7)
      (at 2 (short 5))
  sleeps_with_a_higher_number waited = let bad = another_number 4 5 waited in cc

  sleeps_on_another_rendez : ¬ Waited (device 0 None) (rendez 0) (at 0 []) (Ok 7)
      (at 2 posts_elsewhere)
  sleeps_on_another_rendez waited =
      ⊎_elim
      (λ is. let bad = ap (λ (e : Entry). rendez_of e.event)
      (of_sleep table no_notes posts_elsewhere is.slept).first in cc)
      (λ left. let bad = left.answer_is in cc) (came_to _ _ _ _ waited)

  never_leaves : ¬ Waited (device 0 None) (rendez 0) (at 0 [])
      (Err (fault.Interrupted (only Alarm))) (at 1 leaves_with_an_alarm)
  never_leaves waited =
      ⊎_elim (λ is. let bad = is.seat_is in cc) (λ left. let bad = left.seat_is in cc)
      (came_to _ _ _ _ waited)

  -- a sleep that another process kept out is one step
  not_kept_out : (steps : List Entry) (process : Process)
      → FailsAsleep (after table []) (rendez 0) 0 process fault.DoubleSleep
      → after table steps ≡ process → length steps ≡ 1
  not_kept_out steps process failed same =
      ap (λ (p : Process). length p.trace) (same ∙ failed)

  drops_the_notes : ¬ Waited (device 0 (Some 9)) (rendez 0) (at 0 []) (Ok 9)
      (at 2 leaves_with_an_alarm)
  drops_the_notes waited =
      ⊎_elim (λ is. let bad = is.answer_is in cc)
      (λ left. back left.why left.process left.failed left.returned) (came_to _ _ _ _ waited)
    where
      back : (why : Fault) (process : Process)
          → FailsAsleep (after table []) (rendez 0) 0 process why
          → ¬ Returns {Out = ℕ} (Stopped why (Some 9)) process (after table leaves_with_an_alarm)
      back (fault.Interrupted set) process failed returned =
          let bad = ap (λ (p : Process). last_event p.trace) returned in cc
        where
          last_event : List Entry → Option Event
          last_event [] = None
          last_event (entry ∷ past) = Some entry.event
      back fault.DoubleSleep process failed returned =
          let bad = not_kept_out leaves_with_an_alarm process failed returned in cc
      back other process failed returned = failed

  answers_the_notes_and_puts_them_back : ¬ Waited (device 0 None) (rendez 0) (at 0 [])
      (Err (fault.Interrupted (only Alarm))) (at 2 (noted 0 ∷ leaves_with_an_alarm))
  answers_the_notes_and_puts_them_back waited =
      ⊎_elim (λ is. let bad = is.answer_is in cc)
      (λ left. kept left.why left.process left.failed left.returned) (came_to _ _ _ _ waited)
    where
      kept : (why : Fault) (process : Process)
          → FailsAsleep (after table []) (rendez 0) 0 process why
          → ¬ (after table (noted 0 ∷ leaves_with_an_alarm) ≡ process)
      kept (fault.Interrupted set) process failed same =
          let slept = subst (λ p. Sleeps (after table []) (rendez 0) 0 set p) (sym same) failed.0 in
          let bad = ap (λ (e : Entry). e.event)
          (of_sleep table set (noted 0 ∷ leaves_with_an_alarm) slept).last in
          cc
      kept fault.DoubleSleep process failed same =
          let bad = not_kept_out (noted 0 ∷ leaves_with_an_alarm) process failed same in cc
      kept other process failed same = failed

  answers_another_fault : ¬ Waited (device 0 None) (rendez 0) (at 0 []) (Err fault.Worn)
      (at 2 leaves_with_an_alarm)
  answers_another_fault waited =
      ⊎_elim (λ is. let bad = is.answer_is in cc)
      (λ left. subst (FailsAsleep (after table []) (rendez 0) 0 left.process)
      (sym (ap fault_in left.answer_is)) left.failed)
      (came_to _ _ _ _ waited)
    where
      fault_in : Result ℕ Fault → Fault
      fault_in (Ok out) = fault.Worn
      fault_in (Err why) = why

-- ---- a device that may tell each request to wait

abbrev counting : Promise ℕ ℕ
counting =
    record {
      begun = λ old reply new. Counts old new;
      asked = λ old reply new. Counts old new;
      left = λ old reply new. new ≡ suc old;
    }

-- how many steps the process has made
abbrev steps_of : Process → ℕ
steps_of process = length process.trace

-- a sleep that ended well is three steps or more, and one that failed is one or more
slept_long : (before : Process) (at : RendezId) (number : ℕ) (set : NoteSet) (after : Process)
    → Sleeps before at number set after → steps_of before + 3 ≤ steps_of after
slept_long before at number set after slept =
    let tested = tests (posts before at number answer.Posted) slept.tested in
    let steps = ap (λ (p : Process). steps_of p) slept.leaves.cleared in
    let waited = length-append slept.leaves.waiting tested.trace in
    omega (arith, steps, waited)

failed_long : (before : Process) (at : RendezId) (number : ℕ) (after : Process) (why : Fault)
    → FailsAsleep before at number after why → steps_of before + 1 ≤ steps_of after
failed_long before at number after (fault.Interrupted set) failed =
    let slept = slept_long before at number set after failed.0 in omega (arith, slept)
failed_long before at number after fault.DoubleSleep failed =
    let steps = ap (λ (p : Process). steps_of p) failed in omega (arith, steps)
failed_long before at number after other failed = absurd failed

module _ (rendez : RendezId) where
  -- between any two requests stands a sleep
  rounds_are_long : (times : ℕ) (first now : WaitPoint ℕ) → Rounds counting rendez times first now
      → (now.at.seat ≡ first.at.seat + times)
      × (steps_of first.at.process + times * 3 ≤ steps_of now.at.process)
  rounds_are_long zero first now same =
      let seats = ap (λ (t : WaitPoint ℕ). t.at.seat) same in
      let steps = ap (λ (t : WaitPoint ℕ). steps_of t.at.process) same in
      (omega (arith, seats), omega (arith, steps))
  rounds_are_long (suc times) first now more =
      let (seats, steps) = rounds_are_long times first more.between more.rounds in
      let slept = slept_long more.between.at.process rendez more.between.number no_notes
      more.last.woken more.last.slept in
      let idle = ap (λ (p : Process). steps_of p) more.last.asked.idle in
      let one = more.last.asked.seat_is in
      (omega (arith, seats, one), omega (arith, steps, slept, idle))

  ends_are_long : (last : WaitPoint ℕ) (end : WaitEnd ℕ) (after : Point ℕ)
      → Ends counting rendez last end after
      → (after.seat ≡ suc last.at.seat)
      × (steps_of last.at.process + 1 ≤ steps_of after.process)
  ends_are_long last (Answered answer) after asked =
      let slept = slept_long last.at.process rendez last.number no_notes asked.woken asked.slept in
      let idle = ap (λ (p : Process). steps_of p) asked.asked.idle in
      (asked.asked.seat_is, omega (arith, slept, idle))
  ends_are_long last (Stopped why out) after left =
      (left.left, failed_long last.at.process rendez last.number after.process why left.failed)

  returns_are_long : (end : WaitEnd ℕ) (before after : Process) → Returns end before after
      → steps_of before ≤ steps_of after
  returns_are_long (Answered answer) before after same =
      let steps = ap (λ (p : Process). steps_of p) same in omega (arith, steps)
  returns_are_long (Stopped (fault.Interrupted set) (Some out)) before after back =
      let steps = ap (λ (p : Process). steps_of p) back in omega (arith, steps)
  returns_are_long (Stopped why (Some out)) before after back =
      let steps = ap (λ (p : Process). steps_of p) back in omega (arith, steps)
  returns_are_long (Stopped why None) before after same =
      let steps = ap (λ (p : Process). steps_of p) same in omega (arith, steps)

  -- three requests with one sleep between them
  asks_twice_after_a_sleep : (table : TableId) (answer : Result ℕ Fault)
      → ¬ Waited counting rendez (at table 0 []) answer (at table 3 (short 0))
  asks_twice_after_a_sleep table answer (inl at_once) = let bad = at_once.seat_is in cc
  asks_twice_after_a_sleep table answer (inr waits) =
      let slept = waits.waited.slept in
      let (seats, steps) = rounds_are_long slept.times waits.first slept.last slept.rounds in
      let (seat, step) = ends_are_long slept.last waits.waited.ending _ slept.ends in
      let back = returns_are_long waits.waited.ending waits.waited.process (after table (short 0))
      waits.waited.returned in
      let first = waits.begun.seat_is in
      omega (arith, seats, steps, seat, step, back, first)
