-- What a call with a deadline does after its sleeps are steps more of the same process.
use Rattle.std.proofs.Common.{inl, inr, ℕ, zero, suc, Bool, ◌++◌, Some, None}
use Rattle.std.proofs.Common.{Result}
use Rattle.histories.specs.History.{IsPast}
use Rattle.histories.proofs.ListLemmas.{past_refl, past_cons, past_append, past_trans}
use Rattle.rendez_words.specs.Process.{Process, made, pid_in}
use Rattle.rendez_words.specs.Steps.{posts, tests}
use Rattle.sleep_core.specs.declared.answer.Answer.{Answer}
use Rattle.sleep_core.specs.declared.answer.Answer.TheVariants as answer
use Rattle.sleep_core.specs.declared.event.Event.{Event}
use Rattle.sleep_core.specs.declared.event.Event.TheVariants.{Post, Test, Clear, Note, Drain}
use Rattle.sleep_core.specs.Table.{ending_of}
use Rattle.sleep_wakeup.specs.Calls.{Sleeps}
use Rattle.sync_base.specs.declared.fault.Fault.{Fault}
use Rattle.sync_base.specs.declared.fault.Fault.TheVariants as fault
use Rattle.sync_base.specs.declared.ids.RendezId.{RendezId}
use Rattle.sync_base.specs.declared.note.NoteSet.{NoteSet}
use Rattle.timer_list.specs.declared.limits.TheConstants.{LAST_THRESHOLD}
use Rattle.timer_list.specs.declared.timers.Timers.{Timers}
use Rattle.timer_list.specs.declared.timers.TimerSeat.{TimerSeat}
use Rattle.timer_list.specs.Timing.{Awaiting, TimedEnd, Keeps, Looks, LooksForTick, PutsBackAny}
use Rattle.waiting.specs.declared.wait.WaitEnd.{WaitEnd}
use Rattle.waiting.specs.declared.wait.WaitEnd.TheVariants.{Answered, Stopped}

-- the one process is the other at an earlier time
abbrev Was : Process → Process → Type 0
Was before after = IsPast before.trace after.trace

-- a step more
step_more : (before between : Process) (event : Event) (told : Answer) → Was before between
    → Was before (made between event told)
step_more before between event told was =
    past_cons before.trace between.trace
    (record { maker = between.pid; event = event; answer = told }) was

sleep_more : (before : Process) (rendez : RendezId) (threshold : ℕ) (set : NoteSet)
    (after : Process) → Sleeps before rendez threshold set after → Was before after
sleep_more before rendez threshold set after sleeps =
    let posted = posts before rendez threshold answer.Posted in
    let tested = tests posted sleeps.tested in
    let was = step_more before posted (Test (pid_in posted)) sleeps.tested
    (step_more before before (Post (pid_in before) rendez threshold) answer.Posted
    (past_refl before.trace)) in
    rw sleeps.leaves.cleared
    (past_cons before.trace (sleeps.leaves.waiting ++ tested.trace)
    (record { maker = tested.pid; event = Clear (pid_in tested); answer = ending_of set })
    (past_append before.trace tested.trace sleeps.leaves.waiting was))

look_more : (rendez : RendezId) (before : Process) (set : NoteSet) (after : Process)
    → LooksForTick rendez before set after → Was before after
look_more rendez before set after (inl sleeps) =
    sleep_more before rendez LAST_THRESHOLD set after sleeps
look_more rendez before set after (inr drained) =
    let posted = posts before rendez LAST_THRESHOLD answer.DoubleSleep in
    rw drained
    (step_more before posted (Drain (pid_in posted)) (answer.Notes set)
    (step_more before before (Post (pid_in before) rendez LAST_THRESHOLD) answer.DoubleSleep
    (past_refl before.trace)))

looks_more : (rendez : RendezId) (expired : Bool) (times : ℕ) (first now : Awaiting)
    → Looks rendez expired times first now → Was first.process now.process
looks_more rendez expired zero first now same = rw same (past_refl first.process.trace)
looks_more rendez expired (suc times) first now more =
    past_trans first.process.trace more.between.process.trace now.process.trace
    (looks_more rendez expired times first more.between more.looks)
    (look_more rendez more.between.process more.set now.process more.looked)

puts_back_more : (set : NoteSet) (before after : Process) → PutsBackAny set before after
    → Was before after
puts_back_more set before after (inl none) = rw none.1 (past_refl before.trace)
puts_back_more set before after (inr back) =
    rw back.1
    (step_more before before (Note (pid_in before) set) answer.Noted (past_refl before.trace))

keeps_more : {Out : Type 0} (expired : Bool) (others : NoteSet) (ending : WaitEnd Out)
    (told : Result Out Fault) (before after : Process)
    → Keeps expired others ending told before after → Was before after
keeps_more expired others (Answered its) told before after kept =
    puts_back_more others before after kept.1
keeps_more expired others (Stopped why (Some out)) told before after kept =
    puts_back_more others before after kept.1
keeps_more expired others (Stopped (fault.Interrupted set) None) told before after kept =
    rw kept.1 (past_refl before.trace)
keeps_more expired others (Stopped why None) told before after kept =
    puts_back_more others before after kept.1

-- where its sleeps ended it was before it returned
pub ended_own : {Out : Type 0} (rendez : RendezId) (timers : Timers) (set : TimerSeat)
    (ending : WaitEnd Out) (slept : Process) (told : Result Out Fault) (timer : TimerSeat)
    (after : Process) → TimedEnd rendez timers set ending slept told timer after
    → IsPast slept.trace after.trace
ended_own rendez timers set ending slept told timer after ended =
    past_trans slept.trace ended.awaited.process.trace after.trace
    (looks_more rendez ended.expired ended.awaits.times _ ended.awaited ended.awaits.looks)
    (keeps_more ended.expired _ ending told ended.awaited.process after ended.kept)
