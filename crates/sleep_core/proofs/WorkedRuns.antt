-- Runs that are worked out by hand: what each event of a list is answered, which history it shows
-- and which world it leaves. Each line follows by computing, so that no row of the table, of a step
-- or of the history can be dropped or changed unseen. The numbers of a run differ, so that no
-- number
-- passes for another: process 1 sleeps in Rendez 1 with threshold 4, process 2 wakes it.
use Rattle.std.proofs.Common.{◌≡◌, ℕ, true, Some, None, List, [], ◌∷◌, refl, arith}
use Rattle.sync_base.specs.declared.ids.Pid.{Pid}
use Rattle.sync_base.specs.declared.ids.RendezId.{RendezId}
use Rattle.sync_base.specs.declared.limits.TheConstants.{TOP_LEVEL}
use Rattle.sync_base.specs.declared.note.Note.TheVariants.{Interrupt, Hangup, Alarm}
use Rattle.sync_base.specs.declared.note.NoteSet.{NoteSet}
use Rattle.sync_base.specs.NoteSet.{no_notes, only, joined}
use Rattle.sleep_core.specs.declared.event.Event.{Event}
use Rattle.sleep_core.specs.declared.event.Event.TheVariants as event
use Rattle.sleep_core.specs.declared.answer.Answer.{Answer}
use Rattle.sleep_core.specs.declared.answer.Answer.TheVariants as answer
use Rattle.sleep_core.specs.declared.phase.Phase.TheVariants as phase
use Rattle.sleep_core.specs.State.{State, opening, no_flags}
use Rattle.sleep_core.specs.Runs.{Entry, IsMadeBy, IsNext, IsRun, answers_to_all, world_after_all}
use Rattle.sleep_core.specs.Runs.{world_of, run_of, own, kept, phase_by}
use Rattle.sleep_core.specs.Step.{answer_to}
use Rattle.sleep_core.specs.History.{Effect, history_of}
use Rattle.sleep_core.specs.History.Effect.{Began, Passed, Fell, Roused, Withdrew, Left, Raised}
use Rattle.sleep_core.specs.History.Effect.{Missed, Took, Marked, Noted, Drained}

abbrev proc : ℕ → Pid
proc n = record { 0 = n }

abbrev rendez : ℕ → RendezId
rendez n = record { 0 = n }

-- the events, in the order in which they come
abbrev post : ℕ → ℕ → ℕ → Event
post pid at threshold = event.Post (proc pid) (rendez at) threshold

abbrev test : ℕ → Event
test pid = event.Test (proc pid)

abbrev look : ℕ → Event
look pid = event.Look (proc pid)

abbrev withdraw : ℕ → Event
withdraw pid = event.Withdraw (proc pid)

abbrev clear : ℕ → Event
clear pid = event.Clear (proc pid)

abbrev raise : ℕ → ℕ → ℕ → Event
raise pid at level = event.Raise (proc pid) (rendez at) level

abbrev take : ℕ → Event
take pid = event.Take (proc pid)

abbrev mark : ℕ → Event
mark pid = event.Mark (proc pid)

abbrev note : ℕ → NoteSet → Event
note pid notes = event.Note (proc pid) notes

abbrev drain : ℕ → Event
drain pid = event.Drain (proc pid)

abbrev check : ℕ → Event
check pid = event.Check (proc pid)

-- what three processes and two Rendez answer, show and come to
abbrev answers : List Event → List Answer
answers events = answers_to_all (opening 3 2) events

abbrev run : List Event → List Entry
run events = run_of (opening 3 2) [] events

abbrev history : List Event → List Effect
history events = history_of (run events)

abbrev world : List Event → State
world events = world_after_all (opening 3 2) events

-- A process falls asleep, is taken, and is marked. It checks before and after, and looks in vain.
abbrev asleep_and_marked : List Event
asleep_and_marked =
    post 1 1 4 ∷ test 1 ∷ check 1 ∷ look 1 ∷ raise 2 1 7 ∷ take 2 ∷ check 1 ∷ look 1 ∷ mark 2
    ∷ look 1 ∷ clear 1 ∷ []

asleep_and_marked_answers : answers asleep_and_marked
    ≡ answer.Posted ∷ answer.Asleep ∷ answer.Posted ∷ answer.Parked ∷ answer.Owing
    ∷ answer.Holding (proc 1) ∷ answer.Released ∷ answer.Parked ∷ answer.Marked (proc 1)
    ∷ answer.Woken ∷ answer.Cleared ∷ []
asleep_and_marked_answers = refl

asleep_and_marked_shows : history asleep_and_marked
    ≡ Left 1 None ∷ Roused 1 ∷ Marked 2 1 ∷ Took 2 1 ∷ Raised 2 1 7 ∷ Fell 1 ∷ Began 1 1 4 ∷ []
asleep_and_marked_shows = refl

asleep_and_marked_leaves : world asleep_and_marked ≡ record {
  phases = phase.Idle ∷ phase.Idle ∷ phase.Idle ∷ [];
  flags = no_flags ∷ no_flags ∷ no_flags ∷ [];
  posted = 0 ∷ 0 ∷ [];
  levels = 0 ∷ 7 ∷ [];
  returned = 0 ∷ 7 ∷ [];
}
asleep_and_marked_leaves = refl

-- where it is as soon as the wakeup has taken it, and once it is marked
taken_leaves : world (post 1 1 4 ∷ test 1 ∷ raise 2 1 7 ∷ take 2 ∷ []) ≡ record {
  phases = phase.Idle ∷ phase.Asleep (rendez 1) 4 ∷ phase.Holding (proc 1) (rendez 1) 7 ∷ [];
  flags = no_flags ∷ no_flags ∷ no_flags ∷ [];
  posted = 0 ∷ 0 ∷ [];
  levels = 0 ∷ 7 ∷ [];
  returned = 0 ∷ 0 ∷ [];
}
taken_leaves = refl

marked_leaves : world (post 1 1 4 ∷ test 1 ∷ raise 2 1 7 ∷ take 2 ∷ mark 2 ∷ look 1 ∷ [])
    ≡ record {
      phases = phase.Idle ∷ phase.Woken ∷ phase.Idle ∷ [];
      flags = no_flags ∷ record { wake = true; notes = no_notes } ∷ no_flags ∷ [];
      posted = 0 ∷ 0 ∷ [];
      levels = 0 ∷ 7 ∷ [];
      returned = 0 ∷ 7 ∷ [];
    }
marked_leaves = refl

-- The wakeup is over before the process posts itself: its test sees the level, and it withdraws.
abbrev woken_before_the_post : List Event
woken_before_the_post =
    raise 2 1 7 ∷ take 2 ∷ post 1 1 4 ∷ test 1 ∷ withdraw 1 ∷ clear 1 ∷ []

woken_before_the_post_answers : answers woken_before_the_post
    ≡ answer.Owing ∷ answer.Nobody ∷ answer.Posted ∷ answer.Leaving ∷ answer.Out ∷ answer.Cleared
    ∷ []
woken_before_the_post_answers = refl

woken_before_the_post_shows : history woken_before_the_post
    ≡ Left 1 None ∷ Withdrew 1 ∷ Passed 1 ∷ Began 1 1 4 ∷ Missed 2 ∷ Raised 2 1 7 ∷ []
woken_before_the_post_shows = refl

-- who withdrew is no longer posted, and has yet to end its sleep
withdrew_leaves : world (raise 2 1 7 ∷ take 2 ∷ post 1 1 4 ∷ test 1 ∷ withdraw 1 ∷ [])
    ≡ record {
      phases = phase.Idle ∷ phase.Out ∷ phase.Idle ∷ [];
      flags = no_flags ∷ no_flags ∷ no_flags ∷ [];
      posted = 0 ∷ 0 ∷ [];
      levels = 0 ∷ 7 ∷ [];
      returned = 0 ∷ 7 ∷ [];
    }
withdrew_leaves = refl

-- A wakeup takes the process between its post and its test. The withdrawal fails, and it awaits its
-- mark.
abbrev taken_before_the_test : List Event
taken_before_the_test =
    post 1 1 4 ∷ raise 2 1 7 ∷ take 2 ∷ test 1 ∷ withdraw 1 ∷ look 1 ∷ mark 2 ∷ look 1 ∷ clear 1
    ∷ []

taken_before_the_test_answers : answers taken_before_the_test
    ≡ answer.Posted ∷ answer.Owing ∷ answer.Holding (proc 1) ∷ answer.Leaving ∷ answer.Awaiting
    ∷ answer.Parked ∷ answer.Marked (proc 1) ∷ answer.Woken ∷ answer.Cleared ∷ []
taken_before_the_test_answers = refl

taken_before_the_test_shows : history taken_before_the_test
    ≡ Left 1 None ∷ Roused 1 ∷ Marked 2 1 ∷ Passed 1 ∷ Took 2 1 ∷ Raised 2 1 7 ∷ Began 1 1 4 ∷ []
taken_before_the_test_shows = refl

-- A note and a wakeup race for a process that is asleep. The note comes first, and the process
-- wants
-- to leave; the wakeup takes it before it withdraws, and notes do not end its wait for the mark.
abbrev noted_and_marked : List Event
noted_and_marked =
    post 1 1 4 ∷ test 1 ∷ note 1 (only Interrupt) ∷ look 1 ∷ raise 2 1 7 ∷ take 2 ∷ withdraw 1
    ∷ look 1 ∷ mark 2 ∷ look 1 ∷ clear 1 ∷ []

noted_and_marked_answers : answers noted_and_marked
    ≡ answer.Posted ∷ answer.Asleep ∷ answer.Noted ∷ answer.Leaving ∷ answer.Owing
    ∷ answer.Holding (proc 1) ∷ answer.Awaiting ∷ answer.Parked ∷ answer.Marked (proc 1)
    ∷ answer.Woken ∷ answer.Interrupted (only Interrupt) ∷ []
noted_and_marked_answers = refl

noted_and_marked_shows : history noted_and_marked
    ≡ Left 1 (Some (only Interrupt)) ∷ Roused 1 ∷ Marked 2 1 ∷ Took 2 1 ∷ Raised 2 1 7
    ∷ Noted 1 (only Interrupt) ∷ Fell 1 ∷ Began 1 1 4 ∷ []
noted_and_marked_shows = refl

-- The mark counts before a note that came with it.
abbrev marked_and_noted : List Event
marked_and_noted =
    post 1 1 4 ∷ test 1 ∷ raise 2 1 7 ∷ take 2 ∷ note 1 (only Interrupt) ∷ mark 2
    ∷ note 1 (only Alarm) ∷ look 1 ∷ clear 1 ∷ drain 1 ∷ []

marked_and_noted_answers : answers marked_and_noted
    ≡ answer.Posted ∷ answer.Asleep ∷ answer.Owing ∷ answer.Holding (proc 1) ∷ answer.Noted
    ∷ answer.Marked (proc 1) ∷ answer.Noted ∷ answer.Woken
    ∷ answer.Interrupted (joined (only Interrupt) (only Alarm)) ∷ answer.Notes no_notes ∷ []
marked_and_noted_answers = refl

-- Notes come outside a sleep. Some are drained; the others are pending as a sleep begins, whose
-- test
-- passes, and end it.
abbrev notes_drained_and_told : List Event
notes_drained_and_told =
    note 1 (only Hangup) ∷ note 2 (only Interrupt) ∷ drain 1 ∷ drain 1 ∷ note 1 (only Alarm)
    ∷ note 1 (only Interrupt) ∷ note 1 (only Alarm) ∷ raise 2 1 5 ∷ take 2 ∷ post 1 1 4 ∷ test 1
    ∷ withdraw 1 ∷ clear 1 ∷ drain 1 ∷ drain 2 ∷ []

notes_drained_and_told_answers : answers notes_drained_and_told
    ≡ answer.Noted ∷ answer.Noted ∷ answer.Notes (only Hangup) ∷ answer.Notes no_notes
    ∷ answer.Noted ∷ answer.Noted ∷ answer.Noted ∷ answer.Owing ∷ answer.Nobody ∷ answer.Posted
    ∷ answer.Leaving ∷ answer.Out
    ∷ answer.Interrupted (joined (only Interrupt) (only Alarm)) ∷ answer.Notes no_notes
    ∷ answer.Notes (only Interrupt) ∷ []
notes_drained_and_told_answers = refl

notes_drained_and_told_shows : history notes_drained_and_told
    ≡ Drained 2 (only Interrupt) ∷ Drained 1 no_notes
    ∷ Left 1 (Some (joined (only Interrupt) (only Alarm))) ∷ Withdrew 1 ∷ Passed 1 ∷ Began 1 1 4
    ∷ Missed 2 ∷ Raised 2 1 5 ∷ Noted 1 (only Alarm) ∷ Noted 1 (only Interrupt)
    ∷ Noted 1 (only Alarm) ∷ Drained 1 no_notes ∷ Drained 1 (only Hangup)
    ∷ Noted 2 (only Interrupt) ∷ Noted 1 (only Hangup) ∷ []
notes_drained_and_told_shows = refl

-- A wakeup takes whoever is in the Rendez, also one whose threshold it does not reach. The process
-- falls asleep all the same, a second wakeup finds nobody, and the mark of the first wakes it.
abbrev taken_by_a_low_wakeup : List Event
taken_by_a_low_wakeup =
    post 1 1 4 ∷ raise 2 1 4 ∷ take 2 ∷ test 1 ∷ raise 0 1 5 ∷ take 0 ∷ raise 0 1 3 ∷ take 0
    ∷ look 1 ∷ mark 2 ∷ look 1 ∷ clear 1 ∷ []

taken_by_a_low_wakeup_answers : answers taken_by_a_low_wakeup
    ≡ answer.Posted ∷ answer.Owing ∷ answer.Holding (proc 1) ∷ answer.Asleep ∷ answer.Owing
    ∷ answer.Nobody ∷ answer.Owing ∷ answer.Nobody ∷ answer.Parked ∷ answer.Marked (proc 1)
    ∷ answer.Woken ∷ answer.Cleared ∷ []
taken_by_a_low_wakeup_answers = refl

taken_by_a_low_wakeup_shows : history taken_by_a_low_wakeup
    ≡ Left 1 None ∷ Roused 1 ∷ Marked 2 1 ∷ Missed 0 ∷ Raised 0 1 3 ∷ Missed 0 ∷ Raised 0 1 5
    ∷ Fell 1 ∷ Took 2 1 ∷ Raised 2 1 4 ∷ Began 1 1 4 ∷ []
taken_by_a_low_wakeup_shows = refl

-- levels only rise, and a returned level is the greatest of its Rendez
taken_by_a_low_wakeup_leaves : world taken_by_a_low_wakeup ≡ record {
  phases = phase.Idle ∷ phase.Idle ∷ phase.Idle ∷ [];
  flags = no_flags ∷ no_flags ∷ no_flags ∷ [];
  posted = 0 ∷ 0 ∷ [];
  levels = 0 ∷ 5 ∷ [];
  returned = 0 ∷ 5 ∷ [];
}
taken_by_a_low_wakeup_leaves = refl

-- What is refused, in the order of the refusals, and changes nothing.
abbrev refused : List Event
refused =
    post 1 1 4 ∷ post 0 1 4 ∷ post 2 1 TOP_LEVEL ∷ post 2 2 4 ∷ post 2 2 TOP_LEVEL ∷ post 1 1 4
    ∷ test 3 ∷ test 2 ∷ look 1 ∷ withdraw 1 ∷ clear 1 ∷ raise 2 2 7 ∷ raise 1 1 7 ∷ take 1 ∷ mark 1
    ∷ note 3 (only Alarm) ∷ drain 1 ∷ check 1 ∷ []

refused_answers : answers refused
    ≡ answer.Posted ∷ answer.DoubleSleep ∷ answer.BadLevel ∷ answer.NoRendez ∷ answer.NoRendez
    ∷ answer.Refused ∷ answer.NoProc ∷ answer.Refused ∷ answer.Refused ∷ answer.Refused
    ∷ answer.Refused ∷ answer.NoRendez ∷ answer.Refused ∷ answer.Refused ∷ answer.Refused
    ∷ answer.NoProc ∷ answer.Refused ∷ answer.Refused ∷ []
refused_answers = refl

refused_shows : history refused ≡ Began 1 1 4 ∷ []
refused_shows = refl

refused_leaves : world refused ≡ record {
  phases = phase.Idle ∷ phase.Posted (rendez 1) 4 ∷ phase.Idle ∷ [];
  flags = no_flags ∷ no_flags ∷ no_flags ∷ [];
  posted = 0 ∷ 2 ∷ [];
  levels = 0 ∷ 0 ∷ [];
  returned = 0 ∷ 0 ∷ [];
}
refused_leaves = refl

-- what is kept of it: the refusal of a second sleeper alone
refused_keeps : kept (run refused)
    ≡ record { maker = 0; event = post 0 1 4; answer = answer.DoubleSleep }
    ∷ record { maker = 1; event = post 1 1 4; answer = answer.Posted } ∷ []
refused_keeps = refl

-- A process's own events. A note is its poster's, and a check that found it posted, a look in vain
-- and a check that found it released are not kept.
abbrev by : ℕ → Event → Answer → Entry
by maker made told = record { maker = maker; event = made; answer = told }

abbrev mixed : List Entry
mixed =
    by 1 (look 1) answer.Woken ∷ by 2 (mark 2) (answer.Marked (proc 1))
    ∷ by 1 (check 1) answer.Released ∷ by 2 (take 2) (answer.Holding (proc 1))
    ∷ by 2 (note 1 (only Alarm)) answer.Noted ∷ by 1 (look 1) answer.Parked
    ∷ by 1 (check 1) answer.Posted ∷ by 2 (raise 2 1 7) answer.Owing
    ∷ by 1 (test 1) answer.Asleep ∷ by 1 (post 1 1 4) answer.Posted ∷ []

mixed_own : own 2 mixed
    ≡ by 2 (mark 2) (answer.Marked (proc 1)) ∷ by 2 (take 2) (answer.Holding (proc 1))
    ∷ by 2 (note 1 (only Alarm)) answer.Noted ∷ by 2 (raise 2 1 7) answer.Owing ∷ []
mixed_own = refl

mixed_keeps : kept (own 1 mixed)
    ≡ by 1 (look 1) answer.Woken ∷ by 1 (test 1) answer.Asleep ∷ by 1 (post 1 1 4) answer.Posted
    ∷ []
mixed_keeps = refl

-- and the phases that they give
mixed_phase : phase_by (kept (own 1 mixed)) ≡ phase.Woken
mixed_phase = refl

mixed_phase_before : phase_by (kept (own 1 (by 1 (test 1) answer.Asleep
    ∷ by 1 (post 1 1 4) answer.Posted ∷ []))) ≡ phase.Asleep (rendez 1) 4
mixed_phase_before = refl

mixed_phase_of_raiser : phase_by (own 2 (by 2 (take 2) (answer.Holding (proc 1))
    ∷ by 2 (raise 2 1 7) answer.Owing ∷ [])) ≡ phase.Holding (proc 1) (rendez 1) 7
mixed_phase_of_raiser = refl

-- It is a run: each entry is made by its process, the note by its poster, and answered by the
-- table.
step : {state : State} {entry : Entry} → IsMadeBy entry.maker entry.event
    → entry.answer ≡ answer_to state entry.event → IsNext state entry
step made answered = record { made = made; answered = answered }

mixed_is_run : IsRun 3 2 mixed
mixed_is_run =
    ((
      (
        (
          (
            (
              (
                ((((tt, step refl refl), step refl refl), step refl refl), step refl refl),
                step refl refl,
              ),
              step tt refl,
            ),
            step refl refl,
          ),
          step refl refl,
        ),
        step refl refl,
      ),
      step refl refl,
    ))

mixed_world : world_of 3 2 mixed ≡ record {
  phases = phase.Idle ∷ phase.Woken ∷ phase.Idle ∷ [];
  flags = no_flags ∷ record { wake = true; notes = only Alarm } ∷ no_flags ∷ [];
  posted = 0 ∷ 0 ∷ [];
  levels = 0 ∷ 7 ∷ [];
  returned = 0 ∷ 7 ∷ [];
}
mixed_world = refl

-- what the table does not answer is no run, and nobody makes another's event
wrong_answer_is_no_run : IsRun 3 2 (by 1 (post 1 1 4) answer.DoubleSleep ∷ []) → ⊥
wrong_answer_is_no_run run_so = clash run_so.1.answered
  where
    clash : answer.DoubleSleep ≡ answer.Posted → ⊥
    clash same = cc

anothers_event_is_no_run : IsRun 3 2 (by 2 (post 1 1 4) answer.Posted ∷ []) → ⊥
anothers_event_is_no_run run_so = absurd (omega (arith, run_so.1.made))
