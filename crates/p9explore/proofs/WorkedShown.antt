-- What is shown of a schedule, and of who sleeps at its end: an example of each row.
use Rattle.std.proofs.Common.{◌≡◌, ◌++◌, ℕ, true, false, List, [], ◌∷◌, Option, Some, None}
use Rattle.std.proofs.Common.{ap, arith, codes, refl}
use Rattle.std.specs.Prelude.{slice_index}
use Rattle.std.specs.Fmt.{decimal}
use Rattle.sync_base.specs.declared.ids.Pid.{Pid}
use Rattle.sync_base.specs.NoteSet.{no_notes}
use Rattle.sleep_core.specs.declared.answer.Answer.TheVariants as answer
use Rattle.sleep_core.specs.declared.event.Event.{Event}
use Rattle.sleep_core.specs.declared.event.Event.TheVariants as event
use Rattle.searches.specs.declared.status.Status.TheVariants as status
use Rattle.calls.specs.declared.call.Call.TheVariants as call
use Rattle.calls.specs.declared.ending.Ending.TheVariants as ending
use Rattle.calls.specs.declared.line.Line.{Line}
use Rattle.calls.specs.declared.process.Process.{Process}
use Rattle.calls.specs.declared.process.Standing.{Standing}
use Rattle.calls.specs.declared.process.Standing.TheVariants as standing
use Rattle.calls.specs.declared.process.Timer.{Timer}
use Rattle.calls.specs.declared.process.Timer.TheVariants as timer
use Rattle.calls.specs.declared.process.Want.TheVariants as want
use Rattle.calls.specs.declared.rendez.Stage.TheVariants as stage
use Rattle.calls.specs.Position.{after_of, opening_of}
use Rattle.calls.specs.Program.{Program}
use Rattle.p9explore.specs.declared.call_answer.Showing.{Showing}
use Rattle.p9explore.specs.declared.names.Kind.TheVariants as kind
use Rattle.p9explore.specs.CallFoot.{ShowsBy, ShowsRefusal, ShowsWait, Telling, begins_sleep}
use Rattle.p9explore.specs.CallFoot.{is_posted, refuses, sleeper_text, sleeps_plainly, telling}
use Rattle.p9explore.specs.CallFoot.{until_text}
use Rattle.p9explore.specs.CallSteps.{ShowsStep, ShowsSteps, as_line, column_front, column_text}
use Rattle.p9explore.specs.CallSteps.{in_column, in_lines, line_front, process_of, step_at, step_of}
use Rattle.p9explore.specs.CallText.{chart_head, chart_of, front_text, if_core}
use Rattle.p9explore.specs.CallText.{in_words}
use Rattle.p9explore.specs.Names.{Named, object_at}

-- ---- two processes that sleep in one Rendez, the second of which is refused

-- a sleep in the only Rendez above this threshold, after which a process goes on there
abbrev sleep_to : ℕ → ℕ → Line
sleep_to threshold next =
    record {
      call = call.Sleep 0 threshold None;
      next = next;
      late = next;
      other = next;
      closed = next;
      is_served = false;
    }

abbrev two_sleep : Program
two_sleep =
    record {
      lines = sleep_to 5 2 ∷ sleep_to 7 2 ∷ [];
      starts = 0 ∷ 1 ∷ [];
      values = [];
      pipes = [];
      rendez = 1;
    }

abbrev pid_of : ℕ → Pid
pid_of n = record { 0 = n }

abbrev post_of : ℕ → ℕ → Event
post_of pid threshold = event.Post (pid_of pid) (record { 0 = 0 }) threshold

-- the names of a script
abbrev names : List Named
names =
    record { object = object_at kind.Process 0; word = codes "first" }
    ∷ record { object = object_at kind.Process 1; word = codes "second" }
    ∷ record { object = object_at kind.Rendez 0; word = codes "here" }
    ∷ []

-- the lines of two events, by numbers
abbrev post_line : ℕ → ℕ → List ℕ
post_line pid threshold =
    codes "post " ++ (decimal pid ++ (codes " " ++ (decimal 0 ++ (codes " " ++ (decimal threshold
    ++ codes "\n")))))

abbrev test_line : ℕ → List ℕ
test_line pid = codes "test " ++ (decimal pid ++ codes "\n")

-- ---- steps

-- the step of this mover there, which is this event, has this line
abbrev ShownAs : ℕ → Option Event → List ℕ → Type 0
ShownAs mover =
    ShowsStep (as_line names two_sleep mover) (line_front names two_sleep mover)
    (step_at two_sleep (opening_of two_sleep) mover)

a_step_of_the_core :
    ShownAs 0 (Some (post_of 0 5)) (codes "post first here " ++ (decimal 5 ++ codes "\n"))
a_step_of_the_core = (refl, (omega arith, omega arith, omega arith))

another_step_begins_with_its_process : ShownAs 1 None (codes "second goes on\n")
another_step_begins_with_its_process = (codes " goes on", refl)

and_with_no_other : ¬ (ShownAs 1 None (codes "first goes on\n"))
and_with_no_other shows =
    let same : 102 ≡ 115 = ap (λ (l : List ℕ). slice_index l 0) shows.1 in omega (arith, same)

it_has_a_line : ¬ (ShownAs 1 None [])
it_has_a_line shows = let same = shows.1 in cc

the_end_of_the_program_has_none : ShownAs 4 None []
the_end_of_the_program_has_none = refl

nor_another_text : ¬ (ShownAs 4 None (codes "x"))
nor_another_text shows = cc

in_its_column : column_front names two_sleep 1 1 ≡ codes "|               second"
in_its_column = refl

with_names : as_line names two_sleep 0 (post_of 0 5)
    ≡ codes "post first here " ++ (decimal 5 ++ codes "\n")
with_names = refl

-- each process is two movers
its_own_mover : process_of two_sleep 1 ≡ 1
its_own_mover = refl

its_other_mover : process_of two_sleep 3 ≡ 1
its_other_mover = refl

in_the_first_column : in_column [] two_sleep 0 (post_of 0 5) ≡ post_line 0 5
in_the_first_column = refl

in_the_second_column :
    in_column [] two_sleep 1 (post_of 1 7) ≡ codes "|               " ++ post_line 1 7
in_the_second_column = refl

no_line_in_a_column : column_text 1 [] ≡ []
no_line_in_a_column = refl

a_line_in_a_column : column_text 1 (codes "x") ≡ codes "|               x"
a_line_in_a_column = refl

-- a part for each step, oldest first
all_of_them : ShowsSteps (in_lines []) two_sleep (opening_of two_sleep) (0 ∷ 1 ∷ 0 ∷ [])
    (post_line 0 5 ++ (post_line 1 7 ++ (test_line 0 ++ [])))
all_of_them = (
  post_line 0 5,
  post_line 1 7 ++ (test_line 0 ++ []),
  refl,
  (refl, (omega arith, omega arith, omega arith)),
  (
    post_line 1 7,
    test_line 0 ++ [],
    refl,
    (refl, (omega arith, omega arith, omega arith)),
    (test_line 0, [], refl, (refl, omega arith), refl),
  ),
)

-- ---- sleeps that are refused

it_refuses_the_second : refuses
    (step_of two_sleep (after_of two_sleep (opening_of two_sleep) 0)
    (after_of two_sleep (after_of two_sleep (opening_of two_sleep) 0) 1) 1)
    ≡ Some 1
it_refuses_the_second = refl

and_not_the_first : refuses
    (step_of two_sleep (opening_of two_sleep) (after_of two_sleep (opening_of two_sleep) 0) 0)
    ≡ None
and_not_the_first = refl

no_step_refuses_nothing : refuses None ≡ None
no_step_refuses_nothing = refl

a_wakeup_begins_no_sleep : begins_sleep standing.Begins (call.Wakeup 0 1) ≡ false
a_wakeup_begins_no_sleep = refl

nor_does_one_that_sleeps :
    begins_sleep (standing.Sleeps stage.Asleep None) (call.Sleep 0 5 None) ≡ false
nor_does_one_that_sleeps = refl

one_that_sleeps_is_not_posted_now : is_posted (standing.Sleeps stage.Asleep None) ≡ false
one_that_sleeps_is_not_posted_now = refl

its_line : ShowsRefusal [] (Some 1) (codes "refused: process " ++ (decimal 1
    ++ (codes " call " ++ (decimal 0 ++ codes " double sleep\n"))))
its_line = (0, refl)

no_other_line : ShowsRefusal [] None []
no_other_line = refl

-- ---- who sleeps

abbrev process_with : Standing → Timer → Process
process_with stands set =
    record { place = 0; standing = stands; timer = set; notes = no_notes; is_marked = false }

it_sleeps_plainly : sleeps_plainly (process_with (standing.Sleeps stage.Asleep None) timer.Unset)
    ≡ true
it_sleeps_plainly = refl

with_a_timer_it_does_not :
    sleeps_plainly (process_with (standing.Sleeps stage.Asleep None) (timer.Set 9)) ≡ false
with_a_timer_it_does_not = refl

nor_for_the_note_of_a_tick : sleeps_plainly
    (process_with
    (standing.Sleeps stage.Asleep (Some (record { ending = ending.Done; notes = no_notes })))
    timer.Unset)
    ≡ false
nor_for_the_note_of_a_tick = refl

nor_where_it_waits_for_bytes : sleeps_plainly (process_with standing.Blocked timer.Unset) ≡ false
nor_where_it_waits_for_bytes = refl

by_numbers : sleeper_text (telling [] false true) 0 (call.Sleep 2 5 None)
    ≡ decimal 0
    ++ (codes " sleeps in " ++ (decimal 2 ++ (codes " above " ++ (decimal 5 ++ codes "\n"))))
by_numbers = refl

a_wakeup_sleeps_nowhere : sleeper_text (telling [] false true) 0 (call.Wakeup 2 5) ≡ []
a_wakeup_sleeps_nowhere = refl

in_their_words : sleeper_text (telling names true true) 0 (call.Sleep 0 5 None)
    ≡ codes "first waits for " ++ ((codes "a level above " ++ (decimal 5 ++ codes " in here"))
    ++ codes "\n")
in_their_words = refl

until_a_moment : until_text (timer.Set 9) ≡ codes " until " ++ decimal 9
until_a_moment = refl

while_it_is_set : until_text timer.Expired ≡ []
while_it_is_set = refl

-- one that waits for a unit
abbrev waits_so : Telling → List ℕ → Type 0
waits_so how =
    ShowsWait how 1 (process_with (standing.Waits (want.Unit 0) 0) timer.Unset)
    (Some (sleep_to 5 2))

in_words_its_line_begins_with_it :
    waits_so (telling names true false) (codes "second waits for a unit\n")
in_words_its_line_begins_with_it =
    record { begins = λ on. (codes "for a unit", refl); sleeps = λ core. absurd cc }

not_with_another : ¬ (waits_so (telling names true false) (codes "first waits for a unit\n"))
not_with_another shows =
    let same : 102 ≡ 115 = ap (λ (l : List ℕ). slice_index l 0) (shows.begins refl).1 in
    omega (arith, same)

it_is_not_left_out : ¬ (waits_so (telling names true false) [])
it_is_not_left_out shows = let same = (shows.begins refl).1 in cc

who_can_go_on_has_no_line : ShowsBy status.Ready ⊥ []
who_can_go_on_has_no_line = refl

who_is_parked_waits : ¬ (ShowsBy status.Parked ⊥ [])
who_is_parked_waits none = none

-- ---- all of it

abbrev showing : Showing
showing = record { most = 9; has_chart = true; is_core = true }

the_first_line : front_text true two_sleep
    ≡ codes "world " ++ (decimal 2 ++ (codes " " ++ (decimal 1 ++ codes "\n")))
the_first_line = refl

no_first_line_beside_devices : front_text false two_sleep ≡ []
no_first_line_beside_devices = refl

no_refusals_beside_devices : if_core false (codes "x") ≡ []
no_refusals_beside_devices = refl

refusals_of_the_core : if_core true (codes "x") ≡ codes "x"
refusals_of_the_core = refl

numbers_without_names : in_words [] showing ≡ false
numbers_without_names = refl

words_with_names : in_words names showing ≡ true
words_with_names = refl

words_beside_devices : in_words [] (record showing { is_core = false }) ≡ true
words_beside_devices = refl

heads : chart_head names 2
    ≡ codes "chart\nprocess first\n|               process second\n"
heads = refl

a_chart : chart_of true names two_sleep (codes "x\n") (codes "y\n")
    ≡ codes "chart\nprocess first\n|               process second\nx\ny\n"
a_chart = refl

no_chart : chart_of false [] two_sleep (codes "x\n") (codes "y\n") ≡ []
no_chart = refl
