-- Steps of a process that are no sleep, or no wakeup, each for a reason of its own, and some steps
-- that are a sleep or a wakeup. The laws cite them.
use Rattle.std.specs.Prelude.{ℕ, List, [], ◌∷◌}
use Rattle.rendez_words.specs.Process.{TableId}
use Rattle.sync_base.specs.declared.ids.Pid.{Pid}
use Rattle.sync_base.specs.declared.ids.RendezId.{RendezId}
use Rattle.sync_base.specs.declared.note.Note.TheVariants.{Alarm}
use Rattle.sync_base.specs.NoteSet.{only}
use Rattle.sleep_core.specs.declared.answer.Answer.{Answer}
use Rattle.sleep_core.specs.declared.answer.Answer.TheVariants as answer
use Rattle.sleep_core.specs.declared.event.Event.{Event}
use Rattle.sleep_core.specs.declared.event.Event.TheVariants.{Post, Test, Look, Withdraw, Clear}
use Rattle.sleep_core.specs.declared.event.Event.TheVariants.{Raise, Take, Mark, Note}
use Rattle.sleep_core.specs.Runs.{Entry}
use Rattle.rendez_words.specs.declared.states.Done.{Done}
use Rattle.rendez_words.specs.Process.{Process}

abbrev pub process : ℕ → Pid
process pid = record { 0 = pid }

abbrev pub rendez : ℕ → RendezId
rendez number = record { 0 = number }

-- process 0 of these words, once it has made these steps
abbrev pub after : TableId → List Entry → Process
after table steps = record { table = table; pid = 0; trace = steps }

abbrev pub step : Event → Answer → Entry
step event told = record { maker = 0; event = event; answer = told }

-- The steps of a sleep in Rendez 0 with the threshold 0.
abbrev pub posted_in : ℕ → ℕ → Entry
posted_in number threshold = step (Post (process 0) (rendez number) threshold) answer.Posted

abbrev pub posted : Entry
posted = posted_in 0 0

abbrev pub passed : Entry
passed = step (Test (process 0)) answer.Leaving

abbrev pub fell : Entry
fell = step (Test (process 0)) answer.Asleep

abbrev pub saw_notes : Entry
saw_notes = step (Look (process 0)) answer.Leaving

abbrev pub saw_mark : Entry
saw_mark = step (Look (process 0)) answer.Woken

abbrev pub went_out : Entry
went_out = step (Withdraw (process 0)) answer.Out

abbrev pub was_taken : Entry
was_taken = step (Withdraw (process 0)) answer.Awaiting

abbrev pub cleared : Entry
cleared = step (Clear (process 0)) answer.Cleared

abbrev pub cleared_alarm : Entry
cleared_alarm = step (Clear (process 0)) (answer.Interrupted (only Alarm))

-- Steps that are no sleep. The sleep is over at once.
abbrev pub answers_at_once : List Entry
answers_at_once = []

-- the process tests its condition and then posts itself
abbrev pub tests_before_it_posts : List Entry
tests_before_it_posts = cleared ∷ went_out ∷ posted ∷ passed ∷ []

abbrev pub never_tests : List Entry
never_tests = cleared ∷ went_out ∷ posted ∷ []

abbrev pub never_clears : List Entry
never_clears = went_out ∷ passed ∷ posted ∷ []

abbrev pub clears_twice : List Entry
clears_twice = cleared ∷ cleared ∷ went_out ∷ passed ∷ posted ∷ []

-- it begins a wakeup in the middle
abbrev pub raises_meanwhile : List Entry
raises_meanwhile =
    cleared ∷ went_out ∷ step (Raise (process 0) (rendez 0) 1) answer.Owing ∷ passed ∷ posted ∷ []

abbrev pub posts_elsewhere : List Entry
posts_elsewhere = cleared ∷ went_out ∷ passed ∷ posted_in 1 0 ∷ []

abbrev pub posts_with_another_threshold : List Entry
posts_with_another_threshold = cleared ∷ went_out ∷ passed ∷ posted_in 0 1 ∷ []

-- its test found the condition false, and it saw neither a mark nor notes
abbrev pub leaves_for_no_cause : List Entry
leaves_for_no_cause = cleared ∷ went_out ∷ fell ∷ posted ∷ []

-- Steps that are a sleep: the test passed; a mark came; a wakeup took the process before it could
-- withdraw; an alarm came.
abbrev pub leaves_as_its_test_passed : List Entry
leaves_as_its_test_passed = cleared ∷ went_out ∷ passed ∷ posted ∷ []

abbrev pub leaves_as_it_was_marked : List Entry
leaves_as_it_was_marked = cleared ∷ saw_mark ∷ fell ∷ posted ∷ []

abbrev pub leaves_as_it_was_taken : List Entry
leaves_as_it_was_taken = cleared ∷ saw_mark ∷ was_taken ∷ passed ∷ posted ∷ []

abbrev pub leaves_with_an_alarm : List Entry
leaves_with_an_alarm = cleared_alarm ∷ went_out ∷ saw_notes ∷ fell ∷ posted ∷ []

-- The steps of a wakeup of Rendez 0 with the level 1.
abbrev pub done_at : ℕ → ℕ → Done
done_at number level = record { rendez = rendez number; level = level }

abbrev pub done : Done
done = done_at 0 1

abbrev pub raised_in : ℕ → ℕ → Entry
raised_in number level = step (Raise (process 0) (rendez number) level) answer.Owing

abbrev pub raised : Entry
raised = raised_in 0 1

abbrev pub missed : Entry
missed = step (Take (process 0)) answer.Nobody

abbrev pub took : Entry
took = step (Take (process 0)) (answer.Holding (process 1))

abbrev pub marked : ℕ → Entry
marked pid = step (Mark (process 0)) (answer.Marked (process pid))

-- Steps that are no wakeup.
abbrev pub takes_before_it_raises : List Entry
takes_before_it_raises = raised ∷ missed ∷ []

abbrev pub never_raises : List Entry
never_raises = missed ∷ []

abbrev pub never_takes : List Entry
never_takes = raised ∷ []

abbrev pub takes_twice : List Entry
takes_twice = missed ∷ missed ∷ raised ∷ []

abbrev pub never_marks : List Entry
never_marks = took ∷ raised ∷ []

abbrev pub marks_another : List Entry
marks_another = marked 2 ∷ took ∷ raised ∷ []

abbrev pub raises_elsewhere : List Entry
raises_elsewhere = missed ∷ raised_in 1 1 ∷ []

abbrev pub raises_to_another_level : List Entry
raises_to_another_level = missed ∷ raised_in 0 2 ∷ []

-- Steps that are a wakeup: nobody was there, or a process, which was marked.
abbrev pub finds_nobody : List Entry
finds_nobody = missed ∷ raised ∷ []

abbrev pub marks_the_sleeper : List Entry
marks_the_sleeper = marked 1 ∷ took ∷ raised ∷ []

-- Processes 0 and 1 in one group, 2 and 3 in another.
abbrev pub four_in_two : List (List ℕ)
four_in_two = (2 ∷ 3 ∷ []) ∷ (0 ∷ 1 ∷ []) ∷ []

-- an alarm was posted to this process
abbrev pub noted : ℕ → Entry
noted pid = step (Note (process pid) (only Alarm)) answer.Noted
