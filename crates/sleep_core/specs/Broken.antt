-- Short histories that break a promise, each by one of its rows alone, and some that break none.
-- They are written newest first, as every history, and their comments go oldest first. No run shows
-- a history that breaks a promise.
use Rattle.std.specs.Prelude.{ℕ, true, false, Some, None, List, [], ◌∷◌}
use Rattle.sync_base.specs.declared.note.Note.TheVariants.{Interrupt, Alarm}
use Rattle.sync_base.specs.declared.note.NoteSet.{NoteSet}
use Rattle.sync_base.specs.NoteSet.{no_notes, only}
use Rattle.sleep_core.specs.History.{Effect}
use Rattle.sleep_core.specs.History.Effect.{Began, Passed, Fell, Roused, Withdrew, Left}
use Rattle.sleep_core.specs.History.Effect.{Raised, Missed, Took, Marked, Noted, Drained}

-- a sleeper of threshold 0 falls asleep in Rendez 0
abbrev pub falls_asleep : List Effect
falls_asleep = Fell 0 ∷ Began 0 0 0 ∷ []

-- Lost wakeups. The process falls asleep, and the wakeup finds nobody all the same.
abbrev pub overlooks_the_sleeper : List Effect
overlooks_the_sleeper = Missed 1 ∷ Raised 1 0 1 ∷ falls_asleep

-- the wakeup is over before the process posts itself, and its test does not see the level
abbrev pub test_misses_the_level : List Effect
test_misses_the_level = Fell 0 ∷ Began 0 0 0 ∷ Missed 1 ∷ Raised 1 0 1 ∷ []

-- another process posts itself over the sleeper, and the wakeup takes and marks that process
abbrev pub posts_over_a_sleeper : List Effect
posts_over_a_sleeper = Marked 1 2 ∷ Took 1 2 ∷ Raised 1 0 1 ∷ Began 2 0 0 ∷ falls_asleep

-- two wakeups go on at once, and the first one overlooks the sleeper
abbrev pub overlooks_among_others : List Effect
overlooks_among_others = Missed 1 ∷ Raised 2 1 0 ∷ Raised 1 0 1 ∷ falls_asleep

-- No lost wakeups: the sleeper was taken, it withdrew, or it left,
abbrev pub takes_the_sleeper : List Effect
takes_the_sleeper = Marked 1 0 ∷ Took 1 0 ∷ Raised 1 0 1 ∷ falls_asleep

abbrev pub misses_who_withdrew : List Effect
misses_who_withdrew = Missed 1 ∷ Raised 1 0 1 ∷ Withdrew 0 ∷ Noted 0 (only Interrupt) ∷ falls_asleep

abbrev pub misses_who_left : List Effect
misses_who_left = Missed 1 ∷ Raised 1 0 1 ∷ Left 0 None ∷ falls_asleep

-- it has yet to test in this sleep, though it fell in an older one,
abbrev pub misses_before_the_test : List Effect
misses_before_the_test = Missed 1 ∷ Raised 1 0 1 ∷ Began 0 0 0 ∷ Left 0 None ∷ falls_asleep

-- the level is not above its threshold, or is the level of another Rendez,
abbrev pub misses_with_a_low_level : List Effect
misses_with_a_low_level = Missed 1 ∷ Raised 1 0 0 ∷ falls_asleep

abbrev pub misses_elsewhere : List Effect
misses_elsewhere = Missed 1 ∷ Raised 1 1 1 ∷ falls_asleep

-- or the wakeup is not over: it has taken another process, which it has yet to mark
abbrev pub has_yet_to_mark : List Effect
has_yet_to_mark = Took 1 2 ∷ Raised 1 0 1 ∷ Began 2 0 0 ∷ falls_asleep

-- Wrong takes. The wakeup looks for a sleeper before it raises the level; the process falls asleep
-- in between.
abbrev pub takes_before_it_raises : List Effect
takes_before_it_raises = Raised 1 0 1 ∷ Fell 0 ∷ Began 0 0 0 ∷ Missed 1 ∷ []

-- the wakeup looks for a second sleeper, though it raised the level once
abbrev pub takes_twice_for_one_raise : List Effect
takes_twice_for_one_raise = Missed 1 ∷ Missed 1 ∷ Raised 1 0 1 ∷ []

-- it looks again though it has taken a sleeper
abbrev pub takes_again_for_one_raise : List Effect
takes_again_for_one_raise = Missed 1 ∷ Took 1 0 ∷ Raised 1 0 1 ∷ falls_asleep

-- it takes a process that is in no sleep
abbrev pub takes_an_idle_process : List Effect
takes_an_idle_process = Took 1 0 ∷ Raised 1 0 1 ∷ []

-- it takes a process that has withdrawn
abbrev pub takes_who_withdrew : List Effect
takes_who_withdrew = Took 1 0 ∷ Raised 1 0 1 ∷ Withdrew 0 ∷ Passed 0 ∷ Began 0 0 0 ∷ []

-- it takes a process whose sleep is over
abbrev pub takes_who_left : List Effect
takes_who_left = Took 1 0 ∷ Raised 1 0 1 ∷ Left 0 None ∷ Passed 0 ∷ Began 0 0 0 ∷ []

-- it leaves the sleeper posted, and another wakeup takes it too
abbrev pub takes_a_sleeper_twice : List Effect
takes_a_sleeper_twice = Took 2 0 ∷ Took 1 0 ∷ Raised 2 0 2 ∷ Raised 1 0 1 ∷ falls_asleep

-- it takes the sleeper of another Rendez
abbrev pub takes_elsewhere : List Effect
takes_elsewhere = Took 1 0 ∷ Raised 1 1 1 ∷ falls_asleep

-- Stray marks. The withdrawal fails, and the process leaves without waiting for the mark.
abbrev pub leaves_before_its_mark : List Effect
leaves_before_its_mark =
    Marked 1 0 ∷ Left 0 None ∷ Passed 0 ∷ Took 1 0 ∷ Raised 1 0 1 ∷ Began 0 0 0 ∷ []

-- the wakeup marks its sleeper twice
abbrev pub marks_twice : List Effect
marks_twice = Marked 1 0 ∷ Marked 1 0 ∷ Took 1 0 ∷ Raised 1 0 1 ∷ falls_asleep

-- it marks a process that it never took
abbrev pub marks_untaken : List Effect
marks_untaken = Marked 1 0 ∷ Raised 1 0 1 ∷ falls_asleep

-- it takes one process and marks another
abbrev pub marks_another : List Effect
marks_another = Marked 1 2 ∷ Took 1 0 ∷ Raised 1 0 1 ∷ falls_asleep

-- it marks a process that another wakeup took
abbrev pub marks_anothers_sleeper : List Effect
marks_anothers_sleeper = Marked 2 0 ∷ Took 1 0 ∷ Raised 1 0 1 ∷ falls_asleep

-- No stray marks: another wakeup of another Rendez marks and another sleep ends in between.
abbrev pub marks_among_others : List Effect
marks_among_others =
    Marked 1 0 ∷ Left 3 None ∷ Roused 3 ∷ Marked 2 3 ∷ Took 1 0 ∷ Took 2 3 ∷ Raised 1 0 1
    ∷ Raised 2 1 1 ∷ Began 3 1 0 ∷ falls_asleep

-- Wrong notes. A note comes, and the sleep ends as if none had.
abbrev pub drops_a_note : List Effect
drops_a_note = Left 0 None ∷ Withdrew 0 ∷ Passed 0 ∷ Noted 0 (only Interrupt) ∷ Began 0 0 0 ∷ []

-- one note comes, and the sleep ends with another
abbrev pub tells_another_note : List Effect
tells_another_note = Left 0 (Some (only Alarm)) ∷ Withdrew 0 ∷ Noted 0 (only Interrupt) ∷
    falls_asleep

-- no note comes, and the sleep ends with a set of none
abbrev pub is_interrupted_by_no_note : List Effect
is_interrupted_by_no_note = Left 0 (Some no_notes) ∷ Withdrew 0 ∷ falls_asleep

-- a note comes once, and two sleeps end with it
abbrev pub tells_a_note_twice : List Effect
tells_a_note_twice =
    Left 0 (Some (only Interrupt)) ∷ Withdrew 0 ∷ Passed 0 ∷ Began 0 0 0
    ∷ Left 0 (Some (only Interrupt)) ∷ Withdrew 0 ∷ Noted 0 (only Interrupt) ∷ falls_asleep

-- a note comes once, and is drained twice
abbrev pub drains_a_note_twice : List Effect
drains_a_note_twice =
    Drained 0 (only Interrupt) ∷ Drained 0 (only Interrupt) ∷ Noted 0 (only Interrupt) ∷ []

-- a note comes, and the drain takes nothing
abbrev pub drains_no_note : List Effect
drains_no_note = Drained 0 no_notes ∷ Noted 0 (only Interrupt) ∷ []

-- two notes come, and only the last is drained
abbrev pub keeps_the_last_note : List Effect
keeps_the_last_note =
    Drained 0 (only Alarm) ∷ Noted 0 (only Alarm) ∷ Noted 0 (only Interrupt) ∷ []

-- a note comes to one process, and another drains it
abbrev pub drains_anothers_note : List Effect
drains_anothers_note = Drained 0 (only Interrupt) ∷ Noted 1 (only Interrupt) ∷ []

-- another process drains its own notes, and a note is gone
abbrev pub drain_takes_anothers_note : List Effect
drain_takes_anothers_note =
    Drained 0 no_notes ∷ Drained 1 no_notes ∷ Noted 0 (only Interrupt) ∷ []

-- another process ends a sleep, and a note is gone
abbrev pub leaving_takes_anothers_note : List Effect
leaving_takes_anothers_note =
    Drained 0 no_notes ∷ Left 1 None ∷ Withdrew 1 ∷ Passed 1 ∷ Began 1 0 0
    ∷ Noted 0 (only Interrupt) ∷ []

-- Right notes: two notes come to one process among others of another, and its sleep ends with both.
abbrev pub both_notes : NoteSet
both_notes =
    record { interrupt = true; hangup = false; alarm = true; closed_pipe = false; expired = false }

abbrev pub tells_both_notes : List Effect
tells_both_notes =
    Left 0 (Some both_notes) ∷ Withdrew 0 ∷ Drained 1 (only Interrupt) ∷ Noted 0 (only Alarm)
    ∷ Noted 1 (only Interrupt) ∷ Noted 0 (only Interrupt) ∷ falls_asleep

-- Sleeps that end for no cause. The process falls asleep, and leaves with no mark and no notes.
abbrev pub leaves_for_no_cause : List Effect
leaves_for_no_cause = Left 0 None ∷ Withdrew 0 ∷ falls_asleep

-- its test passed in an older sleep
abbrev pub leaves_for_an_older_cause : List Effect
leaves_for_an_older_cause =
    Left 0 None ∷ Withdrew 0 ∷ Fell 0 ∷ Began 0 0 0
    ∷ Left 0 None ∷ Withdrew 0 ∷ Passed 0 ∷ Began 0 0 0 ∷ []

-- another process's test passed
abbrev pub leaves_for_anothers_cause : List Effect
leaves_for_anothers_cause =
    Left 0 None ∷ Withdrew 0 ∷ Passed 1 ∷ Began 1 1 0 ∷ falls_asleep

-- another process saw its mark
abbrev pub leaves_for_anothers_mark : List Effect
leaves_for_anothers_mark =
    Left 0 None ∷ Withdrew 0 ∷ Roused 1 ∷ Marked 2 1 ∷ Took 2 1 ∷ Raised 2 1 1 ∷ Began 1 1 0
    ∷ falls_asleep

-- Sleeps that end for a cause: the test passed, the look found the mark, or notes were pending.
abbrev pub leaves_as_its_test_passed : List Effect
leaves_as_its_test_passed = Left 0 None ∷ Withdrew 0 ∷ Began 1 1 0 ∷ Passed 0 ∷ Began 0 0 0 ∷ []

abbrev pub leaves_as_it_was_marked : List Effect
leaves_as_it_was_marked =
    Left 0 None ∷ Roused 0 ∷ Marked 1 0 ∷ Took 1 0 ∷ Raised 1 0 1 ∷ falls_asleep

abbrev pub leaves_as_it_was_noted : List Effect
leaves_as_it_was_noted =
    Left 0 (Some (only Interrupt)) ∷ Withdrew 0 ∷ Noted 0 (only Interrupt) ∷ falls_asleep

-- ---- The same for any processes, Rendez, thresholds, levels and notes.

-- a process falls asleep in a Rendez
abbrev pub falls_asleep_in : ℕ → ℕ → ℕ → List Effect
falls_asleep_in pid rendez threshold = Fell pid ∷ Began pid rendez threshold ∷ []

-- the wakeup of a Rendez finds nobody, after this past
abbrev pub finds_nobody_in : ℕ → ℕ → ℕ → List Effect → List Effect
finds_nobody_in raiser rendez level past = Missed raiser ∷ Raised raiser rendez level ∷ past

-- it takes a process, after this past
abbrev pub takes_in : ℕ → ℕ → ℕ → ℕ → List Effect → List Effect
takes_in raiser sleeper rendez level past = Took raiser sleeper ∷ Raised raiser rendez level ∷ past

-- notes come to a process that is asleep, and it withdraws
abbrev pub is_noted_in : ℕ → ℕ → ℕ → NoteSet → List Effect
is_noted_in pid rendez threshold set =
    Withdrew pid ∷ Noted pid set ∷ falls_asleep_in pid rendez threshold
