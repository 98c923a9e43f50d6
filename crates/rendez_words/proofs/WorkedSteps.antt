-- What a step asks and what it tells, which words the rule has, and what the laws forbid: each
-- against the rows that it names.
use Rattle.std.proofs.Common.{◌≡◌, ◌≢◌, ◌<◌, ◌≤◌, ℕ, List, [], arith, ap, ◌∙◌}
use mathlib.Core.Option.{some}
use lib.ListN.{get_elem?}
use Rattle.atomic_table.specs.Table as table
use Rattle.sleep_core.specs.declared.event.Event.{Event}
use Rattle.sleep_core.specs.declared.event.Event.TheVariants.{Look}
use Rattle.sleep_core.specs.declared.phase.Phase.{Phase}
use Rattle.sleep_core.specs.declared.phase.Phase.TheVariants as phase
use Rattle.sleep_core.specs.declared.phase.ProcFlags.{ProcFlags}
use Rattle.sleep_core.specs.History.{history_of}
use Rattle.sleep_core.specs.Promises.{LosesWakeup, EachSleepIsCaused}
use Rattle.sleep_core.specs.EventTable.{word_after}
use Rattle.sleep_core.specs.Runs.{Entry, IsMadeBy, IsRun, world_of, own, kept}
use Rattle.sleep_core.specs.State.{State, phase_of, posted_of, level_of, returned_of, posted_as}
use Rattle.sleep_core.specs.Step.{word_at, answer_to}
use Rattle.sleep_core.specs.Table.{Word, pid_of, cell_of, reply}
use Rattle.sleep_core.specs.Table.Cell.{PostedOf, LevelOf, FlagsOf, NoCell}
use Rattle.sleep_core.specs.Table.Word.{Flags}
use Rattle.sleep_core.specs.SleepPlaces.{IsInSleep, IsInOnePlace}
use Rattle.sleep_core.specs.SleepPlaces.Place.{IsPostedIn}
use Rattle.rendez_words.specs.declared.view.Part.{Part}
use Rattle.rendez_words.specs.declared.view.Sizes.{Sizes}
use Rattle.rendez_words.specs.declared.view.View.{View}
use Rattle.rendez_words.specs.declared.view.View.TheVariants as view
use Rattle.rendez_words.specs.Laws.{KeepsPromises, AreInPlaces}
use Rattle.rendez_words.specs.Plays.{Seated, IsStage, IsWordOf, IsCellIn, IsStep, HasMade}
use Rattle.rendez_words.specs.Plays.{HasStepped, HasMadeWhereEmpty, HasChecked}
use Rattle.rendez_words.specs.Plays.{number_of, part_after}
use Rattle.rendez_words.specs.Process.{IsOfRun}
use Rattle.rendez_words.specs.Rule.{ShowsCore, Fits, IsSeated, AreSeated, IsUnused}
use Rattle.rendez_words.specs.Rule.{index_of, words_of}
use Rattle.rendez_words.specs.View.{part_in, sleeper_in, raiser_in}

-- ---- where an event is made

who_made_no_step_looks_in_no_sleep : ¬ IsStage [] (Look (record { 0 = 1 })) phase.Woken
who_made_no_step_looks_in_no_sleep is = let no : phase.Woken ≡ phase.Idle = is in cc

no_flags_lie_at_a_level : (flags : ProcFlags) → ¬ IsWordOf (LevelOf 0) (Flags flags)
no_flags_lie_at_a_level flags is = is

-- of three processes and two Rendez
abbrev three_and_two : Sizes
three_and_two = record { procs = 3; rendez = 2 }

nobody_is_posted_in_a_third_rendez : ¬ IsCellIn three_and_two (PostedOf 2)
nobody_is_posted_in_a_third_rendez in_it = omega (arith, in_it)

a_third_rendez_has_no_level : ¬ IsCellIn three_and_two (LevelOf 2)
a_third_rendez_has_no_level in_it = omega (arith, in_it)

a_fourth_process_has_no_flags : ¬ IsCellIn three_and_two (FlagsOf 3)
a_fourth_process_has_no_flags in_it = omega (arith, in_it)

no_cell_is_there : ¬ IsCellIn three_and_two NoCell
no_cell_is_there in_it = in_it

-- ---- what a step asks

module _ (sizes : Sizes) (event : Event) (part : Part) (word : ℕ) (does : ℕ → ℕ)
    (step : IsStep sizes event part word does) where
  it_is_by_its_process : IsMadeBy part.pid event × ((pid_of event).0 < sizes.procs)
  it_is_by_its_process = (step.maker_is, step.pid_in)

  it_is_made_on_the_word_of_its_cell : (stage : Phase) → IsStage part.trace event stage
      → (cell_of event stage ≡ step.cell) × IsCellIn sizes step.cell
      × (word ≡ index_of sizes step.cell)
  it_is_made_on_the_word_of_its_cell stage is = (step.cell_is stage is, step.cell_in, step.word_is)

  it_leaves_there_what_its_event_does : (stage : Phase) → IsStage part.trace event stage
      → (found : Word) → IsWordOf step.cell found
      → does (number_of found) ≡ number_of (word_after event stage found)
  it_leaves_there_what_its_event_does = step.does_is

-- ---- what it tells

module _ (sizes : Sizes) (event : Event) (found : ℕ) where
  module _ (before after : Part) (made : HasMade sizes event before found after) where
    it_was_found_in_its_cell : IsStage before.trace event made.stage
        × IsWordOf (cell_of event made.stage) made.word × (found ≡ number_of made.word)
    it_was_found_in_its_cell = (made.in_stage, made.word_is, made.found_is)

    the_table_answers_what_was_found :
        (after ≡ part_after event (reply event made.stage made.word) before)
        × IsOfRun sizes.procs sizes.rendez after.pid after.trace
    the_table_answers_what_was_found = (made.after_is, made.run)

  module _ (before after : Seated) where
    who_stepped_holds_nothing : HasStepped sizes event before found after
        → HasMade sizes event (part_in before.0) found (part_in after.0)
        × (after ≡ (view.Process (part_in after.0), []))
    who_stepped_holds_nothing stepped = (stepped.made, stepped.seat)

    it_is_made_where_its_word_is_empty : HasMadeWhereEmpty sizes event before found after
        → found ≡ 0
        → HasMade sizes event (part_in before.0) 0 (part_in after.0)
        × (after ≡ (view.Process (part_in after.0), []))
    it_is_made_where_its_word_is_empty told empty = (told.made empty, told.seat)

    else_nothing_is_made : HasMadeWhereEmpty sizes event before found after → found ≢ 0
        → after ≡ before
    else_nothing_is_made told = told.same

    module _ (checked : HasChecked sizes event before found after) where
      abbrev world : State
      world = world_of sizes.procs sizes.rendez checked.run

      a_check_is_in_a_run_of_both : IsRun sizes.procs sizes.rendez checked.run
          × ((sleeper_in before.0).trace ≡ kept (own (sleeper_in before.0).pid checked.run))
          × ((raiser_in before.0).trace ≡ kept (own (raiser_in before.0).pid checked.run))
      a_check_is_in_a_run_of_both = (checked.legal, checked.sleeper_is, checked.raiser_is)

      it_tells_what_lies_in_its_cell_there :
          (found ≡ number_of (word_at world (cell_of event checked.stage)))
          × (answer_to world event ≡ reply event checked.stage checked.word)
      it_tells_what_lies_in_its_cell_there =
          (checked.found_is ∙ ap number_of checked.read, checked.answered)

      it_changes_nothing : IsStage (sleeper_in before.0).trace event checked.stage
          × IsWordOf (cell_of event checked.stage) checked.word × (after ≡ before)
      it_changes_nothing = (checked.in_stage, checked.word_is, checked.same)

-- the steps of a process are those that some run has of it
steps_of_a_run : (pid : ℕ) (trace : List Entry) (of_run : IsOfRun 3 2 pid trace)
    → IsRun 3 2 of_run.run × (trace ≡ kept (own pid of_run.run))
steps_of_a_run pid trace of_run = (of_run.legal, of_run.trace_is)

-- ---- the rule

module _ (procs : ℕ) (run : List Entry) (owner : ℕ → ℕ) (seat : ℕ) where
  a_seat_has_all_steps_of_its_process : (part : Part) → IsSeated procs run owner seat part
      → (part.pid < procs) × (owner part.pid ≡ seat) × (part.trace ≡ kept (own part.pid run))
  a_seat_has_all_steps_of_its_process part is = (is.pid_in, is.owner_is, is.trace_is)

  who_is_to_come_made_no_step : (next pid : ℕ) → next ≤ pid
      → Fits procs run owner seat (view.Pids next) → (owner pid ≡ seat) × (own pid run ≡ [])
  who_is_to_come_made_no_step next pid above fits =
      let unused : IsUnused run owner seat pid = fits pid above in (unused.owner_is, unused.none)

  a_joined_seat_has_two : (part other : Part) → Fits procs run owner seat (view.Joined part other)
      → IsSeated procs run owner seat part
      × IsSeated procs run owner seat other × (part.pid ≢ other.pid)
  a_joined_seat_has_two part other fits =
      let both : AreSeated procs run owner seat part other = fits in
      (both.first, both.second, both.differ)

module _ (sizes : Sizes) (s : table.State (Unit {0}) View) (shows : ShowsCore sizes s) where
  the_words_are_those_of_a_run : IsRun sizes.procs sizes.rendez shows.run
      × (s.words ≡ words_of (world_of sizes.procs sizes.rendez shows.run))
  the_words_are_those_of_a_run = (shows.legal, shows.words)

  each_seat_knows_its_process : (seat : ℕ) (part : Part)
      → get_elem? s.views seat ≡ some (view.Process part)
      → IsSeated sizes.procs shows.run shows.owner seat part
  each_seat_knows_its_process seat part is = shows.each_seat seat (view.Process part) is

  -- ---- the laws

  threads_lose_no_wakeup : KeepsPromises sizes s shows
      → ¬ LosesWakeup (history_of shows.run) × EachSleepIsCaused (history_of shows.run)
  threads_lose_no_wakeup keeps = (keeps.kept.none_lost, keeps.caused)

module _ (state : State) (places : AreInPlaces state) (pid : ℕ) where
  a_sleeper_is_in_one_place : IsInSleep (phase_of state pid) → IsInOnePlace state pid
  a_sleeper_is_in_one_place = places.sleepers pid

  who_does_not_sleep_is_not_posted : ¬ IsInSleep (phase_of state pid) → (rendez : ℕ)
      → posted_of state rendez ≢ posted_as pid
  who_does_not_sleep_is_not_posted awake rendez = places.others pid awake (IsPostedIn rendez)

  a_returned_level_was_raised : (rendez : ℕ) → returned_of state rendez ≤ level_of state rendez
  a_returned_level_was_raised = places.words.returned
