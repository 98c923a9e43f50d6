-- What no kernel begins with, what a roster has not left, what no rfork, sleep or wakeup answers,
-- and what no look shows: each against one row.
use Rattle.std.proofs.Common.{◌≡◌, ◌≢◌, ◌<◌, ℕ, List, [], ◌∷◌, length, inl, inr, true, false, refl}
use Rattle.std.proofs.Common.{ap, arith}
use Rattle.sync_base.specs.declared.fault.Fault.TheVariants as fault
use Rattle.sync_base.specs.declared.flags.Flags.{Flags}
use Rattle.sync_base.specs.declared.ids.RendezId.{RendezId}
use Rattle.sync_base.specs.NoteSet.{no_notes}
use Rattle.sleep_core.specs.Runs.{Entry}
use Rattle.rendez_words.specs.declared.states.Done.{Done}
use Rattle.rendez_words.specs.declared.words.Words.{Words}
use Rattle.rendez_words.specs.Process.{Process, PidsLeft, TableId}
use Rattle.rendez_words.specs.Steps.{raises}
use Rattle.rendez_words.specs.Words.{table_of, procs_of, rendez_of, IsProcessOf, ArePidsOf}
use Rattle.sleep_wakeup.specs.declared.kernel.Start.{Start}
use Rattle.sleep_wakeup.specs.declared.status.ProcStatus.{ProcStatus}
use Rattle.sleep_wakeup.specs.declared.status.RendezStatus.{RendezStatus}
use Rattle.sleep_wakeup.specs.Calls.{WhyNotSlept, Wakes, Ends}
use Rattle.sleep_wakeup.specs.Forks.{HasPid, MayFork, WhyNotForked}
use Rattle.sleep_wakeup.specs.Groups.{first_group, Membership, AreNumbers}
use Rattle.sleep_wakeup.specs.Kernel.{Running, Unused, Counts, HasSizes, HasGroup, HasRendez}
use Rattle.sleep_wakeup.specs.Kernel.{AreLeftOf, AreGroupsOf, IsRoster}
use Rattle.sleep_wakeup.specs.Starts.{IsStartOf, IsFirst, HasAllLeft}
use Rattle.sleep_wakeup.specs.Status.{AreOfProcs, AreOfRendez}

-- a process of the words with this pid and these steps
abbrev running : Words → ℕ → List Entry → Running
running words pid trace =
    record {
      words = words;
      process = record { table = table_of words; pid = pid; trace = trace };
    }

-- what is left from this pid and this Rendez on, with these groups
abbrev left : Words → ℕ → ℕ → List (List ℕ) → Unused
left words pid rendez groups =
    record {
      words = words;
      pids = record { table = table_of words; next = pid };
      rendez = rendez;
      groups = groups;
    }

abbrev flags_of : ℕ → Flags
flags_of bits = record { bits = bits }

-- ---- what a kernel begins with

module _ (words : Words) where
  the_second_is_not_the_first : ¬ IsFirst words (running words 1 [])
  the_second_is_not_the_first first = let zero_is = first.first in omega (arith, zero_is)

  the_first_has_made_no_step : (entry : Entry) → ¬ IsFirst words (running words 0 (entry ∷ []))
  the_first_has_made_no_step entry first =
      let none = ap (λ (trace : List Entry). length trace) first.unused in omega (arith, none)

  the_first_is_of_its_words : (others : Words) → others ≢ words
      → ¬ IsFirst words (running others 0 [])
  the_first_is_of_its_words others other first = other first.words_are

  the_first_is_at_the_table_of_its_words : (table : TableId) → table ≢ table_of words
      → ¬ IsFirst words
      (record { words = words; process = record { table = table; pid = 0; trace = [] } })
  the_first_is_at_the_table_of_its_words table other first = other first.table

  a_new_rosters_pids_are_at_the_table_of_its_words : (table : TableId) → table ≢ table_of words
      → ¬ HasAllLeft words
      (record (left words 1 0 first_group) { pids = record { table = table; next = 1 } })
  a_new_rosters_pids_are_at_the_table_of_its_words table other all = other all.table

  a_new_roster_gave_no_pid : ¬ HasAllLeft words (left words 2 0 first_group)
  a_new_roster_gave_no_pid all = let pids = all.pids in omega (arith, pids)

  a_new_roster_gave_no_rendez : ¬ HasAllLeft words (left words 1 1 first_group)
  a_new_roster_gave_no_rendez all = let rendez = all.rendez in omega (arith, rendez)

  a_new_roster_has_the_first_group : ¬ HasAllLeft words (left words 1 0 [])
  a_new_roster_has_the_first_group all = let groups : [] ≡ first_group = all.groups in cc

  a_new_roster_is_of_its_words : (others : Words) → others ≢ words
      → ¬ HasAllLeft words (left others 1 0 first_group)
  a_new_roster_is_of_its_words others other all = other all.words_are

  words_of_more_processes : procs_of words ≢ 3 → ¬ HasSizes words 3 2
  words_of_more_processes more sizes = more sizes.procs_are

  words_of_more_rendez : rendez_of words ≢ 2 → ¬ HasSizes words 3 2
  words_of_more_rendez more sizes = more sizes.rendez_are

  -- ---- what is left

  no_rendez_is_left : ¬ HasRendez (left words 1 (rendez_of words) first_group) 1
  no_rendez_is_left has = omega (arith, has)

  who_is_in_no_group : ¬ HasGroup (left words 1 0 []) 0
  who_is_in_no_group has = omega (arith, has)

  no_pid_is_left : ¬ HasPid (left words (procs_of words) 0 first_group)
  no_pid_is_left has = omega (arith, has)

  -- RFPROC is 1, and RFNOTEG is 4
  no_child_without_a_pid : ¬ MayFork (left words (procs_of words) 0 first_group) (flags_of 1)
  no_child_without_a_pid (inl none) = let nobody : true ≡ false = none.nobody in cc
  no_child_without_a_pid (inr may) = no_pid_is_left may.1

-- ---- what is no start, and no roster of these words

module _ (words : Words) (start : Start) where
  a_start_has_the_first_process : start.seat.pid ≢ 0 → ¬ IsStartOf words start
  a_start_has_the_first_process other of_it = other of_it.first

  it_is_of_the_words : ¬ IsProcessOf words start.seat → ¬ IsStartOf words start
  it_is_of_the_words other of_it = other of_it.process

  it_has_made_no_step : start.seat.trace ≢ [] → ¬ IsStartOf words start
  it_has_made_no_step other of_it = other of_it.unused

  the_pids_are_of_the_words : ¬ ArePidsOf words start.pids → ¬ IsStartOf words start
  the_pids_are_of_the_words other of_it = other of_it.pids

  the_next_pid_is_1 : start.pids.next ≢ 1 → ¬ IsStartOf words start
  the_next_pid_is_1 other of_it = other of_it.next

  there_is_one_group : start.groups.groups ≢ first_group → ¬ IsStartOf words start
  there_is_one_group other of_it = other of_it.groups

  one_pid_was_given : start.groups.given ≢ 1 → ¬ IsStartOf words start
  one_pid_was_given other of_it = other of_it.given

  there_is_room_for_all : start.groups.room ≢ procs_of words → ¬ IsStartOf words start
  there_is_room_for_all other of_it = other of_it.room

module _ (words : Words) (pids : PidsLeft) (own : Membership) (counts : Counts) where
  a_count_of_another_pid : pids.next ≢ counts.next_pid → ¬ AreLeftOf words pids counts
  a_count_of_another_pid other left_of = other left_of.next_is

  a_count_past_the_last_rendez : rendez_of words < counts.next_rendez
      → ¬ AreLeftOf words pids counts
  a_count_past_the_last_rendez past left_of =
      let in_it = left_of.rendez_in in omega (arith, past, in_it)

  a_count_of_other_sizes : procs_of words ≢ counts.procs → ¬ AreLeftOf words pids counts
  a_count_of_other_sizes other left_of = other left_of.sizes.procs_are

  groups_of_other_pids : own.given ≢ counts.next_pid → ¬ AreGroupsOf own counts
  groups_of_other_pids other groups_of = other groups_of.given_is

  groups_with_other_room : own.room ≢ counts.procs → ¬ AreGroupsOf own counts
  groups_with_other_room other groups_of = other groups_of.room_is

  a_roster_with_other_pids_left : ¬ AreLeftOf words pids counts → ¬ IsRoster words pids own counts
  a_roster_with_other_pids_left other roster = other roster.left_is

  a_roster_with_other_groups : ¬ AreGroupsOf own counts → ¬ IsRoster words pids own counts
  a_roster_with_other_groups other roster = other roster.groups_are

-- a kernel gave its first pid
no_pid_was_given : ¬ AreNumbers [] 0 0
no_pid_was_given numbers = let some = numbers.some in omega (arith, some)

-- ---- what is no reason

module _ (unused : Unused) where
  known_flags_are_no_reason : ¬ WhyNotForked unused (flags_of 4) fault.BadFlags
  known_flags_are_no_reason why = why (record { known = omega arith; no_space = refl })

  a_pid_that_is_left_is_no_reason : HasPid unused → ¬ WhyNotForked unused (flags_of 1) fault.NoProc
  a_pid_that_is_left_is_no_reason has why = why.1 has

  no_rfork_is_refused_for_memory : ¬ WhyNotForked unused (flags_of 1) fault.Memory
  no_rfork_is_refused_for_memory why = why

module _ (words : Words) (before after : Process) (rendez : RendezId) where
  no_notes_end_no_sleep : ¬ WhyNotSlept words before rendez 0 after (fault.Interrupted no_notes)
  no_notes_end_no_sleep why = why.1 refl

  no_sleep_is_refused_for_memory : ¬ WhyNotSlept words before rendez 0 after fault.Memory
  no_sleep_is_refused_for_memory why = why

  -- ---- wakeups

  a_receipt_of_another_rendez : (done : Done) → done.rendez ≢ rendez
      → ¬ Wakes before rendez 5 after done
  a_receipt_of_another_rendez done other wakes = other wakes.rendez_is

  a_receipt_of_another_level : (done : Done) → done.level ≢ 5 → ¬ Wakes before rendez 5 after done
  a_receipt_of_another_level done other wakes = other wakes.level_is

  a_wakeup_makes_steps : (done : Done) → ¬ Wakes before rendez 5 before done
  a_wakeup_makes_steps done wakes = steps wakes.ends
    where
      steps : ¬ Ends (raises before rendez 5) before
      steps (inl nobody) =
          let longer = ap (λ (it : Process). length it.trace) nobody in omega (arith, longer)
      steps (inr (sleeper, taken)) =
          let longer = ap (λ (it : Process). length it.trace) taken in omega (arith, longer)

-- ---- looks

module _ (proc : ProcStatus) (rendez : RendezStatus) where
  a_process_in_anothers_place : proc.pid.0 ≢ 0 → ¬ AreOfProcs (proc ∷ [])
  a_process_in_anothers_place other all = other (all 0 proc (omega arith))

  a_rendez_in_anothers_place : rendez.rendez.0 ≢ 0 → ¬ AreOfRendez (rendez ∷ [])
  a_rendez_in_anothers_place other all = other (all 0 rendez (omega arith))
