-- States of the words, and what the seats know of them, that the rule does not allow, each for a
-- reason of its own; and a state that it allows. The laws cite them.
use Rattle.std.specs.Prelude.{ℕ, List, [], ◌∷◌, ◌++◌, flat_map}
use Rattle.atomic_table.specs.Table as table
use Rattle.sync_base.specs.declared.ids.Pid.{Pid}
use Rattle.sync_base.specs.declared.ids.RendezId.{RendezId}
use Rattle.sleep_core.specs.declared.event.Event.{Event}
use Rattle.sleep_core.specs.declared.event.Event.TheVariants.{Post, Test, Raise, Take}
use Rattle.sleep_core.specs.declared.answer.Answer.{Answer}
use Rattle.sleep_core.specs.declared.answer.Answer.TheVariants as answer
use Rattle.sleep_core.specs.Runs.{Entry}
use Rattle.rendez_words.specs.declared.view.Part.{Part}
use Rattle.rendez_words.specs.declared.view.Sizes.{Sizes}
use Rattle.rendez_words.specs.declared.view.View.{View}
use Rattle.rendez_words.specs.declared.view.View.TheVariants as view
use Rattle.rendez_words.specs.Rule.{line}

abbrev pub Shown : Type 0
Shown = table.State (Unit {0}) View

-- this many processes, and one Rendez
abbrev pub with_procs : ℕ → Sizes
with_procs procs = record { procs = procs; rendez = 1 }

-- who is posted, the level, and the flags of each process; and what each seat knows
abbrev pub shown : ℕ → ℕ → List ℕ → List View → Shown
shown posted level flags views =
    record {
      words = line (posted ∷ level ∷ []) ++ flat_map (λ word. line (word ∷ [])) flags;
      homes = [];
      views = views;
    }

abbrev pub process : ℕ → Pid
process pid = record { 0 = pid }

abbrev pub the_rendez : RendezId
the_rendez = record { 0 = 0 }

abbrev pub step : ℕ → Event → Answer → Entry
step pid event told = record { maker = pid; event = event; answer = told }

-- a process with these steps
abbrev pub part : ℕ → List Entry → Part
part pid trace = record { pid = pid; trace = trace }

-- its seat
abbrev pub known : ℕ → List Entry → View
known pid trace = view.Process (part pid trace)

-- process 0 has posted itself with the threshold 0, and then fell asleep
abbrev pub has_posted : List Entry
has_posted = step 0 (Post (process 0) the_rendez 0) answer.Posted ∷ []

abbrev pub fell_asleep : List Entry
fell_asleep = step 0 (Test (process 0)) answer.Asleep ∷ has_posted

-- process 1 has raised the level to 1, and then found nobody
abbrev pub has_raised : List Entry
has_raised = step 1 (Raise (process 1) the_rendez 1) answer.Owing ∷ []

abbrev pub found_nobody : List Entry
found_nobody = step 1 (Take (process 1)) answer.Nobody ∷ has_raised

-- A wakeup above the threshold of a sleeper has returned, and the sleeper is still posted.
abbrev pub wakeup_is_lost : Shown
wakeup_is_lost =
    shown 1 1 (0 ∷ 0 ∷ []) (known 0 fell_asleep ∷ known 1 found_nobody ∷ [])

-- a process has posted itself, and is in no posted word
abbrev pub sleeper_is_nowhere : Shown
sleeper_is_nowhere = shown 0 0 (0 ∷ []) (known 0 has_posted ∷ [])

-- a process in no sleep is marked
abbrev pub mark_is_stray : Shown
mark_is_stray = shown 0 0 (1 ∷ []) (known 0 [] ∷ [])

-- process 1 of 1 is posted
abbrev pub stranger_is_posted : Shown
stranger_is_posted = shown 2 0 (0 ∷ []) []

-- and has a seat
abbrev pub stranger_has_a_seat : Shown
stranger_has_a_seat = shown 0 0 (0 ∷ []) (known 1 [] ∷ [])

-- a process has two seats
abbrev pub process_has_two_seats : Shown
process_has_two_seats = shown 0 0 (0 ∷ []) (known 0 [] ∷ known 0 [] ∷ [])

-- a process to come has a seat
abbrev pub process_to_come_has_a_seat : Shown
process_to_come_has_a_seat = shown 0 0 (0 ∷ []) (view.Pids 0 ∷ known 0 [] ∷ [])

-- a process to come is posted
abbrev pub process_to_come_is_posted : Shown
process_to_come_is_posted = shown 1 0 (0 ∷ []) (view.Pids 0 ∷ [])

-- a process is joined with itself
abbrev pub process_is_joined_with_itself : Shown
process_is_joined_with_itself = shown 0 0 (0 ∷ []) (view.Joined (part 0 []) (part 0 []) ∷ [])

-- The rule allows the state between the raise and the take: the sleeper is posted below the level.
abbrev pub wakeup_goes_on : Shown
wakeup_goes_on = shown 1 1 (0 ∷ 0 ∷ []) (known 0 fell_asleep ∷ known 1 has_raised ∷ [])
