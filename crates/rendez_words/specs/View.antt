-- What the seats of the table know.
use Rattle.std.specs.Prelude.{ℕ, ◌+◌, ◌*◌, []}
use Rattle.rendez_words.specs.declared.view.Part.{Part}
use Rattle.rendez_words.specs.declared.view.Sizes.{Sizes}
use Rattle.rendez_words.specs.declared.view.View.{View}
use Rattle.rendez_words.specs.declared.view.View.TheVariants as view
use Rattle.sync_base.specs.declared.line.TheConstants.{LINE}

-- how many words there are: a line for each Rendez, and one for each process
abbrev pub word_count : Sizes → ℕ
word_count sizes = LINE * (sizes.rendez + sizes.procs)

-- a process that has made no step
abbrev pub unused_part : ℕ → Part
unused_part pid = record { pid = pid; trace = [] }

-- no pid was given
abbrev pub first_view : Sizes → View
first_view sizes = view.Pids 0

-- the part of a process's seat; other seats have none
abbrev pub part_in : View → Part
part_in (view.Process part) = part
part_in other = unused_part 0

-- the parts of a joined seat
abbrev pub sleeper_in : View → Part
sleeper_in (view.Joined sleeper raiser) = sleeper
sleeper_in other = unused_part 0

abbrev pub raiser_in : View → Part
raiser_in (view.Joined sleeper raiser) = raiser
raiser_in other = unused_part 0

-- the first pid not yet given
abbrev pub next_in : View → ℕ
next_in (view.Pids next) = next
next_in other = 0

-- one more pid was given
abbrev pub one_less_view : View → View
one_less_view before = view.Pids (next_in before + 1)

-- and this is its seat
abbrev pub given_view : View → View
given_view before = view.Process (unused_part (next_in before))

abbrev pub joined_view : View → View → View
joined_view sleeper raiser = view.Joined (part_in sleeper) (part_in raiser)

-- a joined seat is cut into the two seats that it was
abbrev pub sleeper_view : View → View
sleeper_view joined = view.Process (sleeper_in joined)

abbrev pub raiser_view : View → View
raiser_view joined = view.Process (raiser_in joined)
