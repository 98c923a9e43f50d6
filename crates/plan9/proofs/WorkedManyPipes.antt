-- What are no new pipes, no ends of them, and no reason to refuse them: each against one row of
-- what `Pipes` says.
use Rattle.std.proofs.Common.{◌≡◌, ◌≢◌, ◌≤◌, ◌<◌, ◌+◌, ℕ, [], ◌∷◌, length, suc, arith, refl}
use Rattle.std.specs.Vec.{vec_capacity}
use Rattle.sync_base.specs.declared.fault.Fault.TheVariants as fault
use Rattle.sync_base.specs.declared.mode.Mode.TheVariants.{Message}
use Rattle.rendez_words.specs.Words.{rendez_of}
use Rattle.rendez_words.specs.declared.words.Words.{Words}
use Rattle.sleep_wakeup.specs.Kernel.{Unused, rendez_less}
use Rattle.block_queue.specs.Opening.{IsBadQueue}
use Rattle.pipe_dev.specs.declared.end.Ends.{Ends}
use Rattle.pipe_dev.specs.declared.pipe.Opened.{Opened}
use Rattle.pipe_dev.specs.declared.pipe.Pipe.{Pipe}
use Rattle.pipe_dev.specs.declared.pipe.PipeStart.{PipeStart}
use Rattle.pipe_dev.specs.Openings.{AreNewEnds, IsStartOf, OpensIn, OwnsRows, rendez_for}
use Rattle.plan9.specs.declared.pipes.OpenedPipes.{OpenedPipes}
use Rattle.plan9.specs.declared.pipes.Pipes.{Pipes}
use Rattle.plan9.specs.declared.pipes.PipesStart.{PipesStart}
use Rattle.plan9.specs.Pipes.{AreAllEnds, AreEndsOf, AreNewFrom, AreNewPipes, AreStartsOf}
use Rattle.plan9.specs.Pipes.{HaveRoom, IsNewPipe, MayOpen, Size, StartEach, StopsOpening, size}
use Rattle.plan9.specs.Pipes.{WhyNoPipes, rendez_for_all}

-- ---- one of them

module _ (size : Size) (words : Words) (first : ℕ) (opened : Opened) where
  a_pipe_of_another_size : ¬ OpensIn size.mode size.limit size.writers first opened
      → ¬ IsNewPipe size words first opened
  a_pipe_of_another_size other new = other new.opens

  a_pipe_with_the_start_of_another : ¬ IsStartOf opened.pipe opened.start
      → ¬ IsNewPipe size words first opened
  a_pipe_with_the_start_of_another other new = other new.start_is

  a_pipe_of_another_kernel : ¬ OwnsRows words opened → ¬ IsNewPipe size words first opened
  a_pipe_of_another_kernel other new = other new.rows

-- ---- all of them

-- one writer in a direction: two pipes take the Rendez of two readers and two writers each
two_pipes_of_one_writer : rendez_for_all 2 (size Message 1 1) ≡ 8
two_pipes_of_one_writer = refl

module _ (size : Size) (words : Words) (pipe other : Pipe) (start : PipeStart) where
  -- the second has the Rendez of the first, or has no start
  two_pipes_at_the_same_rendez : (next : PipeStart)
      → ¬ IsNewPipe size words (3 + rendez_for size.writers) (record { pipe = other; start = next })
      → ¬ AreNewFrom size words 3 (pipe ∷ other ∷ []) (start ∷ next ∷ [])
  two_pipes_at_the_same_rendez next wrong (first, behind) = wrong behind.0

  a_pipe_with_no_start : ¬ AreNewFrom size words 3 (pipe ∷ other ∷ []) (start ∷ [])
  a_pipe_with_no_start (first, none) = none

  the_start_of_another : ¬ IsStartOf pipe start → ¬ StartEach (pipe ∷ []) (start ∷ [])
  the_start_of_another wrong (one, none) = wrong one

  a_start_of_no_pipe : ¬ StartEach [] (start ∷ [])
  a_start_of_no_pipe none = none

module _ (pipes : Pipes) (start : PipesStart) where
  starts_of_others : ¬ StartEach pipes.pipes.items start.starts.items
      → ¬ AreStartsOf pipes start
  starts_of_others wrong are = wrong are.each

  ends_are_there_before : start.room.items ≢ [] → ¬ AreStartsOf pipes start
  ends_are_there_before some are = some are.none

  no_room_for_the_ends : vec_capacity start.room < length start.starts.items
      → ¬ AreStartsOf pipes start
  no_room_for_the_ends less are = let room = are.room in omega (arith, less, room)

module _ (count : ℕ) (opened : OpenedPipes) where
  a_pipe_before_the_first : opened.pipes.pipes.items ≢ [] → ¬ HaveRoom count opened
  a_pipe_before_the_first some room = some room.no_pipes

  no_room_for_the_pipes : vec_capacity opened.pipes.pipes < count → ¬ HaveRoom count opened
  no_room_for_the_pipes less room = let has = room.pipes in omega (arith, less, has)

module _ (count : ℕ) (size : Size) (before after : Unused) (opened : OpenedPipes) where
  -- they are made though no pipe has this size, or though too few Rendez are left
  made_of_a_bad_size : IsBadQueue size.limit size.writers
      → ¬ AreNewPipes count size before after opened
  made_of_a_bad_size bad new = new.may.size_is bad

  made_of_too_few_rendez : rendez_of before.words < before.rendez + rendez_for_all count size
      → ¬ AreNewPipes count size before after opened
  made_of_too_few_rendez few new = let enough = new.may.rendez in omega (arith, few, enough)

  -- one is lost or too many, not new, or starts are those of others; or Rendez are used up beside
  one_is_lost : length opened.pipes.pipes.items < count
      → ¬ AreNewPipes count size before after opened
  one_is_lost fewer new = let all = new.count_is in omega (arith, fewer, all)

  one_is_not_new : ¬ AreNewFrom size before.words before.rendez opened.pipes.pipes.items
      opened.start.starts.items → ¬ AreNewPipes count size before after opened
  one_is_not_new old new = old new.new

  a_start_is_of_another : ¬ AreStartsOf opened.pipes opened.start
      → ¬ AreNewPipes count size before after opened
  a_start_is_of_another other new = other new.start_is

  a_rendez_is_burnt : after ≢ rendez_less (rendez_for_all count size) before
      → ¬ AreNewPipes count size before after opened
  a_rendez_is_burnt other new = other new.given

-- ---- or none

module _ (count : ℕ) (size : Size) (before after : Unused) where
  -- all were made, and none is given
  all_are_thrown_away : (stops : StopsOpening (suc count) size before after)
      → stops.made ≡ suc count → ⊥
  all_are_thrown_away stops all = let fewer = stops.fewer in omega (arith, fewer, all)

  -- Rendez are used up of no pipe
  more_is_used_up : ((made : ℕ) → after ≢ rendez_less (rendez_for_all made size) before)
      → ¬ StopsOpening count size before after
  more_is_used_up other stops = other stops.made stops.used

  stopped_though_it_may_not_begin : ¬ MayOpen count size before
      → ¬ StopsOpening count size before after
  stopped_though_it_may_not_begin never stops = never stops.may

  -- a good size is refused, or a bad one uses Rendez up
  a_good_size_is_bad : ¬ IsBadQueue size.limit size.writers
      → ¬ WhyNoPipes count size before after fault.BadSize
  a_good_size_is_bad good (bad, same) = good bad

  a_bad_size_costs_rendez : after ≢ before → ¬ WhyNoPipes count size before after fault.BadSize
  a_bad_size_costs_rendez other (bad, same) = other same

  -- too few Rendez are told before a bad size, or though enough are left, or some are used up
  rendez_before_sizes : IsBadQueue size.limit size.writers
      → ¬ WhyNoPipes count size before after fault.NoRendez
  rendez_before_sizes bad (good, few, same) = good bad

  enough_are_too_few : before.rendez + rendez_for_all count size ≤ rendez_of before.words
      → ¬ WhyNoPipes count size before after fault.NoRendez
  enough_are_too_few enough (good, few, same) = few enough

  too_few_are_used_up : after ≢ before → ¬ WhyNoPipes count size before after fault.NoRendez
  too_few_are_used_up other (good, few, same) = other same

  refused_as_no_memory : ¬ StopsOpening count size before after
      → ¬ WhyNoPipes count size before after fault.Memory
  refused_as_no_memory never why = never why

  refused_for_a_pid : ¬ WhyNoPipes count size before after fault.NoProc
  refused_for_a_pid why = why

-- ---- their ends

module _ (pipe : Pipe) (start : PipeStart) (ends : Ends) where
  what_is_written_is_read_elsewhere :
      ¬ AreNewEnds pipe.there start.there.row ends.first.read ends.second.writes.items
      → ¬ AreEndsOf pipe start ends
  what_is_written_is_read_elsewhere other are = other are.there

  and_back_elsewhere :
      ¬ AreNewEnds pipe.back start.back.row ends.second.read ends.first.writes.items
      → ¬ AreEndsOf pipe start ends
  and_back_elsewhere other are = other are.back

  ends_of_another_pipe : ¬ AreEndsOf pipe start ends
      → ¬ AreAllEnds (pipe ∷ []) (start ∷ []) (ends ∷ [])
  ends_of_another_pipe wrong (one, none) = wrong one

  ends_are_left_out : ¬ AreAllEnds (pipe ∷ []) (start ∷ []) []
  ends_are_left_out none = none

  ends_of_no_pipe : ¬ AreAllEnds [] [] (ends ∷ [])
  ends_of_no_pipe none = none
