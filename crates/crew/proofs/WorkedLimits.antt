-- Numbers that do not lie between two others, and what is no reason to refuse a run: each against
-- one row.
use Rattle.std.proofs.Common.{arith}
use Rattle.sync_base.specs.declared.fault.Fault.TheVariants as fault
use Rattle.sync_base.specs.declared.threads_opts.ThreadsOpts.{ThreadsOpts}
use Rattle.sync_base.specs.declared.note.NoteSet.{NoteSet}
use Rattle.crew.specs.Threads.{AreWithin, IsBetween, WhyNotRun}

less_than_the_least : ¬ IsBetween 1 3 0
less_than_the_least between = let least = between.at_least in omega (arith, least)

more_than_the_most : ¬ IsBetween 1 3 4
more_than_the_most between = let most = between.at_most in omega (arith, most)

module _ (opts : ThreadsOpts) where
  options_within_are_refused : AreWithin opts → ¬ WhyNotRun opts fault.BadArg
  options_within_are_refused within why = why within

  memory_comes_before_the_options : (¬ AreWithin opts) → ¬ WhyNotRun opts fault.Memory
  memory_comes_before_the_options outside within = outside within

  a_thread_comes_before_the_options : (¬ AreWithin opts) → ¬ WhyNotRun opts fault.Device
  a_thread_comes_before_the_options outside within = outside within

  a_run_is_interrupted : (notes : NoteSet) → ¬ WhyNotRun opts (fault.Interrupted notes)
  a_run_is_interrupted notes why = why

  a_run_is_hung_up : ¬ WhyNotRun opts fault.Hungup
  a_run_is_hung_up why = why
