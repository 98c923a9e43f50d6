-- What a run on threads is asked for, and what it reports.
use Rattle.std.specs.Prelude.{◌≡◌, ◌≤◌, ◌*◌, ℕ, Bool, true, false, List, [], ◌∷◌}
use Rattle.sync_base.specs.declared.limits.TheConstants.{MAX_WRITERS}
use Rattle.sync_base.specs.declared.limits.TheConstants.{LEAST_SIZE, MOST_SIZE, MAX_WRITES}
use Rattle.sync_base.specs.declared.fault.Fault.{Fault}
use Rattle.sync_base.specs.declared.fault.Fault.TheVariants as fault
use Rattle.sync_base.specs.declared.threads_opts.ThreadsOpts.{ThreadsOpts}
use Rattle.block_queue.specs.declared.entry.Entry.{Entry}
use Rattle.block_queue.specs.declared.entry.Entry.TheVariants.{End, Hung}
use Rattle.crew.specs.declared.opts.Report.{Report}

-- a number is between two others, or one of them
pub record IsBetween (least most n : ℕ) : Type 0 where
  pub at_least : least ≤ n
  pub at_most : n ≤ most

-- what may be asked for
pub record AreWithin (opts : ThreadsOpts) : Type 0 where
  pub writers : IsBetween 1 MAX_WRITERS opts.writers
  pub writes : IsBetween 1 MAX_WRITES opts.writes
  pub size : IsBetween LEAST_SIZE MOST_SIZE opts.size

-- Own: why a run is refused. The options are tested first.
abbrev pub WhyNotRun : ThreadsOpts → Fault → Type 0
WhyNotRun opts fault.BadArg = ¬ AreWithin opts
WhyNotRun opts fault.Memory = AreWithin opts
WhyNotRun opts fault.Device = AreWithin opts
WhyNotRun opts other = ⊥

-- What a run with these options may report: how many writers there were and, where all was in
-- order, just the bytes of the messages that it counts, no more than the writers have together.
pub record IsReportOf (opts : ThreadsOpts) (report : Report) : Type 0 where
  pub writers : report.writers ≡ opts.writers
  pub whole : report.in_order ≡ true → report.bytes ≡ report.writes * opts.size
  pub most : report.in_order ≡ true → report.writes ≤ opts.writers * opts.writes

-- the newest entry that a reader has seen is its own, that nothing more will come
abbrev pub is_at_end : List Entry → Bool
is_at_end [] = false
is_at_end (End ∷ past) = true
is_at_end (other ∷ past) = false

-- the newest entry that a writer has seen is a hangup
abbrev pub is_hung : List Entry → Bool
is_hung [] = false
is_hung (Hung seat ∷ past) = true
is_hung (other ∷ past) = false
