-- What a reader knows of what it counted.
use Rattle.std.proofs.Common.{◌∙◌}
use Rattle.sync_base.specs.declared.threads_opts.ThreadsOpts.{ThreadsOpts}
use Rattle.crew.specs.declared.tally.Tally.{Tally}
use Rattle.crew.specs.Tally.{AreOfOneRun, IsTallyOf}

-- what counts for the same run counts by the same options
pub still_of : (opts : ThreadsOpts) (old new : Tally) → IsTallyOf opts old → AreOfOneRun old new
    → IsTallyOf opts new
still_of opts old new is same =
    record {
      most = same.most ∙ is.most;
      writers = same.writers ∙ is.writers;
      each = same.each ∙ is.each;
      size = same.size ∙ is.size;
    }
