-- The number is the only word of the line, or the line is no read.
use Rattle.std.proofs.Common.{[], ◌∷◌, ap, refl}
use Rattle.std.specs.Option.{option_map}
use Rattle.scripts.specs.PipeScript.{Reads, read_of}
use Rattle.scripts.proofs.OnePassLemmas.{ends_line, none_before_line_feed}
use Rattle.scripts.proofs.PipeLineLemmas.{read_of-wrong}
use Rattle.scripts.proofs.pipe_line.read_at.Goals as goal

pub returns-in_err-most : goal.returns-in_err-most
returns-in_err-most c =
    rw c.from_residual.ensures
    (none_before_line_feed read_of _ c.in_err-most.ensures read_of-wrong (λ word next words. refl))

pub returns : goal.returns
returns c =
    let most = c.in_ok-most.ensures in
    record {
      words = most.word ∷ [];
      begins = ends_line _ _ _ most;
      asks = ap (option_map Reads) most.spells;
    }
