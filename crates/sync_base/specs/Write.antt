-- A write on a pipe.
use Rattle.std.specs.Prelude.{ℕ, List}

-- who wrote, and the bytes
pub record Write : Type 0 where
  pub writer : ℕ
  pub bytes : List ℕ
