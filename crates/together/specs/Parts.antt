-- A list that is worked off in two parts: things have come of its front already, and for its back
-- others stand, of which the last began first. Own.
use Rattle.std.specs.Prelude.{◌≡◌, List, ◌++◌, reverse}
use Rattle.std.specs.List.{AllZip}

-- What has come is of the front, thing by thing, and what stands is for the back.
pub record Parts {W X H : Type 0} (Comes : W → X → Type 0) (Stands : W → H → Type 0)
    (all : List W) (come : List X) (standing : List H) : Type 0 where
  pub front : List W
  pub back : List W
  pub whole : all ≡ front ++ reverse back
  pub comes : AllZip Comes front come
  pub stands : AllZip Stands back standing
