-- What clauses see of the place where a shared read end lies between two turns. Own.
use Rattle.std.specs.Prelude.{◌≡◌, Option, Some, None, IfSome}
use Rattle.pipe_dev.specs.Ends.{ReadSide, IsSameReadEnd}
use Rattle.plan9.specs.declared.place.Lying.{Lying}
use Rattle.plan9.specs.declared.place.Receipt.{Receipt}
use Rattle.plan9.specs.declared.place.Swapped.{Swapped}

-- the receipt says that this end was put there
abbrev pub IsLaid : ReadSide → Receipt → Type 0
IsLaid end put = put.what.value ≡ Some (record { end = record { value = end } })

-- the end that lies there, if there is one
abbrev pub end_in : Option Lying → Option ReadSide
end_in (Some lying) = Some lying.end.value
end_in None = None

-- the receipt says that this was put into the place of the end; and what lay there, if anything
-- did, is an end of its direction
pub record Swaps (first : ReadSide) (lying : Option Lying) (swapped : Swapped) : Type 0 where
  pub put_is : swapped.put.what.value ≡ lying
  pub found_is : IfSome swapped.found (λ found. IsSameReadEnd first found.end.value)
