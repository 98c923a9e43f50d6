-- It owns what its value owns, and leaves what its value leaves.
use denote.Exit.{Exit, unchanged, leaves, hidden, under}
use denote.RattleType.{RattleType}
use denote.Struct.Struct.{exits_of}
use denote.Struct.Owning.{shape, fields, to}
use denote.Param.Send.{IsSend, Quiet, AllSend, owning_send, struct_send}
use Rattle.plan9.specs.contracts.alone.Alone.{the_row, the_type}

quiet : {D X : Type 0} (to : D → X) (e : Exit X) → Quiet e → Quiet (hidden (under to e))
quiet to unchanged q = λ x w. tt
quiet to (leaves L l S s r₀) q = λ d. q (to d)

-- it may go wherever its value may go
pub send : (X : RattleType) → IsSend X → IsSend (the_row X)
send X s =
    let all : AllSend (fields (the_type X)) = (s, tt) in
    owning_send (the_type X) all (λ d. tt)
    (λ k. quiet (to (the_type X)) (exits_of k (fields (the_type X)))
    ((struct_send (shape (the_type X)) all).leaving k))
