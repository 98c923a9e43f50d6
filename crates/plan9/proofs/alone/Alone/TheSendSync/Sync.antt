-- A `&` to it shows no more than the value itself, which any thread may have.
use denote.RattleType.{RattleType}
use denote.Param.Send.{IsSend, IsSync, part_keyless}
use Rattle.plan9.specs.contracts.alone.Alone.{the_row}
use Rattle.plan9.proofs.alone.Alone.TheSendSync.Send.{send}

-- threads may share it wherever its value may go
pub sync : (X : RattleType) → IsSend X → IsSync (the_row X)
sync X s = record { shared = λ d b o ν q. part_keyless (the_row X) (send X s) q d b o }
