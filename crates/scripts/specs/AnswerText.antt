-- The answers of a pipe script in words.
use Rattle.std.specs.Prelude.{ℕ, List, [], ◌∷◌, ◌++◌, codes}
use Rattle.hex.specs.Hex.{encode_lower}
use Rattle.sync_base.specs.declared.answers.WriteAnswer.{WriteAnswer}
use Rattle.sync_base.specs.declared.answers.WriteAnswer.TheVariants.{Taken, Full, Hungup}
use Rattle.sync_base.specs.declared.answers.ReadAnswer.{ReadAnswer}
use Rattle.sync_base.specs.declared.answers.ReadAnswer.TheVariants.{Got, Empty, End}
use Rattle.sync_base.specs.declared.fault.Fault.{Fault}
use Rattle.sync_base.specs.declared.fault.Fault.TheVariants.{TooBig, BadCount}

-- bytes as hexadecimal digits, and no bytes as a dash
abbrev pub hex_text : List ℕ → List ℕ
hex_text [] = codes "-"
hex_text (b ∷ bs) = encode_lower (b ∷ bs)

abbrev pub write_text : WriteAnswer → List ℕ
write_text Taken = codes "taken"
write_text Full = codes "full"
write_text Hungup = codes "hungup"

abbrev pub read_text : ReadAnswer → List ℕ
read_text (Got piece) = codes "got " ++ hex_text piece
read_text Empty = codes "empty"
read_text End = codes "end"

-- A refused operation. A pipe script gives no other refusals: each limit and writer is tested as it
-- is read.
abbrev pub fault_text : Fault → List ℕ
fault_text TooBig = codes "too big"
fault_text BadCount = codes "bad count"
fault_text fault = []
