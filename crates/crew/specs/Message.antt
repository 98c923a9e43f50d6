-- What the writers of a run on threads write.
use Rattle.std.specs.Prelude.{ℕ, ◌-◌, ◌%◌, List, ◌++◌, replicate}
use Rattle.std.specs.Int.{w64, to_be_bytes}
use Rattle.crew.specs.declared.message.TheConstants.{HEAD}

-- Own: a message of this many bytes. It has its writer and its number among that writer's messages,
-- each as 8 bytes with the highest first, and then bytes equal to the number's remainder by 256.
abbrev pub message_of : ℕ → ℕ → ℕ → List ℕ
message_of size writer number =
    to_be_bytes w64 writer ++ to_be_bytes w64 number ++ replicate (size - HEAD) (number % 256)
