-- The flags of rfork after fork(2), as a set of bits, and what they ask for.
use Rattle.std.specs.Prelude.{ℕ, Bool, ◌==◌, ◌<◌}
use Rattle.std.specs.Int.{bit_at}
use Rattle.sync_base.specs.declared.flags.Flags.{Flags}
use Rattle.sync_base.specs.declared.flags.Wants.{Wants}

-- the bits that are set, as one number
abbrev pub bits_of : Flags → ℕ
bits_of flags = flags.bits

-- RFPROC, bit 0, is set: a new process is asked for
abbrev pub asks_child : Flags → Bool
asks_child flags = bit_at (bits_of flags) 0 == 1

-- RFREND, bit 1, is set: a new tag space is asked for
abbrev pub asks_space : Flags → Bool
asks_space flags = bit_at (bits_of flags) 1 == 1

-- RFNOTEG, bit 2, is set: a new note group is asked for
abbrev pub asks_group : Flags → Bool
asks_group flags = bit_at (bits_of flags) 2 == 1

-- no other bit is set
abbrev pub AreKnown : Flags → Type 0
AreKnown flags = bits_of flags < 8

-- what the three flags ask for
abbrev pub wants_of : Flags → Wants
wants_of flags =
    record {
      process = asks_child flags;
      space = asks_space flags;
      note_group = asks_group flags;
    }
