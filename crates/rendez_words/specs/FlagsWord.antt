-- The flags of a process as one word. Own: the lowest bit is the mark of a wakeup, and above it is
-- a bit for each kind of note. A further kind of note comes at the end of `bits_of`.
use Rattle.std.specs.Prelude.{ℕ, ◌+◌, ◌*◌, Bool, List, [], ◌∷◌, if◌then◌else◌}
use Rattle.sync_base.specs.declared.note.Note.TheVariants.{Interrupt, Hangup, Alarm, ClosedPipe}
use Rattle.sync_base.specs.declared.note.Note.TheVariants.{Expired}
use Rattle.sync_base.specs.NoteSet.{holds}
use Rattle.sleep_core.specs.declared.phase.ProcFlags.{ProcFlags}

-- the bits of the word, the lowest first
abbrev pub bits_of : ProcFlags → List Bool
bits_of flags =
    flags.wake
    ∷ holds flags.notes Interrupt
    ∷ holds flags.notes Hangup
    ∷ holds flags.notes Alarm
    ∷ holds flags.notes ClosedPipe
    ∷ holds flags.notes Expired
    ∷ []

-- the number with these binary digits, the lowest first
abbrev pub number_of_bits : List Bool → ℕ
number_of_bits [] = 0
number_of_bits (bit ∷ bits) = number_of_bits bits * 2 + (if bit then 1 else 0)

abbrev pub flags_word : ProcFlags → ℕ
flags_word flags = number_of_bits (bits_of flags)
