-- What is printed is what a script would say again: the grammar reads it back as it was.
use Rattle.std.specs.Prelude.{◌≡◌, ◌<◌, ◌^◌, ℕ, List, Some}
use Rattle.std.specs.Fmt.{decimal}
use Rattle.hex.specs.Hex.{IsBytes}
use Rattle.sync_base.specs.declared.note.NoteSet.{NoteSet}
use Rattle.scripts.specs.Lines.{number_of}
use Rattle.scripts.specs.AnswerText.{hex_text}
use Rattle.scripts.specs.PipeScript.{bytes_of}
use Rattle.scripts.specs.EventText.{kinds_text}
use Rattle.scripts.specs.Schedule.{kinds_of}

-- each number, in decimal
abbrev pub NumbersAreReadBack : Type 0
NumbersAreReadBack = (n : ℕ) → n < 2 ^ 64 → number_of (decimal n) ≡ Some n

-- the bytes of each piece, in hexadecimal
abbrev pub BytesAreReadBack : Type 0
BytesAreReadBack = (bytes : List ℕ) → IsBytes bytes → bytes_of (hex_text bytes) ≡ Some bytes

-- each set of kinds, in the order in which they are printed
abbrev pub KindsAreReadBack : Type 0
KindsAreReadBack = (set : NoteSet) → kinds_of (kinds_text set) ≡ Some set
