-- What a run takes from its reader and gives to its writer, where their bytes are known.
use Rattle.std.specs.Prelude.{◌≡◌, ◌≤◌, ◌<◌, ◌+◌, ◌⊎◌, ℕ, List, length, take, Option, None}
use Rattle.std.specs.Prelude.{Some, Result, Ok, Err}
use Rattle.std.specs.Prelude.{IfSome, IfErr}
use Rattle.std.specs.Io.KnownBytes.{Appends, Consumes, IsAtEnd, Keeps}
use Rattle.sync_base.specs.declared.fault.Fault.{Fault}
use Rattle.sync_base.specs.declared.fault.Fault.TheVariants.{Memory, Script, Device}
use Rattle.scripts.specs.declared.script.TheConstants.{MAX_SCRIPT}
use Rattle.scripts.specs.Script.{Transcript}

-- at most this many bytes were taken
abbrev pub TakesAtMost : ℕ → Option (List ℕ) → Option (List ℕ) → Type 0
TakesAtMost most old new = (taken : List ℕ) × Consumes old new taken × (length taken ≤ most)

-- the input is the bytes that were taken: this many, or all that there were
pub record TakesUpTo (most : ℕ) (old new : Option (List ℕ)) (input : List ℕ) : Type 0 where
  pub taken : Consumes old new input
  pub within : length input ≤ most
  pub most_or_all : (length input ≡ most) ⊎ IsAtEnd new

-- a script was read whole, or so much of it as shows that it is too long
abbrev pub TakesScript : Option (List ℕ) → Option (List ℕ) → Type 0
TakesScript old new = (input : List ℕ) × TakesUpTo (MAX_SCRIPT + 1) old new input

-- a read of at most this many bytes gave the first n of its room, and no bytes only at the end or
-- where none were asked for
pub record GivesSome (most : ℕ) (old new : Option (List ℕ)) (n : ℕ) (room : List ℕ) : Type 0 where
  pub taken : Consumes old new (take n room)
  pub within : n ≤ most
  pub end : n ≡ 0 → 0 < most → IsAtEnd new

-- a prefix of these bytes was written
abbrev pub AppendsFront : Option (List ℕ) → Option (List ℕ) → List ℕ → Type 0
AppendsFront old new bytes = (n : ℕ) × Appends old new (take n bytes)

-- What the script says was written, and this is its fault. Where the write failed, a prefix of it
-- was written.
abbrev pub Tells : Transcript → Option (List ℕ) → Option (List ℕ) → Result (Option ℕ) Fault → Type 0
Tells told old new (Ok faulty_line) = (faulty_line ≡ told.fault) × Appends old new told.output
Tells told old new (Err fault) = AppendsFront old new told.output

-- a run with this result wrote this much of what a script says
abbrev pub WritesTranscript : Transcript → Option (List ℕ) → Option (List ℕ)
    → Result (Unit {0}) Fault → Type 0
WritesTranscript told old new (Ok done) = (told.fault ≡ None) × Appends old new told.output
WritesTranscript told old new (Err (Script line)) = (told.fault ≡ Some line)
    × Appends old new told.output
WritesTranscript told old new (Err fault) = AppendsFront old new told.output

-- memory was refused, or the reader or the writer failed
abbrev pub IsOutside : Fault → Type 0
IsOutside fault = (fault ≡ Memory) ⊎ (fault ≡ Device)

-- the faults of a run
abbrev pub IsRunFault : Fault → Type 0
IsRunFault (Script line) = Unit {0}
IsRunFault fault = IsOutside fault

-- the reader and the writer of a run, before it and after it
pub record Devices : Type 0 where
  pub unread : Option (List ℕ)  -- what the reader had to give
  pub left : Option (List ℕ)  -- what it has to give still
  pub held : Option (List ℕ)  -- what the writer had taken
  pub written : Option (List ℕ)  -- what it has taken by now

-- A run whose input says this had this result. No more is read than what shows that a script is too
-- long, and nothing is written before that; what is written is what the input says, and the fault
-- is the one that the input names.
pub record Runs (says : List ℕ → Transcript) (devices : Devices) (result : Result (Unit {0}) Fault)
    : Type 0 where
  pub at_most : TakesAtMost (MAX_SCRIPT + 1) devices.unread devices.left
  pub reads_first : Keeps devices.held devices.written ⊎ TakesScript devices.unread devices.left
  pub told : IfSome devices.unread
      (λ input. WritesTranscript (says input) devices.held devices.written result)
  pub faults : IfErr result IsRunFault
