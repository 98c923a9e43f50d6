-- What no run has written of what its script says: each against one row.
use Rattle.std.proofs.Common.{◌≡◌, ℕ, [], ◌∷◌, length, ap, arith, get_or, option_to_list, Option}
use Rattle.std.proofs.Common.{Some, None, Ok, Err}
use Rattle.sync_base.specs.declared.fault.Fault.TheVariants.{Script}
use Rattle.scripts.specs.Device.{Tells, WritesTranscript}
use Rattle.scripts.specs.Script.{Transcript}

-- the line 1 is at fault, and nothing is written
abbrev at_fault : Transcript
at_fault = record { output = []; fault = Some 1 }

a_fault_is_no_good_end : ¬ WritesTranscript at_fault None None (Ok tt)
a_fault_is_no_good_end writes = let no : at_fault.fault ≡ None = writes.0 in cc

no_fault_is_told_of_another_line : ¬ WritesTranscript at_fault None None (Err (Script 2))
no_fault_is_told_of_another_line writes =
    let no : at_fault.fault ≡ Some 2 = writes.0 in
    let same : 1 ≡ 2 = ap (λ (line : Option ℕ). get_or (option_to_list line) 0 0) no in
    omega (arith, same)

-- the line feed is written, and no line is at fault
abbrev one_written : Transcript
one_written = record { output = 10 ∷ []; fault = None }

no_fault_is_no_fault : ¬ Tells one_written None None (Ok (Some 1))
no_fault_is_no_fault tells = let no : Some 1 ≡ one_written.fault = tells.0 in cc

what_is_told_is_written : ¬ Tells one_written (Some []) (Some []) (Ok None)
what_is_told_is_written tells =
    let none : 0 ≡ 1 = ap length tells.1 in
    omega (arith, none)
