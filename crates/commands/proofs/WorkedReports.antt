-- What is said of some reports, computed from the definition.
use Rattle.std.proofs.Common.{◌≡◌, ◌∷◌, ◌++◌, [], refl, codes, true, false}
use Rattle.std.specs.Fmt.{digits}
use Rattle.commands.specs.ReportText.{report_line}

in_order : report_line (record { writers = 4; writes = 4000; bytes = 64000; in_order = true })
    ≡ codes "writers 4 writes 4000 bytes 64000 in order" ++ 10 ∷ []
unfolding digits
in_order = refl

out_of_order : report_line (record { writers = 1; writes = 0; bytes = 7; in_order = false })
    ≡ codes "writers 1 writes 0 bytes 7 out of order" ++ 10 ∷ []
unfolding digits
out_of_order = refl
