-- What a run on threads reports that it read.
use Rattle.std.specs.Prelude.{ℕ, List, [], ◌∷◌, ◌++◌, if◌then◌else◌, codes}
use Rattle.std.specs.Fmt.{decimal}
use Rattle.scripts.specs.declared.lines.TheConstants.{LINE_FEED}
use Rattle.crew.specs.declared.opts.Report.{Report}

-- `writers W writes T bytes B in order`, or `out of order`, with its line feed
abbrev pub report_line : Report → List ℕ
report_line report =
    codes "writers " ++ decimal report.writers
    ++ codes " writes " ++ decimal report.writes
    ++ codes " bytes " ++ decimal report.bytes
    ++ (if report.in_order then codes " in order" else codes " out of order")
    ++ LINE_FEED ∷ []
