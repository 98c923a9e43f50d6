-- Steps own nothing.
use denote.Memory.{part_of, raw_all}
use denote.Param.Send.{IsSync, cell_keyless}
use Rattle.sleep_wakeup.specs.contracts.steps.Steps.{the_row}

-- threads may share them, too
pub sync : IsSync the_row
unfolding part_of
sync =
    record {
      shared = λ d b o κ q vs.
          (cell_keyless q (raw_all the_row.mir) vs b o, ((λ _. (tt, (tt, tt))), tt));
    }
