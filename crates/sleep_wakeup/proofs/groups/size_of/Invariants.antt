-- those counted so far, and those after them, are all
use Rattle.std.proofs.Common.{◌≡◌, ◌≤◌, ◌+◌, drop, length}
use Rattle.sleep_wakeup.specs.Groups.{members_from}
use Rattle.sleep_wakeup.proofs.groups.size_of.Given as goal

abbrev pub invariant-loop-pid : goal.invariant-loop-pid
invariant-loop-pid l =
    record {
      few : l.size ≤ l.pid;
      size : l.size + length (members_from l.pid l.number (drop l.pid l.numbers))
          ≡ length (members_from 0 l.number l.numbers);
    }
