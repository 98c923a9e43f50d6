-- the notes to those after are what is left to do
use Rattle.std.proofs.Common.{◌≡◌, ◌≤◌, ◌+◌, drop, length}
use Rattle.sleep_wakeup.specs.Groups.{members_from, notes_each}
use Rattle.sleep_wakeup.proofs.groups.post_to.Given as goal

abbrev pub invariant-loop-pid : goal.invariant-loop-pid
invariant-loop-pid l =
    record {
      few : l.posted ≤ l.pid;
      count : l.posted + length (members_from l.pid l.group (drop l.pid l.numbers))
          ≡ length (members_from 0 l.group l.numbers);
      noted : notes_each l.poster.process (members_from l.pid l.group (drop l.pid l.numbers)) l.set
          ≡ notes_each l.fn.poster.process (members_from 0 l.group l.numbers) l.set;
      words : l.poster.words ≡ l.fn.poster.words;
    }
