-- as many children as are counted were made, the next ones of the roster, and pids are left
use Rattle.std.proofs.Common.{◌≡◌, ◌≤◌, ◌+◌, length}
use Rattle.std.specs.Vec.{vec_capacity}
use Rattle.plan9.specs.Forkings.{HasPids, children, less_children}
use Rattle.plan9.proofs.forking.forks.Given as goal

abbrev pub invariant-forking : goal.invariant-forking
invariant-forking l =
    record {
      counted : length l.children.items ≡ l.counter;
      limit : l.counter ≤ l.count;
      count : l.count ≡ l.fn.count;
      room : l.count ≤ vec_capacity l.children;
      pids : HasPids l.fn.roster l.fn.count;
      next : l.roster.pids.next ≡ l.fn.roster.pids.next + l.counter;
      words : l.roster.words ≡ l.fn.roster.words;
      parent : l.parent ≡ l.fn.parent;
      made : l.children.items ≡ children l.counter l.fn.parent.process.pid l.fn.roster;
      roster : l.roster ≡ less_children l.counter l.fn.parent.process.pid l.fn.roster;
    }
