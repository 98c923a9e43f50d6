-- some writes are joined
use Rattle.std.proofs.Common.{◌≡◌, ◌<◌, ◌≤◌, ◌++◌, length, take, drop}
use Rattle.sync_base.specs.Pipe.{joined}
use Rattle.sync_base.specs.PlainPipe.{kept_bytes, first_bytes}
use Rattle.sync_base.proofs.plain_pipe.PlainPipe.join_onto.Given as goal

-- what is joined and what is to be joined yet are what was to be joined
abbrev pub invariant-joining : goal.invariant-joining
invariant-joining l =
    record {
      joined : l.room.items ++ take l.left (drop l.offset (joined (drop l.at l.self.unread)))
          ≡ l.fn.room.items ++ take l.most (kept_bytes l.self);
      longer : length l.fn.room.items ≤ length l.room.items;
      begun : 0 < l.offset → l.offset < length (first_bytes (drop l.at l.self.unread));
    }
