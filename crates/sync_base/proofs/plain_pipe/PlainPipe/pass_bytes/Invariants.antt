-- some writes are passed
use Rattle.std.proofs.Common.{◌≡◌, length}
use Rattle.sync_base.specs.Pipe.{reach_of}
use Rattle.sync_base.specs.PlainPipe.{kept_after}
use Rattle.sync_base.proofs.plain_pipe.PlainPipe.pass_bytes.Given as goal

-- the read that is left comes as far as the whole one
abbrev pub invariant-passing : goal.invariant-passing
invariant-passing l =
    kept_after l.self (reach_of l.left l.self.offset l.self.unread)
    ≡ kept_after l.fn.self (reach_of l.most l.fn.self.offset l.fn.self.unread)

abbrev pub decreases-passing : goal.decreases-passing
decreases-passing l = length l.self.unread
