-- in stream mode
use Rattle.std.proofs.Common.{sym, ap, subst, ◌∙◌}
use Rattle.sync_base.specs.PlainPipe.{Contents, Shows}
use Rattle.sync_base.specs.Pipe.{after_read}
use Rattle.sync_base.proofs.StreamLemmas.{shows_after}
use Rattle.sync_base.proofs.plain_pipe.PlainPipe.pass.Goals as goal

pub returns-in-Stream : goal.returns-in-Stream
returns-in-Stream c s shows =
    subst (λ k. Shows k (after_read c.args.most s)) (sym c.pass_bytes.ensures)
    (shows_after c.args.self.now s c.args.most shows
    (ap (λ (kept : Contents). kept.mode) (sym c.self.view_is) ∙ c.in-Stream.is))
