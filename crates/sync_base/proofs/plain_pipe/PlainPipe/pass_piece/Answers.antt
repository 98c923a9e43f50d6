-- the next write is used up
use Rattle.std.proofs.Common.{◌≡◌, ◌<◌, ◌≤◌, ◌-◌, length, get_or, subst, sym, ap, ◌∙◌, arith, rules}
use Rattle.std.proofs.lemmas.Grind.{common_steps}
use Rattle.sync_base.specs.PlainPipe.{Shows}
use Rattle.sync_base.specs.Pipe.{after_message}
use Rattle.sync_base.proofs.PlainPipeLemmas.{shows_used_up}
use Rattle.sync_base.proofs.plain_pipe.PlainPipe.pass_piece.Goals as goal

-- the first write is used up: its rest is no longer than what is passed
pub returns : goal.returns
returns c s shows =
    let first = c.in-Some.first.now in
    let kept = c.args.self.now in
    let some : 0 < length kept.unread = search rules in
    let is_first : first ≡ get_or kept.unread 0 first =
    c.in-Some.ensures.lookup ∙ ap (λ k. get_or k.unread 0 first) c.self.view_is in
    let used_up : length first.bytes - kept.offset ≤ c.args.most = grind (arith, common_steps) in
    subst (λ k. Shows k (after_message c.args.most s)) (sym c.pass_first.ensures)
    (shows_used_up kept s c.args.most first shows some is_first used_up)
