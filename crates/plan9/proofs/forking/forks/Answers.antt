-- one child more was forked
use Rattle.std.proofs.Common.{◌≡◌, ◌+◌, ◌++◌, ◌∷◌, ◌∙◌, [], ap, arith, false, suc, sym}
use Rattle.sleep_wakeup.specs.Kernel.{next_process, one_pid_less}
use Rattle.plan9.specs.Forkings.{children, less_children}
use Rattle.plan9.proofs.ChainLemmas.{one_longer}
use Rattle.plan9.proofs.ForkLemmas.{less_one_more, one_more_child}
use Rattle.plan9.proofs.forking.forks.Goals as goal

pub forking-preserved : goal.forking-preserved
forking-preserved c =
    let held = c.forking.invariant in
    let forked = c.in-Ok-fork.ensures.forked in
    let items = c.push_reserved.ensures.items in
    let parent = c.args.parent.now.process.pid in
    let start = c.args.roster.now in
    let counter = c.forking.counter in
    let pid = ap (λ running. running.process.pid) held.parent in
    let counted = held.counted in
    let below = c.forking-test.true in
    let room = held.room in
    let same_room = c.push_reserved.ensures.capacity in
    let next = held.next in
    let longer = one_longer c.forking.children.items c.push_reserved.new.self.items
    c.in-Ok-fork.child items in
    let one_more : suc counter ≡ counter + 1 = omega arith in
    let after_is = forked.2 ∙ ap (λ pid. one_pid_less pid false c.forking.roster) pid in
    let after = ap (λ unused. unused.pids.next) forked.2 in
    record {
      counted = omega (arith, counted, longer);
      limit = omega (arith, below);
      count = held.count;
      room = omega (arith, room, same_room);
      pids = held.pids;
      next = omega (arith, after, next);
      words = ap (λ unused. unused.words) forked.2 ∙ held.words;
      parent = c.fork.ensures.parent ∙ held.parent;
      made = items
          ∙ ap (λ its. its ++ c.in-Ok-fork.child ∷ []) held.made
          ∙ ap (λ child. children counter parent start ++ child ∷ [])
          (forked.1 ∙ ap next_process held.roster)
          ∙ sym (one_more_child counter parent start)
          ∙ ap (λ count. children count parent start) one_more;
      roster = after_is
          ∙ ap (λ unused. one_pid_less parent false unused) held.roster
          ∙ sym (less_one_more counter parent start)
          ∙ ap (λ count. less_children count parent start) one_more;
    }
