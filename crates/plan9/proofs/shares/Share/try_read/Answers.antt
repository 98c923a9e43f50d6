-- it got its turn, tried, and gave the turn back
use Rattle.std.proofs.Common.{subst}
use Rattle.plan9.specs.Sharings.{AsksNow, buffers, sharer, turn}
use Rattle.plan9.proofs.SharingLemmas.{has_turn_now, may_still, who_asked_may}
use Rattle.plan9.proofs.shares.Share.try_read.Goals as goal

pub returns-clause-turn : goal.returns-clause-turn
returns-clause-turn g c =
    let asked = c.in_ok-try_acquire.ensures in
    let old = turn c.args.self.now.seat c.args.proc.now in
    let begun = turn c.try_acquire.new.self c.try_acquire.new.proc in
    let may = who_asked_may old _ asked.known.no_rendez in
    let calls = c.try_read-answer.ensures.calls in
    has_turn_now (sharer c.args.self.now c.args.proc.now)
    (buffers c.args.buffer.now c.try_read-answer.new.buffer) c.try_read-answer.result.answer _
    record {
      knows = may;
      begun = begun;
      called = c.try_read-answer.new.proc;
      asks = subst (λ has. AsksNow has old begun) c.if-not-branch.false
          (asked.known.called may);
      calls = calls;
      gives_back = record {
        answer = c.release-sum.result;
        called = c.release-sum.ensures.known.called
            (may_still old c.try_acquire.new.self c.try_acquire.new.proc
            c.try_read-answer.new.proc may asked.same asked.words calls.words_are);
      };
    }
