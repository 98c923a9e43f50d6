-- it got its turn, read, and gave the turn back
use Rattle.plan9.specs.Sharings.{ReadsOnce, buffers, sharer, turn}
use Rattle.plan9.proofs.SharingLemmas.{has_turn, may_still, who_asked_may}
use Rattle.plan9.proofs.shares.Share.read.Goals as goal

pub returns-clause-turn : goal.returns-clause-turn
returns-clause-turn g c =
    let asked = c.in_ok-acquire.ensures in
    let old = turn c.args.self.now.seat c.args.proc.now in
    let may = who_asked_may old tt asked.known.no_rendez in
    let calls = c.read-answer.ensures.calls in
    has_turn ReadsOnce (sharer c.args.self.now c.args.proc.now)
    (buffers c.args.buffer.now c.read-answer.new.buffer)
    c.read-answer.result.answer _
    record {
      knows = may;
      begun = turn c.acquire.new.self c.acquire.new.proc;
      called = c.read-answer.new.proc;
      asks = asked.known.called may;
      calls = calls;
      gives_back = record {
        answer = c.release-sum.result;
        called = c.release-sum.ensures.known.called
            (may_still old c.acquire.new.self c.acquire.new.proc c.read-answer.new.proc may
            asked.same asked.words calls.words_are);
      };
    }
