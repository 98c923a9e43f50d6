-- it got its turn, read, and gave the turn back
use Rattle.timer_list.specs.Timers.{deadline_of}
use Rattle.plan9.specs.Sharings.{buffers, turn}
use Rattle.plan9.specs.TimedSharings.{ReadsOnceWithin, watched_sharer}
use Rattle.plan9.proofs.SharingLemmas.{has_no_timed_turn, has_timed_turn}
use Rattle.plan9.proofs.SharingLemmas.{may_still, who_asked_may}
use Rattle.plan9.proofs.shares.Share.read_within.Goals as goal

pub returns-clause-turn : goal.returns-clause-turn
returns-clause-turn g c =
    let asked = c.in_ok-acquire_within.ensures in
    let old = turn c.args.self.now.seat c.args.proc.now in
    let moment = deadline_of c.args.now c.args.ms in
    let may = who_asked_may old tt asked.known.no_rendez in
    let calls = c.read_within-answer.ensures.called.calls in
    has_timed_turn moment (ReadsOnceWithin moment)
    (watched_sharer c.args.self.now c.args.proc.now c.args.watch.now)
    (buffers c.args.buffer.now c.read_within-answer.new.buffer)
    c.read_within-answer.result.answer _
    record {
      between = c.acquire_within.new.watch;
      same = asked.watch;
      has = record {
        knows = may;
        begun = turn c.acquire_within.new.self c.acquire_within.new.proc;
        called = c.read_within-answer.new.proc;
        asks = asked.known.called may;
        calls = calls;
        gives_back = record {
          answer = c.release-sum.result;
          called = c.release-sum.ensures.known.called
              (may_still old c.acquire_within.new.self c.acquire_within.new.proc
              c.read_within-answer.new.proc may asked.same asked.words calls.words_are);
        };
      };
    }

pub returns-in_err-acquire_within-clause-turn : goal.returns-in_err-acquire_within-clause-turn
returns-in_err-acquire_within-clause-turn g c =
    let moment = deadline_of c.args.now c.args.ms in
    has_no_timed_turn moment (ReadsOnceWithin moment)
    (watched_sharer c.args.self.now c.args.proc.now c.args.watch.now) c.args.buffer.now
    c.in_err-acquire_within.field-0.0 c.from_residual.result c.acquire_within.new.self
    c.acquire_within.new.proc c.acquire_within.new.watch c.from_residual.ensures.1
    c.in_err-acquire_within.ensures.known
