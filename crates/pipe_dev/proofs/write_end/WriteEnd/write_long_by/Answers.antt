-- the writes that were accepted, and the one at which it ended
use Rattle.std.proofs.Common.{arith, ◌∙◌, ◌≤◌, ◌∷◌, [], length, Ok, Err}
use Rattle.sync_base.specs.declared.limits.TheConstants.{ATOMIC_SIZE}
use Rattle.pipe_dev.specs.WriteCalls.{atomic_writes, run_writer}
use Rattle.pipe_dev.proofs.LongLemmas.{all_done, cut_last, cut_next, one_done, owns_still, ran_at}
use Rattle.pipe_dev.proofs.write_end.WriteEnd.write_long_by.Goals as goal

pub returns-in-Err-clause-wrote : goal.returns-in-Err-clause-wrote
returns-in-Err-clause-wrote g c owns =
    let held = c.writing.invariant in
    let written = held.written in
    let front_len = c.split_at.ensures.front_len in
    let fits : length c.split_at.result.0.now ≤ ATOMIC_SIZE = omega (arith, front_len) in
    let own = owns_still held.owns held.words held.end.row in
    record {
      done = written.0;
      between = run_writer c.writing.self c.writing.timer c.writing.proc;
      written = written.1;
      taken = written.2;
      ended = (
        c.split_at.result.0.now,
        atomic_writes c.split_at.result.1.now,
        cut_next c.args.bytes.now c.writing.left.now _ _ written.0 c.writing-test.true
            c.split_at.ensures.front c.split_at.ensures.back written.3,
        ran_at (g.W.Runner.runs c.args.runner.now) c.args.self.now c.writing.self _ _
            (Err c.in-Err.fault) _ held.end (c.in-Err.ensures.wrote fits own)
            (c.in-Err.ensures.is_write fits own),
      );
    }

pub writing-preserved : goal.writing-preserved
writing-preserved g c =
    let held = c.writing.invariant in
    let written = held.written in
    let taken = written.2 in
    let count = held.count in
    let front_len = c.split_at.ensures.front_len in
    let back_len = c.split_at.ensures.back_len in
    let fits : length c.split_at.result.0.now ≤ ATOMIC_SIZE = omega (arith, front_len) in
    let own = owns_still held.owns held.words held.end.row in
    record {
      end = record {
        queue = c.write_by.ensures.end.queue ∙ held.end.queue;
        row = c.write_by.ensures.end.row ∙ held.end.row;
        writer = c.write_by.ensures.end.writer ∙ held.end.writer;
      };
      words = c.write_by.ensures.words ∙ held.words;
      owns = held.owns;
      timer = c.write_by.ensures.timer;
      kept = c.write_by.ensures.kept ∙ held.kept;
      written = (
        c.split_at.result.0.now ∷ written.0,
        record {
          between = run_writer c.writing.self c.writing.timer c.writing.proc;
          rounds = written.1;
          last = record {
            number = c.in_default.field-0;
            accepted =
                ran_at (g.W.Runner.runs c.args.runner.now) c.args.self.now c.writing.self _ _
                (Ok c.in_default.field-0) _ held.end (c.in_default.ensures.wrote fits own)
                (c.in_default.ensures.is_write fits own);
          };
        },
        omega (arith, taken, front_len),
        one_done written.0 c.split_at.result.0.now (atomic_writes c.split_at.result.1.now) _
            (cut_next c.args.bytes.now c.writing.left.now _ _ written.0 c.writing-test.true
            c.split_at.ensures.front c.split_at.ensures.back written.3),
      );
      count = omega (arith, count, back_len);
    }

pub returns-in-Ok-clause-wrote : goal.returns-in-Ok-clause-wrote
returns-in-Ok-clause-wrote g c owns =
    let held = c.writing.invariant in
    let written = held.written in
    let taken = written.2 in
    let short = c.writing-test.false in
    let fits : length c.writing.left.now ≤ ATOMIC_SIZE = omega (arith, short) in
    let own = owns_still held.owns held.words held.end.row in
    record {
      done = c.writing.left.now ∷ written.0;
      between = run_writer c.write_by-2.new.self c.write_by-2.new.timer c.write_by-2.new.proc;
      written = record {
        between = run_writer c.writing.self c.writing.timer c.writing.proc;
        rounds = written.1;
        last = record {
          number = c.in-Ok.field-0;
          accepted =
              ran_at (g.W.Runner.runs c.args.runner.now) c.args.self.now c.writing.self _ _
              (Ok c.in-Ok.field-0) _ held.end (c.in-Ok.ensures.wrote fits own)
              (c.in-Ok.ensures.is_write fits own);
        };
      };
      taken = omega (arith, taken);
      ended = (
        λ i. run_writer c.write_by-2.new.self c.write_by-2.new.timer c.write_by-2.new.proc,
        all_done c.args.bytes.now c.writing.left.now written.0 fits written.3,
      );
    }

pub returns-in-Err-write_by-clause-wrote : goal.returns-in-Err-write_by-clause-wrote
returns-in-Err-write_by-clause-wrote g c owns =
    let held = c.writing.invariant in
    let written = held.written in
    let short = c.writing-test.false in
    let fits : length c.writing.left.now ≤ ATOMIC_SIZE = omega (arith, short) in
    let own = owns_still held.owns held.words held.end.row in
    record {
      done = written.0;
      between = run_writer c.writing.self c.writing.timer c.writing.proc;
      written = written.1;
      taken = written.2;
      ended = (
        c.writing.left.now,
        [],
        cut_last c.args.bytes.now c.writing.left.now written.0 fits written.3,
        ran_at (g.W.Runner.runs c.args.runner.now) c.args.self.now c.writing.self _ _
            (Err c.in-Err-write_by.fault) _ held.end (c.in-Err-write_by.ensures.wrote fits own)
            (c.in-Err-write_by.ensures.is_write fits own),
      );
    }
