-- the ends are new, and a crew that has worked is still ready
use Rattle.std.proofs.Common.{◌≡◌, ◌≤◌, List, ℕ, ◌∙◌, ap, arith, subst, sym, rules}
use Rattle.std.specs.Prelude.{length}
use Rattle.std.proofs.lemmas.Result.{err_from_is_err_and}
use Rattle.sync_base.specs.declared.limits.TheConstants.{MAX_WRITERS}
use Rattle.sync_base.specs.declared.fault.Fault.TheVariants as fault
use Rattle.rendez_words.specs.declared.words.Words.{Words}
use Rattle.sleep_wakeup.specs.Kernel.{Unused}
use Rattle.block_queue.specs.declared.view.Key.{Key}
use Rattle.block_queue.specs.Opening.{IsBadQueue}
use Rattle.block_queue.specs.Seats.{key_of}
use Rattle.pipe_dev.specs.declared.row.Row.{Row}
use Rattle.pipe_dev.specs.Ends.{ReadSide, WriteSide}
use Rattle.pipe_dev.specs.Openings.{IsStartOf, key_for}
use Rattle.pipe_dev.specs.Rendezes.{OwnsRow}
use Rattle.example_headline.specs.Crew.{IsFresh, messages_of}
use Rattle.example_headline.specs.Headline.{IsEnding}
use Rattle.example_headline.proofs.CrewLemmas.{all_ended, same_messages}
use Rattle.example_headline.proofs.HeadlineLemmas.{as_many_ends, fresh_ends, still_ready}
use Rattle.example_headline.proofs.RunLemmas.{crew_has_memory, is_memory, is_no_bad_queue}
use Rattle.example_headline.proofs.RunLemmas.{is_not_bad, is_world, not_refused, opened_is_good}
use Rattle.example_headline.proofs.RunLemmas.{pipe_has_memory, world_has_memory}
use Rattle.example_headline.proofs.run.run.Goals as goal

pub muster-requires : goal.muster-requires
muster-requires g c =
    let start : IsStartOf c.in_ok-pipe.field-0.pipe c.in_ok-pipe.field-0.start = search rules in
    let read = c.ends-first.result.first.read in
    let writes = c.ends-first.result.second.writes.items in
    let new : IsFresh read writes =
    fresh_ends c.in_ok-pipe.field-0.pipe.there c.in_ok-pipe.field-0.start.there read writes
    start.there
    c.in_ok-pipe.ensures.opened.there_mode
    c.ends-first.ensures.there in
    let words : c.start-roster.result.roster.words ≡ c.start-roster.result.proc.words
    = c.start-roster.ensures.roster.words_are ∙ sym c.start-roster.ensures.proc.words_are in
    record {
      fresh = subst (λ (r : ReadSide). IsFresh r c.parts-writes.result.writes.items)
          (sym c.parts-read.ensures.read)
          (subst (λ (ws : List WriteSide). IsFresh read ws) (sym c.parts-writes.ensures.writes)
          new);
      kernel = subst (λ (w : Words). OwnsRow w c.parts-read.result.read.row) words
          (subst (λ (r : ReadSide). OwnsRow c.start-roster.result.roster.words r.row)
          (sym c.parts-read.ensures.read)
          (subst (OwnsRow c.start-roster.result.roster.words)
          (sym c.ends-first.ensures.there.row_is) c.in_ok-pipe.ensures.rows.there));
      roster = ap (λ (unused : Unused). unused.words) c.in_ok-pipe.ensures.given ∙ words;
    }

pub settle-requires : goal.settle-requires
settle-requires g c =
    record {
      worked = record {
        ready = still_ready c.in_ok-crew.crew c.work.result c.in_ok-crew.ensures.ready
            c.work.ensures.reader c.work.ensures.writers c.work.ensures.room;
        stopped = c.work.ensures.stopped c.in_ok-crew.ensures.clear.reader;
        ended = all_ended c.in_ok-crew.crew.writers.items c.work.result.writers.items
            c.work.ensures.ended c.in_ok-crew.ensures.clear.writers;
      };
    }

pub returns : goal.returns
returns g c =
    let read = c.ends-first.result.first.read in
    let its : c.in_ok-crew.crew.reader.end ≡ read
    = c.in_ok-crew.ensures.read.same ∙ c.parts-read.ensures.read in
    let queue : c.work.result.reader.end.queue ≡ c.in_ok-pipe.field-0.pipe.there
    = c.work.ensures.reader.end.queue
    ∙ (ap (λ (r : ReadSide). r.queue) its ∙ c.ends-first.ensures.there.queue_is) in
    let row : c.work.result.reader.end.row ≡ c.in_ok-pipe.field-0.start.there.row
    = c.work.ensures.reader.end.row
    ∙ (ap (λ (r : ReadSide). r.row) its ∙ c.ends-first.ensures.there.row_is) in
    let first : c.work.result.reader.end.row.first ≡ 0
    = ap (λ (r : Row). r.first) row
    ∙ (c.in_ok-pipe.ensures.opened.there_first ∙ c.start-roster.ensures.roster.rendez) in
    let many : c.len-writers.result ≡ length c.args.messages.items = search rules in
    let key : key_of c.in_ok-pipe.field-0.pipe.there
    ≡ key_for c.args.limit (length c.args.messages.items)
    = c.in_ok-pipe.ensures.opened.there_key ∙ ap (key_for c.args.limit) many in
    let given = same_messages c.in_ok-crew.crew.writers.items c.work.result.writers.items
    c.work.ensures.writers
    ∙ c.in_ok-crew.ensures.given in
    let keeps : (key : Key) → key_of c.work.result.reader.end.queue ≡ key
    → IsEnding key 0 (messages_of c.work.result.writers.items) c.settle.result
    = λ key is.
    subst (λ (k : Key).
    IsEnding k 0 (messages_of c.work.result.writers.items) c.settle.result) is
    (subst (λ (n : ℕ). IsEnding (key_of c.work.result.reader.end.queue) n
    (messages_of c.work.result.writers.items) c.settle.result) first c.settle.ensures.ending) in
    record {
      bad_size = not_refused c.settle.result
          (subst (λ (n : ℕ). ¬ IsBadQueue c.args.limit n) many
          (opened_is_good c.in_ok-pipe.field-0 _ c.in_ok-pipe.ensures.bad_size));
      faults = tt;
      ending = subst
          (λ (given : List (List (List ℕ))).
          IsEnding (key_for c.args.limit (length c.args.messages.items)) 0 given c.settle.result)
          given
          (keeps (key_for c.args.limit (length c.args.messages.items))
          (ap key_of queue ∙ key));
    }

pub returns-in_err-kernel-clause-bad_size : goal.returns-in_err-kernel-clause-bad_size
returns-in_err-kernel-clause-bad_size g c =
    let few : c.len-writers.result ≤ MAX_WRITERS = omega arith in
    let good : ¬ IsBadQueue c.args.limit c.len-writers.result
    = is_no_bad_queue c.args.limit c.len-writers.result (grind arith) (omega arith) (grind arith)
    (omega arith) in
    let many : c.len-writers.result ≡ length c.args.messages.items = search rules in
    let failed = err_from_is_err_and c.from_residual.result c.from_residual.ensures.1 in
    let memory : failed.0 ≡ fault.Memory
    = failed.2 ∙ world_has_memory _ _ c.in_err-kernel.field-0.0
    (is_world c.len-writers.result few) c.in_err-kernel.ensures.fault in
    is_not_bad c.from_residual.result failed.0 _ failed.1 memory
    (subst (λ (n : ℕ). ¬ IsBadQueue c.args.limit n) many good)

pub returns-in_err-kernel-clause-faults : goal.returns-in_err-kernel-clause-faults
returns-in_err-kernel-clause-faults g c =
    let few : c.len-writers.result ≤ MAX_WRITERS = omega arith in
    let good : ¬ IsBadQueue c.args.limit c.len-writers.result
    = is_no_bad_queue c.args.limit c.len-writers.result (grind arith) (omega arith) (grind arith)
    (omega arith) in
    let many : c.len-writers.result ≡ length c.args.messages.items = search rules in
    let failed = err_from_is_err_and c.from_residual.result c.from_residual.ensures.1 in
    let memory : failed.0 ≡ fault.Memory
    = failed.2 ∙ world_has_memory _ _ c.in_err-kernel.field-0.0
    (is_world c.len-writers.result few) c.in_err-kernel.ensures.fault in
    is_memory c.from_residual.result failed.0 failed.1 memory

pub returns-in_err-pipe-clause-bad_size : goal.returns-in_err-pipe-clause-bad_size
returns-in_err-pipe-clause-bad_size g c =
    let few : c.len-writers.result ≤ MAX_WRITERS = omega arith in
    let good : ¬ IsBadQueue c.args.limit c.len-writers.result
    = is_no_bad_queue c.args.limit c.len-writers.result (grind arith) (omega arith) (grind arith)
    (omega arith) in
    let many : c.len-writers.result ≡ length c.args.messages.items = search rules in
    let failed = err_from_is_err_and c.from_residual-in_err-pipe.result
    c.from_residual-in_err-pipe.ensures.1 in
    let memory : failed.0 ≡ fault.Memory
    = failed.2 ∙ pipe_has_memory c.in_err-pipe.field-0.0 _ _ good
    (rw (c.start-roster.ensures.roster.rendez, c.start-roster.ensures.roster.words_are)
    (let enough = c.in_ok-kernel.ensures.rendez in omega (arith, enough)))
    c.in_err-pipe.ensures.bad_size c.in_err-pipe.ensures.no_rendez
    c.in_err-pipe.ensures.faults in
    is_not_bad c.from_residual-in_err-pipe.result failed.0 _ failed.1 memory
    (subst (λ (n : ℕ). ¬ IsBadQueue c.args.limit n) many good)

pub returns-in_err-pipe-clause-faults : goal.returns-in_err-pipe-clause-faults
returns-in_err-pipe-clause-faults g c =
    let few : c.len-writers.result ≤ MAX_WRITERS = omega arith in
    let good : ¬ IsBadQueue c.args.limit c.len-writers.result
    = is_no_bad_queue c.args.limit c.len-writers.result (grind arith) (omega arith) (grind arith)
    (omega arith) in
    let many : c.len-writers.result ≡ length c.args.messages.items = search rules in
    let failed = err_from_is_err_and c.from_residual-in_err-pipe.result
    c.from_residual-in_err-pipe.ensures.1 in
    let memory : failed.0 ≡ fault.Memory
    = failed.2 ∙ pipe_has_memory c.in_err-pipe.field-0.0 _ _ good
    (rw (c.start-roster.ensures.roster.rendez, c.start-roster.ensures.roster.words_are)
    (let enough = c.in_ok-kernel.ensures.rendez in omega (arith, enough)))
    c.in_err-pipe.ensures.bad_size c.in_err-pipe.ensures.no_rendez
    c.in_err-pipe.ensures.faults in
    is_memory c.from_residual-in_err-pipe.result failed.0 failed.1 memory

pub returns-in_err-crew-clause-bad_size : goal.returns-in_err-crew-clause-bad_size
returns-in_err-crew-clause-bad_size g c =
    let few : c.len-writers.result ≤ MAX_WRITERS = omega arith in
    let good : ¬ IsBadQueue c.args.limit c.len-writers.result
    = is_no_bad_queue c.args.limit c.len-writers.result (grind arith) (omega arith) (grind arith)
    (omega arith) in
    let many : c.len-writers.result ≡ length c.args.messages.items = search rules in
    let start : IsStartOf c.in_ok-pipe.field-0.pipe c.in_ok-pipe.field-0.start = search rules in
    let ends : length c.parts-writes.result.writes.items ≡ c.len-writers.result
    = ap length c.parts-writes.ensures.writes
    ∙ as_many_ends c.in_ok-pipe.field-0.pipe.there c.in_ok-pipe.field-0.start.there
    c.ends-first.result.first.read c.ends-first.result.second.writes.items c.args.limit
    c.len-writers.result start.there c.ends-first.ensures.there
    c.in_ok-pipe.ensures.opened.there_key in
    let as_many = sym many ∙ sym ends in
    let failed = err_from_is_err_and c.from_residual-in_err-crew.result
    c.from_residual-in_err-crew.ensures.1 in
    let memory : failed.0 ≡ fault.Memory
    = failed.2 ∙ crew_has_memory c.new-2.new.roster _ _ c.in_err-crew.field-0.0 as_many
    (rw (
      c.in_ok-pipe.ensures.given,
      c.start-roster.ensures.roster.pids,
      c.start-roster.ensures.roster.words_are,
      ends,
    )
    (let enough = c.in_ok-kernel.ensures.procs in omega (arith, enough)))
    c.in_err-crew.ensures.fault in
    is_not_bad c.from_residual-in_err-crew.result failed.0 _ failed.1 memory
    (subst (λ (n : ℕ). ¬ IsBadQueue c.args.limit n) many good)

pub returns-in_err-crew-clause-faults : goal.returns-in_err-crew-clause-faults
returns-in_err-crew-clause-faults g c =
    let few : c.len-writers.result ≤ MAX_WRITERS = omega arith in
    let good : ¬ IsBadQueue c.args.limit c.len-writers.result
    = is_no_bad_queue c.args.limit c.len-writers.result (grind arith) (omega arith) (grind arith)
    (omega arith) in
    let many : c.len-writers.result ≡ length c.args.messages.items = search rules in
    let start : IsStartOf c.in_ok-pipe.field-0.pipe c.in_ok-pipe.field-0.start = search rules in
    let ends : length c.parts-writes.result.writes.items ≡ c.len-writers.result
    = ap length c.parts-writes.ensures.writes
    ∙ as_many_ends c.in_ok-pipe.field-0.pipe.there c.in_ok-pipe.field-0.start.there
    c.ends-first.result.first.read c.ends-first.result.second.writes.items c.args.limit
    c.len-writers.result start.there c.ends-first.ensures.there
    c.in_ok-pipe.ensures.opened.there_key in
    let as_many = sym many ∙ sym ends in
    let failed = err_from_is_err_and c.from_residual-in_err-crew.result
    c.from_residual-in_err-crew.ensures.1 in
    let memory : failed.0 ≡ fault.Memory
    = failed.2 ∙ crew_has_memory c.new-2.new.roster _ _ c.in_err-crew.field-0.0 as_many
    (rw (
      c.in_ok-pipe.ensures.given,
      c.start-roster.ensures.roster.pids,
      c.start-roster.ensures.roster.words_are,
      ends,
    )
    (let enough = c.in_ok-kernel.ensures.procs in omega (arith, enough)))
    c.in_err-crew.ensures.fault in
    is_memory c.from_residual-in_err-crew.result failed.0 failed.1 memory
