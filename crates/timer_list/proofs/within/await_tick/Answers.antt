-- Each round is a look, and the last one brings the note.
use Rattle.std.proofs.Common.{suc, sym, ◌∙◌}
use Rattle.timer_list.specs.Timing.{awaiting}
use Rattle.timer_list.proofs.within.await_tick.Goals as goal

pub loop-preserved : goal.loop-preserved
loop-preserved g c =
    record {
      words = c.look_for_tick-set.ensures.words ∙ c.loop.invariant.words;
      looks = (
        suc c.loop.invariant.looks.0,
        record {
          between = awaiting c.loop.proc c.loop.notes;
          looks = c.loop.invariant.looks.1;
          took = c.if-not-expired.false;
          to_come = sym c.has.ensures ∙ c.if-has.false;
          set = c.look_for_tick-set.result;
          looked = c.look_for_tick-set.ensures.looked;
          notes_are = c.join-notes.ensures.value;
        },
      );
    }
