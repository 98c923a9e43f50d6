-- it took all notes, and those of other kinds are pending again
use Rattle.std.proofs.Common.{◌&&◌, ◌∙◌, ap, not, subst}
use Rattle.sync_base.specs.NoteSet.{holds}
use Rattle.plan9.specs.Notings.{ArePending}
use Rattle.plan9.proofs.noting.take_note.Goals as goal

pub returns : goal.returns
returns c =
    record {
      words_are = c.keep.ensures.words_are ∙ c.notes-came.ensures.words;
      came = c.notes-came.result;
      was_is = c.has.ensures;
      left = c.without-left.result;
      left_are = λ kind. c.without-left.ensures kind
          ∙ ap (λ other. holds c.notes-came.result kind && not other) (c.of.ensures.kinds kind);
      pending = subst
          (λ process. ArePending c.without-left.result process c.keep.new.proc.process)
          c.notes-came.ensures.taken c.keep.ensures.pending;
    }
