-- a set is its kinds of note, and what is left has each that was there but the tick's
use Rattle.std.proofs.Common.{◌&&◌, not, ap, ◌∙◌}
use Rattle.sync_base.specs.NoteSet.{holds}
use Rattle.timer_list.proofs.TimedLemmas.{others_are}
use Rattle.timer_list.proofs.within.others.Goals as goal

pub returns : goal.returns
returns c =
    others_are c.without.result c.args.notes (λ note.
    c.without.ensures note
    ∙ ap (λ set. holds c.args.notes note && not (holds set note)) c.of.ensures.value)
