-- The first note, and each way through the loop over the other processes, from the notes that were
-- posted so far.
use Rattle.scripts.specs.declared.lines.TheConstants.{COMMA}
use Rattle.scripts.proofs.GroupLemmas.{posting_begins, posting_reads, posting_goes, posting_ends}
use Rattle.scripts.proofs.PartLemmas.{parted}
use Rattle.scripts.proofs.schedule.post_each.Goals as goal

pub loop-rest-init : goal.loop-rest-init
loop-rest-init c pids is =
    posting_begins _ c.args.group.pids _ _ _ _ _ is c.in_ok-answer_note.ensures.after
    c.in_ok-answer_note.ensures.text

pub loop-rest-preserved : goal.loop-rest-preserved
loop-rest-preserved c pids is =
    let number = c.in-Some-next_number.ensures.first in
    posting_goes _ _ _ _ _ _ _ _ _ _ _
    (rw (c.in-Some.is, number.parts) at (c.loop-rest.invariant pids is)) number.spells
    c.in_ok-answer_note-2.ensures.after c.in_ok-answer_note-2.ensures.text

pub returns-in_default-next_number : goal.returns-in_default-next_number
returns-in_default-next_number c pids is =
    let first = parted COMMA c.in-Some.text.now in
    absurd
    (posting_reads _ _ _ _ _ _ _ _
    (rw (c.in-Some.is, first.parts) at (c.loop-rest.invariant pids is))
    (c.in_default-next_number.ensures.first first.word first.others first.parts))

pub returns : goal.returns
returns c pids is =
    posting_ends _ _ _ _ _ _ (rw c.in_default.is at (c.loop-rest.invariant pids is))
