-- Each bit is read off in its turn, and what is left has the bits of the notes that follow.
use Rattle.std.proofs.Common.{Bool, List, [], ◌∷◌, ◌∙◌, ap}
use Rattle.sync_base.specs.declared.note.Note.TheVariants.{Interrupt, Hangup, Alarm, ClosedPipe}
use Rattle.sync_base.specs.declared.note.Note.TheVariants.{Expired}
use Rattle.sync_base.specs.NoteSet.{holds}
use Rattle.rendez_words.proofs.FlagsLemmas.{notes_read, flags_again}
use Rattle.rendez_words.proofs.flags_word.flags_in.Goals as goal

pub returns : goal.returns
returns c = λ flags is.
    let notes = flags.notes in
    let sixth : List Bool = holds notes Expired ∷ [] in
    let fifth : List Bool = holds notes ClosedPipe ∷ sixth in
    let fourth : List Bool = holds notes Alarm ∷ fifth in
    let third : List Bool = holds notes Hangup ∷ fourth in
    let second : List Bool = holds notes Interrupt ∷ third in
    let at_second = c.lowest_bit-wake.ensures.rest flags.wake second is in
    let at_third = c.lowest_bit-interrupt.ensures.rest (holds notes Interrupt) third at_second in
    let at_fourth = c.lowest_bit-hangup.ensures.rest (holds notes Hangup) fourth at_third in
    let at_fifth = c.lowest_bit-alarm.ensures.rest (holds notes Alarm) fifth at_fourth in
    let at_sixth = c.lowest_bit-closed_pipe.ensures.rest (holds notes ClosedPipe) sixth at_fifth in
    ap (λ found. record { wake = c.lowest_bit-wake.result; notes = found })
    (notes_read _ _ _ _ _ _ _ _ _ _ _ c.empty.ensures.value
    c.joined_if-notes.ensures c.joined_if-notes-2.ensures c.joined_if-notes-3.ensures
    c.joined_if-notes-4.ensures c.joined_if-notes-5.ensures)
    ∙ flags_again flags _ _ _ _ _ _
    (c.lowest_bit-wake.ensures.bit flags.wake second is)
    (c.lowest_bit-interrupt.ensures.bit (holds notes Interrupt) third at_second)
    (c.lowest_bit-hangup.ensures.bit (holds notes Hangup) fourth at_third)
    (c.lowest_bit-alarm.ensures.bit (holds notes Alarm) fifth at_fourth)
    (c.lowest_bit-closed_pipe.ensures.bit (holds notes ClosedPipe) sixth at_fifth)
    (c.lowest_bit-expired.ensures.bit (holds notes Expired) [] at_sixth)
