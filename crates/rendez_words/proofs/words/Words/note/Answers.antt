-- The pid is one of a process, and the bits that are set are the notes alone.
use Rattle.std.proofs.Common.{ap, arith, refl}
use Rattle.rendez_words.specs.declared.view.Sizes.{Sizes}
use Rattle.rendez_words.proofs.KindSteps.{note_step}
use Rattle.rendez_words.proofs.words.Words.note.Goals as goal

pub set_flags-unwoken-requires-clause-step : goal.set_flags-unwoken-requires-clause-step
set_flags-unwoken-requires-clause-step c =
    let branch = c.if-pid-self.false in
    let sizes = c.args.self.now.sizes_are in
    let same = ap (λ (k : Sizes). k.procs) sizes in
    note_step c.args.self.now c.seat.inside.caller _ _ _ _
    (omega arith) refl c.word_from-bits.ensures
