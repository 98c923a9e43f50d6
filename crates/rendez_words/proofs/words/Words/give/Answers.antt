-- A pid is left, so the seat that has it may give it to a new one.
use Rattle.std.proofs.Common.{rules, ◌<◌, sym, ap, subst, ◌∙◌, arith}
use Rattle.rendez_words.specs.View.{next_in}
use Rattle.rendez_words.specs.Words.{procs_of}
use Rattle.rendez_words.proofs.SeatKeeps.{gives}
use Rattle.rendez_words.proofs.words.Words.give.Goals as goal

pub split_seat-stepper-requires : goal.split_seat-stepper-requires
split_seat-stepper-requires c =
    let least = c.args.self.now.in_range.1.0 in
    let count = c.args.self.now.word_count in (
      search rules,
      omega arith,
      gives _ _ _ _ c.pids.invariant
          (subst (λ n. n < procs_of c.args.self.now) (sym (ap (λ pids. pids.next) c.pids.view_is)
          ∙ ap (λ me. next_in me.0) c.pids.invariant) c.requires.left),
    )
