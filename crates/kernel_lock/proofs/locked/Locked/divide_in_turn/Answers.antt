-- Taking the lock, the next number and the release tell together what a split gives or refuses.
use Rattle.std.proofs.Common.{subst, sym, ◌∙◌}
use Rattle.kernel_lock.specs.View.{HasOwn}
use Rattle.kernel_lock.proofs.SplitLemmas.{is_inside, stays, split_is_due, no_slot, final_key}
use Rattle.kernel_lock.proofs.SplitLemmas.{final_stage, gives_knows, gives_child, gives_seat}
use Rattle.kernel_lock.proofs.SplitLemmas.{gives_history, gives_none}
use Rattle.kernel_lock.proofs.locked.Locked.divide_in_turn.Goals as goal

pub next_seat-child-requires-clause-inside : goal.next_seat-child-requires-clause-inside
next_seat-child-requires-clause-inside g c =
    is_inside g.O.Object.definition _ _ c.requires.outside.no_slot c.take.ensures.taken

pub next_seat-child-requires-clause-own : goal.next_seat-child-requires-clause-own
next_seat-child-requires-clause-own g c =
    subst HasOwn (sym c.take.ensures.taken.view_is) c.requires.own

pub give-requires-clause-due : goal.give-requires-clause-due
give-requires-clause-due g c =
    let next = c.next_seat-child.ensures in
    let stay = stays g.O.Object.definition c.args.self.now _ _ _ c.requires.stepper.key
    c.requires.outside.stage c.requires.outside.no_slot c.take.ensures.taken next.object
    c.next_seat-child.result next.child next.refused in
    split_is_due g.O.Object.definition c.args.self.now _ _ _ c.requires.stepper.key
    c.requires.outside.stage c.requires.outside.no_slot c.take.ensures.taken next.object
    c.next_seat-child.result stay

pub returns : goal.returns
returns g c =
    let next = c.next_seat-child.ensures in
    let d = g.O.Object.definition in
    let lock = c.args.self.now in
    let key = c.requires.stepper.key in
    let stage = c.requires.outside.stage in
    let none = c.requires.outside.no_slot in
    let taken = c.take.ensures.taken in
    let o = c.next_seat-child.result in
    let released = c.give.ensures.released in
    let stay = stays d lock _ _ _ key stage none taken next.object o next.child next.refused in
    record {
      stepper = record {
        table = c.give.ensures.stepper.table
            ∙ next.stepper.table
            ∙ c.take.ensures.stepper.table
            ∙ c.requires.stepper.table;
        key = final_key d lock _ _ _ key stage none taken next.object _ released o stay;
      };
      outside = record {
        stage = final_stage d lock _ _ _ key stage none taken next.object _ released o stay;
        no_slot = no_slot d lock _ _ _ key stage none taken next.object _ released;
      };
      history = gives_knows d lock _ _ _ key stage none taken next.object _ released o stay;
      child = gives_child d lock _ _ _ key stage none taken next.object _ released o stay;
      child_history = gives_history d lock _ _ _ key stage none taken next.object _ released o stay;
      given = gives_seat d lock _ _ _ key stage none taken next.object _ released o stay;
      refused = gives_none d lock _ _ _ key stage none taken next.object _ released o stay
          next.full;
    }
