-- Each writer's seat that is joined gives its number and its past; at the end none is left to join.
use Rattle.std.proofs.Common.{◌≡◌, List, [], ◌∷◌, length, refl, sym, ap, subst, ◌∙◌, arith}
use Rattle.block_queue.specs.declared.seats.PutSeat.{PutSeat}
use Rattle.block_queue.specs.Gather.{IsJoining, TellsPasts}
use Rattle.histories.specs.Changes.{joined_account}
use Rattle.block_queue.specs.Seats.{head_view, put_view}
use Rattle.block_queue.specs.Steps.{joined_view}
use Rattle.block_queue.proofs.JoiningLemmas.{none_told, one_told, none_joined, one_joined}
use Rattle.block_queue.proofs.JoiningLemmas.{all_joined, joined_free, last_seat}
use Rattle.block_queue.proofs.queue.Queue.join_all.Goals as goal

-- a list with no length is empty
no_more : (seats : List PutSeat) → length seats ≡ 0 → seats ≡ []
no_more [] none = refl
no_more (seat ∷ seats) none = absurd (omega arith)

pub joining-init : goal.joining-init
joining-init c = record {
  stepper = c.requires.stepper;
  taken = refl;
  puts = c.requires.puts;
  joining =
      none_joined c.args.self.now _ _ c.requires.stepper.own c.requires.none;
  pasts = none_told _ _;
}

pub into_seat-requires : goal.into_seat-requires
into_seat-requires c =
    let last = last_seat c.args.self.now _ _ _ c.in-Some.ensures.items c.joining.invariant.puts in
    (put_view c.in-Some.seat, last.0.views)

pub join-requires-clause-table : goal.join-requires-clause-table
join-requires-clause-table c =
    let last = last_seat c.args.self.now _ _ _ c.in-Some.ensures.items c.joining.invariant.puts in
    c.into_seat.ensures.0 ∙ last.0.table

pub join-requires-clause-stage : goal.join-requires-clause-stage
join-requires-clause-stage c =
    let last = last_seat c.args.self.now _ _ _ c.in-Some.ensures.items c.joining.invariant.puts in
    ap (λ view. view.stage) (sym (ap head_view c.into_seat.ensures.2)) ∙ last.0.stage

pub joining-preserved : goal.joining-preserved
joining-preserved c =
    let last = last_seat c.args.self.now _ _ _ c.in-Some.ensures.items c.joining.invariant.puts in
    let joined = c.join.ensures.joined in
    record {
      stepper = joined_free c.args.self.now c.joining.stepper c.join.new.stepper
          c.into_seat.result.me.0 c.joining.invariant.stepper c.join.ensures.stepper joined;
      taken = ap (λ me. me.0.taken) joined ∙ c.joining.invariant.taken;
      puts = last.1;
      joining = one_joined c.args.self.now c.args.puts.items c.args.stepper.now.me.0.account
          c.joining.stepper.me.0.account c.join.new.stepper.me.0.account c.joining.puts.items
          c.pop.new.self.items c.in-Some.seat c.in-Some.ensures.items c.joining.invariant.joining
          (ap (λ me. me.0.account) joined
          ∙ ap (λ view. joined_account c.joining.stepper.me.0.account view.account)
          (sym (ap head_view c.into_seat.ensures.2)))
          last.0.own;
      pasts = one_told c.args.puts.items c.args.stepper.now.me.0 c.joining.stepper.me.0
          c.join.new.stepper.me.0 c.joining.puts.items c.pop.new.self.items c.in-Some.seat
          c.in-Some.ensures.items c.joining.invariant.pasts
          (ap (λ me. me.0) joined ∙ ap (λ view. joined_view c.joining.stepper.me.0 view)
          (sym (ap head_view c.into_seat.ensures.2)));
    }

pub returns-clause-joined : goal.returns-clause-joined
returns-clause-joined c =
    let none : c.joining.puts.items ≡ [] =
    no_more c.joining.puts.items (omega (arith, c.in_default.ensures.cases)) in
    all_joined c.args.self.now c.args.puts.items c.args.stepper.now.me.0.account
    c.joining.stepper.me.0.account
    (subst (λ rest. IsJoining c.args.puts.items c.args.stepper.now.me.0.account rest
    c.joining.stepper.me.0.account) none c.joining.invariant.joining)

pub returns-clause-pasts : goal.returns-clause-pasts
returns-clause-pasts c =
    let none : c.joining.puts.items ≡ [] =
    no_more c.joining.puts.items (omega (arith, c.in_default.ensures.cases)) in
    subst (λ rest. TellsPasts c.args.puts.items c.args.stepper.now.me.0 rest c.joining.stepper.me.0)
    none c.joining.invariant.pasts
