-- A seat that joined all others has all numbers, so the tail tells it how many writes are left.
use Rattle.std.proofs.Common.{sym, ap, subst, ◌∙◌, arith, ◌≡◌, ◌≤◌, ◌-◌, ◌%◌}
use Rattle.std.specs.List.{AllByRecursion}
use Rattle.histories.specs.Account.{HasItsEntries}
use Rattle.block_queue.specs.declared.places.TheConstants.{MARK}
use Rattle.block_queue.specs.Gather.{IsLeft, Empties, SawPasts}
use Rattle.block_queue.specs.Meaning.{queue_after}
use Rattle.block_queue.specs.History.{seat_of}
use Rattle.block_queue.specs.Seats.{head_view}
use Rattle.block_queue.proofs.GatherLemmas.{taken_within, left_within, is_left, hung_is}
use Rattle.block_queue.proofs.GatherLemmas.{blocks_left}
use Rattle.histories.proofs.ListLemmas.{past_refl}
use Rattle.histories.specs.History.{IsPast, IsLegal}
use Rattle.block_queue.specs.Meaning.{queue_meaning}
use Rattle.block_queue.specs.History.{opening_state}
use Rattle.std.proofs.Common.{length}
use Rattle.block_queue.proofs.queue.Queue.gather.Goals as goal

pub overflow_sub-accepted : goal.overflow_sub-accepted
overflow_sub-accepted c =
    let known = ap head_view c.into_seat-stepper.ensures.2 in
    let all = c.join_all.ensures.joined.all (ap (λ view. view.account.gave) (sym known) ∙
    c.requires.all.order) in
    let told = c.survey-tail.ensures.told in
    let taken = c.requires.take.taken ∙ ap (λ view. view.taken) known ∙
    sym c.join_all.ensures.taken in
    subst (λ n. n ≤ c.survey-tail.result % MARK) (sym taken)
    (taken_within c.args.self.now.key c.join_all.new.stepper.me.0 c.survey-tail.result all
    told.knows (told.alone all))

pub empty-requires-clause-left : goal.empty-requires-clause-left
empty-requires-clause-left c =
    let known = ap head_view c.into_seat-stepper.ensures.2 in
    let all = c.join_all.ensures.joined.all (ap (λ view. view.account.gave) (sym known) ∙
    c.requires.all.order) in
    let told = c.survey-tail.ensures.told in
    let taken = c.requires.take.taken ∙ ap (λ view. view.taken) known ∙
    sym c.join_all.ensures.taken in
    subst (λ me. IsLeft c.args.self.now.key me.0.account
    (c.survey-tail.result % MARK - c.args.take.taken)) (sym told.same)
    (subst (λ n. IsLeft c.args.self.now.key c.join_all.new.stepper.me.0.account
    (c.survey-tail.result % MARK - n)) (sym taken)
    (is_left c.args.self.now.key c.join_all.new.stepper.me.0 c.survey-tail.result all told.knows
    (told.alone all)))

pub empty-requires-clause-room : goal.empty-requires-clause-room
empty-requires-clause-room c =
    let known = ap head_view c.into_seat-stepper.ensures.2 in
    let all = c.join_all.ensures.joined.all (ap (λ view. view.account.gave) (sym known) ∙
    c.requires.all.order) in
    let told = c.survey-tail.ensures.told in
    let taken = c.requires.take.taken ∙ ap (λ view. view.taken) known ∙
    sym c.join_all.ensures.taken in
    let room : c.survey-tail.result % MARK - c.args.take.taken ≤ c.args.self.now.key.limit =
    subst (λ n. c.survey-tail.result % MARK - n ≤ c.args.self.now.key.limit) (sym taken)
    (left_within c.args.self.now.key c.join_all.new.stepper.me.0 c.survey-tail.result all told.knows
    (told.alone all)) in
    let capacity = c.in-Ok.ensures.capacity in
    omega arith

pub returns-clause-gathered : goal.returns-clause-gathered
returns-clause-gathered c =
    let known = ap head_view c.into_seat-stepper.ensures.2 in
    let all = c.join_all.ensures.joined.all (ap (λ view. view.account.gave) (sym known) ∙
    c.requires.all.order) in
    let told = c.survey-tail.ensures.told in
    let saw : SawPasts c.join_all.new.stepper.me.0.account.seen c.join_all.new.stepper.me.0 =
    record { seen = past_refl _; before = (told.alone all).pasts } in
    let emptied = subst (λ me. Empties c.args.self.now.key
    (c.survey-tail.result % MARK - c.args.take.taken) me.0.account
    c.empty.new.stepper.me.0.account c.empty.new.blocks.items) told.same c.empty.ensures.emptied
    in
    record {
      history = c.join_all.new.stepper.me.0.account.seen;
      legal = told.knows.history;
      past = subst (λ view. IsPast view.account.seen c.join_all.new.stepper.me.0.account.seen)
          (sym known) (c.join_all.ensures.pasts.reader _ saw);
      puts_past = c.join_all.ensures.pasts.writers _ saw tt;
      blocks_are = blocks_left c.args.self.now.key _ _ _
          (subst (IsLegal (queue_meaning c.args.self.now.key.first)
          (opening_state c.args.self.now.key.limit))
          emptied.seen emptied.none.knows.history.legal)
          (subst (λ history. length (queue_after c.args.self.now.key history).pipe.accepted ≡
          (queue_after c.args.self.now.key history).pipe.read_whole) emptied.seen
          (omega (arith, emptied.none.left_is)));
      mine = subst (λ view. AllByRecursion (HasItsEntries seat_of
          c.join_all.new.stepper.me.0.account.seen) view.account.shares) (sym known)
          (c.join_all.ensures.joined.theirs c.join_all.new.stepper.me.0.account.seen
          told.knows.mine);
      puts_mine = c.join_all.ensures.joined.puts_theirs c.join_all.new.stepper.me.0.account.seen
          told.knows.mine;
      final = c.empty.new.stepper.me.0.account;
      final_is = emptied.seen;
      none = emptied.none;
      hung = hung_is c.args.self.now.key c.join_all.new.stepper.me.0 c.survey-tail.result all
          told.knows (told.alone all);
    }
