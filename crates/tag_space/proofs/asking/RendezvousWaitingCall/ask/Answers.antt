-- The call was met, or waits on.
use Rattle.std.proofs.Common.{refl, subst, inl, inr}
use Rattle.tag_space.specs.Asking.{IsCollected}
use Rattle.tag_space.proofs.asking.RendezvousWaitingCall.ask.Goals as goal

pub unreachable-requires : goal.unreachable-requires
unreachable-requires g c =
    let space = c.args.self.now.space.now in
    let collected = c.collect.ensures.collected in
    elim c.in-Met.is [
      | inl met ↦ subst (IsCollected space c.collect.new.member) met.3 collected
      | inr (inl worn) ↦ subst (IsCollected space c.collect.new.member) worn collected
      | inr (inr (inl gone)) ↦ subst (IsCollected space c.collect.new.member) gone collected
      | inr (inr (inr busy)) ↦ subst (IsCollected space c.collect.new.member) busy collected
    ]

pub returns-in-WasMet-clause-asked : goal.returns-in-WasMet-clause-asked
returns-in-WasMet-clause-asked g c =
    record { requested = c.in-WasMet.ensures.requested; idle = refl }

pub returns-in-Wait-clause-stands : goal.returns-in-Wait-clause-stands
returns-in-Wait-clause-stands g c = c.in-Wait.ensures.collected.1

pub returns-in-Wait-clause-low : goal.returns-in-Wait-clause-low
returns-in-Wait-clause-low g c = c.in-Wait.ensures.collected.0

pub returns-in-Wait-clause-asked : goal.returns-in-Wait-clause-asked
returns-in-Wait-clause-asked g c =
    record { requested = c.in-Wait.ensures.requested; idle = refl }
