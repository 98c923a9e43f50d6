-- The call found a partner, waits, or was worn out.
use Rattle.std.proofs.Common.{refl, subst, inl, inr}
use Rattle.tag_space.specs.Asking.{IsCalled}
use Rattle.tag_space.proofs.asking.RendezvousWaitingCall.begin.Goals as goal

pub unreachable-requires : goal.unreachable-requires
unreachable-requires g c =
    let called = c.call.ensures.called in
    elim c.in-WasMet.is [
      | inl was ↦ subst (IsCalled c.args.self.now.space.now c.call.new.member) was.1 called
      | inr (inl gone) ↦ subst (IsCalled c.args.self.now.space.now c.call.new.member) gone called
      | inr (inr busy) ↦ subst (IsCalled c.args.self.now.space.now c.call.new.member) busy called
    ]

pub wake-requires-clause-partner : goal.wake-requires-clause-partner
wake-requires-clause-partner g c = c.in-Met.ensures.called.0

pub returns-in-Met-clause-stands : goal.returns-in-Met-clause-stands
returns-in-Met-clause-stands g c = c.in-Met.ensures.called.1

pub returns-in-Met-clause-asked : goal.returns-in-Met-clause-asked
returns-in-Met-clause-asked g c =
    record {
      other = c.in-Met.partner;
      count = c.in-Met.count;
      requested = c.in-Met.ensures.requested;
      woken = c.wake.ensures.woken;
    }

pub returns-in-Wait-clause-stands : goal.returns-in-Wait-clause-stands
returns-in-Wait-clause-stands g c = c.in-Wait.ensures.called.1

pub returns-in-Wait-clause-low : goal.returns-in-Wait-clause-low
returns-in-Wait-clause-low g c = c.in-Wait.ensures.called.0

pub returns-in-Wait-clause-asked : goal.returns-in-Wait-clause-asked
returns-in-Wait-clause-asked g c =
    record { requested = c.in-Wait.ensures.requested; idle = refl }

pub returns-in-Worn-clause-asked : goal.returns-in-Worn-clause-asked
returns-in-Worn-clause-asked g c =
    record { requested = c.in-Worn.ensures.requested; idle = refl }
