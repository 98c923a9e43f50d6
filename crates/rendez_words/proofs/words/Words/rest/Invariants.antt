-- A look that found nothing leaves the process as it was.
use Rattle.std.proofs.Common.{◌≡◌}
use Rattle.rendez_words.proofs.words.Words.rest.Given as goal

-- no look has changed the process that has announced itself
abbrev pub invariant-loop : goal.invariant-loop
invariant-loop g l =
    (goal.iterator-loop g).can_next l.iterator' × (goal.iterator-loop g).is_finite l.iterator'
    × (l.announced ≡ l.fn.caller)
