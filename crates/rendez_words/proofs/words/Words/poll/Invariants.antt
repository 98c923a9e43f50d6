-- A look that found nothing leaves the process as it was.
use Rattle.std.proofs.Common.{◌≡◌}
use Rattle.rendez_words.proofs.words.Words.poll.Given as goal

-- no look has changed the process so far
abbrev pub invariant-loop-looks : goal.invariant-loop-looks
invariant-loop-looks l = l.caller ≡ l.fn.caller
