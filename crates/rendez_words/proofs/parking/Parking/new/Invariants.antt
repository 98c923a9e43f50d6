-- Each round adds a word.
use Rattle.std.proofs.Common.{◌≡◌, length}
use Rattle.rendez_words.proofs.parking.Parking.new.Given as goal

-- as many words as rounds so far
abbrev pub invariant-loop : goal.invariant-loop
invariant-loop l = length l.parks.items ≡ l.counter
