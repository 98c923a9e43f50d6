-- the event that the step makes
use Rattle.rendez_words.proofs.words.Words.clear.Given as goal

abbrev pub ghosts-swap : goal.ghosts-swap
ghosts-swap a = record { event = a._event.now; sizes = a.self.now.table.shared.key }
