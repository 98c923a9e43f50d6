-- the event that the step makes
use Rattle.rendez_words.proofs.words.Words.released.Given as goal

abbrev pub ghosts-check : goal.ghosts-check
ghosts-check a = record { event = a._event.now; sizes = a.self.now.table.shared.key }
