-- the event that the step makes
use Rattle.rendez_words.proofs.words.Words.raise.Given as goal

abbrev pub ghosts-fetch_max : goal.ghosts-fetch_max
ghosts-fetch_max a = record { event = a._event.now; sizes = a.self.now.table.shared.key }
