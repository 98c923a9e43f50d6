-- the event that the step makes
use Rattle.rendez_words.proofs.words.Words.set_flags.Given as goal

abbrev pub ghosts-fetch_or : goal.ghosts-fetch_or
ghosts-fetch_or a = record { event = a._event.now; sizes = a.self.now.table.shared.key }
