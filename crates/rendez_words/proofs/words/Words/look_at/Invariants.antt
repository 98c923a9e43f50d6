-- the event that the step makes
use Rattle.rendez_words.proofs.words.Words.look_at.Given as goal

abbrev pub ghosts-load : goal.ghosts-load
ghosts-load a = record { event = a._event.now; sizes = a.self.now.table.shared.key }
