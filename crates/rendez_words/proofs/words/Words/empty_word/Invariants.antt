-- the event that the step makes, by the load or by the swap
use Rattle.rendez_words.proofs.words.Words.empty_word.Given as goal

abbrev pub ghosts-load_empty : goal.ghosts-load_empty
ghosts-load_empty a = record { event = a._event.now; sizes = a.self.now.table.shared.key }

abbrev pub ghosts-swap : goal.ghosts-swap
ghosts-swap a = record { event = a._event.now; sizes = a.self.now.table.shared.key }
