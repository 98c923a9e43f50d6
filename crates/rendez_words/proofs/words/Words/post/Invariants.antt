-- the event that the step makes
use Rattle.rendez_words.proofs.words.Words.post.Given as goal

abbrev pub ghosts-compare_exchange : goal.ghosts-compare_exchange
ghosts-compare_exchange a = record { event = a._event.now; sizes = a.self.now.table.shared.key }
