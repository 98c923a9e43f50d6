-- Numbers, bytes and kinds that were printed are read back as what they were.
use Rattle.scripts.proofs.ReadBackLemmas.{numbers_read_back, bytes_read_back, kinds_read_back}
use Rattle.scripts.proofs.laws.printed_is_read_back.Goals as goal

pub returns-clause-numbers : goal.returns-clause-numbers
returns-clause-numbers c = numbers_read_back

pub returns-clause-bytes : goal.returns-clause-bytes
returns-clause-bytes c = bytes_read_back

pub returns-clause-kinds : goal.returns-clause-kinds
returns-clause-kinds c = kinds_read_back
