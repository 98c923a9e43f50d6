-- A word that is not touched stays.
use Rattle.sleep_core.specs.State.{phase_of}
use Rattle.sleep_core.specs.Table.{pid_of}
use Rattle.sleep_core.specs.Step.{answer_to}
use Rattle.sleep_core.proofs.LocalityLemmas.{word_at-world_told}
use Rattle.sleep_core.proofs.laws.local_step.Goals as goal

pub returns-clause-words : goal.returns-clause-words
returns-clause-words c state event cell differ =
    word_at-world_told state (phase_of state (pid_of event).0) event (answer_to state event) cell
    differ
