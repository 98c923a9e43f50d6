-- By what every run keeps, and by induction over the run.
use Rattle.sleep_core.proofs.NoLostWakeup.{runs_are_sound}
use Rattle.sleep_core.proofs.laws.runs_are_sound.Goals as goal

pub returns : goal.returns
returns c = runs_are_sound
