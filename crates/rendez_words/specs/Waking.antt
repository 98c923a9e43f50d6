-- What is asked of the caller that wakes a process.
use Rattle.std.specs.Prelude.{◌≡◌, ℕ, List, [], ◌∷◌}
use Rattle.sleep_core.specs.declared.event.Event.{Event}
use Rattle.sleep_core.specs.declared.event.Event.TheVariants.{Mark, Note}
use Rattle.sleep_core.specs.declared.answer.Answer.{Answer}
use Rattle.sleep_core.specs.declared.answer.Answer.TheVariants as answer
use Rattle.sleep_core.specs.Runs.{Entry}
use Rattle.rendez_words.specs.Process.{Process}

-- the step has set the flags of the process with this number: it was marked, or got notes
abbrev pub Sets : Event → Answer → ℕ → Type 0
Sets (Mark maker) (answer.Marked sleeper) pid = sleeper.0 ≡ pid
Sets (Note to set) answer.Noted pid = to.0 ≡ pid
Sets event told pid = ⊥

-- the newest of these steps has set them
abbrev pub IsNewestToSet : List Entry → ℕ → Type 0
IsNewestToSet [] pid = ⊥
IsNewestToSet (newest ∷ past) pid = Sets newest.event newest.answer pid

-- Own: a wake comes just after the step that set the flags.
abbrev pub HasSet : Process → ℕ → Type 0
HasSet process pid = IsNewestToSet process.trace pid
