-- A run goes on by one event.
use Rattle.std.proofs.Common.{◌≡◌, ℕ, ◌+◌, ◌<◌, List, [], ◌∷◌, ◌++◌, length, get_or, drop, ap, ◌∙◌}
use Rattle.std.proofs.Common.{sym, append_assoc}
use Rattle.std.proofs.lemmas.List.{at_drop_more}
use Rattle.sleep_core.specs.declared.event.Event.{Event}
use Rattle.sleep_core.specs.declared.answer.Answer.{Answer}
use Rattle.sleep_core.specs.State.{State}
use Rattle.sleep_core.specs.Step.{answer_to, world_after}
use Rattle.sleep_core.specs.Runs.{answers_to_all, world_after_all}

-- the answers so far and those to come, after one more event
pub answers_to_all-more : (told : List Answer) (s : State) (events : List Event) (i : ℕ) (d : Event)
    → i < length events
    → (told ++ answer_to s (get_or events i d) ∷ []) ++ answers_to_all
    (world_after s (get_or events i d)) (drop (i + 1) events)
    ≡ told ++ answers_to_all s (drop i events)
answers_to_all-more told s events i d lt =
    append_assoc told (answer_to s (get_or events i d) ∷ [])
    (answers_to_all (world_after s (get_or events i d)) (drop (i + 1) events))
    ∙ ap (λ rest. told ++ rest) (sym (at_drop_more (answers_to_all s) events i d lt))

-- and the world
pub world_after_all-more : (s : State) (events : List Event) (i : ℕ) (d : Event) → i < length events
    → world_after_all (world_after s (get_or events i d)) (drop (i + 1) events)
    ≡ world_after_all s (drop i events)
world_after_all-more s events i d lt = sym (at_drop_more (world_after_all s) events i d lt)
