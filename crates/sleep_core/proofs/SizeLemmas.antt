-- A world keeps its size.
use Rattle.std.proofs.Common.{◌≡◌, ℕ, Option, List, [], ◌∷◌, length, ◌∙◌}
use Rattle.std.proofs.lemmas.List.{length-set, length-replicate}
use Rattle.sleep_core.specs.declared.phase.Phase.TheVariants as phase
use Rattle.sleep_core.specs.State.{State}
use Rattle.sleep_core.specs.Runs.{Entry, world_of}
use Rattle.sleep_core.specs.History.{Effect}
use Rattle.sleep_core.proofs.Moves.{Move}
use Rattle.sleep_core.proofs.Moves.Move.{stays, post_posted, test_leaving, test_asleep, look_woken}
use Rattle.sleep_core.proofs.Moves.Move.{look_leaving, withdraw_out, withdraw_awaiting, clear_ended}
use Rattle.sleep_core.proofs.Moves.Move.{raise_owing, take_nobody, take_holding, mark_marked}
use Rattle.sleep_core.proofs.Moves.Move.{note_noted, drain_notes}
use Rattle.sleep_core.proofs.TableMoves.{table_moves}

-- a world of so many processes and Rendez
pub record HasSize (procs rendez : ℕ) (s : State) : Type 0 where
  -- it has a phase for each process
  pub phases : length s.phases ≡ procs
  -- it has a word for each Rendez in which a process may be posted
  pub posted : length s.posted ≡ rendez

size_kept : (procs rendez : ℕ) (s : State) {effect : Option Effect} {after : State}
    → Move s effect after
    → HasSize procs rendez s → HasSize procs rendez after
size_kept procs rendez s stays size = size
size_kept procs rendez s (post_posted {pid = pid} {rendez = at} {threshold = threshold} in_range
    idle there free)
    size = record {
      phases = length-set s.phases pid (phase.Posted at threshold) ∙ size.phases;
      posted = length-set s.posted at.0 _ ∙ size.posted;
    }
size_kept procs rendez s (test_leaving {pid = pid} {rendez = at} {threshold = threshold} in_range
    told) size =
    record {
      phases = length-set s.phases pid (phase.Leaving at) ∙ size.phases;
      posted = size.posted;
    }
size_kept procs rendez s (test_asleep {pid = pid} {rendez = at} {threshold = threshold} in_range
    told low) size =
    record {
      phases = length-set s.phases pid (phase.Asleep at threshold) ∙ size.phases;
      posted = size.posted;
    }
size_kept procs rendez s (look_woken {pid = pid} {stage = stage} in_range told waiting wake) size =
    record {
      phases = length-set s.phases pid phase.Woken ∙ size.phases;
      posted = size.posted;
    }
size_kept procs rendez s (look_leaving {pid = pid} {rendez = at} {threshold = threshold} in_range
    told noted)
    size = record {
      phases = length-set s.phases pid (phase.Leaving at) ∙ size.phases;
      posted = size.posted;
    }
size_kept procs rendez s (withdraw_out {pid = pid} {rendez = at} in_range told mine) size = record {
  phases = length-set s.phases pid phase.Out ∙ size.phases;
  posted = length-set s.posted at.0 0 ∙ size.posted;
}
size_kept procs rendez s (withdraw_awaiting {pid = pid} {rendez = at} in_range told other) size =
    record {
      phases = length-set s.phases pid phase.Awaiting ∙ size.phases;
      posted = size.posted;
    }
size_kept procs rendez s (clear_ended {pid = pid} {stage = stage} in_range at over) size = record {
  phases = length-set s.phases pid phase.Idle ∙ size.phases;
  posted = size.posted;
}
size_kept procs rendez s (raise_owing {pid = pid} {rendez = at} {level = level} in_range idle there)
    size
    = record {
      phases = length-set s.phases pid (phase.Owing at level) ∙ size.phases;
      posted = size.posted;
    }
size_kept procs rendez s (take_nobody {pid = pid} {rendez = at} {level = level} in_range told free)
    size
    = record {
      phases = length-set s.phases pid phase.Idle ∙ size.phases;
      posted = size.posted;
    }
size_kept procs rendez s
    (take_holding {pid = pid} {sleeper = sleeper} {rendez = at} {level = level} in_range told
    posted) size
    =
    record {
      phases = length-set s.phases pid (phase.Holding sleeper at level) ∙ size.phases;
      posted = length-set s.posted at.0 0 ∙ size.posted;
    }
size_kept procs rendez s
    (mark_marked {pid = pid} {sleeper = sleeper} {rendez = at} {level = level} in_range told) size =
    record {
      phases = length-set s.phases pid phase.Idle ∙ size.phases;
      posted = size.posted;
    }
size_kept procs rendez s (note_noted {pid = pid} {new = new} in_range) size = record {
  phases = size.phases;
  posted = size.posted;
}
size_kept procs rendez s (drain_notes {pid = pid} in_range idle) size = record {
  phases = size.phases;
  posted = size.posted;
}

-- a world keeps its size
pub size_of_run : (procs rendez : ℕ) (past : List Entry)
    → HasSize procs rendez (world_of procs rendez past)
size_of_run procs rendez [] = record {
  phases = length-replicate procs phase.Idle;
  posted = length-replicate rendez 0;
}
size_of_run procs rendez (entry ∷ past) =
    size_kept procs rendez (world_of procs rendez past)
    (table_moves (world_of procs rendez past) entry.event) (size_of_run procs rendez past)
