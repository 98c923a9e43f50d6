-- The events so far were answered, and those to come go on from the world that they left.
use Rattle.std.proofs.Common.{◌≡◌, ◌≤◌, ◌++◌, length, drop, vec_len, vec_capacity}
use Rattle.sleep_core.specs.Runs.{answers_to_all, world_after_all}
use Rattle.sleep_core.proofs.world.World.run.Given as goal

-- what was answered so far and what is left give the whole run, and there is room for the rest
abbrev pub invariant-loop-event : goal.invariant-loop-event
invariant-loop-event l = record {
  told : l.answers.items ++ answers_to_all l.self (drop l.event-index l.events)
      ≡ answers_to_all l.fn.self l.events;
  after : world_after_all l.self (drop l.event-index l.events) ≡ world_after_all l.fn.self l.events;
  answered : vec_len l.answers ≡ l.event-index;
  room : length l.events ≤ vec_capacity l.answers;
}
