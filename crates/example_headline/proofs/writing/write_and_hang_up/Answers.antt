-- each writer wrote, and then hung up
use Rattle.example_headline.proofs.CrewLemmas.{at_each, each_then, ended_at_each, still_ended}
use Rattle.example_headline.proofs.writing.write_and_hang_up.Goals as goal

pub returns : goal.returns
returns g c =
    record {
      on = each_then c.args.writers.now c.write_each.new.writers c.hangup_each.new.writers
          (at_each c.args.writers.now c.write_each.new.writers c.write_each.auto.writers
          c.write_each.ensures.on)
          (at_each c.write_each.new.writers c.hangup_each.new.writers c.hangup_each.auto.writers
          c.hangup_each.ensures.on);
      ended = still_ended c.args.writers.now c.write_each.new.writers c.hangup_each.new.writers
          c.hangup_each.auto.writers c.hangup_each.ensures.ended
          (ended_at_each c.args.writers.now c.write_each.new.writers c.write_each.auto.writers
          c.write_each.ensures.ended);
    }
