-- whoever waits at so many places was woken
use Rattle.std.proofs.Common.{◌≡◌, ◌≤◌}
use Rattle.messages.specs.Waking.{WakesAll}
use Rattle.messages.proofs.channel.Channel.wake_all.Given as goal

abbrev pub invariant-waking : goal.invariant-waking
invariant-waking g l =
    record {
      words : l.proc.words ≡ l.initial.proc.words;
      within : l.place ≤ l.self.handles;
      woken : WakesAll l.self l.place l.number l.initial.proc.process l.proc.process;
    }
