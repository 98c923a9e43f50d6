-- it goes on since it began
use Rattle.std.proofs.Common.{◌≡◌}
use Rattle.rendez_words.specs.Words.{procs_of}
use Rattle.kernel_lock.specs.Seats.{number_of}
use Rattle.timer_list.specs.Seats.{IsTimerSeatOf}
use Rattle.timer_list.proofs.TickLemmas.{IsTicking}
use Rattle.waiting.specs.Waiting.{point}
use Rattle.timer_list.proofs.timers.Timers.tick.Given as goal

abbrev pub invariant-loop-expired : goal.invariant-loop-expired
invariant-loop-expired g l =
    record {
      seat : IsTimerSeatOf l.self l.timer;
      words : l.proc.words ≡ l.initial.proc.words;
      number : number_of l.timer.seat ≡ number_of l.initial.timer.seat;
      ticks : IsTicking l.self (procs_of l.initial.proc.words) l.now l.expired
          (point l.initial.timer l.initial.proc) (point l.timer l.proc);
    }
