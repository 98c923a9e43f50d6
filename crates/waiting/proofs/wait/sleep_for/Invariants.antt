-- the call has waited since it was told its first number
use Rattle.std.proofs.Common.{◌≡◌, ◌<◌, ℕ}
use Rattle.sync_base.specs.declared.limits.TheConstants.{TOP_LEVEL}
use Rattle.waiting.specs.Waiting.{Rounds, told}
use Rattle.waiting.proofs.wait.sleep_for.Given as goal

abbrev pub invariant-loop : goal.invariant-loop
invariant-loop g l =
    record {
      waits : g.C.WaitingCall.waits l.fn.call l.seat;
      row : g.C.WaitingCall.knows l.fn.call l.proc.words;
      fits : g.C.WaitingCall.fits l.fn.call l.buffer;
      words : l.proc.words ≡ l.fn.proc.words;
      low : l.number < TOP_LEVEL;
      times : ℕ;
      rounds : Rounds (g.C.WaitingCall.promise l.fn.call) l.fn.rendez times
          (told (g.C.WaitingCall.sight l.fn.seat l.fn.buffer) l.fn.proc l.fn.number)
          (told (g.C.WaitingCall.sight l.seat l.buffer) l.proc l.number);
    }
