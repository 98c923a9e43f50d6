-- The processes so far, and then the Rendez so far, are at the places of their numbers.
use Rattle.std.proofs.Common.{◌≡◌, ◌<◌, length, get_or, ℕ}
use Rattle.sleep_wakeup.specs.Status.{AreOfProcs}
use Rattle.sleep_wakeup.specs.declared.status.ProcStatus.{ProcStatus}
use Rattle.sleep_wakeup.specs.declared.status.RendezStatus.{RendezStatus}
use Rattle.sleep_wakeup.proofs.kernel.Kernel.see_all.Given as goal

-- each so far is the process of its place
abbrev pub invariant-loop-pid : goal.invariant-loop-pid
invariant-loop-pid l =
    (n : ℕ) (room : ProcStatus) → n < l.pid → n < length l.procs →
    (get_or l.procs n room).pid.0 ≡ n

-- as many as before, and each Rendez so far is that of its place
abbrev pub invariant-loop-number : goal.invariant-loop-number
invariant-loop-number l =
    record {
      procs : length l.procs ≡ length l.fn.procs;
      rendez : length l.rendez ≡ length l.fn.rendez;
      pids : AreOfProcs l.procs;
      ids : (n : ℕ) (room : RendezStatus) → n < l.number → n < length l.rendez →
          (get_or l.rendez n room).rendez.0 ≡ n;
    }
