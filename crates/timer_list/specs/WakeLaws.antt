-- No note of a tick is lost.
use Rattle.std.specs.Prelude.{◌≡◌, ◌⊎◌, ⊤, ℕ, nat_lt, true, List, [], ◌∷◌, ◌++◌, Some}
use Rattle.rendez_words.specs.declared.view.Sizes.{Sizes}
use Rattle.rendez_words.specs.Process.{Process}
use Rattle.rendez_words.specs.Rule.{ShowsCore}
use Rattle.sleep_core.specs.declared.answer.Answer.TheVariants.{Noted}
use Rattle.sleep_core.specs.declared.event.Event.TheVariants.{Note}
use Rattle.sleep_core.specs.History.{Effect, history_of}
use Rattle.sleep_core.specs.History.Effect.{Left, Drained}
use Rattle.sleep_core.specs.Promises.{pending}
use Rattle.sleep_core.specs.Runs.{Entry, own, kept}
use Rattle.sync_base.specs.declared.ids.Pid.{Pid}
use Rattle.sync_base.specs.declared.note.Note.TheVariants.{Expired}
use Rattle.sync_base.specs.NoteSet.{holds, only}
use Rattle.timer_list.specs.declared.timers.Timers.{Timers}
use Rattle.timer_list.specs.declared.timers.TimerSeat.{TimerSeat}
use Rattle.timer_list.specs.Ticking.{Ticks, Expires}
use Rattle.waiting.specs.Waiting.{Point}
use Rattle.waiting.specs.Wakeups.{HasGoneOn}

-- the process took the note of a tick: with the end of a sleep, or without a sleep
abbrev pub HasTaken : List Effect → ℕ → Type 0
HasTaken [] pid = ⊥
HasTaken (Left by (Some notes) ∷ past) pid =
    ((by ≡ pid) × (holds notes Expired ≡ true)) ⊎ HasTaken past pid
HasTaken (Drained by notes ∷ past) pid =
    ((by ≡ pid) × (holds notes Expired ≡ true)) ⊎ HasTaken past pid
HasTaken (effect ∷ past) pid = HasTaken past pid

-- the step in which a process posts the note of a tick to another
abbrev pub telling : Process → Pid → Entry
telling teller pid =
    record { maker = teller.pid; event = Note pid (only Expired); answer = Noted }

-- This process posted the note of a tick to that process, right after the steps that it had made,
-- and since then the note is pending, or that process took it.
pub record IsToldSince (run : List Entry) (teller : Process) (pid : Pid) : Type 0 where
  pub since : List Entry
  pub past : List Entry
  pub run_is : run ≡ since ++ (telling teller pid ∷ past)
  pub next : kept (own teller.pid past) ≡ teller.trace
  pub there : (holds (pending (history_of run) pid.0) Expired ≡ true)
      ⊎ HasTaken (history_of since) pid.0

module _ (run : List Entry) (timers : Timers) (kernel now : ℕ) where
  -- this holds of the process of each timer that this tick took, where its kernel has that process
  abbrev pub AreToldSince : (ended : List Pid) (before after : Point TimerSeat)
      → Expires timers kernel now ended before after → Type 0
  AreToldSince [] before after none = ⊤
  AreToldSince (pid ∷ others) before after more =
      (nat_lt pid.0 kernel ≡ true → IsToldSince run more.between.process pid)
      × AreToldSince others before more.between more.others

-- No note of a tick is lost. Once the tick has returned, for each timer that expired, the note that
-- the tick posted is pending at the timer's process, where its kernel has that process, or that
-- process has taken it since.
abbrev pub TickingTellsEach : Type 0
TickingTellsEach =
    (sizes : Sizes) (s : _) (shows : ShowsCore sizes s)
    → (timers : Timers) (kernel now count : ℕ) (before after : Point TimerSeat)
    → (ticks : Ticks timers kernel now count before after) → HasGoneOn s.views after.process
    → AreToldSince shows.run timers kernel now ticks.ended before ticks.last ticks.expires
