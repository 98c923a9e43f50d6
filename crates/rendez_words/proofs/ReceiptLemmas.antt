-- A wakeup that has returned stands in the steps of its process, and so does one that has begun.
use Rattle.std.proofs.Common.{◌≡◌, inl, ℕ, Some, refl, sym, ◌∙◌, ap, subst}
use Rattle.sync_base.specs.declared.ids.Pid.{Pid}
use Rattle.sync_base.specs.declared.ids.RendezId.{RendezId}
use Rattle.sleep_core.specs.declared.event.Event.TheVariants.{Take, Mark}
use Rattle.sleep_core.specs.declared.answer.Answer.TheVariants as answer
use Rattle.sleep_core.specs.declared.phase.Phase.{Phase}
use Rattle.sleep_core.specs.declared.phase.Phase.TheVariants as phase
use Rattle.sleep_core.specs.Table.{Word, cell_of, reply}
use Rattle.sleep_core.specs.Table.Word.{Number}
use Rattle.sleep_core.specs.Runs.{Entry, world_of, own, phase_by}
use Rattle.sleep_core.specs.History.{history_of, begun_wakeup}
use Rattle.sleep_core.proofs.CoreInvariant.{Fits}
use Rattle.sleep_core.proofs.KeptHistory.{history_of-kept}
use Rattle.sleep_core.proofs.CoreRuns.{core_of_run}
use Rattle.sleep_core.proofs.OwnEvents.{phase_by-kept_own}
use Rattle.sleep_core.proofs.OwnWakeups.{begun-own}
use Rattle.rendez_words.specs.declared.words.Words.{Words}
use Rattle.rendez_words.specs.Plays.{number_of, IsWordOf, part_of, HasMade}
use Rattle.rendez_words.specs.Process.{Process, phase_in, pid_in}
use Rattle.rendez_words.specs.Words.{IsProcessOf, HasReceipt, sizes_of, procs_of, rendez_of}
use Rattle.rendez_words.proofs.ProcessLemmas.{made_is}

-- what a process has begun by its own steps is what it has begun in the run
begun_is : (words : Words) (process : Process) (is : IsProcessOf words process)
    → begun_wakeup process.pid (history_of process.trace)
    ≡ begun_wakeup process.pid (history_of is.run.run)
begun_is words process is =
    ap (λ (trace : Rattle.std.specs.Prelude.List Entry). begun_wakeup process.pid
    (history_of trace)) is.run.trace_is
    ∙ ap (begun_wakeup process.pid) (history_of-kept (own process.pid is.run.run))
    ∙ begun-own (procs_of words) (rendez_of words) is.run.run is.run.legal process.pid

-- what the core says of the phase of a process
fits_phase : (words : Words) (process : Process) (stage : Phase) (is : IsProcessOf words process)
    → phase_in process ≡ stage
    → Fits (world_of (procs_of words) (rendez_of words) is.run.run)
    (history_of is.run.run) process.pid stage
fits_phase words process stage is stage_is =
    let s = world_of (procs_of words) (rendez_of words) is.run.run in
    subst (Fits s (history_of is.run.run) process.pid)
    (sym (phase_by-kept_own (procs_of words) (rendez_of words) is.run.run is.run.legal process.pid)
    ∙ ap phase_by (sym is.run.trace_is) ∙ stage_is)
    ((core_of_run (procs_of words) (rendez_of words) is.run.run is.run.legal).fits process.pid)

begun_owing : (words : Words) (process : Process) (rendez : RendezId) (level : ℕ)
    → IsProcessOf words process → phase_in process ≡ phase.Owing rendez level
    → begun_wakeup process.pid (history_of process.trace)
    ≡ Some (record { rendez = rendez.0; level = level })
begun_owing words process rendez level is owing =
    begun_is words process is ∙ (fits_phase words process (phase.Owing rendez level) is owing).begun

begun_holding : (words : Words) (process : Process) (sleeper : Pid) (rendez : RendezId) (level : ℕ)
    → IsProcessOf words process → phase_in process ≡ phase.Holding sleeper rendez level
    → begun_wakeup process.pid (history_of process.trace)
    ≡ Some (record { rendez = rendez.0; level = level })
begun_holding words process sleeper rendez level is holding =
    begun_is words process is
    ∙ (fits_phase words process (phase.Holding sleeper rendez level) is holding).raises.begun

-- nobody was found where the word is 0
told_nobody : (pid : Pid) (rendez : RendezId) (level : ℕ) (stage : Phase) (word : Word)
    → stage ≡ phase.Owing rendez level → IsWordOf (cell_of (Take pid) stage) word
    → 0 ≡ number_of word
    → reply (Take pid) stage word ≡ answer.Nobody
told_nobody pid rendez level stage word stage_is fits empty =
    ap (λ at. reply (Take pid) at word) stage_is
    ∙ found word (subst (λ at. IsWordOf (cell_of (Take pid) at) word) stage_is fits) empty
  where
    found : (w : Word) → IsWordOf (cell_of (Take pid) (phase.Owing rendez level)) w
        → 0 ≡ number_of w → reply (Take pid) (phase.Owing rendez level) w ≡ answer.Nobody
    found (Number n) fits empty = ap (λ m. reply (Take pid) (phase.Owing rendez level) (Number m))
        (sym empty)
    found word fits empty = absurd fits

-- a take that found nobody is the receipt of the wakeup that was owed
pub take_receipt : (words : Words) (before after : Process) (pid : Pid) (rendez : RendezId)
    (level found : ℕ) → pid ≡ pid_in before → IsProcessOf words before
    → phase_in before ≡ phase.Owing rendez level
    → after.table ≡ before.table → HasMade (sizes_of words) (Take pid) (part_of before) found
    (part_of after) → found ≡ 0 → HasReceipt after (record { rendez = rendez; level = level })
take_receipt words before after pid rendez level found pid_is is owing table has empty =
    subst (λ (p : Process). HasReceipt p (record { rendez = rendez; level = level }))
    (sym (made_is (sizes_of words) (Take pid) before found after answer.Nobody table has
    (told_nobody pid rendez level has.stage has.word (has.in_stage ∙ owing) has.word_is (sym empty
    ∙ has.found_is)) refl))
    (inl (ap (λ (p : Pid). begun_wakeup p.0 (history_of before.trace)) pid_is
    ∙ begun_owing words before rendez level is owing))

told_marked : (pid sleeper : Pid) (rendez : RendezId) (level : ℕ) (stage : Phase) (word : Word)
    → stage ≡ phase.Holding sleeper rendez level
    → reply (Mark pid) stage word ≡ answer.Marked sleeper
told_marked pid sleeper rendez level stage word stage_is =
    ap (λ at. reply (Mark pid) at word) stage_is

-- a mark of the sleeper that was held is the receipt of the wakeup
pub mark_receipt : (words : Words) (before after : Process) (pid sleeper : Pid) (rendez : RendezId)
    (level found : ℕ) → pid ≡ pid_in before → IsProcessOf words before
    → phase_in before ≡ phase.Holding sleeper rendez level
    → after.table ≡ before.table → HasMade (sizes_of words) (Mark pid) (part_of before) found
    (part_of after) → HasReceipt after (record { rendez = rendez; level = level })
mark_receipt words before after pid sleeper rendez level found pid_is is holding table has =
    subst (λ (p : Process). HasReceipt p (record { rendez = rendez; level = level }))
    (sym (made_is (sizes_of words) (Mark pid) before found after (answer.Marked sleeper) table has
    (told_marked pid sleeper rendez level has.stage has.word (has.in_stage ∙ holding)) refl))
    (inl (ap (λ (p : Pid). begun_wakeup p.0 (history_of before.trace)) pid_is
    ∙ begun_holding words before sleeper rendez level is holding))
