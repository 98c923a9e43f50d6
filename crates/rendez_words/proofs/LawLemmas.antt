-- The laws of running threads are those of the run that the rule gives.
use Rattle.std.proofs.Common.{List, sym, ◌∙◌, ap, subst}
use Rattle.sleep_core.specs.Runs.{Entry, phase_by}
use Rattle.sleep_core.specs.History.{history_of, HasReturned}
use Rattle.sleep_core.proofs.KeptHistory.{returns_by_kept_events}
use Rattle.sleep_core.proofs.NoLostWakeup.{no_lost_wakeup_lem, sleeps_end_for_a_cause}
use Rattle.sleep_core.proofs.NoLostWakeup.{returned_wakeup_releases}
use Rattle.sleep_core.proofs.OwnEvents.{phase_by-kept_own}
use Rattle.sleep_core.proofs.SleepPlaceLemmas.{sleepers_are_in_one_place, others_are_in_no_place}
use Rattle.sleep_core.proofs.SleepPlaceLemmas.{words_agree_in_runs}
use Rattle.rendez_words.specs.Laws.{ThreadsKeepPromises, EachSleeperHasAPlace, SeatsKnowPhases}
use Rattle.rendez_words.specs.Laws.{PidsToComeAreUnused, ReceiptsRelease}

-- in what running threads did no wakeup is lost, and each sleep that ended had a cause
pub threads_keep : ThreadsKeepPromises
threads_keep sizes s shows =
    record {
      kept = no_lost_wakeup_lem sizes.procs sizes.rendez shows.run shows.legal;
      caused = sleeps_end_for_a_cause sizes.procs sizes.rendez shows.run shows.legal;
    }

-- each process whose sleep is not over is in just one place, and no other process in any
pub sleepers_have_places : EachSleeperHasAPlace
sleepers_have_places sizes s shows =
    record {
      sleepers = sleepers_are_in_one_place sizes.procs sizes.rendez shows.run shows.legal;
      others = others_are_in_no_place sizes.procs sizes.rendez shows.run shows.legal;
      words = words_agree_in_runs sizes.procs sizes.rendez shows.run shows.legal;
    }

-- the steps that a seat has made give the phase of its process
pub seats_know : SeatsKnowPhases
seats_know sizes s shows seat part at =
    let seated = shows.each_seat seat _ at in
    sym (phase_by-kept_own sizes.procs sizes.rendez shows.run shows.legal part.pid)
    ∙ ap phase_by (sym seated.trace_is)

-- a pid that was not given to a process has made no step
pub pids_unused : PidsToComeAreUnused
pids_unused sizes s shows seat next pid at least = (shows.each_seat seat _ at pid least).none

-- a receipt in the steps of a seat releases every sleeper below its level
pub receipts_release : ReceiptsRelease
receipts_release sizes s shows seat part rendez level at receipt =
    let seated = shows.each_seat seat _ at in
    returned_wakeup_releases sizes.procs sizes.rendez shows.run shows.legal rendez level
    (returns_by_kept_events sizes.procs sizes.rendez shows.run shows.legal part.pid rendez.0 level
    (subst (λ (trace : List Entry). HasReturned (history_of trace) rendez.0 level) seated.trace_is
    receipt))
