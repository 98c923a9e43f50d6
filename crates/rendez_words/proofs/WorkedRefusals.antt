-- Pids of other words, Rendez that are there, faults that do not say why, and what a check tells:
-- each against one row.
use Rattle.std.proofs.Common.{◌≡◌, ◌≢◌, ◌<◌, ◌+◌, ℕ, true, [], arith, refl, ap, sym, ◌∙◌}
use Rattle.sync_base.specs.declared.fault.Fault.TheVariants as fault
use Rattle.sync_base.specs.declared.ids.RendezId.{RendezId}
use Rattle.sync_base.specs.declared.limits.TheConstants.{TOP_LEVEL}
use Rattle.sleep_core.specs.declared.answer.Answer.TheVariants as answer
use Rattle.sleep_core.specs.declared.event.Event.TheVariants.{Check}
use Rattle.sleep_core.specs.declared.phase.Phase.TheVariants as phase
use Rattle.sleep_core.specs.Runs.{IsRun, world_of, own, kept}
use Rattle.sleep_core.specs.Step.{answer_to}
use Rattle.rendez_words.specs.declared.states.Done.{Done}
use Rattle.rendez_words.specs.declared.words.Words.{Words}
use Rattle.rendez_words.specs.Process.{Process, PidsLeft, IsOfRun, pid_in}
use Rattle.rendez_words.specs.Steps.{posts}
use Rattle.rendez_words.specs.Words.{table_of, procs_of, rendez_of, IsProcessOf, ArePidsOf, MayPost}
use Rattle.rendez_words.specs.Words.{WhyNotPosted, WhyNotRaised, HasReceipt, IsOfWakeup, IsChecked}

abbrev at_rendez : ℕ → RendezId
at_rendez number = record { 0 = number }

module _ (words : Words) (pids : PidsLeft) where
  pids_of_another_table : pids.table ≢ table_of words → ¬ ArePidsOf words pids
  pids_of_another_table other of_these = other of_these.table

  a_pid_past_the_last : ¬ ArePidsOf words (record pids { next = procs_of words + 1 })
  a_pid_past_the_last of_these = let next = of_these.next in omega (arith, next)

a_process_is_of_its_words_and_of_a_run : (words : Words) (process : Process)
    → IsProcessOf words process
    → (process.table ≡ table_of words) × (process.pid < procs_of words)
    × IsOfRun (procs_of words) (rendez_of words) process.pid process.trace
a_process_is_of_its_words_and_of_a_run words process is = (is.table, is.pid, is.run)

-- none is posted past the last Rendez, or for a level above the greatest
module _ (words : Words) (rendez : RendezId) where
  nobody_is_posted_past_the_last_rendez : ¬ MayPost words (at_rendez (rendez_of words)) 0
  nobody_is_posted_past_the_last_rendez may = let in_it = may.rendez_in in omega (arith, in_it)

  nobody_is_posted_for_more_than_the_greatest : ¬ MayPost words rendez TOP_LEVEL
  nobody_is_posted_for_more_than_the_greatest may = may.not_top refl

module _ (words : Words) (before after : Process) (rendez : RendezId) where
  a_rendez_that_is_there_is_no_reason : rendez.0 < rendez_of words
      → ¬ WhyNotPosted words before rendez 0 after fault.NoRendez
  a_rendez_that_is_there_is_no_reason there why =
      let out = why.0 in omega (arith, there, out)

  the_greatest_level_alone_is_a_reason : (threshold : ℕ)
      → WhyNotPosted words before rendez threshold after fault.BadLevel
      → (rendez.0 < rendez_of words) × (threshold ≡ TOP_LEVEL) × (after ≡ before)
  the_greatest_level_alone_is_a_reason threshold why = why

  -- the level is tested before who sleeps there
  a_sleeper_is_no_reason_before_the_level :
      ¬ WhyNotPosted words before rendez TOP_LEVEL after fault.DoubleSleep
  a_sleeper_is_no_reason_before_the_level why = why.0.not_top refl

  a_second_sleep_leaves_a_step : WhyNotPosted words before rendez 0 after fault.DoubleSleep
      → after ≡ posts before rendez 0 answer.DoubleSleep
  a_second_sleep_leaves_a_step why = why.1

  no_sleep_is_refused_for_memory : ¬ WhyNotPosted words before rendez 0 after fault.Memory
  no_sleep_is_refused_for_memory why = why

  no_wakeup_of_a_rendez_that_is_there_is_refused : rendez.0 < rendez_of words
      → ¬ WhyNotRaised words before rendez after fault.NoRendez
  no_wakeup_of_a_rendez_that_is_there_is_refused there why =
      let out = why.0 in omega (arith, there, out)

  no_wakeup_is_refused_for_its_level : ¬ WhyNotRaised words before rendez after fault.BadLevel
  no_wakeup_is_refused_for_its_level why = why

-- ---- a receipt of another wakeup

a_receipt_of_another_rendez : ¬ IsOfWakeup (phase.Owing (at_rendez 0) 5)
    (record { rendez = at_rendez 1; level = 5 })
a_receipt_of_another_rendez of_it = let one : 1 ≡ 0 = ap (λ it. it.0) of_it.0 in omega (arith, one)

module _ (level other : ℕ) (differ : other ≢ level) where
  a_receipt_of_another_level : ¬ IsOfWakeup (phase.Owing (at_rendez 0) level)
      (record { rendez = at_rendez 0; level = other })
  a_receipt_of_another_level of_it = differ of_it.1

  a_receipt_of_another_level_of_who_holds :
      ¬ IsOfWakeup (phase.Holding (record { 0 = 2 }) (at_rendez 0) level)
      (record { rendez = at_rendez 0; level = other })
  a_receipt_of_another_level_of_who_holds of_it = differ of_it.1

a_receipt_of_no_wakeup : ¬ IsOfWakeup phase.Idle (record { rendez = at_rendez 0; level = 5 })
a_receipt_of_no_wakeup of_it = of_it

who_made_no_step_has_no_receipt : (process : Process) (done : Done)
    → ¬ HasReceipt (record process { trace = [] }) done
who_made_no_step_has_no_receipt process done has = has

-- ---- what a check tells

module _ (words : Words) (sleeper raiser : Process) (checked : IsChecked words sleeper raiser true)
  where
    it_is_of_a_run : IsRun (procs_of words) (rendez_of words) checked.run
    it_is_of_a_run = checked.legal

    in_that_run_the_sleeper_is_posted_no_more :
        answer_to (world_of (procs_of words) (rendez_of words) checked.run) (Check (pid_in sleeper))
        ≡ answer.Released
    in_that_run_the_sleeper_is_posted_no_more = checked.answered

    -- that run has the steps of both: who checks itself is one process
    who_has_one_pid_has_one_trace : sleeper.pid ≡ raiser.pid → sleeper.trace ≡ raiser.trace
    who_has_one_pid_has_one_trace same =
        checked.sleeper_is
        ∙ ap (λ (pid : ℕ). kept (own pid checked.run)) same
        ∙ sym checked.raiser_is
