-- A wakeup that has returned stands in the steps of whoever made it, and releases its sleeper.
use Rattle.std.proofs.Common.{inl, inr, ℕ, List, [], ◌∷◌, ◌++◌, Option, None, Some, sym, subst}
use Rattle.std.specs.List.{cons_option, AllByRecursion}
use Rattle.sync_base.specs.declared.ids.RendezId.{RendezId}
use Rattle.sleep_core.specs.declared.answer.Answer.TheVariants as answer
use Rattle.sleep_core.specs.declared.event.Event.TheVariants.{Raise, Take, Mark}
use Rattle.sleep_core.specs.History.{Effect, HasReturned, effect_of, history_of}
use Rattle.sleep_core.specs.History.Effect.{Missed, Marked}
use Rattle.sleep_core.specs.Laws.{ReleasesBelow}
use Rattle.sleep_core.specs.Runs.{Entry, world_of}
use Rattle.rendez_words.specs.declared.view.Sizes.{Sizes}
use Rattle.rendez_words.specs.Process.{Process, pid_in, sleeper_of}
use Rattle.rendez_words.specs.Rule.{ShowsCore}
use Rattle.rendez_words.specs.Steps.{raises, takes}
use Rattle.rendez_words.proofs.LawLemmas.{receipts_release}
use Rattle.sleep_wakeup.specs.Calls.{Ends}
use Rattle.sleep_wakeup.specs.Actions.{WakesOne}
use Rattle.waiting.specs.Wakeups.{Wakeup, WakesEach, HasGoneOn, ReturnedCallsRelease}

-- what has returned stays so
returned_cons : (effect : Option Effect) (past : List Effect) (rendez level : ℕ)
    → HasReturned past rendez level → HasReturned (cons_option effect past) rendez level
returned_cons None past rendez level returned = returned
returned_cons (Some (Missed by)) past rendez level returned = inr returned
returned_cons (Some (Marked by sleeper)) past rendez level returned = inr returned
returned_cons (Some effect) past rendez level returned = returned

-- in the steps of a process
abbrev Has : RendezId → ℕ → List Entry → Type 0
Has rendez level trace = HasReturned (history_of trace) rendez.0 level

has_more : (entry : Entry) (trace : List Entry) (rendez : RendezId) (level : ℕ)
    → Has rendez level trace → Has rendez level (entry ∷ trace)
has_more entry trace rendez level returned =
    returned_cons (effect_of entry.answer entry.event) (history_of trace) rendez.0 level returned

has_since : (since trace : List Entry) (rendez : RendezId) (level : ℕ)
    → Has rendez level trace → Has rendez level (since ++ trace)
has_since [] trace rendez level returned = returned
has_since (entry ∷ since) trace rendez level returned =
    has_more entry (since ++ trace) rendez level (has_since since trace rendez level returned)

-- a wakeup has returned
has_woken : (before : Process) (rendez : RendezId) (level : ℕ) (after : Process)
    → WakesOne before rendez level after → Has rendez level after.trace
has_woken before rendez level after wakes =
    subst (λ (r : RendezId). Has r level after.trace) wakes.woken.rendez_is
    (subst (λ (n : ℕ). Has wakes.receipt.rendez n after.trace) wakes.woken.level_is
    wakes.woken.receipt)

-- and what had returned before has returned still
has_still : (before : Process) (woken : RendezId) (level' : ℕ) (after : Process) (rendez : RendezId)
    (level : ℕ) → WakesOne before woken level' after → Has rendez level before.trace
    → Has rendez level after.trace
has_still before woken level' after rendez level wakes returned = by wakes.woken.ends
  where
    raised : Process
    raised = raises before woken level'

    raised_has : Has rendez level raised.trace
    raised_has =
        has_more (record {
          maker = before.pid;
          event = Raise (pid_in before) woken level';
          answer =
              answer.Owing;
        })
        before.trace rendez level returned

    by : Ends raised after → Has rendez level after.trace
    by (inl nobody) =
        subst (λ (p : Process). Has rendez level p.trace) (sym nobody)
        (has_more
        (record { maker = raised.pid; event = Take (pid_in raised); answer = answer.Nobody })
        raised.trace rendez level raised_has)
    by (inr sleeper) =
        subst (λ (p : Process). Has rendez level p.trace) (sym sleeper.1)
        (has_more
        (record {
          maker = raised.pid;
          event = Mark (pid_in raised);
          answer =
              answer.Marked (sleeper_of (takes raised sleeper.0));
        })
        (takes raised sleeper.0).trace rendez level
        (has_more
        (record {
          maker = raised.pid;
          event = Take (pid_in raised);
          answer =
              answer.Holding sleeper.0;
        })
        raised.trace rendez level raised_has))

module _ (sizes : Sizes) (s : _) (shows : ShowsCore sizes s) (now : Process)
    (gone : HasGoneOn s.views now) where
  -- whoever sleeps there is released
  releases : (rendez : RendezId) (level : ℕ) → Has rendez level now.trace
      → ReleasesBelow (world_of sizes.procs sizes.rendez shows.run) rendez level
  releases rendez level returned =
      receipts_release sizes s shows gone.seat gone.part rendez level gone.there
      (subst (λ (trace : List Entry). Has rendez level trace) (sym gone.since.new_is)
      (has_since gone.since.since now.trace rendez level returned))

  -- of each of the wakeups, whatever else the process has done since
  all_release : (wakeups : List Wakeup) (before after : Process) → WakesEach wakeups before after
      → ((rendez : RendezId) (level : ℕ) → Has rendez level after.trace
      → Has rendez level now.trace)
      → AllByRecursion (λ (wakeup : Wakeup).
      ReleasesBelow (world_of sizes.procs sizes.rendez shows.run) wakeup.rendez wakeup.level)
      wakeups
  all_release [] before after wakes on = tt
  all_release (wakeup ∷ wakeups) before after wakes on = (
    releases wakeup.rendez wakeup.level
        (on wakeup.rendez wakeup.level
        (has_woken wakes.between wakeup.rendez wakeup.level after wakes.last)),
    all_release wakeups before wakes.between wakes.others
        (λ rendez level has. on rendez level
        (has_still wakes.between wakeup.rendez wakeup.level after rendez level wakes.last has)),
  )

-- the law of all devices
pub returned_release : ReturnedCallsRelease
returned_release sizes s shows wakeups before after wakes gone =
    all_release sizes s shows after gone wakeups before after wakes (λ rendez level has. has)
