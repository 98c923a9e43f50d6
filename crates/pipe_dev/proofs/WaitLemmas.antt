-- The wakeups of a pipe, by the law of all devices: a wakeup that has returned releases its
-- sleeper.
use Rattle.std.proofs.Common.{◌≡◌, ◌⊎◌, inl, inr, ℕ, zero, suc, ◌<◌}
use Rattle.std.proofs.Common.{List, [], ◌∷◌, refl, sym, subst, arith}
use Rattle.std.specs.List.{AllByRecursion}
use Rattle.sync_base.specs.declared.limits.TheConstants.{TOP_LEVEL}
use Rattle.rendez_words.specs.Process.{Process}
use Rattle.sleep_core.specs.Laws.{ReleasesBelow}
use Rattle.sleep_core.specs.Runs.{world_of}
use Rattle.pipe_dev.specs.declared.row.Row.{Row}
use Rattle.pipe_dev.specs.Rendezes.{WakesWriters, reader_rendez, writer_rendez}
use Rattle.pipe_dev.specs.WaitLaws.{WritesWakeTheReader, ReadsWakeEachWriter, HangupsWakeAll}
use Rattle.waiting.specs.Wakeups.{Wakeup, WakesEach}
use Rattle.waiting.proofs.WakeupLemmas.{returned_release}

abbrev of_reader : Row → ℕ → Wakeup
of_reader row level = record { rendez = reader_rendez row; level = level }

abbrev of_writer : Row → ℕ → ℕ → Wakeup
of_writer row level writer = record { rendez = writer_rendez row writer; level = level }

-- the wakeups of the first so many writers with this level, after others
abbrev of_writers : Row → ℕ → ℕ → List Wakeup → List Wakeup
of_writers row zero level past = past
of_writers row (suc count) level past =
    of_writer row level count ∷ of_writers row count level past

module _ (row : Row) (level : ℕ) (past : List Wakeup) where
  -- just these were made
  wakes_each : (count : ℕ) (first between after : Process) → WakesEach past first between
      → WakesWriters row count level between after
      → WakesEach (of_writers row count level past) first after
  wakes_each zero first between after woken same =
      subst (WakesEach past first) (sym same) woken
  wakes_each (suc count) first between after woken wakes =
      record {
        between = wakes.between;
        others = wakes_each count first between wakes.between woken wakes.rounds;
        last = wakes.last;
      }

  module _ (Holds : Wakeup → Type 0) where
    -- what holds of each holds of the wakeup of each writer
    of_each : (count writer : ℕ) → writer < count
        → AllByRecursion Holds (of_writers row count level past)
        → Holds (of_writer row level writer)
    of_each zero writer low all = absurd (omega (arith, low))
    of_each (suc count) writer low all =
        by (at_or_below writer count low) (λ lower. of_each count writer lower all.1)
      where
        at_or_below : (a b : ℕ) → a < suc b → (a ≡ b) ⊎ (a < b)
        at_or_below a b low = grind arith

        by : (writer ≡ count) ⊎ (writer < count)
            → (writer < count → Holds (of_writer row level writer))
            → Holds (of_writer row level writer)
        by (inl same) others = subst (λ n. Holds (of_writer row level n)) (sym same) all.0
        by (inr lower) others = others lower

    -- and of the others
    of_past : (count : ℕ) → AllByRecursion Holds (of_writers row count level past)
        → AllByRecursion Holds past
    of_past zero all = all
    of_past (suc count) all = of_past count all.1

-- once a write has returned, whoever fell asleep on the reader's Rendez below its number is not
-- posted there
pub writes_wake_the_reader : WritesWakeTheReader
writes_wake_the_reader sizes s shows call number old new accepts gone =
    (returned_release sizes s shows (of_reader call.row number ∷ []) old.process new.process
    (record { between = old.process; others = refl; last = accepts.woken }) gone).0

-- once a read that took writes out has returned, whoever fell asleep on a writer's Rendez below the
-- number of the last of them is not posted there
pub reads_wake_each_writer : ReadsWakeEachWriter
reads_wake_each_writer sizes s shows row number before after woken gone writer low =
    of_each row number []
    (λ wakeup. ReleasesBelow (world_of sizes.procs sizes.rendez shows.run) wakeup.rendez
    wakeup.level) row.writers writer low
    (returned_release sizes s shows (of_writers row row.writers number []) before after
    (wakes_each row number [] row.writers before before after refl woken) gone)

-- once a hangup has returned, whoever fell asleep on a Rendez of the direction is not posted there
pub hangups_wake_all : HangupsWakeAll
hangups_wake_all sizes s shows row before after wakes gone =
    let Releases : Wakeup → Type 0 =
    λ wakeup. ReleasesBelow (world_of sizes.procs sizes.rendez shows.run) wakeup.rendez
    wakeup.level in
    let past = of_reader row TOP_LEVEL ∷ [] in
    let all = returned_release sizes s shows (of_writers row row.writers TOP_LEVEL past) before
    after
    (wakes_each row TOP_LEVEL past row.writers before wakes.between after
    (record { between = before; others = refl; last = wakes.reader }) wakes.writers) gone in
    record {
      reader = (of_past row TOP_LEVEL past Releases row.writers all).0;
      writers = λ writer low. of_each row TOP_LEVEL past Releases row.writers writer low all;
    }
