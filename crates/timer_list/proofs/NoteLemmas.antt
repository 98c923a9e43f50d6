-- The note of a tick is pending at the process of a timer that expired, or was taken since.
use Rattle.std.proofs.Common.{◌≡◌, ◌≢◌, ◌⊎◌, ◌<◌, inl, inr, ℕ, nat_lt, eqb, Bool, true, false}
use Rattle.std.proofs.Common.{if◌then◌else◌, List, [], ◌∷◌, ◌++◌, Some, None, refl}
use Rattle.std.proofs.Common.{ap, subst, arith, sym, ◌∙◌}
use Rattle.std.proofs.lemmas.Bool.{eqb-true}
use Rattle.std.proofs.lemmas.Bool.Decides.{nat_tests}
use Rattle.std.proofs.lemmas.List.Elements.{filter_map-append}
use Rattle.histories.specs.History.{IsPast}
use Rattle.histories.proofs.ListLemmas.{past_refl, past_cons, past_trans}
use Rattle.rendez_words.specs.declared.view.Sizes.{Sizes}
use Rattle.rendez_words.specs.Process.{Process}
use Rattle.rendez_words.specs.Rule.{ShowsCore}
use Rattle.sleep_core.specs.History.{Effect, effect_of, history_of}
use Rattle.sleep_core.specs.History.Effect.{Left, Noted, Drained}
use Rattle.sleep_core.specs.Promises.{AreNotesRight, pending}
use Rattle.sleep_core.specs.Runs.{Entry, is_kept, kept, own}
use Rattle.sync_base.specs.declared.ids.Pid.{Pid}
use Rattle.sync_base.specs.declared.note.Note.TheVariants.{Expired}
use Rattle.sync_base.specs.declared.note.NoteSet.{NoteSet}
use Rattle.sync_base.specs.NoteSet.{no_notes, holds}
use Rattle.rendez_words.proofs.LawLemmas.{threads_keep}
use Rattle.timer_list.specs.declared.timers.Timers.{Timers}
use Rattle.timer_list.specs.declared.timers.TimerSeat.{TimerSeat}
use Rattle.timer_list.specs.Ticking.{Expires, FindsNone}
use Rattle.timer_list.specs.WakeLaws.{HasTaken, telling, IsToldSince, AreToldSince}
use Rattle.timer_list.specs.WakeLaws.{TickingTellsEach}
use Rattle.waiting.proofs.Cases.{same_or_not}
use Rattle.waiting.specs.Waiting.{Point}
use Rattle.waiting.specs.Wakeups.{HasGoneOn}

-- ---- where a process's own step stands in the run

-- the step stands in the run, after just these of its maker
record StandsAfter (maker : ℕ) (step : Entry) (older run : List Entry) : Type 0 where
  since : List Entry
  past : List Entry
  run_is : run ≡ since ++ (step ∷ past)
  next : kept (own maker past) ≡ older
  own_is : step.maker ≡ maker

one_more : (maker : ℕ) (step : Entry) (older : List Entry) (entry : Entry) (run : List Entry)
    → StandsAfter maker step older run → StandsAfter maker step older (entry ∷ run)
one_more maker step older entry run stands =
    record {
      since = entry ∷ stands.since;
      past = stands.past;
      run_is = ap (λ (all : List Entry). entry ∷ all) stands.run_is;
      next = stands.next;
      own_is = stands.own_is;
    }

-- where these are the newer ones, if they are
abbrev IfAfter : ℕ → Entry → List Entry → List Entry → Type 0
IfAfter maker step older run =
    (newer : List Entry) → kept (own maker run) ≡ newer ++ (step ∷ older)
    → StandsAfter maker step older run

stands_after : (maker : ℕ) (step : Entry) (newer older run : List Entry)
    → kept (own maker run) ≡ newer ++ (step ∷ older) → StandsAfter maker step older run
stands_after maker step [] older [] none = absurd cc
stands_after maker step (entry ∷ newer) older [] none = absurd cc
stands_after maker step newer older (entry ∷ past) has =
    by (λ newer has. stands_after maker step newer older past has) (eqb entry.maker maker) refl
    has
  where
    it_is : IfAfter maker step older past → entry.maker ≡ maker → (newer : List Entry)
        → entry ∷ kept (own maker past) ≡ newer ++ (step ∷ older)
        → StandsAfter maker step older (entry ∷ past)
    it_is before same [] has =
        let first : entry ≡ step = cc in
        record {
          since = [];
          past = past;
          run_is = ap (λ (e : Entry). e ∷ past) first;
          next = cc;
          own_is = subst (λ (e : Entry). e.maker ≡ maker) first same;
        }
    it_is before same (other ∷ newer) has = one_more maker step older entry past (before newer cc)

    keeps : IfAfter maker step older past → (b : Bool) → entry.maker ≡ maker
        → (if b then entry ∷ kept (own maker past) else kept (own maker past))
        ≡ newer ++ (step ∷ older)
        → StandsAfter maker step older (entry ∷ past)
    keeps before true same has = it_is before same newer has
    keeps before false same has = one_more maker step older entry past (before newer has)

    by : IfAfter maker step older past → (b : Bool) → eqb entry.maker maker ≡ b
        → kept (if b then entry ∷ own maker past else own maker past) ≡ newer ++ (step ∷ older)
        → StandsAfter maker step older (entry ∷ past)
    by before true same has =
        keeps before (is_kept entry.answer entry.event) (eqb-true entry.maker maker same) has
    by before false other has = one_more maker step older entry past (before newer has)

-- ---- it is pending, or was taken since

abbrev IsThere : ℕ → List Effect → List Effect → Type 0
IsThere pid since past =
    (holds (pending (since ++ past) pid) Expired ≡ true) ⊎ HasTaken since pid

-- a note more
noted_too : (pid named : ℕ) (notes : NoteSet) (since past : List Effect)
    → IsThere pid since past → IsThere pid (Noted named notes ∷ since) past
noted_too pid named notes since past (inl there) = inl (grind (arith, nat_tests, there))
noted_too pid named notes since past (inr taken) = inr taken

-- somebody took these notes, which were all that were pending
taken_too : (pid by : ℕ) (notes : NoteSet) (since past : List Effect)
    → notes ≡ pending (since ++ past) by → IsThere pid since past
    → (holds (if eqb by pid then no_notes else pending (since ++ past) pid) Expired ≡ true)
    ⊎ (((by ≡ pid) × (holds notes Expired ≡ true)) ⊎ HasTaken since pid)
taken_too pid by notes since past all (inr taken) = inr (inr taken)
taken_too pid by notes since past all (inl there) = test (same_or_not by pid)
  where
    test : (by ≡ pid) ⊎ (by ≢ pid)
        → (holds (if eqb by pid then no_notes else pending (since ++ past) pid) Expired ≡ true)
        ⊎ (((by ≡ pid) × (holds notes Expired ≡ true)) ⊎ HasTaken since pid)
    test (inl same) = inr (inl (same, rw (all, same) there))
    test (inr other) = inl (grind (arith, nat_tests, there))

-- a sleep that ends well leaves no note pending
well_too : (pid by : ℕ) (since past : List Effect) → pending (since ++ past) by ≡ no_notes
    → IsThere pid since past → IsThere pid (Left by None ∷ since) past
well_too pid by since past none (inr taken) = inr taken
well_too pid by since past none (inl there) =
    inl (grind (arith, nat_tests, there, ap (λ set. holds set Expired) none))

is_there : (pid : ℕ) (since past : List Effect) → AreNotesRight (since ++ past)
    → holds (pending past pid) Expired ≡ true → IsThere pid since past
is_there pid [] past right came = inl came
is_there pid (Noted named notes ∷ since) past right came =
    noted_too pid named notes since past (is_there pid since past right came)
is_there pid (Drained by notes ∷ since) past right came =
    taken_too pid by notes since past right.0 (is_there pid since past right.1 came)
is_there pid (Left by (Some notes) ∷ since) past right came =
    taken_too pid by notes since past right.0.0 (is_there pid since past right.1 came)
is_there pid (Left by None ∷ since) past right came =
    well_too pid by since past right.0 (is_there pid since past right.1 came)
is_there pid (effect ∷ since) past right came = is_there pid since past right came

-- the note has just come
it_came : (teller : Process) (pid : Pid) (past : List Entry)
    → holds (pending (history_of (telling teller pid ∷ past)) pid.0) Expired ≡ true
it_came teller pid past = grind (arith, nat_tests)

-- ---- a tick

module _ (sizes : Sizes) (s : _) (shows : ShowsCore sizes s) (now : Process)
    (gone : HasGoneOn s.views now) where
  told : (teller : Process) (pid : Pid)
      → IsPast (telling teller pid ∷ teller.trace) now.trace → IsToldSince shows.run teller pid
  told teller pid past =
      let seated = shows.each_seat gone.seat _ gone.there in
      let longer = past_trans (telling teller pid ∷ teller.trace) now.trace gone.part.trace past
      gone.since in
      let stands = stands_after gone.part.pid (telling teller pid) longer.since teller.trace
      shows.run (sym seated.trace_is ∙ longer.new_is) in
      let history_is = ap (λ (run : List Entry). history_of run) stands.run_is
      ∙ filter_map-append (λ (entry : Entry). effect_of entry.answer entry.event) stands.since
      (telling teller pid ∷ stands.past) in
      let past_history = history_of (telling teller pid ∷ stands.past) in
      let there : IsThere pid.0 (history_of stands.since) past_history =
      is_there pid.0 (history_of stands.since) past_history
      (subst AreNotesRight history_is (threads_keep sizes s shows).kept.notes_right)
      (it_came teller pid stands.past) in
      record {
        since = stands.since;
        past = stands.past;
        run_is = stands.run_is;
        next = subst (λ maker. kept (own maker stands.past) ≡ teller.trace) (sym stands.own_is)
            stands.next;
        there = rw history_is there;
      }

  each_told : (timers : Timers) (kernel moment : ℕ) (ended : List Pid)
      (before after : Point TimerSeat)
      → (expires : Expires timers kernel moment ended before after)
      → IsPast after.process.trace now.trace
      → AreToldSince shows.run timers kernel moment ended before after expires
  each_told timers kernel moment [] before after expires on = tt
  each_told timers kernel moment (pid ∷ others) before after expires on = (
    λ below. told expires.between.process pid
        (subst (λ (p : Process). IsPast p.trace now.trace) (expires.tells.told below) on),
    each_told timers kernel moment others before expires.between expires.others
        (past_trans expires.between.process.trace after.process.trace now.trace
        (still (nat_lt pid.0 kernel) refl) on),
  )
    where
      still : (b : Bool) → nat_lt pid.0 kernel ≡ b
          → IsPast expires.between.process.trace after.process.trace
      still true below =
          rw (expires.tells.told below)
          (past_cons expires.between.process.trace expires.between.process.trace
          (telling expires.between.process pid) (past_refl expires.between.process.trace))
      still false above =
          rw (expires.tells.other above) (past_refl expires.between.process.trace)

-- by the steps of the ticking process, which stand in the run
pub ticking_tells : TickingTellsEach
ticking_tells sizes s shows timers kernel now count before after ticks gone =
    each_told sizes s shows after.process gone timers kernel now ticks.ended before ticks.last
    ticks.expires (by ticks.stops)
  where
    by : ((count < timers.procs) × FindsNone timers now ticks.last after)
        ⊎ ((count ≡ timers.procs) × (after ≡ ticks.last))
        → IsPast ticks.last.process.trace after.process.trace
    by (inl none) = rw none.1.idle (past_refl ticks.last.process.trace)
    by (inr all) = rw all.1 (past_refl ticks.last.process.trace)
