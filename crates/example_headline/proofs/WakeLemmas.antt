-- The steps of a process become more, and a wakeup that has returned in them stays so.
use Rattle.std.proofs.Common.{◌≡◌, ◌⊎◌, ◌<◌, inl, inr, ℕ, zero, suc, List, [], ◌∷◌, ◌++◌, sym}
use Rattle.std.proofs.Common.{Option, None, Some, subst, arith}
use Rattle.std.specs.List.{cons_option, AllByRecursion}
use Rattle.histories.specs.History.{IsPast}
use Rattle.histories.proofs.ListLemmas.{all_weaker, past_refl, past_cons, past_append, past_trans}
use Rattle.sync_base.specs.declared.ids.RendezId.{RendezId}
use Rattle.sync_base.specs.declared.limits.TheConstants.{TOP_LEVEL}
use Rattle.sync_base.specs.declared.note.NoteSet.{NoteSet}
use Rattle.sleep_core.specs.declared.answer.Answer.{Answer}
use Rattle.sleep_core.specs.declared.answer.Answer.TheVariants as answer
use Rattle.sleep_core.specs.declared.event.Event.{Event}
use Rattle.sleep_core.specs.declared.event.Event.TheVariants.{Post, Test, Clear, Raise, Take, Mark}
use Rattle.sleep_core.specs.History.{Effect, HasReturned, effect_of, history_of}
use Rattle.sleep_core.specs.History.Effect.{Missed, Marked}
use Rattle.sleep_core.specs.Runs as core
use Rattle.sleep_core.specs.Table.{ending_of}
use Rattle.sleep_core.proofs.KeptHistory.{returns_by_kept_events}
use Rattle.sleep_core.proofs.NoLostWakeup.{returned_wakeup_releases}
use Rattle.rendez_words.specs.Process.{Process, made, pid_in, sleeper_of}
use Rattle.rendez_words.specs.Steps.{posts, tests, raises, takes}
use Rattle.sleep_wakeup.specs.Calls.{Ends, Sleeps}
use Rattle.sleep_wakeup.specs.Actions.{WakesOne}
use Rattle.block_queue.specs.declared.entry.Entry.{Entry}
use Rattle.block_queue.specs.declared.entry.Entry.TheVariants.{Taken, Block, Hung}
use Rattle.pipe_dev.specs.declared.row.Row.{Row}
use Rattle.pipe_dev.specs.Rendezes.{WakesAll, WakesWriters, reader_rendez, writer_rendez}
use Rattle.example_headline.specs.Crew.{HaveWoken}
use Rattle.example_headline.specs.Refusals.{WasAnswered}
use Rattle.example_headline.specs.Wakes.{HasReturnedIn, HasWoken, Wakes}

-- ---- steps become more

-- the one process is the other at an earlier time
abbrev pub Was : Process → Process → Type 0
Was before after = IsPast before.trace after.trace

-- what a process was before it made one step more
pub step_more : (before between : Process) (event : Event) (told : Answer) → Was before between
    → Was before (made between event told)
step_more before between event told was =
    past_cons before.trace between.trace
    (record { maker = between.pid; event = event; answer = told }) was

-- a sleep is steps more
pub sleep_more : (before : Process) (rendez : RendezId) (threshold : ℕ) (notes : NoteSet)
    (after : Process) → Sleeps before rendez threshold notes after → Was before after
sleep_more before rendez threshold notes after sleeps =
    let posted = posts before rendez threshold answer.Posted in
    let tested = tests posted sleeps.tested in
    let was = step_more before posted (Test (pid_in posted)) sleeps.tested
    (step_more before before (Post (pid_in before) rendez threshold) answer.Posted
    (past_refl before.trace)) in
    subst (λ (p : Process). Was before p) (sym sleeps.leaves.cleared)
    (past_cons before.trace (sleeps.leaves.waiting ++ tested.trace)
    (record { maker = tested.pid; event = Clear (pid_in tested); answer = ending_of notes })
    (past_append before.trace tested.trace sleeps.leaves.waiting was))

-- so is a wakeup
pub wake_more : (before : Process) (rendez : RendezId) (level : ℕ) (after : Process)
    → WakesOne before rendez level after → Was before after
wake_more before rendez level after wakes = by wakes.woken.ends
  where
    raised : Process
    raised = raises before rendez level

    was : Was before raised
    was =
        step_more before before (Raise (pid_in before) rendez level) answer.Owing
        (past_refl before.trace)

    by : Ends raised after → Was before after
    by (inl nobody) =
        subst (λ (p : Process). Was before p) (sym nobody)
        (step_more before raised (Take (pid_in raised)) answer.Nobody was)
    by (inr sleeper) =
        let taken = takes raised sleeper.0 in
        subst (λ (p : Process). Was before p) (sym sleeper.1)
        (step_more before taken (Mark (pid_in taken)) (answer.Marked (sleeper_of taken))
        (step_more before raised (Take (pid_in raised)) (answer.Holding sleeper.0) was))

-- so are the wakeups of some writers
pub writers_more : (row : Row) (level count : ℕ) (before after : Process)
    → WakesWriters row count level before after → Was before after
writers_more row level zero before after same =
    subst (λ (p : Process). Was before p) (sym same) (past_refl before.trace)
writers_more row level (suc count) before after wakes =
    past_trans before.trace wakes.between.trace after.trace
    (writers_more row level count before wakes.between wakes.rounds)
    (wake_more wakes.between (writer_rendez row count) level after wakes.last)

-- ---- wakeups that have returned

returned_cons : (effect : Option Effect) (past : List Effect) (rendez level : ℕ)
    → HasReturned past rendez level → HasReturned (cons_option effect past) rendez level
returned_cons None past rendez level returned = returned
returned_cons (Some (Missed by)) past rendez level returned = inr returned
returned_cons (Some (Marked by sleeper)) past rendez level returned = inr returned
returned_cons (Some effect) past rendez level returned = returned

returned_since : (since steps : List core.Entry) (rendez : RendezId) (level : ℕ)
    → HasReturnedIn steps rendez level → HasReturnedIn (since ++ steps) rendez level
returned_since [] steps rendez level returned = returned
returned_since (step ∷ since) steps rendez level returned =
    returned_cons (effect_of step.answer step.event) (history_of (since ++ steps)) rendez.0 level
    (returned_since since steps rendez level returned)

-- what has returned has returned when more steps were made
pub returned_still : (old new : List core.Entry) (rendez : RendezId) (level : ℕ) → IsPast old new
    → HasReturnedIn old rendez level → HasReturnedIn new rendez level
returned_still old new rendez level past returned =
    subst (λ (steps : List core.Entry). HasReturnedIn steps rendez level) (sym past.new_is)
    (returned_since past.since old rendez level returned)

-- a wakeup has returned
pub wake_returned : (before : Process) (rendez : RendezId) (level : ℕ) (after : Process)
    → WakesOne before rendez level after → HasReturnedIn after.trace rendez level
wake_returned before rendez level after wakes =
    subst (λ (r : RendezId). HasReturnedIn after.trace r level) wakes.woken.rendez_is
    (subst (λ (n : ℕ). HasReturnedIn after.trace wakes.receipt.rendez n) wakes.woken.level_is
    wakes.woken.receipt)

-- those of some writers have
pub writers_returned : (row : Row) (level count : ℕ) (before after : Process)
    → WakesWriters row count level before after → (writer : ℕ) → writer < count
    → HasReturnedIn after.trace (writer_rendez row writer) level
writers_returned row level zero before after same writer low = absurd (omega (arith, low))
writers_returned row level (suc count) before after wakes writer low =
    by (at_or_below writer count low)
    (writers_returned row level count before wakes.between wakes.rounds writer)
  where
    at_or_below : (a b : ℕ) → a < suc b → (a ≡ b) ⊎ (a < b)
    at_or_below a b low = grind arith

    by : (writer ≡ count) ⊎ (writer < count)
        → (writer < count → HasReturnedIn wakes.between.trace (writer_rendez row writer) level)
        → HasReturnedIn after.trace (writer_rendez row writer) level
    by (inl same) others =
        subst (λ (n : ℕ). HasReturnedIn after.trace (writer_rendez row n) level) (sym same)
        (wake_returned wakes.between (writer_rendez row count) level after wakes.last)
    by (inr lower) others =
        returned_still wakes.between.trace after.trace (writer_rendez row writer) level
        (wake_more wakes.between (writer_rendez row count) level after wakes.last) (others lower)

-- ---- the wakeups of an entry

-- what follows of each wakeup follows of those of an entry
pub wakes_weaker : (P Q : RendezId → ℕ → Type 0)
    → ((rendez : RendezId) (level : ℕ) → P rendez level → Q rendez level) → (row : Row)
    (entry : Entry) → Wakes P row entry → Wakes Q row entry
wakes_weaker P Q weaker row (Taken writer block number) wakes =
    weaker (reader_rendez row) number wakes
wakes_weaker P Q weaker row (Block writer block number) wakes =
    λ each low. weaker (writer_rendez row each) number (wakes each low)
wakes_weaker P Q weaker row (Hung seat) wakes = (
  weaker (reader_rendez row) TOP_LEVEL wakes.0,
  λ each low. weaker (writer_rendez row each) TOP_LEVEL (wakes.1 each low),
)
wakes_weaker P Q weaker row entry wakes = tt

-- entries whose wakeups have returned, when more steps were made
pub woken_still : (old new : List core.Entry) (row : Row) → IsPast old new → (mine : List Entry)
    → HaveWoken old row mine → HaveWoken new row mine
woken_still old new row past mine woken =
    all_weaker (Wakes (HasReturnedIn old) row) (Wakes (HasReturnedIn new) row)
    (wakes_weaker (HasReturnedIn old) (HasReturnedIn new)
    (λ rendez level. returned_still old new rendez level past) row) mine woken

-- a hangup's wakeups have returned
pub all_returned : (row : Row) (before after : Process) (seat : ℕ) → WakesAll row before after
    → Wakes (HasReturnedIn after.trace) row (Hung seat)
all_returned row before after seat wakes = (
  returned_still wakes.between.trace after.trace (reader_rendez row) TOP_LEVEL
      (writers_more row TOP_LEVEL row.writers wakes.between after wakes.writers)
      (wake_returned before (reader_rendez row) TOP_LEVEL wakes.between wakes.reader),
  writers_returned row TOP_LEVEL row.writers wakes.between after wakes.writers,
)

-- and are steps more
pub all_more : (row : Row) (before after : Process) → WakesAll row before after
    → Was before after
all_more row before after wakes =
    past_trans before.trace wakes.between.trace after.trace
    (wake_more before (reader_rendez row) TOP_LEVEL wakes.between wakes.reader)
    (writers_more row TOP_LEVEL row.writers wakes.between after wakes.writers)

-- ---- and whom it releases

-- a wakeup that has returned has released whoever fell asleep below its level
pub has_woken : (process : Process) (rendez : RendezId) (level : ℕ)
    → HasReturnedIn process.trace rendez level → HasWoken process rendez level
has_woken process rendez level returned =
    record {
      returned = returned;
      released = λ moment since.
          returned_wakeup_releases moment.procs moment.rendez moment.run moment.legal rendez level
          (returns_by_kept_events moment.procs moment.rendez moment.run moment.legal process.pid
          rendez.0 level since);
    }

-- so of the wakeups of some entries
pub have_woken : (process : Process) (row : Row) (mine : List Entry)
    → HaveWoken process.trace row mine → AllByRecursion (Wakes (HasWoken process) row) mine
have_woken process row mine woken =
    all_weaker (Wakes (HasReturnedIn process.trace) row) (Wakes (HasWoken process) row)
    (wakes_weaker (HasReturnedIn process.trace) (HasWoken process) (has_woken process) row) mine
    woken

-- ---- what a step was answered

-- a step that was answered so stands among more steps
pub answered_still : (told : Answer) (old new : List core.Entry) → IsPast old new
    → WasAnswered told old → WasAnswered told new
answered_still told old new past answered =
    subst (WasAnswered told) (sym past.new_is) (since past.since)
  where
    since : (steps : List core.Entry) → WasAnswered told (steps ++ old)
    since [] = answered
    since (step ∷ steps) = inr (since steps)
