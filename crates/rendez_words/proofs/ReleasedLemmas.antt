-- What the check of a joined seat tells: a sleeper below a returned level is no longer posted.
use Rattle.std.proofs.Common.{◌≡◌, ◌≢◌, ◌==◌, ◌⊎◌, inl, inr, ◌+◌, ◌<◌, ◌≤◌, ℕ, true, false}
use Rattle.std.proofs.Common.{not, List, [], sym, ◌∙◌, ap, subst, arith}
use Rattle.std.proofs.lemmas.Bool.Decides.{eqb_tells}
use Rattle.sync_base.specs.declared.ids.Pid.{Pid}
use Rattle.sync_base.specs.declared.ids.RendezId.{RendezId}
use Rattle.sleep_core.specs.declared.event.Event.TheVariants.{Check}
use Rattle.sleep_core.specs.declared.phase.Phase.{Phase}
use Rattle.sleep_core.specs.declared.phase.Phase.TheVariants as phase
use Rattle.sleep_core.specs.State.{State, phase_of, posted_of, posted_as}
use Rattle.sleep_core.specs.Table.{Word, cell_of}
use Rattle.sleep_core.specs.Table.Cell.{PostedOf}
use Rattle.sleep_core.specs.Step.{word_at}
use Rattle.sleep_core.specs.Runs.{Entry, world_of, phase_by}
use Rattle.sleep_core.specs.History.{history_of, HasReturned}
use Rattle.sleep_core.proofs.KeptHistory.{returns_by_kept_events}
use Rattle.sleep_core.proofs.NoLostWakeup.{returned_wakeup_releases}
use Rattle.sleep_core.proofs.OwnEvents.{phase_by-kept_own}
use Rattle.rendez_words.specs.declared.view.Part.{Part}
use Rattle.rendez_words.specs.declared.view.Sizes.{Sizes}
use Rattle.rendez_words.specs.declared.view.View.{View}
use Rattle.rendez_words.specs.declared.words.Words.{Words}
use Rattle.rendez_words.specs.Plays.{Seated, number_of, HasChecked, IsStep, part_of}
use Rattle.rendez_words.specs.Process.{Process, phase_in, pid_in}
use Rattle.rendez_words.specs.Rule.{index_of}
use Rattle.rendez_words.specs.States.{Stepper, process_at, IsStepperOf}
use Rattle.rendez_words.specs.View.{part_in, sleeper_in, raiser_in, joined_view}
use Rattle.rendez_words.specs.Words.{IsProcessOf, sizes_of}
use Rattle.rendez_words.proofs.KindSteps.{check_step}

-- the number found is the posted word of the sleeper's Rendez
found_posted : (s : State) (pid : Pid) (rendez : RendezId) (threshold : ℕ) (stage : Phase)
    (word : Word) (found : ℕ) → stage ≡ phase.Asleep rendez threshold
    → word ≡ word_at s (cell_of (Check pid) stage) → found ≡ number_of word
    → found ≡ posted_of s rendez.0
found_posted s pid rendez threshold stage word found stage_is read found_is =
    found_is ∙ ap number_of (read ∙ ap (λ at. word_at s (cell_of (Check pid) at)) stage_is)

-- a check does not find a sleeper posted below the level of a wakeup that has returned
pub not_posted : (sizes : Sizes) (pid : Pid) (before : Seated) (found : ℕ) (after : Seated)
    (rendez : RendezId) (threshold level : ℕ) → HasChecked sizes (Check pid) before found after
    → phase_by (sleeper_in before.0).trace ≡ phase.Asleep rendez threshold
    → HasReturned (history_of (raiser_in before.0).trace) rendez.0 level → threshold < level
    → found ≢ (sleeper_in before.0).pid + 1
not_posted sizes pid before found after rendez threshold level has asleep receipt above same =
    let procs = sizes.procs in
    let count = sizes.rendez in
    let s = world_of procs count has.run in
    let returned : HasReturned (history_of has.run) rendez.0 level =
    returns_by_kept_events procs count has.run has.legal (raiser_in before.0).pid rendez.0 level
    (subst (λ (trace : List Entry). HasReturned (history_of trace) rendez.0 level) has.raiser_is
    receipt) in
    let phase_is : phase_of s (sleeper_in before.0).pid ≡ phase.Asleep rendez threshold =
    sym (phase_by-kept_own procs count has.run has.legal (sleeper_in before.0).pid)
    ∙ ap phase_by (sym has.sleeper_is) ∙ asleep in
    let posted : posted_of s rendez.0 ≡ posted_as (sleeper_in before.0).pid =
    sym (found_posted s pid rendez threshold has.stage has.word found (has.in_stage
    ∙ asleep) has.read has.found_is) ∙ same in
    let least : level ≤ threshold =
    (returned_wakeup_releases procs count has.run has.legal rendez level returned).released
    (sleeper_in before.0).pid threshold phase_is posted in
    absurd (omega arith)

-- the same by the two processes
pub released_is : (sizes : Sizes) (pid : Pid) (before : Seated) (found : ℕ) (after : Seated)
    (sleeper raiser : Process) (rendez : RendezId) (threshold level : ℕ)
    → sleeper_in before.0 ≡ part_of sleeper → raiser_in before.0 ≡ part_of raiser
    → HasChecked sizes (Check pid) before found after
    → phase_in sleeper ≡ phase.Asleep rendez threshold
    → HasReturned (history_of raiser.trace) rendez.0 level → threshold < level
    → found ≢ sleeper.pid + 1
released_is sizes pid before found after sleeper raiser rendez threshold level sleeper_is raiser_is
    has asleep receipt above same =
    not_posted sizes pid before found after rendez threshold level has
    (ap (λ (part : Part). phase_by part.trace) sleeper_is ∙ asleep)
    (subst (λ (part : Part). HasReturned (history_of part.trace) rendez.0 level)
    (sym raiser_is) receipt) above
    (same ∙ ap (λ (part : Part). part.pid + 1) (sym sleeper_is))

-- different numbers are told apart
pub is_true : (a b : ℕ) → a ≢ b → not (a == b) ≡ true
is_true a b differ = by_test (eqb_tells a b)
  where
    by_test : (((a == b) ≡ true) × (a ≡ b)) ⊎ (((a == b) ≡ false) × (a ≢ b)) → not (a == b) ≡ true
    by_test (inl same) = absurd (differ same.1)
    by_test (inr other) = ap not other.0

-- what a seat that was joined knew
pub joined_first : (at : Stepper) (pid : ℕ) (process : Process) (joined : Seated) (other : View)
    → IsStepperOf at pid → process_at at pid ≡ process → joined ≡ (joined_view at.me.0 other, [])
    → sleeper_in joined.0 ≡ part_of process
joined_first at pid process joined other stepper_is is joined_is =
    ap (λ (me : Seated). sleeper_in me.0) joined_is ∙ ap (λ (me : Seated). part_in me.0) stepper_is
    ∙ ap part_of is

-- and what the other seat knew
pub joined_second : (at : Stepper) (pid : ℕ) (process : Process) (joined : Seated) (first : View)
    → IsStepperOf at pid → process_at at pid ≡ process → joined ≡ (joined_view first at.me.0, [])
    → raiser_in joined.0 ≡ part_of process
joined_second at pid process joined first stepper_is is joined_is =
    ap (λ (me : Seated). raiser_in me.0) joined_is ∙ ap (λ (me : Seated). part_in me.0) stepper_is
    ∙ ap part_of is

-- the check asks what its row of the table says
pub check_asks : (words : Words) (process : Process) (pid : Pid) (rendez : RendezId)
    (threshold word : ℕ) (joined : Seated) → pid ≡ pid_in process
    → sleeper_in joined.0 ≡ part_of process → IsProcessOf words process
    → phase_in process ≡ phase.Asleep rendez threshold
    → word ≡ index_of (sizes_of words) (PostedOf rendez.0)
    → IsStep (sizes_of words) (Check pid) (sleeper_in joined.0) word (λ n. n)
check_asks words process pid rendez threshold word joined pid_is sleeper_is is asleep word_is =
    subst (λ (part : Part). IsStep (sizes_of words) (Check pid) part word (λ n. n)) (sym sleeper_is)
    (check_step words process pid rendez threshold word pid_is is asleep word_is)
