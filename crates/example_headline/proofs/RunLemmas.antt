-- Why a run is refused before it has a crew.
use Rattle.std.proofs.Common.{◌≡◌, ◌≢◌, ◌⊎◌, ◌↔◌, inl, inr, ◌+◌, ◌*◌, ◌≤◌, ℕ, arith, refl, sym}
use Rattle.std.proofs.Common.{subst}
use Rattle.std.specs.Prelude.{Result, Ok, Err, IfErr, IsErrOf}
use Rattle.sync_base.specs.declared.fault.Fault.{Fault}
use Rattle.sync_base.specs.declared.fault.Fault.TheVariants as fault
use Rattle.sync_base.specs.declared.limits.TheConstants.{MAX_PIPE_LIMIT, MAX_PROCS, MAX_RENDEZ}
use Rattle.sync_base.specs.declared.limits.TheConstants.{MAX_WRITERS}
use Rattle.sleep_core.specs.Limits.{IsWorldSize, WhyNoWorld}
use Rattle.rendez_words.specs.Words.{procs_of}
use Rattle.sleep_wakeup.specs.Kernel.{Unused}
use Rattle.block_queue.specs.Opening.{IsBadQueue}
use Rattle.example_headline.specs.declared.settling.Ending.{Ending}
use Rattle.example_headline.specs.Crew.{WhyNotMustered}

-- the sizes that are tested first
pub is_no_bad_queue : (limit writers : ℕ) → limit ≢ 0 → limit ≤ MAX_PIPE_LIMIT → writers ≢ 0
    → writers ≤ MAX_WRITERS → ¬ IsBadQueue limit writers
is_no_bad_queue limit writers some few writer writers_few (inl (inl none)) = some none
is_no_bad_queue limit writers some few writer writers_few (inl (inr many)) =
    absurd (omega (arith, few, many))
is_no_bad_queue limit writers some few writer writers_few (inr (inl none)) = writer none
is_no_bad_queue limit writers some few writer writers_few (inr (inr many)) =
    absurd (omega (arith, writers_few, many))

-- a world of so few writers is in range
pub is_world : (writers : ℕ) → writers ≤ MAX_WRITERS
    → IsWorldSize (writers + 1) (2 * (writers + 1))
is_world writers few =
    let most : MAX_WRITERS ≡ 64 = refl in
    let procs : MAX_PROCS ≡ 1024 = refl in
    let rendez : MAX_RENDEZ ≡ 8192 = refl in (
      (omega arith, omega (arith, few, most, procs)),
      (omega arith, omega (arith, few, most, rendez)),
    )

-- one in range is refused for want of memory alone
pub world_has_memory : (procs rendez : ℕ) (why : Fault) → IsWorldSize procs rendez
    → WhyNoWorld procs rendez why → why ≡ fault.Memory
world_has_memory procs rendez fault.NoProc size refused = absurd (refused size.0)
world_has_memory procs rendez fault.NoRendez size refused = absurd (refused.1 size.1)
world_has_memory procs rendez fault.Memory size refused = refl
world_has_memory procs rendez other size refused = absurd refused

-- the answer that is refused for this
abbrev pub as_run : {A : Type 0} → Fault → Result A Fault
as_run why = Err why

-- the answer of a run that ended so
abbrev pub as_answered : Ending → Result Ending Fault
as_answered ending = Ok ending

-- that of a pipe that was opened
abbrev pub as_opened : {A : Type 0} → A → Result A Fault
as_opened opened = Ok opened

-- so is a pipe that may be, with Rendez for it
pub pipe_has_memory : {A : Type 0} (why : Fault) (Bad Has : Type 0) → ¬ Bad → Has
    → (IsErrOf (as_run {A = A} why) fault.BadSize ↔ Bad)
    → (¬ Bad → (IsErrOf (as_run {A = A} why) fault.NoRendez ↔ ¬ Has))
    → (why ≡ fault.BadSize) ⊎ ((why ≡ fault.NoRendez) ⊎ (why ≡ fault.Memory))
    → why ≡ fault.Memory
pipe_has_memory why Bad Has good has bad_size no_rendez (inl is) =
    absurd (good (bad_size.0 (cc)))
pipe_has_memory why Bad Has good has bad_size no_rendez (inr (inl is)) =
    absurd ((no_rendez good).0 (cc) has)
pipe_has_memory why Bad Has good has bad_size no_rendez (inr (inr is)) = is

-- so is a crew of as many lists as writers, with a pid for each
pub crew_has_memory : (roster : Unused) (writers lists : ℕ) (why : Fault) → lists ≡ writers
    → roster.pids.next + writers ≤ procs_of roster.words → WhyNotMustered roster writers lists why
    → why ≡ fault.Memory
crew_has_memory roster writers lists fault.BadSize as_many pids differ = absurd (differ as_many)
crew_has_memory roster writers lists fault.Memory as_many pids refused = refl
crew_has_memory roster writers lists fault.NoProc as_many pids less =
    absurd (omega (arith, pids, less))
crew_has_memory roster writers lists other as_many pids refused = absurd refused

-- a run that is refused for want of memory is not of a bad size
pub is_not_bad : (answer : Result Ending Fault) (came : Fault) (Bad : Type 0) → answer ≡ Err came
    → came ≡ fault.Memory → ¬ Bad → IsErrOf answer fault.BadSize ↔ Bad
is_not_bad answer came Bad is memory good = (λ bad. absurd (cc), λ bad. absurd (good bad))

-- and it is known why
pub is_memory : (answer : Result Ending Fault) (came : Fault) → answer ≡ Err came
    → came ≡ fault.Memory
    → IfErr answer (λ why. (why ≡ fault.BadSize) ⊎ (why ≡ fault.Memory))
is_memory answer came is memory =
    subst (λ (a : Result Ending Fault).
    IfErr a (λ why. (why ≡ fault.BadSize) ⊎ (why ≡ fault.Memory))) (sym is) (inr memory)

-- a run that is answered is not refused for its size
pub not_refused : {Bad : Type 0} (ending : Ending) → ¬ Bad
    → IsErrOf (as_answered ending) fault.BadSize ↔ Bad
not_refused ending good = (λ is. absurd (cc), λ bad. absurd (good bad))

-- a pipe that was opened is of a size that may be
pub opened_is_good : {A : Type 0} (opened : A) (Bad : Type 0)
    → (IsErrOf (as_opened opened) fault.BadSize ↔ Bad) → ¬ Bad
opened_is_good opened Bad refused bad = let is = refused.1 bad in cc
