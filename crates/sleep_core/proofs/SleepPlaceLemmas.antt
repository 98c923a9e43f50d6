-- Each sleeper is in one place, and the words agree with the phases.
use Rattle.std.proofs.Common.{◌≡◌, ℕ, List, refl, sym, ◌∙◌, ap, subst}
use Rattle.sleep_core.specs.declared.phase.Phase.{Phase}
use Rattle.sleep_core.specs.declared.phase.Phase.TheVariants as phase
use Rattle.sleep_core.specs.State.{State, phase_of}
use Rattle.sleep_core.specs.Runs.{world_of}
use Rattle.sleep_core.specs.History.{Effect, history_of}
use Rattle.sleep_core.specs.SleepPlaces.{Place, IsHolding, IsAt, IsInSleep, SleepersAreInOnePlace}
use Rattle.sleep_core.specs.SleepPlaces.{OthersAreInNoPlace, MayBePosted, IsRaised}
use Rattle.sleep_core.specs.SleepPlaces.{WordsAgreeInRuns}
use Rattle.sleep_core.specs.SleepPlaces.Place.{IsPostedIn, IsHeldBy, IsMarked, IsOut}
use Rattle.sleep_core.proofs.CoreInvariant.{Token, token, IsAway, IsNear, Fits, Core}
use Rattle.sleep_core.proofs.CoreInvariant.Token.{Nowhere, InRendez, WithRaiser, InFlags}
use Rattle.sleep_core.proofs.Frames.{fits_at}
use Rattle.sleep_core.proofs.TokenLemmas.{posted_by_token}
use Rattle.sleep_core.proofs.PlacesKept.{Placed, places_of_run}
use Rattle.sleep_core.proofs.CoreRuns.{core_of_run, fallen_at}

-- the place where a token is, and the token in a place
abbrev place_of : Token → Place
place_of Nowhere = IsOut
place_of (InRendez rendez) = IsPostedIn rendez
place_of (WithRaiser raiser) = IsHeldBy raiser
place_of InFlags = IsMarked

abbrev token_in : Place → Token
token_in IsOut = Nowhere
token_in (IsPostedIn rendez) = InRendez rendez
token_in (IsHeldBy raiser) = WithRaiser raiser
token_in IsMarked = InFlags

same_place : (at : Place) → at ≡ place_of (token_in at)
same_place IsOut = refl
same_place (IsPostedIn rendez) = refl
same_place (IsHeldBy raiser) = refl
same_place IsMarked = refl

-- whom a process holds is with that raiser
held_token : (s : State) (h : List Effect) (pid raiser : ℕ) (stage : Phase) → Core s h
    → phase_of s raiser ≡ stage → IsHolding pid stage → token h pid ≡ WithRaiser raiser
held_token s h pid raiser (phase.Holding sleeper rendez level) core at holds =
    let fit = fits_at s h raiser (phase.Holding sleeper rendez level) core at in
    ap (token h) (sym holds) ∙ fit.with_raiser
held_token s h pid raiser stage core at holds = absurd holds

-- who is in a place has its token there
token_at : (s : State) (h : List Effect) (pid : ℕ) (at : Place) → Core s h → IsAt s pid at
    → token h pid ≡ token_in at
token_at s h pid IsOut core out = (fits_at s h pid phase.Out core out).place
token_at s h pid (IsPostedIn rendez) core posted = core.posted rendez pid posted
token_at s h pid (IsHeldBy raiser) core holds =
    held_token s h pid raiser (phase_of s raiser) core refl holds
token_at s h pid IsMarked core wake = core.marked pid wake

-- a sleeper whose token is nowhere is out
out_if_nowhere : (s : State) (h : List Effect) (pid : ℕ) (stage : Phase) → Fits s h pid stage
    → IsInSleep stage → token h pid ≡ Nowhere → stage ≡ phase.Out
out_if_nowhere s h pid phase.Out fit in_sleep nowhere = refl
out_if_nowhere s h pid (phase.Posted rendez threshold) fit in_sleep nowhere =
    absurd (subst (IsNear rendez.0) nowhere fit.near)
out_if_nowhere s h pid (phase.Asleep rendez threshold) fit in_sleep nowhere =
    absurd (subst (IsNear rendez.0) nowhere fit.near)
out_if_nowhere s h pid (phase.Leaving rendez) fit in_sleep nowhere =
    absurd (subst (IsNear rendez.0) nowhere fit.place)
out_if_nowhere s h pid phase.Awaiting fit in_sleep nowhere = absurd (subst IsAway nowhere fit)
out_if_nowhere s h pid phase.Woken fit in_sleep nowhere = absurd (clash (sym nowhere ∙ fit.0))
  where
    clash : Nowhere ≡ InFlags → ⊥
    clash e = cc
out_if_nowhere s h pid stage fit in_sleep nowhere = absurd in_sleep

-- a sleeper is where its token is
is_at_token : (s : State) (h : List Effect) (pid : ℕ) (at : Token) → Core s h → Placed s h
    → IsInSleep (phase_of s pid) → token h pid ≡ at → IsAt s pid (place_of at)
is_at_token s h pid Nowhere core placed in_sleep is =
    out_if_nowhere s h pid (phase_of s pid) (core.fits pid) in_sleep is
is_at_token s h pid (InRendez rendez) core placed in_sleep is = posted_by_token s h pid rendez core
    is
is_at_token s h pid (WithRaiser raiser) core placed in_sleep is = placed.held pid raiser is
is_at_token s h pid InFlags core placed in_sleep is = placed.marked pid is

-- each sleeper is in just one place
pub sleepers_are_in_one_place : SleepersAreInOnePlace
sleepers_are_in_one_place procs rendez past run pid in_sleep =
    record {
      place = place_of (token (history_of past) pid);
      is_there = is_at_token s h pid (token h pid) core (places_of_run procs rendez past run)
          in_sleep refl;
      no_other = λ other there. same_place other
          ∙ ap place_of (sym (token_at s h pid other core there));
    }
  where
    s : State
    s = world_of procs rendez past

    h : List Effect
    h = history_of past

    core : Core (world_of procs rendez past) (history_of past)
    core = core_of_run procs rendez past run

-- whoever is in no sleep has no token, and is not out
nowhere_outside : (s : State) (h : List Effect) (pid : ℕ) (stage : Phase) → Fits s h pid stage
    → (IsInSleep stage → ⊥) → token h pid ≡ Nowhere
nowhere_outside s h pid phase.Idle fit outside = fit
nowhere_outside s h pid (phase.Owing rendez level) fit outside = fit.nowhere
nowhere_outside s h pid (phase.Holding sleeper rendez level) fit outside = fit.raises.nowhere
nowhere_outside s h pid stage fit outside = absurd (outside tt)

none_outside : (s : State) (h : List Effect) (pid : ℕ) (at : Place) → token h pid ≡ Nowhere
    → (phase_of s pid ≡ phase.Out → ⊥) → IsAt s pid at → token h pid ≡ token_in at → ⊥
none_outside s h pid IsOut nowhere not_out there is = not_out there
none_outside s h pid (IsPostedIn rendez) nowhere not_out there is = cc
none_outside s h pid (IsHeldBy raiser) nowhere not_out there is = cc
none_outside s h pid IsMarked nowhere not_out there is = cc

-- and no other process is in any
pub others_are_in_no_place : OthersAreInNoPlace
others_are_in_no_place procs rendez past run pid outside at there =
    none_outside s h pid at (nowhere_outside s h pid (phase_of s pid) (core.fits pid) outside)
    (λ out. outside (subst IsInSleep (sym out) tt)) there (token_at s h pid at core there)
  where
    s : State
    s = world_of procs rendez past

    h : List Effect
    h = history_of past

    core : Core (world_of procs rendez past) (history_of past)
    core = core_of_run procs rendez past run

-- whoever is posted is in a phase of a sleep in that Rendez
may_be_posted : (s : State) (h : List Effect) (pid rendez : ℕ) (stage : Phase) → Fits s h pid stage
    → token h pid ≡ InRendez rendez → MayBePosted rendez stage
may_be_posted s h pid rendez (phase.Posted at threshold) fit is =
    sym (subst (IsNear at.0) is fit.near)
may_be_posted s h pid rendez (phase.Asleep at threshold) fit is =
    sym (subst (IsNear at.0) is fit.near)
may_be_posted s h pid rendez (phase.Leaving at) fit is = sym (subst (IsNear at.0) is fit.place)
may_be_posted s h pid rendez phase.Awaiting fit is = absurd (subst IsAway is fit)
may_be_posted s h pid rendez phase.Idle fit is = absurd (clash (sym fit ∙ is))
  where
    clash : Nowhere ≡ InRendez rendez → ⊥
    clash e = cc
may_be_posted s h pid rendez phase.Woken fit is = absurd (clash (sym fit.0 ∙ is))
  where
    clash : InFlags ≡ InRendez rendez → ⊥
    clash e = cc
may_be_posted s h pid rendez phase.Out fit is = absurd (clash (sym fit.place ∙ is))
  where
    clash : Nowhere ≡ InRendez rendez → ⊥
    clash e = cc
may_be_posted s h pid rendez (phase.Owing at level) fit is = absurd (clash (sym fit.nowhere ∙ is))
  where
    clash : Nowhere ≡ InRendez rendez → ⊥
    clash e = cc
may_be_posted s h pid rendez (phase.Holding sleeper at level) fit is =
    absurd (clash (sym fit.raises.nowhere ∙ is))
  where
    clash : Nowhere ≡ InRendez rendez → ⊥
    clash e = cc

-- a wakeup has raised its level
is_raised : (s : State) (h : List Effect) (pid : ℕ) (stage : Phase) → Fits s h pid stage
    → IsRaised s stage
is_raised s h pid (phase.Owing rendez level) fit = fit.low
is_raised s h pid (phase.Holding sleeper rendez level) fit = fit.raises.low
is_raised s h pid stage fit = tt

-- the words agree with the phases after every run
pub words_agree_in_runs : WordsAgreeInRuns
words_agree_in_runs procs rendez past run =
    record {
      posted = λ pid at posted. may_be_posted s h pid at (phase_of s pid) (core.fits pid)
          (core.posted at pid posted);
      woken = λ pid woken. placed.marked pid (fits_at s h pid phase.Woken core woken).0;
      raised = λ pid. is_raised s h pid (phase_of s pid) (core.fits pid);
      returned = core.low;
      asleep = λ pid at threshold asleep posted. core.fallen pid at.0 threshold
          (fallen_at s h pid at threshold core asleep posted);
    }
  where
    s : State
    s = world_of procs rendez past

    h : List Effect
    h = history_of past

    core : Core (world_of procs rendez past) (history_of past)
    core = core_of_run procs rendez past run

    placed : Placed (world_of procs rendez past) (history_of past)
    placed = places_of_run procs rendez past run
