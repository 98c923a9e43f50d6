-- What the token of a process says of its sleep.
use Rattle.std.proofs.Common.{◌≡◌, ◌≢◌, ◌⊎◌, ◌==◌, ◌+◌, inl, inr, ℕ, true, false, if◌then◌else◌}
use Rattle.std.proofs.Common.{List, [], ◌∷◌, refl, sym, ◌∙◌, ap}
use Rattle.std.proofs.lemmas.Bool.Decides.{eqb_tells}
use Rattle.sleep_core.specs.State.{State, posted_of}
use Rattle.sleep_core.specs.History.{Effect}
use Rattle.sleep_core.specs.History.Effect.{Began, Passed, Fell, Roused, Withdrew, Left, Raised}
use Rattle.sleep_core.specs.History.Effect.{Missed, Took, Marked, Noted, Drained}
use Rattle.sleep_core.specs.Promises.{IsStillIn}
use Rattle.sleep_core.proofs.CoreInvariant.{Token, token, Core}
use Rattle.sleep_core.proofs.CoreInvariant.Token.{Nowhere, InRendez, WithRaiser, InFlags}

-- one place by number, and another elsewhere, where the first is not the one that is found
pub token_elsewhere : (a p : ℕ) (here there found : Token) → (if a == p then here else there) ≡
    found
    → (here ≡ found → ⊥) → (a ≢ p) × (there ≡ found)
token_elsewhere a p here there found is not_here = by_test (eqb_tells a p)
  where
    by_test : (((a == p) ≡ true) × (a ≡ p)) ⊎ (((a == p) ≡ false) × (a ≢ p))
        → (a ≢ p) × (there ≡ found)
    by_test (inl same) =
        absurd (not_here (sym (ap (λ b. if b then here else there) same.0) ∙ is))
    by_test (inr differ) = (differ.1, sym (ap (λ b. if b then here else there) differ.0) ∙ is)

-- the process is in its sleep on the Rendez
abbrev pub Slept : List Effect → ℕ → ℕ → Type 0
Slept h pid rendez = (threshold : ℕ) × IsStillIn h pid rendez threshold

-- a process whose token is in a Rendez began a sleep there that goes on
pub still_in_by_token : (h : List Effect) (pid rendez : ℕ) → token h pid ≡ InRendez rendez
    → Slept h pid rendez
still_in_by_token [] pid rendez is = absurd cc
still_in_by_token (Began by at threshold ∷ h) pid rendez is =
    by_test (eqb_tells by pid) (still_in_by_token h pid rendez)
  where
    in_rendez : InRendez at ≡ InRendez rendez → at ≡ rendez
    in_rendez e = cc

    by_test : (((by == pid) ≡ true) × (by ≡ pid)) ⊎ (((by == pid) ≡ false) × (by ≢ pid))
        → (token h pid ≡ InRendez rendez → Slept h pid rendez)
        → Slept (Began by at threshold ∷ h) pid rendez
    by_test (inl same) before =
        let here : InRendez at ≡ InRendez rendez
        = sym (ap (λ b. if b then InRendez at else token h pid) same.0) ∙ is in
        (threshold, inl (same.1, in_rendez here, refl))
    by_test (inr differ) before =
        let old = before (sym (ap (λ b. if b then InRendez at else token h pid) differ.0) ∙ is) in
        (old.0, inr old.1)
still_in_by_token (Withdrew by ∷ h) pid rendez is =
    let old = token_elsewhere by pid Nowhere (token h pid) (InRendez rendez) is (λ e. cc) in
    let before = still_in_by_token h pid rendez old.1 in
    (before.0, (old.0, before.1))
still_in_by_token (Took by sleeper ∷ h) pid rendez is =
    let old = token_elsewhere sleeper pid (WithRaiser by) (token h pid) (InRendez rendez) is
    (λ e. cc) in
    let before = still_in_by_token h pid rendez old.1 in
    (before.0, (old.0, before.1))
still_in_by_token (Marked by sleeper ∷ h) pid rendez is =
    let old = token_elsewhere sleeper pid InFlags (token h pid) (InRendez rendez) is (λ e. cc) in
    still_in_by_token h pid rendez old.1
still_in_by_token (Left by notes ∷ h) pid rendez is =
    let old = token_elsewhere by pid Nowhere (token h pid) (InRendez rendez) is (λ e. cc) in
    let before = still_in_by_token h pid rendez old.1 in
    (before.0, (old.0, before.1))
still_in_by_token (Passed by ∷ h) pid rendez is = still_in_by_token h pid rendez is
still_in_by_token (Fell by ∷ h) pid rendez is = still_in_by_token h pid rendez is
still_in_by_token (Roused by ∷ h) pid rendez is = still_in_by_token h pid rendez is
still_in_by_token (Raised by at level ∷ h) pid rendez is = still_in_by_token h pid rendez is
still_in_by_token (Missed by ∷ h) pid rendez is = still_in_by_token h pid rendez is
still_in_by_token (Noted by notes ∷ h) pid rendez is = still_in_by_token h pid rendez is
still_in_by_token (Drained by notes ∷ h) pid rendez is = still_in_by_token h pid rendez is

-- and so it is posted there
pub posted_by_token : (s : State) (h : List Effect) (pid rendez : ℕ) → Core s h
    → token h pid ≡ InRendez rendez → posted_of s rendez ≡ pid + 1
posted_by_token s h pid rendez core is =
    let still = still_in_by_token h pid rendez is in
    (core.still_in pid rendez still.0 still.1).posted
