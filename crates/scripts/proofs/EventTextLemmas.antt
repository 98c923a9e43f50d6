-- The end of a list of kinds: a dash where there was none.
use Rattle.std.proofs.Common.{◌≡◌, ◌≢◌, ℕ, List, [], ◌∷◌, ◌++◌, length, ap, ◌∙◌, arith}
use Rattle.std.proofs.Common.{length-append}
use Rattle.std.proofs.lemmas.List.{append-nil}
use Rattle.scripts.specs.EventText.{or_dash}

-- where nothing was listed, a dash was written
pub dash_for_none : (front out new kinds : List ℕ) → out ≡ front ++ kinds
    → length out ≡ length front → new ≡ out ++ 45 ∷ [] → new ≡ front ++ or_dash kinds
dash_for_none front out new [] listed none written = written
    ∙ (ap (λ l. l ++ 45 ∷ []) (listed ∙ append-nil front))
dash_for_none front out new (b ∷ bs) listed none written =
    absurd (omega (arith, ap length listed, length-append front (b ∷ bs)))

-- and else the list stays as it is
pub kinds_as_listed : (front out kinds : List ℕ) → out ≡ front ++ kinds → length out ≢ length front
    → out ≡ front ++ or_dash kinds
kinds_as_listed front out [] listed some =
    absurd (some (ap length listed ∙ ap length (append-nil front)))
kinds_as_listed front out (b ∷ bs) listed some = listed
