-- What no run of a script does with its reader and its writer: each against one row of what a run
-- promises.
use Rattle.std.proofs.Common.{◌≡◌, ◌⊎◌, ◌<◌, ◌≤◌, ◌+◌, ◌++◌, ℕ, List, [], ◌∷◌, length, inl, inr}
use Rattle.std.proofs.Common.{ap, arith, length-append, Result, Ok, Err, Some, None}
use Rattle.std.specs.Io.KnownBytes.{Keeps, IsAtEnd}
use Rattle.sync_base.specs.declared.fault.Fault.{Fault}
use Rattle.sync_base.specs.declared.fault.Fault.TheVariants.{BadArg}
use Rattle.scripts.specs.declared.script.TheConstants.{MAX_SCRIPT}
use Rattle.scripts.specs.Device.{IsOutside, Runs, TakesAtMost, TakesScript, TakesUpTo}
use Rattle.scripts.specs.Script.{Transcript}

-- more was taken than was asked for
more_than_asked : TakesUpTo 2 None None (1 ∷ 2 ∷ 3 ∷ []) → ⊥
more_than_asked takes = let within : 3 ≤ 2 = takes.within in omega (arith, within)

module _ (says : List ℕ → Transcript) (result : Result (Unit {0}) Fault) where
  -- it reads on after what tells that a script is too long
  reads_on : (unread : List ℕ) → MAX_SCRIPT + 1 < length unread
      → Runs says
      (record { unread = Some unread; left = Some []; held = None; written = None }) result → ⊥
  reads_on unread long runs = by runs.at_most
    where
      by : TakesAtMost (MAX_SCRIPT + 1) (Some unread) (Some []) → ⊥
      by (taken, is, few) =
          let same = ap length is in
          let joined = length-append taken [] in
          omega (arith, long, same, joined, few)

  -- it writes before it has read its script
  writes_before_it_reads :
      Runs says
      (record {
        unread = Some (5 ∷ []);
        left = Some (5 ∷ []);
        held = Some [];
        written = Some (1 ∷ []);
      }) result → ⊥
  writes_before_it_reads runs = by runs.reads_first
    where
      no_more : (input : List ℕ) → 5 ∷ [] ≡ input ++ 5 ∷ []
          → (length input ≡ MAX_SCRIPT + 1) ⊎ IsAtEnd (Some (5 ∷ [])) → ⊥
      no_more input is (inl most) =
          let same : 1 ≡ length (input ++ 5 ∷ []) = ap length is in
          let joined = length-append input (5 ∷ []) in
          omega (arith, most, same, joined)
      no_more input is (inr end) = let none : 1 ≡ 0 = ap length end in omega (arith, none)

      by : Keeps (Some []) (Some (1 ∷ [])) ⊎ TakesScript (Some (5 ∷ [])) (Some (5 ∷ [])) → ⊥
      by (inl keeps) = let none : 1 ≡ 0 = ap length keeps in omega (arith, none)
      by (inr (input, takes)) = no_more input takes.taken takes.most_or_all

-- it ends for a fault that no run has
ends_for_a_bad_argument : (says : List ℕ → Transcript)
    → Runs says (record { unread = None; left = None; held = None; written = None }) (Err BadArg)
    → ⊥
ends_for_a_bad_argument says runs = by runs.faults
  where
    by : IsOutside BadArg → ⊥
    by (inl memory) = cc
    by (inr device) = cc

-- it ends well, and has not written what its script says
ends_before_it_has_written :
    Runs (λ input. record { output = 1 ∷ []; fault = None })
    (record { unread = Some []; left = Some []; held = Some []; written = Some [] }) (Ok tt) → ⊥
ends_before_it_has_written runs =
    let none : 0 ≡ 1 = ap length runs.told.1 in
    omega (arith, none)
