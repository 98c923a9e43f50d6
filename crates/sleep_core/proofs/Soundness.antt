-- A world stays whole, and sound, when one entry of it changes.
use Rattle.std.proofs.Common.{◌≡◌, ◌⊎◌, ◌≤◌, ℕ, inl, inr, Some, max, length, slice_set, sym, ◌∙◌}
use Rattle.std.proofs.Common.{subst, refl, arith}
use Rattle.std.proofs.lemmas.Grind.{common_steps}
use Rattle.std.proofs.lemmas.List.{length-set}
use Rattle.sleep_core.specs.declared.phase.Phase.{Phase}
use Rattle.sleep_core.specs.declared.phase.Phase.TheVariants as phase
use Rattle.sleep_core.specs.declared.phase.ProcFlags.{ProcFlags}
use Rattle.sleep_core.specs.State.{State, IsWhole, IsSound, IsPhaseIn, phase_of, posted_of}
use Rattle.sleep_core.specs.State.{returned_of, opening, bare}
use Rattle.sleep_core.specs.Table.{Wakeup}
use Rattle.sleep_core.specs.Step.{with_phase, with_flags, with_posted, with_level, with_returned}
use Rattle.sleep_core.proofs.ListLemmas.{get_or-set_cases}

-- a phase that names what is there
pub IsWhole-with_phase : (s : State) (pid : ℕ) (stage : Phase) → IsWhole s
    → IsPhaseIn (length s.phases) (length s.posted) stage → IsWhole (with_phase s pid stage)
IsWhole-with_phase s pid stage whole fits =
    record {
      flags = whole.flags ∙ sym same_length;
      levels = whole.levels;
      phases = λ p. subst (λ n. IsPhaseIn n (length s.posted) (phase_of (with_phase s pid stage) p))
          (sym same_length) (each p);
      posted = λ r. subst (λ n. posted_of s r ≤ n) (sym same_length) (whole.posted r);
    }
  where
    same_length : length (slice_set s.phases pid stage) ≡ length s.phases
    same_length = length-set s.phases pid stage

    each : (p : ℕ)
        → IsPhaseIn (length s.phases) (length s.posted) (phase_of (with_phase s pid stage) p)
    each p = at (get_or-set_cases s.phases pid stage p phase.Idle)
      where
        at : ((p ≡ pid) × (phase_of (with_phase s pid stage) p ≡ stage))
            ⊎ (phase_of (with_phase s pid stage) p ≡ phase_of s p)
            → IsPhaseIn (length s.phases) (length s.posted) (phase_of (with_phase s pid stage) p)
        at (inl here) = subst (IsPhaseIn (length s.phases) (length s.posted)) (sym here.1) fits
        at (inr there) =
            subst (IsPhaseIn (length s.phases) (length s.posted)) (sym there) (whole.phases p)

-- flags
pub IsWhole-with_flags : (s : State) (pid : ℕ) (flags : ProcFlags) → IsWhole s
    → IsWhole (with_flags s pid flags)
IsWhole-with_flags s pid flags whole =
    record {
      flags = length-set s.flags pid flags ∙ whole.flags;
      levels = whole.levels;
      phases = whole.phases;
      posted = whole.posted;
    }

-- a posted word of a process that is there
pub IsWhole-with_posted : (s : State) (rendez word : ℕ) → IsWhole s → word ≤ length s.phases
    → IsWhole (with_posted s rendez word)
IsWhole-with_posted s rendez word whole fits =
    record {
      flags = whole.flags;
      levels = whole.levels ∙ sym same_length;
      phases = λ p. subst (λ n. IsPhaseIn (length s.phases) n (phase_of s p)) (sym same_length)
          (whole.phases p);
      posted = each;
    }
  where
    same_length : length (slice_set s.posted rendez word) ≡ length s.posted
    same_length = length-set s.posted rendez word

    each : (r : ℕ) → posted_of (with_posted s rendez word) r ≤ length s.phases
    each r = at (get_or-set_cases s.posted rendez word r 0)
      where
        at : ((r ≡ rendez) × (posted_of (with_posted s rendez word) r ≡ word))
            ⊎ (posted_of (with_posted s rendez word) r ≡ posted_of s r)
            → posted_of (with_posted s rendez word) r ≤ length s.phases
        at (inl here) = subst (λ n. n ≤ length s.phases) (sym here.1) fits
        at (inr there) = subst (λ n. n ≤ length s.phases) (sym there) (whole.posted r)

-- a level
pub IsWhole-with_level : (s : State) (rendez level : ℕ) → IsWhole s
    → IsWhole (with_level s rendez level)
IsWhole-with_level s rendez level whole =
    record {
      flags = whole.flags;
      levels = length-set s.levels rendez level ∙ whole.levels;
      phases = whole.phases;
      posted = whole.posted;
    }

-- the opening names nothing
pub IsWhole-opening : (procs rendez : ℕ) → IsWhole (bare (opening procs rendez))
IsWhole-opening procs rendez =
    record {
      flags = grind (arith, common_steps);
      levels = grind (arith, common_steps);
      phases = λ pid. grind (arith, common_steps);
      posted = λ r. grind (arith, common_steps);
    }

-- and so does a world with the same rows
pub IsWhole-same : (s t : State) → t.phases ≡ s.phases → t.flags ≡ s.flags → t.posted ≡ s.posted
    → t.levels ≡ s.levels → IsWhole s → IsWhole t
IsWhole-same s t phases flags posted levels whole =
    record {
      flags = rw (flags, phases) whole.flags;
      levels = rw (levels, posted) whole.levels;
      phases = λ pid. rw (phases, posted) (whole.phases pid);
      posted = λ r. rw (posted, phases) (whole.posted r);
    }

-- the levels that have returned are as many as before
pub IsSound-with_phase : (s : State) (pid : ℕ) (stage : Phase) → IsSound s
    → IsPhaseIn (length s.phases) (length s.posted) stage → IsSound (with_phase s pid stage)
IsSound-with_phase s pid stage sound fits =
    record {
      whole = IsWhole-with_phase s pid stage sound.whole fits;
      returned = sound.returned;
    }

-- and so with flags
pub IsSound-with_flags : (s : State) (pid : ℕ) (flags : ProcFlags) → IsSound s
    → IsSound (with_flags s pid flags)
IsSound-with_flags s pid flags sound =
    record {
      whole = IsWhole-with_flags s pid flags sound.whole;
      returned = sound.returned;
    }

-- with a posted word
pub IsSound-with_posted : (s : State) (rendez word : ℕ) → IsSound s → word ≤ length s.phases
    → IsSound (with_posted s rendez word)
IsSound-with_posted s rendez word sound fits =
    record {
      whole = IsWhole-with_posted s rendez word sound.whole fits;
      returned = sound.returned ∙ sym (length-set s.posted rendez word);
    }

-- and with a level
pub IsSound-with_level : (s : State) (rendez level : ℕ) → IsSound s
    → IsSound (with_level s rendez level)
IsSound-with_level s rendez level sound =
    record {
      whole = IsWhole-with_level s rendez level sound.whole;
      returned = sound.returned;
    }

-- and one of them may be another
pub IsSound-with_returned : (s : State) (call : Wakeup) → IsSound s
    → IsSound (with_returned s (Some call))
IsSound-with_returned s call sound =
    record {
      whole = IsWhole-same s (with_returned s (Some call)) refl refl refl refl sound.whole;
      returned = length-set s.returned call.rendez (max (returned_of s call.rendez) call.level)
          ∙ sound.returned;
    }
