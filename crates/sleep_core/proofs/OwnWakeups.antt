-- The wakeups of a process, by its own events.
use Rattle.std.proofs.Common.{◌≡◌, ◌≢◌, ◌⊎◌, ◌==◌, inl, inr, ℕ, true, false, eqb, cond}
use Rattle.std.proofs.Common.{if◌then◌else◌, Option, Some, None, List, [], ◌∷◌, refl, sym, ◌∙◌, ap}
use Rattle.std.proofs.Common.{subst}
use Rattle.std.specs.List.{cons_option}
use Rattle.std.proofs.lemmas.Bool.Decides.{eqb_tells}
use Rattle.sleep_core.specs.declared.event.Event.{Event}
use Rattle.sleep_core.specs.declared.event.Event.TheVariants.{Post, Test, Look, Withdraw, Clear}
use Rattle.sleep_core.specs.declared.event.Event.TheVariants.{Raise, Take, Mark, Note, Drain}
use Rattle.sleep_core.specs.declared.answer.Answer.{Answer}
use Rattle.sleep_core.specs.declared.answer.Answer.TheVariants as answer
use Rattle.sleep_core.specs.Runs.{Entry, IsMadeBy, IsRun, own}
use Rattle.sleep_core.specs.History.{Effect, effect_of, history_of, begun_wakeup, HasReturned}
use Rattle.sleep_core.specs.History.Effect.{Raised, Missed, Marked}
use Rattle.sleep_core.specs.Laws.{ReturnsByOwnEvents}
use Rattle.sleep_core.proofs.Frames.{if_other}

-- an effect of a wakeup is its maker's
abbrev IsEffectBy : ℕ → Option Effect → Type 0
IsEffectBy maker (Some (Raised by rendez level)) = by ≡ maker
IsEffectBy maker (Some (Missed by)) = by ≡ maker
IsEffectBy maker (Some (Marked by sleeper)) = by ≡ maker
IsEffectBy maker effect = Unit {0}

effect_by_maker : (told : Answer) (event : Event) (maker : ℕ) → IsMadeBy maker event
    → IsEffectBy maker (effect_of told event)
effect_by_maker answer.Posted (Post pid rendez threshold) maker made = tt
effect_by_maker answer.Leaving (Test pid) maker made = tt
effect_by_maker answer.Asleep (Test pid) maker made = tt
effect_by_maker answer.Woken (Look pid) maker made = tt
effect_by_maker answer.Out (Withdraw pid) maker made = tt
effect_by_maker answer.Cleared (Clear pid) maker made = tt
effect_by_maker (answer.Interrupted notes) (Clear pid) maker made = tt
effect_by_maker answer.Owing (Raise pid rendez level) maker made = made
effect_by_maker answer.Nobody (Take pid) maker made = made
effect_by_maker (answer.Holding sleeper) (Take pid) maker made = tt
effect_by_maker (answer.Marked sleeper) (Mark pid) maker made = made
effect_by_maker answer.Noted (Note pid notes) maker made = tt
effect_by_maker (answer.Notes notes) (Drain pid) maker made = tt
effect_by_maker told event maker made = tt

-- one more effect on two histories in which the process has begun the same wakeup
begun-cons : (pid : ℕ) (effect : Option Effect) (a b : List Effect)
    → begun_wakeup pid a ≡ begun_wakeup pid b
    → begun_wakeup pid (cons_option effect a) ≡ begun_wakeup pid (cons_option effect b)
begun-cons pid None a b same = same
begun-cons pid (Some (Raised by rendez level)) a b same =
    ap (λ begun. if by == pid then Some (record { rendez = rendez; level = level }) else begun) same
begun-cons pid (Some effect) a b same = same

-- what another does begins no wakeup of the process
begun-others : (effect : Option Effect) (maker pid : ℕ) (h : List Effect) → IsEffectBy maker effect
    → maker ≢ pid → begun_wakeup pid (cons_option effect h) ≡ begun_wakeup pid h
begun-others (Some (Raised by rendez level)) maker pid h by_maker differ =
    if_other by pid (Some (record { rendez = rendez; level = level })) (begun_wakeup pid h)
    (λ same. differ (sym (same ∙ by_maker)))
begun-others (Some effect) maker pid h by_maker differ = refl
begun-others None maker pid h by_maker differ = refl

-- the newest wakeup that a process began is the same by its own events as by all
pub begun-own : (procs rendez : ℕ) (past : List Entry) → IsRun procs rendez past → (pid : ℕ)
    → begun_wakeup pid (history_of (own pid past)) ≡ begun_wakeup pid (history_of past)
begun-own procs rendez [] run pid = refl
begun-own procs rendez (entry ∷ past) run pid =
    by_maker (begun-own procs rendez past run.0 pid) (eqb_tells entry.maker pid)
  where
    effect : Option Effect
    effect = effect_of entry.answer entry.event

    by_maker : begun_wakeup pid (history_of (own pid past)) ≡ begun_wakeup pid (history_of past)
        → ((eqb entry.maker pid ≡ true) × (entry.maker ≡ pid))
        ⊎ ((eqb entry.maker pid ≡ false) × (entry.maker ≢ pid))
        → begun_wakeup pid (history_of
        (cond (eqb entry.maker pid) (entry ∷ own pid past) (own pid past)))
        ≡ begun_wakeup pid (cons_option (effect_of entry.answer entry.event) (history_of past))
    by_maker before (inl same) =
        ap (λ b. begun_wakeup pid (history_of (cond b (entry ∷ own pid past) (own pid past))))
        same.0 ∙ begun-cons pid effect (history_of (own pid past)) (history_of past) before
    by_maker before (inr differ) =
        ap (λ b. begun_wakeup pid (history_of (cond b (entry ∷ own pid past) (own pid past))))
        differ.0 ∙ (before ∙ sym
        (begun-others effect entry.maker pid (history_of past)
        (effect_by_maker entry.answer entry.event entry.maker run.1.made) differ.1))

-- what has returned stays so
returned-cons : (effect : Option Effect) (h : List Effect) (of level : ℕ) → HasReturned h of level
    → HasReturned (cons_option effect h) of level
returned-cons None h of level returned = returned
returned-cons (Some (Missed by)) h of level returned = inr returned
returned-cons (Some (Marked by sleeper)) h of level returned = inr returned
returned-cons (Some effect) h of level returned = returned

-- a wakeup of the process itself returns in both histories
returned_either : (by maker pid : ℕ) (a b : List Effect) (of level : ℕ) → by ≡ maker → maker ≡ pid
    → begun_wakeup pid a ≡ begun_wakeup pid b → (HasReturned a of level → HasReturned b of level)
    → (begun_wakeup by a ≡ Some (record { rendez = of; level = level })) ⊎ HasReturned a of level
    → (begun_wakeup by b ≡ Some (record { rendez = of; level = level })) ⊎ HasReturned b of level
returned_either by maker pid a b of level by_maker same begun before (inl new) =
    inl (subst (λ p. begun_wakeup p b ≡ begun_wakeup p a) (sym (by_maker ∙ same)) (sym begun) ∙ new)
returned_either by maker pid a b of level by_maker same begun before (inr old) = inr (before old)

returned-own : (effect : Option Effect) (maker pid : ℕ) (a b : List Effect) (of level : ℕ)
    → IsEffectBy maker effect → maker ≡ pid → begun_wakeup pid a ≡ begun_wakeup pid b
    → (HasReturned a of level → HasReturned b of level)
    → HasReturned (cons_option effect a) of level
    → HasReturned (cons_option effect b) of level
returned-own (Some (Missed by)) maker pid a b of level by_maker same begun before returned =
    returned_either by maker pid a b of level by_maker same begun before returned
returned-own (Some (Marked by sleeper)) maker pid a b of level by_maker same begun before returned =
    returned_either by maker pid a b of level by_maker same begun before returned
returned-own (Some effect) maker pid a b of level by_maker same begun before returned =
    before returned
returned-own None maker pid a b of level by_maker same begun before returned = before returned

-- a receipt in the own events of a process is a receipt in the run
pub returns_by_own_events : ReturnsByOwnEvents
returns_by_own_events procs rendez [] run pid of level returned = returned
returns_by_own_events procs rendez (entry ∷ past) run pid of level returned =
    by_maker (returns_by_own_events procs rendez past run.0 pid of level)
    (eqb_tells entry.maker pid) returned
  where
    effect : Option Effect
    effect = effect_of entry.answer entry.event

    by_maker
        : (HasReturned (history_of (own pid past)) of level
        → HasReturned (history_of past) of level)
        → ((eqb entry.maker pid ≡ true) × (entry.maker ≡ pid))
        ⊎ ((eqb entry.maker pid ≡ false) × (entry.maker ≢ pid))
        → HasReturned
        (history_of (cond (eqb entry.maker pid) (entry ∷ own pid past) (own pid past))) of level
        → HasReturned (cons_option (effect_of entry.answer entry.event) (history_of past)) of level
    by_maker before (inl same) shown =
        returned-own effect entry.maker pid (history_of (own pid past)) (history_of past) of level
        (effect_by_maker entry.answer entry.event entry.maker run.1.made) same.1
        (begun-own procs rendez past run.0 pid) before
        (subst (λ b. HasReturned (history_of (cond b (entry ∷ own pid past) (own pid past))) of
        level) same.0 shown)
    by_maker before (inr differ) shown =
        returned-cons effect (history_of past) of level
        (before (subst (λ b. HasReturned
        (history_of (cond b (entry ∷ own pid past) (own pid past))) of level) differ.0 shown))
