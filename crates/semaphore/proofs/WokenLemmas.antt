-- Whom a semrelease was named is released, and a seat is named above what it was told before.
use Rattle.std.proofs.Common.{◌≡◌, ◌≤◌, ◌<◌, ℕ, List, [], ◌∷◌, ◌++◌, Some, map, length, sym, ap}
use Rattle.std.proofs.Common.{◌∙◌, subst, arith}
use Rattle.std.proofs.lemmas.Bool.Decides.{nat_tests}
use Rattle.std.specs.List.{AllByRecursion}
use Rattle.histories.specs.History.{state_after}
use Rattle.sleep_core.specs.Laws.{ReleasesBelow}
use Rattle.sleep_core.specs.Runs.{world_of}
use Rattle.semaphore.specs.declared.limits.TheConstants.{LAST_GRANT}
use Rattle.semaphore.specs.declared.sema.Sema.{Sema}
use Rattle.semaphore.specs.declared.sema.SemaSeat.{SemaSeat}
use Rattle.semaphore.specs.declared.sema_asks.Grant.{Grant}
use Rattle.semaphore.specs.declared.sema_object.SemaCall.{SemaCall}
use Rattle.semaphore.specs.declared.sema_object.SemaCall.TheVariants.{Acquire, AcquireNow, Release}
use Rattle.semaphore.specs.declared.sema_object.SemaCall.TheVariants.{NextWake, Collect, Leave}
use Rattle.semaphore.specs.declared.sema_object.SemaReply.TheVariants as reply
use Rattle.semaphore.specs.Releasing.{WakesNamed}
use Rattle.semaphore.specs.Seats.{rendez_of_seat}
use Rattle.semaphore.specs.SemaHistory.{SemaEntry, sema_meaning, collected, held_in}
use Rattle.semaphore.specs.Units.{SemaState, opening, answer_to, grants_of, seat_named, stage_of}
use Rattle.semaphore.specs.WakeLaws.{ReleasingReleasesTheNamed, WaitersAreNamedAbove}
use Rattle.semaphore.proofs.SemaLawLemmas.{history_keeps}
use Rattle.histories.proofs.HistoryLemmas.{legal_past}
use Rattle.waiting.specs.Waiting.{Point}
use Rattle.waiting.specs.Wakeups.{HasGoneOn, Wakeup, WakesEach}
use Rattle.waiting.proofs.WakeupLemmas.{returned_release}

-- ---- whom it woke

-- the wakeup of a seat that was named
abbrev wakeup_of : Sema → Grant → Wakeup
wakeup_of sema grant =
    record { rendez = rendez_of_seat sema grant.seat; level = grant.grants }

-- it made just these wakeups
wakes_each : (sema : Sema) (grants : List Grant) (before after : Point SemaSeat)
    → WakesNamed sema grants before after
    → WakesEach (map (wakeup_of sema) grants) before.process after.process
wakes_each sema [] before after wakes = ap (λ (p : Point SemaSeat). p.process) wakes
wakes_each sema (grant ∷ others) before after wakes =
    record {
      between = wakes.between.process;
      others = wakes_each sema others before wakes.between wakes.others;
      last = wakes.woken;
    }

-- what holds of each wakeup holds of each seat that was named
all_named : (sema : Sema) (Holds : Wakeup → Type 0) (grants : List Grant)
    → AllByRecursion Holds (map (wakeup_of sema) grants)
    → AllByRecursion (λ grant. Holds (wakeup_of sema grant)) grants
all_named sema Holds [] all = tt
all_named sema Holds (grant ∷ others) all = (all.0, all_named sema Holds others all.1)

-- by the law of all devices
pub releasing_releases : ReleasingReleasesTheNamed
releasing_releases sizes s shows sema count sum before after releases gone =
    let wakes = releases.wakes in
    all_named sema
    (λ wakeup. ReleasesBelow (world_of sizes.procs sizes.rendez shows.run) wakeup.rendez
    wakeup.level) wakes.grants
    (returned_release sizes s shows (map (wakeup_of sema) wakes.grants) releases.first.process
    wakes.last.process
    (wakes_each sema wakes.grants releases.first wakes.last wakes.woken)
    (subst (HasGoneOn s.views) wakes.none.idle gone))

-- ---- the number that it was told

-- an entry takes no unit back that the seat collected
collects_more : (seat : ℕ) (since past : List SemaEntry)
    → collected seat past ≤ collected seat (since ++ past)
collects_more seat [] past = omega arith
collects_more seat (entry ∷ since) past =
    let before = collects_more seat since past in omega (arith, before)

-- a seat that is told to wait is one of the semaphore's, holds no unit, and is told the count of
-- its grants
record IsToldToWait (s : SemaState) (seat number : ℕ) : Type 0 where
  within : seat < length s.stages
  none : held_in (stage_of s seat) ≡ 0
  count : number ≡ grants_of s seat

told_to_wait : (s : SemaState) (call : SemaCall) (seat number : ℕ)
    → reply.Wait number ≡ answer_to s call → seat_named call ≡ Some seat
    → IsToldToWait s seat number
told_to_wait s (Acquire other) seat number answered named =
    let same : other ≡ seat = cc in grind (arith, nat_tests)
told_to_wait s (AcquireNow other) seat number answered named = grind (arith, nat_tests)
told_to_wait s (Collect other) seat number answered named =
    let same : other ≡ seat = cc in grind (arith, nat_tests)
told_to_wait s (Leave other) seat number answered named = grind (arith, nat_tests)
told_to_wait s (Release count) seat number answered named = cc
told_to_wait s NextWake seat number answered named = cc

-- by the counts of grants: one more since it was told to wait
pub waiters_above : WaitersAreNamedAbove
waiters_above value procs fits past since waits number seat legal told own granted named =
    let first = legal_past sema_meaning (opening value procs 0) since (waits ∷ past) legal in
    let s = state_after sema_meaning (opening value procs 0) past in
    let history = since ++ waits ∷ past in
    let tells = told_to_wait s waits.request seat number (sym told ∙ first.0.reply) own in
    let few : 0 ≤ LAST_GRANT = omega arith in
    let before = (history_keeps value procs 0 past fits few first.1).0 in
    let after = (history_keeps value procs 0 history fits few legal).0 in
    let within : seat < procs = omega (arith, tells.within, before.size) in
    let began = (before.seats seat within).counts in
    let now = after.seats seat within in
    let counts = now.counts in
    let names = now.named named in
    let held = ap held_in granted in
    let more = collects_more seat since (waits ∷ past) in
    let one = collects_more seat (waits ∷ []) past in
    omega (arith, began, counts, held, names, more, one, tells.count, tells.none)
