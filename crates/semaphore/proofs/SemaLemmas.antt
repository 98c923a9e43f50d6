-- What a call leaves of a semaphore is a state that it can be in.
use Rattle.std.proofs.Common.{◌≡◌, ◌≢◌, ◌⊎◌, inl, inr, ℕ, zero, suc, ◌+◌, ◌-◌, ◌<◌, ◌≤◌, Bool, true}
use Rattle.std.proofs.Common.{false, if◌then◌else◌, List, [], ◌∷◌, ◌++◌, length, take, fold, eqb}
use Rattle.std.proofs.Common.{set, None, Some, refl, sym, ap, ◌∙◌, arith}
use Rattle.std.proofs.lemmas.Bool.Decides.{nat_tests}
use Rattle.std.proofs.lemmas.Grind.{get_or-set_at}
use Rattle.std.proofs.lemmas.List.{get_or-set_other, set-get_or}
use Rattle.std.proofs.Math.ListN.{length-set}
use Rattle.std.proofs.Math.Seq.{take-nil}
use Rattle.semaphore.specs.declared.limits.TheConstants.{LAST_GRANT, MAX_VALUE}
use Rattle.semaphore.specs.declared.sema_object.Stage.{Stage}
use Rattle.semaphore.specs.declared.sema_object.Stage.TheVariants.{Idle, Waiting, Granted}
use Rattle.semaphore.specs.WaitQueue.{stands_in, without, with_seat, first_of, AreSeats}
use Rattle.semaphore.specs.declared.sema_object.SemaCall.TheVariants.{Leave}
use Rattle.semaphore.specs.declared.sema_object.SemaReply.TheVariants as reply
use Rattle.semaphore.specs.Units.{SemaState, IsSound, is_seat, stage_of, grants_of, granted, passed}
use Rattle.semaphore.specs.Units.{answer_to, answer_leave, after, sema_after}
use Rattle.semaphore.proofs.WaitQueueLemmas.{stands_below, left_same, left_other, joined_same}
use Rattle.semaphore.proofs.WaitQueueLemmas.{joined_other, seats_join, seats_without, not_there}

-- what stands at a place of a list when one has been set
pub ruleset places = (nat_tests, get_or-set_at, get_or-set_other)

-- another stage of one seat, and another line that differs in that seat alone
pub sound_stage : (s : SemaState) (seat : ℕ) (stage : Stage) (waiters : List ℕ) → IsSound s → seat <
    length s.stages → AreSeats (length s.stages) waiters →
    ((other : ℕ) → other ≢ seat → stands_in waiters other ≡ stands_in s.waiters other) →
    (stands_in waiters seat ≡ true → stage ≡ Waiting) →
    (stage ≡ Waiting → stands_in waiters seat ≡ true) →
    (stands_in waiters seat ≡ true → grants_of s seat < LAST_GRANT) →
    IsSound (record s { stages = set s.stages seat stage; waiters = waiters })
sound_stage s seat stage waiters sound within are others waits stands may =
    record {
      value = sound.value;
      counted = grind (arith, length-set, sound.counted);
      waiters = rw length-set are;
      unnamed = rw length-set sound.unnamed;
      waits = λ other. grind (arith, places, sound.waits other, others other);
      stands = λ other. grind (arith, places, sound.stands other, others other);
      may_wait = λ other. grind (arith, nat_tests, sound.may_wait other, others other);
      fits = sound.fits;
    }

-- another value
pub sound_value : (s : SemaState) (value : ℕ) → IsSound s → value ≤ MAX_VALUE →
    IsSound (record s { value = value })
sound_value s value sound fits =
    record {
      value = fits;
      counted = sound.counted;
      waiters = sound.waiters;
      unnamed = sound.unnamed;
      waits = sound.waits;
      stands = sound.stands;
      may_wait = sound.may_wait;
      fits = sound.fits;
    }

-- a seat that does not wait stands in no line
not_in_line : (s : SemaState) (seat : ℕ) → IsSound s → stage_of s seat ≡ Idle →
    stands_in s.waiters seat ≡ false
not_in_line s seat sound is = grind (arith, nat_tests, sound.waits seat)

-- a seat begins to wait
pub sound_wait : (s : SemaState) (seat : ℕ) → IsSound s → seat < length s.stages → stage_of s seat ≡
    Idle → grants_of s seat ≢ LAST_GRANT →
    IsSound (record s { stages = set s.stages seat Waiting; waiters = s.waiters ++ seat ∷ [] })
sound_wait s seat sound within idle more =
    let fits = sound.fits seat in
    sound_stage s seat Waiting (s.waiters ++ seat ∷ []) sound within
    (seats_join (length s.stages) s.waiters seat sound.waiters within
    (not_in_line s seat sound idle))
    (λ other apart. joined_other s.waiters seat other (λ e. apart (sym e)))
    (λ is. refl) (λ is. joined_same s.waiters seat) (λ is. omega arith)

-- a seat waits no longer
sound_left : (s : SemaState) (seat : ℕ) (stage : Stage) → IsSound s → seat < length s.stages →
    stage ≢ Waiting → IsSound (record s {
      stages = set s.stages seat stage;
      waiters = without seat s.waiters;
    })
sound_left s seat stage sound within apart =
    let gone = left_same (length s.stages) s.waiters seat sound.waiters in
    sound_stage s seat stage (without seat s.waiters) sound within
    (seats_without (length s.stages) s.waiters seat sound.waiters)
    (λ other else_where. left_other s.waiters seat other (λ e. else_where (sym e)))
    (λ is. cc) (λ is. absurd (apart is)) (λ is. absurd (cc))

-- a sound state stays sound when a seat leaves the line and is idle
pub sound_leave : (s : SemaState) (seat : ℕ) → IsSound s → seat < length s.stages →
    IsSound (record s { stages = set s.stages seat Idle; waiters = without seat s.waiters })
sound_leave s seat sound within = sound_left s seat Idle sound within (λ e. cc)

-- what holds of the seat that is granted the next unit
pub record IsFirstWaiter (s : SemaState) (seat : ℕ) : Type 0 where
  -- it is one of the semaphore's seats
  pub within : seat < length s.stages
  -- its grants are counted
  pub counted : seat < length s.grants
  -- it stands in the line
  pub stands : stands_in s.waiters seat ≡ true
  -- it may be granted one unit more
  pub more : grants_of s seat < LAST_GRANT

-- in a sound state the first in line is a seat that stands there and may be granted a unit
pub first_waiter : (s : SemaState) (seat : ℕ) → IsSound s → first_of s.waiters ≡ Some seat →
    IsFirstWaiter s seat
first_waiter s seat sound is =
    let stands = by s.waiters is in
    let within = stands_below (length s.stages) s.waiters seat sound.waiters stands in
    record {
      within = within;
      counted = omega (arith, sound.counted);
      stands = stands;
      more = sound.may_wait seat stands;
    }
  where
    by : (line : List ℕ) → first_of line ≡ Some seat → stands_in line seat ≡ true
    by [] is = cc
    by (x ∷ xs) is = let same : x ≡ seat = cc in grind (arith, nat_tests)

-- who stands in a line in which a seat stands, or that it joins
pub stands_with : (seat other : ℕ) (xs : List ℕ) → stands_in (with_seat seat xs) other ≡
    (if eqb seat other then true else stands_in xs other)
stands_with seat other xs =
    grind (arith, nat_tests, joined_same xs seat, joined_other xs seat other)

-- the first waiter is granted a unit
pub sound_granted : (s : SemaState) (seat : ℕ) → IsSound s → first_of s.waiters ≡ Some seat →
    IsSound (granted s seat)
sound_granted s seat sound is =
    let first = first_waiter s seat sound is in
    let left = sound_left s seat Granted sound first.within (λ e. cc) in
    let gone = left_same (length s.stages) s.waiters seat sound.waiters in
    record {
      value = omega (arith, sound.value);
      counted = length-set s.grants seat (grants_of s seat + 1) ∙ left.counted;
      waiters = left.waiters;
      unnamed = with_are (stands_in s.unnamed seat) refl (rw length-set first.within) left.unnamed;
      waits = left.waits;
      stands = left.stands;
      may_wait = λ other. grind (arith, places, left.may_wait other, gone);
      fits = λ other. grind (arith, places, sound.fits other, first.more, first.counted);
    }
  where
    with_are : {seats : ℕ} (b : Bool) → stands_in s.unnamed seat ≡ b → seat < seats →
        AreSeats seats s.unnamed →
        AreSeats seats (if b then s.unnamed else s.unnamed ++ seat ∷ [])
    with_are true is within are = are
    with_are {seats} false is within are = seats_join seats s.unnamed seat are within is

-- a unit that passes, and what is left to pass
pub passed_one : (s : SemaState) (seat : ℕ) → 0 < s.value → first_of s.waiters ≡ Some seat →
    passed (granted s seat) ≡ passed s
unfolding passed
passed_one s seat some is = by s.value s.waiters refl refl some is
  where
    by : (value : ℕ) (line : List ℕ) → s.value ≡ value → s.waiters ≡ line → 0 < value →
        first_of line ≡ Some seat → fold granted (granted s seat)
        (take (s.value - 1) (without seat s.waiters)) ≡ fold granted s (take s.value s.waiters)
    by value [] is_value is_line some is = cc
    by zero (x ∷ xs) is_value is_line some is = absurd (omega arith)
    by (suc value) (x ∷ xs) is_value is_line some is =
        let same : x ≡ seat = cc in
        let left : without seat (x ∷ xs) ≡ xs = grind (arith, nat_tests) in
        let fewer : s.value - 1 ≡ value = omega arith in
        let rest : take (s.value - 1) (without seat s.waiters) ≡ take value xs =
        rw (is_line, left, fewer) in
        let all : take s.value s.waiters ≡ seat ∷ take value xs = rw (is_value, is_line, same) in
        ap (fold granted (granted s seat)) rest ∙ sym (ap (fold granted s) all)

-- nothing is left to pass
pub passed_all : (s : SemaState) → (s.value ≡ 0) ⊎ (first_of s.waiters ≡ None) → s ≡ passed s
unfolding passed
passed_all s (inl none) = rw none
passed_all s (inr nobody) = by s.waiters refl nobody
  where
    by : (line : List ℕ) → s.waiters ≡ line → first_of line ≡ None → s ≡
        fold granted s (take s.value s.waiters)
    by [] is none = rw (is, take-nil)
    by (x ∷ xs) is none = cc

-- a seat that is idle leaves the semaphore as it was when it leaves the line
pub leaves_nothing : (s : SemaState) (seat : ℕ) → IsSound s → seat < length s.stages →
    stage_of s seat ≡ Idle → s ≡ after s (Leave seat)
leaves_nothing s seat sound within idle =
    let there : is_seat s seat ≡ true = grind (arith, nat_tests) in
    let answer : answer_to s (Leave seat) ≡ reply.Gone =
    ap (λ b. if b then answer_leave (stage_of s seat) else reply.Busy) there ∙
    ap answer_leave idle in
    let stages : s.stages ≡ set s.stages seat Idle =
    sym (set-get_or s.stages seat Idle) ∙ ap (set s.stages seat) idle in
    let waiters : s.waiters ≡ without seat s.waiters =
    sym (not_there s.waiters seat (not_in_line s seat sound idle)) in
    (λ k. record s { stages = stages k; waiters = waiters k }) ∙
    sym (ap (sema_after s (Leave seat)) answer)
