-- What each call keeps of the laws of a semaphore.
use Rattle.std.proofs.Common.{◌≡◌, ◌≢◌, ◌⊎◌, inl, inr, ⊎_elim, ℕ, zero, suc, ◌+◌, ◌-◌, ◌<◌, ◌≤◌}
use Rattle.std.proofs.Common.{Bool, false, if◌then◌else◌, List, [], ◌∷◌, length, get_or, set, Some}
use Rattle.std.proofs.Common.{refl, sym, ap, ◌∙◌, subst, arith, not, eqb, IfSome, replicate, drop}
use Rattle.std.proofs.lemmas.Bool.Decides.{nat_tests}
use Rattle.std.proofs.lemmas.Grind.{common_steps}
use Rattle.std.proofs.lemmas.List.{get_or-replicate, length-replicate}
use Rattle.std.proofs.Math.ListN.{length-set}
use Rattle.histories.specs.History.{state_after, IsLegal, entries_by}
use Rattle.kernel_lock.specs.Definition.{server}
use Rattle.semaphore.specs.declared.limits.TheConstants.{LAST_GRANT, MAX_VALUE}
use Rattle.semaphore.specs.declared.sema_object.Stage.{Stage}
use Rattle.semaphore.specs.declared.sema_object.Stage.TheVariants.{Idle, Waiting, Granted}
use Rattle.semaphore.specs.WaitQueue.{stands_in, without, first_of, AreSeats}
use Rattle.semaphore.specs.declared.sema_object.SemaCall.{SemaCall}
use Rattle.semaphore.specs.declared.sema_object.SemaReply.{SemaReply}
use Rattle.semaphore.specs.declared.sema_object.SemaCall.TheVariants.{Acquire, AcquireNow, Release}
use Rattle.semaphore.specs.declared.sema_object.SemaCall.TheVariants.{NextWake, Collect, Leave}
use Rattle.semaphore.specs.declared.sema_object.SemaReply.TheVariants as reply
use Rattle.semaphore.specs.Units.{SemaState, IsSound, stage_of, grants_of, granted, passed}
use Rattle.semaphore.specs.Units.{answer_to, answer_next, sema_after, seat_named, is_idle, opening}
use Rattle.semaphore.specs.SemaHistory.{SemaEntry, sema_meaning, added_by, taken_by, released}
use Rattle.semaphore.specs.SemaHistory.{taken, held_in, uncollected, collected_by, collected}
use Rattle.semaphore.specs.SemaHistory.{named_by, last_named}
use Rattle.semaphore.specs.Seats.{waits_after, is_waiting}
use Rattle.semaphore.proofs.SemaLemmas.{places, sound_value, sound_stage, sound_wait, sound_leave}
use Rattle.semaphore.proofs.SemaLemmas.{sound_granted, stands_with}
use Rattle.semaphore.proofs.SemaLemmas.{first_waiter, passed_one, passed_all}

-- ---- what the answers tell of the state

acquired_of : (s : SemaState) (seat : ℕ) → reply.Acquired ≡ answer_to s (Acquire seat) → 0 < s.value
acquired_of s seat is = grind (arith, nat_tests)

taken_now_of : (s : SemaState) (seat : ℕ) → reply.Acquired ≡ answer_to s (AcquireNow seat) → 0 <
    s.value
taken_now_of s seat is = grind (arith, nat_tests)

-- what holds where a seat is told to wait
pub record Waits (s : SemaState) (seat count : ℕ) : Type 0 where
  -- it is one of the semaphore's seats
  pub within : seat < length s.stages
  -- its last wait is over
  pub idle : stage_of s seat ≡ Idle
  -- there is no unit
  pub none : s.value ≡ 0
  -- its count of grants is not the last one
  pub more : grants_of s seat ≢ LAST_GRANT
  -- and it is told that count
  pub count_is : count ≡ grants_of s seat

-- a seat whose acquire is answered Wait is idle, finds no unit, and may be granted another
pub waits_of : (s : SemaState) (seat count : ℕ) → reply.Wait count ≡ answer_to s (Acquire seat) →
    Waits s seat count
waits_of s seat count is = grind (arith, nat_tests)

-- the sum that a release answers is the value and what was released, and is within the limit
pub released_of : (s : SemaState) (count sum : ℕ) → reply.Value sum ≡ answer_to s (Release count) →
    (sum ≡ s.value + count) × (sum ≤ MAX_VALUE)
released_of s count sum is = grind (arith, nat_tests)

-- a seat whose collect is answered Granted had been granted a unit
pub collected_of : (s : SemaState) (seat : ℕ) → reply.Granted ≡ answer_to s (Collect seat) →
    (seat < length s.stages) × (stage_of s seat ≡ Granted)
collected_of s seat is = grind (arith, nat_tests)

-- a seat that is answered Granted when it leaves had been granted a unit, which it gets
pub left_with_of : (s : SemaState) (seat : ℕ) → reply.Granted ≡ answer_to s (Leave seat) →
    (seat < length s.stages) × (stage_of s seat ≡ Granted)
left_with_of s seat is = grind (arith, nat_tests)

-- a seat that is answered Gone when it leaves had no granted unit to collect
pub left_without_of : (s : SemaState) (seat : ℕ) → reply.Gone ≡ answer_to s (Leave seat) →
    (seat < length s.stages) × (held_in (stage_of s seat) ≡ 0)
left_without_of s seat is = grind (arith, nat_tests)

-- who is named to be woken is the first of those that are to be named
named_of : (s : SemaState) (seat count : ℕ) → reply.Wake seat count ≡ answer_to s NextWake →
    (s.unnamed ≡ seat ∷ drop 1 s.unnamed) × (count ≡ grants_of s seat)
named_of s seat count is = by s.unnamed is
  where
    by : (line : List ℕ) → reply.Wake seat count ≡ answer_next s line →
        (line ≡ seat ∷ drop 1 line) × (count ≡ grants_of s seat)
    by [] is = cc
    by (first ∷ rest) is = (cc, cc)

-- ---- what a history keeps

-- what is kept of a seat that is at this stage, has this count, and is to be named or not
pub record AtSeat (stage : Stage) (grants : ℕ) (stands : Bool) (count own last : ℕ) (waits : Bool) :
    Type 0 where
  -- its count is where it began, the units that it collected and one that it has yet to collect
  pub counts : grants ≡ count + own + held_in stage
  -- if it is not to be named, it was named last with its count
  pub named : stands ≡ false → grants ≡ last
  -- its own calls tell whether it waits
  pub idle : is_idle stage ≡ not waits

-- what is kept of the seat with this number
abbrev pub IsAt : SemaState → ℕ → ℕ → ℕ → ℕ → Bool → Type 0
IsAt s seat = AtSeat (stage_of s seat) (grants_of s seat) (stands_in s.unnamed seat)

-- what is kept of all
pub record Kept (procs sum got count : ℕ) (own last : ℕ → ℕ) (waits : ℕ → Bool) (s : SemaState) :
    Type 0 where
  -- a semaphore can be in this state
  pub sound : IsSound s
  -- it has so many seats
  pub size : length s.stages ≡ procs
  -- what nobody has, what was taken and what was granted but not collected are all units
  pub units : s.value + got + uncollected s.stages ≡ sum
  -- and what is kept of each seat
  pub seats : (seat : ℕ) → seat < procs → IsAt s seat count (own seat) (last seat) (waits seat)

-- there is no unit, or nobody waits for one
abbrev pub Free : SemaState → Type 0
Free s = (s.value ≡ 0) ⊎ (s.waiters ≡ [])

uncollected_set : (stages : List Stage) (seat : ℕ) (stage : Stage) → seat < length stages →
    uncollected (set stages seat stage) + held_in (get_or stages seat Idle) ≡ uncollected stages +
    held_in stage
uncollected_set [] seat stage within = absurd (omega arith)
uncollected_set (old ∷ stages) zero stage within = omega arith
uncollected_set (old ∷ stages) (suc seat) stage within =
    omega (arith, uncollected_set stages seat stage (omega arith))

-- the first waiter is granted a unit
granted_seat : (s : SemaState) (seat i count own last : ℕ) (waits : Bool) →
    seat < length s.stages → seat < length s.grants → stage_of s seat ≡ Waiting →
    IsAt s i count own last waits → IsAt (granted s seat) i count own last waits
granted_seat s seat i count own last waits within counted is at = record {
  counts = grind (arith, places, at.counts);
  named = λ gone. grind (arith, places, at.named, stands_with seat i s.unnamed);
  idle = grind (arith, places, at.idle);
}

-- What each grant keeps holds when the units have passed; and then there is no unit, or nobody
-- waits.
passed_keeps : (Holds : SemaState → Type 0) → ((s : SemaState) (seat : ℕ) → 0 < s.value →
    first_of s.waiters ≡ Some seat → Holds s → Holds (granted s seat)) → (units : ℕ)
    (s : SemaState) → s.value ≡ units → Holds s → Holds (passed s) × Free (passed s)
passed_keeps Holds step zero s none holds =
    subst (λ t. Holds t × Free t) (passed_all s (inl none)) (holds, inl none)
passed_keeps Holds step (suc units) s some holds =
    by s.waiters refl (λ seat more first.
    passed_keeps Holds step units (granted s seat) (omega arith) (step s seat more first holds))
  where
    by : (line : List ℕ) → s.waiters ≡ line → ((seat : ℕ) → 0 < s.value → first_of s.waiters ≡
        Some seat → Holds (passed (granted s seat)) × Free (passed (granted s seat))) →
        Holds (passed s) × Free (passed s)
    by [] is rest =
        subst (λ t. Holds t × Free t) (passed_all s (inr (ap first_of is))) (holds, inr is)
    by (seat ∷ line) is rest =
        let more : 0 < s.value = omega arith in
        let first : first_of s.waiters ≡ Some seat = ap first_of is in
        subst (λ t. Holds t × Free t) (passed_one s seat more first) (rest seat more first)

module _ (procs sum got count : ℕ) (own last : ℕ → ℕ) (waits : ℕ → Bool) (s : SemaState)
    (kept : Kept procs sum got count own last waits s) where
  granted_keeps : (seat : ℕ) → 0 < s.value → first_of s.waiters ≡ Some seat →
      Kept procs sum got count own last waits (granted s seat)
  granted_keeps seat some is =
      let first = first_waiter s seat kept.sound is in
      let waited = kept.sound.waits seat first.stands in
      record {
        sound = sound_granted s seat kept.sound is;
        size = length-set s.stages seat Granted ∙ kept.size;
        units = omega (
          arith,
          kept.units,
          uncollected_set s.stages seat Granted first.within,
          ap held_in waited,
        );
        seats = λ i within. granted_seat s seat i count (own i) (last i) (waits i) first.within
            first.counted waited (kept.seats i within);
      }

  -- a call tells nothing of a seat
  same_at : (i by : ℕ) → i < procs →
      IsAt s i count (0 + own i) (last i) (if eqb by i then waits i else waits i)
  same_at i by within =
      let at = kept.seats i within in
      record {
        counts = omega (arith, at.counts);
        named = at.named;
        idle = grind (arith, nat_tests, at.idle);
      }

  -- a unit is taken at once
  unit_keeps : (by : ℕ) → 0 < s.value → Free s → Kept procs (0 + sum) (1 + got) count
      (λ i. 0 + own i) last (λ i. if eqb by i then waits i else waits i)
      (record s { value = s.value - 1 }) × Free (record s { value = s.value - 1 })
  unit_keeps by some free = (
    record {
      sound = sound_value s (s.value - 1) kept.sound (omega (arith, kept.sound.value));
      size = kept.size;
      units = omega (arith, kept.units);
      seats = λ i within. same_at i by within;
    },
    ⊎_elim (λ none. absurd (omega arith)) (λ nobody. inr nobody) free,
  )

  -- a unit that was granted is collected
  collect_keeps : (seat by : ℕ) → seat < length s.stages → stage_of s seat ≡ Granted → seat ≡ by →
      Free s → Kept procs (0 + sum) (1 + got) count (λ i. (if eqb seat i then 1 else 0) + own i)
      last (λ i. if eqb by i then false else waits i)
      (record s { stages = set s.stages seat Idle }) ×
      Free (record s { stages = set s.stages seat Idle })
  collect_keeps seat by within is named free = (
    record {
      sound = sound_stage s seat Idle s.waiters kept.sound within kept.sound.waiters
          (λ other apart. refl)
          (λ stands. let bad = sym is ∙ kept.sound.waits seat stands in cc) (λ e. cc)
          (kept.sound.may_wait seat);
      size = length-set s.stages seat Idle ∙ kept.size;
      units = omega (arith, kept.units, uncollected_set s.stages seat Idle within, ap held_in is);
      seats = λ i inside.
          let at = kept.seats i inside in
          grind (arith, places, at.counts, at.named, at.idle);
    },
    free,
  )

seats_dropped : (seats : ℕ) (xs : List ℕ) → AreSeats seats xs → AreSeats seats (drop 1 xs)
seats_dropped seats [] are = tt
seats_dropped seats (x ∷ xs) are = are.2

kept_step : (s : SemaState) (call : SemaCall) (r : SemaReply) (by procs sum got count : ℕ)
    (own last : ℕ → ℕ) (waits : ℕ → Bool) → r ≡ answer_to s call →
    IfSome (seat_named call) (λ seat. seat ≡ by) → Kept procs sum got count own last waits s →
    Free s → Kept procs (added_by call r + sum) (taken_by call r + got) count
    (λ i. collected_by i call r + own i) (λ i. named_by i call r (last i))
    (λ i. if eqb by i then waits_after call r (waits i) else waits i) (sema_after s call r) ×
    Free (sema_after s call r)
kept_step s (Acquire seat) reply.Acquired by procs sum got count own last waits is named kept free =
    unit_keeps procs sum got count own last waits s kept by (acquired_of s seat is) free
kept_step s (AcquireNow seat) reply.Acquired by procs sum got count own last waits is named kept
    free =
    unit_keeps procs sum got count own last waits s kept by (taken_now_of s seat is) free
kept_step s (Acquire seat) (reply.Wait n) by procs sum got count own last waits is named kept free =
    let w = waits_of s seat n is in (
      record {
        sound = sound_wait s seat kept.sound w.within w.idle w.more;
        size = length-set s.stages seat Waiting ∙ kept.size;
        units = omega (
          arith,
          kept.units,
          uncollected_set s.stages seat Waiting w.within,
          ap held_in w.idle,
        );
        seats = λ i inside.
            let at = kept.seats i inside in
            grind (arith, places, at.counts, at.named, at.idle, w.idle, w.within);
      },
      inl w.none,
    )
kept_step s (Release n) (reply.Value total) by procs sum got count own last waits is named kept
    free =
    let told = released_of s n total is in
    passed_keeps (Kept procs (n + sum) (0 + got) count (λ i. 0 + own i) last
    (λ i. if eqb by i then waits i else waits i))
    (λ t seat some first now. granted_keeps procs (n + sum) (0 + got) count (λ i. 0 + own i) last _
    t now seat some first)
    total (record s { value = total }) refl
    (record {
      sound = sound_value s total kept.sound told.1;
      size = kept.size;
      units = omega (arith, kept.units, told.0);
      seats = λ i within. same_at procs sum got count own last waits s kept i by within;
    })
kept_step s NextWake (reply.Wake seat n) by procs sum got count own last waits is named kept free =
    let told = named_of s seat n is in (
      record {
        sound = record {
          value = kept.sound.value;
          counted = kept.sound.counted;
          waiters = kept.sound.waiters;
          unnamed = seats_dropped (length s.stages) s.unnamed kept.sound.unnamed;
          waits = kept.sound.waits;
          stands = kept.sound.stands;
          may_wait = kept.sound.may_wait;
          fits = kept.sound.fits;
        };
        size = kept.size;
        units = omega (arith, kept.units);
        seats = λ i inside. record {
          counts = omega (arith, (kept.seats i inside).counts);
          named = λ gone. grind (
            arith,
            nat_tests,
            (kept.seats i inside).named,
            told.1,
            ap (λ l. stands_in l i) told.0,
          );
          idle = (same_at procs sum got count own last waits s kept i by inside).idle;
        };
      },
      free,
    )
kept_step s (Collect seat) reply.Granted by procs sum got count own last waits is named kept free =
    let told = collected_of s seat is in
    collect_keeps procs sum got count own last waits s kept seat by told.0 told.1 named free
kept_step s (Leave seat) reply.Granted by procs sum got count own last waits is named kept free =
    let told = left_with_of s seat is in
    collect_keeps procs sum got count own last waits s kept seat by told.0 told.1 named free
kept_step s (Leave seat) reply.Gone by procs sum got count own last waits is named kept free =
    let told = left_without_of s seat is in (
      record {
        sound = sound_leave s seat kept.sound told.0;
        size = length-set s.stages seat Idle ∙ kept.size;
        units = omega (arith, kept.units, uncollected_set s.stages seat Idle told.0, told.1);
        seats = λ i inside.
            let at = kept.seats i inside in
            grind (arith, places, at.counts, at.named, at.idle, told.0, told.1);
      },
      ⊎_elim (λ none. inl none) (λ nobody. inr (ap (without seat) nobody)) free,
    )
kept_step s call r by procs sum got count own last waits is named kept free = (
  record {
    sound = kept.sound;
    size = kept.size;
    units = omega (arith, kept.units);
    seats = λ i within. same_at procs sum got count own last waits s kept i by within;
  },
  free,
)

none_held : (n : ℕ) → uncollected (replicate n Idle) ≡ 0
none_held zero = refl
none_held (suc n) = omega (arith, none_held n)

idle_at : (n i : ℕ) → get_or (replicate n Idle) i Idle ≡ Idle
idle_at n i = grind (arith, common_steps)

count_at : (n i count : ℕ) → get_or (replicate n count) i 0 ≤ count
count_at n i count = grind (arith, common_steps)

opening_kept : (value procs count : ℕ) → value ≤ MAX_VALUE → count ≤ LAST_GRANT →
    Kept procs (value + 0) 0 count (λ i. 0) (λ i. count) (λ i. false) (opening value procs count)
opening_kept value procs count fits few =
    record {
      sound = record {
        value = fits;
        counted = grind (arith, length-replicate);
        waiters = tt;
        unnamed = tt;
        waits = λ seat stands. cc;
        stands = λ seat is. let bad : Idle ≡ Waiting = sym (idle_at procs seat) ∙ is in cc;
        may_wait = λ seat stands. absurd (cc);
        fits = λ seat. omega (arith, count_at procs seat count);
      };
      size = length-replicate procs Idle;
      units = omega (arith, none_held procs);
      seats = λ i within. record {
        counts = omega (
          arith,
          get_or-replicate procs i count 0 within,
          ap held_in (idle_at procs i),
        );
        named = λ gone. get_or-replicate procs i count 0 within;
        idle = ap is_idle (idle_at procs i);
      };
    }

-- what a history keeps of the state that it leaves
abbrev pub KeptBy : ℕ → ℕ → ℕ → List SemaEntry → SemaState → Type 0
KeptBy value procs count past s =
    Kept procs (value + released past) (taken past) count (λ i. collected i past)
    (λ i. last_named count i past) (λ i. is_waiting (entries_by server i past)) s × Free s

-- After every legal history the units add up, each seat is as it was told, the state is sound, and
-- nobody waits where there is a unit.
pub history_keeps : (value procs count : ℕ) (past : List SemaEntry) → value ≤ MAX_VALUE → count ≤
    LAST_GRANT → IsLegal sema_meaning (opening value procs count) past →
    KeptBy value procs count past (state_after sema_meaning (opening value procs count) past)
history_keeps value procs count [] fits few legal =
    (opening_kept value procs count fits few, inr refl)
history_keeps value procs count (entry ∷ past) fits few legal =
    let before = history_keeps value procs count past fits few legal.1 in
    let s = state_after sema_meaning (opening value procs count) past in
    let step = kept_step s entry.request entry.reply entry.by procs (value + released past)
    (taken past) count (λ i. collected i past) (λ i. last_named count i past)
    (λ i. is_waiting (entries_by server i past)) legal.0.reply legal.0.named before.0 before.1 in
    subst (KeptBy value procs count (entry ∷ past))
    (ap (sema_after s entry.request) legal.0.reply) (
      record {
        sound = step.0.sound;
        size = step.0.size;
        units = omega (arith, step.0.units);
        seats = λ i within. record {
          counts = (step.0.seats i within).counts;
          named = (step.0.seats i within).named;
          idle = grind (arith, nat_tests, (step.0.seats i within).idle);
        };
      },
      step.1,
    )
