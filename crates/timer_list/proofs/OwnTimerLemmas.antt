-- What a seat's own calls tell of its timer, and which tick took it.
use Rattle.std.proofs.Common.{◌≡◌, ◌≢◌, ◌⊎◌, inl, inr, ℕ, ◌<◌, ◌≤◌, eqb, Bool, true, false, not}
use Rattle.std.proofs.Common.{if◌then◌else◌, List, [], ◌∷◌, ◌++◌, length, replicate, get_or, set}
use Rattle.std.proofs.Common.{Option, None, Some, IfSome, refl, sym, ap, ◌∙◌, subst, arith}
use Rattle.std.proofs.lemmas.Bool.Decides.{nat_tests}
use Rattle.std.proofs.lemmas.Grind.{common_steps, get_or-set_at}
use Rattle.std.proofs.lemmas.List.{get_or-set_same, get_or-set_other, length-replicate}
use Rattle.std.proofs.Math.ListN.{length-set}
use Rattle.histories.specs.History.{state_after, IsLegal, entries_by}
use Rattle.kernel_lock.specs.Definition.{server}
use Rattle.sync_base.specs.declared.ids.Pid.{Pid}
use Rattle.timer_list.specs.declared.due.Due.{Due}
use Rattle.timer_list.specs.declared.timer_object.Timer.{Timer}
use Rattle.timer_list.specs.declared.timer_object.Timer.TheVariants.{Unset, Set, Expired}
use Rattle.timer_list.specs.declared.timer_object.TimerCall.{TimerCall}
use Rattle.timer_list.specs.declared.timer_object.TimerCall.TheVariants.{Add, Expire, Cancel}
use Rattle.timer_list.specs.declared.timer_object.TimerReply.{TimerReply}
use Rattle.timer_list.specs.declared.timer_object.TimerReply.TheVariants as told
use Rattle.timer_list.specs.Due.{earliest}
use Rattle.timer_list.specs.Timers.{timer_of, dues_from, if_come, first_due, may_add}
use Rattle.timer_list.specs.Timers.{answer_expired, answer_first, answer_to}
use Rattle.timer_list.specs.Timers.{after_first, timers_after, seat_named}
use Rattle.timer_list.specs.TimerHistory.{TimerEntry, timer_meaning, sets_after, has_timer}
use Rattle.timer_list.specs.TimerHistory.{AreByOthersThan, WasTaken}
use Rattle.timer_list.specs.TimerLaws.{IsTaken}
use Rattle.waiting.proofs.Cases.{same_or_not}
use Rattle.timer_list.proofs.TimerLemmas.{IsSet, first_of_all, earliest_is_set}
use Rattle.histories.proofs.HistoryLemmas.{legal_past}

-- so many timers, and whether this one may be set
pub record Keeps (s : List Timer) (procs number : ℕ) (free : Bool) : Type 0 where
  -- there are so many timers
  pub size : length s ≡ procs
  -- whether this one may be set: it is unset
  pub is : may_add (timer_of s number) ≡ free

-- what the answers tell
added_within : (s : List Timer) (seat deadline : ℕ) (pid : Pid) → told.Added ≡
    answer_to s (Add seat pid deadline) → seat < length s
added_within s seat deadline pid is = grind (arith, nat_tests)

cancelled_within : (s : List Timer) (seat : ℕ) (r : TimerReply) → r ≢ told.Busy → r ≡
    answer_to s (Cancel seat) → seat < length s
cancelled_within s seat r apart is = grind (arith, nat_tests)

-- the timer that a tick finds due is set, to a moment that is come
first_is_set : (s : List Timer) (now : ℕ) (due : Due) → first_due now s ≡ Some due →
    IsSet s due × (due.deadline ≤ now)
first_is_set s now due is =
    let come : if_come now (earliest (dues_from 0 s)) ≡ Some due = sym (first_of_all now s) ∙ is in
    by (earliest (dues_from 0 s)) refl come
  where
    by : (first : Option Due) → earliest (dues_from 0 s) ≡ first → if_come now first ≡ Some due →
        IsSet s due × (due.deadline ≤ now)
    by None first_is e = cc
    by (Some d) first_is e =
        let same : d ≡ due = grind (arith, nat_tests) in
        let fits : d.deadline ≤ now = grind (arith, nat_tests) in (
          earliest_is_set s due (first_is ∙ ap Some same),
          subst (λ (d : Due). d.deadline ≤ now) same fits,
        )

-- a timer is set, of the seat or of another one
set_keeps : (s : List Timer) (procs number seat by : ℕ) (timer : Timer) (before after : Bool) →
    Keeps s procs number (not before) → seat < length s → seat ≡ by → may_add timer ≡ not after →
    Keeps (set s seat timer) procs number (not (if eqb by number then after else before))
set_keeps s procs number seat by timer before after keeps within named is =
    record {
      size = length-set s seat timer ∙ keeps.size;
      is = grind (arith, nat_tests, get_or-set_at, get_or-set_other, keeps.is);
    }

same_keeps : (s : List Timer) (procs number : ℕ) (own before : Bool) →
    Keeps s procs number (not before) → Keeps s procs number (not (if own then before else before))
same_keeps s procs number true before keeps = keeps
same_keeps s procs number false before keeps = keeps

-- a tick takes a timer that was set
expire_keeps : (s : List Timer) (procs number now : ℕ) (own before : Bool) (first : Option Due) →
    first_due now s ≡ first → Keeps s procs number (not before) →
    Keeps (after_first s first) procs number (not (if own then before else before))
expire_keeps s procs number now own before None is keeps =
    same_keeps s procs number own before keeps
expire_keeps s procs number now own before (Some due) is keeps =
    let was = (first_is_set s now due is).0 in
    same_keeps (set s due.seat Expired) procs number own before
    record {
      size = length-set s due.seat Expired ∙ keeps.size;
      is = grind (
        arith,
        nat_tests,
        get_or-set_at,
        get_or-set_other,
        keeps.is,
        was.timer,
        was.within,
      );
    }

timer_step : (s : List Timer) (procs number by : ℕ) (call : TimerCall) (answer :
    TimerReply) (before : Bool) → answer ≡ answer_to s call →
    IfSome (seat_named call) (λ seat. seat ≡ by) → Keeps s procs number (not before) →
    Keeps (timers_after s call answer) procs number
    (not (if eqb by number then sets_after call answer before else before))
timer_step s procs number by (Add seat pid deadline) told.Added before is named keeps =
    set_keeps s procs number seat by (Set pid deadline) before true keeps
    (added_within s seat deadline pid is) named refl
timer_step s procs number by (Expire now) (told.Ended pid) before is named keeps =
    expire_keeps s procs number now (eqb by number) before (first_due now s) refl keeps
timer_step s procs number by (Cancel seat) told.Removed before is named keeps =
    set_keeps s procs number seat by Unset before false keeps
    (cancelled_within s seat told.Removed (λ e. cc) is) named refl
timer_step s procs number by (Cancel seat) told.Expired before is named keeps =
    set_keeps s procs number seat by Unset before false keeps
    (cancelled_within s seat told.Expired (λ e. cc) is) named refl
timer_step s procs number by call answer before is named keeps =
    same_keeps s procs number (eqb by number) before keeps

-- the last call of a seat tells whether it may set its timer
pub own_timer : (procs number : ℕ) (past : List TimerEntry) →
    IsLegal timer_meaning (replicate procs Unset) past →
    Keeps (state_after timer_meaning (replicate procs Unset) past) procs number
    (not (has_timer (entries_by server number past)))
own_timer procs number [] legal =
    let unset : get_or (replicate procs Unset) number Unset ≡ Unset = grind (arith, common_steps) in
    record { size = length-replicate procs Unset; is = ap may_add unset }
own_timer procs number (entry ∷ past) legal =
    let s = state_after timer_meaning (replicate procs Unset) past in
    let before = own_timer procs number past legal.1 in
    let step = timer_step s procs number entry.by entry.request entry.reply
    (has_timer (entries_by server number past)) legal.0.reply legal.0.named before in
    subst (λ t. Keeps t procs number (not (has_timer (entries_by server number (entry ∷ past)))))
    (ap (timers_after s entry.request) legal.0.reply)
    (record { size = step.size; is = grind (arith, nat_tests, step.is) })

-- ---- which tick took it

-- an Expire at its deadline or later took the timer that was set so
record Takes (s : List Timer) (call : TimerCall) (seat deadline : ℕ) : Type 0 where
  -- the moment that a tick told
  pub now : ℕ
  -- the call is the Expire of that moment
  pub call_is : call ≡ Expire now
  -- the deadline had come by then
  pub due : deadline ≤ now
  -- of all timers that were due, this was the first
  pub took : first_due now s ≡ Some (record { deadline = deadline; seat = seat })

-- a set timer, after an Expire
expire_takes : (s : List Timer) (seat deadline now : ℕ) (pid : Pid) (first : Option Due) →
    first_due now s ≡ first → timer_of s seat ≡ Set pid deadline →
    (timer_of (after_first s first) seat ≡ Set pid deadline) ⊎ Takes s (Expire now) seat deadline
expire_takes s seat deadline now pid None is set_so = inl set_so
expire_takes s seat deadline now pid (Some due) is set_so = by (same_or_not seat due.seat)
  where
    by : (seat ≡ due.seat) ⊎ (seat ≢ due.seat) → (timer_of (set s due.seat Expired) seat ≡
        Set pid deadline) ⊎ Takes s (Expire now) seat deadline
    by (inl same) =
        let was = first_is_set s now due is in
        let set_to : Set was.0.pid due.deadline ≡ Set pid deadline = sym was.0.timer ∙
        (ap (timer_of s) (sym same) ∙ set_so) in
        let moment : due.deadline ≡ deadline = cc in
        inr (record {
          now = now;
          call_is = refl;
          due = subst (λ d. d ≤ now) moment was.1;
          took = is ∙ (λ k. Some (record { deadline = moment k; seat = sym same k }));
        })
    by (inr apart) = inl (get_or-set_other s due.seat seat Expired Unset apart ∙ set_so)

-- a set timer, after a call of another seat
others_take : (s : List Timer) (seat deadline by : ℕ) (pid : Pid) (call : TimerCall) (answer :
    TimerReply) → IfSome (seat_named call) (λ n. n ≡ by) → by ≢ seat → timer_of s seat ≡
    Set pid deadline → (timer_of (timers_after s call answer) seat ≡ Set pid deadline) ⊎
    Takes s call seat deadline
others_take s seat deadline by pid (Add other its moment) told.Added named apart set_so =
    inl (get_or-set_other s other seat (Set its moment) Unset (λ e. apart (sym named ∙ sym e)) ∙
    set_so)
others_take s seat deadline by pid (Expire now) (told.Ended its) named apart set_so =
    expire_takes s seat deadline now pid (first_due now s) refl set_so
others_take s seat deadline by pid (Cancel other) told.Removed named apart set_so =
    inl (get_or-set_other s other seat Unset Unset (λ e. apart (sym named ∙ sym e)) ∙ set_so)
others_take s seat deadline by pid (Cancel other) told.Expired named apart set_so =
    inl (get_or-set_other s other seat Unset Unset (λ e. apart (sym named ∙ sym e)) ∙ set_so)
others_take s seat deadline by pid call answer named apart set_so = inl set_so

-- since it was set, a tick took it
record Found (opening : List Timer) (seat deadline : ℕ) (since base : List TimerEntry) :
    Type 0 where
  -- what came since the tick took it
  pub later : List TimerEntry
  -- the call by which it was taken
  pub expired : TimerEntry
  -- what came between its setting and that call
  pub earlier : List TimerEntry
  -- the three are all that came since it was set
  pub since_is : since ++ base ≡ later ++ (expired ∷ (earlier ++ base))
  -- its seat made no call since it was taken
  pub later_others : AreByOthersThan seat later
  -- nor between its setting and that
  pub earlier_others : AreByOthersThan seat earlier
  -- that call was an Expire at the deadline or later, which found it the first that was due
  pub takes : Takes (state_after timer_meaning opening (earlier ++ base)) expired.request seat
      deadline

since_set : (opening : List Timer) (seat deadline : ℕ) (pid : Pid) (since base : List TimerEntry) →
    IsLegal timer_meaning opening (since ++ base) → AreByOthersThan seat since →
    timer_of (state_after timer_meaning opening base) seat ≡ Set pid deadline →
    (timer_of (state_after timer_meaning opening (since ++ base)) seat ≡ Set pid deadline) ⊎
    Found opening seat deadline since base
since_set opening seat deadline pid [] base legal others set_so = inl set_so
since_set opening seat deadline pid (entry ∷ since) base legal others set_so =
    by_before (since_set opening seat deadline pid since base legal.1 others.1 set_so)
  where
    s : List Timer
    s = state_after timer_meaning opening (since ++ base)

    by_step : (timer_of (timers_after s entry.request entry.reply) seat ≡ Set pid deadline) ⊎
        Takes s entry.request seat deadline → (timer_of
        (state_after timer_meaning opening (entry ∷ (since ++ base))) seat ≡ Set pid deadline) ⊎
        Found opening seat deadline (entry ∷ since) base
    by_step (inl still) =
        inl (ap (λ r. timer_of (timers_after s entry.request r) seat) (sym legal.0.reply) ∙ still)
    by_step (inr takes) =
        inr (record {
          later = [];
          expired = entry;
          earlier = since;
          since_is = refl;
          later_others = tt;
          earlier_others = others.1;
          takes = takes;
        })

    by_before : (timer_of s seat ≡ Set pid deadline) ⊎ Found opening seat deadline since base →
        (timer_of (state_after timer_meaning opening (entry ∷ (since ++ base))) seat ≡
        Set pid deadline) ⊎ Found opening seat deadline (entry ∷ since) base
    by_before (inl still) =
        by_step (others_take s seat deadline entry.by pid entry.request entry.reply legal.0.named
        others.0 still)
    by_before (inr found) =
        inr (record {
          later = entry ∷ found.later;
          expired = found.expired;
          earlier = found.earlier;
          since_is = ap (λ l. entry ∷ l) found.since_is;
          later_others = (others.0, found.later_others);
          earlier_others = found.earlier_others;
          takes = found.takes;
        })

-- a timer whose seat is told at its cancelling that it has expired was taken by a tick, at its
-- deadline or later
pub was_taken : (opening : List Timer) (seat deadline : ℕ) (pid : Pid) (since past :
    List TimerEntry) (added cancelled : TimerEntry) →
    IsTaken opening seat deadline pid since past added cancelled →
    WasTaken opening seat deadline (cancelled ∷ (since ++ (added ∷ past)))
was_taken opening seat deadline pid since past added cancelled h =
    by_found (since_set opening seat deadline pid since (added ∷ past) h.legal.1 h.others
    (set_by (legal_past timer_meaning opening since (added ∷ past) h.legal.1)))
  where
    before : List Timer
    before = state_after timer_meaning opening past

    set_by : IsLegal timer_meaning opening (added ∷ past) →
        timer_of (state_after timer_meaning opening (added ∷ past)) seat ≡ Set pid deadline
    set_by legal =
        ap (λ r. timer_of (timers_after before added.request r) seat) (sym legal.0.reply ∙
        h.added_told)
        ∙ (ap (λ call. timer_of (timers_after before call told.Added) seat) h.added_is
        ∙ get_or-set_same before seat (Set pid deadline) Unset h.within)

    -- it would have been told that it was still to come
    not_set : timer_of (state_after timer_meaning opening (since ++ (added ∷ past))) seat ≡
        Set pid deadline → ⊥
    not_set still =
        let now_is = state_after timer_meaning opening (since ++ (added ∷ past)) in
        let said : told.Expired ≡ answer_to now_is (Cancel seat) = sym h.cancelled_told ∙
        (h.legal.0.reply ∙ ap (answer_to now_is) h.cancelled_is) in
        grind (arith, nat_tests, still)

    by_found : (timer_of (state_after timer_meaning opening (since ++ (added ∷ past))) seat ≡
        Set pid deadline) ⊎ Found opening seat deadline since (added ∷ past) →
        WasTaken opening seat deadline (cancelled ∷ (since ++ (added ∷ past)))
    by_found (inl still) = absurd (not_set still)
    by_found (inr found) =
        record {
          cancelled = cancelled;
          later = found.later;
          expired = found.expired;
          earlier = found.earlier;
          added = added;
          past = past;
          history_is = ap (λ l. cancelled ∷ l) found.since_is;
          pid = pid;
          added_is = h.added_is;
          cancelled_is = h.cancelled_is;
          later_others = found.later_others;
          earlier_others = found.earlier_others;
          now = found.takes.now;
          expired_is = found.takes.call_is;
          due = found.takes.due;
          took = found.takes.took;
        }

-- ---- what a request of a seat may be answered

-- the seat of a timer that may be set is answered nothing but Added where it sets it
pub add_never : (s : List Timer) (procs number seat deadline : ℕ) (pid : Pid) (answer :
    TimerReply) → length s ≡ procs → number < procs → may_add (timer_of s number) ≡ true → seat ≡
    number → answer ≡ answer_to s (Add seat pid deadline) → answer ≢ told.Added → ⊥
add_never s procs number seat deadline pid answer size within free same is apart =
    grind (arith, nat_tests)

-- the seat of a timer that is set or expired is answered nothing but Removed or Expired where it
-- cancels it
pub cancel_never : (s : List Timer) (procs number seat : ℕ) (answer : TimerReply) → length s ≡
    procs → number < procs → may_add (timer_of s number) ≡ false → seat ≡ number → answer ≡
    answer_to s (Cancel seat) → answer ≢ told.Removed → answer ≢ told.Expired → ⊥
cancel_never s procs number seat answer size within taken same is removed expired =
    grind (arith, nat_tests)

-- an Expire answers nothing but whose timer ended, or that none is due
pub expire_never : (s : List Timer) (now : ℕ) (answer : TimerReply) → answer ≡
    answer_to s (Expire now) → ((pid : Pid) → answer ≢ told.Ended pid) → answer ≢ told.NoneDue → ⊥
expire_never s now answer is ended none = by (first_due now s) is
  where
    by : (first : Option Due) → answer ≡ answer_first s first → ⊥
    by None told_so = none told_so
    by (Some due) told_so = by_timer (timer_of s due.seat) told_so
      where
        by_timer : (timer : Timer) → answer ≡ answer_expired timer → ⊥
        by_timer (Set pid deadline) told_so = ended pid told_so
        by_timer Unset told_so = none told_so
        by_timer Expired told_so = none told_so
