-- Runs and histories of timers, computed from the definitions alone, and some that break a law of
-- timers, each by one row of it.
use Rattle.std.proofs.Common.{◌≡◌, ℕ, true, false, List, [], ◌∷◌, refl, ap, arith}
use Rattle.histories.specs.History.{IsLegal}
use Rattle.sync_base.specs.declared.ids.Pid.{Pid}
use Rattle.timer_list.specs.declared.timer_object.Timer.{Timer}
use Rattle.timer_list.specs.declared.timer_object.Timer.TheVariants.{Unset}
use Rattle.timer_list.specs.declared.timer_object.TimerCall.TheVariants.{Add, Expire, Cancel}
use Rattle.timer_list.specs.declared.timer_object.TimerCall.{TimerCall}
use Rattle.timer_list.specs.declared.timer_object.TimerReply.{TimerReply}
use Rattle.timer_list.specs.declared.timer_object.TimerReply.TheVariants as told
use Rattle.timer_list.specs.TimerHistory.{TimerEntry, timer_meaning, WasTaken, has_timer}
use Rattle.timer_list.specs.Timers.{answer_to, after, deadline_of}
use Rattle.timer_list.proofs.BrokenTimers as broken

-- the process of this number
abbrev pid : ℕ → Pid
pid n = record { 0 = n }

-- what calls are answered, one after another
told_by : List Timer → List TimerCall → List TimerReply
told_by s [] = []
told_by s (call ∷ calls) = answer_to s call ∷ told_by (after s call) calls

a_timer_expires_once : told_by (Unset ∷ Unset ∷ []) (Add 0 (pid 4) 150 ∷ Expire 149 ∷ Expire 150 ∷
    Expire 150 ∷ Cancel 0 ∷ Cancel 0 ∷ []) ≡ told.Added ∷ told.NoneDue ∷ told.Ended (pid 4) ∷
    told.NoneDue ∷ told.Expired ∷ told.Absent ∷ []
unfolding told_by
a_timer_expires_once = refl

timers_expire_by_deadline_and_then_by_seat : told_by (Unset ∷ Unset ∷ Unset ∷
    []) (Add 2 (pid 12) 7 ∷ Add 0 (pid 10) 8 ∷ Add 1 (pid 11) 7 ∷ Add 1 (pid 13) 1 ∷ Expire 9 ∷
    Add 1 (pid 13) 1 ∷ Cancel 0 ∷ Expire 9 ∷ Expire 9 ∷ Cancel 3 ∷ Add 3 (pid 9) 1 ∷ []) ≡
    told.Added ∷ told.Added ∷ told.Added ∷ told.Busy ∷ told.Ended (pid 11) ∷ told.Busy ∷
    told.Removed ∷ told.Ended (pid 12) ∷ told.NoneDue ∷ told.Busy ∷ told.Busy ∷ []
unfolding told_by
timers_expire_by_deadline_and_then_by_seat = refl

a_deadline_never_wraps : (deadline_of 100 50 ≡ 150) ×
    (deadline_of 18446744073709551614 50 ≡ 18446744073709551615)
a_deadline_never_wraps = (refl, refl)

-- what a timed call sees of the timers: it set its timer, and the tick at 160 took it
ticked : List TimerEntry
ticked =
    record { by = 0; request = Cancel 0; reply = told.Expired }
    ∷ record { by = 1; request = Expire 160; reply = told.Ended (pid 5) }
    ∷ record { by = 1; request = Expire 149; reply = told.NoneDue }
    ∷ record { by = 0; request = Add 0 (pid 5) 150; reply = told.Added }
    ∷ []

the_ticks_are_legal : IsLegal timer_meaning (Unset ∷ Unset ∷ []) ticked
unfolding ticked
the_ticks_are_legal = (
  record { reply = refl; named = refl },
  (
    record { reply = refl; named = tt },
    (record { reply = refl; named = tt }, (record { reply = refl; named = refl }, tt)),
  ),
)

the_tick_took_it : WasTaken (Unset ∷ Unset ∷ []) 0 150 ticked
unfolding ticked
the_tick_took_it =
    record {
      cancelled = record { by = 0; request = Cancel 0; reply = told.Expired };
      later = [];
      expired = record { by = 1; request = Expire 160; reply = told.Ended (pid 5) };
      earlier = record { by = 1; request = Expire 149; reply = told.NoneDue } ∷ [];
      added = record { by = 0; request = Add 0 (pid 5) 150; reply = told.Added };
      past = [];
      history_is = refl;
      pid = pid 5;
      added_is = refl;
      cancelled_is = refl;
      later_others = tt;
      earlier_others = ((λ e. cc), tt);
      now = 160;
      expired_is = refl;
      due = omega arith;
      took = refl;
    }

-- whether a seat has a timer, by its own calls
timers_tell : (has_timer (record { by = 0; request = Add 0 (pid 5) 150; reply = told.Added } ∷ []) ≡
    true)
    × (has_timer (record { by = 0; request = Cancel 0; reply = told.Removed } ∷
    record { by = 0; request = Add 0 (pid 5) 150; reply = told.Added } ∷ []) ≡ false)
    × (has_timer ticked ≡ false)
unfolding ticked
timers_tell = (refl, refl, refl)

-- ---- histories of timers that break a law

ended_for : (a b : ℕ) → told.Ended (pid a) ≡ told.Ended (pid b) → a ≡ b
ended_for a b e = let same : pid a ≡ pid b = cc in ap (λ (p : Pid). p.0) same

two : List Timer
two = Unset ∷ Unset ∷ []

no_timer_expires_early : IsLegal timer_meaning two broken.expires_early → ⊥
unfolding two
no_timer_expires_early legal = let clash : told.Ended (pid 4) ≡ told.NoneDue = legal.0.reply in cc

each_timer_expires : IsLegal timer_meaning two broken.does_not_expire → ⊥
unfolding two
each_timer_expires legal = let clash : told.NoneDue ≡ told.Ended (pid 4) = legal.0.reply in cc

no_timer_expires_twice : IsLegal timer_meaning two broken.expires_twice → ⊥
unfolding two
no_timer_expires_twice legal = let clash : told.Ended (pid 4) ≡ told.NoneDue = legal.0.reply in cc

no_other_process_is_told : IsLegal timer_meaning two broken.tells_another → ⊥
unfolding two
no_other_process_is_told legal =
    absurd (omega (arith, ended_for 5 4 legal.0.reply))

no_expiry_is_hidden : IsLegal timer_meaning two broken.hides_an_expiry → ⊥
unfolding two
no_expiry_is_hidden legal = let clash : told.Removed ≡ told.Expired = legal.0.reply in cc

no_later_deadline_expires_first : IsLegal timer_meaning two broken.expires_out_of_order → ⊥
unfolding two
no_later_deadline_expires_first legal =
    absurd (omega (arith, ended_for 6 4 legal.0.reply))
