-- What a tick adds up to, and which tick took the timer of a call.
use Rattle.std.proofs.Common.{◌≡◌, ◌≢◌, ℕ, true, false, ◌||◌, eqb, List, []}
use Rattle.std.proofs.Common.{◌∷◌, ◌++◌, length, refl, sym, ap, ◌∙◌, subst, arith}
use Rattle.std.proofs.lemmas.Bool.Decides.{nat_tests}
use Rattle.histories.specs.Account.{AreByOthers}
use Rattle.histories.specs.History.{state_after, IsLegal}
use Rattle.kernel_lock.specs.Definition.{server}
use Rattle.kernel_lock.specs.Seats.{number_of, opening_of, seen_of}
use Rattle.sync_base.specs.declared.ids.Pid.{Pid}
use Rattle.timer_list.specs.declared.timer_object.Timer.{Timer}
use Rattle.timer_list.specs.declared.timer_object.TimerCall.TheVariants.{Add, Cancel}
use Rattle.timer_list.specs.declared.timer_object.TimerReply.TheVariants as told
use Rattle.timer_list.specs.declared.timers.Timers.{Timers}
use Rattle.timer_list.specs.declared.timers.TimerSeat.{TimerSeat}
use Rattle.timer_list.specs.Asking.{AsksTimers}
use Rattle.timer_list.specs.Definitions.{timer_definition}
use Rattle.timer_list.specs.Opening.{IsTimerLock}
use Rattle.timer_list.specs.Ticking.{Expires}
use Rattle.timer_list.specs.TimerHistory.{TimerEntry, timer_meaning, WasTaken, AreByOthersThan}
use Rattle.histories.proofs.HistoryLemmas.{legal_past}
use Rattle.timer_list.proofs.AskLemmas.{is_below}
use Rattle.timer_list.proofs.OwnTimerLemmas.{own_timer, was_taken}
use Rattle.waiting.specs.Waiting.{Point}

-- ---- ticks

-- a tick that goes on: so many timers expired, and their processes were told
pub record IsTicking (timers : Timers) (kernel now count : ℕ) (before after : Point TimerSeat)
    : Type 0 where
  -- the processes of these timers
  pub ended : List Pid
  -- the steps that it made
  pub expires : Expires timers kernel now ended before after
  -- how many they are
  pub count_is : count ≡ length ended

-- ---- which tick took a timer

by_others : (number : ℕ) (mine : List TimerEntry) (entries : List TimerEntry)
    → AreByOthers server (record { number = number; mine = mine } ∷ []) entries
    → AreByOthersThan number entries
by_others number mine [] others = tt
by_others number mine (entry ∷ entries) others =
    (apart others.0, by_others number mine entries others.1)
  where
    apart : (eqb number entry.by || false) ≡ false → entry.by ≢ number
    apart is same = grind (arith, nat_tests)

-- a timer that had expired when its seat cancelled it was taken by a tick, at its deadline or later
pub took_it : (timers : Timers) (moment : ℕ) (pid : Pid) (before set after : TimerSeat)
    → IsTimerLock timers.lock timers.procs
    → AsksTimers timers true (Add (number_of before.seat) pid moment) told.Added before set
    → AsksTimers timers false (Cancel (number_of set.seat)) told.Expired set after
    → WasTaken (opening_of timer_definition timers.lock) (number_of before.seat) moment
    (seen_of after.seat)
took_it timers moment pid before set after opened added cancelled =
    subst (WasTaken opening number moment) (sym seen_is)
    (was_taken opening number moment pid since past adding cancelling (record {
      legal = legal;
      within = rw (size, ← added.number) (is_below timers true set added.seat);
      added_is = refl;
      added_told = refl;
      cancelled_is = ap Cancel added.number;
      cancelled_told = refl;
      others = subst (λ n. AreByOthersThan n since) added.number
          (by_others (number_of set.seat) added.seat.mine since
          (subst (λ shares. AreByOthers server shares since) added.seat.shares_are
          cancelled.served.account.looked.by_others));
    }))
  where
    number : ℕ
    number = number_of before.seat

    opening : List Timer
    opening = opening_of timer_definition timers.lock

    since : List TimerEntry
    since = cancelled.served.account.looked.since

    past : List TimerEntry
    past = added.served.account.past

    adding : TimerEntry
    adding = record { by = number; request = Add number pid moment; reply = told.Added }

    cancelling : TimerEntry
    cancelling =
        record {
          by = number_of set.seat;
          request = Cancel (number_of set.seat);
          reply = told.Expired;
        }

    seen_is : seen_of after.seat ≡ cancelling ∷ (since ++ (adding ∷ past))
    seen_is =
        ap (λ a. a.seen) cancelled.served.account.new_is
        ∙ ap (λ l. cancelling ∷ l)
        (cancelled.served.account.looked.history_is ∙
        ap (λ l. since ++ l) (ap (λ a. a.seen) added.served.account.new_is))

    legal : IsLegal timer_meaning opening (cancelling ∷ (since ++ (adding ∷ past)))
    legal = rw seen_is at cancelled.seat.history.history.legal

    size : length (state_after timer_meaning opening past) ≡ timers.procs
    size =
        ap (λ s. length (state_after timer_meaning s past)) opened.opening_is
        ∙ (own_timer timers.procs number past
        (subst (λ s. IsLegal timer_meaning s past) opened.opening_is
        (legal_past timer_meaning opening since (adding ∷ past) legal.1).1)).size
