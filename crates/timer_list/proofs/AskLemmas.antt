-- What a request of a seat finds.
use Rattle.std.proofs.Common.{◌≡◌, ℕ, ◌<◌, ◌||◌, eqb, Bool, false}
use Rattle.std.proofs.Common.{not, IsTrue, List, [], ◌∷◌, replicate, Option, Some, None, IfSome}
use Rattle.std.proofs.Common.{unwrap_or, refl, ap, ◌∙◌, subst, arith}
use Rattle.std.proofs.lemmas.Bool.Decides.{nat_tests}
use Rattle.histories.specs.declared.account.Share.{Share}
use Rattle.histories.specs.Account.{has_number}
use Rattle.histories.specs.History.{state_after, IsLegal, entries_by}
use Rattle.kernel_lock.specs.Calls.{Serves}
use Rattle.kernel_lock.specs.Definition.{server}
use Rattle.kernel_lock.specs.Seats.{SeesHistory, number_of, view_of}
use Rattle.timer_list.specs.declared.timer_object.Timer.TheVariants.{Unset}
use Rattle.timer_list.specs.declared.timer_object.TimerCall.{TimerCall}
use Rattle.timer_list.specs.declared.timer_object.TimerReply.{TimerReply}
use Rattle.timer_list.specs.declared.timers.Timers.{Timers}
use Rattle.timer_list.specs.declared.timers.TimerSeat.{TimerSeat}
use Rattle.timer_list.specs.Asking.{IsTimed}
use Rattle.timer_list.specs.Definitions.{timer_definition}
use Rattle.timer_list.specs.Seats.{IsSeatAtTimers}
use Rattle.timer_list.specs.TimerHistory.{TimerEntry, timer_meaning, has_timer}
use Rattle.timer_list.proofs.OwnTimerLemmas.{own_timer}

-- a request that names a seat names the one number of its own
pub names_it : {Entry : Type 0} (named : Option ℕ) (shares : List (Share Entry)) (number : ℕ)
    (mine : List Entry) → IfSome named (λ n. IsTrue (has_number shares n))
    → shares ≡ record { number = number; mine = mine } ∷ [] → unwrap_or named number ≡ number
names_it None shares number mine own are = refl
names_it (Some n) shares number mine own are =
    let is : IsTrue (eqb number n || false) = subst (λ l. IsTrue (has_number l n)) are own in
    grind (arith, nat_tests)

-- a seat's number is below the number of seats
pub is_below : (timers : Timers) (set : Bool) (seat : TimerSeat) → IsSeatAtTimers timers set seat
    → number_of seat.seat < timers.procs
is_below timers set seat at =
    (rw (at.shares_are, at.opened.limit) at at.history.numbers).0

-- a seat that called is told what some timers answer, among which its own may be set unless it has
-- one
pub is_timed : (timers : Timers) (set : Bool) (call : TimerCall) (answer : TimerReply)
    (old new : TimerSeat) → IsSeatAtTimers timers set old
    → SeesHistory timer_definition timers.lock new.seat
    → Serves (record { by = number_of old.seat; request = call; reply = answer })
    (view_of old.seat) (view_of new.seat)
    → IsTimed timers.procs (number_of old.seat) set call answer
is_timed timers set call answer old new at history served =
    let entry : TimerEntry = record { by = number_of old.seat; request = call; reply = answer } in
    let past = served.account.past in
    let at_first = replicate timers.procs Unset in
    let legal : IsLegal timer_meaning at_first (entry ∷ past) =
    subst (λ s. IsLegal timer_meaning s (entry ∷ past)) at.opened.opening_is
    (rw served.account.new_is at history.history.legal) in
    let mine : entries_by server (number_of old.seat) past ≡ at.mine =
    (rw at.shares_are at served.account.looked.mine).0.entries in
    let keeps = own_timer timers.procs (number_of old.seat) past legal.1 in
    record {
      state = state_after timer_meaning at_first past;
      size = keeps.size;
      within = is_below timers set old at;
      free = keeps.is ∙ ap not (ap has_timer mine ∙ at.set_is);
      answer_is = legal.0.reply;
    }
