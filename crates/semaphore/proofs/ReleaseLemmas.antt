-- A release that asks in the same hold of the lock who is to be woken: what the lock tells of both
-- requests they tell of the semaphore.
use Rattle.std.proofs.Common.{rules, ◌≡◌, ℕ, Bool, false, List, ◌∷◌, Option, Some, None}
use Rattle.std.proofs.Common.{refl, sym, subst}
use Rattle.histories.specs.declared.account.Account.{Account}
use Rattle.histories.specs.History.{IsPast}
use Rattle.histories.proofs.ListLemmas.{past_cons}
use Rattle.kernel_lock.specs.Calls.{Serves}
use Rattle.kernel_lock.specs.Seats.{IsSeatOf, SeesHistory, Applies, AppliesThen, number_of}
use Rattle.kernel_lock.specs.Seats.{seen_of, view_of}
use Rattle.semaphore.specs.declared.sema.Sema.{Sema}
use Rattle.semaphore.specs.declared.sema.SemaSeat.{SemaSeat}
use Rattle.semaphore.specs.declared.sema_object.SemaCall.{SemaCall}
use Rattle.semaphore.specs.declared.sema_object.SemaCall.TheVariants.{Release, NextWake}
use Rattle.semaphore.specs.declared.sema_object.SemaReply.{SemaReply}
use Rattle.semaphore.specs.declared.sema_object.SemaReply.TheVariants as reply
use Rattle.semaphore.specs.declared.sema_asks.Grant.{Grant}
use Rattle.semaphore.specs.Asking.{Asks, OnlyAsks, Finds, AsksRelease, wake_next, wake_reply}
use Rattle.semaphore.specs.Definitions.{sema_definition}
use Rattle.semaphore.specs.Releasing.{WakesNamed}
use Rattle.semaphore.specs.SemaHistory.{SemaEntry}
use Rattle.semaphore.specs.Seats.{IsSemaSeatOf, rendez_of_seat, waits_after}
use Rattle.semaphore.specs.Units.{seat_named}
use Rattle.sleep_wakeup.specs.Actions.{WakesOne}
use Rattle.sleep_wakeup.specs.Kernel.{Running}
use Rattle.waiting.specs.Waiting.{Point, point}
use Rattle.semaphore.proofs.AskLemmas.{is_told}

-- a request that names no seat and that no wait hangs on, as the lock tells of it
pub finds : (sema : Sema) (call : SemaCall) (answer : SemaReply) (old new : SemaSeat)
    → seat_named call ≡ None → waits_after call answer false ≡ false → IsSemaSeatOf sema old
    → IsSeatOf sema.lock new.seat → SeesHistory sema_definition sema.lock new.seat
    → Applies sema_definition old.seat call answer new.seat → Finds sema call answer old new
finds sema call answer old new nobody rests at seat history applied =
    let served : Serves (record { by = number_of old.seat; request = call; reply = answer })
    (view_of old.seat) (view_of new.seat) = rw nobody at applied in
    record {
      asks = record { served = served; seat = search rules; number = search rules };
      found = is_told sema false call answer old new at history served;
    }

-- what the lock tells of a release and of what followed it
pub asks_release : (sema : Sema) (count : ℕ) (first : SemaReply) (second : Option SemaReply)
    (old new : SemaSeat) → IsSemaSeatOf sema old → IsSeatOf sema.lock new.seat
    → SeesHistory sema_definition sema.lock new.seat
    → AppliesThen sema_definition sema.lock old.seat (Release count) first (wake_next first) second
    new.seat
    → AsksRelease sema count first second old new
asks_release sema count (reply.Value sum) (Some told) old new at seat history both =
    let between : SemaSeat = record { seat = both.between } in
    let first = finds sema (Release count) (reply.Value sum) old between refl refl at both.seat
    both.history both.first in
    record {
      between = between;
      found_first = first;
      found_second = finds sema NextWake told between new refl refl first.asks.seat seat history
          both.second;
      at_once = both.at_once;
    }
asks_release sema count (reply.Value sum) None old new at seat history none = absurd none
asks_release sema count answer (Some told) old new at seat history none = absurd none
asks_release sema count answer None old new at seat history applied =
    finds sema (Release count) answer old new refl refl at seat history applied

-- what a seat had seen before a request is a past of what it has seen after it
pub asks_later : (sema : Sema) (waits : Bool) (call : SemaCall) (answer : SemaReply)
    (before after : SemaSeat) → Asks sema waits call answer before after
    → IsPast (seen_of before.seat) (seen_of after.seat)
asks_later sema waits call answer before after asks =
    let adds = asks.served.account in
    subst (λ (account : Account SemaEntry). IsPast (seen_of before.seat) account.seen)
    (sym adds.new_is)
    (past_cons (seen_of before.seat) adds.past
    (record { by = number_of before.seat; request = call; reply = answer })
    (record { since = adds.looked.since; new_is = adds.looked.history_is }))

-- ---- whom it wakes

-- it has woken each seat that it was named but the last, and then was named this one, or none
pub record HasNamed (sema : Sema) (next : Option Grant) (before after : Point SemaSeat) : Type 0
  where
    -- those that it has woken, the newest first
    pub grants : List Grant
    -- where it stood after the last of these
    pub last : Point SemaSeat
    -- it did nothing else up to there
    pub woken : WakesNamed sema grants before last
    -- and then it asked once more
    pub named : OnlyAsks sema false NextWake (wake_reply next) last after

-- it wakes the one that it was named, and is named another
pub names_more : (sema : Sema) (grant : Grant) (next : Option Grant) (before : Point SemaSeat)
    (seat after : SemaSeat) (proc woken : Running)
    → HasNamed sema (Some grant) before (point seat proc)
    → WakesOne proc.process (rendez_of_seat sema grant.seat) grant.grants woken.process
    → Asks sema false NextWake (wake_reply next) seat after
    → HasNamed sema next before (point after woken)
names_more sema grant next before seat after proc woken had wakes asks =
    record {
      grants = grant ∷ had.grants;
      last = point seat woken;
      woken = record {
        between = had.last;
        others = had.woken;
        named = had.named.asks;
        woken = rw had.named.idle at wakes;
      };
      named = record { asks = asks; idle = refl };
    }
