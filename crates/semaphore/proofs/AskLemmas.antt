-- What a request of a seat finds.
use Rattle.std.proofs.Common.{◌≡◌, Bool, not, ◌∷◌, ap, ◌∙◌, subst, arith}
use Rattle.histories.specs.History.{state_after, IsLegal, entries_by}
use Rattle.kernel_lock.specs.Calls.{Serves}
use Rattle.kernel_lock.specs.Definition.{server}
use Rattle.kernel_lock.specs.Seats.{SeesHistory, number_of, view_of}
use Rattle.semaphore.specs.declared.sema.Sema.{Sema}
use Rattle.semaphore.specs.declared.sema.SemaSeat.{SemaSeat}
use Rattle.semaphore.specs.declared.sema_object.SemaCall.{SemaCall}
use Rattle.semaphore.specs.declared.sema_object.SemaReply.{SemaReply}
use Rattle.semaphore.specs.Asking.{IsTold}
use Rattle.semaphore.specs.Definitions.{sema_definition}
use Rattle.semaphore.specs.Seats.{IsSeatAt, is_waiting}
use Rattle.semaphore.specs.SemaHistory.{SemaEntry, sema_meaning}
use Rattle.semaphore.specs.Units.{opening}
use Rattle.semaphore.proofs.RequestLemmas.{is_below}
use Rattle.semaphore.proofs.SemaLawLemmas.{history_keeps}

-- a seat that called is told what some sound state answers, in which it is idle unless it waits
pub is_told : (sema : Sema) (waits : Bool) (call : SemaCall) (answer : SemaReply)
    (old new : SemaSeat) → IsSeatAt sema waits old → SeesHistory sema_definition sema.lock new.seat
    → Serves (record { by = number_of old.seat; request = call; reply = answer })
    (view_of old.seat) (view_of new.seat)
    → IsTold sema.procs (number_of old.seat) waits call answer
is_told sema waits call answer old new at history served =
    let entry : SemaEntry = record { by = number_of old.seat; request = call; reply = answer } in
    let past = served.account.past in
    let at_first = opening at.opened.value sema.procs 0 in
    let legal : IsLegal sema_meaning at_first (entry ∷ past) =
    subst (λ s. IsLegal sema_meaning s (entry ∷ past)) at.opened.opening_is
    (rw served.account.new_is at history.history.legal) in
    let mine : entries_by server (number_of old.seat) past ≡ at.mine =
    (rw at.shares_are at served.account.looked.mine).0.entries in
    let within = is_below sema waits old at in
    let kept = (history_keeps at.opened.value sema.procs 0 past at.opened.fits (omega arith)
    legal.1).0 in
    record {
      state = state_after sema_meaning at_first past;
      sound = kept.sound;
      size = kept.size;
      within = within;
      idle = (kept.seats (number_of old.seat) within).idle ∙
          ap not (ap is_waiting mine ∙ at.waits_is);
      answer_is = legal.0.reply;
    }
