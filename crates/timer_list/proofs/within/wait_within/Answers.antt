-- It is answered at once; or it sets its timer, sleeps, and ends its wait.
use Rattle.std.proofs.Common.{true, inl, inr, refl, sym, ◌∙◌, subst}
use Rattle.kernel_lock.specs.Seats.{number_of}
use Rattle.sync_base.specs.declared.ids.Pid.{Pid}
use Rattle.timer_list.specs.declared.timer_object.TimerCall.TheVariants.{Add}
use Rattle.timer_list.specs.declared.timer_object.TimerReply.TheVariants.{Added}
use Rattle.timer_list.specs.Asking.{AsksTimers}
use Rattle.timer_list.specs.Timers.{deadline_of}
use Rattle.timer_list.proofs.TickLemmas.{took_it}
use Rattle.timer_list.proofs.UntimedLemmas.{untimed}
use Rattle.waiting.specs.Waiting.{told}
use Rattle.timer_list.proofs.within.wait_within.Goals as goal

pub returns-in-Done-clause-waited : goal.returns-in-Done-clause-waited
returns-in-Done-clause-waited g c =
    record { call = inl (record { begun = c.in-Done.ensures.asked; timer = refl }); stood = tt }

pub returns-in-Refused-clause-waited : goal.returns-in-Refused-clause-waited
returns-in-Refused-clause-waited g c =
    record { call = inl (record { begun = c.in-Refused.ensures.asked; timer = refl }); stood = tt }

pub sleep_for-ending-requires-clause-waits : goal.sleep_for-ending-requires-clause-waits
sleep_for-ending-requires-clause-waits g c =
    c.in-Wait.ensures.stands

pub sleep_for-ending-requires-clause-row : goal.sleep_for-ending-requires-clause-row
sleep_for-ending-requires-clause-row g c =
    subst (g.C.WaitingCall.knows c.args.call.now) (sym c.in-Wait.ensures.words) c.requires.row

pub sleep_for-ending-requires-clause-rendez : goal.sleep_for-ending-requires-clause-rendez
sleep_for-ending-requires-clause-rendez g c =
    rw c.in-Wait.ensures.words c.requires.rendez

pub end_within-requires-clause-rendez : goal.end_within-requires-clause-rendez
end_within-requires-clause-rendez g c =
    rw (c.sleep_for-ending.ensures.words, c.in-Wait.ensures.words) c.requires.rendez

pub end_within-requires-clause-set : goal.end_within-requires-clause-set
end_within-requires-clause-set g c = c.add.ensures.asks.seat

pub returns-in-Wait-clause-timer_number : goal.returns-in-Wait-clause-timer_number
returns-in-Wait-clause-timer_number g c =
    c.end_within.ensures.timer_number ∙ c.add.ensures.asks.number

pub returns-in-Wait-clause-waited : goal.returns-in-Wait-clause-waited
returns-in-Wait-clause-waited g c =
    let timers = c.args.until.timers.now in
    let set = c.add.new.seat in
    let ended = c.end_within.ensures.ended in
    let pid : Pid = record { 0 = c.args.proc.now.process.pid } in
    let moment = deadline_of c.args.until.from c.args.until.ms in
    let added : AsksTimers timers true (Add (number_of c.args.timer.now.seat) pid moment) Added
    c.args.timer.now set =
    rw (c.pid-pid.ensures, c.deadline.ensures) at c.add.ensures.asks in
    record {
      call = inr (record {
        first = told (g.C.WaitingCall.sight c.begin.new.seat c.begin.new.buffer) c.begin.new.proc
            c.in-Wait.number;
        set = set;
        ending = c.sleep_for-ending.result;
        process = c.sleep_for-ending.new.proc.process;
        begun = c.in-Wait.ensures.asked;
        added = added;
        slept = c.sleep_for-ending.ensures.slept;
        ended = ended;
        taken = λ is. took_it timers moment pid c.args.timer.now set c.end_within.new.timer
            c.requires.timer.opened added
            (rw is at ended.cancelled);
      });
      stood = record {
        set = c.end_within.ensures.set ∙ c.add.ensures.set;
        cancelled = c.end_within.ensures.cancelled;
      };
    }

pub returns-in-Done-clause-is_call : goal.returns-in-Done-clause-is_call
returns-in-Done-clause-is_call g c = untimed _ _ _ _ _ _ _ (returns-in-Done-clause-waited g c).call

pub returns-in-Refused-clause-is_call : goal.returns-in-Refused-clause-is_call
returns-in-Refused-clause-is_call g c =
    untimed _ _ _ _ _ _ _ (returns-in-Refused-clause-waited g c).call

pub returns-in-Wait-clause-is_call : goal.returns-in-Wait-clause-is_call
returns-in-Wait-clause-is_call g c = untimed _ _ _ _ _ _ _ (returns-in-Wait-clause-waited g c).call
