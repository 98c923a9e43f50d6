-- It ran, and the value is in the queue or with the caller.
use Rattle.std.proofs.Common.{Some, Ok, Err, refl, ap, ◌∙◌, subst}
use Rattle.kernel_lock.specs.Seats.{number_of}
use Rattle.messages.specs.Handles.{Handle, OwnsRow}
use Rattle.messages.specs.Sending.{SendsBy}
use Rattle.waiting.specs.Runners.{run_point}
use Rattle.messages.proofs.AskLemmas.{is_in_row}
use Rattle.messages.proofs.SendLemmas.{is_over}
use Rattle.messages.proofs.messages.Sender.send_by.Goals as goal

pub run-requires-clause-rendez : goal.run-requires-clause-rendez
run-requires-clause-rendez g c =
    rw c.rendez-rendez.ensures
    (is_in_row c.self.inside.channel.now c.self.inside.place c.args.proc.now.words
    c.self.invariant.place (c.is_known_to.ensures.0 c.if-not-is_known_to.false))

pub wake_next-requires-clause-there : goal.wake_next-requires-clause-there
wake_next-requires-clause-there g c =
    (is_over c.self.inside.channel.now c.self.inside.place c.args.value _ _ _ (Ok c.in-Ok.wake) refl
    (rw c.of.ensures at c.in-Ok.ensures.is_call)).there

pub returns-in-Ok-clause-same : goal.returns-in-Ok-clause-same
returns-in-Ok-clause-same g c =
    let over = is_over c.self.inside.channel.now c.self.inside.place c.args.value _ _ _ (Ok
    c.in-Ok.wake) refl
    (rw c.of.ensures at c.in-Ok.ensures.is_call) in
    record {
      channel_is = ap (λ (h : Handle g.row.T.Denot). h.channel) c.self.view_is;
      number = over.number_is
          ∙ ap (λ (h : Handle g.row.T.Denot). number_of h.seat) c.self.view_is;
      place_is = ap (λ (h : Handle g.row.T.Denot). h.place) c.self.view_is;
    }

pub returns-in-Ok-clause-known : goal.returns-in-Ok-clause-known
returns-in-Ok-clause-known g c =
    let may = subst (λ (h : Handle g.row.T.Denot). OwnsRow h.channel c.args.proc.now.words)
    c.self.view_is (c.is_known_to.ensures.0 c.if-not-is_known_to.false) in
    record {
      refused = λ not. absurd (not may);
      called = λ is. subst (λ (h : Handle g.row.T.Denot). SendsBy h.channel h.place c.args.value
          (g.W.Runner.runs c.args.runner.now) (run_point h.seat c.args.timer.now c.args.proc.now)
          (Ok tt) (run_point c.run.new.seat.seat c.run.new.timer c.wake_next.new.proc))
          c.self.view_is
          (record {
            first = record { seat = c.self.inside.state.seat; value = Some c.args.value };
            first_is = refl;
            told = Ok c.in-Ok.wake;
            between = run_point c.run.new.seat c.run.new.timer c.run.new.proc;
            ran = rw (c.of.ensures, c.rendez-rendez.ensures) at c.in-Ok.ensures.ran;
            is_call = rw (c.of.ensures, c.rendez-rendez.ensures) at c.in-Ok.ensures.is_call;
            seat_is = refl;
            timer_is = refl;
            settled = c.wake_next.ensures.woken;
          });
    }

pub returns-in-Some-clause-same : goal.returns-in-Some-clause-same
returns-in-Some-clause-same g c =
    let over = is_over c.self.inside.channel.now c.self.inside.place c.args.value _ _ _ (Err
    c.in-Err.fault) refl
    (rw c.of.ensures at c.in-Err.ensures.is_call) in
    record {
      channel_is = ap (λ (h : Handle g.row.T.Denot). h.channel) c.self.view_is;
      number = over.number_is
          ∙ ap (λ (h : Handle g.row.T.Denot). number_of h.seat) c.self.view_is;
      place_is = ap (λ (h : Handle g.row.T.Denot). h.place) c.self.view_is;
    }

pub returns-in-Some-clause-known : goal.returns-in-Some-clause-known
returns-in-Some-clause-known g c =
    let may = subst (λ (h : Handle g.row.T.Denot). OwnsRow h.channel c.args.proc.now.words)
    c.self.view_is (c.is_known_to.ensures.0 c.if-not-is_known_to.false) in
    record {
      refused = λ not. absurd (not may);
      called = λ is. subst (λ (h : Handle g.row.T.Denot). SendsBy h.channel h.place c.args.value
          (g.W.Runner.runs c.args.runner.now) (run_point h.seat c.args.timer.now c.args.proc.now)
          (Err c.in-Err.fault) (run_point c.run.new.seat.seat c.run.new.timer c.run.new.proc))
          c.self.view_is
          (record {
            first = record { seat = c.self.inside.state.seat; value = Some c.args.value };
            first_is = refl;
            told = Err c.in-Err.fault;
            between = run_point c.run.new.seat c.run.new.timer c.run.new.proc;
            ran = rw (c.of.ensures, c.rendez-rendez.ensures) at c.in-Err.ensures.ran;
            is_call = rw (c.of.ensures, c.rendez-rendez.ensures) at c.in-Err.ensures.is_call;
            seat_is = refl;
            timer_is = refl;
            settled = (refl, refl);
          });
    }
