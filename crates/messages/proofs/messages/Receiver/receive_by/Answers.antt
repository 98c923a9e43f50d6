-- It ran, and whoever is still to be woken was woken.
use Rattle.std.proofs.Common.{Ok, Err, refl, ap, ◌∙◌, subst}
use Rattle.kernel_lock.specs.Seats.{number_of}
use Rattle.messages.specs.Handles.{Handle, OwnsRow}
use Rattle.messages.specs.Receiving.{ReceivesBy}
use Rattle.waiting.specs.Runners.{run_point}
use Rattle.messages.proofs.AskLemmas.{is_in_row}
use Rattle.messages.proofs.ReceiveLemmas.{is_over}
use Rattle.messages.proofs.messages.Receiver.receive_by.Goals as goal

pub run-requires-clause-rendez : goal.run-requires-clause-rendez
run-requires-clause-rendez g c =
    rw c.rendez-rendez.ensures
    (is_in_row c.self.inside.channel.now c.self.inside.place c.args.proc.now.words
    c.self.invariant.place (c.is_known_to.ensures.0 c.if-not-is_known_to.false))

pub wake_next-requires-clause-there : goal.wake_next-requires-clause-there
wake_next-requires-clause-there g c =
    (is_over c.self.inside.channel.now c.self.inside.place _ _ _ (Ok c.in-Ok.got)
    c.in-Ok.ensures.is_call).there

pub returns-in-Err-clause-same : goal.returns-in-Err-clause-same
returns-in-Err-clause-same g c =
    let over = is_over c.self.inside.channel.now c.self.inside.place _ _ _ (Err c.in-Err.fault)
    c.in-Err.ensures.is_call in
    record {
      channel_is = ap (λ (h : Handle g.row.T.Denot). h.channel) c.self.view_is;
      number = over.number_is
          ∙ ap (λ (h : Handle g.row.T.Denot). number_of h.seat) c.self.view_is;
      place_is = ap (λ (h : Handle g.row.T.Denot). h.place) c.self.view_is;
    }

pub returns-in-Err-clause-known : goal.returns-in-Err-clause-known
returns-in-Err-clause-known g c =
    let may = subst (λ (h : Handle g.row.T.Denot). OwnsRow h.channel c.args.proc.now.words)
    c.self.view_is (c.is_known_to.ensures.0 c.if-not-is_known_to.false) in
    record {
      refused = λ not. absurd (not may);
      called = λ is. subst (λ (h : Handle g.row.T.Denot). ReceivesBy h.channel h.place
          (g.W.Runner.runs c.args.runner.now) (run_point h.seat c.args.timer.now c.args.proc.now)
          (Err c.in-Err.fault) (run_point c.run.new.seat c.run.new.timer c.run.new.proc))
          c.self.view_is
          (record {
            told = Err c.in-Err.fault;
            between = run_point c.run.new.seat c.run.new.timer c.run.new.proc;
            ran = rw c.rendez-rendez.ensures at c.in-Err.ensures.ran;
            is_call = rw c.rendez-rendez.ensures at c.in-Err.ensures.is_call;
            seat_is = refl;
            timer_is = refl;
            settled = (refl, refl);
          });
    }

pub returns-clause-same : goal.returns-clause-same
returns-clause-same g c =
    let over = is_over c.self.inside.channel.now c.self.inside.place _ _ _ (Ok c.in-Ok.got)
    c.in-Ok.ensures.is_call in
    record {
      channel_is = ap (λ (h : Handle g.row.T.Denot). h.channel) c.self.view_is;
      number = over.number_is
          ∙ ap (λ (h : Handle g.row.T.Denot). number_of h.seat) c.self.view_is;
      place_is = ap (λ (h : Handle g.row.T.Denot). h.place) c.self.view_is;
    }

pub returns-clause-known : goal.returns-clause-known
returns-clause-known g c =
    let may = subst (λ (h : Handle g.row.T.Denot). OwnsRow h.channel c.args.proc.now.words)
    c.self.view_is (c.is_known_to.ensures.0 c.if-not-is_known_to.false) in
    record {
      refused = λ not. absurd (not may);
      called = λ is. subst (λ (h : Handle g.row.T.Denot). ReceivesBy h.channel h.place
          (g.W.Runner.runs c.args.runner.now) (run_point h.seat c.args.timer.now c.args.proc.now)
          (Ok c.in-Ok.got.received)
          (run_point c.run.new.seat c.run.new.timer c.wake_next.new.proc))
          c.self.view_is
          (record {
            told = Ok c.in-Ok.got;
            between = run_point c.run.new.seat c.run.new.timer c.run.new.proc;
            ran = rw c.rendez-rendez.ensures at c.in-Ok.ensures.ran;
            is_call = rw c.rendez-rendez.ensures at c.in-Ok.ensures.is_call;
            seat_is = refl;
            timer_is = refl;
            settled = (refl, c.wake_next.ensures.woken);
          });
    }
