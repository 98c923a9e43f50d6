-- A put that is to wait is answered so, and gives the value of the call back.
use Rattle.std.proofs.Common.{Some, refl, ap, ◌∙◌}
use Rattle.messages.specs.declared.message_object.MessageReply.TheVariants as reply
use Rattle.messages.proofs.AskLemmas.{named_is_there, put_back, put_never, told_low}
use Rattle.messages.proofs.SendLemmas.{put_of, value_taken}
use Rattle.messages.proofs.sending.SendWaitingCall.ask.Goals as goal

pub wake_next-requires-clause-there : goal.wake_next-requires-clause-there
wake_next-requires-clause-there g c = named_is_there _ _ _ c.in-Accepted.ensures.told

pub unreachable-requires-in_default-ask : goal.unreachable-requires-in_default-ask
unreachable-requires-in_default-ask g c =
    put_never _ _ _ _ _ c.ask.ensures.told c.in_default-ask.not-Accepted
    c.in_default-ask.not-Full c.in_default-ask.not-Hungup c.in_default-ask.not-Worn

pub returns-in-Full-clause-stands : goal.returns-in-Full-clause-stands
returns-in-Full-clause-stands g c =
    let same = value_taken c.in-Some.value c.args.state.now.value _ c.in-Some.ensures.value
    c.requires.waits.value_is in
    let came = put_back _ _ _ _ _ c.in-Full.ensures.told in
    record { seat = c.in-Full.ensures.asked.seat; value_is = ap (λ v. Some v) (came ∙ same) }

pub returns-in-Full-clause-low : goal.returns-in-Full-clause-low
returns-in-Full-clause-low g c = told_low _ _ _ c.in-Full.ensures.told

pub returns-in-Full-clause-asked : goal.returns-in-Full-clause-asked
returns-in-Full-clause-asked g c =
    let same = value_taken c.in-Some.value c.args.state.now.value _ c.in-Some.ensures.value
    c.requires.waits.value_is in
    let came = put_back _ _ _ _ _ c.in-Full.ensures.told in
    record {
      asks = record {
        asks = put_of _ _ _ _ _ _ (λ back. reply.Full back c.in-Full.grants) _ _ c.number.ensures
            same came
            c.in-Full.ensures.asked;
        left_is = ap (λ v. Some v) (came ∙ same);
      };
      idle = refl;
    }

pub returns-in-Hungup-clause-asked : goal.returns-in-Hungup-clause-asked
returns-in-Hungup-clause-asked g c =
    let same = value_taken c.in-Some.value c.args.state.now.value _ c.in-Some.ensures.value
    c.requires.waits.value_is in
    let came = put_back _ _ _ _ _ c.in-Hungup.ensures.told in
    record {
      asks = record {
        asks = put_of _ _ _ _ _ _ (λ back. reply.Hungup back) _ _ c.number.ensures same came
            c.in-Hungup.ensures.asked;
        left_is = ap (λ v. Some v) (came ∙ same);
      };
      idle = refl;
    }

pub returns-in-Worn-clause-asked : goal.returns-in-Worn-clause-asked
returns-in-Worn-clause-asked g c =
    let same = value_taken c.in-Some.value c.args.state.now.value _ c.in-Some.ensures.value
    c.requires.waits.value_is in
    let came = put_back _ _ _ _ _ c.in-Worn.ensures.told in
    record {
      asks = record {
        asks = put_of _ _ _ _ _ _ (λ back. reply.Worn back) _ _ c.number.ensures same came
            c.in-Worn.ensures.asked;
        left_is = ap (λ v. Some v) (came ∙ same);
      };
      idle = refl;
    }
