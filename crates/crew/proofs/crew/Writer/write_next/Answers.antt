-- one message more is counted, or none where it was not accepted
use Rattle.std.proofs.Common.{◌≡◌, ◌∙◌, ◌++◌, ◌∷◌, [], List, ℕ, ap, length, refl, sym, rules}
use Rattle.std.proofs.lemmas.List.{append-nil}
use Rattle.std.specs.Prelude.{Ok, Err, vec_len}
use Rattle.crew.specs.Message.{message_of}
use Rattle.crew.specs.Writing.{messages_of}
use Rattle.crew.proofs.WritingLemmas.{kept_items, one_more, written_on}
use Rattle.crew.proofs.crew.Writer.write_next.Goals as goal

pub returns-in-Ok-clause-on : goal.returns-in-Ok-clause-on
returns-in-Ok-clause-on g c =
    let old = c.args.self.now in
    let done = messages_of (vec_len old.message) old.number old.done in
    let len : length c.deref_mut.result.now ≡ vec_len old.message = search rules in
    let filled : length c.fill.new.message ≡ old.message.len = search rules in
    let block : c.deref.result.now ≡ message_of (vec_len old.message) old.number old.done
    = c.deref.ensures.value
    ∙ kept_items old.message.len c.fill.new.message _ filled
    ∙ (c.fill.ensures ∙ ap (λ n. message_of n old.number old.done) len) in
    written_on old _ old.proc c.write.new.proc c.deref.result.now (Ok c.in-Ok.field-0)
    c.in-Ok.ensures.wrote c.in-Ok.ensures.end refl refl (search rules)
    (one_more (vec_len old.message) old.number old.done
    ∙ ap (λ (x : List ℕ). done ++ x ∷ []) (sym block))

pub returns-in-Err-clause-on : goal.returns-in-Err-clause-on
returns-in-Err-clause-on g c =
    let old = c.args.self.now in
    written_on old _ old.proc c.write.new.proc c.deref.result.now (Err c.in-Err.fault)
    c.in-Err.ensures.wrote c.in-Err.ensures.end refl refl (search rules)
    (sym (append-nil (messages_of (vec_len old.message) old.number old.done)))
