-- Each turn keeps that the bytes so far are all this one, where the answer so far is yes.
use Rattle.std.proofs.Common.{◌≡◌, true, refl, subst, rules}
use Rattle.std.proofs.lemmas.Fn.{fold_over, slice_gives, fronts}
use Rattle.crew.proofs.TallyLemmas.{AreAll, one_byte_more}
use Rattle.crew.proofs.tally.are_all.Goals as goal

pub returns : goal.returns
returns c = subst (λ bytes. c.fold.result ≡ true → AreAll c.args.byte bytes) c.iter.ensures.rest
    (fold_over fronts (λ y. y.now) _ (λ bytes same. same ≡ true → AreAll c.args.byte bytes) _
    (λ bytes before next after f' all call.
    let more = one_byte_more c.args.byte bytes next.now before after all in search rules)
    _ _ _ _ (slice_gives c.iter.result) (λ _. refl) c.fold.ensures.ran)
