-- one message more is counted, or none where it was not accepted
use Rattle.std.proofs.Common.{◌≡◌, ◌<◌, ◌≤◌, ◌∷◌, ◌++◌, [], ℕ, List, ◌∙◌, ap, refl, subst, sym}
use Rattle.std.proofs.Common.{take, rules}
use Rattle.std.proofs.Common.{length, arith, get_or}
use Rattle.std.proofs.lemmas.List.{append-nil, take_more}
use Rattle.std.specs.Prelude.{Ok, Err}
use Rattle.pipe_dev.specs.Rendezes.{OwnsRow}
use Rattle.example_headline.proofs.CrewLemmas.{accepted_clear, ends_refused, ends_with_all}
use Rattle.example_headline.proofs.CrewLemmas.{is_not_foreign}
use Rattle.example_headline.proofs.CrewLemmas.{refused_last, tells_none, write_refused, write_then}
use Rattle.example_headline.proofs.CrewLemmas.{written_on}
use Rattle.example_headline.proofs.writer.Writer.write_all.Goals as goal

pub writing-init : goal.writing-init
writing-init g c =
    record { on = tells_none c.args.self.now; none = refl; clear = λ clear. clear }

pub writing-preserved : goal.writing-preserved
writing-preserved g c =
    let at = c.writing.self.accepted in
    let messages = c.writing.self.messages.items in
    let found = c.in-Some.ensures.lookup in
    let low : at < length messages
    = subst (λ (xs : List (List ℕ)). at < length xs) c.deref.ensures.value found.3.0 in
    record {
      on = write_then c.args.self.now c.writing.self _ c.writing.invariant.on
          (written_on c.writing.self _ c.as_slice.result.now (Ok c.in-Ok.field-0)
          c.in-Ok.ensures.wrote c.in-Ok.ensures.end c.in-Ok.ensures.words refl
          (take_more messages at [] low
          ∙ ap (λ (x : List ℕ). take at messages ++ x ∷ [])
          (sym (c.as_slice.ensures
          ∙ (found.3.1 [] ∙ ap (λ (xs : List (List ℕ)). get_or xs at []) c.deref.ensures.value))))
          (λ counted. omega (arith, low)));
      none = c.writing.invariant.none;
      clear = λ began.
          accepted_clear c.writing.self c.write.new.self c.write.new.proc c.as_slice.result.now
          c.in-Ok.field-0 c.in-Ok.ensures.wrote c.in-Ok.ensures.end
          (c.writing.invariant.clear began);
    }

pub returns-in-Err : goal.returns-in-Err
returns-in-Err g c =
    let old = c.writing.self in
    let at = old.accepted in
    let messages = old.messages.items in
    let why = c.in-Err.fault in
    let found = c.in-Some.ensures.lookup in
    let low : at < length messages
    = subst (λ (xs : List (List ℕ)). at < length xs) c.deref.ensures.value found.3.0 in
    let next : c.as_slice.result.now ≡ get_or messages at []
    = c.as_slice.ensures
    ∙ (found.3.1 [] ∙ ap (λ (xs : List (List ℕ)). get_or xs at []) c.deref.ensures.value) in
    record {
      on = write_then c.args.self.now old _ c.writing.invariant.on
          (written_on old _ c.as_slice.result.now (Err why) c.in-Err.ensures.wrote
          c.in-Err.ensures.end c.in-Err.ensures.words refl
          (sym (append-nil (take at messages))) (λ counted. counted));
      ended = λ began.
          let clear = c.writing.invariant.clear began in
          ends_refused _ why refl
          (write_refused old _ c.as_slice.result.now why c.in-Err.ensures.wrote
          c.in-Err.ensures.end c.in-Err.ensures.words refl refl next low
          c.in-Err.ensures.too_big.0
          (is_not_foreign (length c.as_slice.result.now)
          (OwnsRow old.proc.words old.end.row) why c.in-Err.ensures.too_big
          c.in-Err.ensures.no_rendez) clear)
          (refused_last old c.write.new.self c.write.new.proc c.as_slice.result.now why
          c.in-Err.ensures.wrote c.in-Err.ensures.end clear);
    }

pub returns-clause-ended : goal.returns-clause-ended
returns-clause-ended g c =
    let most : length c.writing.self.messages.items ≤ c.writing.self.accepted = search rules in
    ends_with_all c.args.self.now c.writing.self c.writing.invariant.none most
    c.writing.invariant.clear
