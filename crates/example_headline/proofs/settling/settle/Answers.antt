-- all ends are given back, and what is told is what the writers count and the reader keeps
use Rattle.std.proofs.Common.{◌≡◌, ◌++◌, [], List, map, refl, ◌∙◌, ap, subst, sym, rules, length}
use Rattle.std.specs.Vec.Iter.{into_iter_items}
use Rattle.std.proofs.lemmas.List.{append-nil}
use Rattle.pipe_dev.specs.Ends.{WriteSide, AreAllEnds}
use Rattle.pipe_dev.specs.Finishing.{GivesHeld}
use Rattle.example_headline.specs.Crew.{ends_of, written_of}
use Rattle.example_headline.specs.declared.writer.Writer.{Writer}
use Rattle.example_headline.proofs.HeadlineLemmas.{keeps_headline, nothing_left}
use Rattle.example_headline.proofs.settling.settle.Goals as goal

pub finish-requires : goal.finish-requires
finish-requires c =
    let none : length (into_iter_items c.parting.writer-iterator) ≡ 0 = search rules in
    let ended : into_iter_items c.parting.writer-iterator ≡ []
    = nothing_left (into_iter_items c.parting.writer-iterator) none in
    let all : c.parting.ends.items ≡ ends_of c.args.crew.writers.items
    = sym (append-nil c.parting.ends.items)
    ∙ (ap (λ (xs : List Writer). c.parting.ends.items ++ ends_of xs) (sym ended)
    ∙ c.parting.invariant.ends) in
    record {
      all = subst (AreAllEnds c.args.crew.reader.end) (sym all) c.requires.worked.ready.ends.all;
    }

pub returns-in-Ok : goal.returns-in-Ok
returns-in-Ok c =
    let none : length (into_iter_items c.parting.writer-iterator) ≡ 0 = search rules in
    let ended : into_iter_items c.parting.writer-iterator ≡ []
    = nothing_left (into_iter_items c.parting.writer-iterator) none in
    let all : c.parting.ends.items ≡ ends_of c.args.crew.writers.items
    = sym (append-nil c.parting.ends.items)
    ∙ (ap (λ (xs : List Writer). c.parting.ends.items ++ ends_of xs) (sym ended)
    ∙ c.parting.invariant.ends) in
    let told : c.parting.told.items ≡ map written_of c.args.crew.writers.items
    = sym (append-nil c.parting.told.items)
    ∙ (ap (λ (xs : List Writer). c.parting.told.items ++ map written_of xs) (sym ended)
    ∙ c.parting.invariant.told) in
    record {
      ending = keeps_headline c.args.crew _ c.requires.worked told refl refl
          (subst (λ (ends : List WriteSide). GivesHeld c.args.crew.reader.end ends c.in-Ok.held)
          all c.in-Ok.ensures.held);
    }

pub returns : goal.returns
returns c =
    let none : length (into_iter_items c.parting.writer-iterator) ≡ 0 = search rules in
    let ended : into_iter_items c.parting.writer-iterator ≡ []
    = nothing_left (into_iter_items c.parting.writer-iterator) none in
    let told : c.parting.told.items ≡ map written_of c.args.crew.writers.items
    = sym (append-nil c.parting.told.items)
    ∙ (ap (λ (xs : List Writer). c.parting.told.items ++ map written_of xs) (sym ended)
    ∙ c.parting.invariant.told) in
    record {
      ending = record {
        crew = c.args.crew;
        worked = c.requires.worked;
        key_is = refl;
        first_is = refl;
        given_is = refl;
        told_is = record { writers = told; got = refl; stopped = refl };
      };
    }
