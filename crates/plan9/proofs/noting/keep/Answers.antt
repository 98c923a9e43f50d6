-- what is left is pending again, where there is any
use Rattle.plan9.proofs.noting.keep.Goals as goal

pub returns-then-not-is_empty : goal.returns-then-not-is_empty
returns-then-not-is_empty c =
    record {
      words_are = c.put_back.ensures.words;
      pending = record {
        none = λ none. let empty = c.is_empty.ensures.1 none in
            let is_not = c.if-not-is_empty.true in absurd (cc);
        some = λ some. c.put_back.ensures.noted;
      };
    }
