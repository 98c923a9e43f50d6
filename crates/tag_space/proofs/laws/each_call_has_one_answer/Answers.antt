-- of the calls that wait no two have one tag, so what is found, and the answer, is one
use Rattle.tag_space.proofs.AnswerLemmas.{one_answer}
use Rattle.tag_space.proofs.PromiseLemmas.{is_space}
use Rattle.tag_space.proofs.laws.each_call_has_one_answer.Goals as goal

pub returns : goal.returns
returns c space past call first second legal a b =
    one_answer space past (is_space space past legal).apart call first second a b
