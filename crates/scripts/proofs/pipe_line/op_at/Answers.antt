-- The verb that was found and the words after it are a line, and ask for this operation; where
-- none was found, or no such words stand after it, no line asks for one.
use Rattle.std.proofs.Common.{codes, refl}
use Rattle.scripts.specs.PipeScript.{op_of, read_of, write_of}
use Rattle.scripts.proofs.OnePassLemmas.{IsWord, asks_after_word, found_by, found_by_ok}
use Rattle.scripts.proofs.OnePassLemmas.{none_asked_after}
use Rattle.scripts.proofs.PipeLineLemmas.{hangup_asks, no_verb_asks_none}
use Rattle.scripts.proofs.pipe_line.op_at.Goals as goal

pub returns-in_default : goal.returns-in_default
returns-in_default c = no_verb_asks_none _ c.in_default.ensures

pub returns-in-Write : goal.returns-in-Write
returns-in-Write c =
    let split = rw c.in-Write.is at c.in-Some.ensures in
    let is : IsWord (codes "write") = record { no_space = refl; no_line_feed = refl } in
    found_by_ok c.write_at.result _ _ _ _
    (none_asked_after write_of op_of _ _ _ split is (λ words none. none))
    (λ f line. asks_after_word write_of op_of _ _ _ _ _ _ split is (λ words asks. asks) line)
    c.write_at.ensures

pub returns-in-Read : goal.returns-in-Read
returns-in-Read c =
    let split = rw c.in-Read.is at c.in-Some.ensures in
    let is : IsWord (codes "read") = record { no_space = refl; no_line_feed = refl } in
    found_by c.read_at.result _ _ _ _
    (none_asked_after read_of op_of _ _ _ split is (λ words none. none))
    (λ f line. asks_after_word read_of op_of _ _ _ _ _ _ split is (λ words asks. asks) line)
    c.read_at.ensures

pub returns-in-Hangup : goal.returns-in-Hangup
returns-in-Hangup c = hangup_asks _ _ (rw c.in-Hangup.is at c.in-Some.ensures)
