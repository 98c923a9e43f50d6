-- a history of rendezvous is one that a space can have, of which each of the three holds
use Rattle.tag_space.proofs.PromiseLemmas.{is_space}
use Rattle.tag_space.proofs.laws.calls_meet_in_pairs.Goals as goal

pub returns-clause-meetings : goal.returns-clause-meetings
returns-clause-meetings c space history legal = (is_space space history legal).meetings

pub returns-clause-once : goal.returns-clause-once
returns-clause-once c space history legal = (is_space space history legal).once

pub returns-clause-apart : goal.returns-clause-apart
returns-clause-apart c space history legal = (is_space space history legal).apart
