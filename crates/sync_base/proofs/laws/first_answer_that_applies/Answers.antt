-- by the mode
use Rattle.sync_base.proofs.StreamLawLemmas.{message_answers_apply, message_ends}
use Rattle.sync_base.proofs.StreamLawLemmas.{stream_answers_apply, stream_ends}
use Rattle.sync_base.proofs.laws.first_answer_that_applies.Goals as goal

pub returns-clause-read : goal.returns-clause-read
returns-clause-read c = message_answers_apply

pub returns-clause-end : goal.returns-clause-end
returns-clause-end c = message_ends

pub returns-clause-stream_read : goal.returns-clause-stream_read
returns-clause-stream_read c = stream_answers_apply

pub returns-clause-stream_end : goal.returns-clause-stream_end
returns-clause-stream_end c = stream_ends
