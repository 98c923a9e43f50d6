-- By cases on the call, and for histories by recursion, one call more at each step.
use Rattle.block_queue.proofs.ObjectLemmas.{each_call_is_right, objects_are_queues}
use Rattle.block_queue.proofs.laws.objects_are_queues.Goals as goal

pub returns-clause-calls : goal.returns-clause-calls
returns-clause-calls c = each_call_is_right

pub returns-clause-histories : goal.returns-clause-histories
returns-clause-histories c = objects_are_queues
