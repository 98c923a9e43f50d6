-- The sequential queue of blocks: what it keeps, its replies, and what they leave.
use Rattle.std.specs.Prelude.{◌==◌, ◌+◌, ℕ, Bool, true, false, nat_lt, if◌then◌else◌}
use Rattle.std.specs.Prelude.{List, [], ◌∷◌, ◌++◌, length, drop, Option, Some, None}
use Rattle.kernel_lock.specs.Definition.{Definition}
use Rattle.sync_base.specs.Write.{Write}
use Rattle.sync_base.specs.declared.limits.TheConstants.{LAST_WRITE}
use Rattle.block_queue.specs.declared.queue_object.QueueCall.{QueueCall}
use Rattle.block_queue.specs.declared.queue_object.QueueCall.TheVariants.{Put, Take, Hang}
use Rattle.block_queue.specs.declared.queue_object.QueueReply.{QueueReply}
use Rattle.block_queue.specs.declared.queue_object.QueueReply.TheVariants as reply

-- what the queue keeps
pub record Contents : Type 0 where
  pub limit : ℕ
  pub taken_out : ℕ  -- the number of the last block that was taken out
  pub waiting : List Write  -- the blocks that stand, the oldest first
  pub hung : Bool

-- a new queue: the first write has the number first + 1
abbrev pub new_kept : ℕ → ℕ → Contents
new_kept limit first = record { limit = limit; taken_out = first; waiting = []; hung = false }

-- the number of the last write that was accepted
abbrev pub last_number : Contents → ℕ
last_number kept = kept.taken_out + length kept.waiting

-- Own. The first of Hungup, Worn, Full and Taken that may be the answer.
abbrev pub put_reply : Contents → List ℕ → QueueReply
put_reply kept block =
    if kept.hung then reply.Hungup block
    else if last_number kept == LAST_WRITE then reply.Worn block
    else if length kept.waiting == kept.limit then reply.Full block kept.taken_out
    else reply.Taken (last_number kept + 1)

-- Own. The first of Block, End and NotYet that may be the answer.
abbrev pub take_reply : Contents → List Write → QueueReply
take_reply kept [] = if kept.hung then reply.End else reply.NotYet kept.taken_out
take_reply kept (write ∷ writes) = reply.Block write.bytes write.writer (kept.taken_out + 1)

-- Own: the answer to a put does not depend on its writer.
abbrev pub reply_to : Contents → QueueCall → QueueReply
reply_to kept (Put writer block) = put_reply kept block
reply_to kept Take = take_reply kept kept.waiting
reply_to kept Hang = reply.Hung

-- what each call leaves, by its reply
abbrev pub after_reply : Contents → QueueCall → QueueReply → Contents
after_reply kept (Put writer block) (reply.Taken number) =
    record kept { waiting = kept.waiting ++ (record { writer = writer; bytes = block }) ∷ [] }
after_reply kept Take (reply.Block block writer number) =
    record kept { taken_out = kept.taken_out + 1; waiting = drop 1 kept.waiting }
after_reply kept Hang reply.Hung = record kept { hung = true }
after_reply kept call answer = kept

abbrev pub kept_after : Contents → QueueCall → Contents
kept_after kept call = after_reply kept call (reply_to kept call)

-- the seat that a call names: a put names its writer, unless that has the greatest number; a take
-- names the reader; a hangup, which anybody may make, names none
abbrev pub named_by : QueueCall → Option ℕ
named_by (Put writer block) = if nat_lt writer 18446744073709551615 then Some (writer + 1) else None
named_by Take = Some 0
named_by Hang = None

-- the sequential queue as an object
abbrev pub queue_definition : Definition Contents Contents QueueCall QueueReply
queue_definition =
    record { state = λ kept. kept; answer = reply_to; after = kept_after; named = named_by }
