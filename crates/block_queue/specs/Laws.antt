-- What holds of every sequential queue: its calls are those of a direction, by whole blocks.
use Rattle.std.specs.Prelude.{◌≡◌, ◌≢◌, ◌+◌, ◌≤◌, ℕ, false, ⊤, None}
use Rattle.std.specs.Prelude.{List, [], ◌∷◌, ◌++◌, length, drop}
use Rattle.histories.specs.History.{IsLegal, state_after}
use Rattle.kernel_lock.specs.declared.view.Operation.{Operation}
use Rattle.kernel_lock.specs.Definition.{meaning_of}
use Rattle.sync_base.specs.Pipe.{next_write, next_number, waiting_of}
use Rattle.sync_base.specs.declared.limits.TheConstants.{LAST_WRITE}
use Rattle.block_queue.specs.declared.entry.Entry.{Entry}
use Rattle.block_queue.specs.declared.entry.Entry.TheVariants.{Taken, Stood, Full, Hungup, Worn}
use Rattle.block_queue.specs.declared.entry.Entry.TheVariants.{Block, NotYet, End, Hung}
use Rattle.block_queue.specs.declared.queue_object.QueueCall.{QueueCall}
use Rattle.block_queue.specs.declared.queue_object.QueueCall.TheVariants.{Put, Take, Hang}
use Rattle.block_queue.specs.declared.queue_object.QueueReply.{QueueReply}
use Rattle.block_queue.specs.declared.queue_object.QueueReply.TheVariants as reply
use Rattle.block_queue.specs.History.{QueueState, opening_state}
use Rattle.block_queue.specs.Meaning.{queue_meaning}
use Rattle.block_queue.specs.QueueObject.{Contents, new_kept, last_number, queue_definition}
use Rattle.block_queue.specs.QueueObject.{reply_to, after_reply}

-- The entries of one call, newest first. Own: where calls come one after the other, a write stands
-- as soon as it was taken.
abbrev pub entries_of : ℕ → QueueCall → QueueReply → List Entry
entries_of by (Put writer block) (reply.Taken number) =
    Stood writer number ∷ Taken writer block number ∷ []
entries_of by (Put writer block) (reply.Full back number) = Full writer block number ∷ []
entries_of by (Put writer block) (reply.Hungup back) = Hungup writer block ∷ []
entries_of by (Put writer block) (reply.Worn back) = Worn writer block ∷ []
entries_of by Take (reply.Block block writer number) = Block writer block number ∷ []
entries_of by Take (reply.NotYet number) = NotYet number ∷ []
entries_of by Take reply.End = End ∷ []
entries_of by Hang reply.Hung = Hung by ∷ []
entries_of by call answer = []

-- the history of the queue that the calls of an object make
abbrev pub queue_history : List (Operation QueueCall QueueReply) → List Entry
queue_history [] = []
queue_history (served ∷ past) =
    entries_of served.by served.request served.reply ++ queue_history past

-- what the object keeps shows the state of a direction: the blocks that wait are the writes that
-- were accepted and not read, none of which is begun, and each put has returned
pub record Shows (first : ℕ) (kept : Contents) (s : QueueState) : Type 0 where
  pub limit : kept.limit ≡ s.pipe.limit
  pub whole : s.pipe.offset ≡ 0
  pub within : s.pipe.read_whole ≤ length s.pipe.accepted
  pub taken_out : kept.taken_out ≡ first + s.pipe.read_whole
  pub waiting : kept.waiting ≡ drop s.pipe.read_whole s.pipe.accepted
  pub hung : kept.hung ≡ s.pipe.hung
  pub puts : (seat : ℕ) → s.putting seat ≡ None
  -- there is room for what waits, and each write has a number
  pub room : length kept.waiting ≤ kept.limit
  pub given : last_number kept ≤ LAST_WRITE

-- no answer that comes before this one, in the order Hungup, Worn, Full, Taken, and Block, End,
-- NotYet, may be given
abbrev pub IsFirst : ℕ → QueueState → QueueReply → Type 0
IsFirst first s (reply.Hungup back) = ⊤
IsFirst first s (reply.Worn back) = s.pipe.hung ≡ false
IsFirst first s (reply.Full back number) =
    (s.pipe.hung ≡ false) × (next_number first s.pipe ≢ LAST_WRITE + 1)
IsFirst first s (reply.Taken number) =
    (s.pipe.hung ≡ false)
    × (next_number first s.pipe ≢ LAST_WRITE + 1)
    × (waiting_of s.pipe ≢ s.pipe.limit)
IsFirst first s (reply.Block block writer number) = ⊤
IsFirst first s reply.End = next_write s.pipe ≡ None
IsFirst first s (reply.NotYet number) = (next_write s.pipe ≡ None) × (s.pipe.hung ≡ false)
IsFirst first s reply.Hung = ⊤

-- A call with this answer: its entries may follow the state, no earlier answer may be given, and
-- what is kept then shows the state that the entries leave.
pub record IsCall (first : ℕ) (kept : Contents) (s : QueueState) (by : ℕ) (call : QueueCall)
    (answer : QueueReply) : Type 0 where
  pub legal : IsLegal (queue_meaning first) s (entries_of by call answer)
  pub is_first : IsFirst first s answer
  pub after : Shows first (after_reply kept call answer)
      (state_after (queue_meaning first) s (entries_of by call answer))

-- each call on the sequential queue gets the answer of a direction
abbrev pub EachCallIsRight : Type 0
EachCallIsRight =
    (first : ℕ) (kept : Contents) (s : QueueState) (by : ℕ) (call : QueueCall)
    → Shows first kept s → IsCall first kept s by call (reply_to kept call)

-- each history of the object is a legal history of the queue, and what the object keeps shows what
-- is left
abbrev pub ObjectsAreQueues : Type 0
ObjectsAreQueues =
    (limit first : ℕ) (history : List (Operation QueueCall QueueReply)) → first ≤ LAST_WRITE
    → IsLegal (meaning_of queue_definition) (new_kept limit first) history
    → IsLegal (queue_meaning first) (opening_state limit) (queue_history history)
    × Shows first (state_after (meaning_of queue_definition) (new_kept limit first) history)
    (state_after (queue_meaning first) (opening_state limit) (queue_history history))
