-- What a pipe for one thread keeps of a direction: the writes that are not read whole.
use Rattle.std.specs.Prelude.{◌≡◌, ℕ, ◌-◌, ◌<◌, ◌≤◌, nat_lt, if◌then◌else◌, Bool, List, [], ◌∷◌}
use Rattle.std.specs.Prelude.{length, drop, ◌⊎◌}
use Rattle.sync_base.specs.Write.{Write}
use Rattle.sync_base.specs.Pipe.{PipeState, Reach, joined}
use Rattle.sync_base.specs.declared.mode.Mode.{Mode}
use Rattle.sync_base.specs.declared.limits.TheConstants.{MAX_PIPE_LIMIT}
use Rattle.sync_base.specs.declared.answers.ReadAnswer.{ReadAnswer}
use Rattle.sync_base.specs.declared.answers.ReadAnswer.TheVariants.{Got, Empty, End}
use Rattle.sync_base.specs.declared.answers.PeekAnswer.{PeekAnswer}
use Rattle.sync_base.specs.declared.answers.PeekAnswer.TheVariants as peek

-- what the pipe keeps
pub record Contents : Type 0 where
  pub limit : ℕ
  pub mode : Mode
  pub unread : List Write
  pub offset : ℕ
  pub hung : Bool

-- the pipe keeps all of this state but the writes that are read whole
pub record Shows (kept : Contents) (s : PipeState) : Type 0 where
  pub limit : kept.limit ≡ s.limit
  pub mode : kept.mode ≡ s.mode
  pub unread : kept.unread ≡ drop s.read_whole s.accepted
  pub offset : kept.offset ≡ s.offset
  pub hung : kept.hung ≡ s.hung
  pub position : s.read_whole ≤ length s.accepted

-- the bytes of the first of these writes
abbrev pub first_bytes : List Write → List ℕ
first_bytes [] = []
first_bytes (write ∷ writes) = write.bytes

-- the bytes that are kept and not read
abbrev pub kept_bytes : Contents → List ℕ
kept_bytes kept = drop kept.offset (joined kept.unread)

-- what is kept after a read that goes on from write to write and comes this far
abbrev pub kept_after : Contents → Reach → Contents
kept_after kept reach =
    record kept { unread = drop reach.whole kept.unread; offset = reach.offset }

-- how many of the kept writes no read has begun
abbrev pub kept_waiting : Contents → ℕ
kept_waiting kept = length kept.unread - (if nat_lt 0 kept.offset then 1 else 0)

-- the limit is one that no direction has
abbrev pub IsBadLimit : ℕ → Type 0
IsBadLimit limit = (limit ≡ 0) ⊎ (MAX_PIPE_LIMIT < limit)

-- the answer to a read whose bytes are lent
abbrev pub lent_answer : PeekAnswer → ReadAnswer
lent_answer (peek.Got bytes) = Got bytes.now
lent_answer peek.Empty = Empty
lent_answer peek.End = End
