-- What holds of every direction of a pipe, said of the definitions alone.
use Rattle.std.specs.Prelude.{drop, ◌≡◌, ℕ, ◌<◌, ◌≤◌, false, List, length, Ok, Err}
use Rattle.sync_base.specs.declared.answers.WriteAnswer.TheVariants.{Full, Hungup}
use Rattle.sync_base.specs.declared.answers.ReadAnswer.{ReadAnswer}
use Rattle.sync_base.specs.declared.fault.Fault.TheVariants.{TooBig, BadCount}
use Rattle.sync_base.specs.declared.limits.TheConstants.{ATOMIC_SIZE}
use Rattle.sync_base.specs.Write.{Write}
use Rattle.sync_base.specs.declared.mode.Mode.{Mode}
use Rattle.sync_base.specs.declared.mode.Mode.TheVariants.{Message, Stream}
use Rattle.sync_base.specs.Pipe.{PipeState, IsPipeState, opening_in, unread_bytes, MayAnswerWrite}
use Rattle.sync_base.specs.Pipe.{MayAnswerRead, MayAnswerStreamRead, write_answer, write_result}
use Rattle.sync_base.specs.Pipe.{read_answer, read_result, after_write, after_read, after_hangup}

-- the answer to a write is one that it may get
abbrev pub WriteAnswersApply : Type 0
WriteAnswersApply = (s : PipeState) → IsPipeState s → MayAnswerWrite s (write_answer s)

-- and it is the first answer that it may get, in the order Hungup, Full, Taken
abbrev pub HungupComesFirst : Type 0
HungupComesFirst = (s : PipeState) → MayAnswerWrite s Hungup → write_answer s ≡ Hungup

abbrev pub FullComesBeforeTaken : Type 0
FullComesBeforeTaken =
    (s : PipeState) → s.hung ≡ false → MayAnswerWrite s Full → write_answer s ≡ Full

-- a write above the atomic size is refused first, and no other write is
abbrev pub TooBigComesFirst : Type 0
TooBigComesFirst =
    (s : PipeState) (bytes : List ℕ)
    → ATOMIC_SIZE < length bytes
    → write_result s bytes ≡ Err TooBig

abbrev pub OtherWritesAreAnswered : Type 0
OtherWritesAreAnswered =
    (s : PipeState) (bytes : List ℕ)
    → length bytes ≤ ATOMIC_SIZE
    → write_result s bytes ≡ Ok (write_answer s)

-- a read of no bytes is refused first, and no other read is
abbrev pub BadCountComesFirst : Type 0
BadCountComesFirst = (s : PipeState) → read_result 0 s ≡ Err BadCount

abbrev pub OtherReadsAreAnswered : Type 0
OtherReadsAreAnswered =
    (most : ℕ) (s : PipeState) → 0 < most → read_result most s ≡ Ok (read_answer most s)

-- the answer to a read in message mode is one that a read of one write may get, and it is End where
-- nothing is left of a hung up direction
abbrev pub ReadAnswersApply : Type 0
ReadAnswersApply =
    (most : ℕ) (s : PipeState) → s.mode ≡ Message → MayAnswerRead most s (read_answer most s)

abbrev pub EndComesBeforeEmpty : Type 0
EndComesBeforeEmpty =
    (most : ℕ) (s : PipeState)
    → s.mode ≡ Message
    → MayAnswerRead most s ReadAnswer.End
    → read_answer most s ≡ ReadAnswer.End

-- the same for a read in stream mode, which has any number of writes before it
abbrev pub StreamReadAnswersApply : Type 0
StreamReadAnswersApply =
    (most : ℕ) (s : PipeState)
    → 0 < most
    → s.mode ≡ Stream
    → MayAnswerStreamRead most s (read_answer most s)

abbrev pub StreamEndComesBeforeEmpty : Type 0
StreamEndComesBeforeEmpty =
    (most : ℕ) (s : PipeState)
    → s.mode ≡ Stream
    → MayAnswerStreamRead most s ReadAnswer.End
    → read_answer most s ≡ ReadAnswer.End

-- what a read in stream mode leaves unread is just what comes after the bytes that it had room for
abbrev pub StreamReadsLoseNothing : Type 0
StreamReadsLoseNothing =
    (most : ℕ) (s : PipeState)
    → s.mode ≡ Stream
    → IsPipeState s
    → unread_bytes (after_read most s) ≡ drop most (unread_bytes s)

-- where such a read had room for more bytes than there are, each write is read whole, an empty
-- write too
abbrev pub StreamReadsPassAll : Type 0
StreamReadsPassAll =
    (most : ℕ) (s : PipeState)
    → s.mode ≡ Stream
    → IsPipeState s
    → length (unread_bytes s) < most
    → (after_read most s).read_whole ≡ length s.accepted

-- each state from the opening on is a state of a pipe
abbrev pub OpeningIsState : Type 0
OpeningIsState = (mode : Mode) (limit : ℕ) → IsPipeState (opening_in mode limit)

abbrev pub WritesKeepState : Type 0
WritesKeepState =
    (s : PipeState) (write : Write)
    → IsPipeState s
    → IsPipeState (after_write s write (write_answer s))

abbrev pub ReadsKeepState : Type 0
ReadsKeepState =
    (most : ℕ) (s : PipeState) → 0 < most → IsPipeState s → IsPipeState (after_read most s)

abbrev pub HangupKeepsState : Type 0
HangupKeepsState = (s : PipeState) → IsPipeState s → IsPipeState (after_hangup s)
