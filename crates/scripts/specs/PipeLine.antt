-- What the code reads off a line, beside what the grammar says of the line.
use Rattle.std.specs.Prelude.{◌≡◌, ℕ, List, [], ◌∷◌, ◌++◌, codes}
use Rattle.sync_base.specs.Pipe.{PipeState, opening_in}
use Rattle.sync_base.specs.PlainPipe.{Contents, Shows}
use Rattle.scripts.specs.declared.lines.TheConstants.{LINE_FEED, SPACE}
use Rattle.scripts.specs.declared.pipe_line.Opening.{Opening}
use Rattle.scripts.specs.declared.pipe_line.OpVerb.{OpVerb}
use Rattle.scripts.specs.declared.pipe_line.OpVerb.TheVariants as verb
use Rattle.scripts.specs.Script.{Answered}
use Rattle.scripts.specs.declared.pipe_line.PipeOp.{PipeOp}
use Rattle.scripts.specs.declared.pipe_line.PipeOp.TheVariants.{Write, Read, Hangup}
use Rattle.scripts.specs.PipeScript.{Op, Writes, Reads, Hangs_up}

-- the pipe that is opened like this
abbrev pub opened_by : Opening → PipeState
opened_by opening = opening_in opening.mode opening.limit

-- what the code's operation asks for
abbrev pub asked_by : PipeOp → Op
asked_by (Write writer bytes) = Writes writer bytes.now
asked_by (Read most) = Reads most
asked_by Hangup = Hangs_up

-- the pipe shows the state after an answer, and the answer was written as a line
pub record IsAnswered (answered : Answered PipeState) (kept : Contents) (old new : List ℕ) : Type 0
  where
    pub state : Shows kept answered.after
    pub text : new ≡ old ++ answered.text ++ LINE_FEED ∷ []

-- the word of a verb
abbrev pub op_word : OpVerb → List ℕ
op_word verb.Write = codes "write"
op_word verb.Read = codes "read"
op_word verb.Hangup = codes "hangup"

-- the byte after it
abbrev pub op_end : OpVerb → ℕ
op_end verb.Write = SPACE
op_end verb.Read = SPACE
op_end verb.Hangup = LINE_FEED
