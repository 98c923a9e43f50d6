-- The language of pipe scripts: its lines, and what each line does to one direction of a pipe.
use Rattle.std.specs.Prelude.{◌-◌, ℕ, if◌then◌else◌, List, [], ◌∷◌, codes, Option, None, Some}
use Rattle.std.specs.Prelude.{option_and_then, Result, Ok, Err}
use Rattle.std.specs.Option.{option_map}
use Rattle.std.specs.Result.{result_ok}
use Rattle.hex.specs.Hex.{decode_of}
use Rattle.sync_base.specs.declared.answers.WriteAnswer.{WriteAnswer}
use Rattle.sync_base.specs.declared.answers.ReadAnswer.{ReadAnswer}
use Rattle.sync_base.specs.declared.fault.Fault.{Fault}
use Rattle.sync_base.specs.Write.{Write}
use Rattle.sync_base.specs.declared.mode.Mode.{Mode}
use Rattle.sync_base.specs.declared.mode.Mode.TheVariants.{Message, Stream}
use Rattle.sync_base.specs.Pipe.{PipeState, opening_in, write_result, after_write, read_result}
use Rattle.sync_base.specs.Pipe.{after_read, after_hangup}
use Rattle.sync_base.specs.declared.limits.TheConstants.{MAX_PIPE_LIMIT, MAX_WRITERS}
use Rattle.scripts.specs.Lines.{words_of, is_word, number_of, number_within}
use Rattle.scripts.specs.Script.{Language, Answered, Transcript, told}
use Rattle.scripts.specs.AnswerText.{write_text, read_text, fault_text}

-- what a line asks for
pub data Op : Type 0 where
  Writes : (writer : ℕ) (bytes : List ℕ) → Op
  Reads : (most : ℕ) → Op
  Hangs_up : Op

-- bytes in hexadecimal, two digits of either case each, or a dash for no bytes
abbrev pub bytes_of : List ℕ → Option (List ℕ)
bytes_of [] = None
bytes_of (digit ∷ digits) =
    if is_word (digit ∷ digits) (codes "-") then Some [] else result_ok (decode_of (digit ∷ digits))

-- what follows the limit: nothing, or `stream`
abbrev pub mode_of : List (List ℕ) → Option Mode
mode_of [] = Some Message
mode_of (word ∷ []) = if is_word word (codes "stream") then Some Stream else None
mode_of words = None

-- the pipe that a line `limit N` or `limit N stream` opens
abbrev pub opened_of : List (List ℕ) → Option PipeState
opened_of (verb ∷ limit ∷ words) =
    if is_word verb (codes "limit")
    then option_and_then
    (λ mode. option_map (opening_in mode) (number_within 1 MAX_PIPE_LIMIT limit))
    (mode_of words)
    else None
opened_of words = None

-- `hangup`
abbrev pub hangup_of : List (List ℕ) → Option Op
hangup_of [] = Some Hangs_up
hangup_of words = None

-- `read N`
abbrev pub read_of : List (List ℕ) → Option Op
read_of (most ∷ []) = option_map Reads (number_of most)
read_of words = None

-- `write W HEX`
abbrev pub write_of : List (List ℕ) → Option Op
write_of (writer ∷ bytes ∷ []) =
    option_and_then (λ w. option_map (Writes w) (bytes_of bytes))
    (number_within 0 (MAX_WRITERS - 1) writer)
write_of words = None

-- each line but the first, by its verb
abbrev pub op_of : List (List ℕ) → Option Op
op_of [] = None
op_of (verb ∷ words) =
    if is_word verb (codes "hangup") then hangup_of words
    else if is_word verb (codes "read") then read_of words
    else if is_word verb (codes "write") then write_of words
    else None

-- What is written for the result of a write, and the state after it. A refused write changes
-- nothing.
abbrev pub write_answered : PipeState → Write → Result WriteAnswer Fault → Answered PipeState
write_answered s write (Ok answer) =
    record { text = write_text answer; after = after_write s write answer }
write_answered s write (Err fault) = record { text = fault_text fault; after = s }

-- the same for a read of at most this many bytes
abbrev pub read_answered : PipeState → ℕ → Result ReadAnswer Fault → Answered PipeState
read_answered s most (Ok answer) = record { text = read_text answer; after = after_read most s }
read_answered s most (Err fault) = record { text = fault_text fault; after = s }

-- the answer to an operation
abbrev pub answered : PipeState → Op → Answered PipeState
answered s (Writes writer bytes) =
    write_answered s (record { writer = writer; bytes = bytes }) (write_result s bytes)
answered s (Reads most) = read_answered s most (read_result most s)
answered s Hangs_up = record { text = codes "ok"; after = after_hangup s }

-- the language: `limit N`, or `limit N stream`, opens an empty pipe, and nothing is written at the
-- end
abbrev pub pipe_language : Language PipeState
pipe_language =
    record {
      opened_by = λ line. opened_of (words_of line);
      answer_to = λ s line. option_map (answered s) (op_of (words_of line));
      closing_line = λ _. [];
    }

-- what a pipe script says, as a function of its bytes
abbrev pub pipe_told : List ℕ → Transcript
pipe_told input = told pipe_language input
