-- What a read end has read of its direction, and what its calls add to it.
use Rattle.std.specs.Prelude.{◌≡◌, ◌≢◌, List, [], take, IsTrue}
use Rattle.std.specs.Prelude.{Option, Some, None, ⊤, reverse}
use Rattle.histories.specs.declared.account.Account.{Account}
use Rattle.histories.specs.Account.{has_number}
use Rattle.sync_base.specs.Pipe.{PipeState}
use Rattle.block_queue.specs.declared.entry.Entry.{Entry}
use Rattle.block_queue.specs.declared.view.Key.{Key}
use Rattle.block_queue.specs.Meaning.{KnowsQueue, queue_after}
use Rattle.pipe_dev.specs.Parts.{Part, pieces_of, continued, whole_from}

-- a read end: what its seat at the queue knows, what the end read, and what is left of a begun
-- write
pub record Reading : Type 0 where
  pub account : Account Entry
  pub parts : List Part
  pub rest : Option Part

-- a rest has at least one byte
abbrev pub IsRest : Option Part → Type 0
IsRest None = ⊤
IsRest (Some rest) = rest.bytes ≢ []

-- After pipe(3). What was read, continued by the rest that is held, is just the writes that were
-- taken out: each whole, once, at its place and in their order, with no byte of another between.
pub record IsRight (s : PipeState) (parts : List Part) (rest : Option Part) : Type 0 where
  pub whole : reverse (pieces_of (continued rest parts)) ≡
      whole_from 0 (take s.read_whole s.accepted)
  pub some_left : IsRest rest

-- the state of the direction, as far as the read end has seen it
abbrev pub seen_state : Key → Reading → PipeState
seen_state key reading = (queue_after key reading.account.seen).pipe

-- the seat is the reader's, what it has seen is a legal history, and the end has read just what the
-- seat took out in it
pub record IsReading (key : Key) (reading : Reading) : Type 0 where
  pub own : IsTrue (has_number reading.account.shares 0)
  pub knows : KnowsQueue key reading.account
  pub right : IsRight (seen_state key reading) reading.parts reading.rest

-- a read end that has read nothing
abbrev pub first_reading : Account Entry → Reading
first_reading account = record { account = account; parts = []; rest = None }
