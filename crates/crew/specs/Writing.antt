-- What a writer of a run on threads has written.
use Rattle.std.specs.Prelude.{◌≡◌, ◌⊎◌, ◌++◌, ℕ, zero, suc, List, [], ◌∷◌, vec_len, OnOk, Ok}
use Rattle.pipe_dev.specs.Ends.{IsSameWriteEnd}
use Rattle.pipe_dev.specs.Sides.{HasWrittenJust}
use Rattle.crew.specs.declared.crew.Writer.{Writer}
use Rattle.sync_base.specs.declared.threads_opts.ThreadsOpts.{ThreadsOpts}
use Rattle.crew.specs.Message.{message_of}

-- the first messages of this writer, this many, each of this size
abbrev pub messages_of : ℕ → ℕ → ℕ → List (List ℕ)
messages_of size writer zero = []
messages_of size writer (suc count) =
    messages_of size writer count ++ message_of size writer count ∷ []

-- the end has written these and then just the messages that the writer counts
abbrev pub CountsAll : List (List ℕ) → Writer → Type 0
CountsAll before writer = HasWrittenJust writer.end
    (before ++ messages_of (vec_len writer.message) writer.number writer.done)

-- it has as many messages as are asked for, of this size, and none is written
pub record IsReadyWriter (opts : ThreadsOpts) (writer : Writer) : Type 0 where
  pub number : writer.number ≡ writer.end.writer
  pub writes : writer.writes ≡ opts.writes
  pub size : vec_len writer.message ≡ opts.size
  pub none : writer.done ≡ 0
  pub well : writer.wrote ≡ Ok tt

-- the writer has written on: it is the same writer, and if it counted all that its end had written,
-- it still does
pub record HasWrittenOn (old new : Writer) : Type 0 where
  pub end : IsSameWriteEnd old.end new.end
  pub number : new.number ≡ old.number
  pub writes : new.writes ≡ old.writes
  pub size : vec_len new.message ≡ vec_len old.message
  pub counts : (before : List (List ℕ)) → CountsAll before old → CountsAll before new

-- the writer stopped: all messages are written, the gate may stop it here, or a write was refused
abbrev pub HasEnded : {G : Type 0} → (G → ℕ → ℕ → Type 0) → G → Writer → Type 0
HasEnded may_stop gate writer = OnOk writer.wrote
    ((writer.done ≡ writer.writes) ⊎ may_stop gate writer.number writer.done)
