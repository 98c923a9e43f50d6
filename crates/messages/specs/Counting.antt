-- What a count of a queue promises: a moment's answer. After the len of the channels of Go and of
-- Rust's std.
use Rattle.std.specs.Prelude.{ℕ}
use Rattle.messages.specs.declared.message_object.MessageCall.TheVariants.{Count}
use Rattle.messages.specs.declared.message_object.MessageReply.TheVariants as reply
use Rattle.messages.specs.Asking.{Asks}
use Rattle.messages.specs.Handles.{Handle}

-- the handle was told that there are so many values, and so much room that was granted to nobody
abbrev pub Counts : {T : Type 0} → Handle T → ℕ → ℕ → Handle T → Type 0
Counts old values room new =
    Asks old.channel Count (reply.Counted values room) old.seat new.seat
