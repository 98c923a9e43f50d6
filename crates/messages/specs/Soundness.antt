-- What holds of a queue of values after every legal history.
use Rattle.std.specs.Prelude.{◌≡◌, ◌≤◌, ◌<◌, ◌+◌, ℕ, length}
use Rattle.std.specs.List.{AllByRecursion}
use Rattle.messages.specs.declared.limits.TheConstants.{LAST_GRANT}
use Rattle.messages.specs.Lines.{Waiters}
use Rattle.messages.specs.MessageObject.{Contents}

-- there are this many places, those in line and those of open seats are among them, and no more
-- wait or were granted something than there are
pub record IsLine (handles : ℕ) (line : Waiters) : Type 0 where
  pub seats_are : line.seats ≡ handles
  pub among : AllByRecursion (λ place. place < handles) line.waiting
  pub few : length line.waiting + length line.granted ≤ handles
  pub placed : AllByRecursion (λ one. one.place < handles) line.opened

pub record IsSound {T : Type 0} (handles : ℕ) (kept : Contents T) : Type 0 where
  -- there is room for each value, and for one of each sender that was granted room
  pub room : length kept.values + length kept.senders.granted ≤ kept.capacity
  -- there is a value for each receiver that was granted one
  pub values : length kept.receivers.granted ≤ length kept.values
  -- there is a number for each grant to those who wait
  pub numbers : kept.grants + (length kept.senders.waiting + length kept.receivers.waiting)
      ≤ LAST_GRANT
  -- each place is free, or has one open seat
  pub places : length kept.free
      + (length kept.senders.opened + length kept.receivers.opened) ≡ handles
  pub free : AllByRecursion (λ place. place < handles) kept.free
  pub senders : IsLine handles kept.senders
  pub receivers : IsLine handles kept.receivers
