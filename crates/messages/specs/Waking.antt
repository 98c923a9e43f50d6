-- Whom a call of a queue wakes.
use Rattle.std.specs.Prelude.{◌≡◌, ◌<◌, ℕ, zero, suc, Option, None, Some}
use Rattle.rendez_words.specs.Process.{Process}
use Rattle.sleep_wakeup.specs.Actions.{WakesOne}
use Rattle.messages.specs.declared.channel.Channel.{Channel}
use Rattle.messages.specs.declared.message_object.Wake.{Wake}
use Rattle.messages.specs.Handles.{rendez_of_place}

module _ {T : Type 0} (channel : Channel T) where
  -- the place is one of the queue's
  abbrev pub IsOfRow : Wake → Type 0
  IsOfRow wake = wake.place < channel.handles

  -- who was granted something was woken in the Rendez of its place, once, with the number of the
  -- grant; where none was, nobody was woken
  abbrev pub WakesNext : Option Wake → Process → Process → Type 0
  WakesNext None before after = after ≡ before
  WakesNext (Some wake) before after =
      WakesOne before (rendez_of_place channel wake.place) wake.number after

  -- one more handle was woken
  pub record WakesOneMore (Before : Process → Type 0) (place number : ℕ) (after : Process) : Type 0
    where
      pub between : Process
      pub others : Before between
      pub last : WakesOne between (rendez_of_place channel place) number after

  -- this many handles, from the first on, were woken with this number, each once and in order
  abbrev pub WakesAll : ℕ → ℕ → Process → Process → Type 0
  WakesAll zero number before after = after ≡ before
  WakesAll (suc count) number before after =
      WakesOneMore (WakesAll count number before) count number after
