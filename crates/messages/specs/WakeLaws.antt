-- That whoever a call of a queue wakes is released, said of running threads.
use Rattle.std.specs.Prelude.{◌<◌, ℕ, Some}
use Rattle.rendez_words.specs.declared.view.Sizes.{Sizes}
use Rattle.rendez_words.specs.Process.{Process}
use Rattle.rendez_words.specs.Rule.{ShowsCore}
use Rattle.sleep_core.specs.Laws.{ReleasesBelow}
use Rattle.sleep_core.specs.Runs.{world_of}
use Rattle.waiting.specs.Wakeups.{HasGoneOn}
use Rattle.messages.specs.declared.channel.Channel.{Channel}
use Rattle.messages.specs.declared.message_object.Wake.{Wake}
use Rattle.messages.specs.Handles.{rendez_of_place}
use Rattle.messages.specs.Waking.{WakesAll, WakesNext}

module _ (T : Type 0) where
  -- A process that fell asleep on a place's Rendez below the number of its grant is no longer
  -- posted
  -- there, once the call that granted it has returned.
  abbrev pub GrantsRelease : Type 0
  GrantsRelease =
      (sizes : Sizes) (s : _) (shows : ShowsCore sizes s)
      → (channel : Channel T) (wake : Wake) (before after : Process)
      → WakesNext channel (Some wake) before after → HasGoneOn s.views after
      → ReleasesBelow (world_of sizes.procs sizes.rendez shows.run)
      (rendez_of_place channel wake.place) wake.number

  -- and on no place's Rendez below the number of a hangup, once that has returned
  abbrev pub HangupsRelease : Type 0
  HangupsRelease =
      (sizes : Sizes) (s : _) (shows : ShowsCore sizes s)
      → (channel : Channel T) (count number : ℕ) (before after : Process)
      → WakesAll channel count number before after → HasGoneOn s.views after
      → (place : ℕ) → place < count
      → ReleasesBelow (world_of sizes.procs sizes.rendez shows.run)
      (rendez_of_place channel place) number
