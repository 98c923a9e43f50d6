-- No wakeup of a rendezvous is lost: the call that was found is released once the call that found
-- it has returned, and it is woken above the number with which it began to sleep.
use Rattle.std.specs.Prelude.{◌≡◌, ◌<◌, ℕ, List, [], ◌∷◌, ◌++◌}
use Rattle.histories.specs.History.{IsLegal}
use Rattle.rendez_words.specs.declared.view.Sizes.{Sizes}
use Rattle.rendez_words.specs.Rule.{ShowsCore}
use Rattle.sleep_core.specs.Laws.{ReleasesBelow}
use Rattle.sleep_core.specs.Runs.{world_of}
use Rattle.tag_space.specs.declared.calls.GroupCall.{GroupCall}
use Rattle.tag_space.specs.declared.calls.GroupReply.TheVariants.{Met, Wait}
use Rattle.tag_space.specs.declared.member.Member.{Member}
use Rattle.tag_space.specs.declared.space.TagSpace.{TagSpace}
use Rattle.tag_space.specs.Asking.{Finds}
use Rattle.tag_space.specs.GroupObject.{member_of}
use Rattle.tag_space.specs.Members.{rendez_of_member}
use Rattle.tag_space.specs.Rendezvous.{Entry, Space, rendezvous}
use Rattle.waiting.specs.Waiting.{Point}
use Rattle.waiting.specs.Wakeups.{HasGoneOn}

-- A process that fell asleep on a member's Rendez below the count of a meeting is no longer posted
-- there, once the call that found the member's has returned.
abbrev pub FindingReleasesThePartner : Type 0
FindingReleasesThePartner =
    (sizes : Sizes) (s : _) (shows : ShowsCore sizes s)
    → (space : TagSpace) (call : GroupCall) (given : ℕ) (before after : Point Member)
    → (finds : Finds space call given before after) → HasGoneOn s.views after.process
    → ReleasesBelow (world_of sizes.procs sizes.rendez shows.run)
    (rendez_of_member space finds.other) finds.count

-- And that is enough: a member that has to wait with this number is found with a count above it.
abbrev pub WaitersAreFoundAbove : Type 0
WaitersAreFoundAbove =
    (space : Space) (past since : List Entry) (waits found : Entry)
    → (number given member count : ℕ)
    → IsLegal (rendezvous space) [] (found ∷ (since ++ waits ∷ past))
    → waits.reply ≡ Wait number → member_of waits.request ≡ member
    → found.reply ≡ Met given member count → number < count
