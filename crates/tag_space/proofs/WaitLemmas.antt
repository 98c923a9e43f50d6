-- A call that waits is its member's newest that was answered with Wait.
use Rattle.std.proofs.Common.{◌≡◌, ◌≢◌, ℕ, eqb, if◌then◌else◌, true, false, Bool, Option, Some}
use Rattle.std.proofs.Common.{List, [], ◌∷◌, length}
use Rattle.std.proofs.Common.{arith, refl}
use Rattle.std.proofs.lemmas.Bool.Decides.{nat_tests}
use Rattle.tag_space.specs.declared.calls.GroupCall.{GroupCall}
use Rattle.tag_space.specs.declared.calls.GroupCall.TheVariants.{Call, Collect, Leave}
use Rattle.tag_space.specs.declared.calls.GroupReply.{GroupReply}
use Rattle.tag_space.specs.declared.calls.GroupReply.TheVariants.{Met, WasMet, Wait, Gone}
use Rattle.tag_space.specs.Rendezvous.{Entry, Offer, Stage, stage_of, stage_after, found_by}
use Rattle.tag_space.specs.Rendezvous.{wait_after, last_wait}
use Rattle.tag_space.specs.Rendezvous.Stage.{Over, Waits, Paired}

-- a number is itself
pub yes : (a : ℕ) → eqb a a ≡ true
yes a = grind (arith, nat_tests)

-- two numbers that differ are not told to be the same
pub no : (a b : ℕ) → a ≢ b → eqb a b ≡ false
no a b differs = grind (arith, nat_tests)

module _ (stage : Stage) (before : Option Offer) (offer : Offer)
    (past_is : stage ≡ Waits offer → before ≡ Some offer) where
  -- a call that is over waits no longer
  after_over : (its : Bool) → (if its then Over else stage) ≡ Waits offer → before ≡ Some offer
  after_over true waits = cc
  after_over false waits = past_is waits

  -- nor does one that was found
  after_found : (its : Bool) (finding : Offer) (was : Stage) → was ≡ stage
      → (if its then found_by finding was else stage) ≡ Waits offer → before ≡ Some offer
  after_found true finding Over is waits = cc
  after_found true finding (Waits other) is waits = cc
  after_found true finding (Paired pair) is waits = cc
  after_found false finding was is waits = past_is waits

  -- and one that begins to wait is the newest
  after_wait : (its : Bool) (new : Offer) → (if its then Waits new else stage) ≡ Waits offer
      → (if its then Some new else before) ≡ Some offer
  after_wait true new waits = cc
  after_wait false new waits = past_is waits

  one_more : (number member : ℕ) (call : GroupCall) (reply : GroupReply)
      → stage_after number member stage call reply ≡ Waits offer
      → wait_after number member before call reply ≡ Some offer
  one_more number member (Call caller tag value) (Wait count) waits = after_wait _ _ waits
  one_more number member (Call caller tag value) (Met given other count) waits =
      after_found _ _ stage refl waits
  one_more number member (Collect caller) (WasMet given) waits = after_over _ waits
  one_more number member (Leave caller) (WasMet given) waits = after_over _ waits
  one_more number member (Leave caller) Gone waits = after_over _ waits
  one_more number member call reply waits = past_is waits

-- a call that waits is the last by which its member began to wait
pub waits_last : (past : List Entry) (member : ℕ) (offer : Offer) → stage_of past member ≡
    Waits offer → last_wait past member ≡ Some offer
waits_last [] member offer waits = cc
waits_last (entry ∷ past) member offer waits =
    one_more (stage_of past member) (last_wait past member) offer (waits_last past member offer)
    (length past) member entry.request entry.reply waits
