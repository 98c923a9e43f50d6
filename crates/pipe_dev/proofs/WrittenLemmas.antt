-- What the calls of a write end add to what its seat knows as accepted.
use Rattle.std.proofs.Common.{◌≡◌, eqb, ℕ, ◌+◌, arith, if◌then◌else◌}
use Rattle.std.proofs.Common.{List, [], ◌∷◌, ◌++◌, map, refl, sym, ◌∙◌, subst}
use Rattle.std.specs.Prelude.{IsTrue, Result, Ok, Err}
use Rattle.std.specs.List.{AllByRecursion}
use Rattle.std.proofs.lemmas.Bool.Decides.{nat_tests}
use Rattle.std.proofs.lemmas.List.{append-nil}
use Rattle.histories.specs.declared.account.Account.{Account}
use Rattle.histories.specs.declared.account.Share.{Share}
use Rattle.histories.specs.Account.{has_number, share_after}
use Rattle.sync_base.specs.declared.fault.Fault.{Fault}
use Rattle.sync_base.specs.declared.fault.Fault.TheVariants as fault
use Rattle.sync_base.specs.declared.ids.RendezId.{RendezId}
use Rattle.block_queue.specs.declared.entry.Entry.{Entry}
use Rattle.block_queue.specs.declared.entry.Entry.TheVariants.{Taken, Stood, Full, Hungup, Worn}
use Rattle.block_queue.specs.declared.entry.Entry.TheVariants.{Hung}
use Rattle.block_queue.specs.declared.view.Key.{Key}
use Rattle.block_queue.specs.History.{seat_of}
use Rattle.block_queue.specs.Meaning.{Enters}
use Rattle.block_queue.specs.Opening.{new_account}
use Rattle.block_queue.proofs.SeatLemmas.{entered_own}
use Rattle.pipe_dev.specs.CallLaws.{NewEndsHaveWrittenNothing, WritesAddWhatWasAccepted}
use Rattle.pipe_dev.specs.CallLaws.{HangupsWriteNothing}
use Rattle.pipe_dev.specs.Chain.{HasWritten, written_by}
use Rattle.pipe_dev.specs.Finishing.{accepted_in}
use Rattle.pipe_dev.specs.Rendezes.{writer_rendez}
use Rattle.pipe_dev.specs.WriteCalls.{WriteCall, Writer, AsksForRoom, HasHang, writing}
use Rattle.waiting.specs.declared.call.Reply.TheVariants.{Wait}
use Rattle.waiting.specs.Waiting.{Waited, reply_of}
use Rattle.pipe_dev.proofs.OutcomeLemmas.{waited_ends}

-- the seat knows these of the shares of this writer
abbrev Are : ℕ → List (List ℕ) → List (Share Entry) → Type 0
Are writer blocks shares =
    AllByRecursion (λ share. share.number ≡ writer + 1 → accepted_in share.mine ≡ blocks) shares

-- an entry by the writer adds what it says was accepted
are_after : (writer : ℕ) (entry : Entry) (blocks more : List (List ℕ)) (shares : List (Share Entry))
    → seat_of entry ≡ writer + 1
    → ((mine : List Entry) → accepted_in (entry ∷ mine) ≡ accepted_in mine ++ more)
    → Are writer blocks shares
    → Are writer (blocks ++ more) (map (share_after seat_of entry) shares)
are_after writer entry blocks more [] by_it says are = tt
are_after writer entry blocks more (share ∷ shares) by_it says are = (
  λ number. one (seat_of entry) share.number (by_it ∙ sym number) (says share.mine)
      (are.0 number),
  are_after writer entry blocks more shares by_it says are.1,
)
  where
    one : (seat number : ℕ) → seat ≡ number
        → accepted_in (entry ∷ share.mine) ≡ accepted_in share.mine ++ more
        → accepted_in share.mine ≡ blocks
        → accepted_in (if eqb seat number then entry ∷ share.mine else share.mine) ≡ blocks ++ more
    one seat number same says known = grind (arith, nat_tests, same, says, known)

entered : (key : Key) (entry : Entry) (old new : Account Entry) (writer : ℕ)
    (blocks more : List (List ℕ))
    → Enters key entry old new → seat_of entry ≡ writer + 1
    → ((mine : List Entry) → accepted_in (entry ∷ mine) ≡ accepted_in mine ++ more)
    → HasWritten old writer blocks → HasWritten new writer (blocks ++ more)
entered key entry old new writer blocks more enters by_it says written =
    record {
      own = entered_own key entry old new (writer + 1) enters written.own;
      are = subst (λ (a : Account Entry). Are writer (blocks ++ more) a.shares)
          (sym enters.adds.new_is)
          (are_after writer entry blocks more old.shares by_it says written.are);
    }

-- an entry that says nothing of the kind adds nothing
entered_none : (key : Key) (entry : Entry) (old new : Account Entry) (writer : ℕ)
    (blocks : List (List ℕ))
    → Enters key entry old new → seat_of entry ≡ writer + 1
    → ((mine : List Entry) → accepted_in (entry ∷ mine) ≡ accepted_in mine)
    → HasWritten old writer blocks → HasWritten new writer blocks
entered_none key entry old new writer blocks enters by_it says written =
    subst (λ (bs : List (List ℕ)). HasWritten new writer bs) (append-nil blocks)
    (entered key entry old new writer blocks [] enters by_it
    (λ mine. says mine ∙ sym (append-nil (accepted_in mine))) written)

-- ---- a write

module _ (call : WriteCall) (blocks : List (List ℕ)) where
  abbrev Before : Account Entry → Type 0
  Before seat = HasWritten seat call.writer blocks

  abbrev After : Result ℕ Fault → Account Entry → Type 0
  After answer seat = HasWritten seat call.writer (blocks ++ written_by answer call.bytes)

  -- an entry that says nothing of the kind, before which nothing was accepted
  none_more : (entry : Entry) (old new : Account Entry) → Enters call.key entry old new
      → seat_of entry ≡ call.writer + 1
      → ((mine : List Entry) → accepted_in (entry ∷ mine) ≡ accepted_in mine)
      → Before old → HasWritten new call.writer (blocks ++ [])
  none_more entry old new enters by_it says written =
      entered call.key entry old new call.writer blocks [] enters by_it
      (λ mine. says mine ∙ sym (append-nil (accepted_in mine))) written

  goes_on : (old new : Writer) (number : ℕ) → Before old.seat
      → AsksForRoom call old (Wait number) new → Before new.seat
  goes_on old new number written full =
      entered_none call.key (Full call.writer call.bytes number) old.seat new.seat call.writer
      blocks full.entered refl (λ mine. refl) written

  answered : (old new : Writer) (answer : Result ℕ Fault) → Before old.seat
      → AsksForRoom call old (reply_of answer) new → After answer new.seat
  answered old new (Ok number) written accepts =
      entered_none call.key (Stood call.writer number) accepts.stands.between new.seat call.writer
      (blocks ++ call.bytes ∷ []) accepts.stands.stood refl (λ mine. refl)
      (entered call.key (Taken call.writer call.bytes number) old.seat accepts.stands.between
      call.writer blocks (call.bytes ∷ []) accepts.stands.taken refl (λ mine. refl) written)
  answered old new (Err fault.Hungup) written late =
      none_more (Hungup call.writer call.bytes) old.seat new.seat late.entered refl (λ mine. refl)
      written
  answered old new (Err fault.Worn) written worn =
      none_more (Worn call.writer call.bytes) old.seat new.seat worn.entered refl (λ mine. refl)
      written
  answered old new (Err why) written asks = absurd asks

  gave_up : (seat : Account Entry) → Before seat → HasWritten seat call.writer (blocks ++ [])
  gave_up seat written =
      subst (λ (bs : List (List ℕ)). HasWritten seat call.writer bs) (sym (append-nil blocks))
      written

  did_nothing : (old new : Writer) → new ≡ old → Before old.seat
      → HasWritten new.seat call.writer (blocks ++ [])
  did_nothing old new same written =
      subst (λ (w : Writer). HasWritten w.seat call.writer (blocks ++ [])) (sym same)
      (gave_up old.seat written)

  asked : (rendez : RendezId) (old : Writer) (answer : Result ℕ Fault) (new : Writer)
      → Waited (writing call) rendez old answer new → Before old.seat → After answer new.seat
  asked rendez old answer new waited written =
      waited_ends (AsksForRoom call) rendez Before After goes_on answered
      (λ seat why written. gave_up seat written) old answer new written waited

-- the account of a new write end knows of no accepted write
pub new_ends_have_written_nothing : NewEndsHaveWrittenNothing
new_ends_have_written_nothing writer =
    record { own = itself (writer + 1); are = (λ _. refl, tt) }
  where
    itself : (number : ℕ) → IsTrue (has_number (new_account number).shares number)
    itself number = grind (arith, nat_tests)

-- a write's bytes come after what was written exactly where it is answered a number
pub writes_add_what_was_accepted : WritesAddWhatWasAccepted
writes_add_what_was_accepted call old (Ok number) new wrote blocks written =
    asked call blocks (writer_rendez call.row call.writer) old (Ok number) new wrote written
writes_add_what_was_accepted call old (Err fault.TooBig) new wrote blocks written =
    did_nothing call blocks old new wrote written
writes_add_what_was_accepted call old (Err fault.NoRendez) new wrote blocks written =
    did_nothing call blocks old new wrote written
writes_add_what_was_accepted call old (Err fault.Memory) new wrote blocks written =
    did_nothing call blocks old new wrote written
writes_add_what_was_accepted call old (Err why) new wrote blocks written =
    asked call blocks (writer_rendez call.row call.writer) old (Err why) new wrote written

-- after a hangup by a writer it has written what it had written before
pub hangups_write_nothing : HangupsWriteNothing
hangups_write_nothing key writer old new enters blocks written =
    entered_none key (Hung (writer + 1)) old new writer blocks enters refl (λ mine. refl) written

-- who hung up has seen a hangup
pub sees_hang : (key : Key) (seat : ℕ) (old new : Account Entry) → Enters key (Hung seat) old new
    → HasHang new.seen
sees_hang key seat old new enters =
    subst (λ (a : Account Entry). HasHang a.seen) (sym enters.adds.new_is) tt
