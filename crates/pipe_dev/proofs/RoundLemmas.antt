-- Which numbers a sleep between two tries may have, and who knew of a hangup.
use Rattle.std.proofs.Common.{◌≡◌, ◌≢◌, ℕ, ◌<◌, true, List, [], ◌∷◌, length, refl, sym, subst}
use Rattle.std.proofs.Common.{arith}
use Rattle.sync_base.specs.declared.limits.TheConstants.{TOP_LEVEL}
use Rattle.sync_base.specs.Pipe.{begun_number}
use Rattle.histories.specs.declared.account.Account.{Account}
use Rattle.histories.specs.History.{IsLegal}
use Rattle.block_queue.specs.declared.entry.Entry.{Entry}
use Rattle.block_queue.specs.declared.entry.Entry.TheVariants as entry
use Rattle.block_queue.specs.declared.entry.Entry.TheVariants.{Full, Hungup}
use Rattle.block_queue.specs.declared.entry.Entry.TheVariants.{NotYet, Hung}
use Rattle.block_queue.specs.declared.view.Key.{Key}
use Rattle.block_queue.specs.History.{opening_state, IsRight}
use Rattle.block_queue.specs.Meaning.{Enters, KnowsQueue, queue_meaning, queue_after}
use Rattle.block_queue.specs.Places.{IsQueueState}
use Rattle.block_queue.proofs.RuleMoves.{history_fits}
use Rattle.block_queue.proofs.StateLemmas.{begun_is}
use Rattle.pipe_dev.specs.WriteCalls.{HasHang}

-- the entry is right after what was seen before it
pub entered_right : (key : Key) (entry : Entry) (old new : Account Entry)
    → (enters : Enters key entry old new)
    → IsRight key.first (queue_after key enters.adds.past) entry
entered_right key entry old new enters =
    (subst (λ (account : Account Entry). KnowsQueue key account) enters.adds.new_is
    enters.knows).history.legal.0

-- what was seen before a new entry is a legal history
pub entered_legal : (key : Key) (entry : Entry) (old new : Account Entry)
    → (enters : Enters key entry old new)
    → IsLegal (queue_meaning key.first) (opening_state key.limit) enters.adds.past
entered_legal key entry old new enters =
    (subst (λ (account : Account Entry). KnowsQueue key account) enters.adds.new_is
    enters.knows).history.legal.1

-- the number of the last write that was begun is below the level of a hangup
begun_low : (key : Key) (history : List Entry) → key.first ≡ 0
    → IsLegal (queue_meaning key.first) (opening_state key.limit) history
    → begun_number key.first (queue_after key history).pipe < TOP_LEVEL
begun_low key history first legal =
    let fits : IsQueueState key.limit key.first (queue_after key history)
    = history_fits key history (omega (arith, first)) legal in
    let begun = begun_is (queue_after key history).pipe fits.whole in
    let within = fits.within in
    let given = fits.given in
    omega (arith, begun, within, given)

-- the number that a reader is told where there is no write yet is below the level of a hangup
pub not_yet_low : (key : Key) (number : ℕ) (old new : Account Entry) → key.first ≡ 0
    → Enters key (entry.NotYet number) old new → number < TOP_LEVEL
not_yet_low key number old new first enters =
    subst (λ n. n < TOP_LEVEL)
    (sym (entered_right key (entry.NotYet number) old new enters).may.number_is)
    (begun_low key enters.adds.past first (entered_legal key (entry.NotYet number) old new enters))

-- the number that a writer is told where the queue is full is below the level of a hangup
pub full_low : (key : Key) (writer : ℕ) (block : List ℕ) (number : ℕ) (old new : Account Entry)
    → key.first ≡ 0 → Enters key (entry.Full writer block number) old new → number < TOP_LEVEL
full_low key writer block number old new first enters =
    subst (λ n. n < TOP_LEVEL)
    (sym (entered_right key (entry.Full writer block number) old new enters).may.number_is)
    (begun_low key enters.adds.past first
    (entered_legal key (entry.Full writer block number) old new enters))

-- a direction that is hung up was hung up by someone
has_hang : (key : Key) (history : List Entry) → (queue_after key history).pipe.hung ≡ true
    → HasHang history
has_hang key [] hung = cc
has_hang key (Hung seat ∷ past) hung = tt
has_hang key (entry ∷ past) hung = has_hang key past hung

-- a writer that is answered Hungup has seen who hung the direction up
pub hungup_knew : (key : Key) (writer : ℕ) (block : List ℕ) (old new : Account Entry)
    → Enters key (entry.Hungup writer block) old new → HasHang new.seen
hungup_knew key writer block old new enters =
    subst (λ (account : Account Entry). HasHang account.seen) (sym enters.adds.new_is)
    (has_hang key enters.adds.past
    (entered_right key (entry.Hungup writer block) old new enters).may)

-- a buffer with room
pub has_room : (buffer : List ℕ) → buffer ≢ [] → 0 < length buffer
has_room [] some = absurd (some refl)
has_room (byte ∷ bytes) some = omega arith
