-- What is so in each state that a legal history leaves.
use Rattle.std.proofs.Common.{◌≡◌, ℕ, ◌-◌, ◌<◌, ◌≤◌, true, List, [], ◌∷◌, ◌++◌, length, refl, sym}
use Rattle.std.proofs.Common.{subst, arith, length-append}
use Rattle.std.proofs.lemmas.Option.{slice_get_within}
use Rattle.sync_base.specs.Pipe.{PipeState, begun_of, waiting_of}
use Rattle.sync_base.specs.declared.limits.TheConstants.{LAST_WRITE}
use Rattle.block_queue.specs.History.{QueueState, IsRight, IsTaken, IsBlock, opening_state}
use Rattle.block_queue.specs.History.{after_entry}
use Rattle.histories.specs.History.{IsPast}
use Rattle.block_queue.specs.declared.view.Key.{Key}
use Rattle.block_queue.specs.Meaning.{queue_after}
use Rattle.block_queue.specs.Places.{IsQueueState}
use Rattle.block_queue.specs.declared.entry.Entry.{Entry}
use Rattle.block_queue.specs.declared.entry.Entry.TheVariants.{Taken, Stood, Full, Hungup, Worn}
use Rattle.block_queue.specs.declared.entry.Entry.TheVariants.{Block, NotYet, End, Hung}

-- where no write is read in part, the writes that are begun are those that are read
pub begun_is : (s : PipeState) → s.offset ≡ 0 → begun_of s ≡ s.read_whole
begun_is s whole = rw whole refl

-- what is so in each state of a queue is so in that of a new one
pub opening_fits : (limit first : ℕ) → first ≤ LAST_WRITE →
    IsQueueState limit first (opening_state limit)
opening_fits limit first low = record {
  limit_is = refl;
  whole = refl;
  within = omega arith;
  room =
      omega arith;
  given = omega arith;
}

-- each entry keeps it
pub entry_fits : (limit first : ℕ) (s : QueueState) (entry : Entry) → IsQueueState limit first s →
    IsRight first s entry → IsQueueState limit first (after_entry s entry)
entry_fits limit first s (Taken writer block number) fits right =
    let taken : IsTaken first s number = right.may in
    let waiting : waiting_of s.pipe < s.pipe.limit = taken.may.1 in
    let begun = begun_is s.pipe fits.whole in
    let less : length s.pipe.accepted - s.pipe.read_whole < limit =
    rw fits.limit_is at rw begun at waiting in
    let number_is = taken.number_is in
    let given = taken.given in
    record {
      limit_is = fits.limit_is;
      whole = fits.whole;
      within = omega (
        arith,
        length-append s.pipe.accepted
            (record { writer = writer; bytes = block } ∷ []),
        fits.within,
      );
      room = omega (
        arith,
        length-append s.pipe.accepted
            (record { writer = writer; bytes = block } ∷ []),
        fits.within,
      );
      given = omega (
        arith,
        length-append s.pipe.accepted (record { writer = writer; bytes = block } ∷ []),
      );
    }
entry_fits limit first s (Stood writer number) fits right = record {
  limit_is = fits.limit_is;
  whole = fits.whole;
  within = fits.within;
  room = fits.room;
  given = fits.given;
}
entry_fits limit first s (Full writer block number) fits right = fits
entry_fits limit first s (Hungup writer block) fits right = fits
entry_fits limit first s (Worn writer block) fits right = fits
entry_fits limit first s (Block writer block number) fits right =
    let block_is : IsBlock first s (record { writer = writer; bytes = block }) number = right.may in
    let within : s.pipe.read_whole < length s.pipe.accepted =
    slice_get_within s.pipe.accepted s.pipe.read_whole
    (record { writer = writer; bytes = block }) block_is.next in
    let room = fits.room in
    record {
      limit_is = fits.limit_is;
      whole = refl;
      within = omega arith;
      room = omega arith;
      given = fits.given;
    }
entry_fits limit first s (NotYet number) fits right = fits
entry_fits limit first s End fits right = fits
entry_fits limit first s (Hung seat) fits right = record {
  limit_is = fits.limit_is;
  whole =
      fits.whole;
  within = fits.within;
  room = fits.room;
  given = fits.given;
}

-- the mark is never taken back
stays_hung : (s : QueueState) (entry : Entry) → s.pipe.hung ≡ true →
    (after_entry s entry).pipe.hung ≡ true
stays_hung s (Taken writer block number) hung = hung
stays_hung s (Stood writer number) hung = hung
stays_hung s (Full writer block number) hung = hung
stays_hung s (Hungup writer block) hung = hung
stays_hung s (Worn writer block) hung = hung
stays_hung s (Block writer block number) hung = hung
stays_hung s (NotYet number) hung = hung
stays_hung s End hung = hung
stays_hung s (Hung seat) hung = refl

-- so what was hung up in a past is hung up still
pub hung_since : (key : Key) (past history : List Entry) → IsPast past history →
    (queue_after key past).pipe.hung ≡ true → (queue_after key history).pipe.hung ≡ true
hung_since key past history is hung = subst (λ (h : List Entry). (queue_after key h).pipe.hung ≡
    true) (sym is.new_is) (after is.since)
  where
    after : (since : List Entry) → (queue_after key (since ++ past)).pipe.hung ≡ true
    after [] = hung
    after (entry ∷ since) = stays_hung (queue_after key (since ++ past)) entry (after since)
