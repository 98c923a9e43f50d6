-- What is held of a direction whose reader came to the end: nothing.
use Rattle.std.proofs.Common.{◌≡◌, ◌⊎◌, ◌<◌, ◌≤◌, ◌++◌, ℕ, true, false, List, [], ◌∷◌, length, inl}
use Rattle.std.proofs.Common.{inr, get_or, ap, refl, sym, subst, ◌∙◌, Some, None}
use Rattle.std.specs.Prelude.{slice_get, drop}
use Rattle.std.proofs.lemmas.List.{drop_all}
use Rattle.std.proofs.lemmas.Option.{slice_get_cases}
use Rattle.histories.specs.History.{IsLegal, state_after}
use Rattle.sync_base.specs.Pipe.{PipeState, next_write}
use Rattle.sync_base.specs.Write.{Write}
use Rattle.block_queue.specs.declared.entry.Entry.{Entry}
use Rattle.block_queue.specs.declared.entry.Entry.TheVariants.{Taken, Stood, Full, Hungup, Worn}
use Rattle.block_queue.specs.declared.entry.Entry.TheVariants.{Block, NotYet, End, Hung}
use Rattle.block_queue.specs.History.{QueueState, IsRight, after_entry, opening_state}
use Rattle.block_queue.specs.Meaning.{queue_meaning, queue_after}
use Rattle.block_queue.specs.Seats.{key_of}
use Rattle.block_queue.specs.declared.view.Key.{Key}
use Rattle.pipe_dev.specs.declared.closing.Held.{Held}
use Rattle.pipe_dev.specs.Ends.{ReadSide, WriteSide}
use Rattle.pipe_dev.specs.Finishing.{FinishesEnds, rest_bytes}
use Rattle.pipe_dev.specs.Parts.{Part}
use Rattle.example_headline.specs.Crew.{HasSeenEnd}
use Rattle.example_headline.specs.Headline.{HoldsNothing}

-- nothing is left of it, and nothing more comes
record IsOver (s : PipeState) : Type 0 where
  hung : s.hung ≡ true
  none : next_write s ≡ None

-- where no write is next, none is left
none_is_left : (writes : List Write) (at : ℕ) → slice_get writes at ≡ None → drop at writes ≡ []
none_is_left writes at none = by (slice_get_cases writes at).1
  where
    by : ((x : Write) × (at < length writes) × (slice_get writes at ≡ Some x)
        × (get_or writes at x ≡ x))
        ⊎ ((length writes ≤ at) × (slice_get writes at ≡ None))
        → drop at writes ≡ []
    by (inl (x, low, some, is)) = cc
    by (inr (past, is)) = drop_all at writes past

-- each entry that may come leaves it so
stays_over : (first : ℕ) (s : QueueState) (entry : Entry) → IsOver s.pipe → IsRight first s entry
    → IsOver (after_entry s entry).pipe
stays_over first s (Taken writer block number) over right =
    let free : s.pipe.hung ≡ false = right.may.may.0 in let hung = over.hung in cc
stays_over first s (Stood writer number) over right = record { hung = over.hung; none = over.none }
stays_over first s (Full writer block number) over right = over
stays_over first s (Hungup writer block) over right = over
stays_over first s (Worn writer block) over right = over
stays_over first s (Block writer block number) over right =
    let next = right.may.next in let none = over.none in cc
stays_over first s (NotYet number) over right = over
stays_over first s End over right = over
stays_over first s (Hung seat) over right = record { hung = refl; none = over.none }

-- so a history that goes on after an End
is_over : (first : ℕ) (opening : QueueState) (since past : List Entry)
    → IsLegal (queue_meaning first) opening (since ++ End ∷ past)
    → IsOver (state_after (queue_meaning first) opening (since ++ End ∷ past)).pipe
is_over first opening [] past legal =
    record { hung = legal.0.may.0; none = legal.0.may.1 }
is_over first opening (entry ∷ since) past legal =
    stays_over first (state_after (queue_meaning first) opening (since ++ End ∷ past)) entry
    (is_over first opening since past legal.1) legal.0

-- so the history in which a finish finds it
module _ (read : ReadSide) (parts : List Part) (writes : List WriteSide) (held : Held)
    (seen : HasSeenEnd read) (ends : FinishesEnds read parts writes held) where
  abbrev key : Key
  key = key_of read.queue

  abbrev history : List Entry
  history = ends.finishes.history

  left_over : IsOver (queue_after key history).pipe
  left_over =
      let since = ends.finishes.seen.since in
      let is : history ≡ since ++ End ∷ seen.past
      = ends.finishes.seen.new_is
      ∙ ap (λ (entries : List Entry). since ++ entries) seen.newest in
      subst (λ (entries : List Entry). IsOver (queue_after key entries).pipe) (sym is)
      (is_over key.first (opening_state key.limit) since seen.past
      (subst (IsLegal (queue_meaning key.first) (opening_state key.limit)) is
      ends.finishes.legal.legal))

  -- nothing is held
  pub nothing_is_held : HoldsNothing held
  nothing_is_held =
      record {
        rest = ends.finishes.rest ∙ ap rest_bytes seen.rest;
        writes = ends.finishes.writes
            ∙ none_is_left (queue_after key history).pipe.accepted
            (queue_after key history).pipe.read_whole left_over.none;
      }

  -- and the direction is hung up
  pub is_held_hung : held.hung ≡ true
  is_held_hung = ends.finishes.hung ∙ left_over.hung
