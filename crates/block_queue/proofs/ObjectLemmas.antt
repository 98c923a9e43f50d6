-- The sequential queue is a queue: what it keeps shows a direction, and each call is right there.
use Rattle.std.proofs.Common.{◌≡◌, ◌≢◌, inl, ℕ, zero, suc, ◌+◌, ◌-◌, ◌<◌, ◌≤◌}
use Rattle.std.proofs.Common.{Bool, true, false, eqb, List, [], ◌∷◌, ◌++◌, length, drop}
use Rattle.std.proofs.Common.{refl, sym, ap, subst, ◌∙◌, arith, Option, Some, None}
use Rattle.std.specs.Prelude.{if◌then◌else◌, slice_get}
use Rattle.std.proofs.lemmas.Bool.Decides.{nat_tests}
use Rattle.std.proofs.lemmas.List.{length-append, length-drop, drop-append-le}
use Rattle.std.proofs.lemmas.Option.{slice_get_past, slice_get_within}
use native.Mathlib.Decide.{ℕ_discrete}
use mathlib.Core.Logic.{dite}
use Rattle.histories.specs.History.{state_after}
use Rattle.histories.proofs.HistoryLemmas.{state_after-append, legal_append}
use Rattle.kernel_lock.specs.Definition.{meaning_of}
use Rattle.sync_base.specs.Pipe.{begun_of}
use Rattle.sync_base.specs.Write.{Write}
use Rattle.sync_base.specs.declared.limits.TheConstants.{LAST_WRITE}
use Rattle.block_queue.specs.declared.queue_object.QueueCall.TheVariants.{Put, Take, Hang}
use Rattle.block_queue.specs.declared.queue_object.QueueReply.{QueueReply}
use Rattle.block_queue.specs.declared.queue_object.QueueReply.TheVariants as reply
use Rattle.block_queue.specs.declared.entry.Entry.{Entry}
use Rattle.block_queue.specs.History.{QueueState, opening_state, with_put}
use Rattle.block_queue.specs.Meaning.{queue_meaning}
use Rattle.block_queue.specs.QueueObject.{Contents, new_kept, last_number, queue_definition}
use Rattle.block_queue.specs.QueueObject.{take_reply, reply_to, after_reply}
use Rattle.block_queue.specs.Laws.{Shows, IsCall, entries_of, queue_history}
use Rattle.block_queue.specs.Laws.{EachCallIsRight, ObjectsAreQueues}
use Rattle.block_queue.proofs.StateLemmas.{begun_is}
use Rattle.block_queue.proofs.WordMoves.{put_here, put_else}

-- what holds of both sides of a test holds of what it picks
either_side : {X : Type 0} (P : X → Type 0) (b : Bool) (x y : X) → (b ≡ true → P x) →
    (b ≡ false → P y) → P (if b then x else y)
either_side P true x y if_true if_false = if_true refl
either_side P false x y if_true if_false = if_false refl

-- the first element of what is left
drop_first : {A : Type 0} (xs : List A) (n : ℕ) (x : A) (rest : List A) →
    drop n xs ≡ x ∷ rest → (slice_get xs n ≡ Some x) × (rest ≡ drop (suc n) xs)
drop_first [] zero x rest is = cc
drop_first [] (suc n) x rest is = cc
drop_first (y ∷ ys) zero x rest is =
    let at : Some y ≡ Some x = cc in
    let more : rest ≡ ys = cc in
    (at, more)
drop_first (y ∷ ys) (suc n) x rest is = drop_first ys n x rest is

module _ (first : ℕ) (kept : Contents) (s : QueueState) (by : ℕ) (shows : Shows first kept s) where
  -- how many writes wait, by what is kept
  count : length kept.waiting + s.pipe.read_whole ≡ length s.pipe.accepted
  count =
      let waiting = ap (λ (ws : List Write). length ws) shows.waiting in
      let left = length-drop s.pipe.read_whole s.pipe.accepted in
      let within = shows.within in
      omega arith

  last_is : last_number kept ≡ first + length s.pipe.accepted
  last_is = let out = shows.taken_out in let all = count in omega arith

  begun : begun_of s.pipe ≡ s.pipe.read_whole
  begun = begun_is s.pipe shows.whole

  waiting_is : length s.pipe.accepted - begun_of s.pipe ≡ length kept.waiting
  waiting_is = let b = begun in let all = count in omega arith

  module _ (writer : ℕ) (block : List ℕ) where
    put_hungup : kept.hung ≡ true → IsCall first kept s by (Put writer block) (reply.Hungup block)
    put_hungup hung =
        record {
          legal = (record { may = sym shows.hung ∙ hung; in_turn = shows.puts (writer + 1) }, tt);
          is_first = tt;
          after = shows;
        }

    put_worn : kept.hung ≡ false → last_number kept ≡ LAST_WRITE →
        IsCall first kept s by (Put writer block) (reply.Worn block)
    put_worn open_still last =
        let unhung : s.pipe.hung ≡ false = sym shows.hung ∙ open_still in
        let all = last_is in
        record {
          legal = (
            record {
              may = record { not_hung = unhung; last = omega arith };
              in_turn = shows.puts (writer + 1);
            },
            tt,
          );
          is_first = unhung;
          after = shows;
        }

    put_full : kept.hung ≡ false → last_number kept ≢ LAST_WRITE →
        length kept.waiting ≡ kept.limit →
        IsCall first kept s by (Put writer block) (reply.Full block kept.taken_out)
    put_full open_still more full =
        let unhung : s.pipe.hung ≡ false = sym shows.hung ∙ open_still in
        let all = last_is in
        let out = shows.taken_out in
        let b = begun in
        record {
          legal = (
            record {
              may = record {
                may = waiting_is ∙ full ∙ shows.limit;
                number_is = omega arith;
              };
              in_turn = shows.puts (writer + 1);
            },
            tt,
          );
          is_first = (unhung, λ worn. more (omega arith));
          after = shows;
        }

    put_taken : kept.hung ≡ false → last_number kept ≢ LAST_WRITE →
        length kept.waiting ≢ kept.limit →
        IsCall first kept s by (Put writer block) (reply.Taken (last_number kept + 1))
    put_taken open_still more some_room =
        let unhung : s.pipe.hung ≡ false = sym shows.hung ∙ open_still in
        let all = last_is in
        let limit = shows.limit in
        let waiting = waiting_is in
        let room = shows.room in
        let given = shows.given in
        let longer = length-append kept.waiting (write ∷ []) in
        let longer_too = length-append s.pipe.accepted (write ∷ []) in
        let within = shows.within in
        let less : length kept.waiting < kept.limit = below room some_room in
        let below_last : last_number kept < LAST_WRITE = below given more in
        record {
          legal = (
            record {
              may = tt;
              in_turn = put_here (writer + 1) (Some (last_number kept + 1)) s.putting;
            },
            (
              record {
                may = record {
                  may = (unhung, omega arith);
                  number_is = omega arith;
                  given = omega arith;
                };
                in_turn = shows.puts (writer + 1);
              },
              tt,
            ),
          );
          is_first = (unhung, (λ worn. more (omega arith)), (λ full. some_room (omega arith)));
          after = record {
            limit = shows.limit;
            whole = shows.whole;
            within = omega arith;
            taken_out = shows.taken_out;
            waiting = ap (λ (ws : List Write). ws ++ write ∷ []) shows.waiting
                ∙ sym (drop-append-le s.pipe.read_whole s.pipe.accepted (write ∷ []) shows.within);
            hung = shows.hung;
            puts = λ seat. dite (ℕ_discrete seat (writer + 1))
                (λ same. ap (λ (n : ℕ). putting n) same ∙ put_here (writer + 1) None taken)
                (λ other. put_else (writer + 1) seat None taken other
                ∙ put_else (writer + 1) seat (Some (last_number kept + 1)) s.putting other
                ∙ shows.puts seat);
            room = omega arith;
            given = omega arith;
          };
        }
      where
        write : Write
        write = record { writer = writer; bytes = block }

        taken : ℕ → Option ℕ
        taken = with_put (writer + 1) (Some (last_number kept + 1)) s.putting

        putting : ℕ → Option ℕ
        putting = with_put (writer + 1) None taken

        below : {m n : ℕ} → m ≤ n → m ≢ n → m < n
        below {m} {n} low other =
            dite (ℕ_discrete m n) (λ same. absurd (other same)) (λ apart. omega arith)

    put_right : IsCall first kept s by (Put writer block) (reply_to kept (Put writer block))
    put_right =
        either_side Right kept.hung (reply.Hungup block)
        (if eqb (last_number kept) LAST_WRITE then reply.Worn block else not_worn)
        put_hungup
        (λ open_still. either_side Right (eqb (last_number kept) LAST_WRITE) (reply.Worn block)
        not_worn
        (λ last. put_worn open_still (grind (arith, nat_tests)))
        (λ more.
        let apart : last_number kept ≢ LAST_WRITE = λ same. absurd (grind (arith, nat_tests)) in
        either_side Right (eqb (length kept.waiting) kept.limit)
        (reply.Full block kept.taken_out) (reply.Taken (last_number kept + 1))
        (λ full. put_full open_still apart (grind (arith, nat_tests)))
        (λ some_room. put_taken open_still apart (λ same. absurd (grind (arith, nat_tests))))))
      where
        Right : QueueReply → Type 0
        Right answer = IsCall first kept s by (Put writer block) answer

        not_worn : QueueReply
        not_worn = if eqb (length kept.waiting) kept.limit then reply.Full block kept.taken_out
            else reply.Taken (last_number kept + 1)

  -- ---- a take

  take_none : kept.waiting ≡ [] → IsCall first kept s by Take (take_reply kept [])
  take_none none =
      either_side (IsCall first kept s by Take) kept.hung reply.End (reply.NotYet kept.taken_out)
      (λ hung. record {
        legal = (record { may = (sym shows.hung ∙ hung, no_next); in_turn = shows.puts 0 }, tt);
        is_first = no_next;
        after = shows;
      })
      (λ unhung.
      let out = shows.taken_out in
      let b = begun in
      record {
        legal = (
          record {
            may = record { none = inl no_next; number_is = omega arith };
            in_turn = shows.puts 0;
          },
          tt,
        );
        is_first = (no_next, sym shows.hung ∙ unhung);
        after = shows;
      })
    where
      no_next : slice_get s.pipe.accepted s.pipe.read_whole ≡ None
      no_next =
          let empty : length kept.waiting ≡ 0 = ap (λ (ws : List Write). length ws) none in
          let all = count in
          slice_get_past s.pipe.accepted s.pipe.read_whole (omega arith)

  take_some : (write : Write) (writes : List Write) → kept.waiting ≡ write ∷ writes →
      IsCall first kept s by Take (take_reply kept (write ∷ writes))
  take_some write writes some =
      let out = shows.taken_out in
      let b = begun in
      let within = slice_get_within s.pipe.accepted s.pipe.read_whole write parts.0 in
      let one : length kept.waiting ≡ length (write ∷ writes) =
      ap (λ (ws : List Write). length ws) some in
      let less : length (drop 1 kept.waiting) ≡ length writes =
      ap (λ (ws : List Write). length (drop 1 ws)) some in
      let room = shows.room in
      let given = shows.given in
      record {
        legal = (
          record {
            may = record { next = parts.0; number_is = omega arith };
            in_turn = shows.puts 0;
          },
          tt,
        );
        is_first = tt;
        after = record {
          limit = shows.limit;
          whole = refl;
          within = omega arith;
          taken_out = omega arith;
          waiting = ap (λ (ws : List Write). drop 1 ws) some ∙ parts.1
              ∙ ap (λ (n : ℕ). drop n s.pipe.accepted) next;
          hung = shows.hung;
          puts = shows.puts;
          room = omega arith;
          given = omega arith;
        };
      }
    where
      next : suc s.pipe.read_whole ≡ s.pipe.read_whole + 1
      next = omega arith

      parts : (slice_get s.pipe.accepted s.pipe.read_whole ≡ Some write)
          × (writes ≡ drop (suc s.pipe.read_whole) s.pipe.accepted)
      parts = drop_first s.pipe.accepted s.pipe.read_whole write writes (sym shows.waiting ∙ some)

  take_right : IsCall first kept s by Take (reply_to kept Take)
  take_right = of kept.waiting refl
    where
      of : (ws : List Write) → kept.waiting ≡ ws → IsCall first kept s by Take (take_reply kept ws)
      of [] none = take_none none
      of (write ∷ writes) some = take_some write writes some

  -- ---- a hangup

  hang_right : IsCall first kept s by Hang reply.Hung
  hang_right =
      record {
        legal = (record { may = tt; in_turn = shows.puts by }, tt);
        is_first = tt;
        after = record {
          limit = shows.limit;
          whole = shows.whole;
          within = shows.within;
          taken_out = shows.taken_out;
          waiting = shows.waiting;
          hung = refl;
          puts = shows.puts;
          room = shows.room;
          given = shows.given;
        };
      }

-- each call on the sequential queue is answered as a direction answers it
pub each_call_is_right : EachCallIsRight
each_call_is_right first kept s by (Put writer block) shows =
    put_right first kept s by shows writer block
each_call_is_right first kept s by Take shows = take_right first kept s by shows
each_call_is_right first kept s by Hang shows = hang_right first kept s by shows

-- a new queue
new_shows : (limit first : ℕ) → first ≤ LAST_WRITE →
    Shows first (new_kept limit first) (opening_state limit)
new_shows limit first low =
    record {
      limit = refl;
      whole = refl;
      within = omega arith;
      taken_out = omega arith;
      waiting = refl;
      hung = refl;
      puts = λ seat. refl;
      room = omega arith;
      given = omega arith;
    }

-- each history of the object is a legal one of the queue, and what it keeps shows what is left
pub objects_are_queues : ObjectsAreQueues
objects_are_queues limit first [] low legal = (tt, new_shows limit first low)
objects_are_queues limit first (served ∷ past) low legal =
    let before = objects_are_queues limit first past low legal.1 in
    let call = subst (IsCall first kept s served.by served.request) (sym legal.0.reply)
    (each_call_is_right first kept s served.by served.request before.1) in (
      legal_append (queue_meaning first) (opening_state limit) entries (queue_history past)
          before.0 call.legal,
      subst (Shows first (state_after (meaning_of queue_definition) (new_kept limit first)
          (served ∷ past)))
          (sym (state_after-append (queue_meaning first) (opening_state limit) entries
          (queue_history past)))
          (subst (λ answer. Shows first (after_reply kept served.request answer)
          (state_after (queue_meaning first) s entries)) legal.0.reply call.after),
    )
  where
    kept : Contents
    kept = state_after (meaning_of queue_definition) (new_kept limit first) past

    s : QueueState
    s = state_after (queue_meaning first) (opening_state limit) (queue_history past)

    entries : List Entry
    entries = entries_of served.by served.request served.reply
