-- The steps of a take and of a hangup keep the rule.
use Rattle.std.proofs.Common.{◌≡◌, ◌≢◌, ℕ, ◌+◌, ◌<◌, ◌^◌, Bool, true, false, List, [], ◌∷◌, length}
use Rattle.std.proofs.Common.{get_or, set, refl, sym, ap, subst, ◌∙◌, arith, Option, Some, None}
use Rattle.std.specs.Prelude.{slice_get, bit_or}
use Rattle.std.specs.List.{AllByRecursion}
use Rattle.std.proofs.lemmas.Option.{slice_get_within, slice_get_past, slice_get-get_or}
use native.Mathlib.Decide.{ℕ_discrete}
use mathlib.Core.Logic.{dite}
use mathlib.Core.Option.{none, some}
use lib.ListN.{get_elem?}
use Rattle.atomic_table.specs.Table as table
use Rattle.histories.specs.declared.account.Share.{Share}
use Rattle.histories.specs.Account.{has_number, share_after}
use Rattle.histories.proofs.AccountLemmas.{number_has}
use Rattle.histories.proofs.ListLemmas.{all_weaker, all_map}
use Rattle.sync_base.specs.Pipe.{begun_of}
use Rattle.sync_base.specs.Write.{Write}
use Rattle.block_queue.specs.declared.entry.Entry.{Entry}
use Rattle.block_queue.specs.declared.entry.Entry.TheVariants as entry
use Rattle.block_queue.specs.declared.places.TheConstants.{MARK}
use Rattle.block_queue.specs.declared.view.Key.{Key}
use Rattle.block_queue.specs.declared.view.Stage.{Stage}
use Rattle.block_queue.specs.declared.view.Stage.TheVariants.{Free, Looking, Moving}
use Rattle.block_queue.specs.declared.view.View.{View}
use Rattle.block_queue.specs.History.{QueueState, IsRight, seat_of, after_entry}
use Rattle.block_queue.specs.Places.{AreWords, IsQueueState, place_of, sequence_of, stored_word}
use Rattle.block_queue.specs.Rule.{IsOneQueue, IsLooking, IsMoving, IsReader, FitsStage, put_at}
use Rattle.block_queue.specs.Rule.{is_moving}
use Rattle.block_queue.specs.Steps.{Seated, HasTakeReady, HasTakeTail, HasTakeSequence}
use Rattle.block_queue.specs.Steps.{HasFreed, HasHung}
use Rattle.block_queue.specs.Steps.{staged_view, saw_hangup}
use Rattle.block_queue.proofs.StateLemmas.{begun_is, hung_since}
use Rattle.block_queue.proofs.WordMoves.{no_block, has_block, reader_takes, take_frees, hang_marks}
use Rattle.block_queue.proofs.ViewMoves.{block_grows, hung_grows}
use Rattle.block_queue.proofs.RuleMoves.{QueueTable, state_now, state_fits, own_ledger, own_view}
use Rattle.block_queue.proofs.RuleMoves.{owned_number, rule_stays, rule_enters, entry_told}
use Rattle.block_queue.proofs.StepLemmas.{entered_view, loaded, no_puts, no_put_by, goes_on}
use Rattle.block_queue.proofs.StepLemmas.{refused_view, refusal_keeps, refusal_tells}

module _ (key : Key) (slots id : ℕ) (me : Seated) where
  module _ (own : has_number me.0.account.shares 0 ≡ true) (t : QueueTable) (rule :
      IsOneQueue key t) (at : get_elem? t.views id ≡ some me.0) where
    abbrev s : QueueState
    s = state_now key t rule id me.0 at

    fits : IsQueueState key.limit key.first s
    fits = state_fits key t rule id me.0 at

    reader : rule.ledger.owner 0 ≡ id
    reader = (owned_number key t rule id me.0 at 0 own).owner_is

    knows : IsReader s rule.out me.0
    knows = (own_view key t rule id me.0 at).reader_knows reader

    small : me.0.taken < 2 ^ 62
    small = let given = fits.given in let within = fits.within in let taken =
        knows.taken in omega arith

    -- ---- the next write's sequence word

    abbrev index : ℕ
    index = sequence_of (place_of key.limit me.0.taken)

    abbrev next_found : ℕ
    next_found = get_or t.words index 0

    -- the word is that of the next write
    next_word : next_found ≡ get_or t.words (sequence_of (place_of key.limit s.pipe.read_whole)) 0
    next_word = ap (λ (n : ℕ). get_or t.words (sequence_of (place_of key.limit n)) 0) knows.taken

    next_stored : stored_word key.limit me.0.taken ≡ stored_word key.limit s.pipe.read_whole
    next_stored = ap (stored_word key.limit) knows.taken

    abbrev moving_view : Write → View
    moving_view write = staged_view (Moving write.writer write.bytes) me.0

    -- where the next write stands a load of it by the reader, between two entries, takes its slot
    module _ (idle : is_moving me.0.stage ≡ false) (no_put : (number : ℕ) →
        put_at key.first me.0.stage number ≡ None) (same : next_found ≡
        stored_word key.limit me.0.taken) where
      abbrev Moved : Type 0
      Moved = (write : Write) × table.Valid t.homes me.1
          (table.takes (place_of key.limit me.0.taken) (Some write)) ×
          IsOneQueue key (table.stepped t index next_found id me.1 (moving_view write)
          (table.takes (place_of key.limit me.0.taken) (Some write)))

      moves : Moved
      moves =
          let next = has_block key.limit key.first s rule.out t.words t.homes rule.some_room fits
          rule.words (sym next_word ∙ same ∙ next_stored) in
          let write : Write = next.0 in
          let home : get_elem? t.homes (place_of key.limit me.0.taken) ≡ some (some (Some write)) =
          ap (λ (n : ℕ). get_elem? t.homes (place_of key.limit n)) knows.taken ∙
          next.3 (knows.out_is ∙ idle) in
          let some_write : s.pipe.read_whole < length s.pipe.accepted =
          slice_get_within s.pipe.accepted s.pipe.read_whole write next.1 in (
            next.0,
            home,
            loaded key t.words index (set t.homes (place_of key.limit me.0.taken) none)
                (set t.views id (moving_view next.0))
                (rule_stays key t rule id me.0 at (moving_view next.0) true t.words
                (set t.homes (place_of key.limit me.0.taken) none) 0 own refl refl
                (λ other. absurd (other refl))
                (subst (λ (n : ℕ). AreWords key.limit key.first s true t.words
                (set t.homes (place_of key.limit n) none)) (sym knows.taken)
                (reader_takes key.limit key.first s rule.out t.words t.homes rule.some_room fits
                rule.words some_write))
                record {
                  puts = no_puts key t rule id me.0 at idle no_put;
                  reader_knows = λ reader. record { taken = knows.taken; out_is = refl };
                  stage = record { reader_is = reader; write_is = next.1; stored = next.2 };
                }),
          )

    -- ---- the free reader: the next write's word, and the tail

    module _ (stage : me.0.stage ≡ Free) where
      abbrev word : ℕ
      word = get_or t.words 0 0

      idle : is_moving me.0.stage ≡ false
      idle = ap is_moving stage

      no_put : (number : ℕ) → put_at key.first me.0.stage number ≡ None
      no_put number = ap (λ (z : Stage). put_at key.first z number) stage

      abbrev Ready : Type 0
      Ready = (w : View) × (a : table.Act (Option Write)) × table.Valid t.homes me.1 a ×
          IsOneQueue key (table.stepped t index next_found id me.1 w a) ×
          HasTakeReady key me next_found (w, table.carried_after me.1 a)

      ready_moves : next_found ≡ stored_word key.limit me.0.taken → Ready
      ready_moves same =
          let moved = moves idle no_put same in (
            moving_view moved.0,
            table.takes (place_of key.limit me.0.taken) (Some moved.0),
            moved.1,
            moved.2,
            record {
              moving = λ same. (moved.0, refl);
              passed = λ other. absurd (other same);
              small = small;
            },
          )

      ready_passes : next_found ≢ stored_word key.limit me.0.taken → Ready
      ready_passes other = (
        me.0,
        table.keeps,
        tt,
        loaded key t.words index t.homes (set t.views id me.0)
            (subst (λ (z : Stage). IsOneQueue key record {
              words = t.words;
              homes = t.homes;
              views = set t.views id (staged_view z me.0);
            }) (sym stage) (goes_on key t rule id me.0 at idle no_put Free refl (λ number. refl) 0
            own tt)),
        record { moving = λ same. absurd (other same); passed = λ other. refl; small = small },
      )

      ready_result : Ready
      ready_result = dite (ℕ_discrete next_found (stored_word key.limit me.0.taken)) ready_moves
          ready_passes

      abbrev Result : Type 0
      Result = (w : View) × (a : table.Act (Option Write)) × table.Valid t.homes me.1 a ×
          IsOneQueue key (table.stepped t 0 word id me.1 w a) ×
          HasTakeTail key me word (w, table.carried_after me.1 a)

      tail_ended : s.pipe.hung ≡ true → length s.pipe.accepted ≡ s.pipe.read_whole → Result
      tail_ended hung all =
          let right : IsRight key.first s entry.End = record {
            may =
                (hung, slice_get_past s.pipe.accepted s.pipe.read_whole (omega arith));
            in_turn =
                no_put_by key t rule id me.0 at idle no_put 0 own;
          } in
          let taken = knows.taken in
          let tail : word ≡ length s.pipe.accepted + MARK = rule.words.tail ∙ rw hung refl in (
            refused_view key t rule id me.0 at idle no_put entry.End own right refl,
            table.keeps,
            tt,
            loaded key t.words 0 t.homes (set t.views id (refused_view key t rule id me.0 at idle
                no_put entry.End own right refl)) (refusal_keeps key t rule id me.0 at idle no_put
                entry.End own right refl),
            record {
              slots = refl;
              ended = λ same. refusal_tells key t rule id me.0 at idle no_put entry.End own right
                  refl;
              left = true;
              looking = λ other. absurd (other (omega arith));
              fresh = λ saw. refl;
              small = small;
            },
          )

      -- the take goes on, and this is what it knows of the blocks left
      tail_looking : (left : Bool) → (left ≡ true → s.pipe.read_whole < length s.pipe.accepted) →
          word ≢ me.0.taken + MARK → (saw_hangup key me.0.account ≡ true → left ≡ true) → Result
      tail_looking left some_left other fresh = (
        staged_view (Looking left) me.0,
        table.keeps,
        tt,
        loaded key t.words 0 t.homes (set t.views id (staged_view (Looking left) me.0))
            (goes_on key t rule id me.0 at idle no_put (Looking left) refl (λ number. refl) 0 own
            record { reader_is = reader; left = some_left }),
        record {
          slots = refl;
          ended = λ same. absurd (other same);
          left = left;
          looking = λ other. refl;
          fresh = fresh;
          small = small;
        },
      )

      tail_result : Result
      tail_result = of s.pipe.hung refl
        where
          of : (b : Bool) → s.pipe.hung ≡ b → Result
          of true hung =
              let taken = knows.taken in
              let within = fits.within in
              let tail : word ≡ length s.pipe.accepted + MARK = rule.words.tail ∙ rw hung refl in
              dite (ℕ_discrete (length s.pipe.accepted) s.pipe.read_whole)
              (λ all. tail_ended hung all)
              (λ more. tail_looking true (λ yes. omega arith) (λ same. more (omega arith))
              (λ saw. refl))
          of false unhung =
              let given = fits.given in
              let tail : word ≡ length s.pipe.accepted = rule.words.tail ∙ rw unhung refl in
              tail_looking false (λ no. let never : false ≡ true =
              no in cc) (λ same. absurd (omega arith))
              (λ saw. let hung = hung_since key me.0.account.seen rule.ledger.history
              (own_ledger key t rule id me.0 at).seen saw in let no : true ≡ false = sym hung ∙
              unhung in cc)

    -- ---- the next write's word, after the tail

    module _ (found : Bool) (stage : me.0.stage ≡ Looking found) where
      idle₂ : is_moving me.0.stage ≡ false
      idle₂ = ap is_moving stage

      no_put₂ : (number : ℕ) → put_at key.first me.0.stage number ≡ None
      no_put₂ number = ap (λ (z : Stage). put_at key.first z number) stage

      looking : IsLooking s (rule.ledger.owner 0) id found
      looking = subst (λ (z : Stage). FitsStage key.limit key.first s me.0.account.shares
          (rule.ledger.owner 0) id z) stage (own_view key t rule id me.0 at).stage

      abbrev Result₂ : Type 0
      Result₂ = (w : View) × (a : table.Act (Option Write)) × table.Valid t.homes me.1 a ×
          IsOneQueue key (table.stepped t index next_found id me.1 w a) ×
          HasTakeSequence key me next_found (w, table.carried_after me.1 a)

      sequence_waits : next_found ≢ stored_word key.limit me.0.taken → Result₂
      sequence_waits other =
          let not_stored : get_or t.words (sequence_of (place_of key.limit s.pipe.read_whole)) 0 ≢
          stored_word key.limit s.pipe.read_whole =
          λ same. other (next_word ∙ same ∙ sym next_stored) in
          let number : key.first + me.0.taken ≡ key.first + begun_of s.pipe =
          ap (λ (n : ℕ). key.first + n) (knows.taken ∙ sym (begun_is s.pipe fits.whole)) in
          let right : IsRight key.first s (entry.NotYet (key.first + me.0.taken)) =
          record {
            may = record {
              none = no_block key.limit key.first s rule.out t.words t.homes
                  rule.some_room fits rule.words not_stored;
              number_is = number;
            };
            in_turn =
                no_put_by key t rule id me.0 at idle₂ no_put₂ 0 own;
          } in (
            refused_view key t rule id me.0 at idle₂ no_put₂ (entry.NotYet (key.first + me.0.taken))
                own right refl,
            table.keeps,
            tt,
            loaded key t.words index t.homes (set t.views id
                (refused_view key t rule id me.0 at idle₂ no_put₂
                (entry.NotYet (key.first + me.0.taken)) own right refl))
                (refusal_keeps key t rule id me.0 at idle₂ no_put₂
                (entry.NotYet (key.first + me.0.taken)) own right refl),
            record {
              not_yet = λ other. refusal_tells key t rule id me.0 at idle₂ no_put₂
                  (entry.NotYet (key.first + me.0.taken)) own right refl;
              same_slots = λ other. refl;
              left = λ other sure none_next.
                  let same : Looking found ≡ Looking true = sym stage ∙ sure in
                  let yes : found ≡ true = cc in
                  let there : slice_get s.pipe.accepted s.pipe.read_whole ≡
                  Some (get_or s.pipe.accepted s.pipe.read_whole
                  (record { writer = 0; bytes = [] })) = slice_get-get_or s.pipe.accepted
                  s.pipe.read_whole (record { writer = 0; bytes = [] }) (looking.left yes) in
                  let no : Some (get_or s.pipe.accepted s.pipe.read_whole
                  (record { writer = 0; bytes = [] })) ≡ None = sym there ∙ none_next in
                  cc;
              moving = λ same. absurd (other same);
            },
          )

      sequence_moves : next_found ≡ stored_word key.limit me.0.taken → Result₂
      sequence_moves same =
          let moved = moves idle₂ no_put₂ same in (
            moving_view moved.0,
            table.takes (place_of key.limit me.0.taken) (Some moved.0),
            moved.1,
            moved.2,
            record {
              not_yet = λ other. absurd (other same);
              same_slots = λ other. absurd (other same);
              left = λ other. absurd (other same);
              moving = λ same. (moved.0, refl);
            },
          )

      sequence_result : Result₂
      sequence_result = dite (ℕ_discrete next_found (stored_word key.limit me.0.taken))
          sequence_moves sequence_waits

    -- ---- the place is free again

    module _ (write : Write) (stage : me.0.stage ≡ Moving write.writer write.bytes) (slots_are :
        me.1 ≡ (place_of key.limit me.0.taken, None) ∷ []) where
      moving : IsMoving key.first s (rule.ledger.owner 0) id write
      moving = subst (λ (z : Stage). FitsStage key.limit key.first s me.0.account.shares
          (rule.ledger.owner 0) id z) stage (own_view key t rule id me.0 at).stage

      none_put : AllByRecursion (λ share. s.putting share.number ≡ None) me.0.account.shares
      none_put = subst (λ (z : Stage). AllByRecursion (λ share. s.putting share.number ≡
          put_at key.first z share.number) me.0.account.shares) stage
          (own_view key t rule id me.0 at).puts

      abbrev freed_view : View
      freed_view = entered_view (entry.Block write.writer write.bytes (key.first + me.0.taken + 1))
          rule.ledger.history Free (me.0.taken + 1) me.0

      freed_right : IsRight key.first s (entry.Block write.writer write.bytes
          (key.first + me.0.taken + 1))
      freed_right =
          record {
            may = record {
              next = moving.write_is;
              number_is = ap (λ (n : ℕ). key.first + n +
                  1) (knows.taken ∙ sym (begun_is s.pipe fits.whole));
            };
            in_turn = number_has (λ n. s.putting n ≡ None) 0 me.0.account.shares none_put own;
          }

      free_result : (w : View) × (a : table.Act (Option Write)) × table.Valid t.homes me.1 a
          × IsOneQueue key (table.stepped t (sequence_of (place_of key.limit me.0.taken))
          (stored_word key.limit me.0.taken + 1) id me.1 w a)
          × HasFreed key write me (w, table.carried_after me.1 a)
      free_result = (
        freed_view,
        table.gives,
        tt,
        subst (λ (carried : List (ℕ × Option Write)). IsOneQueue key record {
          words =
              set t.words (sequence_of (place_of key.limit me.0.taken))
              (stored_word key.limit me.0.taken + 1);
          homes = table.put_back t.homes carried;
          views =
              set t.views id freed_view;
        })
            (sym slots_are)
            (rule_enters key t rule id me.0 at (entry.Block write.writer write.bytes
            (key.first + me.0.taken + 1)) freed_view false
            (set t.words (sequence_of (place_of key.limit me.0.taken))
            (stored_word key.limit me.0.taken + 1))
            (set t.homes (place_of key.limit me.0.taken) (some None))
            own freed_right refl refl (block_grows key.first s write (key.first + me.0.taken + 1)
            moving.write_is moving.stored) (λ other. absurd (other refl))
            (subst (λ (n : ℕ). AreWords key.limit key.first
            (after_entry s (entry.Block write.writer write.bytes (key.first + me.0.taken + 1)))
            false (set t.words (sequence_of (place_of key.limit n)) (stored_word key.limit n +
            1)) (set t.homes (place_of key.limit n) (some None))) (sym knows.taken)
            (take_frees key.limit key.first s rule.out t.words t.homes rule.some_room fits
            rule.words write.writer write.bytes (key.first + me.0.taken +
            1) (slice_get_within s.pipe.accepted s.pipe.read_whole write moving.write_is)))
            record {
              puts = all_map (λ (share : Share Entry). s.putting share.number ≡
                  None) (share_after seat_of (entry.Block write.writer write.bytes
                  (key.first + me.0.taken + 1))) me.0.account.shares
                  (all_weaker (λ (share : Share Entry). s.putting share.number ≡
                  None) (λ share. s.putting (share_after seat_of
                  (entry.Block write.writer write.bytes (key.first + me.0.taken + 1))
                  share).number ≡ None) (λ share put. put) me.0.account.shares none_put);
              reader_knows = λ reader. record {
                taken = ap (λ (n : ℕ). n + 1) knows.taken;
                out_is =
                    refl;
              };
              stage = tt;
            }),
        record {
          enters = entry_told key t rule id me.0 at (entry.Block write.writer write.bytes
              (key.first + me.0.taken + 1)) own freed_right;
          stage_is = refl;
          taken_is = refl;
          slots = refl;
        },
      )

  -- a load of the next place's sequence word by the free reader keeps the rule, and takes the slot
  -- where the write stands
  pub take_ready_keeps : has_number me.0.account.shares 0 ≡ true → me.0.stage ≡ Free →
      table.Allows (IsOneQueue key) slots id me (sequence_of (place_of key.limit me.0.taken))
      (λ n. n) (HasTakeReady key me)
  take_ready_keeps own stage t rule _ at _ = ready_result own t rule at stage

  -- a load of the tail by the free reader keeps the rule, and tells the end, or that it may look on
  pub take_tail_keeps : has_number me.0.account.shares 0 ≡ true → me.0.stage ≡ Free →
      table.Allows (IsOneQueue key) slots id me 0 (λ n. n) (HasTakeTail key me)
  take_tail_keeps own stage t rule _ at _ = tail_result own t rule at stage

  -- a load of the next place's sequence word keeps the rule, and tells if the write stands
  pub take_sequence_keeps : has_number me.0.account.shares 0 ≡ true → (found : Bool) → me.0.stage ≡
      Looking found → table.Allows (IsOneQueue key) slots id me
      (sequence_of (place_of key.limit me.0.taken)) (λ n. n) (HasTakeSequence key me)
  take_sequence_keeps own found stage t rule _ at _ = sequence_result own t rule at found stage

  -- a store of the sequence word brings the slot back empty: the place is free, a lap later
  pub free_keeps : has_number me.0.account.shares 0 ≡ true → (write : Write) → me.0.stage ≡
      Moving write.writer write.bytes → me.1 ≡ (place_of key.limit me.0.taken, None) ∷ []
      → table.Allows (IsOneQueue key) slots id me (sequence_of (place_of key.limit me.0.taken))
      (λ _. stored_word key.limit me.0.taken + 1) (λ _ after. HasFreed key write me after)
  free_keeps own write stage slots_are t rule _ at _ =
      free_result own t rule at write stage slots_are

  -- ---- a hangup

  module _ (own : has_number me.0.account.shares me.0.account.number ≡ true) (stage : me.0.stage ≡
      Free) (t : QueueTable) (rule : IsOneQueue key t) (at : get_elem? t.views id ≡ some me.0) where
    abbrev s₉ : QueueState
    s₉ = state_now key t rule id me.0 at

    idle₉ : is_moving me.0.stage ≡ false
    idle₉ = ap is_moving stage

    no_put₉ : (number : ℕ) → put_at key.first me.0.stage number ≡ None
    no_put₉ number = ap (λ (z : Stage). put_at key.first z number) stage

    abbrev number : ℕ
    number = me.0.account.number

    abbrev hung_view : View
    hung_view = entered_view (entry.Hung me.0.account.number) rule.ledger.history Free me.0.taken
        me.0

    hung_right : IsRight key.first s₉ (entry.Hung me.0.account.number)
    hung_right = record {
      may = tt;
      in_turn =
          no_put_by key t rule id me.0 at idle₉ no_put₉ me.0.account.number own;
    }

    hang_result : (w : View) × (a : table.Act (Option Write)) × table.Valid t.homes me.1 a ×
        IsOneQueue key (table.stepped t 0 (bit_or (get_or t.words 0 0) MARK) id me.1 w a) ×
        HasHung key me (w, table.carried_after me.1 a)
    hang_result = (
      hung_view,
      table.keeps,
      tt,
      rule_enters key t rule id me.0 at (entry.Hung me.0.account.number) hung_view rule.out
          (set t.words 0 (bit_or (get_or t.words 0 0) MARK)) t.homes own hung_right refl refl
          (hung_grows key.first s₉ me.0.account.number) (λ other. refl)
          (hang_marks key.limit key.first s₉ rule.out t.words t.homes rule.some_room
          (state_fits key t rule id me.0 at) rule.words me.0.account.number)
          record {
            puts = all_map (λ (share : Share Entry). s₉.putting share.number ≡
                None) (share_after seat_of (entry.Hung me.0.account.number)) me.0.account.shares
                (all_weaker (λ (share : Share Entry). s₉.putting share.number ≡
                None) (λ share. s₉.putting (share_after seat_of (entry.Hung me.0.account.number)
                share).number ≡ None) (λ share put. put) me.0.account.shares
                (no_puts key t rule id me.0 at idle₉ no_put₉));
            reader_knows = λ reader. let knows = (own_view key t rule id me.0 at).reader_knows
                reader in record { taken = knows.taken; out_is = knows.out_is ∙ idle₉ };
            stage = tt;
          },
      record {
        entered = record {
          enters = entry_told key t rule id me.0 at
              (entry.Hung me.0.account.number) own hung_right;
          stage_is = refl;
          taken_is = refl;
        };
        slots = refl;
      },
    )

  -- the mark set on the tail keeps the rule, and is a hangup by the seat
  pub hang_keeps : has_number me.0.account.shares me.0.account.number ≡ true → me.0.stage ≡ Free →
      table.Allows (IsOneQueue key) slots id me 0 (λ n. bit_or n MARK)
      (λ _ after. HasHung key me after)
  hang_keeps own stage t rule _ at _ = hang_result own stage t rule at
