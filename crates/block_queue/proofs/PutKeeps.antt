-- The steps of a put keep the rule.
use Rattle.std.proofs.Common.{[], ◌≡◌, ◌≢◌, ⊎_elim, ℕ, ◌+◌, ◌-◌, ◌<◌, Bool, true, false, cond, eqb}
use Rattle.std.proofs.Common.{List, ◌∷◌, length, get_or, set, refl, sym, ap, subst, ◌∙◌, arith}
use Rattle.std.proofs.Common.{eq-eqb, ne_eqb, lt_of_not-le, Option, Some, None}
use native.Mathlib.Decide.{dec_le, ℕ_discrete}
use mathlib.Core.Logic.{dite}
use mathlib.Core.Option.{none, some}
use lib.ListN.{get_elem?}
use prog.Atomic.{either}
use Rattle.atomic_table.specs.Table as table
use Rattle.histories.specs.declared.account.Share.{Share}
use Rattle.histories.specs.Account.{has_number, share_after}
use Rattle.histories.proofs.ListLemmas.{all_weaker, all_map}
use Rattle.sync_base.specs.Pipe.{begun_of, waiting_of}
use Rattle.sync_base.specs.Write.{Write}
use Rattle.sync_base.specs.declared.limits.TheConstants.{LAST_WRITE}
use Rattle.block_queue.specs.declared.entry.Entry.{Entry}
use Rattle.block_queue.specs.declared.entry.Entry.TheVariants as entry
use Rattle.block_queue.specs.declared.places.TheConstants.{MARK}
use Rattle.block_queue.specs.declared.view.Key.{Key}
use Rattle.block_queue.specs.declared.view.Stage.{Stage}
use Rattle.block_queue.specs.declared.view.Stage.TheVariants.{Free, Counted, Placed, Storing}
use Rattle.block_queue.specs.declared.view.View.{View}
use Rattle.block_queue.specs.History.{QueueState, IsRight, seat_of, after_entry, with_put}
use Rattle.block_queue.specs.Places.{IsQueueState, place_of, sequence_of, free_word, stored_word}
use Rattle.block_queue.specs.Rule.{IsOneQueue, IsCounted, IsPlaced, IsStoring, FitsStage, FitsView}
use Rattle.block_queue.specs.Rule.{put_at, is_moving}
use Rattle.block_queue.specs.Steps.{Seated, Asked, HasEntered, HasPutTail, HasPutSequence}
use Rattle.block_queue.specs.Steps.{HasAccepted, HasStored, staged_view, saw_hangup}
use Rattle.block_queue.proofs.StateLemmas.{begun_is, hung_since}
use Rattle.block_queue.proofs.PlaceLemmas.{put_sequence}
use Rattle.histories.proofs.AccountLemmas.{has_number-share_after}
use Rattle.block_queue.proofs.WordMoves.{empty_home, put_accepts, put_stands, slice_get_last}
use Rattle.block_queue.proofs.WordMoves.{put_here, put_else}
use Rattle.block_queue.proofs.ViewMoves.{taken_grows, stood_grows}
use Rattle.block_queue.proofs.RuleMoves.{QueueTable, state_now, state_fits, own_ledger, own_view}
use Rattle.block_queue.proofs.RuleMoves.{rule_enters, entry_told}
use Rattle.block_queue.proofs.StepLemmas.{entered_view, loaded, no_puts, no_put_by, goes_on}
use Rattle.block_queue.proofs.StepLemmas.{refused_view, refusal_keeps, refusal_tells}

module _ (asked : Asked) (slots id : ℕ) (me : Seated) (own :
    has_number me.0.account.shares (asked.write.writer + 1) ≡ true) where
  abbrev key : Key
  key = asked.key

  abbrev writer : ℕ
  writer = asked.write.writer

  abbrev block : List ℕ
  block = asked.write.bytes

  -- ---- the tail

  module _ (stage : me.0.stage ≡ Free) (t : QueueTable) (rule : IsOneQueue asked.key t) (at :
      get_elem? t.views id ≡ some me.0) where
    abbrev s : QueueState
    s = state_now asked.key t rule id me.0 at

    abbrev word : ℕ
    word = get_or t.words 0 0

    idle : is_moving me.0.stage ≡ false
    idle = ap is_moving stage

    no_put : (number : ℕ) → put_at asked.key.first me.0.stage number ≡ None
    no_put number = ap (λ (z : Stage). put_at asked.key.first z number) stage

    fits : IsQueueState asked.key.limit asked.key.first s
    fits = state_fits asked.key t rule id me.0 at

    in_turn : s.putting (writer + 1) ≡ None
    in_turn = no_put_by asked.key t rule id me.0 at idle no_put (writer + 1) own

    abbrev Result : Type 0
    Result = (w : View) × (a : table.Act (Option Write)) × table.Valid t.homes me.1 a ×
        IsOneQueue asked.key (table.stepped t 0 word id me.1 w a) ×
        HasPutTail asked me word (w, table.carried_after me.1 a)

    tail_hungup : s.pipe.hung ≡ true → Result
    tail_hungup hung =
        let right : IsRight key.first s (entry.Hungup writer block) =
        record { may = hung; in_turn = in_turn } in
        let tells = refusal_tells key t rule id me.0 at idle no_put (entry.Hungup writer block) own
        right refl in
        let tail : word ≡ length s.pipe.accepted + MARK = rule.words.tail ∙ rw hung refl in (
          refused_view key t rule id me.0 at idle no_put (entry.Hungup writer block) own right refl,
          table.keeps,
          tt,
          loaded key t.words 0 t.homes (set t.views id (refused_view key t rule id me.0 at idle
              no_put (entry.Hungup writer block) own right refl))
              (refusal_keeps key t rule id me.0 at idle no_put (entry.Hungup writer block) own right
              refl),
          record {
            slots = refl;
            hungup = λ marked. tells;
            worn = λ last. absurd (omega arith);
            counted = λ low. absurd (omega arith);
            given = λ low. absurd (omega arith);
            fresh = λ low. absurd (omega arith);
          },
        )

    not_fresh : s.pipe.hung ≡ false → saw_hangup key me.0.account ≡ false
    not_fresh unhung = of (saw_hangup key me.0.account) refl
      where
        of : (b : Bool) → saw_hangup key me.0.account ≡ b → saw_hangup key me.0.account ≡ false
        of true saw = let hung = hung_since key me.0.account.seen rule.ledger.history
            (own_ledger key t rule id me.0 at).seen saw in let no : true ≡ false = sym hung ∙
            unhung in cc
        of false saw = saw

    tail_worn : s.pipe.hung ≡ false → key.first + length s.pipe.accepted ≡ LAST_WRITE → Result
    tail_worn unhung last =
        let right : IsRight key.first s (entry.Worn writer block) =
        record { may = record { not_hung = unhung; last = omega arith }; in_turn = in_turn } in
        let tells = refusal_tells key t rule id me.0 at idle no_put (entry.Worn writer block) own
        right refl in
        let tail : word ≡ length s.pipe.accepted = rule.words.tail ∙ rw unhung refl in (
          refused_view key t rule id me.0 at idle no_put (entry.Worn writer block) own right refl,
          table.keeps,
          tt,
          loaded key t.words 0 t.homes (set t.views id (refused_view key t rule id me.0 at idle
              no_put (entry.Worn writer block) own right refl))
              (refusal_keeps key t rule id me.0 at idle no_put (entry.Worn writer block) own right
              refl),
          record {
            slots = refl;
            hungup = λ marked. absurd (omega arith);
            worn = λ last. tells;
            counted = λ low other. absurd (other (ap (λ (n : ℕ). key.first + n) tail ∙ last));
            given = λ low. omega arith;
            fresh = λ low. not_fresh unhung;
          },
        )

    tail_counted : s.pipe.hung ≡ false → key.first + length s.pipe.accepted ≢ LAST_WRITE → Result
    tail_counted unhung not_last =
        let given = fits.given in
        let tail : word ≡ length s.pipe.accepted = rule.words.tail ∙ rw unhung refl in
        let counted : IsCounted key.first s word =
        record { accepted = omega arith; given = omega arith } in (
          staged_view (Counted word) me.0,
          table.keeps,
          tt,
          loaded key t.words 0 t.homes (set t.views id (staged_view (Counted word) me.0))
              (goes_on key t rule id me.0 at idle no_put (Counted word) refl (λ number. refl)
              (writer + 1) own counted),
          record {
            slots = refl;
            hungup = λ marked. absurd (omega arith);
            worn = λ last. absurd (not_last (ap (λ (n : ℕ). key.first + n) (sym tail) ∙ last));
            counted = λ low other. refl;
            given = λ low. omega arith;
            fresh = λ low. not_fresh unhung;
          },
        )

    tail_result : Result
    tail_result = of s.pipe.hung refl
      where
        of : (b : Bool) → s.pipe.hung ≡ b → Result
        of true hung = tail_hungup hung
        of false unhung = dite (ℕ_discrete (key.first + length s.pipe.accepted) LAST_WRITE)
            (λ last. tail_worn unhung last) (λ other. tail_counted unhung other)

  -- a load of the tail by a free writer keeps the rule, and tells how many writes were accepted
  pub put_tail_keeps : me.0.stage ≡ Free →
      table.Allows (IsOneQueue asked.key) slots id me 0 (λ n. n) (HasPutTail asked me)
  put_tail_keeps stage t rule _ at _ = tail_result stage t rule at

  -- ---- the sequence word

  module _ (stage : me.0.stage ≡ Counted asked.count) (t : QueueTable) (rule :
      IsOneQueue asked.key t) (at : get_elem? t.views id ≡ some me.0) where
    abbrev s₂ : QueueState
    s₂ = state_now asked.key t rule id me.0 at

    abbrev index : ℕ
    index = sequence_of (place_of asked.key.limit asked.count)

    abbrev word₂ : ℕ
    word₂ = get_or t.words index 0

    idle₂ : is_moving me.0.stage ≡ false
    idle₂ = ap is_moving stage

    no_put₂ : (number : ℕ) → put_at asked.key.first me.0.stage number ≡ None
    no_put₂ number = ap (λ (z : Stage). put_at asked.key.first z number) stage

    fits₂ : IsQueueState asked.key.limit asked.key.first s₂
    fits₂ = state_fits asked.key t rule id me.0 at

    counted : IsCounted asked.key.first s₂ asked.count
    counted = subst (λ (z : Stage). FitsStage key.limit key.first s₂ me.0.account.shares
        (rule.ledger.owner 0) id z) stage (own_view asked.key t rule id me.0 at).stage

    abbrev Result₂ : Type 0
    Result₂ = (w : View) × (a : table.Act (Option Write)) × table.Valid t.homes me.1 a ×
        IsOneQueue asked.key (table.stepped t index word₂ id me.1 w a) ×
        HasPutSequence asked me word₂ (w, table.carried_after me.1 a)

    sequence_full : word₂ < free_word key.limit asked.count → asked.count ≡ s₂.pipe.read_whole +
        key.limit → length s₂.pipe.accepted ≡ s₂.pipe.read_whole + key.limit → Result₂
    sequence_full less count_is full =
        let begun = begun_is s₂.pipe fits₂.whole in
        let limit_is = fits₂.limit_is in
        let waiting : waiting_of s₂.pipe ≡ s₂.pipe.limit =
        ap (λ (n : ℕ). length s₂.pipe.accepted - n) begun ∙ omega arith in
        let number : key.first + asked.count - key.limit ≡ key.first + begun_of s₂.pipe =
        omega arith in
        let made : Entry = entry.Full writer block (key.first + asked.count - key.limit) in
        let right : IsRight key.first s₂ (entry.Full writer block
        (key.first + asked.count - key.limit)) =
        record {
          may = record { may = waiting; number_is = number };
          in_turn =
              no_put_by key t rule id me.0 at idle₂ no_put₂ (writer + 1) own;
        } in
        let after : View = refused_view key t rule id me.0 at idle₂ no_put₂
        (entry.Full writer block (key.first + asked.count - key.limit)) own right refl in (
          refused_view key t rule id me.0 at idle₂ no_put₂
              (entry.Full writer block (key.first + asked.count - key.limit)) own right refl,
          table.keeps,
          tt,
          loaded key t.words index t.homes (set t.views id
              (refused_view key t rule id me.0 at idle₂ no_put₂
              (entry.Full writer block (key.first + asked.count - key.limit)) own right refl))
              (refusal_keeps key t rule id me.0 at idle₂ no_put₂
              (entry.Full writer block (key.first + asked.count - key.limit)) own right refl),
          record {
            slots = refl;
            full = λ less. refusal_tells key t rule id me.0 at idle₂ no_put₂
                (entry.Full writer block (key.first + asked.count - key.limit)) own right refl;
            room = λ less. omega arith;
            placed = λ same. absurd (omega arith);
            passed = λ more. absurd (omega arith);
          },
        )

    sequence_placed : word₂ ≡ free_word key.limit asked.count → asked.count < s₂.pipe.read_whole +
        key.limit → Result₂
    sequence_placed same room = (
      staged_view (Placed asked.count) me.0,
      table.keeps,
      tt,
      loaded key t.words index t.homes (set t.views id (staged_view (Placed asked.count) me.0))
          (goes_on key t rule id me.0 at idle₂ no_put₂ (Placed asked.count) refl (λ number. refl)
          (writer + 1) own record { counted = counted; room = room }),
      record {
        slots = refl;
        full = λ less. absurd (omega arith);
        room = λ less. absurd (omega arith);
        placed = λ same. refl;
        passed = λ more. absurd (omega arith);
      },
    )

    sequence_passed : free_word key.limit asked.count < word₂ → Result₂
    sequence_passed more = (
      staged_view Free me.0,
      table.keeps,
      tt,
      loaded key t.words index t.homes (set t.views id (staged_view Free me.0))
          (goes_on key t rule id me.0 at idle₂ no_put₂ Free refl (λ number. refl) (writer +
          1) own tt),
      record {
        slots = refl;
        full = λ less. absurd (omega arith);
        room = λ less. absurd (omega arith);
        placed = λ same. absurd (omega arith);
        passed = λ more. refl;
      },
    )

    sequence_result : Result₂
    sequence_result =
        dite (dec_le word₂ (free_word key.limit asked.count))
        (λ low. ⊎_elim (λ placed. sequence_placed placed.0 placed.2)
        (λ full. sequence_full full.0 full.1 full.2)
        (put_sequence key.limit key.first s₂ rule.out t.words t.homes rule.words asked.count
        rule.some_room fits₂ counted.accepted low))
        (λ high. sequence_passed (lt_of_not-le high))

  -- a load of the place's sequence word keeps the rule, and tells whether the place is free
  pub put_sequence_keeps : me.0.stage ≡ Counted asked.count →
      table.Allows (IsOneQueue asked.key) slots id me
      (sequence_of (place_of asked.key.limit asked.count)) (λ n. n) (HasPutSequence asked me)
  put_sequence_keeps stage t rule _ at _ = sequence_result stage t rule at

  -- ---- the write is accepted

  module _ (stage : me.0.stage ≡ Placed asked.count) (t : QueueTable) (rule :
      IsOneQueue asked.key t) (at : get_elem? t.views id ≡ some me.0) where
    abbrev s₃ : QueueState
    s₃ = state_now asked.key t rule id me.0 at

    abbrev tail₃ : ℕ
    tail₃ = get_or t.words 0 0

    idle₃ : is_moving me.0.stage ≡ false
    idle₃ = ap is_moving stage

    no_put₃ : (number : ℕ) → put_at asked.key.first me.0.stage number ≡ None
    no_put₃ number = ap (λ (z : Stage). put_at asked.key.first z number) stage

    fits₃ : IsQueueState asked.key.limit asked.key.first s₃
    fits₃ = state_fits asked.key t rule id me.0 at

    placed : IsPlaced asked.key.limit asked.key.first s₃ asked.count
    placed = subst (λ (z : Stage). FitsStage key.limit key.first s₃ me.0.account.shares
        (rule.ledger.owner 0) id z) stage (own_view asked.key t rule id me.0 at).stage

    -- what an accepted write leaves, by its count
    abbrev accepted_view : ℕ → View
    accepted_view count = entered_view (entry.Taken writer block (key.first + count + 1))
        rule.ledger.history (Storing count writer block) me.0.taken me.0

    record Accepts (count : ℕ) : Type 0 where
      -- the slot of the write's place is at home, and empty
      pub home : get_elem? t.homes (place_of key.limit count) ≡ some (some None)
      -- the rule stays with the tail one more, the slot with the writer, and the writer storing
      pub keeps : IsOneQueue key record {
        words = set t.words 0 (count + 1);
        homes =
            set t.homes (place_of key.limit count) none;
        views =
            set t.views id (accepted_view count);
      }
      -- the writer's entry says that its write was accepted, and with which number
      pub told : HasEntered key (entry.Taken writer block (key.first + count + 1))
          (Storing count writer block) me.0 (accepted_view count)

    last_accepts : s₃.pipe.hung ≡ false → length s₃.pipe.accepted ≡ asked.count →
        Accepts (length s₃.pipe.accepted)
    last_accepts unhung count_is =
        let in_turn : s₃.putting (writer + 1) ≡ None =
        no_put_by key t rule id me.0 at idle₃ no_put₃ (writer + 1) own in
        let begun = begun_is s₃.pipe fits₃.whole in
        let limit_is = fits₃.limit_is in
        let room : length s₃.pipe.accepted < s₃.pipe.read_whole + key.limit = let placed =
        placed.room in omega arith in
        let within = fits₃.within in
        let waiting : waiting_of s₃.pipe < s₃.pipe.limit =
        subst (λ (n : ℕ). length s₃.pipe.accepted - n < s₃.pipe.limit) (sym begun) (omega arith)
        in
        let given = placed.counted.given in
        let right : IsRight key.first s₃ (entry.Taken writer block
        (key.first + length s₃.pipe.accepted + 1)) =
        record {
          may = record { may = (unhung, waiting); number_is = refl; given = omega arith };
          in_turn = in_turn;
        } in
        record {
          home = empty_home key.limit key.first s₃ rule.out t.words t.homes rule.some_room fits₃
              rule.words writer block unhung room in_turn;
          keeps = rule_enters key t rule id me.0 at (entry.Taken writer block
              (key.first + length s₃.pipe.accepted + 1)) (accepted_view (length s₃.pipe.accepted))
              rule.out
              (set t.words 0 (length s₃.pipe.accepted + 1))
              (set t.homes (place_of key.limit (length s₃.pipe.accepted)) none) own right refl
              refl
              (taken_grows key.first s₃ writer block) (λ other. refl)
              (put_accepts key.limit key.first s₃ rule.out t.words t.homes rule.some_room fits₃
              rule.words writer block unhung room in_turn)
              (storing_fits unhung room);
          told = record {
            enters = entry_told key t rule id me.0 at
                (entry.Taken writer block (key.first + length s₃.pipe.accepted + 1)) own right;
            stage_is = refl;
            taken_is = refl;
          };
        }
      where
        storing_fits : s₃.pipe.hung ≡ false → length s₃.pipe.accepted < s₃.pipe.read_whole +
            key.limit
            → FitsView key.limit key.first (after_entry s₃
            (entry.Taken writer block (key.first + length s₃.pipe.accepted + 1))) rule.out
            (rule.ledger.owner 0) id (accepted_view (length s₃.pipe.accepted))
        storing_fits unhung room =
            record {
              puts = all_map (λ (share : Share Entry). with_put (writer +
                  1) (Some (key.first + length s₃.pipe.accepted + 1)) s₃.putting share.number ≡
                  put_at key.first (Storing (length s₃.pipe.accepted) writer block) share.number)
                  (share_after seat_of (entry.Taken writer block
                  (key.first + length s₃.pipe.accepted + 1))) me.0.account.shares
                  (all_weaker (λ (share : Share Entry). s₃.putting share.number ≡ None)
                  (λ share. with_put (writer + 1) (Some (key.first + length s₃.pipe.accepted + 1))
                  s₃.putting share.number ≡ put_at key.first (Storing (length s₃.pipe.accepted)
                  writer block) share.number)
                  (λ share put. ap (λ (number : Option ℕ). cond (eqb share.number (writer + 1))
                  (Some (key.first + length s₃.pipe.accepted + 1)) number) put)
                  me.0.account.shares (no_puts key t rule id me.0 at idle₃ no_put₃));
              reader_knows = λ reader. let knows = (own_view key t rule id me.0 at).reader_knows
                  reader in record { taken = knows.taken; out_is = knows.out_is ∙ idle₃ };
              stage = record {
                not_begun = fits₃.within;
                write_is = slice_get_last s₃.pipe.accepted (record
                    { writer = writer; bytes = block });
                unstored = put_here (writer + 1) (Some (key.first + length s₃.pipe.accepted + 1))
                    s₃.putting;
                own = has_number-share_after seat_of (entry.Taken writer block
                    (key.first + length s₃.pipe.accepted + 1)) me.0.account.shares (writer + 1) ∙
                    own;
              };
            }

    abbrev Result₃ : ℕ → Type 0
    Result₃ next = (w : View) × (a : table.Act (Option Write)) × table.Valid t.homes me.1 a ×
        IsOneQueue asked.key (table.stepped t 0 next id me.1 w a) ×
        HasAccepted asked me tail₃ (w, table.carried_after me.1 a)

    accept_wins : s₃.pipe.hung ≡ false → length s₃.pipe.accepted ≡ asked.count → tail₃ ≡
        asked.count → Result₃ (asked.count + 1)
    accept_wins unhung count_is found =
        let all : Accepts asked.count = subst Accepts count_is (last_accepts unhung count_is) in (
          accepted_view asked.count,
          table.takes (place_of key.limit asked.count) None,
          all.home,
          all.keeps,
          record {
            entered = λ same. all.told;
            slots = λ same. refl;
            passed =
                λ other. absurd (other found);
          },
        )

    accept_loses : tail₃ ≢ asked.count → Result₃ tail₃
    accept_loses other = (
      staged_view Free me.0,
      table.keeps,
      tt,
      loaded key t.words 0 t.homes (set t.views id (staged_view Free me.0))
          (goes_on key t rule id me.0 at idle₃ no_put₃ Free refl (λ number. refl) (writer +
          1) own tt),
      record {
        entered = λ same. absurd (other same);
        slots = λ same. absurd (other same);
        passed =
            λ other. refl;
      },
    )

    accept_result : Result₃ (either (eqb tail₃ asked.count) (asked.count + 1) tail₃)
    accept_result =
        dite (ℕ_discrete tail₃ asked.count)
        (λ found. subst (λ (b : Bool). Result₃ (either b (asked.count + 1) tail₃))
        (sym (eq-eqb tail₃ asked.count found)) (of s₃.pipe.hung refl found))
        (λ other. subst (λ (b : Bool). Result₃ (either b (asked.count + 1) tail₃))
        (sym (ne_eqb tail₃ asked.count other)) (accept_loses other))
      where
        of : (b : Bool) → s₃.pipe.hung ≡ b → tail₃ ≡ asked.count → Result₃ (asked.count + 1)
        of true hung found =
            let given = placed.counted.given in
            let tail : tail₃ ≡ length s₃.pipe.accepted + MARK = rule.words.tail ∙ rw hung refl in
            absurd (omega arith)
        of false unhung found =
            let tail : tail₃ ≡ length s₃.pipe.accepted = rule.words.tail ∙ rw unhung refl in
            accept_wins unhung (sym tail ∙ found) found

  -- an exchange of the tail keeps the rule; the write is accepted where the count was still so
  pub accept_keeps : me.0.stage ≡ Placed asked.count →
      table.Allows (IsOneQueue asked.key) slots id me 0
      (λ n. either (eqb n asked.count) (asked.count + 1) n) (HasAccepted asked me)
  accept_keeps stage t rule _ at _ = accept_result stage t rule at

  -- ---- the block stands

  module _ (stage : me.0.stage ≡ Storing asked.count asked.write.writer asked.write.bytes)
      (slots_are : me.1 ≡ (place_of asked.key.limit asked.count, Some asked.write) ∷ []) (t :
      QueueTable) (rule : IsOneQueue asked.key t) (at : get_elem? t.views id ≡ some me.0) where
    abbrev s₅ : QueueState
    s₅ = state_now asked.key t rule id me.0 at

    fits₅ : IsQueueState asked.key.limit asked.key.first s₅
    fits₅ = state_fits asked.key t rule id me.0 at

    storing : IsStoring asked.key.first s₅ me.0.account.shares asked.count asked.write
    storing = subst (λ (z : Stage). FitsStage key.limit key.first s₅ me.0.account.shares
        (rule.ledger.owner 0) id z) stage (own_view asked.key t rule id me.0 at).stage

    abbrev stood_view : View
    stood_view = entered_view (entry.Stood asked.write.writer (asked.key.first + asked.count + 1))
        rule.ledger.history Free me.0.taken me.0

    stood_right : IsRight key.first s₅ (entry.Stood asked.write.writer
        (asked.key.first + asked.count + 1))
    stood_right = record { may = tt; in_turn = storing.unstored }

    stood_puts : (share : Share Entry) → s₅.putting share.number ≡
        put_at key.first me.0.stage share.number →
        with_put (writer + 1) None s₅.putting share.number ≡ None
    stood_puts share put =
        dite (ℕ_discrete share.number (writer + 1))
        (λ same. rw (eq-eqb share.number (writer + 1) same) refl)
        (λ other.
        let none_at : put_at key.first (Storing asked.count writer block) share.number ≡ None =
        rw (ne_eqb share.number (writer + 1) other) refl in
        put_else (writer + 1) share.number None s₅.putting other ∙ put ∙
        ap (λ (z : Stage). put_at key.first z share.number) stage ∙ none_at)

    stood_fits : FitsView key.limit key.first (after_entry s₅
        (entry.Stood asked.write.writer (asked.key.first + asked.count + 1))) rule.out
        (rule.ledger.owner 0) id stood_view
    stood_fits =
        record {
          puts = all_map (λ (share : Share Entry). with_put (writer +
              1) None s₅.putting share.number ≡ None) (share_after seat_of
              (entry.Stood asked.write.writer (asked.key.first + asked.count + 1)))
              me.0.account.shares
              (all_weaker (λ (share : Share Entry). s₅.putting share.number ≡
              put_at key.first me.0.stage share.number) (λ share. with_put (writer + 1) None
              s₅.putting share.number ≡ None)
              stood_puts me.0.account.shares (own_view key t rule id me.0 at).puts);
          reader_knows = λ reader. let knows = (own_view key t rule id me.0 at).reader_knows reader
              in record { taken = knows.taken; out_is = knows.out_is ∙ ap is_moving stage };
          stage = tt;
        }

    store_result : (w : View) × (a : table.Act (Option Write)) × table.Valid t.homes me.1 a
        × IsOneQueue asked.key (table.stepped t (sequence_of (place_of asked.key.limit asked.count))
        (stored_word asked.key.limit asked.count) id me.1 w a)
        × HasStored asked me (w, table.carried_after me.1 a)
    store_result = (
      stood_view,
      table.gives,
      tt,
      subst (λ (carried : List (ℕ × Option Write)). IsOneQueue key record {
        words =
            set t.words (sequence_of (place_of key.limit asked.count))
            (stored_word key.limit asked.count);
        homes = table.put_back t.homes carried;
        views =
            set t.views id stood_view;
      })
          (sym slots_are)
          (rule_enters key t rule id me.0 at (entry.Stood asked.write.writer
          (asked.key.first + asked.count + 1)) stood_view rule.out
          (set t.words (sequence_of (place_of key.limit asked.count))
          (stored_word key.limit asked.count))
          (set t.homes (place_of key.limit asked.count) (some (Some asked.write)))
          own stood_right refl refl (stood_grows key.first s₅ writer (key.first + asked.count + 1))
          (λ other. refl)
          (put_stands key.limit key.first s₅ rule.out t.words t.homes rule.some_room fits₅
          rule.words asked.write asked.count storing.not_begun storing.write_is
          storing.unstored)
          stood_fits),
      record {
        entered = record {
          enters = entry_told key t rule id me.0 at
              (entry.Stood asked.write.writer (asked.key.first + asked.count + 1)) own stood_right;
          stage_is = refl;
          taken_is = refl;
        };
        slots = refl;
      },
    )

  -- a store of the sequence word brings the slot back with the block, and the write stands
  pub store_keeps : me.0.stage ≡ Storing asked.count asked.write.writer asked.write.bytes → me.1 ≡
      (place_of asked.key.limit asked.count, Some asked.write) ∷ []
      → table.Allows (IsOneQueue asked.key) slots id me
      (sequence_of (place_of asked.key.limit asked.count))
      (λ _. stored_word asked.key.limit asked.count) (λ _ after. HasStored asked me after)
  store_keeps stage slots_are t rule _ at _ = store_result stage slots_are t rule at
