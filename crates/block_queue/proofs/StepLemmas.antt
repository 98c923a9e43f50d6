-- What the steps have in common: a load changes no word, and a refusal changes nothing but the
-- history.
use Rattle.std.proofs.Common.{◌≡◌, ℕ, true, false, List, get_or, set, refl, sym, subst, ◌∙◌, None}
use Rattle.std.proofs.lemmas.List.{set-get_or}
use Rattle.std.specs.List.{AllByRecursion}
use mathlib.Core.Option.{some}
use lib.ListN.{get_elem?}
use Rattle.histories.specs.declared.account.Share.{Share}
use Rattle.histories.specs.Account.{has_number, share_after}
use Rattle.histories.specs.Changes.{entered_account}
use Rattle.histories.proofs.ListLemmas.{all_weaker, all_map}
use Rattle.histories.proofs.AccountLemmas.{number_has}
use Rattle.block_queue.specs.declared.entry.Entry.{Entry}
use Rattle.block_queue.specs.declared.view.Key.{Key}
use Rattle.block_queue.specs.declared.view.Stage.{Stage}
use Rattle.block_queue.specs.declared.view.Stage.TheVariants.{Free}
use Rattle.block_queue.specs.declared.view.View.{View}
use Rattle.block_queue.specs.History.{QueueState, IsRight, seat_of, after_entry}
use Rattle.block_queue.specs.Places.{Homes, AreWords}
use Rattle.block_queue.specs.Rule.{IsOneQueue, FitsStage, FitsView, put_at, is_moving}
use Rattle.block_queue.specs.Steps.{HasEntered, staged_view}
use Rattle.block_queue.proofs.ViewMoves.{Grows, same_grows}
use Rattle.block_queue.proofs.RuleMoves.{QueueTable, state_now, own_view, rule_stays, rule_enters}
use Rattle.block_queue.proofs.RuleMoves.{entry_told}

-- what a seat knows once it has made this entry
abbrev pub entered_view : Entry → List Entry → Stage → ℕ → View → View
entered_view entry past stage taken view = record view {
  account =
      entered_account seat_of entry past view.account;
  taken = taken;
  stage = stage;
}

-- a load leaves the words as they were
pub loaded : (key : Key) (words : List ℕ) (i : ℕ) (homes : Homes) (views : List View) →
    IsOneQueue key record { words = words; homes = homes; views = views } →
    IsOneQueue key record { words = set words i (get_or words i 0); homes = homes; views = views }
loaded key words i homes views rule = subst (λ (ws : List ℕ). IsOneQueue key record
    { words = ws; homes = homes; views = views }) (sym (set-get_or words i 0)) rule

module _ (key : Key) (t : QueueTable) (rule : IsOneQueue key t) (id : ℕ) (before : View) (at :
    get_elem? t.views id ≡ some before) (idle : is_moving before.stage ≡ false) (no_put :
    (number : ℕ) → put_at key.first before.stage number ≡ None) where
  -- no put of the seat is under way
  pub no_puts : AllByRecursion (λ share. (state_now key t rule id before at).putting share.number ≡
      None) before.account.shares
  no_puts =
      all_weaker (λ (share : Share Entry). (state_now key t rule id before at).putting share.number
      ≡ put_at key.first before.stage share.number)
      (λ share. (state_now key t rule id before at).putting share.number ≡ None)
      (λ share put. put ∙ no_put share.number) before.account.shares
      (own_view key t rule id before at).puts

  -- nor is one under way by any of its numbers
  pub no_put_by : (number : ℕ) → has_number before.account.shares number ≡ true →
      (state_now key t rule id before at).putting number ≡ None
  no_put_by number has = number_has (λ n. (state_now key t rule id before at).putting n ≡
      None) number before.account.shares no_puts has

  -- the seat goes on, and adds no entry
  module _ (stage : Stage) (still : is_moving stage ≡ false) (none : (number : ℕ) →
      put_at key.first stage number ≡ None) (number : ℕ) (has :
      has_number before.account.shares number ≡ true) where
    -- a seat that comes to another stage, where it still puts and moves nothing, keeps the rule
    pub goes_on : FitsStage key.limit key.first (state_now key t rule id before at)
        before.account.shares (rule.ledger.owner 0) id stage → IsOneQueue key record {
          words =
              t.words;
          homes = t.homes;
          views = set t.views id (staged_view stage before);
        }
    goes_on fits =
        rule_stays key t rule id before at (staged_view stage before) rule.out t.words t.homes
        number has refl refl (λ other. refl) rule.words
        record {
          puts = all_weaker (λ (share : Share Entry). (state_now key t rule id before at).putting
              share.number ≡ None) (λ share. (state_now key t rule id before at).putting
              share.number ≡ put_at key.first stage share.number)
              (λ share put. put ∙ sym (none share.number)) before.account.shares no_puts;
          reader_knows = λ reader. let knows = (own_view key t rule id before at).reader_knows
              reader in record { taken = knows.taken; out_is = knows.out_is ∙ idle ∙ sym still };
          stage = fits;
        }

  -- the seat adds an entry that changes nothing else
  module _ (entry : Entry) (has : has_number before.account.shares (seat_of entry) ≡ true) (right :
      IsRight key.first (state_now key t rule id before at) entry) (same :
      after_entry (state_now key t rule id before at) entry ≡
      state_now key t rule id before at) where
    -- what the seat knows after such an entry; it is free
    abbrev pub refused_view : View
    refused_view = entered_view entry rule.ledger.history Free before.taken before

    -- such an entry keeps the rule, with words and slots as they were
    pub refusal_keeps : IsOneQueue key record {
      words = t.words;
      homes = t.homes;
      views =
          set t.views id refused_view;
    }
    refusal_keeps =
        rule_enters key t rule id before at entry refused_view rule.out t.words t.homes has right
        refl refl
        (subst (λ (s : QueueState). Grows key.first (state_now key t rule id before at) s
        (seat_of entry)) (sym same) (same_grows key.first (state_now key t rule id before at)
        (seat_of entry)))
        (λ other. refl)
        (subst (λ (s : QueueState). AreWords key.limit key.first s rule.out t.words t.homes)
        (sym same) rule.words)
        (subst (λ (s : QueueState). FitsView key.limit key.first s rule.out (rule.ledger.owner 0) id
        refused_view) (sym same)
        record {
          puts = all_map (λ (share : Share Entry). (state_now key t rule id before at).putting
              share.number ≡ None) (share_after seat_of entry) before.account.shares
              (all_weaker (λ (share : Share Entry). (state_now key t rule id before at).putting
              share.number ≡ None) (λ share. (state_now key t rule id before at).putting
              (share_after seat_of entry share).number ≡ None) (λ share put. put)
              before.account.shares no_puts);
          reader_knows = λ reader. let knows = (own_view key t rule id before at).reader_knows
              reader in record { taken = knows.taken; out_is = knows.out_is ∙ idle };
          stage = tt;
        })

    -- and the seat is told it
    pub refusal_tells : HasEntered key entry Free before refused_view
    refusal_tells = record {
      enters = entry_told key t rule id before at entry has right;
      stage_is =
          refl;
      taken_is = refl;
    }
