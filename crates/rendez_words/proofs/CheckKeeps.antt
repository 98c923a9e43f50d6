-- The step Check, by a joined seat, keeps the rule: the run is one event longer, which is in no
-- trace.
use Rattle.std.proofs.Common.{◌≡◌, ◌==◌, ⊎_elim, ℕ, Bool, true, false, if◌then◌else◌, []}
use Rattle.std.proofs.Common.{◌∷◌, get_or, refl, sym, ◌∙◌, ap, subst}
use Rattle.atomic_table.specs.Table as table
use Rattle.atomic_table.proofs.Lists.{at_set}
use Rattle.sync_base.specs.declared.ids.Pid.{Pid}
use Rattle.sleep_core.specs.declared.event.Event.{Event}
use Rattle.sleep_core.specs.declared.event.Event.TheVariants.{Check}
use Rattle.sleep_core.specs.declared.answer.Answer.TheVariants as answer
use Rattle.sleep_core.specs.declared.phase.Phase.{Phase}
use Rattle.sleep_core.specs.declared.phase.Phase.TheVariants as phase
use Rattle.sleep_core.specs.State.{posted_as}
use Rattle.sleep_core.specs.Table.{Word, cell_of, reply, number_in}
use Rattle.sleep_core.specs.Runs.{Entry, world_of, is_kept}
use Rattle.rendez_words.specs.declared.view.Part.{Part}
use Rattle.rendez_words.specs.declared.view.Sizes.{Sizes}
use Rattle.rendez_words.specs.declared.view.View.TheVariants as view
use Rattle.rendez_words.specs.Plays.{Seated, IsWordOf, IsStep, HasChecked}
use Rattle.rendez_words.specs.Rule.{IsSeated, AreSeated, Fits, ShowsCore}
use Rattle.rendez_words.specs.States.{IsUnkept, IsJoined}
use Rattle.rendez_words.specs.View.{sleeper_in, raiser_in}
use Rattle.rendez_words.proofs.IndexLemmas.{word_of_cell}
use Rattle.rendez_words.proofs.RunLemmas.{kept_others, fits_still}
use Rattle.rendez_words.proofs.StepKeeps.{Comes, comes, words_step}

-- a check is not kept, whatever it is answered
not_kept : (pid : Pid) (stage : Phase) (word : Word)
    → is_kept (reply (Check pid) stage word) (Check pid) ≡ false
not_kept pid (phase.Asleep rendez threshold) word = by_test (number_in word == posted_as pid.0)
  where
    by_test : (mine : Bool) → is_kept (if mine then answer.Posted else answer.Released) (Check pid)
        ≡ false
    by_test true = refl
    by_test false = refl
not_kept pid stage word = refl

unkept : (event : Event) (stage : Phase) (word : Word) → IsUnkept event
    → is_kept (reply event stage word) event ≡ false
unkept (Check pid) stage word is = not_kept pid stage word
unkept event stage word is = absurd is

check_keeps : (sizes : Sizes) (slots id : ℕ) (sleeper raiser : Part) (event : Event) (word : ℕ)
    → IsUnkept event → IsStep sizes event sleeper word (λ n. n)
    → table.Allows (ShowsCore sizes) slots id (view.Joined sleeper raiser, []) word (λ n. n)
    (λ found after. HasChecked sizes event (view.Joined sleeper raiser, []) found after)
check_keeps sizes slots id sleeper raiser event word check step s rule _ at _ = (
  view.Joined sleeper raiser,
  table.keeps,
  tt,
  record {
    run = entry ∷ rule.run;
    owner = rule.owner;
    legal = (rule.legal, record { made = step.maker_is; answered = sym next.answered });
    words = words_step sizes rule.run event sleeper word (λ n. n) s.words rule.words next;
    each_seat = λ seat known there.
        ⊎_elim (λ here. subst (Fits sizes.procs (entry ∷ rule.run) rule.owner seat) here.1
        (subst (λ j. Fits sizes.procs (entry ∷ rule.run) rule.owner j (view.Joined sleeper raiser))
        (sym here.0) both))
        (λ there'. fits_still sizes.procs entry rule.run rule.owner seat known
        (λ same. there'.0 (sym same ∙ first.owner_is)) (rule.each_seat seat known there'.1))
        (at_set s.views id seat (view.Joined sleeper raiser) known there);
  },
  record {
    same = refl;
    stage = next.stage;
    word = next.found;
    in_stage = next.in_stage;
    word_is = subst (IsWordOf (cell_of event next.stage)) (sym next.found_is)
        (word_of_cell sizes (world_of sizes.procs sizes.rendez rule.run)
        (cell_of event next.stage) next.there);
    found_is = ap (λ xs. get_or xs word 0) rule.words ∙ next.read;
    run = rule.run;
    legal = rule.legal;
    sleeper_is = first.trace_is;
    raiser_is = second.trace_is;
    read = next.found_is;
    answered = next.answered;
  },
)
  where
    seated : AreSeated sizes.procs rule.run rule.owner id sleeper raiser
    seated = rule.each_seat id (view.Joined sleeper raiser) at

    first : IsSeated sizes.procs rule.run rule.owner id sleeper
    first = seated.first

    second : IsSeated sizes.procs rule.run rule.owner id raiser
    second = seated.second

    next : Comes sizes rule.run event sleeper word (λ n. n)
    next = comes sizes rule.run event sleeper word (λ n. n) rule.legal first.trace_is step

    entry : Entry
    entry = record {
      maker = sleeper.pid;
      event = event;
      answer = reply event next.stage next.found;
    }

    lost : is_kept entry.answer entry.event ≡ false
    lost = unkept event next.stage next.found check

    both : AreSeated sizes.procs (entry ∷ rule.run) rule.owner id sleeper raiser
    both =
        record {
          first = record {
            pid_in = first.pid_in;
            owner_is = first.owner_is;
            trace_is = first.trace_is ∙ sym (kept_others entry rule.run sleeper.pid lost);
          };
          second = record {
            pid_in = second.pid_in;
            owner_is = second.owner_is;
            trace_is = second.trace_is ∙ sym (kept_others entry rule.run raiser.pid lost);
          };
          differ = seated.differ;
        }

-- a check by a joined seat, which is not kept in its steps, keeps the rule and changes no word
pub check_allowed : (sizes key : Sizes) (slots id : ℕ) (me : Seated) (event : Event) (word : ℕ)
    → sizes ≡ key → IsJoined me → IsUnkept event
    → IsStep sizes event (sleeper_in me.0) word (λ n. n)
    → table.Allows (ShowsCore key) slots id me word (λ n. n)
    (λ found after. HasChecked sizes event me found after)
check_allowed sizes key slots id me event word same joined check step =
    subst (λ (k : Sizes). table.Allows (ShowsCore k) slots id me word (λ n. n)
    (λ found after. HasChecked sizes event me found after)) same
    (subst (λ (m : Seated). table.Allows (ShowsCore sizes) slots id m word (λ n. n)
    (λ found after. HasChecked sizes event m found after)) (sym joined)
    (check_keeps sizes slots id (sleeper_in me.0) (raiser_in me.0) event word check step))
