-- A step that makes an event keeps the rule: the run is one event longer.
use Rattle.std.proofs.Common.{◌≡◌, ◌≢◌, ⊎_elim, ℕ, ◌<◌, List, [], ◌∷◌, get_or, set}
use Rattle.std.proofs.Common.{refl, sym, ◌∙◌, ap, subst}
use Rattle.std.proofs.lemmas.Bool.Decides.{eqb_tells}
use Rattle.std.proofs.lemmas.List.{set-get_or}
use mathlib.Core.Option.{some}
use lib.ListN.{get_elem?}
use Rattle.atomic_table.specs.Table as table
use Rattle.atomic_table.proofs.Lists.{at_set, set_again}
use Rattle.sleep_core.specs.declared.event.Event.{Event}
use Rattle.sleep_core.specs.declared.answer.Answer.{Answer}
use Rattle.sleep_core.specs.declared.phase.Phase.{Phase}
use Rattle.sleep_core.specs.State.{State, phase_of}
use Rattle.sleep_core.specs.Table.{Cell, Word, pid_of, cell_of, reply}
use Rattle.sleep_core.specs.Table.Cell.{PostedOf, LevelOf, FlagsOf, NoCell}
use Rattle.sleep_core.specs.Step.{word_at, answer_to, world_after}
use Rattle.sleep_core.specs.EventTable.{HasWord, IsDue, word_after}
use Rattle.sleep_core.specs.Runs.{Entry, IsRun, world_of, own, kept}
use Rattle.sleep_core.proofs.EventTableLemmas.{row}
use Rattle.sleep_core.proofs.NoLostWakeup.{runs_are_sound}
use Rattle.rendez_words.specs.declared.view.Part.{Part}
use Rattle.rendez_words.specs.declared.view.Sizes.{Sizes}
use Rattle.rendez_words.specs.declared.view.View.{View}
use Rattle.rendez_words.specs.declared.view.View.TheVariants as view
use Rattle.rendez_words.specs.Plays.{Seated, IsStage, number_of, IsCellIn, part_after, IsStep}
use Rattle.rendez_words.specs.Plays.{HasMade, HasStepped, HasMadeWhereEmpty}
use Rattle.rendez_words.specs.Rule.{words_of, index_of, IsSeated, Fits, ShowsCore}
use Rattle.rendez_words.specs.View.{part_in}
use Rattle.rendez_words.proofs.IndexLemmas.{HasSizes, word_of_cell, read_there, words_after}
use Rattle.rendez_words.proofs.RunLemmas.{trace_more, fits_still, stage_of}

-- a run leaves a world of its sizes
pub sizes_of_run : (sizes : Sizes) (run : List Entry) → IsRun sizes.procs sizes.rendez run
    → HasSizes sizes (world_of sizes.procs sizes.rendez run)
sizes_of_run sizes run legal =
    let sound = runs_are_sound sizes.procs sizes.rendez run legal in
    record {
      posted = sound.rendez_stay;
      levels = sound.sound.whole.levels ∙ sound.rendez_stay;
      flags = sound.sound.whole.flags ∙ sound.procs_stay;
      phases = sound.procs_stay;
    }

has_word : (sizes : Sizes) (s : State) (cell : Cell) → HasSizes sizes s → IsCellIn sizes cell
    → HasWord s cell
has_word sizes s (PostedOf rendez) has there = subst (λ n. rendez < n) (sym has.posted) there
has_word sizes s (LevelOf rendez) has there = subst (λ n. rendez < n) (sym has.levels) there
has_word sizes s (FlagsOf pid) has there = subst (λ n. pid < n) (sym has.flags) there
has_word sizes s NoCell has there = tt

-- an event that a step makes, in the world that the run has left
pub record Comes (sizes : Sizes) (run : List Entry) (event : Event) (part : Part) (word : ℕ)
    (does : ℕ → ℕ) : Type 0 where
  -- the phase in which the event finds its process
  pub stage : Phase
  -- the word that it finds
  pub found : Word
  -- it is the phase that the steps of the process give; a note comes in any
  pub in_stage : IsStage part.trace event stage
  -- the word is the one that the world has in the event's cell
  pub found_is : found ≡ word_at (world_of sizes.procs sizes.rendez run) (cell_of event stage)
  -- a world of these sizes has that cell
  pub there : IsCellIn sizes (cell_of event stage)
  -- the world answers the event as its row of the table says
  pub answered : answer_to (world_of sizes.procs sizes.rendez run) event ≡ reply event stage found
  -- the table has that word's number at this index
  pub read : get_or (words_of (world_of sizes.procs sizes.rendez run)) word 0 ≡ number_of found
  -- the words after the event are those before it, with what the step makes of this one
  pub written : words_of (world_after (world_of sizes.procs sizes.rendez run) event)
      ≡ set (words_of (world_of sizes.procs sizes.rendez run)) word (does (number_of found))

-- each step makes its event so, in any world that a run has left
pub comes : (sizes : Sizes) (run : List Entry) (event : Event) (part : Part) (word : ℕ) (does : ℕ
    → ℕ)
    → IsRun sizes.procs sizes.rendez run → part.trace ≡ kept (own part.pid run)
    → IsStep sizes event part word does → Comes sizes run event part word does
comes sizes run event part word does legal trace_is step =
    record {
      stage = stage;
      found = found;
      in_stage = in_stage;
      found_is = refl;
      there = there;
      answered = answered;
      read = ap (λ i. get_or (words_of w) i 0) at_word
          ∙ read_there sizes w (cell_of event stage) has there;
      written = words_after sizes w event has there answered
          ∙ ap (λ i. set (words_of w) i (number_of (word_after event stage found))) (sym at_word)
          ∙ ap (set (words_of w) word) (sym (step.does_is stage in_stage found
          (subst (λ cell. Rattle.rendez_words.specs.Plays.IsWordOf cell found) cell_is
          (word_of_cell sizes w (cell_of event stage) there))));
    }
  where
    w : State
    w = world_of sizes.procs sizes.rendez run

    has : HasSizes sizes w
    has = sizes_of_run sizes run legal

    stage : Phase
    stage = phase_of w (pid_of event).0

    in_stage : IsStage part.trace event stage
    in_stage =
        stage_of sizes.procs sizes.rendez run part.pid part.trace event legal trace_is step.maker_is

    cell_is : cell_of event stage ≡ step.cell
    cell_is = step.cell_is stage in_stage

    there : IsCellIn sizes (cell_of event stage)
    there = subst (IsCellIn sizes) (sym cell_is) step.cell_in

    found : Word
    found = word_at w (cell_of event stage)

    at_word : word ≡ index_of sizes (cell_of event stage)
    at_word = step.word_is ∙ ap (index_of sizes) (sym cell_is)

    due : IsDue w event stage found
    due =
        record {
          exists = subst (λ n. (pid_of event).0 < n) (sym has.phases) step.pid_in;
          in_phase = refl;
          has_word = has_word sizes w (cell_of event stage) has there;
          is_word = refl;
        }

    answered : answer_to w event ≡ reply event stage found
    answered = (row w event stage found due).answered

-- the words after the step are those of the longer run
pub words_step : (sizes : Sizes) (run : List Entry) (event : Event) (part : Part) (word : ℕ)
    (does : ℕ → ℕ) (words : List ℕ)
    → words ≡ words_of (world_of sizes.procs sizes.rendez run)
    → Comes sizes run event part word does
    → set words word (does (get_or words word 0))
    ≡ words_of (world_after (world_of sizes.procs sizes.rendez run) event)
words_step sizes run event part word does words is next =
    ap (λ xs. set xs word (does (get_or xs word 0))) is
    ∙ ap (λ n. set (words_of (world_of sizes.procs sizes.rendez run)) word (does n)) next.read
    ∙ sym next.written

-- the seat of one process makes an event
step_keeps_at : (sizes : Sizes) (slots id : ℕ) (part : Part) (event : Event) (word : ℕ) (does : ℕ
    → ℕ) → IsStep sizes event part word does
    → table.Allows (ShowsCore sizes) slots id (view.Process part, []) word does
    (λ found after. HasStepped sizes event (view.Process part, []) found after)
step_keeps_at sizes slots id part event word does step s rule _ at _ = (
  view.Process after,
  table.keeps,
  tt,
  record {
    run = entry ∷ rule.run;
    owner = rule.owner;
    legal = legal;
    words = words_step sizes rule.run event part word does s.words rule.words next;
    each_seat = λ seat known there.
        ⊎_elim (λ here. subst (Fits sizes.procs (entry ∷ rule.run) rule.owner seat) here.1
        (subst (λ j. Fits sizes.procs (entry ∷ rule.run) rule.owner j (view.Process after))
        (sym here.0) mine))
        (λ else. fits_still sizes.procs entry rule.run rule.owner seat known
        (λ same. else.0 (sym same ∙ seated.owner_is)) (rule.each_seat seat known else.1))
        (at_set s.views id seat (view.Process after) known there);
  },
  record {
    made = record {
      stage = next.stage;
      word = next.found;
      in_stage = next.in_stage;
      word_is = subst (Rattle.rendez_words.specs.Plays.IsWordOf (cell_of event next.stage))
          (sym next.found_is) (word_of_cell sizes (world_of sizes.procs sizes.rendez rule.run)
          (cell_of event next.stage) next.there);
      found_is = ap (λ xs. get_or xs word 0) rule.words ∙ next.read;
      after_is = refl;
      run = record { run = entry ∷ rule.run; legal = legal; trace_is = trace };
    };
    seat = refl;
  },
)
  where
    seated : IsSeated sizes.procs rule.run rule.owner id part
    seated = rule.each_seat id (view.Process part) at

    next : Comes sizes rule.run event part word does
    next = comes sizes rule.run event part word does rule.legal seated.trace_is step

    told : Answer
    told = reply event next.stage next.found

    entry : Entry
    entry = record { maker = part.pid; event = event; answer = told }

    after : Part
    after = part_after event told part

    legal : IsRun sizes.procs sizes.rendez (entry ∷ rule.run)
    legal = (rule.legal, record { made = step.maker_is; answered = sym next.answered })

    trace : after.trace ≡ kept (own part.pid (entry ∷ rule.run))
    trace = trace_more part event told rule.run seated.trace_is

    mine : IsSeated sizes.procs (entry ∷ rule.run) rule.owner id after
    mine = record { pid_in = seated.pid_in; owner_is = seated.owner_is; trace_is = trace }

-- a step by a process's seat keeps the rule, and the seat has made the step's event
pub step_keeps : (sizes : Sizes) (slots id : ℕ) (me : Seated) (part : Part) (event : Event)
    (word : ℕ) (does : ℕ → ℕ) → me ≡ (view.Process part, []) → IsStep sizes event part word does
    → table.Allows (ShowsCore sizes) slots id me word does
    (λ found after. HasStepped sizes event me found after)
step_keeps sizes slots id me part event word does me_is step =
    subst (λ (m : Seated). table.Allows (ShowsCore sizes) slots id m word does
    (λ found after. HasStepped sizes event m found after)) (sym me_is)
    (step_keeps_at sizes slots id part event word does step)

-- a load by the seat of one process keeps the rule: where it finds the word empty it makes an event
-- that leaves it empty, and else nothing
pub where_empty_keeps : (sizes : Sizes) (slots id : ℕ) (part : Part) (event : Event) (word : ℕ)
    → IsStep sizes event part word (λ _. 0)
    → table.Allows (ShowsCore sizes) slots id (view.Process part, []) word (λ n. n)
    (λ found after. HasMadeWhereEmpty sizes event (view.Process part, []) found after)
where_empty_keeps sizes slots id part event word step s rule homes at range =
    ⊎_elim (λ empty. made empty.1) (λ taken. same taken.1) (eqb_tells (get_or s.words word 0) 0)
  where
    -- what is asked of a step that leaves this in the word
    Made : ℕ → Type 0
    Made left = (known : View) × (act : table.Act (Unit {0})) × table.Valid s.homes [] act
        × ShowsCore sizes (table.stepped s word left id [] known act)
        × HasMadeWhereEmpty sizes event (view.Process part, []) (get_or s.words word 0)
        (known, table.carried_after [] act)

    made : get_or s.words word 0 ≡ 0 → Made (get_or s.words word 0)
    made empty =
        let next = step_keeps_at sizes slots id part event word (λ _. 0) step s rule homes at range
        in subst Made (sym empty) (
          next.0,
          next.1,
          next.2,
          next.3,
          record {
            made = λ _. subst (λ found. HasMade sizes event part found (part_in next.0)) empty
                next.4.made;
            same = λ taken. absurd (taken empty);
            seat = next.4.seat;
          },
        )

    same : get_or s.words word 0 ≢ 0 → Made (get_or s.words word 0)
    same taken = (
      view.Process part,
      table.keeps,
      tt,
      record {
        run = rule.run;
        owner = rule.owner;
        legal = rule.legal;
        words = set-get_or s.words word 0 ∙ rule.words;
        each_seat = subst (λ (views : List View). (seat : ℕ) (known : View)
            → get_elem? views seat ≡ some known
            → Fits sizes.procs rule.run rule.owner seat known)
            (sym (set_again s.views id (view.Process part) at)) rule.each_seat;
      },
      record { made = λ empty. absurd (taken empty); same = λ _. refl; seat = refl },
    )
