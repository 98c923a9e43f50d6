-- What no script does at its lines: each against one row of what its calls promise, or what that
-- row gives.
use Rattle.std.proofs.Common.{◌≡◌, ◌<◌, ℕ, List, [], ◌∷◌, length, Some, None, Bor, ap}
use Rattle.std.proofs.Common.{arith, length-append}
use Rattle.sync_base.specs.Pipe.{PipeState}
use Rattle.sync_base.specs.PlainPipe.{Contents, Shows}
use Rattle.sleep_core.specs.State.{State}
use Rattle.scripts.specs.declared.lines.TheConstants.{LINE_FEED}
use Rattle.scripts.specs.PipeLine.{IsAnswered}
use Rattle.scripts.specs.Schedule.{IsWorld}
use Rattle.scripts.specs.Script.{Answered, AnswersFirst, Following, Growth, IsShorter, Opens}
use Rattle.scripts.specs.Script.{growth}

module _ {S : Type 0} (follows : Following S) (text : List ℕ) where
  the_next_line_is_passed : (rest : Bor (List ℕ)) (output : Growth)
      → AnswersFirst follows text (Some rest) output → length rest.now < length text
  the_next_line_is_passed rest output answers = answers.shorter

  who_is_stuck_writes_nothing : ¬ AnswersFirst follows text None (growth [] (1 ∷ []))
  who_is_stuck_writes_nothing answers =
      let none : 1 ≡ 0 = ap length answers.1 in omega (arith, none)

nothing_is_left_of_no_text : (rest : Bor (List ℕ)) → ¬ IsShorter (Some rest) []
nothing_is_left_of_no_text rest shorter =
    let less : length rest.now < 0 = shorter in omega (arith, less)

a_first_line_of_the_grammar_opens : {T S : Type 0} (stands : T → S → Type 0) (s : S)
    → ¬ Opens stands (Some s) None
a_first_line_of_the_grammar_opens stands s opens = opens

module _ (answered : Answered PipeState) (kept : Contents) where
  the_pipe_shows_the_state_after : (old new : List ℕ) → IsAnswered answered kept old new
      → Shows kept answered.after
  the_pipe_shows_the_state_after old new is = is.state

  an_answer_has_a_line_end : ¬ IsAnswered answered kept [] []
  an_answer_has_a_line_end is =
      let none = ap length is.text in
      omega (arith, none, length-append answered.text (LINE_FEED ∷ []))

a_world_stands_for_no_other : (world state : State) → IsWorld world state → world ≡ state
a_world_stands_for_no_other world state is = is
