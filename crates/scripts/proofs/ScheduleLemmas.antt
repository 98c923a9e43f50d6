-- A schedule comes only to worlds that events from the opening one lead to, and in those no wakeup
-- is lost.
use Rattle.std.proofs.Common.{◌≡◌, ℕ, Bool, true, false, List, [], ◌∷◌, ◌++◌, codes, Option, None}
use Rattle.std.proofs.Common.{Some, refl, ap, sym, subst, ◌∙◌}
use Rattle.sleep_core.specs.declared.event.Event.{Event}
use Rattle.sleep_core.specs.State.{State, opening}
use Rattle.sleep_core.specs.Step.{answer_to, world_after}
use Rattle.sleep_core.specs.Runs.{world_after_all}
use Rattle.sleep_core.specs.LostWakeup.{HasLostWakeup, has_lost_wakeup}
use Rattle.sleep_core.proofs.LostWakeupLemmas.{decides_lost}
use Rattle.scripts.specs.declared.event_line.Size.{Size}
use Rattle.scripts.specs.declared.lines.TheConstants.{LINE_FEED}
use Rattle.scripts.specs.Lines.{words_of}
use Rattle.scripts.specs.Script.{Answered}
use Rattle.scripts.specs.Schedule.{schedule_language, size_of, event_of, events_of}
use Rattle.scripts.specs.EventText.{event_text}
use Rattle.scripts.specs.ScriptLaws.{answers_of, NoScheduleSaysLost}
use Rattle.scripts.proofs.TranscriptLemmas.{Stays}
use Rattle.scripts.proofs.ScriptLawLemmas.{closing_line_kept}

-- events lead to this world from one of some size
pub record IsReached (state : State) : Type 0 where
  -- so many processes are in that world
  pub procs : ℕ
  -- and so many Rendez
  pub rendez : ℕ
  -- the events that were made in it
  pub events : List Event
  -- they lead from its opening to this state
  pub is : state ≡ world_after_all (opening procs rendez) events

-- some events more
after_more : (state : State) (events more : List Event)
    → world_after_all state (events ++ more) ≡ world_after_all (world_after_all state events) more
after_more state [] more = refl
after_more state (first ∷ events) more = after_more (world_after state first) events more

-- a first line opens a world to which no events lead
opened_is_reached : (line : List ℕ) (state : State) → schedule_language.opened_by line ≡ Some state
    → IsReached state
opened_is_reached line state is = by_size (size_of (words_of line)) refl
  where
    by_size : (size : Option Size) → size_of (words_of line) ≡ size → IsReached state
    by_size None none = let bad = rw none at is in absurd (cc)
    by_size (Some size) some =
        let opened : Some (opening size.procs size.rendez) ≡ Some state = rw some at is in
        record { procs = size.procs; rendez = size.rendez; events = []; is = cc }

-- and each answer comes from a world to which more events lead
answered_is_reached : (state : State) (line : List ℕ) (answered : Answered State) → IsReached state
    → schedule_language.answer_to state line ≡ Some answered → IsReached answered.after
answered_is_reached state line answered reached is = by_events (events_of (words_of line)) refl
  where
    by_events : (events : Option (List Event)) → events_of (words_of line) ≡ events
        → IsReached answered.after
    by_events None none = let bad = rw none at is in absurd (cc)
    by_events (Some events) some =
        let answer = rw some at is in
        let after : answered.after ≡ world_after_all state events = cc in
        record {
          procs = reached.procs;
          rendez = reached.rendez;
          events = reached.events ++ events;
          is = after ∙ (ap (λ s. world_after_all s events) reached.is
              ∙ sym (after_more (opening reached.procs reached.rendez) reached.events events));
        }

-- what a world in which no wakeup is lost is told
says_not_lost : (state : State) → has_lost_wakeup state ≡ false
    → schedule_language.closing_line state ≡ codes "lost no" ++ LINE_FEED ∷ []
says_not_lost state not_lost = rw not_lost refl

-- where no events lead to a lost wakeup, no schedule says that one was lost
pub says_none_lost :
    ((procs rendez : ℕ) (events : List Event)
    → ¬ (HasLostWakeup (world_after_all (opening procs rendez) events)))
    → NoScheduleSaysLost
says_none_lost none_lost input none =
    let (state, reached, is) = closing_line_kept schedule_language IsReached stays input none in
    is ∙ ap (λ text. answers_of schedule_language input ++ text)
    (says_not_lost state (is_not_lost state reached))
  where
    stays : Stays schedule_language IsReached
    stays = record { opened = opened_is_reached; answered = answered_is_reached }

    is_not_lost : (state : State) → IsReached state → has_lost_wakeup state ≡ false
    is_not_lost state reached = by_test (has_lost_wakeup state) refl
      where
        by_test : (lost : Bool) → has_lost_wakeup state ≡ lost → has_lost_wakeup state ≡ false
        by_test false is = is
        by_test true is =
            let here : HasLostWakeup
            (world_after_all (opening reached.procs reached.rendez) reached.events) =
            subst HasLostWakeup reached.is ((decides_lost state).0 is) in
            absurd (none_lost reached.procs reached.rendez reached.events here)

-- a line whose words ask for an event is answered as that event
pub event_answered : (s : State) (line : List ℕ) (words : List (List ℕ)) (event : Event)
    → words_of line ≡ words → event_of words ≡ Some event
    → schedule_language.answer_to s line
    ≡ Some (record { text = event_text (answer_to s event); after = world_after s event })
event_answered s line words event is asks = rw (is, asks) refl
