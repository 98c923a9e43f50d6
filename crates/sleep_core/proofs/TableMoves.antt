-- Each row of the table is a move.
use Rattle.std.proofs.Common.{◌≡◌, ◌≢◌, ◌<◌, ◌≤◌, ◌+◌, ◌-◌, ◌==◌, ℕ, Bool, true, false, nat_lt}
use Rattle.std.proofs.Common.{if◌then◌else◌, Some, None, length, refl, sym, ◌∙◌, ap, subst, arith}
use Rattle.std.proofs.lemmas.Bool.Decides.{Decides-eqb, Decides-ltb}
use Rattle.std.proofs.lemmas.List.{set-get_or}
use Rattle.sync_base.specs.declared.ids.Pid.{Pid}
use Rattle.sync_base.specs.declared.ids.RendezId.{RendezId}
use Rattle.sync_base.specs.declared.limits.TheConstants.{TOP_LEVEL}
use Rattle.sync_base.specs.declared.note.NoteSet.{NoteSet}
use Rattle.sync_base.specs.NoteSet.{joined}
use Rattle.sleep_core.specs.declared.event.Event.{Event}
use Rattle.sleep_core.specs.declared.event.Event.TheVariants.{Post, Test, Look, Withdraw, Clear}
use Rattle.sleep_core.specs.declared.event.Event.TheVariants.{Raise, Take, Mark, Note, Drain, Check}
use Rattle.sleep_core.specs.declared.answer.Answer.{Answer}
use Rattle.sleep_core.specs.declared.answer.Answer.TheVariants as answer
use Rattle.sleep_core.specs.declared.phase.Phase.{Phase}
use Rattle.sleep_core.specs.declared.phase.Phase.TheVariants as phase
use Rattle.sleep_core.specs.State.{State, phase_of, flags_of, posted_of, level_of, no_flags}
use Rattle.sleep_core.specs.Table.{Wakeup, pid_of, phase_after, returned_by, has_notes}
use Rattle.sleep_core.specs.Table.Cell.{PostedOf}
use Rattle.sleep_core.specs.Table.Word.{Number}
use Rattle.sleep_core.specs.Step.{with_phase, with_flags, with_posted, with_returned, with_word}
use Rattle.sleep_core.specs.Step.{is_refusal, answer_in, answer_to, world_told, world_after}
use Rattle.sleep_core.specs.History.{effect_of}
use Rattle.sleep_core.specs.History.Effect.{Left, Missed, Noted, Drained}
use Rattle.sleep_core.proofs.Moves.{Move, IsOver}
use Rattle.sleep_core.proofs.Moves.Move.{stays, post_posted, test_leaving, test_asleep, look_woken}
use Rattle.sleep_core.proofs.Moves.Move.{look_leaving, withdraw_out, withdraw_awaiting, clear_ended}
use Rattle.sleep_core.proofs.Moves.Move.{raise_owing, take_nobody, take_holding, mark_marked}
use Rattle.sleep_core.proofs.Moves.Move.{note_noted, drain_notes}

-- both answers of a test
choose : (P : Bool → Type 0) (test : Bool) → (test ≡ true → P true) → (test ≡ false → P false)
    → P test
choose P true holds fails = holds refl
choose P false holds fails = fails refl

-- a write of what is there
with_phase-same : (s : State) (pid : ℕ) (stage : Phase) → phase_of s pid ≡ stage
    → with_phase s pid stage ≡ s
with_phase-same s pid stage at =
    ap (with_phase s pid) (sym at)
    ∙ ap (λ phases. record s { phases = phases }) (set-get_or s.phases pid phase.Idle)

with_posted-same : (s : State) (rendez word : ℕ) → posted_of s rendez ≡ word
    → with_posted s rendez word ≡ s
with_posted-same s rendez word at =
    ap (with_posted s rendez) (sym at)
    ∙ ap (λ posted. record s { posted = posted }) (set-get_or s.posted rendez 0)

-- the move of an event that is told this in this phase
abbrev pub MoveTold : State → Phase → Event → Answer → Type 0
MoveTold s stage event told = Move s (effect_of told event) (world_told s stage event told)

-- the same of the answer of the row
abbrev pub MoveIn : State → Phase → Event → Type 0
MoveIn s stage event = MoveTold s stage event (answer_in s stage event)

-- the row itself, where its word is there; else the event is refused
where_there : (s : State) (stage : Phase) (event : Event) (told : Answer) (there : Bool)
    → MoveTold s stage event told → MoveTold s stage event (if there then told else answer.NoRendez)
where_there s stage event told true move = move
where_there s stage event told false move = stays

-- what a test of numbers tells
above_from : (a b : ℕ) → nat_lt a b ≡ true → a < b
above_from a b test = (Decides-ltb a b).0 test

at_most_from : (a b : ℕ) → nat_lt a b ≡ false → b ≤ a
at_most_from a b test = by_order (λ below. against (true_is below) test)
  where
    true_is : a < b → nat_lt a b ≡ true
    true_is below = (Decides-ltb a b).1 below

    against : nat_lt a b ≡ true → nat_lt a b ≡ false → ⊥
    against is_true is_false = cc

    by_order : (a < b → ⊥) → b ≤ a
    by_order not_below = omega arith

same_from : (a b : ℕ) → (a == b) ≡ true → a ≡ b
same_from a b test = (Decides-eqb a b).0 test

differ_from : (a b : ℕ) → (a == b) ≡ false → a ≢ b
differ_from a b test same = against ((Decides-eqb a b).1 same) test
  where
    against : (a == b) ≡ true → (a == b) ≡ false → ⊥
    against is_true is_false = cc

post_moves : (s : State) (pid : Pid) (rendez : RendezId) (threshold : ℕ) → pid.0 < length s.phases
    → (stage : Phase) → phase_of s pid.0 ≡ stage → MoveIn s stage (Post pid rendez threshold)
post_moves s pid rendez threshold in_range phase.Idle at =
    choose (λ there. MoveTold s phase.Idle event (if there then told else answer.NoRendez))
    (nat_lt rendez.0 (length s.posted)) by_level (λ absent. stays)
  where
    event : Event
    event = Post pid rendez threshold

    at_word : Answer
    at_word = if posted_of s rendez.0 == 0 then answer.Posted else answer.DoubleSleep

    told : Answer
    told = if threshold == TOP_LEVEL then answer.BadLevel else at_word

    by_word : nat_lt rendez.0 (length s.posted) ≡ true → MoveTold s phase.Idle event at_word
    by_word there =
        choose (λ free. MoveTold s phase.Idle event
        (if free then answer.Posted else answer.DoubleSleep)) (posted_of s rendez.0 == 0)
        (λ free. post_posted in_range at (above_from rendez.0 (length s.posted) there)
        (same_from (posted_of s rendez.0) 0 free)) (λ taken. stays)

    by_level : nat_lt rendez.0 (length s.posted) ≡ true → MoveTold s phase.Idle event told
    by_level there =
        choose (λ top. MoveTold s phase.Idle event (if top then answer.BadLevel else at_word))
        (threshold == TOP_LEVEL) (λ top. stays) (λ below. by_word there)
post_moves s pid rendez threshold in_range stage at = stays

test_moves : (s : State) (pid : Pid) → pid.0 < length s.phases → (stage : Phase)
    → phase_of s pid.0 ≡ stage → MoveIn s stage (Test pid)
test_moves s pid in_range (phase.Posted rendez threshold) at =
    where_there s (phase.Posted rendez threshold) (Test pid)
    (if nat_lt threshold (level_of s rendez.0) then answer.Leaving else answer.Asleep)
    (nat_lt rendez.0 (length s.levels)) by_level
  where
    by_level : MoveTold s (phase.Posted rendez threshold) (Test pid)
        (if nat_lt threshold (level_of s rendez.0) then answer.Leaving else answer.Asleep)
    by_level =
        choose (λ above. MoveTold s (phase.Posted rendez threshold) (Test pid)
        (if above then answer.Leaving else answer.Asleep)) (nat_lt threshold (level_of s rendez.0))
        (λ above. test_leaving in_range at)
        (λ low. test_asleep in_range at (at_most_from threshold (level_of s rendez.0) low))
test_moves s pid in_range stage at = stays

look_moves : (s : State) (pid : Pid) → pid.0 < length s.phases → (stage : Phase)
    → phase_of s pid.0 ≡ stage → MoveIn s stage (Look pid)
look_moves s pid in_range (phase.Asleep rendez threshold) at =
    where_there s stage (Look pid) told (nat_lt pid.0 (length s.flags)) by_wake
  where
    stage : Phase
    stage = phase.Asleep rendez threshold

    at_notes : Answer
    at_notes = if has_notes (flags_of s pid.0).notes then answer.Leaving else answer.Parked

    told : Answer
    told = if (flags_of s pid.0).wake then answer.Woken else at_notes

    by_notes : MoveTold s stage (Look pid) at_notes
    by_notes =
        choose (λ noted. MoveTold s stage (Look pid)
        (if noted then answer.Leaving else answer.Parked)) (has_notes (flags_of s pid.0).notes)
        (λ noted. look_leaving in_range at noted)
        (λ none. subst (Move s None) (sym (with_phase-same s pid.0 stage at)) stays)

    by_wake : MoveTold s stage (Look pid) told
    by_wake =
        choose (λ wake. MoveTold s stage (Look pid) (if wake then answer.Woken else at_notes))
        (flags_of s pid.0).wake (λ wake. look_woken in_range at tt wake) (λ unmarked. by_notes)
look_moves s pid in_range phase.Awaiting at =
    where_there s phase.Awaiting (Look pid)
    (if (flags_of s pid.0).wake then answer.Woken else answer.Parked)
    (nat_lt pid.0 (length s.flags)) by_wake
  where
    by_wake : MoveTold s phase.Awaiting (Look pid)
        (if (flags_of s pid.0).wake then answer.Woken else answer.Parked)
    by_wake =
        choose (λ wake. MoveTold s phase.Awaiting (Look pid)
        (if wake then answer.Woken else answer.Parked)) (flags_of s pid.0).wake
        (λ wake. look_woken in_range at tt wake)
        (λ unmarked. subst (Move s None) (sym (with_phase-same s pid.0 phase.Awaiting at)) stays)
look_moves s pid in_range stage at = stays

withdraw_moves : (s : State) (pid : Pid) → pid.0 < length s.phases → (stage : Phase)
    → phase_of s pid.0 ≡ stage → MoveIn s stage (Withdraw pid)
withdraw_moves s pid in_range (phase.Leaving rendez) at =
    where_there s stage (Withdraw pid) (told (posted_of s rendez.0 == pid.0 + 1))
    (nat_lt rendez.0 (length s.posted)) by_word
  where
    stage : Phase
    stage = phase.Leaving rendez

    told : Bool → Answer
    told mine = if mine then answer.Out else answer.Awaiting

    after : Bool → State
    after mine =
        if is_refusal (told mine)
        then s
        else with_returned (with_phase
        (with_word s (PostedOf rendez.0) (if mine then Some (Number 0) else None)) pid.0
        (phase_after (told mine) (Withdraw pid) stage))
        (returned_by (told mine) (Withdraw pid) stage)

    by_word : Move s (effect_of (told (posted_of s rendez.0 == pid.0 + 1)) (Withdraw pid))
        (after (posted_of s rendez.0 == pid.0 + 1))
    by_word =
        choose (λ mine. Move s (effect_of (told mine) (Withdraw pid)) (after mine))
        (posted_of s rendez.0 == pid.0 + 1)
        (λ mine. withdraw_out in_range at (same_from (posted_of s rendez.0) (pid.0 + 1) mine))
        (λ other. withdraw_awaiting in_range at (differ_from (posted_of s rendez.0) (pid.0 + 1)
        other))
withdraw_moves s pid in_range stage at = stays

-- a sleep that is over, in either phase
ends : (s : State) (pid : Pid) (stage : Phase) → pid.0 < length s.phases → phase_of s pid.0 ≡ stage
    → IsOver stage → (some : Bool) → has_notes (flags_of s pid.0).notes ≡ some
    → Move s (Some (Left pid.0 (if some then Some (flags_of s pid.0).notes else None)))
    (with_phase (with_flags s pid.0 no_flags) pid.0 phase.Idle)
ends s pid stage in_range at over some is =
    subst (λ b. Move s (Some (Left pid.0 (if b then Some (flags_of s pid.0).notes else None)))
    (with_phase (with_flags s pid.0 no_flags) pid.0 phase.Idle)) is (clear_ended in_range at over)

clear_moves : (s : State) (pid : Pid) → pid.0 < length s.phases → (stage : Phase)
    → phase_of s pid.0 ≡ stage → MoveIn s stage (Clear pid)
clear_moves s pid in_range phase.Out at =
    where_there s phase.Out (Clear pid) (told (has_notes notes)) (nat_lt pid.0 (length s.flags))
    (choose (λ some. MoveTold s phase.Out (Clear pid) (told some)) (has_notes notes)
    (λ some. ends s pid phase.Out in_range at tt true some)
    (λ none. ends s pid phase.Out in_range at tt false none))
  where
    notes : NoteSet
    notes = (flags_of s pid.0).notes

    told : Bool → Answer
    told some = if some then answer.Interrupted notes else answer.Cleared
clear_moves s pid in_range phase.Woken at =
    where_there s phase.Woken (Clear pid) (told (has_notes notes)) (nat_lt pid.0 (length s.flags))
    (choose (λ some. MoveTold s phase.Woken (Clear pid) (told some)) (has_notes notes)
    (λ some. ends s pid phase.Woken in_range at tt true some)
    (λ none. ends s pid phase.Woken in_range at tt false none))
  where
    notes : NoteSet
    notes = (flags_of s pid.0).notes

    told : Bool → Answer
    told some = if some then answer.Interrupted notes else answer.Cleared
clear_moves s pid in_range stage at = stays

raise_moves : (s : State) (pid : Pid) (rendez : RendezId) (level : ℕ) → pid.0 < length s.phases
    → (stage : Phase) → phase_of s pid.0 ≡ stage → MoveIn s stage (Raise pid rendez level)
raise_moves s pid rendez level in_range phase.Idle at =
    choose (λ there. MoveTold s phase.Idle (Raise pid rendez level)
    (if there then answer.Owing else answer.NoRendez)) (nat_lt rendez.0 (length s.levels))
    (λ there. raise_owing in_range at (above_from rendez.0 (length s.levels) there)) (λ absent.
    stays)
raise_moves s pid rendez level in_range stage at = stays

take_moves : (s : State) (pid : Pid) → pid.0 < length s.phases → (stage : Phase)
    → phase_of s pid.0 ≡ stage → MoveIn s stage (Take pid)
take_moves s pid in_range (phase.Owing rendez level) at =
    where_there s stage (Take pid) (told (posted_of s rendez.0 == 0))
    (nat_lt rendez.0 (length s.posted))
    (choose (λ empty. MoveTold s stage (Take pid) (told empty)) (posted_of s rendez.0 == 0) nobody
    somebody)
  where
    stage : Phase
    stage = phase.Owing rendez level

    call : Wakeup
    call = record { rendez = rendez.0; level = level }

    told : Bool → Answer
    told empty =
        if empty then answer.Nobody else answer.Holding (record { 0 = posted_of s rendez.0 - 1 })

    nobody : (posted_of s rendez.0 == 0) ≡ true → MoveTold s stage (Take pid) (told true)
    nobody empty =
        subst (λ t. Move s (Some (Missed pid.0))
        (with_returned (with_phase t pid.0 phase.Idle) (Some call)))
        (sym (with_posted-same s rendez.0 0 (same_from (posted_of s rendez.0) 0 empty)))
        (take_nobody in_range at (same_from (posted_of s rendez.0) 0 empty))

    somebody : (posted_of s rendez.0 == 0) ≡ false → MoveTold s stage (Take pid) (told false)
    somebody full =
        let there : posted_of s rendez.0 ≢ 0 = differ_from (posted_of s rendez.0) 0 full in
        take_holding in_range at (omega arith)
take_moves s pid in_range stage at = stays

mark_moves : (s : State) (pid : Pid) → pid.0 < length s.phases → (stage : Phase)
    → phase_of s pid.0 ≡ stage → MoveIn s stage (Mark pid)
mark_moves s pid in_range (phase.Holding sleeper rendez level) at =
    where_there s (phase.Holding sleeper rendez level) (Mark pid) (answer.Marked sleeper)
    (nat_lt sleeper.0 (length s.flags)) (mark_marked in_range at)
mark_moves s pid in_range stage at = stays

note_moves : (s : State) (pid : Pid) (new : NoteSet) → pid.0 < length s.phases → (stage : Phase)
    → phase_of s pid.0 ≡ stage → MoveIn s stage (Note pid new)
note_moves s pid new in_range stage at =
    where_there s stage (Note pid new) answer.Noted (nat_lt pid.0 (length s.flags))
    (subst (Move s (Some (Noted pid.0 new))) (sym (with_phase-same noted pid.0 stage at))
    (note_noted in_range))
  where
    noted : State
    noted =
        with_flags s pid.0
        (record { wake = (flags_of s pid.0).wake; notes = joined (flags_of s pid.0).notes new })

drain_moves : (s : State) (pid : Pid) → pid.0 < length s.phases → (stage : Phase)
    → phase_of s pid.0 ≡ stage → MoveIn s stage (Drain pid)
drain_moves s pid in_range phase.Idle at =
    where_there s phase.Idle (Drain pid) (answer.Notes (flags_of s pid.0).notes)
    (nat_lt pid.0 (length s.flags))
    (subst (Move s (Some (Drained pid.0 (flags_of s pid.0).notes)))
    (sym (with_phase-same (with_flags s pid.0 no_flags) pid.0 phase.Idle at))
    (drain_notes in_range at))
drain_moves s pid in_range stage at = stays

check_moves : (s : State) (pid : Pid) → pid.0 < length s.phases → (stage : Phase)
    → phase_of s pid.0 ≡ stage → MoveIn s stage (Check pid)
check_moves s pid in_range (phase.Asleep rendez threshold) at =
    where_there s stage (Check pid) (told (posted_of s rendez.0 == pid.0 + 1))
    (nat_lt rendez.0 (length s.posted))
    (choose (λ mine. MoveTold s stage (Check pid) (told mine)) (posted_of s rendez.0 == pid.0 + 1)
    (λ mine. unchanged) (λ other. unchanged))
  where
    stage : Phase
    stage = phase.Asleep rendez threshold

    told : Bool → Answer
    told mine = if mine then answer.Posted else answer.Released

    unchanged : Move s None (with_phase s pid.0 stage)
    unchanged = subst (Move s None) (sym (with_phase-same s pid.0 stage at)) stays
check_moves s pid in_range stage at = stays

row_moves : (s : State) (event : Event) → (pid_of event).0 < length s.phases
    → MoveIn s (phase_of s (pid_of event).0) event
row_moves s (Post pid rendez threshold) in_range =
    post_moves s pid rendez threshold in_range (phase_of s pid.0) refl
row_moves s (Test pid) in_range = test_moves s pid in_range (phase_of s pid.0) refl
row_moves s (Look pid) in_range = look_moves s pid in_range (phase_of s pid.0) refl
row_moves s (Withdraw pid) in_range = withdraw_moves s pid in_range (phase_of s pid.0) refl
row_moves s (Clear pid) in_range = clear_moves s pid in_range (phase_of s pid.0) refl
row_moves s (Raise pid rendez level) in_range =
    raise_moves s pid rendez level in_range (phase_of s pid.0) refl
row_moves s (Take pid) in_range = take_moves s pid in_range (phase_of s pid.0) refl
row_moves s (Mark pid) in_range = mark_moves s pid in_range (phase_of s pid.0) refl
row_moves s (Note pid new) in_range = note_moves s pid new in_range (phase_of s pid.0) refl
row_moves s (Drain pid) in_range = drain_moves s pid in_range (phase_of s pid.0) refl
row_moves s (Check pid) in_range = check_moves s pid in_range (phase_of s pid.0) refl

-- every event is a move
pub table_moves : (s : State) (event : Event)
    → Move s (effect_of (answer_to s event) event) (world_after s event)
table_moves s event =
    choose (λ exists. MoveTold s (phase_of s (pid_of event).0) event
    (if exists then answer_in s (phase_of s (pid_of event).0) event else answer.NoProc))
    (nat_lt (pid_of event).0 (length s.phases))
    (λ exists. row_moves s event (above_from (pid_of event).0 (length s.phases) exists))
    (λ absent. stays)
