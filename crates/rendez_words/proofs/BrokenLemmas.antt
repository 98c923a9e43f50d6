-- Why the rule does not allow these states, and why it allows the last.
use Rattle.std.proofs.Common.{◌≡◌, ◌++◌, ◌≤◌, ℕ, zero, suc, Bool, false}
use Rattle.std.proofs.Common.{List, [], ◌∷◌, get_or, length, refl, sym, ◌∙◌, ap, subst, arith, inl}
use Rattle.std.proofs.lemmas.List.{get_or_past}
use mathlib.Core.Option.{some, some-injective, some-ne-none}
use lib.ListN.{get_elem?}
use Rattle.sync_base.specs.declared.note.Note.TheVariants.{Interrupt, Hangup, Alarm, ClosedPipe}
use Rattle.sync_base.specs.declared.note.Note.TheVariants.{Expired}
use Rattle.sync_base.specs.NoteSet.{holds}
use Rattle.sleep_core.specs.declared.phase.Phase.TheVariants as phase
use Rattle.sleep_core.specs.State.{State, phase_of, flags_of, posted_of}
use Rattle.sleep_core.specs.Table.{Cell}
use Rattle.sleep_core.specs.Table.Cell.{PostedOf, FlagsOf}
use Rattle.sleep_core.specs.Step.{word_at}
use Rattle.sleep_core.specs.Runs.{world_of, phase_by}
use Rattle.sleep_core.specs.SleepPlaces.{Place, IsAt, IsHolding, IsInSleep, MayBePosted, WordsAgree}
use Rattle.sleep_core.specs.SleepPlaces.Place.{IsPostedIn, IsHeldBy, IsMarked, IsOut}
use Rattle.sleep_core.proofs.NoLostWakeup.{runs_are_sound}
use Rattle.sleep_core.proofs.OwnEvents.{phase_by-own}
use Rattle.rendez_words.specs.declared.view.Sizes.{Sizes}
use Rattle.rendez_words.specs.declared.view.View.{View}
use Rattle.rendez_words.specs.declared.view.View.TheVariants as view
use Rattle.rendez_words.specs.Broken.{Shown, with_procs, part, known, the_rendez}
use Rattle.rendez_words.specs.Broken.{has_posted, fell_asleep, has_raised, found_nobody}
use Rattle.rendez_words.specs.Broken.{wakeup_is_lost, sleeper_is_nowhere, mark_is_stray}
use Rattle.rendez_words.specs.Broken.{stranger_is_posted, stranger_has_a_seat}
use Rattle.rendez_words.specs.Broken.{process_has_two_seats, process_to_come_has_a_seat}
use Rattle.rendez_words.specs.Broken.{process_to_come_is_posted, process_is_joined_with_itself}
use Rattle.rendez_words.specs.Broken.{wakeup_goes_on}
use Rattle.rendez_words.specs.Plays.{number_of, IsCellIn}
use Rattle.rendez_words.specs.Rule.{ShowsCore, Fits, index_of}
use Rattle.rendez_words.proofs.FlagsLemmas.{lowest}
use Rattle.rendez_words.proofs.LawLemmas.{sleepers_have_places, seats_know, receipts_release}
use Rattle.rendez_words.proofs.IndexLemmas.{read_there}
use Rattle.rendez_words.proofs.StepKeeps.{sizes_of_run}

-- the world that the rule gives
abbrev world : (sizes : Sizes) (s : Shown) → ShowsCore sizes s → State
world sizes s shows = world_of sizes.procs sizes.rendez shows.run

-- what a word says of that world
said : (sizes : Sizes) (s : Shown) (shows : ShowsCore sizes s) (cell : Cell) → IsCellIn sizes cell
    → get_or s.words (index_of sizes cell) 0 ≡ number_of (word_at (world sizes s shows) cell)
said sizes s shows cell there =
    ap (λ words. get_or words (index_of sizes cell) 0) shows.words
    ∙ read_there sizes (world sizes s shows) cell (sizes_of_run sizes shows.run shows.legal) there

-- the bits of the flags of process 0 above its mark
abbrev others_of : State → List Bool
others_of state =
    let notes = (flags_of state 0).notes in
    holds notes Interrupt ∷ holds notes Hangup ∷ holds notes Alarm ∷ holds notes ClosedPipe
    ∷ holds notes Expired ∷ []

-- the receipt of the raiser says that the sleeper is released
pub no_wakeup_is_lost : ¬ (ShowsCore (with_procs 2) wakeup_is_lost)
no_wakeup_is_lost shows =
    let asleep = seats_know (with_procs 2) wakeup_is_lost shows 0 (part 0 fell_asleep) refl in
    let posted = sym (said (with_procs 2) wakeup_is_lost shows (PostedOf 0) (omega arith)) in
    let releases =
    receipts_release (with_procs 2) wakeup_is_lost shows 1 (part 1 found_nobody) the_rendez 1 refl
    (inl refl) in
    let below : 1 ≤ 0 = releases.released 0 0 asleep posted in
    omega (arith, below)

-- nobody else is there to hold the sleeper
held_by_none : (shows : ShowsCore (with_procs 1) sleeper_is_nowhere) (raiser : ℕ)
    → ¬ (IsHolding 0 (phase_of (world (with_procs 1) sleeper_is_nowhere shows) raiser))
held_by_none shows zero holding =
    subst (IsHolding 0)
    (seats_know (with_procs 1) sleeper_is_nowhere shows 0 (part 0 has_posted) refl) holding
held_by_none shows (suc raiser) holding =
    let sizes = runs_are_sound 1 1 shows.run shows.legal in
    let phases = (world (with_procs 1) sleeper_is_nowhere shows).phases in
    let past : length phases ≤ suc raiser = omega (arith, sizes.procs_stay) in
    subst (IsHolding 0) (get_or_past phases (suc raiser) phase.Idle past) holding

-- it is in no Rendez, held by nobody, not marked, and has not withdrawn
in_no_place : (shows : ShowsCore (with_procs 1) sleeper_is_nowhere)
    → let state = world (with_procs 1) sleeper_is_nowhere shows in
    phase_of state 0 ≡ phase.Posted the_rendez 0 → WordsAgree state → (at : Place)
    → ¬ (IsAt state 0 at)
in_no_place shows posted agree (IsPostedIn rendez) there =
    let state = world (with_procs 1) sleeper_is_nowhere shows in
    let here : 0 ≡ rendez = subst (MayBePosted rendez) posted (agree.posted 0 rendez there) in
    let found = said (with_procs 1) sleeper_is_nowhere shows (PostedOf 0) (omega arith) in
    omega (arith, found, ap (posted_of state) here, there)
in_no_place shows posted agree (IsHeldBy raiser) there = held_by_none shows raiser there
in_no_place shows posted agree IsMarked there =
    let state = world (with_procs 1) sleeper_is_nowhere shows in
    let found = said (with_procs 1) sleeper_is_nowhere shows (FlagsOf 0) (omega arith) in
    let unmarked : false ≡ (flags_of state 0).wake = lowest _ (others_of state) 0 found in
    cc
in_no_place shows posted agree IsOut there = cc

-- a process that has posted itself is posted, held or marked, and here it is none
pub no_sleeper_is_nowhere : ¬ (ShowsCore (with_procs 1) sleeper_is_nowhere)
no_sleeper_is_nowhere shows =
    let posted = seats_know (with_procs 1) sleeper_is_nowhere shows 0 (part 0 has_posted) refl in
    let places = sleepers_have_places (with_procs 1) sleeper_is_nowhere shows in
    let place = places.sleepers 0 (subst IsInSleep (sym posted) tt) in
    in_no_place shows posted places.words place.place place.is_there

-- a process in no sleep is not marked
pub no_mark_is_stray : ¬ (ShowsCore (with_procs 1) mark_is_stray)
no_mark_is_stray shows =
    let state = world (with_procs 1) mark_is_stray shows in
    let idle : phase_of state 0 ≡ phase.Idle =
    seats_know (with_procs 1) mark_is_stray shows 0 (part 0 []) refl in
    let found = said (with_procs 1) mark_is_stray shows (FlagsOf 0) (omega arith) in
    let marked = sym (lowest _ (others_of state) 1 found) in
    (sleepers_have_places (with_procs 1) mark_is_stray shows).others 0
    (λ asleep. subst IsInSleep idle asleep) IsMarked marked

-- whoever is posted is there
pub no_stranger_is_posted : ¬ (ShowsCore (with_procs 1) stranger_is_posted)
no_stranger_is_posted shows =
    let sizes = runs_are_sound 1 1 shows.run shows.legal in
    let found = said (with_procs 1) stranger_is_posted shows (PostedOf 0) (omega arith) in
    omega (arith, found, sizes.sound.whole.posted 0, sizes.procs_stay)

-- and no seat is one of a process that the world has not
pub no_stranger_has_a_seat : ¬ (ShowsCore (with_procs 1) stranger_has_a_seat)
no_stranger_has_a_seat shows = let seated = shows.each_seat 0 (known 1 []) refl in
    omega (arith, seated.pid_in)

-- a process has one seat
pub no_process_has_two_seats : ¬ (ShowsCore (with_procs 1) process_has_two_seats)
no_process_has_two_seats shows =
    let first = shows.each_seat 0 (known 0 []) refl in
    let second = shows.each_seat 1 (known 0 []) refl in
    omega (arith, first.owner_is, second.owner_is)

-- and one to come has none of its own
pub no_process_to_come_has_a_seat : ¬ (ShowsCore (with_procs 1) process_to_come_has_a_seat)
no_process_to_come_has_a_seat shows =
    let to_come = shows.each_seat 0 (view.Pids 0) refl 0 (omega arith) in
    let seated = shows.each_seat 1 (known 0 []) refl in
    omega (arith, to_come.owner_is, seated.owner_is)

-- a process to come is in no sleep, so it is not posted
pub no_process_to_come_is_posted : ¬ (ShowsCore (with_procs 1) process_to_come_is_posted)
no_process_to_come_is_posted shows =
    let state = world (with_procs 1) process_to_come_is_posted shows in
    let to_come = shows.each_seat 0 (view.Pids 0) refl 0 (omega arith) in
    let idle : phase_of state 0 ≡ phase.Idle =
    sym (phase_by-own 1 1 shows.run shows.legal 0) ∙ ap phase_by to_come.none in
    let found = said (with_procs 1) process_to_come_is_posted shows (PostedOf 0) (omega arith) in
    let places = sleepers_have_places (with_procs 1) process_to_come_is_posted shows in
    subst (MayBePosted 0) idle (places.words.posted 0 0 (sym found))

-- two processes are joined
pub no_process_is_joined_with_itself : ¬ (ShowsCore (with_procs 1) process_is_joined_with_itself)
no_process_is_joined_with_itself shows =
    (shows.each_seat 0 (view.Joined (part 0 []) (part 0 [])) refl).differ refl

-- the run is that of the sleeper's steps and then the raiser's
pub a_wakeup_goes_on : ShowsCore (with_procs 2) wakeup_goes_on
a_wakeup_goes_on =
    record {
      run = has_raised ++ fell_asleep;
      owner = λ pid. pid;
      legal = (
        ((tt, record { made = refl; answered = refl }), record { made = refl; answered = refl }),
        record { made = refl; answered = refl },
      );
      words = refl;
      each_seat = each_seat;
    }
  where
    each_seat : (seat : ℕ) (seen : View)
        → get_elem? (known 0 fell_asleep ∷ known 1 has_raised ∷ []) seat ≡ some seen
        → Fits 2 (has_raised ++ fell_asleep) (λ pid. pid) seat seen
    each_seat zero seen at =
        subst (Fits 2 (has_raised ++ fell_asleep) (λ pid. pid) 0)
        (some-injective (known 0 fell_asleep) seen at)
        record { pid_in = omega arith; owner_is = refl; trace_is = refl }
    each_seat (suc zero) seen at =
        subst (Fits 2 (has_raised ++ fell_asleep) (λ pid. pid) 1)
        (some-injective (known 1 has_raised) seen at)
        record { pid_in = omega arith; owner_is = refl; trace_is = refl }
    each_seat (suc (suc seat)) seen at = absurd (some-ne-none seen (sym at))
