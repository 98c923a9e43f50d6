-- Short histories and accounts, computed: each definition is used, and each has an example that
-- would come out otherwise without it.
use Rattle.std.proofs.Common.{◌≡◌, ℕ, ◌+◌, ◌<◌, ◌≤◌, true, false, List, [], ◌∷◌, map}
use Rattle.std.proofs.Common.{refl, arith, ap, sym, ◌∙◌, length, ◌++◌}
use Rattle.histories.specs.declared.account.Account.{Account}
use Rattle.histories.specs.History.{Meaning, IsPast, IsLegal, entries_by, state_after}
use Rattle.histories.specs.Account.{HasAllNumbers, first_account, numbers_from}
use Rattle.histories.specs.Account.{longer_of, shorter_of, share_after, unused_share}
use Rattle.histories.specs.Changes.{child_account, entered_account, joined_account, parent_account}
use Rattle.histories.specs.Changes.{AddsEntry, GivesNumber, JoinsAccounts, LooksAt}
use Rattle.histories.specs.Ledger.{Ledger, AreSeats, ledger_gave, ledger_with, opening_ledger}
use Rattle.histories.specs.Time.{KeepsTime}
use Rattle.histories.proofs.ListLemmas.{past_refl, past_nil}
use Rattle.histories.proofs.SeatsKeep.{seats_open, seats_split, seats_enter}
use Rattle.histories.proofs.TimeLemmas.{keeps_time, stays_own}

-- a jar of coins: a seat puts coins in, or takes some that are there
data Move : Type 0 where
  puts : (by coins : ℕ) → Move
  takes : (by coins : ℕ) → Move

abbrev by : Move → ℕ
by (puts seat coins) = seat
by (takes seat coins) = seat

abbrev MayBe : ℕ → Move → Type 0
MayBe held (puts seat coins) = 0 < coins
MayBe held (takes seat coins) = coins ≤ held

abbrev held_after : ℕ → Move → ℕ
held_after held (puts seat coins) = held + coins
held_after held (takes seat coins) = 0

abbrev jar : Meaning ℕ Move
jar = record { by = by; IsRight = MayBe; after = held_after }

-- newest first: seat 0 puts 2, seat 1 puts 3, seat 0 takes 5
abbrev day : List Move
day = takes 0 5 ∷ puts 1 3 ∷ puts 0 2 ∷ []

-- an entry comes after its past, so the jar is empty at the end of the day
the_day_ends_empty : state_after jar 0 day ≡ 0
the_day_ends_empty = refl

-- read the other way round it would not be
the_day_backwards : state_after jar 0 (puts 0 2 ∷ puts 1 3 ∷ takes 0 5 ∷ []) ≡ 5
the_day_backwards = refl

the_day_is_legal : IsLegal jar 0 day
the_day_is_legal = (omega arith, (omega arith, (omega arith, tt)))

-- nobody takes what is not there yet
taking_too_early : IsLegal jar 0 (puts 0 2 ∷ takes 1 1 ∷ []) → ⊥
taking_too_early legal = let early = legal.1.0 in omega arith

-- the opening counts
taking_what_was_there : IsLegal jar 1 (puts 0 2 ∷ takes 1 1 ∷ [])
taking_what_was_there = (omega arith, (omega arith, tt))

-- the entries by a seat, in their order
by_the_first : entries_by by 0 day ≡ takes 0 5 ∷ puts 0 2 ∷ []
by_the_first = refl

-- the past is what came before, and not what came first in the list
morning_is_past : IsPast (puts 1 3 ∷ puts 0 2 ∷ []) day
morning_is_past = record { since = takes 0 5 ∷ []; new_is = refl }

-- ---- accounts

-- the first seat gives the numbers 1 and 2
abbrev first : Account Move
first =
    record {
      number = 0;
      shares = unused_share 0 ∷ [];
      seen = [];
      gave = numbers_from 1 2;
    }

abbrev second : Account Move
second = child_account 1 record { number = 0; shares = []; seen = []; gave = [] }

abbrev third : Account Move
third = child_account 2 record { number = 0; shares = []; seen = []; gave = [] }

gave_in_order : first.gave ≡ 1 ∷ 2 ∷ []
gave_in_order = refl

-- alone the first seat hasn't all numbers: 1 is out
not_all : HasAllNumbers first → ⊥
not_all all = let out : false ≡ true = all.gave.0 in cc

-- joined with one of them, it hasn't either
still_not_all : HasAllNumbers (joined_account first second) → ⊥
still_not_all all = let out : false ≡ true = all.gave.1.0 in cc

-- joined with both it has all
all_joined : HasAllNumbers (joined_account (joined_account first second) third)
all_joined = record { first = refl; gave = (refl, (refl, tt)) }

-- what the others gave counts: seat 1 gave 3, which is out
a_grandchild_is_out :
    HasAllNumbers (joined_account (joined_account first (parent_account 3 second)) third) → ⊥
a_grandchild_is_out all = let out : false ≡ true = all.gave.1.1.0 in cc

-- without 0 a seat has not all, whatever it gave
without_the_first : HasAllNumbers (joined_account second third) → ⊥
without_the_first all = let out : false ≡ true = all.first in cc

-- an entry joins the share of its number, and no other
the_share_gains : map (share_after by (puts 2 1)) (unused_share 1 ∷ unused_share 2 ∷ []) ≡
    unused_share 1 ∷ record { number = 2; mine = puts 2 1 ∷ [] } ∷ []
the_share_gains = refl

the_seat_has_seen_it : (entered_account by (puts 0 2) [] first).seen ≡ puts 0 2 ∷ []
the_seat_has_seen_it = refl

-- of two pasts the longer one is what a joined seat has seen
longer_is_second : longer_of (puts 0 2 ∷ []) day ≡ day
longer_is_second = refl

shorter_is_first : shorter_of (puts 0 2 ∷ []) day ≡ puts 0 2 ∷ []
shorter_is_first = refl

-- ---- what a call may not have made of an account

-- seat 1 once it has made this entry, and nothing else was made
abbrev second_put : Account Move
second_put = entered_account by (puts 1 3) [] second

-- a join that forgets a number, or what was seen, is none
a_number_is_forgotten : JoinsAccounts second_put third second_put → ⊥
a_number_is_forgotten joins =
    let one = ap (λ (account : Account Move). length account.shares) joins.joined_is in
    omega (arith, one)

not_after : (since : List Move) (entry : Move) → [] ≡ since ++ entry ∷ [] → ⊥
not_after [] entry is = cc
not_after (newer ∷ since) entry is = cc

the_first_is_forgotten : (joined : Account Move) → joined.seen ≡ []
    → JoinsAccounts second_put third joined → ⊥
the_first_is_forgotten joined none joins =
    not_after joins.first_past.since (puts 1 3) (sym none ∙ joins.first_past.new_is)

the_second_is_forgotten : (joined : Account Move) → joined.seen ≡ []
    → JoinsAccounts third second_put joined → ⊥
the_second_is_forgotten joined none joins =
    not_after joins.second_past.since (puts 1 3) (sym none ∙ joins.second_past.new_is)

-- one call makes one entry
nothing_is_made : AddsEntry by (puts 1 3) second second → ⊥
nothing_is_made adds =
    let grew : [] ≡ puts 1 3 ∷ adds.past =
    ap (λ (account : Account Move). account.seen) adds.new_is in
    cc

-- and begins no history anew
a_history_is_begun_anew : AddsEntry by (puts 1 3) second_put second_put → ⊥
a_history_is_begun_anew adds =
    let seen : puts 1 3 ∷ [] ≡ puts 1 3 ∷ adds.past =
    ap (λ (account : Account Move). account.seen) adds.new_is in
    let past : [] ≡ adds.past = cc in
    not_after adds.looked.since (puts 1 3) (past ∙ adds.looked.history_is)

-- a number that is given is the next one, and its parent tells of it
abbrev alone : Account Move
alone = record { number = 0; shares = unused_share 0 ∷ []; seen = []; gave = [] }

a_number_is_passed_over : (new : Account Move)
    → GivesNumber by alone new (child_account 2 alone) → ⊥
a_number_is_passed_over new gives =
    let out : false ≡ true =
    gives.next.all (record { first = refl; gave = tt }) 1 (omega arith) in
    cc

a_number_is_given_secretly : GivesNumber by alone alone (child_account 1 alone) → ⊥
a_number_is_given_secretly gives =
    let told = ap (λ (account : Account Move). length account.gave) gives.parent_is in
    omega (arith, told)

a_child_knows_more : GivesNumber by alone (parent_account 1 alone)
    (record { number = 1; shares = unused_share 1 ∷ []; seen = day; gave = [] }) → ⊥
a_child_knows_more gives =
    let seen : day ≡ [] = ap (λ (account : Account Move). account.seen) gives.child_is in cc

-- a look begins no history anew, misses no entry where the seat has all numbers, and finds none of
-- the seat's own that the seat does not know
a_look_forgets : LooksAt by [] second_put → ⊥
a_look_forgets looks = not_after looks.since (puts 1 3) looks.history_is

a_look_of_all_misses_one : LooksAt by (puts 1 3 ∷ []) alone → ⊥
a_look_of_all_misses_one looks =
    let none = looks.alone (record { first = refl; gave = tt }) in
    let is : puts 1 3 ∷ [] ≡ [] =
    looks.history_is ∙ ap (λ (since : List Move). since ++ []) none in
    cc

an_entry_of_its_own_is_news : LooksAt by (puts 1 3 ∷ []) second → ⊥
an_entry_of_its_own_is_news looks =
    let own : puts 1 3 ∷ [] ≡ [] = looks.mine.0.entries in cc

-- ---- the order in time

-- seat 0, which has all numbers, gives number 1 to a new seat
abbrev giver : Account Move
giver = parent_account 1 (first_account 0)

abbrev given : Account Move
given = child_account 1 (first_account 0)

abbrev its : Account Move → Account Move
its account = account

abbrev dawn : Ledger Move
dawn = ledger_gave 0 1 (opening_ledger 0)

dawn_seats : AreSeats by its dawn (giver ∷ given ∷ [])
dawn_seats =
    seats_split by its (opening_ledger 0) (first_account 0 ∷ []) 0 0 (first_account 0) giver given
    (seats_open by its 0 (first_account 0) refl) refl refl refl refl

-- what they know once seat 0 has put 2 coins, and once seat 1 has put 3, after these entries
abbrev with_2 : List Move → Account Move
with_2 past = entered_account by (puts 0 2) past giver

abbrev with_3 : List Move → Account Move
with_3 past = entered_account by (puts 1 3) past given

-- seat 0 puts first
abbrev morning : List (Account Move)
morning = with_2 [] ∷ given ∷ []

abbrev noon : List (Account Move)
noon = with_2 [] ∷ with_3 (puts 0 2 ∷ []) ∷ []

morning_seats : AreSeats by its (ledger_with (puts 0 2) dawn) morning
morning_seats =
    seats_enter by its dawn (giver ∷ given ∷ []) 0 giver (with_2 []) (puts 0 2) dawn_seats refl refl
    refl

noon_seats : AreSeats by its (ledger_with (puts 1 3) (ledger_with (puts 0 2) dawn)) noon
noon_seats =
    seats_enter by its (ledger_with (puts 0 2) dawn) morning 1 given (with_3 (puts 0 2 ∷ []))
    (puts 1 3) morning_seats refl refl refl

-- so what is put between morning and noon comes after what was seen in the morning
the_day_keeps_time : KeepsTime by its morning noon
the_day_keeps_time =
    keeps_time by its (ledger_with (puts 0 2) dawn)
    (ledger_with (puts 1 3) (ledger_with (puts 0 2) dawn)) morning noon morning_seats noon_seats
    (stays_own its morning 1 given (with_3 (puts 0 2 ∷ [])) refl
    (past_nil (puts 1 3 ∷ puts 0 2 ∷ [])))

-- a noon at which the 3 coins were put before the 2, which were seen in the morning: the history is
-- legal and has each entry once
abbrev wrong_noon : List (Account Move)
wrong_noon = with_2 (puts 1 3 ∷ []) ∷ with_3 [] ∷ []

wrong_is_legal : IsLegal jar 0 (puts 0 2 ∷ puts 1 3 ∷ [])
wrong_is_legal = (omega arith, (omega arith, tt))

-- but not the order in time
wrong_noon_is_out_of_time : KeepsTime by its morning wrong_noon → ⊥
wrong_noon_is_out_of_time keeps =
    let past = keeps 1 (puts 1 3) [] (puts 0 2 ∷ [])
    (record {
      old = given;
      new = with_3 [];
      at_first = refl;
      at_second = refl;
      own = refl;
      later = past_refl [];
      made = past_refl (puts 1 3 ∷ []);
    })
    (record { seat = 0; view = with_2 []; there = refl; past = past_refl (puts 0 2 ∷ []) }) in
    not_after past.since (puts 0 2) past.new_is
