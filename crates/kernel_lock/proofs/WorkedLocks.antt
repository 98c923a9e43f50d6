-- A counter under a lock, computed: each definition of what a history and a seat may be is used,
-- with an example that would come out otherwise without it.
use Rattle.std.proofs.Common.{◌≡◌, ℕ, zero, suc, ◌+◌, ◌<◌, true, false, List, [], ◌∷◌, refl, arith}
use Rattle.std.proofs.Common.{Option, Some, None, ap, subst, ◌∙◌, ◌++◌, length}
use Rattle.histories.specs.History.{IsLegal, state_after, entries_by}
use Rattle.histories.specs.declared.account.Account.{Account}
use Rattle.histories.specs.Account.{HasAllNumbers, unused_share, first_account}
use Rattle.histories.specs.Changes.{IsNext, LooksAt, child_account}
use Rattle.kernel_lock.specs.Calls.{ServesBoth, ServesThen}
use Rattle.kernel_lock.specs.Calls.{IsNew, Serves, GivesSeat, RefusesSeat, JoinsSeats, EndsHistory}
use Rattle.kernel_lock.specs.declared.view.Key.{Key}
use Rattle.kernel_lock.specs.declared.view.Operation.{Operation}
use Rattle.kernel_lock.specs.declared.view.Stage.TheVariants.{Outside}
use Rattle.kernel_lock.specs.declared.view.View.{View}
use Rattle.kernel_lock.specs.Definition.{Definition, IsRight, server, meaning_of}
use Rattle.kernel_lock.specs.View.{inside_view, outside_view, parent_view, child_view}
use Rattle.kernel_lock.specs.View.{joined_view}

abbrev names : ℕ → Option ℕ
names zero = Some 0
names (suc zero) = Some 1
names (suc (suc amount)) = None

-- a request adds its number and names the seat of that number where it is below 2
abbrev counter : Definition ℕ ℕ ℕ ℕ
counter =
    record {
      state = λ sum. sum;
      answer = λ sum amount. sum + amount;
      after = λ sum amount. sum + amount;
      named = names;
    }

abbrev served : ℕ → ℕ → ℕ → Operation ℕ ℕ
served by amount reply = record { by = by; request = amount; reply = reply }

-- newest first: seat 1 adds 2 to 5, then seat 0 adds 3
abbrev day : List (Operation ℕ ℕ)
day = served 0 3 10 ∷ served 1 2 7 ∷ []

the_sum_of_the_day : state_after (meaning_of counter) 5 day ≡ 10
the_sum_of_the_day = refl

the_day_is_legal : IsLegal (meaning_of counter) 5 day
the_day_is_legal = (
  record { reply = refl; named = tt },
  (record { reply = refl; named = tt }, tt),
)

-- from another opening the replies would be wrong
the_opening_counts : IsLegal (meaning_of counter) 0 day → ⊥
the_opening_counts legal = let wrong : 10 ≡ 5 = legal.0.reply in omega arith

-- a request that names seat 1 is made by seat 1 alone
names_its_seat : IsRight counter 5 (served 1 1 6)
names_its_seat = record { reply = refl; named = refl }

names_another : IsRight counter 5 (served 0 1 6) → ⊥
names_another right = let wrong : 1 ≡ 0 = right.named in omega arith

by_the_second : entries_by server 1 day ≡ served 1 2 7 ∷ []
by_the_second = refl

-- ---- views

abbrev first : View ℕ ℕ ℕ
first = record { key = None; account = first_account 0; given = 1; stage = Outside }

abbrev inside : View ℕ ℕ ℕ
inside = inside_view [] 1 first

-- the next number is 1: the parent tells of it, and the child has it
the_parent_tells : (parent_view inside).account.gave ≡ 1 ∷ []
the_parent_tells = refl

the_child_has_it : (child_view inside).account.shares ≡ unused_share 1 ∷ []
the_child_has_it = refl

both_know_two : (parent_view inside).given ≡ (child_view inside).given
both_know_two = refl

-- a request ends what the seat has seen, and is one of its own; a split does not
the_request_is_seen : (outside_view [] (Some (served 0 3 8)) inside).account.seen ≡
    served 0 3 8 ∷ []
the_request_is_seen = refl

nothing_is_seen : (outside_view [] None inside).account.seen ≡ []
nothing_is_seen = refl

-- parted the parent does not have all numbers, and joined again it has
parted : HasAllNumbers (parent_view inside).account → ⊥
parted all = let out : false ≡ true = all.gave.0 in cc

joined : HasAllNumbers (joined_view (parent_view inside) (child_view inside)).account
joined = record { first = refl; gave = (refl, tt) }

-- 2 is not the next number of a seat that has all numbers and lacks 1
not_the_next : IsNext {Entry = Operation ℕ ℕ} server (first_account 0) 2 → ⊥
not_the_next next =
    let out : false ≡ true = next.all record { first = refl; gave = tt } 1 (omega arith) in cc

the_next : IsNext {Entry = Operation ℕ ℕ} server (first_account 0) 1
the_next =
    record {
      own = (omega arith, tt);
      gave = tt;
      seen = tt;
      all = λ all number below. rw (zero_only number below) refl;
    }
  where
    zero_only : (number : ℕ) → number < 1 → number ≡ 0
    zero_only number below = omega arith

-- ---- what no call does: each breaks one row

-- the first seat, which has made these requests and given these numbers, and knows of so many seats
abbrev seat : List (Operation ℕ ℕ) → List ℕ → ℕ → View ℕ ℕ ℕ
seat mine gave given =
    record {
      key = None;
      account = record {
        number = 0;
        shares = record { number = 0; mine = mine } ∷ [];
        seen = mine;
        gave = gave;
      };
      given = given;
      stage = Outside;
    }

-- the seat with the number 1, which knows of so many seats
abbrev child : ℕ → View ℕ ℕ ℕ
child given =
    record {
      key = None;
      account = child_account 1 (first_account 0);
      given = given;
      stage = Outside;
    }

abbrev adds_three : List (Operation ℕ ℕ)
adds_three = served 0 3 8 ∷ []

abbrev adds_three_wrongly : List (Operation ℕ ℕ)
adds_three_wrongly = served 0 3 9 ∷ []

-- a seat that has all numbers looked at no more than it had seen
no_more : (mine : List (Operation ℕ ℕ)) (history : List (Operation ℕ ℕ))
    → LooksAt server history (seat mine [] 1).account → history ≡ mine
no_more mine history looked =
    looked.history_is
    ∙ ap (λ (since : List (Operation ℕ ℕ)). since ++ mine)
    (looked.alone (record { first = refl; gave = tt }))

-- an end that forgets the request, and one of a history that is not legal
the_request_is_forgotten : EndsHistory counter 5 1 (seat adds_three [] 1) 5 → ⊥
the_request_is_forgotten ends =
    let is = no_more adds_three ends.history ends.looked in
    let left : 5 ≡ 8 = ends.object_is
    ∙ ap (λ (history : List (Operation ℕ ℕ)). state_after (meaning_of counter) 5 history) is in
    omega (arith, left)

the_reply_is_wrong : EndsHistory counter 5 1 (seat adds_three_wrongly [] 1) 8 → ⊥
the_reply_is_wrong ends =
    let is = no_more adds_three_wrongly ends.history ends.looked in
    let legal = subst (λ (history : List (Operation ℕ ℕ)). IsLegal (meaning_of counter) 5 history)
    is
    ends.legal.legal in
    let wrong : 9 ≡ 8 = legal.0.reply in
    omega (arith, wrong)

-- a new seat that was at work, and one that knows of another
a_new_seat_was_at_work : IsNew 0 [] 1 (seat adds_three [] 1) → ⊥
a_new_seat_was_at_work new =
    let seen = ap (λ (account : Account (Operation ℕ ℕ)). length account.seen) new.account in
    omega (arith, seen)

a_new_seat_knows_of_another : IsNew {Object = ℕ} 0 [] 1 (seat [] [] 2) → ⊥
a_new_seat_knows_of_another new = let given = new.given_is in omega (arith, given)

-- a request that no history has, and one that makes the seat forget a split
no_request : Serves (served 0 3 8) (seat [] [] 1) (seat [] [] 1) → ⊥
no_request serves =
    let seen = ap (λ (account : Account (Operation ℕ ℕ)). length account.seen) serves.account.new_is
    in
    omega (arith, seen)

a_split_is_forgotten : Serves (served 0 3 8) (seat [] [] 2) (seat adds_three [] 1) → ⊥
a_split_is_forgotten serves = let given = serves.given in omega (arith, given)

-- ---- two requests in one hold of the lock

abbrev five : Key ℕ
five = record { opening = record { marker = _; value = 5 }; limit = 1 }

abbrev adds_two_after : List (Operation ℕ ℕ) → List (Operation ℕ ℕ)
adds_two_after past = served 0 2 10 ∷ past

-- another request between the two, no second request, and a first one that is answered wrong
another_stands_between :
    ServesBoth counter five (served 0 3 8) (served 0 2 10) (seat [] [] 1)
    (seat (adds_two_after (served 1 0 8 ∷ adds_three)) [] 1) → ⊥
another_stands_between both =
    let next : served 1 0 8 ∷ adds_three ≡ both.between.account.seen =
    ap (drop 1) both.at_once in
    let first = ap (λ (account : Account (Operation ℕ ℕ)). account.seen)
    both.first_served.account.new_is in
    let wrong : 1 ≡ 0 = ap oldest (next ∙ first) in
    omega (arith, wrong)
  where
    drop : ℕ → List (Operation ℕ ℕ) → List (Operation ℕ ℕ)
    drop count [] = []
    drop count (entry ∷ past) = past

    oldest : List (Operation ℕ ℕ) → ℕ
    oldest [] = 0
    oldest (entry ∷ past) = entry.by

the_second_is_left_out :
    ServesBoth counter five (served 0 3 8) (served 0 2 10) (seat [] [] 1)
    (seat (adds_two_after []) [] 1) → ⊥
the_second_is_left_out both =
    let first = ap (λ (account : Account (Operation ℕ ℕ)). length account.seen)
    both.first_served.account.new_is in
    let all = ap (λ (seen : List (Operation ℕ ℕ)). length seen) both.at_once in
    omega (arith, first, all)

the_first_is_answered_wrong :
    ServesBoth counter five (served 0 3 9) (served 0 2 11) (seat [] [] 1)
    (seat (served 0 2 11 ∷ adds_three_wrongly) [] 1) → ⊥
the_first_is_answered_wrong both =
    let first = both.first_served.account in
    let none = no_more [] first.past first.looked in
    let legal : IsLegal (meaning_of counter) 5 adds_three_wrongly =
    subst (λ (past : List (Operation ℕ ℕ)). IsLegal (meaning_of counter) 5 (served 0 3 9 ∷ past))
    none
    (subst (λ (seen : List (Operation ℕ ℕ)). IsLegal (meaning_of counter) 5 seen)
    (ap (λ (account : Account (Operation ℕ ℕ)). account.seen) first.new_is)
    both.knows.history.legal) in
    let wrong : 9 ≡ 8 = legal.0.reply in
    omega (arith, wrong)

-- an answer where nothing follows, and none where something does
nothing_follows_and_is_answered :
    ServesThen counter five 0 (served 0 3 8) None (Some 10) (seat [] [] 1) (seat adds_three [] 1)
    → ⊥
nothing_follows_and_is_answered serves = serves

what_follows_is_not_answered :
    ServesThen counter five 0 (served 0 3 8) (Some 2) None (seat [] [] 1) (seat adds_three [] 1)
    → ⊥
what_follows_is_not_answered serves = serves

-- a split past the limit, after the seat's back, of a number that is known to be given
past_the_limit : GivesSeat 1 (seat [] [] 1) (seat [] (1 ∷ []) 2) (child 2) → ⊥
past_the_limit gives = let limit = gives.limit_is in omega (arith, limit)

a_number_that_was_given : GivesSeat 9 (seat [] [] 2) (seat [] (1 ∷ []) 2) (child 2) → ⊥
a_number_that_was_given gives = let later = gives.later in omega (arith, later)

the_parent_tells_nobody : GivesSeat 9 (seat [] [] 1) (seat [] [] 2) (child 2) → ⊥
the_parent_tells_nobody gives =
    let gave =
    ap (λ (account : Account (Operation ℕ ℕ)). length account.gave) gives.account.parent_is in
    omega (arith, gave)

the_parent_forgets : GivesSeat 9 (seat [] [] 1) (seat [] (1 ∷ []) 1) (child 2) → ⊥
the_parent_forgets gives = let given = gives.given in omega (arith, given)

the_child_forgets : GivesSeat 9 (seat [] [] 1) (seat [] (1 ∷ []) 2) (child 1) → ⊥
the_child_forgets gives = let given = gives.child_given in omega (arith, given)

-- a split that is refused though a seat is left, or that gives a number all the same
refused_too_early : RefusesSeat 2 (seat [] [] 1) (seat [] [] 2) → ⊥
refused_too_early refuses =
    let out : false ≡ true =
    refuses.next.all (record { first = refl; gave = tt }) 1 (omega arith) in
    cc

refused_and_given : RefusesSeat 1 (seat [] [] 1) (seat [] (1 ∷ []) 1) → ⊥
refused_and_given refuses =
    let gave = ap (λ (view : View ℕ ℕ ℕ). length view.account.gave) refuses.same in
    omega (arith, gave)

-- a join that forgets the second, and one that forgets what the second knew
the_second_is_forgotten : JoinsSeats (seat [] (1 ∷ []) 2) (child 2) (seat [] (1 ∷ []) 2) → ⊥
the_second_is_forgotten joins =
    let shares =
    ap (λ (account : Account (Operation ℕ ℕ)). length account.shares) joins.account.joined_is in
    omega (arith, shares)

what_it_knew_is_forgotten : JoinsSeats (seat [] (1 ∷ []) 2) (child 3) (seat [] (1 ∷ []) 2) → ⊥
what_it_knew_is_forgotten joins = let given : 2 ≡ 3 = joins.given in omega (arith, given)
