-- What the joins come to by which a reader's seat takes in the seats of all writers.
use Rattle.std.proofs.Common.{◌≡◌, ◌⊎◌, inl, inr, ⊎_elim, eq-eqb, ℕ, ◌+◌, Bool, true, false, ◌||◌}
use Rattle.std.proofs.Common.{eqb, List, [], ◌∷◌, ◌++◌, refl, sym, ap, subst, ◌∙◌, arith}
use Rattle.std.proofs.Common.{append-nil, append_assoc}
use Rattle.std.specs.List.{AllByRecursion, list_any}
use Rattle.histories.specs.declared.account.Account.{Account}
use Rattle.histories.specs.Account.{HasItsEntries, has_number}
use Rattle.histories.specs.Changes.{joined_account}
use Rattle.histories.proofs.AccountLemmas.{has_number-append}
use Rattle.std.proofs.lemmas.Bool.Decides.{nat_tests}
use Rattle.histories.specs.History.{IsPast}
use Rattle.histories.proofs.ListLemmas.{all_append, all_past, all_since, all_weaker}
use Rattle.block_queue.specs.declared.entry.Entry.{Entry}
use Rattle.block_queue.specs.declared.queue.Queue.{Queue}
use Rattle.block_queue.specs.declared.seats.PutSeat.{PutSeat}
use Rattle.block_queue.specs.declared.view.View.{View}
use Rattle.block_queue.specs.Steps.{Seated, joined_view}
use Rattle.block_queue.specs.Seats.{Stepper, IsFreeStepperOf, IsSameStepper, IsPutSeatOf}
use Rattle.block_queue.specs.Seats.{put_account, put_view}
use Rattle.block_queue.specs.Gather.{IsJoining, HasJoined, AreTheirs, AreTheirPasts, SawPasts}
use Rattle.block_queue.specs.Gather.{TellsPasts, numbers_of}
use Rattle.block_queue.specs.History.{seat_of}

-- ---- the loop of joins

or_right : (a b : Bool) → b ≡ true → (a || b) ≡ true
or_right true b has = refl
or_right false b has = has

or_left : (a b : Bool) → a ≡ true → (a || b) ≡ true
or_left a b has = rw has refl

-- a number of these seats and one more is theirs or the last one's
last_number : (seat : PutSeat) (n : ℕ) (xs : List PutSeat) →
    list_any (λ other. eqb other n) (numbers_of (xs ++ seat ∷ [])) ≡ true →
    (list_any (λ other. eqb other n) (numbers_of xs) ≡ true) ⊎ (seat.writer + 1 ≡ n)
last_number seat n [] has = of (eqb (seat.writer + 1) n) refl has
  where
    of : (b : Bool) → eqb (seat.writer + 1) n ≡ b → (b || false) ≡ true → (false ≡ true) ⊎
        (seat.writer + 1 ≡ n)
    of true is has = inr (grind (arith, nat_tests))
    of false is has = inl has
last_number seat n (x ∷ xs) has = of (eqb (x.writer + 1) n) has (last_number seat n xs)
  where
    of : (b : Bool) → (b || list_any (λ other. eqb other n) (numbers_of (xs ++ seat ∷ []))) ≡ true
        → (list_any (λ other. eqb other n) (numbers_of (xs ++ seat ∷ [])) ≡ true →
        (list_any (λ other. eqb other n) (numbers_of xs) ≡ true) ⊎ (seat.writer + 1 ≡ n))
        → ((b || list_any (λ other. eqb other n) (numbers_of xs)) ≡ true) ⊎ (seat.writer + 1 ≡ n)
    of true has rest = inl refl
    of false has rest = rest has

module _ (queue : Queue) (puts : List PutSeat) (old : Account Entry) where
  -- before the first join the reader's seat has its own number, and all writers are to be joined
  pub none_joined : has_number old.shares 0 ≡ true →
      AllByRecursion (λ seat. (put_account seat).gave ≡ []) puts → IsJoining puts old puts old
  none_joined own none =
      record {
        gave = refl;
        first = own;
        none = none;
        numbers = listed (numbers_of puts) (λ n has. either_true (has_number old.shares n)
            (list_any (λ other. eqb other n) (numbers_of puts)) has);
        theirs = λ history all. all;
        puts_theirs = λ history all rest. rest;
      }
    where
      either_true : (a b : Bool) → b ≡ true → (a || b) ≡ true
      either_true true b has = refl
      either_true false b has = has

      listed : (numbers : List ℕ) → ((n : ℕ) → list_any (λ other. eqb other n) numbers ≡ true →
          (has_number old.shares n || list_any (λ other. eqb other n) numbers) ≡ true)
          → AllByRecursion (λ n. (has_number old.shares n || list_any (λ other. eqb other n)
          numbers) ≡ true) numbers
      listed numbers from = inside numbers [] refl
        where
          here : (front back : List ℕ) (n : ℕ) →
              list_any (λ other. eqb other n) (front ++ n ∷ back) ≡ true
          here [] back n = rw (eq-eqb n n refl) refl
          here (x ∷ front) back n = either_true (eqb x n)
              (list_any (λ other. eqb other n) (front ++ n ∷ back)) (here front back n)

          inside : (back front : List ℕ) → numbers ≡ front ++ back →
              AllByRecursion (λ n. (has_number old.shares n || list_any (λ other. eqb other n)
              numbers) ≡ true) back
          inside [] front is = tt
          inside (n ∷ back) front is = (
            from n (ap (list_any (λ other. eqb other n)) is ∙ here front back n),
            inside back (front ++ n ∷ []) (is ∙ sym (append_assoc front (n ∷ []) back)),
          )

  -- a join of the last writer's seat leaves those in front of it to be joined
  pub one_joined : (now joined : Account Entry) (rest front : List PutSeat) (seat : PutSeat) →
      rest ≡ front ++ seat ∷ [] → IsJoining puts old rest now
      → joined ≡ joined_account now (put_account seat) →
      has_number (put_account seat).shares (seat.writer + 1) ≡ true →
      IsJoining puts old front joined
  one_joined now joined rest front seat rest_is is joined_is own =
      subst (IsJoining puts old front) (sym joined_is)
      record {
        gave = ap (λ (xs : List ℕ). now.gave ++ xs) seat_none ∙ append-nil now.gave ∙ is.gave;
        first = has_number-append now.shares (put_account seat).shares 0 ∙
            ap (λ (b : Bool). b || has_number (put_account seat).shares 0) is.first;
        none = all_since (λ (s : PutSeat). (put_account s).gave ≡ []) front (seat ∷ []) none_rest;
        numbers = all_weaker (λ (n : ℕ). (has_number now.shares n || list_any (λ other. eqb other n)
            (numbers_of rest)) ≡ true)
            (λ n. (has_number (now.shares ++ (put_account seat).shares) n || list_any
            (λ other. eqb other n) (numbers_of front)) ≡ true)
            (λ n has. moves n (subst (λ (xs : List PutSeat).
            (has_number now.shares n || list_any (λ other. eqb other n) (numbers_of xs)) ≡
            true) rest_is has))
            (numbers_of puts) is.numbers;
        theirs = λ history all. is.theirs history (all_since (HasItsEntries seat_of history)
            now.shares (put_account seat).shares all);
        puts_theirs = λ history all fronts.
            is.puts_theirs history (all_since (HasItsEntries seat_of history) now.shares
            (put_account seat).shares all)
            (subst (AreTheirs history) (sym rest_is)
            (all_append (λ (s : PutSeat). AllByRecursion (HasItsEntries seat_of history)
            (put_account s).shares) front (seat ∷ []) fronts (
              all_past (HasItsEntries seat_of history) now.shares (put_account seat).shares all,
              tt,
            )));
      }
    where
      none_rest : AllByRecursion (λ s. (put_account s).gave ≡ []) (front ++ seat ∷ [])
      none_rest = subst (AllByRecursion (λ s. (put_account s).gave ≡ [])) rest_is is.none

      seat_none : (put_account seat).gave ≡ []
      seat_none = (all_past (λ (s : PutSeat). (put_account s).gave ≡ []) front (seat ∷
          []) none_rest).0

      moves : (n : ℕ) → (has_number now.shares n || list_any (λ other. eqb other n)
          (numbers_of (front ++ seat ∷ []))) ≡ true → (has_number
          (now.shares ++ (put_account seat).shares) n || list_any (λ other. eqb other n)
          (numbers_of front)) ≡ true
      moves n has = rw (has_number-append now.shares (put_account seat).shares n)
          (of (has_number now.shares n) has)
        where
          of : (b : Bool) → (b || list_any (λ other. eqb other n) (numbers_of (front ++ seat ∷ [])))
              ≡ true → ((b || has_number (put_account seat).shares n) || list_any
              (λ other. eqb other n) (numbers_of front)) ≡ true
          of true has = refl
          of false has = ⊎_elim
              (λ listed. or_right (has_number (put_account seat).shares n)
              (list_any (λ other. eqb other n) (numbers_of front)) listed)
              (λ same. or_left (has_number (put_account seat).shares n)
              (list_any (λ other. eqb other n) (numbers_of front))
              (ap (has_number (put_account seat).shares) (sym same) ∙ own))
              (last_number seat n front has)

  -- where no writer is left, the seat has joined all of them
  pub all_joined : (now : Account Entry) → IsJoining puts old [] now → HasJoined puts old now
  all_joined now is =
      record {
        all = λ order. record {
          first = is.first;
          gave = subst (AllByRecursion (λ n. has_number now.shares n ≡ true))
              (sym (is.gave ∙ order))
              (all_weaker (λ (n : ℕ). (has_number now.shares n || false) ≡
              true) (λ n. has_number now.shares n ≡ true) (λ n has. or_nothing
              (has_number now.shares n) has) (numbers_of puts) is.numbers);
        };
        theirs = is.theirs;
        puts_theirs = λ history all. is.puts_theirs history all tt;
      }
    where
      or_nothing : (b : Bool) → (b || false) ≡ true → b ≡ true
      or_nothing true has = refl
      or_nothing false has = has

-- ---- whose pasts the joined seat tells

-- before the first join a seat tells its own past, and the writers tell theirs
pub none_told : (puts : List PutSeat) (old : View) → TellsPasts puts old puts old
none_told puts old =
    record { reader = λ history saw. saw.seen; writers = λ history saw pasts. pasts }

-- a seat that joins another's tells the past of that writer too
pub one_told : (puts : List PutSeat) (old now joined : View) (rest front : List PutSeat)
    (seat : PutSeat) → rest ≡ front ++ seat ∷ [] → TellsPasts puts old rest now →
    joined ≡ joined_view now (put_view seat) → TellsPasts puts old front joined
one_told puts old now joined rest front seat rest_is tells joined_is =
    subst (TellsPasts puts old front) (sym joined_is)
    record {
      reader = λ history saw. tells.reader history (before history saw);
      writers = λ history saw pasts. tells.writers history (before history saw)
          (subst (AreTheirPasts history) (sym rest_is)
          (all_append (λ (s : PutSeat). IsPast (put_account s).seen history) front (seat ∷ [])
          pasts (saw.before.1.0, tt)));
    }
  where
    before : (history : List Entry) → SawPasts history (joined_view now (put_view seat)) →
        SawPasts history now
    before history saw = record { seen = saw.before.0; before = saw.before.1.1 }

-- the reader's seat is free after a join
pub joined_free : (queue : Queue) (old new : Stepper) (other : View) → IsFreeStepperOf queue old 0 →
    IsSameStepper old new → new.me ≡ (joined_view old.me.0 other, old.me.1) →
    IsFreeStepperOf queue new 0
joined_free queue old new other free same joined =
    record {
      table = same.table ∙ free.table;
      own = ap (λ (me : Seated). has_number me.0.account.shares 0) joined ∙
          has_number-append old.me.0.account.shares other.account.shares 0 ∙
          ap (λ (b : Bool). b || has_number other.account.shares 0) free.own;
      number_is = ap (λ (me : Seated). me.0.account.number) joined ∙ free.number_is;
      stage = ap (λ (me : Seated). me.0.stage) joined;
      no_slot = ap (λ (me : Seated). me.1) joined ∙ free.no_slot;
    }

-- the last of these seats
pub last_seat : (queue : Queue) (seats front : List PutSeat) (seat : PutSeat) → seats ≡ front ++
    seat ∷ [] → AllByRecursion (IsPutSeatOf queue) seats → IsPutSeatOf queue seat ×
    AllByRecursion (IsPutSeatOf queue) front
last_seat queue seats front seat is all =
    let both : AllByRecursion (IsPutSeatOf queue) (front ++ seat ∷ []) =
    subst (AllByRecursion (IsPutSeatOf queue)) is all in (
      (all_past (IsPutSeatOf queue) front (seat ∷ []) both).0,
      all_since (IsPutSeatOf queue) front (seat ∷ []) both,
    )
