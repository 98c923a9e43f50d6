-- A seat that is given, joined or cut keeps the rule: the run stays, and each process has one seat.
use Rattle.std.proofs.Common.{◌≡◌, ◌≢◌, ◌⊎◌, inl, inr, ⊎_elim, ℕ, zero, suc, ◌+◌, ◌<◌, ◌≤◌}
use Rattle.std.proofs.Common.{eqb, cond, List, [], ◌∷◌, ◌++◌, length, set}
use Rattle.std.proofs.Common.{refl, sym, ◌∙◌, ap, subst, arith, eq-eqb, ne_eqb}
use mathlib.Core.Option.{some, some-injective, some-ne-none}
use lib.ListN.{get_elem?}
use Rattle.atomic_table.specs.Table as table
use Rattle.atomic_table.proofs.Lists.{at_set, set_else}
use Rattle.sleep_core.specs.Runs.{Entry, kept}
use Rattle.rendez_words.specs.declared.view.Part.{Part}
use Rattle.rendez_words.specs.declared.view.Sizes.{Sizes}
use Rattle.rendez_words.specs.declared.view.View.{View}
use Rattle.rendez_words.specs.declared.view.View.TheVariants as view
use Rattle.rendez_words.specs.Rule.{IsSeated, IsUnused, AreSeated, Fits, ShowsCore}
use Rattle.rendez_words.specs.View.{unused_part}

-- an element of a list with one more is an old one, or the last
at_end : {A : Type 0} (l : List A) (a b : A) (j : ℕ) → get_elem? (l ++ a ∷ []) j ≡ some b
    → (get_elem? l j ≡ some b) ⊎ ((a ≡ b) × (j ≡ length l))
at_end [] a b zero e = inr (some-injective a b e, refl)
at_end [] a b (suc j) e = absurd (some-ne-none b (sym e))
at_end (x ∷ xs) a b zero e = inl e
at_end (x ∷ xs) a b (suc j) e = ⊎_elim (λ h. inl h) (λ h. inr (h.0, ap suc h.1)) (at_end xs a b j e)

-- the pid moves to this seat
abbrev owner_moved : (ℕ → ℕ) → ℕ → ℕ → ℕ → ℕ
owner_moved owner moved seat pid = cond (eqb pid moved) seat (owner pid)

moved_there : (owner : ℕ → ℕ) (moved seat pid : ℕ) → pid ≡ moved
    → owner_moved owner moved seat pid ≡ seat
moved_there owner moved seat pid same = ap (λ b. cond b seat (owner pid)) (eq-eqb pid moved same)

moved_not : (owner : ℕ → ℕ) (moved seat pid : ℕ) → pid ≢ moved
    → owner_moved owner moved seat pid ≡ owner pid
moved_not owner moved seat pid differ = ap (λ b. cond b seat (owner pid)) (ne_eqb pid moved differ)

-- what a seat knows stays where none of its pids changes its owner
seated_by : (procs : ℕ) (run : List Entry) (owner later : ℕ → ℕ) (seat : ℕ) (part : Part)
    → ((pid : ℕ) → owner pid ≡ seat → later pid ≡ seat) → IsSeated procs run owner seat part
    → IsSeated procs run later seat part
seated_by procs run owner later seat part stays seated =
    record {
      pid_in = seated.pid_in;
      owner_is = stays part.pid seated.owner_is;
      trace_is = seated.trace_is;
    }

fits_by : (procs : ℕ) (run : List Entry) (owner later : ℕ → ℕ) (seat : ℕ) (known : View)
    → ((pid : ℕ) → owner pid ≡ seat → later pid ≡ seat) → Fits procs run owner seat known
    → Fits procs run later seat known
fits_by procs run owner later seat (view.Process part) stays fits =
    seated_by procs run owner later seat part stays fits
fits_by procs run owner later seat (view.Pids next) stays fits =
    λ pid least. let unused = fits pid least in
    record { owner_is = stays pid unused.owner_is; none = unused.none }
fits_by procs run owner later seat (view.Joined sleeper raiser) stays fits =
    record {
      first = seated_by procs run owner later seat sleeper stays fits.first;
      second = seated_by procs run owner later seat raiser stays fits.second;
      differ = fits.differ;
    }
fits_by procs run owner later seat view.Spent stays fits = tt

-- a pid of another seat is not the one that moves
not_moved : (owner : ℕ → ℕ) (moved from seat there pid : ℕ) → owner moved ≡ from → there ≢ from
    → owner pid ≡ there → owner_moved owner moved seat pid ≡ there
not_moved owner moved from seat there pid is other owned =
    moved_not owner moved seat pid (λ same. other (sym owned ∙ ap owner same ∙ is)) ∙ owned

-- ---- the next pid is given a seat

-- a seat that gives its next pid to a new seat splits in two, and the rule stays
pub give_keeps : (sizes : Sizes) (id next : ℕ) → next < sizes.procs
    → table.Splits (ShowsCore sizes) id (view.Pids next) (view.Pids (next + 1))
    (view.Process (unused_part next))
give_keeps sizes id next room s rule at =
    record {
      run = rule.run;
      owner = owner_moved rule.owner next new_seat;
      legal = rule.legal;
      words = rule.words;
      each_seat = λ seat known there.
          ⊎_elim (λ old. ⊎_elim (λ here. subst (Now seat) here.1
          (subst (λ j. Now j (view.Pids (next + 1))) (sym here.0) left))
          (λ else. fits_by sizes.procs rule.run rule.owner
          (owner_moved rule.owner next new_seat) seat known
          (λ pid owned. not_moved rule.owner next id new_seat seat pid
          (unused.owner_is) else.0 owned) (rule.each_seat seat known else.1))
          (at_set s.views id seat (view.Pids (next + 1)) known old))
          (λ last. subst (Now seat) last.0 (subst (λ j. Now j (view.Process (unused_part next)))
          (sym last.1) given))
          (at_end (set s.views id (view.Pids (next + 1)))
          (view.Process (unused_part next)) known seat there);
    }
  where
    new_seat : ℕ
    new_seat = length (set s.views id (view.Pids (next + 1)))

    Now : ℕ → View → Type 0
    Now seat known = Fits sizes.procs rule.run (owner_moved rule.owner next new_seat) seat known

    fits : (pid : ℕ) → next ≤ pid → IsUnused rule.run rule.owner id pid
    fits = rule.each_seat id (view.Pids next) at

    unused : IsUnused rule.run rule.owner id next
    unused = fits next (omega arith)

    left : (pid : ℕ) → next + 1 ≤ pid → IsUnused rule.run
        (owner_moved rule.owner next new_seat) id pid
    left pid least =
        let old = fits pid (omega arith) in
        record {
          owner_is = moved_not rule.owner next new_seat pid (λ same. absurd (omega arith))
              ∙ old.owner_is;
          none = old.none;
        }

    given : IsSeated sizes.procs rule.run (owner_moved rule.owner next new_seat) new_seat
        (unused_part next)
    given = record {
      pid_in = room;
      owner_is = moved_there rule.owner next new_seat next refl;
      trace_is = sym (ap kept unused.none);
    }

-- ---- two seats are joined

-- a sleeper's seat and a raiser's become one that knows the steps of both, and the rule stays
pub join_keeps : (sizes : Sizes) (id : ℕ) (sleeper : Part) (other : ℕ) (raiser : Part)
    → table.Joins (ShowsCore sizes) id (view.Process sleeper) other (view.Process raiser)
    (view.Joined sleeper raiser) view.Spent
join_keeps sizes id sleeper other raiser s rule at apart at' =
    record {
      run = rule.run;
      owner = owner_moved rule.owner raiser.pid id;
      legal = rule.legal;
      words = rule.words;
      each_seat = λ seat known there.
          ⊎_elim (λ here. subst (Now seat) here.1 tt)
          (λ else. ⊎_elim (λ here. subst (Now seat) here.1
          (subst (λ j. Now j (view.Joined sleeper raiser)) (sym here.0) both))
          (λ third. fits_by sizes.procs rule.run rule.owner
          (owner_moved rule.owner raiser.pid id) seat known
          (λ pid owned. not_moved rule.owner raiser.pid other id seat pid second.owner_is else.0
          owned) (rule.each_seat seat known third.1))
          (at_set s.views id seat (view.Joined sleeper raiser) known else.1))
          (at_set (set s.views id (view.Joined sleeper raiser)) other seat view.Spent known there);
    }
  where
    Now : ℕ → View → Type 0
    Now seat known = Fits sizes.procs rule.run (owner_moved rule.owner raiser.pid id) seat known

    first : IsSeated sizes.procs rule.run rule.owner id sleeper
    first = rule.each_seat id (view.Process sleeper) at

    second : IsSeated sizes.procs rule.run rule.owner other raiser
    second = rule.each_seat other (view.Process raiser)
        (sym (set_else s.views id other (view.Joined sleeper raiser) apart) ∙ at')

    differ : sleeper.pid ≢ raiser.pid
    differ same = apart (sym second.owner_is ∙ ap rule.owner (sym same) ∙ first.owner_is)

    both : AreSeated sizes.procs rule.run (owner_moved rule.owner raiser.pid id) id sleeper raiser
    both =
        record {
          first = record {
            pid_in = first.pid_in;
            owner_is = moved_not rule.owner raiser.pid id sleeper.pid differ ∙ first.owner_is;
            trace_is = first.trace_is;
          };
          second = record {
            pid_in = second.pid_in;
            owner_is = moved_there rule.owner raiser.pid id raiser.pid refl;
            trace_is = second.trace_is;
          };
          differ = differ;
        }

-- ---- a joined seat is cut into the two that it was

-- a joined seat splits into the two that it was, and the rule stays
pub cut_keeps : (sizes : Sizes) (id : ℕ) (sleeper raiser : Part)
    → table.Splits (ShowsCore sizes) id (view.Joined sleeper raiser) (view.Process sleeper)
    (view.Process raiser)
cut_keeps sizes id sleeper raiser s rule at =
    record {
      run = rule.run;
      owner = owner_moved rule.owner raiser.pid new_seat;
      legal = rule.legal;
      words = rule.words;
      each_seat = λ seat known there.
          ⊎_elim (λ old. ⊎_elim (λ here. subst (Now seat) here.1
          (subst (λ j. Now j (view.Process sleeper)) (sym here.0) first))
          (λ else. fits_by sizes.procs rule.run rule.owner
          (owner_moved rule.owner raiser.pid new_seat) seat known
          (λ pid owned. not_moved rule.owner raiser.pid id new_seat seat pid fits.second.owner_is
          else.0 owned) (rule.each_seat seat known else.1))
          (at_set s.views id seat (view.Process sleeper) known old))
          (λ last. subst (Now seat) last.0 (subst (λ j. Now j (view.Process raiser))
          (sym last.1) second))
          (at_end (set s.views id (view.Process sleeper)) (view.Process raiser) known seat there);
    }
  where
    new_seat : ℕ
    new_seat = length (set s.views id (view.Process sleeper))

    Now : ℕ → View → Type 0
    Now seat known = Fits sizes.procs rule.run
        (owner_moved rule.owner raiser.pid new_seat) seat known

    fits : AreSeated sizes.procs rule.run rule.owner id sleeper raiser
    fits = rule.each_seat id (view.Joined sleeper raiser) at

    first : IsSeated sizes.procs rule.run (owner_moved rule.owner raiser.pid new_seat) id sleeper
    first =
        let old = fits.first in
        record {
          pid_in = old.pid_in;
          owner_is =
              moved_not rule.owner raiser.pid new_seat sleeper.pid fits.differ
              ∙ old.owner_is;
          trace_is = old.trace_is;
        }

    second : IsSeated sizes.procs rule.run (owner_moved rule.owner raiser.pid new_seat) new_seat
        raiser
    second =
        let old = fits.second in
        record {
          pid_in = old.pid_in;
          owner_is = moved_there rule.owner raiser.pid new_seat raiser.pid refl;
          trace_is = old.trace_is;
        }

-- ---- the same for seats whose views are such

-- a seat whose next pid is one of a process may give it to a new seat
pub gives : (sizes : Sizes) (id next : ℕ) (me : table.Me (Unit {0}) View)
    → me ≡ (view.Pids next, []) → next < sizes.procs
    → table.Splits (ShowsCore sizes) id me.0 (Rattle.rendez_words.specs.View.one_less_view me.0)
    (Rattle.rendez_words.specs.View.given_view me.0)
gives sizes id next me is room =
    subst (λ (m : table.Me (Unit {0}) View). table.Splits (ShowsCore sizes) id m.0
    (Rattle.rendez_words.specs.View.one_less_view m.0)
    (Rattle.rendez_words.specs.View.given_view m.0)) (sym is)
    (give_keeps sizes id next room)

-- two seats that each are of one process may be joined
pub joins : (sizes : Sizes) (id other : ℕ) (me them : table.Me (Unit {0}) View)
    (sleeper raiser : Part) → me ≡ (view.Process sleeper, []) → them ≡ (view.Process raiser, [])
    → table.Joins (ShowsCore sizes) id me.0 other them.0
    (Rattle.rendez_words.specs.View.joined_view me.0 them.0) view.Spent
joins sizes id other me them sleeper raiser is are =
    subst (λ (m : table.Me (Unit {0}) View). table.Joins (ShowsCore sizes) id m.0 other them.0
    (Rattle.rendez_words.specs.View.joined_view m.0 them.0) view.Spent) (sym is)
    (subst (λ (m : table.Me (Unit {0}) View). table.Joins (ShowsCore sizes) id
    (view.Process sleeper) other m.0 (Rattle.rendez_words.specs.View.joined_view
    (view.Process sleeper) m.0) view.Spent) (sym are)
    (join_keeps sizes id sleeper other raiser))

-- a seat that was joined may be cut in two
pub cuts : (sizes : Sizes) (id : ℕ) (me : table.Me (Unit {0}) View) (sleeper raiser : Part)
    → me ≡ (view.Joined sleeper raiser, [])
    → table.Splits (ShowsCore sizes) id me.0 (Rattle.rendez_words.specs.View.sleeper_view me.0)
    (Rattle.rendez_words.specs.View.raiser_view me.0)
cuts sizes id me sleeper raiser is =
    subst (λ (m : table.Me (Unit {0}) View). table.Splits (ShowsCore sizes) id m.0
    (Rattle.rendez_words.specs.View.sleeper_view m.0)
    (Rattle.rendez_words.specs.View.raiser_view m.0)) (sym is)
    (cut_keeps sizes id sleeper raiser)
