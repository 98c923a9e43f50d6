-- The steps have no bytes: their ghost field is what the reference shows. Proved by hand, since no
-- code computes a ghost field of a struct with `also_owns`.
use mathlib.Core.Path.{refl, subst, sym}
use mathlib.Core.List.{List, [], ◌∷◌, ◌++◌}
use seplogic.Ra.Ura.{Ura}
use mir.Val.{Val, vptr, vstruct, vcons, vunit, vnil}
use base.Logic.{SProp, ent, via, fst∗, snd∗}
use base.Fml.{Fml}
use prog.Memory.{Memory}
use prog.Routine.{Routine}
use prog.Wp.{Calls, Loops, WpFn, Tables}
use types.Logic.{Logic, sem}
use contract.Monad.{Fun, fact_use}
use contract.Running.{tables, tables_of}
use sound.WpLaws.{WpFn-mono}
use types.Kit.{‵, raw, ◌⊛◌, ◌$◌, ◌∵◌, !, qed, move, keep, split, join, fjoin, use0, suffices, done}
use types.Run.{no_more, and_then, unit_lit, returns, enter}
use types.Part.{agg}
use types.ByLocal.{alloc_all, pass_all, free_all, look_at, sets}
use denote.RattleType.{RattleType, owns}
use denote.Exit.{yes}
use denote.Laws.{Are, Ises, owns_show, showss}
use denote.Shadow.{makes_shadow}
use denote.Builtin.{RefOf}
use denote.Signature.{Slot, types_at, type_at, plain}
use denote.Steps.{nothing}
use denote.Triple.Clauses.{Clauses, closing}
use denote.Triple.Entry.{on_entry, alive, Res}
use denote.Triple.Spec.{Meets, triple_of}
use denote.Triple.Table.{entered}
use denote.Triple.Walked.{says, Stays, stay_dropped, walk_of, ends_at, Goes-dropped, walk_Meets}
use Rattle.std.specs.contracts.option.Option as Option
use Rattle.rendez_words.specs.contracts.states.Seat as Seat
use Rattle.sleep_wakeup.specs.contracts.steps.Steps.of as f
use Rattle.sleep_wakeup.specs.contracts.steps.Steps.of.Key.{name as key}
use Rattle.sleep_wakeup.proofs.steps.Steps.of.Statement as stated
use Rattle.sleep_wakeup.proofs.steps.Steps.of.Code as code

-- what its argument is: a reference to a seat, which it drops
abbrev shown : RattleType
shown = Option.the_row Seat.the_row

abbrev lent : Slot 1
lent = RefOf (0 ∷ []) tt (plain (λ _. shown)) (λ _. tt)

abbrev stayed : Stays (f.ended).signature.params (f.ended).kept
stayed = (stay_dropped lent yes, tt)

module _ {M : Type 1} {𝓤 : Ura M} (𝓛 : Logic 𝓤) (mem : Memory → SProp 𝓤)
    (run : Routine → Fun 𝓤) where
  open 𝓛 use {H}

  abbrev held : Clauses 𝓤 f.ended
  held = f.clauses 𝓛 mem run

  module _ (C : Calls 𝓤 H) (Λ : Loops 𝓤 H) (z : (walk_of 𝓛 f.ended stayed held).Ghost) where
    abbrev At : List Val → (walk_of 𝓛 f.ended stayed held).Ghost
    At us = ((z.0.0, z.0.1, z.0.2, z.0.3, (us, tt)), z.1)

    abbrev Post : List Val → Val → SProp 𝓤
    Post us = (walk_of 𝓛 f.ended stayed held).post (At us)

    abbrev Goes : List Val → Type 1
    Goes us =
        ent 𝓤 ((walk_of 𝓛 f.ended stayed held).pre (At us))
        (WpFn 𝓤 H C Λ code.function (us ++ []) (Post us))

    -- the reference, as it is passed
    abbrev passed : Val
    passed = vptr z.0.3.0.ref_ptr.0 z.0.3.0.ref_ptr.1

    abbrev given : Fml
    given = owns (types_at (f.ended).signature.params z.0.0) z.0.3 (passed ∷ [], tt)

    -- what is made
    abbrev made : Val
    made = vstruct (vcons vunit vnil)

    abbrev steps : Res (f.ended).signature z.0.0
    steps = record { nothing = tt; process = z.0.3.0.now }

    abbrev owned : Fml
    owned = (type_at (f.ended).signature.result z.0.0).own_val steps (made ∷ [])

    walks : Goes (passed ∷ [])
    walks =
        qed 𝓛 (
        (raw (alive 𝓛 (f.ended).signature z.0.0 z.0.1) ⊛ ‵ given) ∷
        raw ((held z.0.0 z.0.3).requires z.1) ∷ []
        ) ∵ split ! $ keep ! (0 ∷ []) $
        enter ! C Λ code.function (passed ∷ []) _ $
        alloc_all ! (λ l. pass_all ! refl ((tt, tt), tt) $
        sets ! (agg ! (and_then ! (unit_lit !) (no_more !))) refl (tt, (tt, tt)) $
        returns ! (look_at ! 0 refl) $ free_all ! refl $
        use0 𝓛 (‵ owned) (makes_shadow 𝓛 owned ((λ vss. (tt, (tt, tt))), tt)
        (((vunit ∷ [], tt), (refl, (refl, tt))), tt)) $
        suffices ! _
        (ends_at 𝓛 f.ended stayed held (At (passed ∷ [])) made steps (tt, tt) (tt, tt)) $
        says ! refl $ nothing ! $ nothing ! $ fjoin ! $ join ! $
        move ! (1 ∷ 0 ∷ []) $ join ! $ done !)

  meets : (𝓣 : Tables 𝓤 H)
      → Meets 𝓛 (f.ended).signature (WpFn 𝓤 H 𝓣.C 𝓣.Λ code.function) (closing 𝓛 f.ended held)
  meets 𝓣 =
      walk_Meets 𝓛 f.ended stayed (Goes-dropped 𝓛 1 lent yes (λ κs x f. refl), tt) held
      (WpFn 𝓤 H 𝓣.C 𝓣.Λ code.function) (WpFn-mono 𝓤 H 𝓛.laws 𝓣 code.function)
      (λ z.
      let a = z.0.3 in
      let vss = z.0.4 in
      let Rs : List RattleType = types_at (f.ended).signature.params z.0.0 in
      let entry = on_entry 𝓛 (f.ended).signature z.0.0 z.0.1 a vss in
      fact_use 𝓤 (Are Rs (Ises Rs) a vss)
      (via 𝓤 (sem 𝓛 (owns Rs a vss))
      (via 𝓤 entry (fst∗ 𝓤 entry ((held z.0.0 a).requires z.1))
      (snd∗ 𝓤 (alive 𝓛 (f.ended).signature z.0.0 z.0.1) (sem 𝓛 (owns Rs a vss))))
      (owns_show 𝓛 Rs (Ises Rs) (showss 𝓛 Rs) a vss))
      (λ are. subst (Goes 𝓣.C 𝓣.Λ z) (sym are.0.0) (walks 𝓣.C 𝓣.Λ z)))

-- what it makes is what its contract says
pub of_spec : {M : Type 1} → stated.statement M
unfolding tables_of
of_spec 𝓤 𝓛 𝓜 𝓡 wired =
    let 𝓣 : Tables 𝓤 𝓛.H = tables_of 𝓤 𝓛.H 𝓜 (tables 𝓤 𝓛.H 𝓜 𝓡 𝓡.env) in
    entered 𝓤 𝓛.H
    (triple_of 𝓛 (f.ended).signature (closing 𝓛 f.ended (f.clauses 𝓛 𝓜.mem 𝓡.returns)))
    𝓣.C 𝓣.Λ key code.function (code.unfolded 𝓤 𝓛.H 𝓜 𝓡 wired) (meets 𝓛 𝓜.mem 𝓡.returns 𝓣)
