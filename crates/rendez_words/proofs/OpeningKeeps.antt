-- The rule holds when the words are made: nothing was done, and no pid was given.
use Rattle.std.proofs.Common.{◌≡◌, ℕ, zero, suc, ◌+◌, ◌*◌, List, [], ◌∷◌, ◌++◌, refl, sym, ◌∙◌, ap}
use Rattle.std.proofs.Common.{subst, arith}
use Rattle.std.specs.Prelude.{replicate, flat_map}
use Rattle.std.proofs.lemmas.List.{replicate-append-replicate}
use mathlib.Core.Option.{some, some-injective, some-ne-none}
use lib.ListN.{get_elem?}
use Rattle.atomic_table.specs.Table as table
use Rattle.sleep_core.specs.State.{opening, no_flags}
use Rattle.rendez_words.specs.declared.view.Sizes.{Sizes}
use Rattle.rendez_words.specs.declared.view.View.{View}
use Rattle.rendez_words.specs.Rule.{rendez_line, proc_line, words_of, Fits, ShowsCore}
use Rattle.rendez_words.specs.View.{first_view, word_count}
use Rattle.sync_base.specs.declared.line.TheConstants.{LINE}
use Rattle.rendez_words.proofs.LineLemmas.{zero_lines, zip-replicate}

-- all lines are zeros
opening_words : (sizes : Sizes) → words_of (opening sizes.procs sizes.rendez)
    ≡ replicate (word_count sizes) 0
opening_words sizes =
    ap (λ both. flat_map rendez_line both ++ flat_map proc_line (replicate sizes.procs no_flags))
    (zip-replicate sizes.rendez 0 0)
    ∙ ap (λ words. words ++ flat_map proc_line (replicate sizes.procs no_flags))
    (zero_lines rendez_line (0, 0) refl sizes.rendez)
    ∙ ap (λ words. replicate (LINE * sizes.rendez) 0 ++ words)
    (zero_lines proc_line no_flags refl sizes.procs)
    ∙ replicate-append-replicate (LINE * sizes.rendez) (LINE * sizes.procs) 0
    ∙ ap (λ n. replicate n 0) all
  where
    all : LINE * sizes.rendez + LINE * sizes.procs ≡ word_count sizes
    all = omega arith

-- words of zero and a seat with all pids to give keep the rule
pub opening_keeps : (sizes : Sizes) (words : List ℕ) → words ≡ replicate (word_count sizes) 0
    → ShowsCore sizes (table.opening words [] (first_view sizes))
opening_keeps sizes words are =
    record {
      run = [];
      owner = λ pid. 0;
      legal = tt;
      words = are ∙ sym (opening_words sizes);
      each_seat = each_seat;
    }
  where
    each_seat : (seat : ℕ) (known : View) → get_elem? (first_view sizes ∷ []) seat ≡ some known
        → Fits sizes.procs [] (λ pid. 0) seat known
    each_seat zero known at = subst (Fits sizes.procs [] (λ pid. 0) 0)
        (some-injective (first_view sizes) known at) (λ pid least. record {
          owner_is = refl;
          none = refl;
        })
    each_seat (suc seat) known at = absurd (some-ne-none known (sym at))
