-- What is known of pipes while they are made one after the other, and while their ends are lent.
use Rattle.std.proofs.Common.{[], ◌≡◌, ◌<◌, ◌+◌, ◌*◌, ◌++◌, ℕ, zero, suc, List, ◌∷◌, length}
use Rattle.std.proofs.Common.{drop, ap, sym, subst, arith, length-append, ◌∙◌}
use Rattle.std.proofs.Math.Nat.{suc-mul}
use Rattle.std.proofs.Math.ListN.{get_or}
use Rattle.std.proofs.lemmas.List.{append-nil, append_assoc}
use Rattle.rendez_words.specs.declared.words.Words.{Words}
use Rattle.sleep_wakeup.specs.Kernel.{Unused, rendez_less}
use Rattle.pipe_dev.specs.declared.end.Ends.{Ends}
use Rattle.pipe_dev.specs.declared.pipe.Pipe.{Pipe}
use Rattle.pipe_dev.specs.declared.pipe.PipeStart.{PipeStart}
use Rattle.pipe_dev.specs.Openings.{IsStartOf, rendez_for}
use Rattle.plan9.specs.Pipes.{Size, IsNewPipe, AreNewFrom, StartEach, AreEndsOf, AreAllEnds}
use Rattle.plan9.specs.Pipes.{rendez_for_all}

-- ---- made

-- and those of one more are used up
pub one_more_used : (made : ℕ) (size : Size) (before : Unused)
    → rendez_less (rendez_for size.writers) (rendez_less (rendez_for_all made size) before)
    ≡ rendez_less (rendez_for_all (made + 1) size) before
one_more_used made size before =
    let each = rendez_for size.writers in
    let more : suc made * each ≡ made * each + each = suc-mul made each in
    ap (λ (n : ℕ). record before { rendez = n }) (omega (arith, more))

-- one pipe more, behind the others
pub one_more_new : (size : Size) (words : Words) (first : ℕ) (pipes : List Pipe)
    (starts : List PipeStart) (pipe : Pipe) (start : PipeStart)
    → AreNewFrom size words first pipes starts
    → IsNewPipe size words (first + length pipes * rendez_for size.writers)
    (record { pipe = pipe; start = start })
    → AreNewFrom size words first (pipes ++ pipe ∷ []) (starts ++ start ∷ [])
one_more_new size words first [] [] pipe start all new = (
  subst (λ (n : ℕ). IsNewPipe size words n (record { pipe = pipe; start = start }))
      (omega arith) new,
  tt,
)
one_more_new size words first (one ∷ pipes) (other ∷ starts) pipe start (new_one, all) new = (
  new_one,
  one_more_new size words (first + rendez_for size.writers) pipes starts pipe start all
      (subst (λ (n : ℕ). IsNewPipe size words n (record { pipe = pipe; start = start }))
      (further (length pipes) (rendez_for size.writers)) new),
)
  where
    further : (count each : ℕ) → first + suc count * each ≡ first + each + count * each
    further count each = let more = suc-mul count each in omega (arith, more)
one_more_new size words first [] (other ∷ starts) pipe start all new = elim all [ ]
one_more_new size words first (one ∷ pipes) [] pipe start all new = elim all [ ]

-- that pipe, as it was made by a roster that has fewer Rendez left
pub behind_others : (size : Size) (before now : Unused) (made : ℕ) (pipes : List Pipe)
    (starts : List PipeStart) (pipe : Pipe) (start : PipeStart) (pipes' : List Pipe)
    (starts' : List PipeStart) → length pipes ≡ made
    → now ≡ rendez_less (rendez_for_all made size) before
    → AreNewFrom size before.words before.rendez pipes starts
    → IsNewPipe size now.words now.rendez (record { pipe = pipe; start = start })
    → pipes' ≡ pipes ++ pipe ∷ [] → starts' ≡ starts ++ start ∷ []
    → AreNewFrom size before.words before.rendez pipes' starts'
behind_others size before now made pipes starts pipe start pipes' starts' counted now_is all new
    pipes_are starts_are =
    rw (pipes_are, starts_are) (one_more_new size before.words before.rendez pipes starts pipe start
    all (subst (λ (n : ℕ). IsNewPipe size before.words (before.rendez + n * rendez_for size.writers)
    (record { pipe = pipe; start = start })) (sym counted)
    (subst (λ (now : Unused). IsNewPipe size now.words now.rendez
    (record { pipe = pipe; start = start })) now_is new)))

-- each start is of its pipe
pub starts_of : (size : Size) (words : Words) (first : ℕ) (pipes : List Pipe)
    (starts : List PipeStart) → AreNewFrom size words first pipes starts → StartEach pipes starts
starts_of size words first [] [] all = tt
starts_of size words first (pipe ∷ pipes) (start ∷ starts) (new, all) =
    (new.start_is, starts_of size words (first + rendez_for size.writers) pipes starts all)
starts_of size words first [] (start ∷ starts) all = elim all [ ]
starts_of size words first (pipe ∷ pipes) [] all = elim all [ ]

-- ---- lent

-- what stands at this place, and what stands behind it
next_and_rest : (pipes : List Pipe) (place : ℕ) (pipe : Pipe) → place < length pipes
    → pipe ≡ get_or pipes place pipe → drop place pipes ≡ pipe ∷ drop (suc place) pipes
next_and_rest [] place pipe below is = absurd (omega (arith, below))
next_and_rest (one ∷ pipes) zero pipe below is = ap (λ first. first ∷ pipes) (sym is)
next_and_rest (one ∷ pipes) (suc place) pipe below is =
    next_and_rest pipes place pipe (omega (arith, below)) is

-- a start is left, so its pipe stands at this place
pub has_next : (pipes : List Pipe) (place : ℕ) (start : PipeStart) (starts : List PipeStart)
    → StartEach (drop place pipes) (start ∷ starts) → place < length pipes
has_next [] zero start starts each = elim each [ ]
has_next [] (suc place) start starts each = elim each [ ]
has_next (pipe ∷ pipes) zero start starts each = omega arith
has_next (pipe ∷ pipes) (suc place) start starts each =
    let below = has_next pipes place start starts each in omega (arith, below)

module _ (pipes : List Pipe) (lent : List Ends) (pipe : Pipe) (start : PipeStart)
    (left rest : List PipeStart) (one_is : left ≡ start ∷ rest)
    (each : StartEach (drop (length lent) pipes) left)
    (is : pipe ≡ get_or pipes (length lent) pipe) where
  some_left : StartEach (drop (length lent) pipes) (start ∷ rest)
  some_left =
      subst (λ (l : List PipeStart). StartEach (drop (length lent) pipes) l) one_is each

  apart : drop (length lent) pipes ≡ pipe ∷ drop (suc (length lent)) pipes
  apart =
      next_and_rest pipes (length lent) pipe
      (has_next pipes (length lent) start rest some_left) is

  next_and_others : IsStartOf pipe start × StartEach (drop (suc (length lent)) pipes) rest
  next_and_others = subst (λ (all : List Pipe). StartEach all (start ∷ rest)) apart some_left

  -- so the start is of that pipe
  pub next_start : IsStartOf pipe start
  next_start = next_and_others.0

  module _ (ends : Ends) (after : List Ends) (after_is : after ≡ lent ++ ends ∷ []) where
    longer : length after ≡ suc (length lent)
    longer =
        let one_more = length-append lent (ends ∷ []) in
        omega (arith, ap length after_is, one_more)

    -- and the others are of the pipes behind it
    pub others_left : StartEach (drop (length after) pipes) rest
    others_left =
        subst (λ (n : ℕ). StartEach (drop n pipes) rest) (sym longer) next_and_others.1

    -- and with its ends the ends of all are lent, where those of the others are
    pub one_more_lent : (starts : List PipeStart) → AreEndsOf pipe start ends
        → ((others : List Ends) → AreAllEnds (drop (length lent) pipes) left others
        → AreAllEnds pipes starts (lent ++ others))
        → (others : List Ends) → AreAllEnds (drop (length after) pipes) rest others
        → AreAllEnds pipes starts (after ++ others)
    one_more_lent starts of_pipe before others behind =
        let behind_it = subst (λ (n : ℕ). AreAllEnds (drop n pipes) rest others) longer behind in
        let with_it = subst (λ (all : List Pipe). AreAllEnds all (start ∷ rest) (ends ∷ others))
        (sym apart) (of_pipe, behind_it) in
        let all = before (ends ∷ others) (subst
        (λ (l : List PipeStart). AreAllEnds (drop (length lent) pipes) l (ends ∷ others))
        (sym one_is) with_it) in
        subst (AreAllEnds pipes starts) (sym (ap (λ (l : List Ends). l ++ others) after_is
        ∙ append_assoc lent (ends ∷ []) others)) all

none_left : (pipes : List Pipe) (starts : List PipeStart) → StartEach pipes starts
    → length starts ≡ 0 → AreAllEnds pipes starts []
none_left [] [] each none = tt
none_left [] (start ∷ starts) each none = elim each [ ]
none_left (pipe ∷ pipes) [] each none = elim each [ ]
none_left (pipe ∷ pipes) (start ∷ starts) each none = absurd (omega (arith, none))

-- no start is left, so all ends are lent
pub all_lent : (pipes : List Pipe) (starts : List PipeStart) (lent : List Ends)
    (left : List PipeStart) → StartEach (drop (length lent) pipes) left
    → ((others : List Ends) → AreAllEnds (drop (length lent) pipes) left others
    → AreAllEnds pipes starts (lent ++ others)) → length left ≡ 0
    → AreAllEnds pipes starts lent
all_lent pipes starts lent left each before none =
    subst (AreAllEnds pipes starts) (append-nil lent)
    (before [] (none_left (drop (length lent) pipes) left each none))
