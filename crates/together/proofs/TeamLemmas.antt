-- What a team's members and threads are after each of its steps.
use Rattle.std.proofs.Common.{◌≡◌, ℕ, List, [], ◌∷◌, ◌++◌, length, refl, sym, subst, arith}
use Rattle.std.proofs.Common.{Result, Ok, Err, IsOk, IsErr}
use Rattle.std.specs.List.{AllZip}
use Rattle.std.specs.declared.thread.PromisedHandle.{PromisedHandle}
use Rattle.together.specs.declared.job.Worker.{Worker}
use Rattle.together.specs.declared.member.Came.{Came}
use Rattle.together.specs.declared.starting.Kept.{Kept}
use Rattle.together.specs.Parts.{Parts}
use Rattle.together.specs.Teams.{IsBack, IsFor, LinesUp}
use Rattle.together.proofs.GateLemmas.{waited_none}
use Rattle.together.proofs.PartLemmas.{zip_pop, zip_same, parts_begin, parts_end, parts_stand}
use Rattle.together.proofs.PartLemmas.{parts_come, parts_left, parts_turn}

-- a list with no length is empty
pub no_more : {A : Type 0} (xs : List A) → length xs ≡ 0 → xs ≡ []
no_more [] none = refl
no_more (x ∷ xs) none = absurd (omega arith)

-- each may come back as it was
pub back_all : {M : Type 0} (comes_back : M → M → Type 0) (members : List M)
    → ((m : M) → comes_back m m) → AllZip comes_back members members
back_all comes_back members same = zip_same comes_back same members

-- workers that did not run are back
pub workers_back : {J : Type 0} (workers : List (Worker J)) → AllZip IsBack workers workers
workers_back workers =
    back_all IsBack workers (λ worker.
    record { job = refl; words = refl; waited = waited_none worker.proc.process })

module _ {R M E : Type 0} (lock : ℕ) (members : List M) where
  -- the members that wait for a thread, as they were, and the threads that stand for the others
  abbrev pub Starts : List M → List (PromisedHandle (Came M E) (Kept R M)) → Type 0
  Starts waiting standing = Parts (λ (m : M) (w : M). w ≡ m) (IsFor lock) members waiting standing

  -- at first all wait
  pub starts_begin : (standing : List (PromisedHandle (Came M E) (Kept R M))) → standing ≡ []
      → Starts members standing
  starts_begin standing none =
      subst (λ hs. Starts members hs) (sym none)
      (parts_begin (λ (m : M) (w : M). w ≡ m) (IsFor lock) members members
      (zip_same (λ (m : M) (w : M). w ≡ m) (λ m. refl) members))

  -- a thread stands for the last of those who wait
  pub starts_stand : (old waiting : List M) (m : M)
      (standing new : List (PromisedHandle (Came M E) (Kept R M)))
      (h : PromisedHandle (Came M E) (Kept R M))
      → Starts old standing → old ≡ waiting ++ m ∷ [] → IsFor lock m h
      → new ≡ standing ++ h ∷ [] → Starts waiting new
  starts_stand old waiting m standing new h starts is for grown =
      let at = subst (λ ms. Starts ms standing) is starts in
      subst (λ hs. Starts waiting hs) (sym grown)
      (parts_stand (λ (m : M) (w : M). w ≡ m) (IsFor lock) members waiting standing m h at
      (λ w same. subst (λ one. IsFor lock one h) same for))

  module _ (comes_back : M → M → Type 0) where
    -- where nobody waits any more, all threads stand
    pub lines_none : (waiting : List M)
        (standing : List (PromisedHandle (Came M E) (Kept R M)))
        → Starts waiting standing → waiting ≡ [] → LinesUp comes_back lock members waiting standing
    lines_none waiting standing starts none =
        subst (λ ms. LinesUp comes_back lock members ms standing) (sym none)
        (parts_turn (λ (m : M) (w : M). w ≡ m) comes_back (IsFor lock) members standing
        (subst (λ ms. Starts ms standing) none starts))

    -- the last of those who wait is back, and no other has gone
    pub lines_left : (old waiting : List M) (m x : M) (new : List M)
        (standing : List (PromisedHandle (Came M E) (Kept R M)))
        → ((w : M) → comes_back w w) → Starts old standing → old ≡ waiting ++ m ∷ []
        → comes_back m x → new ≡ waiting ++ x ∷ []
        → LinesUp comes_back lock members new standing
    lines_left old waiting m x new standing same starts is back grown =
        let at = subst (λ ms. Starts ms standing) is starts in
        subst (λ ms. LinesUp comes_back lock members ms standing) (sym grown)
        (parts_left (λ (m : M) (w : M). w ≡ m) comes_back (IsFor lock) members waiting standing m x
        at
        (λ w y is. subst (λ one. comes_back w one) (sym is) (same w))
        (λ w is. subst (λ one. comes_back one x) is back))

    -- the same by another name of the lock
    pub lines_at : (seen : ℕ) (waiting : List M)
        (standing : List (PromisedHandle (Came M E) (Kept R M)))
        → LinesUp comes_back lock members waiting standing → seen ≡ lock
        → LinesUp comes_back seen members waiting standing
    lines_at seen waiting standing lined same =
        subst (λ at. LinesUp comes_back at members waiting standing) (sym same) lined

    -- where nobody waits, all threads stand
    pub lines_all : (seen : ℕ) (waiting : List M)
        (standing : List (PromisedHandle (Came M E) (Kept R M)))
        → LinesUp comes_back lock members waiting standing → waiting ≡ [] → seen ≡ lock
        → LinesUp comes_back seen members [] standing
    lines_all seen waiting standing lined none same =
        subst (λ at. LinesUp comes_back at members [] standing) (sym same)
        (subst (λ ms. LinesUp comes_back lock members ms standing) none lined)

    -- the member of the last thread is back
    pub lines_back : (waiting new : List M) (x : M)
        (old standing : List (PromisedHandle (Came M E) (Kept R M)))
        (h : PromisedHandle (Came M E) (Kept R M))
        → LinesUp comes_back lock members waiting old → old ≡ standing ++ h ∷ []
        → comes_back h.promise.member.value x → new ≡ waiting ++ x ∷ []
        → LinesUp comes_back lock members new standing
    lines_back waiting new x old standing h lined is back grown =
        let at = subst (λ hs. LinesUp comes_back lock members waiting hs) is lined in
        subst (λ ms. LinesUp comes_back lock members ms standing) (sym grown)
        (parts_come comes_back (IsFor lock) members waiting standing x h at
        (λ m for. subst (λ one. comes_back one x) for.0 back))

    -- at the end all members are back
    pub lines_end : (back : List M) (standing : List (PromisedHandle (Came M E) (Kept R M)))
        → LinesUp comes_back lock members back standing → standing ≡ []
        → AllZip comes_back members back
    lines_end back standing lined none =
        parts_end comes_back (IsFor lock) members back
        (subst (λ hs. LinesUp comes_back lock members back hs) none lined)

    -- all threads stand, and nothing has come yet
    pub joins_begin : (ends : M → E → Type 0) (ended : List E)
        (standing : List (PromisedHandle (Came M E) (Kept R M)))
        → LinesUp comes_back lock members [] standing → ended ≡ []
        → Parts ends (IsFor lock) members ended standing
    joins_begin ends ended standing lined none =
        subst (λ es. Parts ends (IsFor lock) members es standing) (sym none)
        (parts_turn comes_back ends (IsFor lock) members standing lined)

  -- the last thread that stands was started at this lock
  pub lock_of_last : {X : Type 0} (Comes : M → X → Type 0) (come : List X)
      (old standing : List (PromisedHandle (Came M E) (Kept R M)))
      (h : PromisedHandle (Came M E) (Kept R M))
      → Parts Comes (IsFor lock) members come old → old ≡ standing ++ h ∷ []
      → h.promise.board.now.decision.id ≡ lock
  lock_of_last Comes come old standing h parts is =
      let popped = zip_pop (IsFor lock) parts.back standing h
      (subst (λ hs. AllZip (IsFor lock) parts.back hs) is parts.stands) in
      popped.fits.1

  module _ (ends : M → E → Type 0) where
    -- the member of the last thread has come to something
    pub joins_come : (ended new : List E) (x : E)
        (old standing : List (PromisedHandle (Came M E) (Kept R M)))
        (h : PromisedHandle (Came M E) (Kept R M))
        → Parts ends (IsFor lock) members ended old → old ≡ standing ++ h ∷ []
        → ends h.promise.member.value x → new ≡ ended ++ x ∷ []
        → Parts ends (IsFor lock) members new standing
    joins_come ended new x old standing h joins is gave grown =
        let at = subst (λ hs. Parts ends (IsFor lock) members ended hs) is joins in
        subst (λ es. Parts ends (IsFor lock) members es standing) (sym grown)
        (parts_come ends (IsFor lock) members ended standing x h at
        (λ m for. subst (λ one. ends one x) for.0 gave))

    -- at the end each member has come to something
    pub joins_end : (ended : List E)
        (standing : List (PromisedHandle (Came M E) (Kept R M)))
        → Parts ends (IsFor lock) members ended standing → standing ≡ []
        → AllZip ends members ended
    joins_end ended standing joins none =
        parts_end ends (IsFor lock) members ended
        (subst (λ hs. Parts ends (IsFor lock) members ended hs) none joins)

-- what is `Ok` and what is `Err` are two
pub not_both : {A B : Type 0} (one two : Result A B) → one ≡ two → IsOk two → IsErr one → ⊥
not_both (Ok a) two same ok err = cc
not_both (Err a) (Ok b) same ok err = cc
not_both (Err a) (Err b) same ok err = cc
