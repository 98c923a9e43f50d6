-- The order in time. A moment of a table is the views of its seats between two steps. After Herlihy
-- and Wing, "Linearizability: a correctness condition for concurrent objects" (1990): a call that
-- has returned comes before each call that begins later.
use Rattle.std.specs.Prelude.{◌≡◌, ◌≢◌, ℕ, List, [], ◌∷◌, ◌++◌, slice_set, IsTrue}
use mathlib.Core.Option.{some}
use lib.ListN.{get_elem?}
use Rattle.histories.specs.declared.account.Account.{Account}
use Rattle.histories.specs.History.{IsPast}
use Rattle.histories.specs.Account.{has_number}
use Rattle.histories.specs.Changes.{LooksAt}

module _ {View Entry : Type 0} (account_of : View → Account Entry) where
  -- some seat has seen this history at the moment
  pub record IsSeen (history : List Entry) (moment : List View) : Type 0 where
    pub seat : ℕ
    pub view : View
    pub there : get_elem? moment seat ≡ some view
    pub past : IsPast history (account_of view).seen

  -- what was seen at the first moment is seen at the second
  abbrev pub StaysSeen : (begun ended : List View) → Type 0
  StaysSeen begun ended = (history : List Entry) → IsSeen history begun → IsSeen history ended

module _ {View Entry : Type 0} (by : Entry → ℕ) (account_of : View → Account Entry) where
  -- a call of this seat, which had not begun at the first moment, has made an entry with this past
  -- at the second, and may have returned
  pub record IsCall (seat : ℕ) (entry : Entry) (past : List Entry) (begun ended : List View)
      : Type 0 where
    pub old : View
    pub new : View
    pub at_first : get_elem? begun seat ≡ some old
    pub at_second : get_elem? ended seat ≡ some new
    pub own : IsTrue (has_number (account_of old).shares (by entry))
    pub later : IsPast (account_of old).seen past
    pub made : IsPast (entry ∷ past) (account_of new).seen

  -- an entry comes after all that any seat had seen when its call began
  abbrev pub KeepsTime : (begun ended : List View) → Type 0
  KeepsTime begun ended =
      (seat : ℕ) (entry : Entry) (past history : List Entry) → IsCall seat entry past begun ended →
      IsSeen account_of history begun → IsPast history past

-- ---- steps and runs

module _ {View Slots : Type 0} (Learns : View × Slots → ℕ → View × Slots → Type 0)
    (left right : View → View) (both : View → View → View) (spent : View) where
  -- a step: one seat, with its slots, learns this, and the other views stay; or one seat is cut in
  -- two, and the new one comes after the others; or two become one, and the other is spent
  pub data IsStep (before : List View) : List View → Type 0 where
    learns : (seat found : ℕ) (old new : View × Slots) → get_elem? before seat ≡ some old.0 →
        Learns old found new → IsStep before (slice_set before seat new.0)
    cuts : (seat : ℕ) (old : View) → get_elem? before seat ≡ some old →
        IsStep before (slice_set before seat (left old) ++ right old ∷ [])
    joins : (seat other : ℕ) (first second : View) → get_elem? before seat ≡ some first →
        get_elem? before other ≡ some second → other ≢ seat →
        IsStep before (slice_set (slice_set before seat (both first second)) other spent)

module _ {Moment : Type 0} (Rule : Moment → Type 0) (Steps : Moment → Moment → Type 0) where
  -- a run from the first moment to the second: the rule holds at each moment, and each step is of
  -- this kind
  pub data IsRun (begun : Moment) : Moment → Type 0 where
    starts : Rule begun → IsRun begun begun
    goes_on : {between ended : Moment} → IsRun begun between → Steps between ended → Rule ended →
        IsRun begun ended

module _ {Moment View Entry : Type 0} (by : Entry → ℕ) (account_of : View → Account Entry)
    (views : Moment → List View) where
  -- After Herlihy and Wing (1990): linearizable, where calls make these entries, and time is the
  -- order of the steps
  pub record IsLinearizable (IsLegal : List Entry → Type 0) (Rule : Moment → Type 0)
      (Steps : Moment → Moment → Type 0) : Type 0 where
    -- at each moment there is one legal history: each seat has seen a past of it, and it has each
    -- entry of the seat once
    pub history : (moment : Moment) → Rule moment → (history : List Entry) × IsLegal history ×
        ((seat : ℕ) (view : View) → get_elem? (views moment) seat ≡ some view →
        LooksAt by history (account_of view))
    -- what was seen stays seen
    pub seen : (begun ended : Moment) → IsRun Rule Steps begun ended →
        StaysSeen account_of (views begun) (views ended)
    -- an entry comes after all that any seat had seen when its call began
    pub entries : (begun ended : Moment) → IsRun Rule Steps begun ended →
        KeepsTime by account_of (views begun) (views ended)
    -- so what a call made that has returned comes before what a call makes that begins later
    pub calls : (earlier returned begun ended : Moment) → IsRun Rule Steps returned begun →
        IsRun Rule Steps begun ended → (seat other : ℕ) (entry next : Entry)
        (past before : List Entry) →
        IsCall by account_of seat entry past (views earlier) (views returned) →
        IsCall by account_of other next before (views begun) (views ended) →
        IsPast (entry ∷ past) before
