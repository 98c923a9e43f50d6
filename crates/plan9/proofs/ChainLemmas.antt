-- Seats that were given one by another, and one more.
use Rattle.std.proofs.Common.{◌≡◌, ◌+◌, ◌++◌, ℕ, List, [], ◌∷◌, length, refl, subst, sym}
use Rattle.std.proofs.Common.{Result, Ok, Err, IfOk, IfErr, OnErr, inl, inr}
use Rattle.std.specs.Result.{IsErrAnd}
use Rattle.std.specs.List.{AllByRecursion}
use Rattle.std.proofs.lemmas.List.{length-append}
use Rattle.sync_base.specs.declared.fault.Fault.{Fault}
use Rattle.sync_base.specs.declared.fault.Fault.TheVariants.{Memory, NoProc}
use Rattle.plan9.specs.Chains.{AreChained, Chain, MayHave, RunsOut, WhyNoRoom, WhyNotMany}

-- what is told as it came is told for its reason
pub told_as : {A Why : Type 0} (P : Why → Type 0) (why : Why) (answer : Result A Why)
    → IsErrAnd answer (λ told. told ≡ why) → P why → IfErr answer P
told_as P why (Ok value) told is = tt
told_as P why (Err other) told is = subst P (sym told) is

-- a list with one more is longer by one
pub one_longer : {A : Type 0} (items more : List A) (next : A) → more ≡ items ++ next ∷ []
    → length more ≡ length items + 1
one_longer items more next is =
    subst (λ its. length its ≡ length items + 1) (sym is) (length-append items (next ∷ []))

module _ {Seat : Type 0} (Gives : Seat → Seat → Seat → Type 0) where
  -- the last one gave one more
  and_one : (givers : List Seat) (first last giver next : Seat) → Chain Gives givers first last
      → Gives last giver next → Chain Gives (givers ++ giver ∷ []) first next
  and_one [] first last giver next same gives =
      (next, subst (λ it. Gives it giver next) same gives, refl)
  and_one (other ∷ givers) first last giver next (between, given, rest) gives =
      (between, given, and_one givers between last giver next rest gives)

  -- the same, of the list with one more, of the seat that is put into it, and of what is last then
  pub chain_and_one : (givers more : List Seat) (first last giver put next after : Seat)
      → more ≡ givers ++ put ∷ [] → put ≡ giver → after ≡ next
      → Chain Gives givers first last → Gives last giver next → Chain Gives more first after
  chain_and_one givers more first last giver put next after is put_is after_is chain gives =
      subst (λ its. Chain Gives its first after) (sym is)
      (and_one givers first last put after chain
      (subst (λ it. Gives last it after) (sym put_is)
      (subst (λ it. Gives last giver it) (sym after_is) gives)))

  -- what is true of the first, and stays so of who gives and of who is given, is true of all
  pub all_in_chain : (P : Seat → Type 0)
      → ((old new child : Seat) → Gives old new child → P old → P new × P child)
      → (givers : List Seat) (first last : Seat) → Chain Gives givers first last → P first
      → AllByRecursion P (givers ++ last ∷ [])
  all_in_chain P keeps [] first last same one = (subst P (sym same) one, tt)
  all_in_chain P keeps (giver ∷ givers) first last (next, gives, rest) one =
      let both = keeps first giver next gives one in
      (both.0, all_in_chain P keeps givers next last rest both.1)

module _ {Seat : Type 0} (Gives : Seat → Seat → Seat → Type 0) (IsFirst : Seat → Type 0)
    (first : Seat) (first_is : IsFirst first) where
  -- so many from the first one on are so many of the object
  pub many_of : {List' : Type 0} (items : List' → List Seat) (count : ℕ)
      (answer : Result List' Fault)
      → IfOk answer (λ list. AreChained Gives (λ one. one ≡ first) count (items list))
      → IfOk answer (λ list. AreChained Gives IsFirst count (items list))
  many_of items count (Ok list) chained =
      record {
        count_is = chained.count_is;
        first = chained.first;
        first_is = subst IsFirst (sym chained.first_is) first_is;
        givers = chained.givers;
        last = chained.last;
        chain = chained.chain;
        seats_are = chained.seats_are;
      }
  many_of items count (Err why) chained = tt

  -- and where the last of them could give none, they have run out
  pub runs_out_of : (KnowsNone : Seat → Seat → Type 0) (Taken : Type 0) (procs count : ℕ)
      {List' : Type 0} (answer : Result List' Fault) → MayHave procs count
      → IfErr answer (λ why. why ≡ NoProc)
      → OnErr answer (RunsOut Gives (λ one. one ≡ first) KnowsNone count)
      → IfErr answer (WhyNotMany Gives IsFirst KnowsNone Taken procs count)
  runs_out_of KnowsNone Taken procs count (Ok list) may is out = tt
  runs_out_of KnowsNone Taken procs count (Err why) may is out =
      subst (WhyNotMany Gives IsFirst KnowsNone Taken procs count) (sym is)
      (inr (
        may,
        inr (record {
          first = out.first;
          first_is = subst IsFirst (sym out.first_is) first_is;
          givers = out.givers;
          before = out.before;
          after = out.after;
          chain = out.chain;
          fewer = out.fewer;
          none = out.none;
        }),
      ))

-- where there is no room for so many, there are not so many
pub no_room : {Seat : Type 0} (Gives : Seat → Seat → Seat → Type 0) (IsFirst : Seat → Type 0)
    (KnowsNone : Seat → Seat → Type 0) (Taken : Type 0) (procs count : ℕ) (why : Fault)
    → WhyNoRoom procs count why → WhyNotMany Gives IsFirst KnowsNone Taken procs count why
no_room Gives IsFirst KnowsNone Taken procs count NoProc none = inl none
no_room Gives IsFirst KnowsNone Taken procs count Memory may = may
no_room Gives IsFirst KnowsNone Taken procs count other none = absurd none
