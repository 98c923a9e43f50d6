-- Who waits at a pipe is woken with a number above the one that it was told.
use Rattle.std.proofs.Common.{◌≡◌, ◌⊎◌, inl, inr, ℕ, ◌+◌, ◌<◌, ◌≤◌, Bool, true, false, eqb}
use Rattle.std.proofs.Common.{if◌then◌else◌, List, [], ◌∷◌, ◌++◌, Option, Some, None}
use Rattle.std.proofs.Common.{refl, subst, arith}
use Rattle.histories.proofs.HistoryLemmas.{legal_past}
use Rattle.sync_base.specs.Pipe.{begun_of}
use Rattle.block_queue.specs.declared.entry.Entry.{Entry}
use Rattle.block_queue.specs.declared.entry.Entry.TheVariants.{Taken, Stood, Full, Block, NotYet}
use Rattle.block_queue.specs.declared.view.Key.{Key}
use Rattle.block_queue.specs.History.{opening_state}
use Rattle.block_queue.specs.Meaning.{queue_meaning, queue_after}
use Rattle.block_queue.proofs.StateLemmas.{begun_is}
use Rattle.waiting.proofs.Cases.{below_or_not}
use Rattle.pipe_dev.specs.Finishing.{left_state}
use Rattle.pipe_dev.specs.WaitLaws.{IsUnread, WaitingReadersAreWokenAbove}
use Rattle.pipe_dev.specs.WaitLaws.{WaitingWritersAreWokenAbove}
use Rattle.pipe_dev.proofs.LawLemmas.{LegalFor, read_within}

-- ---- how far a direction is read

-- no write is read in part
never_begun : (key : Key) (history : List Entry) → (left_state key history).offset ≡ 0
never_begun key [] = refl
never_begun key (Block writer block number ∷ past) = refl
never_begun key (entry ∷ past) = never_begun key past

-- so those that are begun are those that are read
begun : (key : Key) (history : List Entry)
    → begun_of (left_state key history) ≡ (left_state key history).read_whole
begun key history = begun_is (left_state key history) (never_begun key history)

-- no read is taken back
read_grows : (key : Key) (since past : List Entry)
    → (left_state key past).read_whole ≤ (left_state key (since ++ past)).read_whole
read_grows key [] past = omega arith
read_grows key (Block writer block number ∷ since) past =
    let before = read_grows key since past in omega (arith, before)
read_grows key (entry ∷ since) past = read_grows key since past

-- ---- the numbers of writes

-- each number up to that of the last write that was read was read
all_are_read : (key : Key) (history : List Entry) (number : ℕ) → LegalFor key history
    → key.first < number → number ≤ key.first + (left_state key history).read_whole
    → ¬ IsUnread number history
all_are_read key [] number legal above within unread = absurd (omega (arith, above, within))
all_are_read key (Block writer block its ∷ past) number legal above within unread =
    by (λ older. all_are_read key past number legal.1 above older unread.1)
    (below_or_not (key.first + (left_state key past).read_whole) number)
  where
    its_is : its ≡ key.first + (left_state key past).read_whole + 1
    its_is = let is = legal.0.may.number_is in
        let whole = begun key past in omega (arith, is, whole)

    by : (number ≤ key.first + (left_state key past).read_whole → ⊥)
        → (key.first + (left_state key past).read_whole < number)
        ⊎ (number ≤ key.first + (left_state key past).read_whole) → ⊥
    by past_is (inr older) = past_is older
    by past_is (inl last) = unread.0 (let is = its_is in omega (arith, is, last, within))
all_are_read key (entry ∷ past) number legal above within unread =
    all_are_read key past number legal.1 above within unread

-- what holds of the number of each put that has not returned
abbrev OfPuts : (ℕ → Type 0) → Key → List Entry → Type 0
OfPuts Holds key history =
    (seat number : ℕ) → (queue_after key history).putting seat ≡ Some number → Holds number

-- a put that has just begun
put_begun : (Holds : ℕ → Type 0) (putting : ℕ → Option ℕ) (writer given : ℕ) → Holds given
    → ((seat number : ℕ) → putting seat ≡ Some number → Holds number)
    → (seat number : ℕ)
    → (if eqb seat (writer + 1) then Some given else putting seat) ≡ Some number
    → Holds number
put_begun Holds putting writer given it others seat number is = by (eqb seat (writer + 1)) is
  where
    by : (b : Bool) → (if b then Some given else putting seat) ≡ Some number → Holds number
    by true is = let same : given ≡ number = cc in subst Holds same it
    by false is = others seat number is

-- and one that has returned
put_ended : (Holds : ℕ → Type 0) (putting : ℕ → Option ℕ) (writer : ℕ)
    → ((seat number : ℕ) → putting seat ≡ Some number → Holds number)
    → (seat number : ℕ)
    → (if eqb seat (writer + 1) then None else putting seat) ≡ Some number
    → Holds number
put_ended Holds putting writer others seat number is = by (eqb seat (writer + 1)) is
  where
    by : (b : Bool) → (if b then None else putting seat) ≡ Some number → Holds number
    by true is = absurd cc
    by false is = others seat number is

-- in a new direction there is none
no_put : (number : ℕ) → None ≡ Some number → ⊥
no_put number none = cc

-- a write is numbered after those before the direction
puts_are_numbered : (key : Key) (history : List Entry) → LegalFor key history
    → OfPuts (λ number. key.first < number) key history
puts_are_numbered key [] legal = λ seat number none. absurd (no_put number none)
puts_are_numbered key (Taken writer block given ∷ past) legal =
    put_begun (λ number. key.first < number) (queue_after key past).putting writer given
    (let is = legal.0.may.number_is in omega (arith, is)) (puts_are_numbered key past legal.1)
puts_are_numbered key (Stood writer given ∷ past) legal =
    put_ended (λ number. key.first < number) (queue_after key past).putting writer
    (puts_are_numbered key past legal.1)
puts_are_numbered key (entry ∷ past) legal = puts_are_numbered key past legal.1

-- ---- the reader

-- what the reader had not read when it was told to wait is numbered above what it was told
unread_is_above : (key : Key) (past : List Entry) (told : ℕ) → LegalFor key (NotYet told ∷ past)
    → OfPuts (λ number. IsUnread number past → told < number) key past
unread_is_above key past told legal seat number put unread = by (below_or_not told number)
  where
    told_is : told ≡ key.first + (left_state key past).read_whole
    told_is = let is = legal.0.may.number_is in
        let whole = begun key past in omega (arith, is, whole)

    by : (told < number) ⊎ (number ≤ told) → told < number
    by (inl above) = above
    by (inr low) =
        absurd (all_are_read key past number legal.1
        (puts_are_numbered key past legal.1 seat number put)
        (let is = told_is in omega (arith, is, low)) unread)

-- each put that the reader has not read, and that has not returned since it was told to wait, has a
-- number above the one that it was told
puts_are_above : (key : Key) (past since : List Entry) (told : ℕ)
    → LegalFor key (since ++ (NotYet told ∷ past))
    → OfPuts (λ number. IsUnread number past → told < number) key
    (since ++ (NotYet told ∷ past))
puts_are_above key past [] told legal = unread_is_above key past told legal
puts_are_above key past (Taken writer block given ∷ since) told legal =
    put_begun (λ number. IsUnread number past → told < number)
    (queue_after key (since ++ (NotYet told ∷ past))).putting writer given (λ unread. later)
    (puts_are_above key past since told legal.1)
  where
    later : told < given
    later =
        let first = legal_past (queue_meaning key.first) (opening_state key.limit) since
        (NotYet told ∷ past) legal.1 in
        let told_is = first.0.may.number_is in
        let whole = begun key past in
        let more = read_grows key since (NotYet told ∷ past) in
        let within = read_within key (since ++ (NotYet told ∷ past)) legal.1 in
        let given_is = legal.0.may.number_is in
        omega (arith, told_is, whole, more, within, given_is)
puts_are_above key past (Stood writer given ∷ since) told legal =
    put_ended (λ number. IsUnread number past → told < number)
    (queue_after key (since ++ (NotYet told ∷ past))).putting writer
    (puts_are_above key past since told legal.1)
puts_are_above key past (entry ∷ since) told legal = puts_are_above key past since told legal.1

-- by what is so of each put until it stands
pub readers_above : WaitingReadersAreWokenAbove
readers_above key history is past since told writer number history_is unread =
    let legal = subst (LegalFor key) history_is is.legal in
    puts_are_above key past since told legal.1 (writer + 1) number legal.0.in_turn unread

-- ---- a writer

-- by how many writes were read then, and one more
pub writers_above : WaitingWritersAreWokenAbove
writers_above key history is past since waits writer told number waiting block history_is =
    let legal = subst (LegalFor key) history_is is.legal in
    let first = legal_past (queue_meaning key.first) (opening_state key.limit) since
    (Full waits waiting told ∷ past) legal.1 in
    let told_is = first.0.may.number_is in
    let number_is = legal.0.may.number_is in
    let whole = begun key past in
    let now = begun key (since ++ (Full waits waiting told ∷ past)) in
    let more = read_grows key since (Full waits waiting told ∷ past) in
    omega (arith, told_is, number_is, whole, now, more)
