-- The headline: what was read and is held is what was accepted.
use Rattle.std.proofs.Common.{◌≡◌, ◌==◌, ◌+◌, ◌≤◌, ℕ, Bool, true, false, eqb}
use Rattle.std.proofs.Common.{if◌then◌else◌, List, [], ◌∷◌, ◌++◌, length, take, drop, refl, sym}
use Rattle.std.proofs.Common.{◌∙◌, ap, subst, arith}
use Rattle.std.specs.Prelude.{map}
use Rattle.std.specs.List.{AllByRecursion}
use Rattle.std.proofs.lemmas.Bool.Decides.{nat_tests}
use Rattle.std.proofs.lemmas.List.{append_assoc, append-nil, length-append, length-take-le}
use Rattle.std.proofs.lemmas.List.{take-append-le, take-append-drop}
use Rattle.std.proofs.lemmas.List.Elements.{filter-append}
use Rattle.std.proofs.lemmas.Option.{slice_get_within}
use Rattle.histories.specs.declared.account.Share.{Share}
use Rattle.histories.specs.Account.{HasItsEntries}
use Rattle.histories.specs.History.{IsLegal, entries_by}
use Rattle.sync_base.specs.Pipe.{PipeState}
use Rattle.sync_base.specs.Write.{Write}
use Rattle.block_queue.specs.declared.entry.Entry.{Entry}
use Rattle.block_queue.specs.declared.entry.Entry.TheVariants.{Taken}
use Rattle.block_queue.specs.declared.entry.Entry.TheVariants.{Block, Hung}
use Rattle.block_queue.specs.declared.view.Key.{Key}
use Rattle.block_queue.specs.History.{seat_of, opening_state}
use Rattle.block_queue.specs.Meaning.{queue_meaning}
use Rattle.pipe_dev.specs.Parts.{Part, whole_at, whole_from, bytes_by}
use Rattle.pipe_dev.specs.Reading.{Reading, IsReading}
use Rattle.pipe_dev.specs.Finishing.{Holdings, Finishes, accepted_in, left_state}
use Rattle.pipe_dev.specs.Laws.{read_and_held, IsAllOfWriter, EachShareIsReadWholeAndOnce}
use Rattle.pipe_dev.specs.Laws.{IsNeverHung, NoWriteAfterHangup, NoneIsAcceptedAfterHangup}
use Rattle.pipe_dev.proofs.PartLemmas.{whole_from-append, bytes_by-append}

-- the history is a legal one of the direction
abbrev pub LegalFor : Key → List Entry → Type 0
LegalFor key history = IsLegal (queue_meaning key.first) (opening_state key.limit) history

-- no more writes are read than were accepted
pub read_within : (key : Key) (history : List Entry) → LegalFor key history
    → (left_state key history).read_whole ≤ length (left_state key history).accepted
read_within key [] legal = omega arith
read_within key (Taken writer block number ∷ past) legal =
    let before = read_within key past legal.1 in
    let longer = length-append (left_state key past).accepted
    (record { writer = writer; bytes = block } ∷ []) in
    omega (arith, before, longer)
read_within key (Block writer block number ∷ past) legal =
    let there = slice_get_within (left_state key past).accepted (left_state key past).read_whole
    (record { writer = writer; bytes = block }) legal.0.may.next in
    omega (arith, there)
read_within key (entry ∷ past) legal = read_within key past legal.1

-- what others did since: they read nothing, and accepted writes came after the others
pub record OnlyAccepts (before after : PipeState) : Type 0 where
  -- no more writes were read than before
  pub read : after.read_whole ≡ before.read_whole
  -- the writes that were accepted since
  pub more : List Write
  -- they stand after all that were accepted before
  pub accepted : after.accepted ≡ before.accepted ++ more

-- of entries of which none is by the number, none of the older ones is
none_older : (number : ℕ) (entry : Entry) (past : List Entry)
    → entries_by seat_of number (entry ∷ past) ≡ [] → entries_by seat_of number past ≡ []
none_older number entry past none = by (eqb (seat_of entry) number) none
  where
    by : (b : Bool) → (if b then entry ∷ entries_by seat_of number past
        else entries_by seat_of number past) ≡ [] → entries_by seat_of number past ≡ []
    by true absent = cc
    by false absent = absent

-- entries of which none is the reader's
only_accepts : (key : Key) (since seen : List Entry) → entries_by seat_of 0 since ≡ []
    → OnlyAccepts (left_state key seen) (left_state key (since ++ seen))
only_accepts key [] seen none =
    record { read = refl; more = []; accepted = sym (append-nil (left_state key seen).accepted) }
only_accepts key (Taken writer block number ∷ since) seen none =
    let before = only_accepts key since seen
    (none_older 0 (Taken writer block number) since none) in
    let write : Write = record { writer = writer; bytes = block } in
    record {
      read = before.read;
      more = before.more ++ write ∷ [];
      accepted = ap (λ writes. writes ++ write ∷ []) before.accepted
          ∙ append_assoc (left_state key seen).accepted before.more (write ∷ []);
    }
only_accepts key (Block writer block number ∷ since) seen none = cc
only_accepts key (entry ∷ since) seen none =
    let before = only_accepts key since seen (none_older 0 entry since none) in
    record { read = before.read; more = before.more; accepted = before.accepted }

-- what stands in front of a past by whom nothing is missing is not by it
none_since : (number : ℕ) (since seen : List Entry)
    → entries_by seat_of number (since ++ seen) ≡ entries_by seat_of number seen
    → entries_by seat_of number since ≡ []
none_since number since seen same =
    by (entries_by seat_of number since)
    (sym (filter-append (λ entry. seat_of entry == number) since seen) ∙ same)
  where
    by : (xs : List Entry)
        → xs ++ entries_by seat_of number seen ≡ entries_by seat_of number seen → xs ≡ []
    by [] is = refl
    by (x ∷ xs) is =
        let longer = length-append (x ∷ xs) (entries_by seat_of number seen) in
        let same_length = ap length is in
        absurd (omega (arith, longer, same_length))

-- what is after what was seen, where nothing of it is the reader's
pub only_grows : (key : Key) (since seen history : List Entry) → history ≡ since ++ seen
    → entries_by seat_of 0 history ≡ entries_by seat_of 0 seen
    → OnlyAccepts (left_state key seen) (left_state key history)
only_grows key since seen history is same =
    subst (λ (h : List Entry). OnlyAccepts (left_state key seen) (left_state key h)) (sym is)
    (only_accepts key since seen
    (none_since 0 since seen
    (subst (λ (h : List Entry). entries_by seat_of 0 h ≡ entries_by seat_of 0 seen) is same)))

-- two numbers of writers differ where those of their seats do
same_writer : (a b : ℕ) → eqb (a + 1) (b + 1) ≡ eqb a b
same_writer a b = grind (arith, nat_tests)

-- an entry that is no acceptance adds none
not_accepted : (number : ℕ) (entry : Entry) (past : List Entry)
    → ((xs : List Entry) → accepted_in (entry ∷ xs) ≡ accepted_in xs)
    → accepted_in (entries_by seat_of number (entry ∷ past))
    ≡ accepted_in (entries_by seat_of number past)
not_accepted number entry past same = by (eqb (seat_of entry) number)
  where
    by : (b : Bool) → accepted_in (if b then entry ∷ entries_by seat_of number past
        else entries_by seat_of number past) ≡ accepted_in (entries_by seat_of number past)
    by true = same (entries_by seat_of number past)
    by false = refl

bytes_by_writer : (key : Key) (writer : ℕ) (history : List Entry)
    → bytes_by writer (whole_from 0 (left_state key history).accepted)
    ≡ accepted_in (entries_by seat_of (writer + 1) history)
bytes_by_writer key writer [] = refl
bytes_by_writer key writer (Taken by block number ∷ past) =
    ap (bytes_by writer) (whole_from-append 0 accepted (write ∷ []))
    ∙ (bytes_by-append writer (whole_from 0 accepted)
    (whole_at (0 + length accepted) write ∷ [])
    ∙ (ap (λ bytes. bytes ++ bytes_by writer (whole_at (0 + length accepted) write ∷ []))
    (bytes_by_writer key writer past)
    ∙ (one (eqb by writer)
    ∙ sym (ap (λ b. accepted_in (if b then Taken by block number ∷ mine else mine))
    (same_writer by writer)))))
  where
    accepted : List Write
    accepted = (left_state key past).accepted

    write : Write
    write = record { writer = by; bytes = block }

    mine : List Entry
    mine = entries_by seat_of (writer + 1) past

    one : (b : Bool)
        → accepted_in mine ++ map (λ (piece : Part). piece.bytes)
        (if b then whole_at (0 + length accepted) write ∷ [] else [])
        ≡ accepted_in (if b then Taken by block number ∷ mine else mine)
    one true = refl
    one false = append-nil (accepted_in mine)
bytes_by_writer key writer (entry ∷ past) =
    bytes_by_writer key writer past ∙ sym (not_accepted (writer + 1) entry past (λ xs. refl))

-- the writes that were taken out and the writes after them are all that were accepted
whole_from-cut : (count : ℕ) (writes : List Write) → count ≤ length writes
    → whole_from 0 (take count writes) ++ whole_from count (drop count writes)
    ≡ whole_from 0 writes
whole_from-cut count writes within =
    ap (λ n. whole_from 0 (take count writes) ++ whole_from n (drop count writes))
    (let e = length-take-le count writes within in omega (arith, e))
    ∙ (sym (whole_from-append 0 (take count writes) (drop count writes))
    ∙ ap (whole_from 0) (take-append-drop count writes))

-- what was read and is held is all that was accepted, in its order
pub all_accepted : (key : Key) (reading : Reading) (writers : List (Share Entry)) (held : Holdings)
    → IsReading key reading → (finishes : Finishes key reading writers held)
    → read_and_held key reading held
    ≡ whole_from 0 (left_state key finishes.history).accepted
all_accepted key reading writers held right finishes =
    let seen = left_state key reading.account.seen in
    let all = left_state key finishes.history in
    let grown =
    only_grows key finishes.seen.since reading.account.seen finishes.history finishes.seen.new_is
    finishes.no_more_read in
    let within = read_within key reading.account.seen right.knows.history.legal in
    let longer = ap length grown.accepted in
    let added = length-append seen.accepted grown.more in
    let front : take seen.read_whole seen.accepted ≡ take seen.read_whole all.accepted =
    sym
    (ap (take seen.read_whole) grown.accepted
    ∙ take-append-le seen.read_whole seen.accepted grown.more within) in
    rw (right.right.whole, finishes.writes, grown.read, front)
    (whole_from-cut seen.read_whole all.accepted (omega (arith, within, longer, added)))

-- what was read and is held is for each writer the bytes of what its entries say was accepted
pub each_share_is_read_whole_and_once : EachShareIsReadWholeAndOnce
each_share_is_read_whole_and_once key reading writers held right finishes =
    all writers finishes.shares
  where
    one : (share : Share Entry) → HasItsEntries seat_of finishes.history share
        → IsAllOfWriter (read_and_held key reading held) share
    one share own writer number =
        ap (bytes_by writer) (all_accepted key reading writers held right finishes)
        ∙ (bytes_by_writer key writer finishes.history
        ∙ (ap (λ n. accepted_in (entries_by seat_of n finishes.history)) (sym number)
        ∙ ap accepted_in own.entries))

    all : (shares : List (Share Entry))
        → AllByRecursion (HasItsEntries seat_of finishes.history) shares
        → AllByRecursion (IsAllOfWriter (read_and_held key reading held)) shares
    all [] own = tt
    all (share ∷ shares) own = (one share own.0, all shares own.1)

-- a direction that is not hung up was never hung up
never_hung : (key : Key) (history : List Entry) → (left_state key history).hung ≡ false
    → IsNeverHung history
never_hung key [] not_hung = tt
never_hung key (Hung seat ∷ past) not_hung = cc
never_hung key (entry ∷ past) not_hung = never_hung key past not_hung

none_after : (key : Key) (history : List Entry) → LegalFor key history → NoWriteAfterHangup history
none_after key [] legal = tt
none_after key (Taken writer block number ∷ past) legal =
    (never_hung key past legal.0.may.may.0, none_after key past legal.1)
none_after key (entry ∷ past) legal = none_after key past legal.1

-- in no legal history of a direction a write was accepted after a hangup
pub none_is_accepted_after_hangup : NoneIsAcceptedAfterHangup
none_is_accepted_after_hangup key history legal = none_after key history legal.legal
