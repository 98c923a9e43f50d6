-- What several reads took and several writes gave, one after the other.
use Rattle.std.proofs.Common.{◌≡◌, ◌⊎◌, inl, inr, IfSome, nat_lt, ℕ, zero, suc, ◌+◌, ◌-◌, ◌≤◌}
use Rattle.std.proofs.Common.{List, []}
use Rattle.std.proofs.Common.{◌∷◌, ◌++◌, length, take, drop, Option, Some, None, refl, sym, ◌∙◌, ap}
use Rattle.std.proofs.Common.{subst, append_assoc, arith, length-append, length-take, Result, Ok}
use Rattle.std.proofs.Common.{Err, OnErr}
use Rattle.std.proofs.lemmas.List.{append-nil}
use Rattle.std.specs.Io.KnownBytes.{Keeps, Appends, Consumes}
use Rattle.std.proofs.Math.Seq.{take-append_seam}
use Rattle.std.proofs.lemmas.List.{take-append-drop}
use Rattle.std.proofs.lemmas.List.{take-append-le}
use Rattle.std.proofs.lemmas.Bool.Decides.{nat_tests}
use Rattle.sync_base.specs.declared.fault.Fault.{Fault}
use Rattle.scripts.specs.declared.script.TheConstants.{MAX_SCRIPT}
use Rattle.scripts.specs.Script.{Language, Transcript, told}
use Rattle.scripts.specs.Device.{AppendsFront, TakesUpTo, WritesTranscript, Tells}
use Rattle.scripts.specs.Device.{IsOutside}

-- what two reads took, the second after the first
pub consumes_then : (old mid new : Option (List ℕ)) (a b : List ℕ) → Consumes old mid a
    → Consumes mid new b → Consumes old new (a ++ b)
consumes_then None mid new a b first second = tt
consumes_then (Some xs) None new a b first second = absurd first
consumes_then (Some xs) (Some ys) None a b first second = absurd second
consumes_then (Some xs) (Some ys) (Some zs) a b first second = first
    ∙ (ap (λ l. a ++ l) second ∙ sym (append_assoc a b zs))

-- a read that took nothing changes nothing
pub consumes_kept : (old mid new : Option (List ℕ)) (a : List ℕ) → Consumes old mid a
    → Keeps mid new → Consumes old new a
consumes_kept None mid new a first kept = tt
consumes_kept (Some xs) None new a first kept = absurd first
consumes_kept (Some xs) (Some ys) None a first kept = absurd kept
consumes_kept (Some xs) (Some ys) (Some zs) a first kept = first ∙ ap (λ l. a ++ l) (sym kept)

-- before the first write nothing is added
pub appends_nothing : (old : Option (List ℕ)) → Appends old old []
appends_nothing None = tt
appends_nothing (Some xs) = sym (append-nil xs)

-- what two writes added, the second after the first
pub appends_then : (old mid new : Option (List ℕ)) (a b : List ℕ) → Appends old mid a
    → Appends mid new b → Appends old new (a ++ b)
appends_then None mid new a b first second = tt
appends_then (Some xs) None new a b first second = absurd first
appends_then (Some xs) (Some ys) None a b first second = absurd second
appends_then (Some xs) (Some ys) (Some zs) a b first second = second
    ∙ (ap (λ l. l ++ b) first ∙ append_assoc xs a b)

-- a write that added nothing changes nothing
pub appends_kept : (old mid new : Option (List ℕ)) (a : List ℕ) → Appends old mid a → Keeps mid new
    → Appends old new a
appends_kept None mid new a first kept = tt
appends_kept (Some xs) None new a first kept = absurd first
appends_kept (Some xs) (Some ys) None a first kept = absurd kept
appends_kept (Some xs) (Some ys) (Some zs) a first kept = kept ∙ first

-- what is written next moves over from the rest
pub moves_over : (written rest bytes : List ℕ) (n : ℕ) → written ++ rest ≡ bytes
    → (written ++ take n rest) ++ drop n rest ≡ bytes
moves_over written rest bytes n whole = append_assoc written (take n rest) (drop n rest)
    ∙ (ap (λ l. written ++ l) (take-append-drop n rest) ∙ whole)

-- while bytes are written: what was written, and what is left
pub record IsWriting (old now : Option (List ℕ)) (bytes rest : List ℕ) : Type 0 where
  -- the bytes that were written so far
  pub written : List ℕ
  -- with what is left they are all that is to be written
  pub whole : written ++ rest ≡ bytes
  -- the writer has them after what it had
  pub appended : Appends old now written

-- before the first write all is left
pub writes_nothing : (old : Option (List ℕ)) (bytes : List ℕ) → IsWriting old old bytes bytes
writes_nothing None bytes = record { written = []; whole = refl; appended = tt }
writes_nothing (Some xs) bytes =
    record { written = []; whole = refl; appended = sym (append-nil xs) }

-- a write moves what it took from what is left to what was written
pub writes_more : (old now next : Option (List ℕ)) (bytes rest : List ℕ) (n : ℕ)
    → IsWriting old now bytes rest → Appends now next (take n rest)
    → IsWriting old next bytes (drop n rest)
writes_more old now next bytes rest n so_far more =
    record {
      written = so_far.written ++ take n rest;
      whole = moves_over so_far.written rest bytes n so_far.whole;
      appended = appends_then old now next so_far.written (take n rest) so_far.appended more;
    }

-- what was written is a front of the whole
pub appends_front : (old new : Option (List ℕ)) (written rest bytes : List ℕ)
    → written ++ rest ≡ bytes → Appends old new written → AppendsFront old new bytes
appends_front old new written rest bytes whole appends = (
  length written,
  subst (Appends old new)
      (sym (ap (take (length written)) (sym whole) ∙ take-append_seam written rest)) appends,
)

-- so what was written is a prefix, at any moment
pub front_written : (old now : Option (List ℕ)) (bytes rest : List ℕ) → IsWriting old now bytes rest
    → AppendsFront old now bytes
front_written old now bytes rest so_far =
    appends_front old now so_far.written rest bytes so_far.whole so_far.appended

-- and after a call that wrote nothing
pub front_kept : (old now next : Option (List ℕ)) (bytes rest : List ℕ)
    → IsWriting old now bytes rest → Keeps now next → AppendsFront old next bytes
front_kept old now next bytes rest so_far kept =
    appends_front old next so_far.written rest bytes so_far.whole
    (appends_kept old now next so_far.written so_far.appended kept)

-- a fact that holds in any case holds at an error
pub on_err : {T E : Type 0} (r : Result T E) (P : Type 0) → P → OnErr r P
on_err (Ok x) P p = tt
on_err (Err e) P p = p

-- room was left for what was read
pub fits_more : (items room : List ℕ) (count most : ℕ) → length items ≤ most
    → count ≤ most - length items → length (items ++ take count room) ≤ most
fits_more items room count most within left =
    omega (arith, length-append items (take count room), length-take count room)

-- a run that fails when a front is written
pub told_partly : (said : Transcript) (old now : Option (List ℕ)) (r : Result (Unit {0}) Fault)
    (fault : Fault) → r ≡ Err fault → IsOutside fault → AppendsFront old now said.output
    → WritesTranscript said old now r
told_partly said old now r fault is outside front = rw is (at_fault fault outside)
  where
    at_fault : (f : Fault) → IsOutside f → WritesTranscript said old now (Err f)
    at_fault f (inl memory) = rw memory front
    at_fault f (inr device) = rw device front

-- a run that fails before it writes
pub told_unwritten : (said : Transcript) (old : Option (List ℕ)) (r : Result (Unit {0}) Fault)
    (fault : Fault) → r ≡ Err fault → IsOutside fault → WritesTranscript said old old r
told_unwritten said old r fault is outside =
    told_partly said old old r fault is outside (0, appends_nothing old)

-- the front of a script, and whether it goes on, are all that counts
pub told_by_front : {S : Type 0} (language : Language S) (a b : List ℕ)
    → take MAX_SCRIPT a ≡ take MAX_SCRIPT b
    → nat_lt MAX_SCRIPT (length a) ≡ nat_lt MAX_SCRIPT (length b)
    → told language a ≡ told language b
told_by_front language a b front goes_on = rw (front, goes_on) refl

-- what was read of a script says what the script says
pub told_taken : {S : Type 0} (language : Language S) (old new : Option (List ℕ)) (input : List ℕ)
    → TakesUpTo (MAX_SCRIPT + 1) old new input
    → IfSome old (λ all. told language all ≡ told language input)
told_taken language None new input takes = tt
told_taken language (Some all) None input takes = absurd takes.taken
told_taken language (Some all) (Some rest) input takes = by_end takes.most_or_all
  where
    by_end : ((length input ≡ MAX_SCRIPT + 1) ⊎ (rest ≡ []))
        → told language all ≡ told language input
    by_end (inl most) =
        let within : MAX_SCRIPT ≤ length input = omega arith in
        told_by_front language all input
        (ap (take MAX_SCRIPT) takes.taken ∙ take-append-le MAX_SCRIPT input rest within)
        (let longer : length all ≡ length input + length rest = ap length takes.taken
        ∙ length-append input rest in grind (arith, nat_tests))
    by_end (inr ended) =
        ap (told language) (takes.taken ∙ (ap (λ l. input ++ l) ended ∙ append-nil input))

-- a run by all that the reader had
pub told_of_all : {S : Type 0} (language : Language S) (old new : Option (List ℕ)) (input : List ℕ)
    (held now : Option (List ℕ)) (r : Result (Unit {0}) Fault)
    → TakesUpTo (MAX_SCRIPT + 1) old new input → WritesTranscript (told language input) held now r
    → IfSome old (λ all. WritesTranscript (told language all) held now r)
told_of_all language None new input held now r takes writes = tt
told_of_all language (Some all) new input held now r takes writes =
    subst (λ t. WritesTranscript t held now r)
    (sym (told_taken language (Some all) new input takes))
    writes

-- a run that could not read its script
pub told_of_none : {S : Type 0} (language : Language S) (old held : Option (List ℕ))
    (r : Result (Unit {0}) Fault) (fault : Fault) → r ≡ Err fault → IsOutside fault
    → IfSome old (λ all. WritesTranscript (told language all) held held r)
told_of_none language None held r fault is outside = tt
told_of_none language (Some all) held r fault is outside =
    told_unwritten (told language all) held r fault is outside

-- what a read put into the front of its room
pub front_of_room : (count len : ℕ) (new kept more : List ℕ) → count ≤ len → count ≤ length new
    → take count (take len ((new ++ kept) ++ more)) ≡ take count new
front_of_room zero len new kept more within read = refl
front_of_room (suc n) zero new kept more within read = absurd (omega arith)
front_of_room (suc n) (suc len) [] kept more within read = absurd (omega arith)
front_of_room (suc n) (suc len) (b ∷ new) kept more within read =
    ap (λ (bs : List ℕ). b ∷ bs) (front_of_room n len new kept more (omega arith) (omega arith))

-- what is told where that failed
pub tells_err : (said : Transcript) (old now : Option (List ℕ)) (r : Result (Option ℕ) Fault)
    (fault : Fault) → r ≡ Err fault → AppendsFront old now said.output → Tells said old now r
tells_err said old now r fault is front =
    subst (Tells said old now) (sym is) front

-- where nothing is left all is written
pub all_written : (old now : Option (List ℕ)) (bytes : List ℕ) → IsWriting old now bytes []
    → Appends old now bytes
all_written old now bytes so_far =
    subst (Appends old now) (sym (append-nil so_far.written) ∙ so_far.whole) so_far.appended
