-- What a stream knows of the empty writes that it passed, and how a read of it ends after them.
use Rattle.std.proofs.Common.{◌≡◌, ◌≢◌, ◌<◌, ◌≤◌, ℕ, zero, suc, Result, Ok, Err}
use Rattle.std.proofs.Common.{List, arith, length}
use Rattle.std.specs.Prelude.{◌↔◌, IsErrOf, min}
use Rattle.std.proofs.lemmas.Bool.Decides.{nat_tests}
use Rattle.std.proofs.lemmas.List.{length-take}
use Rattle.std.proofs.Common.{[], Option, Some, None, refl, inr, subst}
use Rattle.std.specs.declared.io.Error.{Error}
use Rattle.std.specs.IoError.{error_kind}
use Rattle.sync_base.specs.declared.fault.Fault.{Fault}
use Rattle.sync_base.specs.declared.fault.Fault.TheVariants as fault
use Rattle.sync_base.specs.declared.limits.TheConstants.{ATOMIC_SIZE}
use Rattle.pipe_dev.specs.Rounds.{Rounds}
use Rattle.pipe_dev.specs.Rendezes.{OwnsRow}
use Rattle.plan9.specs.Callers.{Writer}
use Rattle.plan9.specs.Streams.{Lent, EndsTaking, PassesEmpty, Streams, Takes, kind_of}
use Rattle.plan9.specs.Streams.{WritesFront, WritesOnce, front_of}

-- there was room, and so many empty writes were passed
pub record Passed (start now : Lent) : Type 0 where
  -- a buffer of some bytes
  pub room : start.buffer ≢ []
  -- as many
  pub times : ℕ
  -- one after the other
  pub rounds : Rounds PassesEmpty times start now

-- one more is passed
pub passes : (start now next : Lent) (answer : Result (Option ℕ) Fault) → Passed start now
    → answer ≡ Ok (Some 0) → Takes now answer next → Passed start next
passes start now next answer passed is took =
    record {
      room = passed.room;
      times = suc passed.times;
      rounds = record {
        between = now;
        rounds = passed.rounds;
        last = subst (λ answer. Takes now answer next) is took;
      };
    }

-- after those the read ends
ends : (start now next : Lent) (answer : Result ℕ Error) (kept : Option Fault)
    → Passed start now → EndsTaking now answer kept next → Streams start answer kept next
ends start now next answer kept passed ended =
    inr (record {
      room = passed.room;
      times = passed.times;
      before = now;
      passed = passed.rounds;
      ended = ended;
    })

-- a piece of some bytes is no end
piece_ends : (now next : Lent) (count : ℕ) (kept : Option Fault) → count ≢ 0
    → Takes now (Ok (Some count)) next → EndsTaking now (Ok count) kept next
piece_ends now next zero kept some took = absurd (some refl)
piece_ends now next (suc count) kept some took = took

-- by a piece of some bytes
pub gives_bytes : (start now next : Lent) (answer : Result (Option ℕ) Fault) (count : ℕ)
    (kept : Option Fault) → Passed start now → answer ≡ Ok (Some count) → count ≢ 0
    → Takes now answer next → Streams start (Ok count) kept next
gives_bytes start now next answer count kept passed is some took =
    ends start now next (Ok count) kept passed
    (piece_ends now next count kept some (subst (λ answer. Takes now answer next) is took))

-- by the end of the pipe
pub is_at_end : (start now next : Lent) (answer : Result (Option ℕ) Fault) (kept : Option Fault)
    → Passed start now → answer ≡ Ok None → Takes now answer next → Streams start (Ok 0) kept next
is_at_end start now next answer kept passed is took =
    ends start now next (Ok 0) kept passed (subst (λ answer. Takes now answer next) is took)

-- by a fault
pub fails : (start now next : Lent) (answer : Result (Option ℕ) Fault) (why : Fault)
    (error : Error) → Passed start now → answer ≡ Err why → error_kind error ≡ kind_of why
    → Takes now answer next → Streams start (Err error) (Some why) next
fails start now next answer why error passed is kind took =
    ends start now next (Err error) (Some why) passed (
      why,
      subst (λ answer. Takes now answer next) is took,
      record { kept_is = refl; kind_is = kind },
    )

-- ---- a write

-- the front of some bytes is of the atomic size, or less
front_fits : (bytes : List ℕ) → length (front_of bytes) ≤ ATOMIC_SIZE
front_fits bytes =
    let size = length-take (min (length bytes) ATOMIC_SIZE) bytes in grind (arith, nat_tests, size)

-- a write of the front is not too big, and is refused first by a process of another kernel
pub writes_front : (old : Writer) (bytes : List ℕ) (answer : Result ℕ Fault) (new : Writer)
    → (IsErrOf answer fault.TooBig ↔ (ATOMIC_SIZE < length (front_of bytes)))
    → (length (front_of bytes) ≤ ATOMIC_SIZE
    → (IsErrOf answer fault.NoRendez ↔ ¬ OwnsRow old.proc.words old.end.row))
    → WritesOnce old (front_of bytes) answer new → WritesFront old bytes answer new
writes_front old bytes answer new too_big no_rendez wrote =
    let fits = front_fits bytes in
    record {
      too_big = λ is. let over = too_big.0 is in omega (arith, over, fits);
      no_rendez = no_rendez fits;
      wrote = wrote;
    }
