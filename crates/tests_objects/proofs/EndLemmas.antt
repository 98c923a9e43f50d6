-- Both ends of a direction with one writer are all of its ends, and stay so.
use Rattle.std.proofs.Common.{◌≡◌, ℕ, List, [], ◌∷◌, ◌++◌, length, sym, ◌∙◌, ap, subst, arith}
use Rattle.histories.specs.Account.{numbers_from}
use Rattle.pipe_dev.specs.declared.row.Row.{Row}
use Rattle.pipe_dev.specs.Ends.{ReadSide, WriteSide, AreAllEnds, IsSameReadEnd, IsSameWriteEnd}

-- where no write end stands before this one, it and the read end are all ends
pub only_one : (read : ReadSide) (writes front : List WriteSide) (write : WriteSide)
    → AreAllEnds read writes → writes ≡ front ++ write ∷ [] → length front ≡ 0
    → AreAllEnds read (write ∷ [])
only_one read writes [] write all is none = subst (AreAllEnds read) is all
only_one read writes (first ∷ front) write all is none = absurd (omega (arith, none))

-- a call of the read end that stays where it is leaves the two all ends
pub still_read : (old new : ReadSide) (write : WriteSide)
    → AreAllEnds old (write ∷ []) → IsSameReadEnd old new → AreAllEnds new (write ∷ [])
still_read old new write all same =
    record {
      one = (
        record {
          queue = all.one.0.queue ∙ sym same.queue;
          row = all.one.0.row ∙ sym same.row;
        },
        tt,
      );
      order = all.order ∙ ap (λ (row : Row). numbers_from 0 row.writers) (sym same.row);
    }

-- and so does a call of the write end
pub still_written : (read : ReadSide) (old new : WriteSide)
    → AreAllEnds read (old ∷ []) → IsSameWriteEnd old new → AreAllEnds read (new ∷ [])
still_written read old new all same =
    record {
      one = (
        record { queue = same.queue ∙ all.one.0.queue; row = same.row ∙ all.one.0.row },
        tt,
      );
      order = ap (λ (writer : ℕ). writer ∷ []) same.writer ∙ all.order;
    }

-- calls of both, each of which stays where it is
pub still_both : (before after : ReadSide) (old new : WriteSide)
    → AreAllEnds before (old ∷ []) → IsSameReadEnd before after → IsSameWriteEnd old new
    → AreAllEnds after (new ∷ [])
still_both before after old new all read write =
    still_written after old new (still_read before after old all read) write

-- two calls of a read end, one after the other, leave it where it is
pub read_on : (old middle new : ReadSide)
    → IsSameReadEnd old middle → IsSameReadEnd middle new → IsSameReadEnd old new
read_on old middle new first second =
    record { queue = second.queue ∙ first.queue; row = second.row ∙ first.row }
