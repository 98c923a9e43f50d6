-- The kernel whose roster made a pipe has each Rendez of its ends.
use Rattle.std.proofs.Common.{List, [], ◌∷◌, subst, sym}
use Rattle.std.specs.List.{AllByRecursion}
use Rattle.rendez_words.specs.declared.words.Words.{Words}
use Rattle.block_queue.specs.declared.queue.Queue.{Queue}
use Rattle.pipe_dev.specs.declared.row.Row.{Row}
use Rattle.pipe_dev.specs.Ends.{ReadSide, WriteSide}
use Rattle.pipe_dev.specs.Openings.{AreNewEnds, IsNewWriteEnd, HasEachRendez}
use Rattle.pipe_dev.specs.Openings.{OwnKernelHasEachRendez}
use Rattle.pipe_dev.specs.Rendezes.{OwnsRow}

-- of one direction
module _ (words : Words) (queue : Queue) (row : Row) (has : OwnsRow words row) where
  -- each new write end has the direction's row
  each_write : (writes : List WriteSide) → AllByRecursion (IsNewWriteEnd queue row) writes
      → AllByRecursion (λ write. OwnsRow words write.row) writes
  each_write [] none = tt
  each_write (write ∷ writes) (new, others) =
      (subst (OwnsRow words) (sym new.row_is) has, each_write writes others)

  new_ends : (read : ReadSide) (writes : List WriteSide) → AreNewEnds queue row read writes
      → HasEachRendez words read writes
  new_ends read writes new =
      record {
        reader = subst (OwnsRow words) (sym new.row_is) has;
        writers = each_write writes new.unwritten;
      }

-- of both directions
pub own_kernel_has_each_rendez : OwnKernelHasEachRendez
own_kernel_has_each_rendez words opened first second firsts seconds rows there back = (
  new_ends words opened.pipe.there opened.start.there.row rows.there first seconds there,
  new_ends words opened.pipe.back opened.start.back.row rows.back second firsts back,
)
