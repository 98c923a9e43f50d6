-- What a slot of the ring keeps.
use Rattle.std.specs.Prelude.{Option, Some, None}
use Rattle.sync_base.specs.Write.{Write}
use Rattle.block_queue.specs.declared.spare.Payload.{Payload}
use Rattle.block_queue.specs.declared.spare.Payload.TheVariants.{Block, Memory}

-- the block that is kept; of the memory of a block nothing is known
abbrev pub block_in : Payload → Option Write
block_in (Block block) = Some block
block_in (Memory spare) = None
