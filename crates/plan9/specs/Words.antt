-- The words of the library that clauses name: its faults and limits, and what a hangup enters.
pub use Rattle.sync_base.specs.declared.fault.Fault.TheVariants.{Memory, Interrupted, Hungup}
pub use Rattle.sync_base.specs.declared.fault.Fault.TheVariants.{TooBig, DoubleSleep, BadArg}
pub use Rattle.sync_base.specs.declared.fault.Fault.TheVariants.{BadLevel, BadCount, BadSize}
pub use Rattle.sync_base.specs.declared.fault.Fault.TheVariants.{Worn, NoProc, NoRendez}
pub use Rattle.sync_base.specs.declared.fault.Fault.TheVariants.{BadFlags, TimedOut, Device}
pub use Rattle.sync_base.specs.declared.limits.TheConstants.{ATOMIC_SIZE}
pub use Rattle.semaphore.specs.declared.limits.TheConstants.{MAX_VALUE}
pub use Rattle.block_queue.specs.declared.entry.Entry.TheVariants.{Hung}
