-- The numbers of the faults. Own: in Plan 9 a fault is known by its text alone.
use Rattle.std.specs.Prelude.{ℕ}
use Rattle.sync_base.specs.declared.fault.Fault.{Fault}
use Rattle.sync_base.specs.declared.fault.Fault.TheVariants.{Memory, Interrupted, Hungup, TooBig}
use Rattle.sync_base.specs.declared.fault.Fault.TheVariants.{DoubleSleep, BadArg, BadLevel}
use Rattle.sync_base.specs.declared.fault.Fault.TheVariants.{BadCount, BadSize, Worn, NoProc}
use Rattle.sync_base.specs.declared.fault.Fault.TheVariants.{NoRendez, BadFlags, Script, TimedOut}
use Rattle.sync_base.specs.declared.fault.Fault.TheVariants.{Device}

-- the fault's number, from 1 to 16
abbrev pub fault_number : Fault → ℕ
fault_number Memory = 1
fault_number (Interrupted notes) = 2
fault_number Hungup = 3
fault_number TooBig = 4
fault_number DoubleSleep = 5
fault_number BadArg = 6
fault_number BadLevel = 7
fault_number BadCount = 8
fault_number BadSize = 9
fault_number Worn = 10
fault_number NoProc = 11
fault_number NoRendez = 12
fault_number BadFlags = 13
fault_number (Script line) = 14
fault_number TimedOut = 15
fault_number Device = 16
