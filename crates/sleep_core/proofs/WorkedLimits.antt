-- Sizes that a world may not have, and faults that do not say why: each against one row.
use Rattle.std.proofs.Common.{◌+◌, arith}
use Rattle.sync_base.specs.declared.fault.Fault.TheVariants as fault
use Rattle.sync_base.specs.declared.limits.TheConstants.{MAX_RENDEZ}
use Rattle.sleep_core.specs.Limits.{IsWorldSize, WhyNoWorld}

-- a world has a process, and no Rendez more than the most
no_process_is_no_world : ¬ IsWorldSize 0 1
no_process_is_no_world size = omega (arith, size.0.0)

one_rendez_more_is_no_world : ¬ IsWorldSize 1 (MAX_RENDEZ + 1)
one_rendez_more_is_no_world size = omega (arith, size.1.1)

-- processes in range are no reason
one_process_is_enough : ¬ WhyNoWorld 1 0 fault.NoProc
one_process_is_enough why = why (omega arith, omega arith)

-- Rendez are a reason only after processes in range, and where they are not in range
processes_are_told_first : ¬ WhyNoWorld 0 0 fault.NoRendez
processes_are_told_first why = omega (arith, why.0.0)

one_rendez_is_enough : ¬ WhyNoWorld 1 1 fault.NoRendez
one_rendez_is_enough why = why.1 (omega arith, omega arith)

-- memory is wanted only of a world in range, and nothing else is told
sizes_are_told_before_memory : ¬ WhyNoWorld 0 1 fault.Memory
sizes_are_told_before_memory why = omega (arith, why.0.0)

no_other_fault_is_told : ¬ WhyNoWorld 0 0 fault.BadCount
no_other_fault_is_told why = why
