-- Steps own nothing.
use denote.Param.Send.{IsSend, owning_send, sendable}
use Rattle.sleep_wakeup.specs.contracts.steps.Steps.{the_row, the_type}

-- they may go to another thread
pub send : IsSend the_row
send = owning_send the_type (search sendable, tt) (λ d. tt) (λ k x w. tt)
