-- What a list of timers means, as an object under a lock.
use Rattle.std.specs.Prelude.{List}
use Rattle.kernel_lock.specs.Definition.{Definition}
use Rattle.timer_list.specs.declared.timer_object.Timer.{Timer}
use Rattle.timer_list.specs.declared.timer_object.TimerCall.{TimerCall}
use Rattle.timer_list.specs.declared.timer_object.TimerReply.{TimerReply}
use Rattle.timer_list.specs.Timers as timers

abbrev pub timer_definition : Definition (List Timer) (List Timer) TimerCall TimerReply
timer_definition =
    record {
      state = λ s. s;
      answer = timers.answer_to;
      after = timers.after;
      named = timers.seat_named;
    }
