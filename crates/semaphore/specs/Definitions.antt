-- What a semaphore means, as an object under a lock.
use Rattle.kernel_lock.specs.Definition.{Definition}
use Rattle.semaphore.specs.declared.sema_object.SemaCall.{SemaCall}
use Rattle.semaphore.specs.declared.sema_object.SemaReply.{SemaReply}
use Rattle.semaphore.specs.Units.{SemaState}
use Rattle.semaphore.specs.Units as units

abbrev pub sema_definition : Definition SemaState SemaState SemaCall SemaReply
sema_definition =
    record {
      state = λ s. s;
      answer = units.answer_to;
      after = units.after;
      named = units.seat_named;
    }
