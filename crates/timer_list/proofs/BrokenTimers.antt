-- Histories that break a law of timers, newest first. None is legal.
use Rattle.std.specs.Prelude.{ℕ, List, [], ◌∷◌}
use Rattle.timer_list.specs.declared.timer_object.TimerCall.{TimerCall}
use Rattle.timer_list.specs.declared.timer_object.TimerCall.TheVariants.{Add, Expire, Cancel}
use Rattle.timer_list.specs.declared.timer_object.TimerReply.{TimerReply}
use Rattle.timer_list.specs.declared.timer_object.TimerReply.TheVariants as told
use Rattle.timer_list.specs.TimerHistory.{TimerEntry}

-- a request of a seat to the timers, and what it was answered
abbrev pub asked : ℕ → TimerCall → TimerReply → TimerEntry
asked by call answer = record { by = by; request = call; reply = answer }

-- the timer of seat 0 is set for the process 4, to 150
abbrev pub set_once : List TimerEntry
set_once = asked 0 (Add 0 (record { 0 = 4 }) 150) told.Added ∷ []

-- it expires before its deadline
abbrev pub expires_early : List TimerEntry
expires_early = asked 1 (Expire 149) (told.Ended (record { 0 = 4 })) ∷ set_once

-- its deadline is come, and a tick finds none
abbrev pub does_not_expire : List TimerEntry
does_not_expire = asked 1 (Expire 150) told.NoneDue ∷ set_once

-- it expires twice
abbrev pub expires_twice : List TimerEntry
expires_twice =
    asked 1 (Expire 150) (told.Ended (record { 0 = 4 }))
    ∷ asked 1 (Expire 150) (told.Ended (record { 0 = 4 }))
    ∷ set_once

-- another process is told
abbrev pub tells_another : List TimerEntry
tells_another = asked 1 (Expire 150) (told.Ended (record { 0 = 5 })) ∷ set_once

-- a tick took it, and its seat is told that it was still to come
abbrev pub hides_an_expiry : List TimerEntry
hides_an_expiry =
    asked 0 (Cancel 0) told.Removed
    ∷ asked 1 (Expire 150) (told.Ended (record { 0 = 4 }))
    ∷ set_once

-- the later deadline expires first
abbrev pub expires_out_of_order : List TimerEntry
expires_out_of_order =
    asked 1 (Expire 200) (told.Ended (record { 0 = 6 }))
    ∷ asked 1 (Add 1 (record { 0 = 6 }) 160) told.Added
    ∷ set_once
