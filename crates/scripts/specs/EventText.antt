-- The answers of a schedule in words.
use Rattle.std.specs.Prelude.{ℕ, List, [], ◌∷◌, ◌++◌, codes, if◌then◌else◌}
use Rattle.std.specs.Fmt.{decimal}
use Rattle.sync_base.specs.declared.note.Note.{Note}
use Rattle.sync_base.specs.declared.note.Note.TheVariants.{Interrupt, Hangup, Alarm, ClosedPipe}
use Rattle.sync_base.specs.declared.note.Note.TheVariants.{Expired}
use Rattle.sync_base.specs.declared.note.NoteSet.{NoteSet}
use Rattle.sync_base.specs.NoteSet.{holds}
use Rattle.sleep_core.specs.declared.answer.Answer.{Answer}
use Rattle.sleep_core.specs.declared.answer.Answer.TheVariants as answer
use Rattle.scripts.specs.declared.lines.TheConstants.{COMMA}

-- a kind of note in a schedule
abbrev pub kind_text : Note → List ℕ
kind_text Interrupt = codes "interrupt"
kind_text Hangup = codes "hangup"
kind_text Alarm = codes "alarm"
kind_text ClosedPipe = codes "closed"
kind_text Expired = codes "expired"

-- a kind after those before it, with a comma between
abbrev pub after_comma : List ℕ → List ℕ → List ℕ
after_comma [] kind = kind
after_comma (b ∷ bs) kind = (b ∷ bs) ++ COMMA ∷ kind

-- the same, where the kind is in the set
abbrev pub listed : NoteSet → List ℕ → Note → List ℕ
listed set text note = if holds set note then after_comma text (kind_text note) else text

-- the kinds in the set, in the order in which they are printed
abbrev pub kinds_listed : NoteSet → List ℕ
kinds_listed set =
    listed set
    (listed set (listed set (listed set (listed set [] Interrupt) Hangup) Alarm) ClosedPipe)
    Expired

-- or a dash for none
abbrev pub or_dash : List ℕ → List ℕ
or_dash [] = codes "-"
or_dash (b ∷ bs) = b ∷ bs

abbrev pub kinds_text : NoteSet → List ℕ
kinds_text set = or_dash (kinds_listed set)

abbrev pub event_text : Answer → List ℕ
event_text answer.Posted = codes "posted"
event_text answer.Leaving = codes "leaving"
event_text answer.Asleep = codes "asleep"
event_text answer.Woken = codes "woken"
event_text answer.Parked = codes "parked"
event_text answer.Out = codes "out"
event_text answer.Awaiting = codes "awaiting"
event_text answer.Cleared = codes "ok"
event_text (answer.Interrupted notes) = codes "interrupted " ++ kinds_text notes
event_text answer.Owing = codes "owing"
event_text answer.Nobody = codes "nobody"
event_text (answer.Holding sleeper) = codes "holding " ++ decimal sleeper.0
event_text (answer.Marked sleeper) = codes "marked " ++ decimal sleeper.0
event_text answer.Noted = codes "noted"
event_text (answer.Notes notes) = codes "notes " ++ kinds_text notes
event_text answer.Released = codes "released"
event_text answer.NoProc = codes "no process"
event_text answer.Refused = codes "refused"
event_text answer.NoRendez = codes "no rendez"
event_text answer.BadLevel = codes "bad level"
event_text answer.DoubleSleep = codes "double sleep"
