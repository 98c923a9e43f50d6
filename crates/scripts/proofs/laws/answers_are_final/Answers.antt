-- The lines of the front are the first lines of the whole.
use Rattle.scripts.proofs.ScriptLawLemmas.{answers_final, output_final, front_sound, too_long_stays}
use Rattle.scripts.proofs.ScriptLawLemmas.{closing_line_last, fault_has_no_closing_line}
use Rattle.scripts.proofs.laws.answers_are_final.Goals as goal

pub returns-clause-answers : goal.returns-clause-answers
returns-clause-answers g c = answers_final g.S.Script.language

pub returns-clause-output : goal.returns-clause-output
returns-clause-output g c = output_final g.S.Script.language

pub returns-clause-sound : goal.returns-clause-sound
returns-clause-sound g c = front_sound g.S.Script.language

pub returns-clause-too_long : goal.returns-clause-too_long
returns-clause-too_long g c = too_long_stays g.S.Script.language

pub returns-clause-closing_line : goal.returns-clause-closing_line
returns-clause-closing_line g c = closing_line_last g.S.Script.language

pub returns-clause-fault : goal.returns-clause-fault
returns-clause-fault g c = fault_has_no_closing_line g.S.Script.language
