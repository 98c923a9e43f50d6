-- The lines before the one at fault make a script of their own.
use Rattle.scripts.proofs.TextLemmas.{lines_text-lines}
use Rattle.scripts.proofs.ScriptLawLemmas.{fault_in_script, fault_keeps, first_fault, before_fault}
use Rattle.scripts.proofs.laws.fault_leaves_answers.Goals as goal

pub returns-clause-text : goal.returns-clause-text
returns-clause-text g c = lines_text-lines

pub returns-clause-line : goal.returns-clause-line
returns-clause-line g c = fault_in_script g.S.Script.language

pub returns-clause-answers : goal.returns-clause-answers
returns-clause-answers g c = fault_keeps g.S.Script.language

pub returns-clause-first : goal.returns-clause-first
returns-clause-first g c = first_fault g.S.Script.language

pub returns-clause-before : goal.returns-clause-before
returns-clause-before g c = before_fault g.S.Script.language
