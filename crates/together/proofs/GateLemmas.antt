-- What a process has done that slept, or put notes back: it has waited at its gate.
use Rattle.std.proofs.Common.{◌≡◌, ℕ, List, [], ◌∷◌, ◌++◌, refl, sym, subst, ap, ◌∙◌}
use Rattle.std.proofs.Common.{Result, Ok, Err, IfErr, OnOk, append_assoc}
use Rattle.std.specs.List.{AllByRecursion}
use Rattle.rendez_words.specs.Process.{Process, made, pid_in}
use Rattle.rendez_words.specs.Steps.{notes, posts, tests}
use Rattle.rendez_words.specs.declared.words.Words.{Words}
use Rattle.sleep_core.specs.declared.answer.Answer.{Answer}
use Rattle.sleep_core.specs.declared.answer.Answer.TheVariants as answer
use Rattle.sleep_core.specs.declared.event.Event.{Event}
use Rattle.sleep_core.specs.declared.event.Event.TheVariants.{Post, Test, Look, Withdraw, Clear}
use Rattle.sleep_core.specs.declared.event.Event.TheVariants.{Note}
use Rattle.sleep_core.specs.Runs.{Entry}
use Rattle.sleep_core.specs.Table.{ending_of}
use Rattle.sleep_wakeup.specs.Calls.{IsOfWait, Leaves, Sleeps, WhyNotSlept}
use Rattle.sync_base.specs.declared.fault.Fault.{Fault}
use Rattle.sync_base.specs.declared.fault.Fault.TheVariants as fault
use Rattle.sync_base.specs.declared.ids.RendezId.{RendezId}
use Rattle.sync_base.specs.declared.note.NoteSet.{NoteSet}
use Rattle.sync_base.specs.NoteSet.{no_notes}
use Rattle.together.specs.Gates.{IsOfGate, HasWaited}

-- a process that does nothing has waited
pub waited_none : (process : Process) → HasWaited process process
waited_none process =
    record { table = refl; pid = refl; steps = []; of_gate = tt; trace_is = refl }

all_append : (P : Entry → Type 0) (xs ys : List Entry) → AllByRecursion P xs
    → AllByRecursion P ys → AllByRecursion P (xs ++ ys)
all_append P [] ys one two = two
all_append P (x ∷ xs) ys one two = (one.0, all_append P xs ys one.1 two)

-- a process that has waited and waits on has waited
pub waited_on : (one two three : Process) → HasWaited one two → HasWaited two three
    → HasWaited one three
waited_on one two three first second =
    record {
      table = second.table ∙ first.table;
      pid = second.pid ∙ first.pid;
      steps = second.steps ++ first.steps;
      of_gate = all_append (λ entry. IsOfGate one.pid entry.event) second.steps first.steps
          (subst (λ own. AllByRecursion (λ entry. IsOfGate own entry.event) second.steps)
          first.pid second.of_gate)
          first.of_gate;
      trace_is = second.trace_is ∙ ap (λ trace. second.steps ++ trace) first.trace_is
          ∙ sym (append_assoc second.steps first.steps one.trace);
    }

-- one step of the gate
step_waited : (process : Process) (event : Event) (told : Answer)
    → IsOfGate process.pid event → HasWaited process (made process event told)
step_waited process event told is =
    record {
      table = refl;
      pid = refl;
      steps = record { maker = process.pid; event = event; answer = told } ∷ [];
      of_gate = (is, tt);
      trace_is = refl;
    }

look_is_of_gate : (own : ℕ) (event : Event) → IsOfWait event → IsOfGate own event
look_is_of_gate own (Look pid) is = tt
look_is_of_gate own (Withdraw pid) is = tt
look_is_of_gate own other is = absurd is

looks_are_of_gate : (own : ℕ) (entries : List Entry)
    → AllByRecursion (λ entry. IsOfWait entry.event) entries
    → AllByRecursion (λ entry. IsOfGate own entry.event) entries
looks_are_of_gate own [] all = tt
looks_are_of_gate own (entry ∷ entries) all =
    (look_is_of_gate own entry.event all.0, looks_are_of_gate own entries all.1)

leaves_waited : (before : Process) (set : NoteSet) (after : Process) → Leaves before set after
    → HasWaited before after
leaves_waited before set after leaves =
    let looked : Process = record before { trace = leaves.waiting ++ before.trace } in
    let waited : HasWaited before looked =
    record {
      table = refl;
      pid = refl;
      steps = leaves.waiting;
      of_gate = looks_are_of_gate before.pid leaves.waiting leaves.of_wait;
      trace_is = refl;
    } in
    let cleared = step_waited looked (Clear (pid_in looked)) (ending_of set) tt in
    subst (λ process. HasWaited before process) (sym leaves.cleared)
    (waited_on before looked (made looked (Clear (pid_in looked)) (ending_of set)) waited cleared)

-- a sleep that was over
sleeps_waited : (before : Process) (rendez : RendezId) (threshold : ℕ) (set : NoteSet)
    (after : Process) → Sleeps before rendez threshold set after → HasWaited before after
sleeps_waited before rendez threshold set after slept =
    let posted = posts before rendez threshold answer.Posted in
    let tested = tests posted slept.tested in
    waited_on before posted after
    (step_waited before (Post (pid_in before) rendez threshold) answer.Posted tt)
    (waited_on posted tested after
    (step_waited posted (Test (pid_in posted)) slept.tested tt)
    (leaves_waited tested set after slept.leaves))

-- the process that is the same has waited
same_waited : (before after : Process) → after ≡ before → HasWaited before after
same_waited before after is =
    subst (λ process. HasWaited before process) (sym is) (waited_none before)

-- a sleep that was refused, or ended by notes
fails_waited : (words : Words) (before : Process) (rendez : RendezId) (threshold : ℕ)
    (after : Process) (why : Fault) → WhyNotSlept words before rendez threshold after why
    → HasWaited before after
fails_waited words before rendez threshold after (fault.Interrupted set) slept =
    sleeps_waited before rendez threshold set after slept.0
fails_waited words before rendez threshold after fault.DoubleSleep slept =
    subst (λ process. HasWaited before process) (sym slept.1)
    (step_waited before (Post (pid_in before) rendez threshold) answer.DoubleSleep tt)
fails_waited words before rendez threshold after fault.NoRendez slept =
    same_waited before after slept.1
fails_waited words before rendez threshold after fault.BadLevel slept =
    same_waited before after slept.2
fails_waited words before rendez threshold after other slept = absurd slept

-- however a sleep ends, the process has waited
pub slept_waited : (words : Words) (before : Process) (rendez : RendezId) (threshold : ℕ)
    (after : Process) (answer : Result (Unit {0}) Fault)
    → IfErr answer (WhyNotSlept words before rendez threshold after)
    → OnOk answer (Sleeps before rendez threshold no_notes after) → HasWaited before after
slept_waited words before rendez threshold after (Ok done) failed slept =
    sleeps_waited before rendez threshold no_notes after slept
slept_waited words before rendez threshold after (Err why) failed slept =
    fails_waited words before rendez threshold after why failed

-- notes that are pending again are put back at the gate
pub noted_waited : (before : Process) (set : NoteSet) (after : Process)
    → after ≡ notes before (pid_in before) set → HasWaited before after
noted_waited before set after noted =
    subst (λ process. HasWaited before process) (sym noted)
    (step_waited before (Note (pid_in before) set) answer.Noted refl)
