-- What a command line asks for.
use Rattle.std.specs.Prelude.{◌-◌, ◌^◌, ℕ, List, [], ◌∷◌, if◌then◌else◌, true, codes}
use Rattle.std.specs.Prelude.{Option, None, Some, option_map, option_and_then}
use Rattle.std.specs.Option.{option_or}
use Rattle.std.specs.Str.{bytes_eq}
use Rattle.std.specs.Str.Parse.{digits_value, without_leading_plus}
use Rattle.clap.specs.Simple.{App, Shape, new_app, new_rule, new_shape, on_top, subcommand_of}
use Rattle.clap.specs.Simple.{with_subcommand}
use Rattle.clap.specs.Faults.{fault_of}
use Rattle.clap.specs.ValueTests.{is_unsigned_in}
use Rattle.clap.specs.Kinds.{Kinds}
use Rattle.clap.specs.Walk.{Row, Rule, one_of}
use Rattle.clap.specs.declared.builder.action.ArgAction.TheVariants.{Set}
use Rattle.clap.specs.declared.builder.value_parser.ValueParser.TheVariants as vp
use Rattle.sync_base.specs.declared.limits.TheConstants.{MAX_WRITERS}
use Rattle.sync_base.specs.declared.limits.TheConstants.{LEAST_SIZE, MOST_SIZE, MAX_WRITES}
use Rattle.sync_base.specs.declared.threads_opts.ThreadsOpts.{ThreadsOpts}
use Rattle.command_line.specs.declared.task.Task.{Task}
use Rattle.command_line.specs.declared.task.Task.TheVariants.{Pipe, Replay, Threads}

-- the run of a word alone, spelled exactly like this
abbrev pub task_named : List ℕ → Option Task
task_named word =
    if bytes_eq word (codes "pipe") then Some Pipe
    else if bytes_eq word (codes "replay") then Some Replay
    else None

-- the run of a script that the words ask for, the program's name first; `--` may end them, as in
-- any command
abbrev pub script_asked : List (List ℕ) → Option Task
script_asked (name ∷ word ∷ []) = task_named word
script_asked (name ∷ word ∷ end ∷ []) =
    if bytes_eq end (codes "--") then task_named word else None
script_asked words = None

-- a number as an option may spell it: decimal digits, a plus sign before them or not, below 2^64
abbrev pub number_asked : List ℕ → Option ℕ
number_asked text =
    if is_unsigned_in 0 (2 ^ 64 - 1) text then Some (digits_value 10 (without_leading_plus text))
    else None

-- the number that was given for an option
abbrev pub option_asked : List ℕ → List Row → Option ℕ
option_asked name rows = option_and_then number_asked (one_of name rows)

-- what was given for the options of `threads`
abbrev pub opts_asked : List Row → Option ThreadsOpts
opts_asked rows = option_and_then (λ writers. option_and_then (λ writes.
    option_map (λ size. record { writers = writers; writes = writes; size = size })
    (option_asked (codes "size") rows))
    (option_asked (codes "writes") rows))
    (option_asked (codes "writers") rows)

-- a command that has to be followed by another
abbrev pub needing_command : Shape → Shape
needing_command s =
    record s {
      disable_help_flag = true;
      disable_help_subcommand = true;
      disable_version_flag = true;
      subcommand_required = true;
    }

-- a command that nothing follows
abbrev pub taking_nothing : List ℕ → Shape
taking_nothing name = record (new_shape name) { disable_help_flag = true }

-- an option that has to be given once, with a number within these bounds
abbrev pub number_between : ℕ → ℕ → List ℕ → Rule
number_between least most name = record (new_rule name) {
  long = Some name;
  required = true;
  action = Some Set;
  parser = Some (vp.Unsigned least most);
}

-- the command `threads` with its options
abbrev pub threads_command : Shape
threads_command = record (new_shape (codes "threads")) {
  disable_help_flag = true;
  rules = number_between 1 MAX_WRITERS (codes "writers")
      ∷ number_between 1 MAX_WRITES (codes "writes")
      ∷ number_between LEAST_SIZE MOST_SIZE (codes "size")
      ∷ [];
}

-- the command line as `clap` gets it
abbrev pub command_line : App
command_line =
    let top = on_top needing_command (new_app (codes "p9sync")) in
    with_subcommand (with_subcommand (with_subcommand top (taking_nothing (codes "pipe")))
    (taking_nothing (codes "replay"))) threads_command

-- the run on threads that a word names, with what was given for its options
abbrev pub threads_named : List ℕ → List Row → Option Task
threads_named word rows =
    if bytes_eq word (codes "threads") then option_map Threads (opts_asked rows) else None

-- the run that a word names, with what was given for its options
abbrev pub command_named : List ℕ → List Row → Option Task
command_named word rows = option_or (task_named word) (threads_named word rows)

-- what is asked for where no kind of error is found
abbrev pub if_faultless : Kinds → Option Task → Option Task
if_faultless [] asked = asked
if_faultless (kind ∷ kinds) asked = None

-- The run on threads that the words ask for: `clap` finds no fault in them, and what it finds for
-- the options are numbers.
abbrev pub threads_asked : List (List ℕ) → Option Task
threads_asked words = if_faultless (fault_of command_line words)
    (option_and_then (λ met. threads_named met.0 met.1) (subcommand_of command_line words))

-- the run that the words ask for
abbrev pub task_asked : List (List ℕ) → Option Task
task_asked words = option_or (script_asked words) (threads_asked words)
