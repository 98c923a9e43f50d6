-- What some command lines ask for, computed from the definition.
use Rattle.std.proofs.Common.{◌≡◌, List, ℕ, [], ◌∷◌, refl, codes, Some, None}
use Rattle.clap.proofs.OnLiterals.{clap_on_literals}
use Rattle.command_line.specs.declared.task.Task.TheVariants.{Pipe, Threads}
use Rattle.command_line.specs.CommandLine.{task_asked}

-- `threads` with these words after it
abbrev threads_with : List (List ℕ) → List (List ℕ)
threads_with words = codes "p9sync" ∷ codes "threads" ∷ words

-- each option with its number in a word of its own
four_writers : task_asked (threads_with (codes "--writers" ∷ codes "4" ∷ codes "--writes"
    ∷ codes "1000" ∷ codes "--size" ∷ codes "16" ∷ []))
    ≡ Some (Threads (record { writers = 4; writes = 1000; size = 16 }))
unfolding clap_on_literals
four_writers = refl

-- in another order, and in one word
another_order : task_asked (threads_with (codes "--size=8192" ∷ codes "--writes=1"
    ∷ codes "--writers=64" ∷ []))
    ≡ Some (Threads (record { writers = 64; writes = 1; size = 8192 }))
unfolding clap_on_literals
another_order = refl

a_writer_too_many : task_asked (threads_with (codes "--writers=65" ∷ codes "--writes=1"
    ∷ codes "--size=16" ∷ []))
    ≡ None
unfolding clap_on_literals
a_writer_too_many = refl

a_byte_too_few : task_asked (threads_with (codes "--writers=1" ∷ codes "--writes=1"
    ∷ codes "--size=15" ∷ []))
    ≡ None
unfolding clap_on_literals
a_byte_too_few = refl

no_size : task_asked (threads_with (codes "--writers=1" ∷ codes "--writes=1" ∷ [])) ≡ None
unfolding clap_on_literals
no_size = refl

writers_twice : task_asked (threads_with (codes "--writers=1" ∷ codes "--writers=1"
    ∷ codes "--writes=1" ∷ codes "--size=16" ∷ []))
    ≡ None
unfolding clap_on_literals
writers_twice = refl

a_word_too_many : task_asked (threads_with (codes "--writers=1" ∷ codes "--writes=1"
    ∷ codes "--size=16" ∷ codes "more" ∷ []))
    ≡ None
unfolding clap_on_literals
a_word_too_many = refl

-- a script is asked for by its command alone
a_script : task_asked (codes "p9sync" ∷ codes "pipe" ∷ []) ≡ Some Pipe
a_script = refl
