-- Scripts computed from the definitions alone. docs/WORKED.md says where else each is tried.
use Rattle.std.proofs.Common.{◌≡◌, ◌++◌, List, ℕ, [], refl, codes, Option, Some, None}
use Rattle.hex.specs.Hex.{encode_with, decode_pairs}
use Rattle.scripts.specs.PipeScript.{pipe_told}

-- the script says this, and this line of it is at fault
abbrev PipeSays : List ℕ → List ℕ → Option ℕ → Type 0
PipeSays script output fault = pipe_told script ≡ record { output = output; fault = fault }

a_write_is_read_back :
    PipeSays (codes "limit 2\nwrite 0 616263\nread 8\n")
    (codes "taken\ngot 616263\n") None
unfolding encode_with decode_pairs
a_write_is_read_back = refl

a_read_never_joins_two_writes :
    PipeSays (codes "limit 4\nwrite 0 616263\nwrite 1 6465\nread 2\nread 8\nread 8\n")
    (codes "taken\ntaken\ngot 6162\ngot 63\ngot 6465\n") None
unfolding encode_with decode_pairs
a_read_never_joins_two_writes = refl

an_empty_write_is_read_as_an_empty_piece :
    PipeSays (codes "limit 2\nwrite 0 -\nread 4\nread 4\n")
    (codes "taken\ngot -\nempty\n") None
unfolding encode_with decode_pairs
an_empty_write_is_read_as_an_empty_piece = refl

a_begun_write_frees_its_place :
    PipeSays (codes "limit 1\nwrite 0 616263\nwrite 0 64\nread 1\nwrite 0 64\nread 8\nread 8\n")
    (codes "taken\nfull\ngot 61\ntaken\ngot 6263\ngot 64\n") None
unfolding encode_with decode_pairs
a_begun_write_frees_its_place = refl

what_was_accepted_is_read_after_a_hangup :
    PipeSays
    (codes "limit 2\nwrite 0 6162\nhangup\nwrite 0 63\nread 1\nread 8\nread 8\nread 8\n"
    ++ codes "hangup\n")
    (codes "taken\nok\nhungup\ngot 61\ngot 62\nend\nend\nok\n") None
unfolding encode_with decode_pairs
what_was_accepted_is_read_after_a_hangup = refl

an_empty_script_is_a_fault_of_line_1 : PipeSays [] [] (Some 1)
unfolding encode_with decode_pairs
an_empty_script_is_a_fault_of_line_1 = refl

half_a_byte_is_a_fault : PipeSays (codes "limit 2\nwrite 0 616\n") [] (Some 2)
unfolding encode_with decode_pairs
half_a_byte_is_a_fault = refl

an_unknown_word_keeps_the_answers_before_it :
    PipeSays (codes "limit 2\nwrite 0 61\nfrob\n")
    (codes "taken\n") (Some 3)
unfolding encode_with decode_pairs
an_unknown_word_keeps_the_answers_before_it = refl

no_pipe_has_the_limit_0 : PipeSays (codes "limit 0\n") [] (Some 1)
unfolding encode_with decode_pairs
no_pipe_has_the_limit_0 = refl

no_pipe_has_the_writer_64 : PipeSays (codes "limit 2\nwrite 64 61\n") [] (Some 2)
unfolding encode_with decode_pairs
no_pipe_has_the_writer_64 = refl

no_number_begins_with_a_zero : PipeSays (codes "limit 2\nread 08\n") [] (Some 2)
unfolding encode_with decode_pairs
no_number_begins_with_a_zero = refl

a_limit_alone_says_nothing : PipeSays (codes "limit 2\n") [] None
unfolding encode_with decode_pairs
a_limit_alone_says_nothing = refl

a_line_without_its_end_is_a_fault : PipeSays (codes "limit 2\nread 8") [] (Some 2)
unfolding encode_with decode_pairs
a_line_without_its_end_is_a_fault = refl

a_stream_read_joins_writes :
    PipeSays (codes "limit 4 stream\nwrite 0 616263\nwrite 1 6465\nread 4\nread 8\nread 8\n")
    (codes "taken\ntaken\ngot 61626364\ngot 65\nempty\n") None
unfolding encode_with decode_pairs
a_stream_read_joins_writes = refl

a_stream_read_leaves_empty_writes_after_its_last_byte :
    PipeSays
    (codes "limit 3 stream\nwrite 0 -\nwrite 0 61\nwrite 0 -\nwrite 0 62\nread 1\n"
    ++ codes "write 0 62\nhangup\nread 8\nread 8\n")
    (codes "taken\ntaken\ntaken\nfull\ngot 61\ntaken\nok\ngot 62\nend\n") None
unfolding encode_with decode_pairs
a_stream_read_leaves_empty_writes_after_its_last_byte = refl

a_stream_read_passes_empty_writes :
    PipeSays (codes "limit 1 stream\nwrite 0 -\nread 8\nwrite 0 61\nread 8\n")
    (codes "taken\nempty\ntaken\ngot 61\n") None
unfolding encode_with decode_pairs
a_stream_read_passes_empty_writes = refl

a_stream_is_read_to_its_end :
    PipeSays
    (codes "limit 4 stream\nwrite 0 6162\nwrite 0 -\nwrite 0 6364\nhangup\nread 3\n"
    ++ codes "read 8\nread 8\nread 8\n")
    (codes "taken\ntaken\ntaken\nok\ngot 616263\ngot 64\nend\nend\n") None
unfolding encode_with decode_pairs
a_stream_is_read_to_its_end = refl

a_stream_read_goes_on_after_a_begun_write :
    PipeSays
    (codes "limit 1 stream\nwrite 0 616263\nwrite 0 64\nread 1\nwrite 0 64\nread 8\n"
    ++ codes "read 8\n")
    (codes "taken\nfull\ngot 61\ntaken\ngot 626364\nempty\n") None
unfolding encode_with decode_pairs
a_stream_read_goes_on_after_a_begun_write = refl

a_stream_read_of_none_passes_nothing :
    PipeSays (codes "limit 1 stream\nwrite 0 -\nread 0\nwrite 0 61\nread 8\nwrite 0 61\nread 8\n")
    (codes "taken\nbad count\nfull\nempty\ntaken\ngot 61\n") None
unfolding encode_with decode_pairs
a_stream_read_of_none_passes_nothing = refl

a_stream_of_empty_writes_ends :
    PipeSays (codes "limit 2 stream\nwrite 0 -\nwrite 0 -\nhangup\nwrite 0 61\nread 1\nread 1\n")
    (codes "taken\ntaken\nok\nhungup\nend\nend\n") None
unfolding encode_with decode_pairs
a_stream_of_empty_writes_ends = refl

no_pipe_has_the_mode_streams : PipeSays (codes "limit 2 streams\n") [] (Some 1)
unfolding encode_with decode_pairs
no_pipe_has_the_mode_streams = refl
