-- Schedules computed from the definitions alone. docs/WORKED.md says where else each is tried.
use Rattle.std.proofs.Common.{◌≡◌, ◌++◌, List, ℕ, [], refl, codes, Option, Some, None}
use Rattle.std.specs.Fmt.{digits}
use Rattle.scripts.specs.Schedule.{schedule_told}

-- the schedule says this, and this line of it is at fault
abbrev ScheduleSays : List ℕ → List ℕ → Option ℕ → Type 0
ScheduleSays script output fault = schedule_told script ≡ record { output = output; fault = fault }

a_wakeup_comes_before_the_post :
    ScheduleSays (codes "world 2 1\nraise 1 0 1\ntake 1\npost 0 0 0\ntest 0\nwithdraw 0\nclear 0\n")
    (codes "owing\nnobody\nposted\nleaving\nout\nok\nlost no\n") None
unfolding digits
a_wakeup_comes_before_the_post = refl

a_wakeup_comes_between_post_and_test :
    ScheduleSays
    (codes "world 2 1\npost 0 0 0\nraise 1 0 1\ntake 1\ntest 0\nwithdraw 0\nlook 0\n"
    ++ codes "mark 1\nlook 0\nclear 0\n")
    (codes "posted\nowing\nholding 0\nleaving\nawaiting\nparked\nmarked 0\nwoken\nok\n"
    ++ codes "lost no\n") None
unfolding digits
a_wakeup_comes_between_post_and_test = refl

a_wakeup_takes_a_process_that_is_asleep :
    ScheduleSays
    (codes "world 2 1\npost 0 0 0\ntest 0\ncheck 0\nraise 1 0 1\ntake 1\ncheck 0\nlook 0\n"
    ++ codes "mark 1\nlook 0\nclear 0\n")
    (codes "posted\nasleep\nposted\nowing\nholding 0\nreleased\nparked\nmarked 0\nwoken\n"
    ++ codes "ok\nlost no\n") None
unfolding digits
a_wakeup_takes_a_process_that_is_asleep = refl

a_note_and_a_wakeup_race :
    ScheduleSays
    (codes "world 2 1\npost 0 0 0\ntest 0\nnote 0 interrupt\nlook 0\nraise 1 0 1\ntake 1\n"
    ++ codes "withdraw 0\nmark 1\nlook 0\nclear 0\n")
    (codes "posted\nasleep\nnoted\nleaving\nowing\nholding 0\nawaiting\nmarked 0\nwoken\n"
    ++ codes "interrupted interrupt\nlost no\n") None
unfolding digits
a_note_and_a_wakeup_race = refl

pending_notes_end_a_sleep_whose_condition_holds :
    ScheduleSays
    (codes "world 2 1\nnote 0 alarm\nnote 0 interrupt\nnote 0 alarm\nraise 1 0 5\ntake 1\n"
    ++ codes "post 0 0 0\ntest 0\nwithdraw 0\nclear 0\ndrain 0\n")
    (codes "noted\nnoted\nnoted\nowing\nnobody\nposted\nleaving\nout\n"
    ++ codes "interrupted interrupt,alarm\nnotes -\nlost no\n") None
unfolding digits
pending_notes_end_a_sleep_whose_condition_holds = refl

refused_events_change_nothing :
    ScheduleSays
    (codes "world 3 1\npost 0 0 0\npost 1 0 0\npost 2 0 18446744073709551615\npost 2 1 0\n"
    ++ codes "post 0 0 0\ntest 3\nclear 0\ntake 0\n")
    (codes "posted\ndouble sleep\nbad level\nno rendez\nrefused\nno process\nrefused\n"
    ++ codes "refused\nlost no\n") None
unfolding digits
refused_events_change_nothing = refl

a_low_wakeup_takes_a_process_before_it_falls_asleep :
    ScheduleSays
    (codes "world 3 1\npost 0 0 0\nraise 1 0 0\ntake 1\ntest 0\nraise 2 0 1\ntake 2\n"
    ++ codes "look 0\nmark 1\nlook 0\nclear 0\n")
    (codes "posted\nowing\nholding 0\nasleep\nowing\nnobody\nparked\nmarked 0\nwoken\nok\n"
    ++ codes "lost no\n") None
unfolding digits
a_low_wakeup_takes_a_process_before_it_falls_asleep = refl

a_world_alone_has_lost_nothing : ScheduleSays (codes "world 1 1\n") (codes "lost no\n") None
unfolding digits
a_world_alone_has_lost_nothing = refl

kinds_are_told_in_one_order :
    ScheduleSays (codes "world 1 1\nnote 0 expired,alarm\ndrain 0\n")
    (codes "noted\nnotes alarm,expired\nlost no\n") None
unfolding digits
kinds_are_told_in_one_order = refl

a_kind_twice_is_a_fault : ScheduleSays (codes "world 1 1\nnote 0 alarm,alarm\n") [] (Some 2)
unfolding digits
a_kind_twice_is_a_fault = refl

a_fault_ends_a_schedule_with_no_last_line :
    ScheduleSays (codes "world 1 1\ndrain 0\nnote 0 bell\n")
    (codes "notes -\n") (Some 3)
unfolding digits
a_fault_ends_a_schedule_with_no_last_line = refl

a_group_note_is_a_note_to_each :
    ScheduleSays
    (codes "world 3 1\npost 1 0 0\ntest 1\nnotepg 0,1,5 interrupt\nlook 1\nwithdraw 1\n"
    ++ codes "clear 1\ndrain 0\ndrain 2\n")
    (codes "posted\nasleep\nnoted\nnoted\nno process\nleaving\nout\n"
    ++ codes "interrupted interrupt\nnotes interrupt\nnotes -\nlost no\n") None
unfolding digits
a_group_note_is_a_note_to_each = refl

a_group_of_one_gets_all_kinds :
    ScheduleSays (codes "world 2 1\nnotepg 1 hangup,alarm\nnotepg 0,1 -\ndrain 1\ndrain 0\n")
    (codes "noted\nnoted\nnoted\nnotes hangup,alarm\nnotes -\nlost no\n") None
unfolding digits
a_group_of_one_gets_all_kinds = refl

a_group_that_falls_is_a_fault : ScheduleSays (codes "world 3 1\nnotepg 1,0 alarm\n") [] (Some 2)
unfolding digits
a_group_that_falls_is_a_fault = refl

a_process_twice_in_a_group_is_a_fault :
    ScheduleSays (codes "world 3 1\nnote 1 alarm\nnotepg 1,1 alarm\n")
    (codes "noted\n") (Some 3)
unfolding digits
a_process_twice_in_a_group_is_a_fault = refl

a_group_of_none_is_a_fault : ScheduleSays (codes "world 3 1\nnotepg  alarm\n") [] (Some 2)
unfolding digits
a_group_of_none_is_a_fault = refl

a_comma_after_a_group_is_a_fault :
    ScheduleSays (codes "world 3 1\nnotepg 0,1, alarm\n")
    [] (Some 2)
unfolding digits
a_comma_after_a_group_is_a_fault = refl

a_word_after_a_group_note_is_a_fault :
    ScheduleSays (codes "world 3 1\nnotepg 0,1 alarm hangup\n")
    [] (Some 2)
unfolding digits
a_word_after_a_group_note_is_a_fault = refl

a_group_note_without_kinds_is_a_fault : ScheduleSays (codes "world 3 1\nnotepg 0,1\n") [] (Some 2)
unfolding digits
a_group_note_without_kinds_is_a_fault = refl
