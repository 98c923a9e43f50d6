-- Each of these states has words or seats that no run leaves.
use Rattle.rendez_words.proofs.BrokenLemmas.{no_wakeup_is_lost, no_sleeper_is_nowhere}
use Rattle.rendez_words.proofs.BrokenLemmas.{no_mark_is_stray}
use Rattle.rendez_words.proofs.BrokenLemmas.{no_stranger_is_posted, no_stranger_has_a_seat}
use Rattle.rendez_words.proofs.BrokenLemmas.{no_process_has_two_seats}
use Rattle.rendez_words.proofs.BrokenLemmas.{no_process_to_come_has_a_seat}
use Rattle.rendez_words.proofs.BrokenLemmas.{no_process_to_come_is_posted}
use Rattle.rendez_words.proofs.BrokenLemmas.{no_process_is_joined_with_itself}
use Rattle.rendez_words.proofs.laws.rule_can_be_broken.Goals as goal

pub returns-clause-wakeup_is_lost : goal.returns-clause-wakeup_is_lost
returns-clause-wakeup_is_lost c = no_wakeup_is_lost

pub returns-clause-sleeper_is_nowhere : goal.returns-clause-sleeper_is_nowhere
returns-clause-sleeper_is_nowhere c = no_sleeper_is_nowhere

pub returns-clause-mark_is_stray : goal.returns-clause-mark_is_stray
returns-clause-mark_is_stray c = no_mark_is_stray

pub returns-clause-stranger_is_posted : goal.returns-clause-stranger_is_posted
returns-clause-stranger_is_posted c = no_stranger_is_posted

pub returns-clause-stranger_has_a_seat : goal.returns-clause-stranger_has_a_seat
returns-clause-stranger_has_a_seat c = no_stranger_has_a_seat

pub returns-clause-two_seats : goal.returns-clause-two_seats
returns-clause-two_seats c = no_process_has_two_seats

pub returns-clause-seat_to_come : goal.returns-clause-seat_to_come
returns-clause-seat_to_come c = no_process_to_come_has_a_seat

pub returns-clause-step_to_come : goal.returns-clause-step_to_come
returns-clause-step_to_come c = no_process_to_come_is_posted

pub returns-clause-joined_with_itself : goal.returns-clause-joined_with_itself
returns-clause-joined_with_itself c = no_process_is_joined_with_itself
