-- Where nobody is posted, and what is no cause of a sleep's end: each against one row.
use Rattle.std.proofs.Common.{inl, inr, arith, [], ◌∷◌}
use Rattle.sleep_core.specs.declared.phase.Phase.TheVariants.{Woken}
use Rattle.sleep_core.specs.History.{Passed}
use Rattle.sleep_core.specs.Promises.{IsCaused}
use Rattle.sleep_core.specs.SleepPlaces.{MayBePosted}

who_was_marked_is_posted_nowhere : ¬ MayBePosted 0 Woken
who_was_marked_is_posted_nowhere it = it

-- the test of another process found its condition true
anothers_test_is_no_cause : ¬ IsCaused (Passed 1 ∷ []) 0
anothers_test_is_no_cause (inl it) = omega (arith, it)
anothers_test_is_no_cause (inr it) = it
