-- What a call does by whether the process may make it: it may where its kernel has the Rendez of
-- what it calls. Own; in Plan 9 there is one kernel.
use Rattle.std.specs.Prelude.{◌≡◌, ◌↔◌, Result, Err, IsErrOf}
use Rattle.sync_base.specs.declared.fault.Fault.{Fault}
use Rattle.sync_base.specs.declared.fault.Fault.TheVariants.{NoRendez}

-- It is refused as `NoRendez` just where the process may not make it, and then nothing is done;
-- else it is the call.
pub record IfKnown {A : Type 0} (May : Type 0) (answer : Result A Fault)
    (Nothing Called : Type 0) : Type 0 where
  pub no_rendez : IsErrOf answer NoRendez ↔ ¬ May
  pub refused : ¬ May → Nothing
  pub called : May → Called

-- The same of a call that a runner runs, which may refuse it as it likes: it is refused as
-- `NoRendez` where the process may not make it, and then nothing is done; else it is the call.
pub record IfMay {A : Type 0} (May : Type 0) (answer : Result A Fault) (Nothing Called : Type 0)
    : Type 0 where
  pub refused : ¬ May → (answer ≡ Err NoRendez) × Nothing
  pub called : May → Called
