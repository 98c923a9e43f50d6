-- What a look at a kernel shows.
use Rattle.std.specs.Prelude.{◌≡◌, ◌<◌, ℕ, List, length, slice_index_or}
use Rattle.sleep_wakeup.specs.declared.status.ProcStatus.{ProcStatus}
use Rattle.sleep_wakeup.specs.declared.status.RendezStatus.{RendezStatus}

-- each status is of the process whose number is its place
abbrev pub AreOfProcs : List ProcStatus → Type 0
AreOfProcs all = (n : ℕ) (room : ProcStatus) → n < length all →
    (slice_index_or all n room).pid.0 ≡ n

-- each status is of the Rendez whose number is its place
abbrev pub AreOfRendez : List RendezStatus → Type 0
AreOfRendez all = (n : ℕ) (room : RendezStatus) → n < length all →
    (slice_index_or all n room).rendez.0 ≡ n
