-- The input is what was taken so far, and at most a byte more than the longest script.
use Rattle.std.proofs.Common.{◌≡◌, ◌+◌, ◌≤◌, vec_len}
use Rattle.std.specs.Io.KnownBytes.{Consumes}
use Rattle.scripts.specs.declared.device.TheConstants.{CHUNK}
use Rattle.scripts.specs.declared.script.TheConstants.{MAX_SCRIPT}
use Rattle.scripts.proofs.device.read_script.Given as goal

-- the input is what was taken so far
abbrev pub invariant-loop : goal.invariant-loop
invariant-loop g l = record {
  taken : Consumes (g.R.Read.remaining l.fn.reader) (g.R.Read.remaining l.reader) l.input.items;
  within : vec_len l.input ≤ MAX_SCRIPT + 1;
  room : vec_len l.room ≡ CHUNK;
}
