-- by the reach of a read through the writes that are not read
use Rattle.sync_base.proofs.StreamLawLemmas.{stream_loses_nothing, stream_passes_all}
use Rattle.sync_base.proofs.laws.stream_reads_go_on.Goals as goal

pub returns-clause-loses_nothing : goal.returns-clause-loses_nothing
returns-clause-loses_nothing c = stream_loses_nothing

pub returns-clause-passes_all : goal.returns-clause-passes_all
returns-clause-passes_all c = stream_passes_all
