-- `bench::starred_rows` has the theorem. Assumes nothing.
use Rattle.bench.proofs.Rows.{rows}
use Rattle.bench.proofs.starred_rows.Goals as goal

pub returns : goal.returns
returns c = rows
