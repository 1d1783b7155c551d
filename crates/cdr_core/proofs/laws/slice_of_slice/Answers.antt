use Rattle.cdr_core.proofs.Slices.{slice_of_slice}
use Rattle.cdr_core.proofs.laws.slice_of_slice.Goals as goal

pub returns : goal.returns
returns c = slice_of_slice
