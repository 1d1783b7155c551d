use Rattle.std.proofs.Common.{arith, ◌<◌, length}
use Rattle.ior_text.proofs.Digits.{bad_below}
use Rattle.ior_text.proofs.reading.fault_of.Goals as goal

pub overflow_add-result : goal.overflow_add-result
overflow_add-result c =
    let below : c.in-InvalidHexCharacter.index < length c.args.digits.now =
    bad_below c.args.digits.now c.args.fault c.in-InvalidHexCharacter.c c.in-InvalidHexCharacter.index c.requires c.in-InvalidHexCharacter.is in
    omega arith
