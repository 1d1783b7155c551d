use Rattle.std.proofs.Common.{◌≡◌, ◌++◌, drop}
use Rattle.ior_text.specs.CorbalocText.{behind_commas}
use Rattle.ior_text.proofs.corbaloc_writing.put_list.Given as goal

abbrev pub invariant-loop-address : goal.invariant-loop-address
invariant-loop-address l =
    l.text.items ++ behind_commas (drop l.address-index l.others) ≡ l.initial.text.items ++ behind_commas l.others
