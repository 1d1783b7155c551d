use Rattle.std.proofs.Common.{◌≡◌, map, drop}
use Rattle.text_words.specs.Path.{all_names_of}
use Rattle.text_words.proofs.NamesRead.{behind_names}
use Rattle.text_words.proofs.adapter_path.all_names.Given as goal

abbrev pub invariant-loop-part : goal.invariant-loop-part
invariant-loop-part l = behind_names l.names.items (all_names_of (map (λ x. x.now) (drop l.part-index l.parts))) ≡ all_names_of (map (λ x. x.now) l.parts)
