use Rattle.std.proofs.Common.{◌≡◌, subst, arith}
use Rattle.std.proofs.lemmas.List.{length-map}
use Rattle.text_words.specs.Path.{path_text}
use Rattle.conf_fields.specs.Numbers.{find_in, noted}
use Rattle.conf_fields.proofs.Finds.{noted_next}
use Rattle.conf_toml.specs.Adapters.{adapter_paths}
use Rattle.conf_toml.proofs.Counting.{adapter_paths_more}
use Rattle.conf_toml.proofs.adapter.AdapterRowsReader.next.Goals as goal

pub returns-clause-noted : goal.returns-clause-noted
returns-clause-noted c =
    let done = c.args.done.now in
    let adapter = c.in_ok-adapter.adapter in
    let old = find_in c.args.paths.now in
    let new = find_in c.note.new.numbers in
    rw (adapter_paths_more done adapter)
    (noted_next old new (adapter_paths done) (path_text adapter.path) c.args.i (omega (arith, length-map done (λ x. path_text x.path), c.requires.index))
    c.requires.noted c.in_ok-adapter.ensures.read.fresh
    (subst (λ path. new ≡ noted path c.args.i old) c.in_ok-adapter.ensures.name c.in_ok-note.ensures.noted))
