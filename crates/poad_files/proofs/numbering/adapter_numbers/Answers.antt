use Rattle.std.proofs.Common.{◌≡◌, ℕ, List, [], ap, ◌∙◌, arith}
use Rattle.std.proofs.Math.Path.{fun_ext}
use Rattle.std.specs.Map.{lookup}
use Rattle.std.specs.BTreeMap as tree
use Rattle.std.specs.BTreeMap.{is_at}
use Rattle.poa_base.specs.Store.{path_cmp}
use Rattle.poad_files.specs.Numbers.{Numbers, no_numbers, numbered, with_number}
use Rattle.poad_files.proofs.numbering.adapter_numbers.Goals as goal

pub loop-adapter-init : goal.loop-adapter-init
loop-adapter-init c =
    let empty = tree.get path_cmp c.new-numbers.result in
    let none : empty ≡ no_numbers = fun_ext (λ q. ap (lookup (is_at (path_cmp q))) c.new-numbers.ensures.empty) in
    let root = ap (λ (p : List (List ℕ)). with_number p 0 empty) c.root.ensures ∙ ap (with_number [] 0) none in
    record { same = ap (λ (f : Numbers). numbered f 1 c.args.adapters.now) (c.in_ok-note.ensures ∙ root); most = omega arith }
