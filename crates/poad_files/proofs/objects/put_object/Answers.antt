use Rattle.std.proofs.Common.{◌≡◌, ◌++◌, ℕ, List, OnOk, subst, ap, ◌∙◌}
use Rattle.std.specs.BTreeMap as tree
use Rattle.poa_base.specs.Store.{path_cmp}
use Rattle.poa_base.specs.declared.AdapterConf.{AdapterConf}
use Rattle.poad_files.specs.Objects.{id_of}
use Rattle.poad_files.specs.Tags.{tag_at}
use Rattle.poad_files.proofs.Lines.{line_of}
use Rattle.poad_files.proofs.objects.put_object.Goals as goal

pub returns : goal.returns
returns c =
    let config = c.args.config.now in
    let o = c.args.object.now in
    let oid = c.in_ok-oid.oid in
    let made = id_of config.run c.args.ordinal o.oid in
    let same =
    line_of config (tree.get path_cmp c.args.numbers.now) o.adapter oid made o.servant c.number_at-number.result c.tag_at-tag.result c.in_ok-key.key c.type_of-type_id.result.now
    c.as_slice-2.result.now
    c.in_ok-oid.ensures c.number_at-number.ensures
    (c.tag_at-tag.ensures ∙ ap (λ (entries : List AdapterConf). tag_at entries o.adapter) c.as_slice.ensures) c.in_ok-key.ensures.key c.type_of-type_id.ensures (c.as_slice-2.ensures ∙ c.in_ok-reference.ensures) in
    subst (λ (t : List ℕ). OnOk c.put_line.result (c.put_line.new.out.items ≡ c.args.out.now.items ++ t)) same c.put_line.ensures
