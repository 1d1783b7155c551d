use Rattle.std.proofs.Common.{◌∙◌, sym, ap}
use Rattle.std.proofs.lemmas.Map.Steps.{set_value_same}
use Rattle.std.proofs.lemmas.Result.{on_err_weaker}
use Rattle.std.specs.BTreeMap.{is_at}
use Rattle.std.specs.Map.{set_value}
use Rattle.std.specs.Option.{option_copied_mut}
use Rattle.std.specs.Ordering.{nat_cmp}
use Rattle.core_state.proofs.acting.act_fresh.Goals as goal

pub returns-in-Some-clause-err : goal.returns-in-Some-clause-err
returns-in-Some-clause-err c =
    let written = c.get_mut.follows.holds c.act_on.new.servant in
    let had = sym c.get_mut.ensures.value ∙ ap option_copied_mut c.in-Some.is in
    on_err_weaker c.act_on.result
    (λ same. written.0 ∙ ap (set_value (is_at (nat_cmp c.args.number)) c.args.fresh.now.entries) same
    ∙ set_value_same (is_at (nat_cmp c.args.number)) c.args.fresh.now.entries c.in-Some.servant.now had) c.act_on.ensures.err
