use Rattle.std.proofs.Common.{sym, ◌∙◌, refl}
use Rattle.std.specs.Option.{option_copied}
use Rattle.std.proofs.lemmas.Result.{err_from_is_err_and}
use Rattle.ior_text.proofs.Texts.{CutAtSlash, list_refused, key_refused, both_told, lent}
use Rattle.ior_text.proofs.corbaloc_reading.read_location.Goals as goal
use Rattle.ior_text.proofs.corbaloc_reading.read_location.Goals.{After-cut}

cut_parts : (c : After-cut) → CutAtSlash c.args.text.now c.cut.result.0.now (option_copied c.cut.result.1)
cut_parts c = record {
  starts = sym c.starts_with.ensures.value ∙ c.if-not-starts_with.false;
  long = c.starts_with.ensures.bound c.if-not-starts_with.false;
  before_slash = c.cut.ensures.before;
  behind_slash = c.cut.ensures.behind;
}

pub returns-in_err-addresses : goal.returns-in_err-addresses
returns-in_err-addresses c =
    let passed = err_from_is_err_and c.from_residual.result c.from_residual.ensures.1 in
    let parts = cut_parts (goal.at.returns-in_err-addresses c).After-cut in
    rw (passed.1, passed.2) (list_refused c.args.text.now c.cut.result.0.now _ _ parts c.in_err-addresses.ensures)

pub returns-in_err-key : goal.returns-in_err-key
returns-in_err-key c =
    let passed = err_from_is_err_and c.from_residual-in_err-key.result c.from_residual-in_err-key.ensures.1 in
    let parts = cut_parts (goal.at.returns-in_err-key c).After-cut in
    let key_string = lent c.cut.result.1 _ c.unwrap_or.result c.unwrap_or.ensures refl in
    rw (passed.1, passed.2)
    (key_refused c.args.text.now c.cut.result.0.now c.unwrap_or.result.now _ _ _ parts key_string c.in_ok-addresses.ensures
    c.in_err-key.ensures)

pub returns : goal.returns
returns c =
    let parts = cut_parts (goal.at.returns c).After-cut in
    let key_string = lent c.cut.result.1 _ c.unwrap_or.result c.unwrap_or.ensures refl in
    both_told c.args.text.now c.cut.result.0.now c.unwrap_or.result.now _ _ _ parts key_string c.in_ok-addresses.ensures
    c.in_ok-key.ensures
