use Rattle.std.proofs.Common.{ap, sym, ◌∙◌}
use Rattle.std.specs.Prelude.{position}
use Rattle.history_standing.specs.Paths.{same_path}
use Rattle.core_settings.specs.Told.{preset_row}
use Rattle.core_settings.proofs.Rows.{found_put, found_pushed}
use Rattle.core_settings.proofs.presets.put.Goals as goal

pub returns-in-Some-clause-ok : goal.returns-in-Some-clause-ok
returns-in-Some-clause-ok c =
    found_put (λ r. r.path) c.args.row c.args.rows.now.items c.in-Some.place
    (ap (position (λ r. same_path r.path c.args.row.path)) (sym c.deref.ensures.value) ∙ sym c.place_of.ensures ∙ c.in-Some.is)

pub returns-in_ok-push-in-None-clause-ok : goal.returns-in_ok-push-in-None-clause-ok
returns-in_ok-push-in-None-clause-ok c =
    λ p. ap (λ rows. preset_row rows p) c.in_ok-push-in-None.ensures.items
    ∙ found_pushed (λ r. r.path) c.args.row c.args.rows.now.items
    (ap (position (λ r. same_path r.path c.args.row.path)) (sym c.deref.ensures.value) ∙ sym c.place_of.ensures ∙ c.in-None.is) p
