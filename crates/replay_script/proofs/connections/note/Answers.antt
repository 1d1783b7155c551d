use Rattle.std.proofs.Common.{◌≡◌, ◌∷◌, [], ◌++◌, ◌∙◌, ap, length, arith, slice_set, slice_index_or}
use Rattle.replay_script.specs.Connections.{place_in}
use Rattle.replay_script.specs.Traffic.{names, with_role}
use Rattle.replay_script.specs.declared.traffic.Traffic.{Traffic}
use Rattle.replay_script.proofs.Rows.{noted_at, noted_new, not_there, is_there}
use Rattle.replay_script.proofs.connections.note.Goals as goal

pub returns-in_default : goal.returns-in_default
returns-in_default c =
    let at : c.row_of-place.result ≡ place_in c.args.name.now (names c.args.rows.now.items) =
    c.row_of-place.ensures ∙ ap (λ rs. place_in c.args.name.now (names rs)) c.as_slice.ensures.value in
    c.in_ok-add.ensures
    ∙ ap (λ (t : Traffic). c.args.rows.now.items ++ record { name = c.args.name.now; traffic = t } ∷ [])
    (c.with.ensures ∙ ap (with_role c.args.role) c.none.ensures)
    ∙ noted_new c.args.name.now c.args.role c.args.rows.now.items
    (λ within. not_there c.get_mut.result c.get_mut.ensures.variant c.in_default.is
    (omega (arith, within, at, c.as_slice.ensures.len, ap length c.as_slice.ensures.value)))

pub returns : goal.returns
returns c =
    let at : c.row_of-place.result ≡ place_in c.args.name.now (names c.args.rows.now.items) =
    c.row_of-place.ensures ∙ ap (λ rs. place_in c.args.name.now (names rs)) c.as_slice.ensures.value in
    ap (λ k. slice_set c.args.rows.now.items k (record { name = c.in-Some.row.now.name; traffic = c.with-row.result })) at
    ∙ ap (λ (t : Traffic). slice_set c.args.rows.now.items (place_in c.args.name.now (names c.args.rows.now.items))
    (record { name = c.in-Some.row.now.name; traffic = t })) c.with-row.ensures
    ∙ noted_at c.args.name.now c.args.role c.args.rows.now.items c.in-Some.row.now
    (omega (
      arith,
      is_there c.get_mut.result c.in-Some.row c.get_mut.ensures.variant c.in-Some.is,
      at,
      c.as_slice.ensures.len,
      ap length
          c.as_slice.ensures.value,
    ))
    (c.in-Some.ensures.value ∙ ap (λ k. slice_index_or c.args.rows.now.items k c.in-Some.row.now) at)
