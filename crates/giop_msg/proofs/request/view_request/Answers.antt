-- The parts are read where the ones before them end.
use Rattle.std.proofs.Common.{arith}
use Rattle.ior_text.proofs.Refused.{on_err}
use Rattle.giop_msg.proofs.Requests.{opening_missing, target_missing, closing_missing, stands_within, request_stands}
use Rattle.giop_msg.proofs.request.view_request.Goals as goal

pub returns-in_err-opening-clause-bad : goal.returns-in_err-opening-clause-bad
returns-in_err-opening-clause-bad c =
    on_err _ (opening_missing c.args.bytes.now _ c.minor_of-minor.ensures _ c.enter-view.ensures c.requires.request c.in_err-opening.ensures.bad)

pub returns-in_err-target-clause-bad : goal.returns-in_err-target-clause-bad
returns-in_err-target-clause-bad c =
    on_err _
    (target_missing c.args.bytes.now _ c.minor_of-minor.ensures _ c.enter-view.ensures _ _ _ c.in_ok-opening.ensures.ok c.requires.request
    c.in_err-target.ensures.bad)

pub returns-in_err-operation-clause-bad : goal.returns-in_err-operation-clause-bad
returns-in_err-operation-clause-bad c =
    on_err _
    (closing_missing c.args.bytes.now _ c.minor_of-minor.ensures _ c.enter-view.ensures _ _ _ c.in_ok-opening.ensures.ok _ _ c.in_ok-target.ensures.ok
    c.requires.request c.in_err-operation.ensures.bad)

pub body_at-body-requires-clause-within : goal.body_at-body-requires-clause-within
body_at-body-requires-clause-within c =
    let inside =
    stands_within c.args.bytes.now _ c.minor_of-minor.ensures _ c.enter-view.ensures _ _ _ c.in_ok-opening.ensures.ok _ _ c.in_ok-target.ensures.ok _ _
    c.in_ok-operation.ensures.ok c.requires.whole in
    omega (arith, inside.stands.place, c.place.ensures.value)

pub returns-clause-ok : goal.returns-clause-ok
returns-clause-ok c = (
  c.requires.request,
  request_stands c.args.bytes.now _ c.minor_of-minor.ensures _ c.enter-view.ensures _ _ _ c.in_ok-opening.ensures.ok _ _ c.in_ok-target.ensures.ok _ _
      c.in_ok-operation.ensures.ok c.requires.whole _ _ c.body_unit.result _ _ c.requires.known c.place.ensures.value c.is_little.ensures
      c.body_unit.ensures.value c.body_at-body.ensures,
)
