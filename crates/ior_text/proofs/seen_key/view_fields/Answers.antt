-- Each field is read where the one before it ends.
use Rattle.std.proofs.Common.{inr}
use Rattle.cdr_core.specs.Fault.{refusal}
use Rattle.ior_text.proofs.Bodies.{no_host, no_port, no_object_key, no_components}
use Rattle.ior_text.proofs.Refused.{on_err}
use Rattle.ior_text.proofs.Fields.{not_memory, versioned, key_read}
use Rattle.ior_text.proofs.seen_key.view_fields.Goals as goal

pub returns-in_err-text-clause-bad : goal.returns-in_err-text-clause-bad
returns-in_err-text-clause-bad c =
    let version = versioned _ _ _ _ _ c.in_ok-major.ensures.ok c.in_ok-minor.ensures.ok in
    on_err _ (no_host _ _ _ _ (refusal c.in_err-text.field-0.0) version (inr c.in_err-text.ensures.refused) (not_memory c.in_err-text.field-0.0))

pub returns-in_err-ushort-clause-bad : goal.returns-in_err-ushort-clause-bad
returns-in_err-ushort-clause-bad c =
    let version = versioned _ _ _ _ _ c.in_ok-major.ensures.ok c.in_ok-minor.ensures.ok in
    on_err _ (no_port _ _ _ _ _ _ _ version c.in_ok-text.ensures.ok c.in_err-ushort.ensures.refused)

pub returns-in_err-key-clause-bad : goal.returns-in_err-key-clause-bad
returns-in_err-key-clause-bad c =
    let version = versioned _ _ _ _ _ c.in_ok-major.ensures.ok c.in_ok-minor.ensures.ok in
    on_err _ (no_object_key _ _ _ _ _ _ _ _ (refusal c.in_err-key.field-0.0) version c.in_ok-text.ensures.ok
    c.in_ok-ushort.ensures.ok (inr c.in_err-key.ensures.refused) (not_memory c.in_err-key.field-0.0))

pub returns-in_err-pass_components-clause-bad : goal.returns-in_err-pass_components-clause-bad
returns-in_err-pass_components-clause-bad c =
    let version = versioned _ _ _ _ _ c.in_ok-major.ensures.ok c.in_ok-minor.ensures.ok in
    on_err _ (no_components _ _ _ _ _ _ _ _ _ _ version c.in_ok-text.ensures.ok c.in_ok-ushort.ensures.ok c.in_ok-key.ensures.ok c.in_err-pass_components.ensures.bad)

pub returns-clause-ok : goal.returns-clause-ok
returns-clause-ok c =
    let version = versioned _ _ _ _ _ c.in_ok-major.ensures.ok c.in_ok-minor.ensures.ok in
    key_read _ _ _ _ _ _ _ _ _ _ version c.in_ok-text.ensures.ok c.in_ok-ushort.ensures.ok c.in_ok-key.ensures.ok c.in_ok-pass_components.ensures.components
