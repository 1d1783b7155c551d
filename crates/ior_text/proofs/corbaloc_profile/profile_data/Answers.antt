-- The writer's bytes are those of the fields, one behind the other.
use Rattle.std.proofs.Common.{ℕ, List, ap, ◌∙◌}
use Rattle.cdr_core.specs.Field.{octet, ushort, text, octets}
use Rattle.cdr_core.specs.Draft.{Draft, with_field}
use Rattle.cdr_core.specs.Fields.{with_fields}
use Rattle.ior_text.specs.CorbalocProfile.{component_fields}
use Rattle.ior_text.proofs.corbaloc_profile.profile_data.Goals as goal

pub returns : goal.returns
returns c =
    c.into_bytes.ensures
    ∙ ap (λ (d : Draft). d.bytes) (c.in_ok-put_components.ensures
    ∙ ap (with_fields (component_fields c.args.address.now.minor)) (c.in_ok-put_octets.ensures.ok
    ∙ ap (with_field (octets c.args.key.now)) (c.in_ok-ushort.ensures.ok
    ∙ ap (with_field (ushort c.args.address.now.endpoint.port)) (c.in_ok-put_text.ensures.ok
    ∙ (ap (λ (host : List ℕ). with_field (text host) c.octet-3.new.self) c.as_slice.ensures
    ∙ ap (with_field (text c.args.address.now.endpoint.host)) (c.in_ok-octet-3.ensures.ok
    ∙ ap (with_field (octet c.args.address.now.minor)) (c.in_ok-octet-2.ensures.ok
    ∙ ap (with_field (octet 1)) (c.in_ok-octet.ensures.ok
    ∙ ap (with_field (octet 0)) c.new-writer.ensures))))))))
