-- The writer's bytes are those of the fields and of the components.
use Rattle.std.proofs.Common.{ℕ, List, ap, ◌∙◌}
use Rattle.cdr_core.specs.Draft.{Draft}
use Rattle.cdr_core.specs.Fields.{with_fields}
use Rattle.poa_base.specs.declared.Profile.{Profile}
use Rattle.ior_text.specs.declared.profile.TheConstants.{TAG_INTERNET_IOP}
use Rattle.ior_text.specs.Parts.{body_fields, with_components}
use Rattle.ior_text.proofs.PartsBack.{parts_back}
use Rattle.ior_text.proofs.parts_writing.write_parts.Goals as goal

abbrev profile_of_bytes : List ℕ → Profile
profile_of_bytes bytes = record { tag = TAG_INTERNET_IOP; bytes = bytes }

pub returns-clause-profile : goal.returns-clause-profile
returns-clause-profile c =
    ap profile_of_bytes (c.from_vec.ensures ∙ (c.into_bytes.ensures
    ∙ ap (λ (d : Draft). d.bytes) (c.in_ok-put_components.ensures.written
    ∙ ap (with_components c.args.parts.now) (c.in_ok-put_body.ensures.written
    ∙ ap (with_fields (body_fields c.args.parts.now.body)) c.new-writer.ensures))))

pub returns-clause-back : goal.returns-clause-back
returns-clause-back c = parts_back c.args.parts.now c.in_ok-put_body.ensures.fits c.in_ok-put_components.ensures.fits
