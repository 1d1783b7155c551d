-- The writer's bytes are those of the fields, one behind the other.
use Rattle.std.proofs.Common.{ℕ, List, length, ap, ◌∙◌, arith}
use Rattle.cdr_core.specs.Field.{ushort, ulong, text, octets}
use Rattle.cdr_core.specs.Draft.{Draft, with_field}
use Rattle.giop_msg.proofs.ask.newest_request.Goals as goal

pub returns-clause-bytes : goal.returns-clause-bytes
returns-clause-bytes c =
    c.into_bytes.ensures
    ∙ ap (λ (d : Draft). d.bytes) (c.in_ok-ulong.ensures.ok
    ∙ ap (with_field (ulong 0)) (c.in_ok-put_text.ensures.ok
    ∙ (ap (λ (name : List ℕ). with_field (text name) c.put_octets.new.self) c.as_slice-2.ensures
    ∙ ap (with_field (text c.args.ask.now.operation)) (c.in_ok-put_octets.ensures.ok
    ∙ (ap (λ (key : List ℕ). with_field (octets key) c.ushort.new.self) c.as_slice.ensures
    ∙ ap (with_field (octets c.args.ask.now.key)) (c.in_ok-ushort.ensures.ok
    ∙ ap (with_field (ushort 0)) c.in_ok-writer.ensures.fields))))))

pub returns-clause-fits : goal.returns-clause-fits
returns-clause-fits c = record {
  id = c.in_ok-writer.ensures.id;
  flags = c.in_ok-writer.ensures.flags;
  key = omega (arith, c.in_ok-put_octets.ensures.fits, ap (λ (l : List ℕ). length l) c.as_slice.ensures);
  operation = omega (arith, c.in_ok-put_text.ensures.fits, ap (λ (l : List ℕ). length l) c.as_slice-2.ensures);
}
