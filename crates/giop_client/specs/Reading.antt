-- What the parts of a reading say: the words of the contracts inside the crate.
use Rattle.poa_base.specs.declared.Body.{Body}
use Rattle.giop_client.specs.declared.body_view.BodyView.{BodyView}

-- the body that is lent
abbrev pub seen_body : BodyView → Body
seen_body view = record { bytes = view.bytes.now; little = view.little; base = view.base }
