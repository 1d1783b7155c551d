-- What a view of an address sees.
use Rattle.poa_base.specs.declared.Endpoint.{Endpoint}
use Rattle.ior_text.specs.declared.address.Address.{Address}
use Rattle.ior_text.specs.declared.endpoint_view.EndpointView.{EndpointView}
use Rattle.ior_text.specs.declared.address_view.AddressView.{AddressView}

abbrev pub seen_endpoint : EndpointView → Endpoint
seen_endpoint view = record { host = view.host.now; port = view.port }

abbrev pub seen_address : AddressView → Address
seen_address view = record { minor = view.minor; endpoint = seen_endpoint view.endpoint }
