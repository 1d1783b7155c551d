-- The text of an object's reference: CORBA 3.3 Part 2, 7.6.9 and 9.7.2.
use Rattle.std.specs.Prelude.{ℕ, List, [], ◌∷◌}
use Rattle.poa_base.specs.declared.Endpoint.{Endpoint}
use Rattle.poa_base.specs.declared.Ior.{Ior}
use Rattle.poa_base.specs.declared.Key.{Key}
use Rattle.object_key.specs.Spelling.{key_spelling}
use Rattle.ior_text.specs.Profile.{profile_of}
use Rattle.ior_text.specs.Written.{ior_text}

-- one profile: where the server listens, and the object's key
abbrev pub reference_of : Endpoint → List ℕ → Key → Ior
reference_of endpoint type_id key = record { type_id = type_id; profiles = profile_of endpoint (key_spelling key) ∷ [] }

abbrev pub reference_text : Endpoint → List ℕ → Key → List ℕ
reference_text endpoint type_id key = ior_text (reference_of endpoint type_id key)
