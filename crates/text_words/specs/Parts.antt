-- The last words of a line.
use Rattle.std.specs.Prelude.{ℕ, ◌^◌, List, [], ◌∷◌, Option, Some, None}
use Rattle.poa_base.specs.declared.Endpoint.{Endpoint}
use Rattle.text_words.specs.Chain.{◌>>=◌}
use Rattle.text_words.specs.Name.{name_of, host_of}
use Rattle.text_words.specs.Number.{number_of, port_of}
use Rattle.text_words.specs.Token.{Token, host, port}

-- the value where nothing more stands
abbrev pub alone : {X : Type 0} → X → List (List ℕ) → Option X
alone x [] = Some x
alone x (w ∷ ws) = None

-- one word, by its reader
abbrev pub only : {X : Type 0} → (List ℕ → Option X) → List (List ℕ) → Option X
only of [] = None
only of (w ∷ ws) = do
  x ← of w
  alone x ws

abbrev pub last_number : List (List ℕ) → Option ℕ
last_number ws = only (number_of (2 ^ 32)) ws

abbrev pub last_name : List (List ℕ) → Option (List ℕ)
last_name ws = only name_of ws

abbrev pub endpoint_tokens : Endpoint → List Token
endpoint_tokens endpoint = host endpoint.host ∷ port endpoint.port ∷ []

-- a host and a port
abbrev pub last_endpoint : List (List ℕ) → Option Endpoint
last_endpoint (h ∷ p ∷ ws) = do
  name ← host_of h
  n ← port_of p
  alone (record { host = name; port = n }) ws
last_endpoint ws = None
