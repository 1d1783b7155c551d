-- The rows of a store, a line each: `store PATH OID STATE`.
use Rattle.std.specs.Prelude.{ℕ, List, [], ◌∷◌, codes, map, Option, Some, None, if◌then◌else◌}
use Rattle.std.specs.Str.{bytes_eq}
use Rattle.poa_base.specs.declared.State.{State}
use Rattle.poa_base.specs.declared.State.TheVariants.{Register, Book, Echo, Fault}
use Rattle.poa_base.specs.Store.{Place}
use Rattle.text_words.specs.Chain.{◌>>=◌}
use Rattle.text_words.specs.Keyword.{named_in}
use Rattle.text_words.specs.Number.{signed_of}
use Rattle.text_words.specs.Path.{path_of}
use Rattle.text_words.specs.Identity.{printed_id_of}
use Rattle.text_words.specs.Hexadecimal.{prefixed_of}
use Rattle.text_words.specs.Token.{Token, keyword, signed, path, identity, octets}
use Rattle.poa_journal.specs.declared.fixed.Holding.{Holding}
use Rattle.poa_journal.specs.declared.fixed.Holding.TheVariants as holding
use Rattle.poa_journal.specs.declared.value_words.Mark.TheVariants as mark
use Rattle.poa_journal.specs.ValueWords.{mark_word}
use Rattle.poa_journal.specs.Fixed.{holding_word, holdings}
use Rattle.text_words.specs.Parts.{alone, only}

-- an entry of a log
abbrev pub page_token : List ℕ → Token
page_token bytes = octets (codes "x") bytes

abbrev pub state_tokens : State → List Token
state_tokens (Register n) = keyword (holding_word holding.Register) ∷ signed n ∷ []
state_tokens (Book pages) = keyword (holding_word holding.Log) ∷ map page_token pages
state_tokens Echo = keyword (holding_word holding.Echo) ∷ []
state_tokens Fault = keyword (holding_word holding.Fault) ∷ []

abbrev pub row_tokens : Place × State → List Token
row_tokens r = keyword (mark_word mark.Store) ∷ path r.0.0 ∷ identity r.0.1 ∷ state_tokens r.1

abbrev pub pages_of : List (List ℕ) → Option (List (List ℕ))
pages_of [] = Some []
pages_of (w ∷ ws) = do
  page ← prefixed_of (codes "x") w
  pages ← pages_of ws
  Some (page ∷ pages)

abbrev pub state_behind : Holding → List (List ℕ) → Option State
state_behind holding.Register ws = do
  n ← only signed_of ws
  Some (Register n)
state_behind holding.Log ws = do
  pages ← pages_of ws
  Some (Book pages)
state_behind holding.Echo ws = alone Echo ws
state_behind holding.Fault ws = alone Fault ws

abbrev pub holding_of : List ℕ → Option Holding
holding_of w = named_in holding_word holdings w

-- the id and the state behind the path
abbrev pub slot_behind : List (List ℕ) → Option (List ℕ × State)
slot_behind (i ∷ k ∷ ws) = do
  id ← printed_id_of i
  holding ← holding_of k
  state ← state_behind holding ws
  Some (id, state)
slot_behind ws = None

abbrev pub row_behind : List (List ℕ) → Option (Place × State)
row_behind [] = None
row_behind (p ∷ ws) = do
  names ← path_of p
  slot ← slot_behind ws
  Some ((names, slot.0), slot.1)

-- the words behind `store`, where a line is that of a row
abbrev pub row_words_of : List (List ℕ) → Option (List (List ℕ))
row_words_of [] = None
row_words_of (w ∷ ws) = if bytes_eq (mark_word mark.Store) w then Some ws else None
