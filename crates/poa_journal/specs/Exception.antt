-- System exceptions in a journal: the standard name, and the minor in eight hexadecimal digits.
use Rattle.std.specs.Prelude.{◌≡◌, ℕ, List, [], ◌∷◌, Option, None}
use Rattle.poa_base.specs.Minors.{completion_of}
use Rattle.poa_base.specs.declared.ExcName.{ExcName}
use Rattle.poa_base.specs.declared.SysExc.{SysExc}
use Rattle.std.specs.Option.{option_map}
use Rattle.text_words.specs.Chain.{◌>>=◌}
use Rattle.text_words.specs.Keyword.{named_in}
use Rattle.text_words.specs.Hexadecimal.{minor_of}
use Rattle.text_words.specs.Token.{Token, keyword, minor}
use Rattle.poa_journal.specs.ValueWords.{exception_word, exceptions}
use Rattle.text_words.specs.Parts.{alone}

abbrev pub exception_tokens : SysExc → List Token
exception_tokens e = keyword (exception_word e.name) ∷ minor e.minor ∷ []

-- an exception whose text tells all of it
abbrev pub IsTold : SysExc → Type 0
IsTold e = e.done ≡ completion_of e.minor

abbrev pub exception_name_of : List ℕ → Option ExcName
exception_name_of w = option_map (λ raised. raised.name) (named_in (λ raised. exception_word raised.name) exceptions w)

abbrev pub exception_of : List (List ℕ) → Option SysExc
exception_of (w ∷ m ∷ ws) = do
  name ← exception_name_of w
  n ← minor_of m
  alone (record { name = name; minor = n; done = completion_of n }) ws
exception_of ws = None
