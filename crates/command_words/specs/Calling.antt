-- The words behind `call`: a reference, an operation and perhaps its argument, and options in any place.
use Rattle.std.specs.Prelude.{ℕ, if◌then◌else◌, List, [], ◌∷◌, Option, Some, None, option_map, codes, String, string_bytes, map}
use Rattle.std.specs.Str.{bytes_eq}
use Rattle.std.specs.declared.alloc.Global.{Global}
use Rattle.command_words.specs.Numbers.{number_in}
use Rattle.command_words.specs.Settings.{◌>>=◌, Setting, among, perhaps, settings_of, values_of}
use Rattle.command_words.specs.declared.calling.CallWords.{CallWords}
use Rattle.command_words.specs.declared.optioned.Optioned.TheVariants as optioned
use Rattle.command_words.specs.declared.result_kind.ResultKind.{ResultKind}
use Rattle.command_words.specs.declared.result_kind.ResultKind.TheVariants.{Nothing, Long, Ulong, Flag, Octets}

-- the call of an object that words ask for
pub record Call : Type 0 where
  pub reference : List ℕ  -- the text of the object's reference
  pub operation : List ℕ
  pub argument : Option (List ℕ)  -- the word of the argument, if there is one
  pub kind : ResultKind  -- as what the result is read
  pub hops : ℕ  -- how many forwards are followed at most

abbrev pub kind_in : List ℕ → Option ResultKind
kind_in word =
    if bytes_eq word (codes "v") then Some Nothing else (
    if bytes_eq word (codes "i") then Some Long else (
    if bytes_eq word (codes "u") then Some Ulong else (
    if bytes_eq word (codes "b") then Some Flag else (
    if bytes_eq word (codes "o") then Some Octets else None))))

-- nothing is read of the result where the words say nothing of it
abbrev pub kind_of : Option (List ℕ) → Option ResultKind
kind_of None = Some Nothing
kind_of (Some word) = kind_in word

-- 16 forwards are followed at most, and 8 where the words say nothing of it
abbrev pub hops_of : Option (List ℕ) → Option ℕ
hops_of None = Some 8
hops_of (Some word) = number_in 0 16 word

abbrev pub call_with : List ℕ → List ℕ → Option (List ℕ) → ResultKind → ℕ → Call
call_with reference operation argument kind hops = record {
  reference = reference;
  operation = operation;
  argument = argument;
  kind = kind;
  hops = hops;
}

-- two arguments or three
abbrev pub asked_by : List (List ℕ) → ResultKind → ℕ → Option Call
asked_by (reference ∷ operation ∷ []) kind hops = Some (call_with reference operation None kind hops)
asked_by (reference ∷ operation ∷ argument ∷ []) kind hops = Some (call_with reference operation (Some argument) kind hops)
asked_by other kind hops = None

-- each option at most once
abbrev pub call_of : List Setting → Option Call
call_of settings =
    (perhaps (codes "--as") settings >>= kind_of) >>= (λ kind.
    (perhaps (codes "--hops") settings >>= hops_of) >>= (λ hops.
    asked_by (values_of [] settings) kind hops))

-- the call that all the words of a command line ask for
abbrev pub call_among : List (List ℕ) → Option Call
call_among [] = None
call_among (w ∷ ws) = if bytes_eq w (codes "call") then settings_of optioned.Call among ws >>= call_of else None

abbrev pub call_in : List (String Global) → Option Call
call_in words = call_among (map string_bytes words)

-- the same, as the program has it
abbrev pub seen_call : CallWords → Call
seen_call c = call_with c.reference.now c.operation.now (option_map (λ a. a.now) c.argument) c.kind c.hops
