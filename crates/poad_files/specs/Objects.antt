-- What `iors` prints of a configuration: the references of its objects.
use Rattle.std.specs.Prelude.{ℕ, suc, List, [], ◌∷◌, ◌++◌, codes, Option, Some, None, slice_get}
use Rattle.std.specs.Int.{w32, to_be_bytes}
use Rattle.hex.specs.Hex.{encode_lower}
use Rattle.poa_base.specs.declared.Config.{Config}
use Rattle.poa_base.specs.declared.Key.{Key}
use Rattle.poa_base.specs.declared.ObjectConf.{ObjectConf}
use Rattle.poa_base.specs.declared.ServantConf.{ServantConf}
use Rattle.servant_kinds.specs.Object.{type_id_of}
use Rattle.text_words.specs.Path.{path_text}
use Rattle.history_standing.specs.Reference.{reference_text}
use Rattle.poad_files.specs.Numbers.{Numbers, numbers_of}
use Rattle.poad_files.specs.Tags.{tag_at}

-- a system-made id: the run and the ordinal (CORBA 3.3 Part 1, chapter 15, "SYSTEM_ID")
abbrev pub id_of : ℕ → ℕ → Option (List ℕ) → List ℕ
id_of run ordinal (Some id) = id
id_of run ordinal None = to_be_bytes w32 run ++ to_be_bytes w32 ordinal

-- so many ids are made with that of one more object
abbrev pub made_with : Option (List ℕ) → ℕ → ℕ
made_with (Some id) made = made
made_with None made = suc made

-- the repository id of a configured servant's interface
abbrev pub type_in : Option ServantConf → List ℕ
type_in (Some s) = type_id_of s.state
type_in None = []

-- the tag that an entry gives, if there is one
abbrev pub given_tag : Option ℕ → ℕ
given_tag None = 0
given_tag (Some tag) = tag

-- the key is transient where a number is given: the run and that number (CORBA 3.3 Part 1, chapter 15, "TRANSIENT"); else
-- it has the tag of its adapter's entry
abbrev pub key_of : ℕ → Option ℕ → Option ℕ → List (List ℕ) → List ℕ → Key
key_of run (Some n) tag path oid = record { stamp = Some (record { run = run; number = n }); path = path; oid = oid; tag = 0 }
key_of run None tag path oid = record { stamp = None; path = path; oid = oid; tag = given_tag tag }

abbrev pub reference_in : Config → Numbers → List (List ℕ) → List ℕ → ℕ → List ℕ
reference_in c numbers path oid servant =
    reference_text (record { host = c.host; port = c.port }) (type_in (slice_get c.servants servant)) (key_of c.run (numbers path) (tag_at c.adapters path) path oid)

-- the path, the id and the reference
abbrev pub line : List (List ℕ) → List ℕ → List ℕ → List ℕ
line path oid reference = path_text path ++ (codes " h:" ++ (encode_lower oid ++ (codes " " ++ (reference ++ codes "\n"))))

abbrev pub object_line : Config → Numbers → List (List ℕ) → List ℕ → ℕ → List ℕ
object_line c numbers path oid servant = line path oid (reference_in c numbers path oid servant)

-- the next id that is made has the next ordinal, from 1 on
abbrev pub lines : Config → Numbers → ℕ → List ObjectConf → List ℕ
lines c numbers made [] = []
lines c numbers made (o ∷ os) =
    object_line c numbers o.adapter (id_of c.run (suc made) o.oid) o.servant ++ lines c numbers (made_with o.oid made) os

abbrev pub references_text : Config → List ℕ
references_text c = lines c (numbers_of c.adapters) 0 c.objects
