-- A message that is written: CORBA 3.3 Part 2, 9.4.1.
use Rattle.std.specs.Prelude.{ℕ, List, [], ◌∷◌, ◌++◌, Bool, if◌then◌else◌, length, codes}
use Rattle.std.specs.Int.{w32}
use Rattle.cdr_core.specs.Field.{Field}
use Rattle.cdr_core.specs.Spelling.{number_bytes}
use Rattle.cdr_core.specs.Draft.{Draft, empty_draft}
use Rattle.cdr_core.specs.Fields.{with_fields}
use Rattle.giop_answer.specs.declared.kind.TheConstants.{HEADER}

-- a header of this minor version, type and byte order, in front of these bytes
abbrev pub framed : ℕ → ℕ → Bool → List ℕ → List ℕ
framed minor kind little content =
    codes "GIOP" ++ 1 ∷ minor ∷ (if little then 1 else 0) ∷ kind ∷ [] ++ number_bytes little w32 (length content) ++ content

-- fields written one behind the other, behind the header
abbrev pub fields_draft : Bool → List Field → Draft
fields_draft little fields = with_fields fields (empty_draft little HEADER)
