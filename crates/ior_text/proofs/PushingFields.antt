-- One more profile behind the others.
use Rattle.std.proofs.Common.{List, [], ◌∷◌, ◌++◌, refl, subst}
use Rattle.cdr_core.specs.Cursor.{Cursor}
use Rattle.poa_base.specs.declared.Profile.{Profile}
use Rattle.ior_text.specs.Tagged.{ReadsProfile, ReadsProfiles}

pub reads_push : (ps : List Profile) (p : Profile) (c behind after : Cursor) → ReadsProfiles ps c behind → ReadsProfile p behind after
    → ReadsProfiles (ps ++ p ∷ []) c after
reads_push [] p c behind after read one = (after, subst (λ (x : Cursor). ReadsProfile p x after) read one, refl)
reads_push (q ∷ qs) p c behind after read one = (read.0, read.1, reads_push qs p read.0 behind after read.2 one)
