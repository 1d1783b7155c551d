-- What the bytes of a key say of its parts.
use Rattle.std.proofs.Common.{◌≡◌, ◌≢◌, ℕ, ◌<◌, ◌^◌, List, [], ◌++◌, length, arith, append-nil, refl, sym, ◌∙◌, ap, Option, Some, None}
use Rattle.std.specs.Prelude.{IfSome, IfNone}
use Rattle.std.proofs.lemmas.List.{append_cancel_left}
use Rattle.poa_base.specs.declared.Key.{Key}
use Rattle.poa_base.specs.declared.Stamp.{Stamp}
use Rattle.poa_base.specs.Limits.{IsOid}
use Rattle.object_key.specs.Spelling.{key_mark, lifespan_bytes, path_bytes, oid_bytes, key_spelling, IsStamp, ArePathNames, IsKey}
use Rattle.object_key.specs.Lifespan.{stamp_in, tag_in, spelled_lifespan, IsLifespan}
use Rattle.object_key.specs.declared.key_lifespan.KeyLifespan.{KeyLifespan}
use Rattle.object_key.specs.declared.key_lifespan.KeyLifespan.TheVariants.{Transient, Persistent}
use Rattle.object_key.specs.Reading.{KeyReads, ReadsNone}
use Rattle.object_key.proofs.OneReading.{one_lifespan, one_path, one_oid}

abbrev key_with : Option Stamp → List (List ℕ) → List ℕ → ℕ → Key
key_with stamp path oid tag = record { stamp = stamp; path = path; oid = oid; tag = tag }

-- a key is its four parts
pub same_key : (a b : Key) → a.stamp ≡ b.stamp → a.path ≡ b.path → a.oid ≡ b.oid → a.tag ≡ b.tag → a ≡ b
same_key a b stamp path oid tag =
    ap (λ s. key_with s a.path a.oid a.tag) stamp ∙ ap (λ p. key_with b.stamp p a.oid a.tag) path ∙ ap (λ o. key_with b.stamp b.path o a.tag) oid
    ∙ ap (λ t. key_with b.stamp b.path b.oid t) tag

pub one_key : (a b : Key) → IsKey a → IsKey b → key_spelling a ≡ key_spelling b → a ≡ b
one_key a b fits_a fits_b e =
    let lifespan =
    one_lifespan a.stamp b.stamp a.tag b.tag (path_bytes a.path ++ oid_bytes a.oid) (path_bytes b.path ++ oid_bytes b.oid) fits_a.stamp fits_b.stamp
    fits_a.tag fits_b.tag fits_a.tagged fits_b.tagged (append_cancel_left key_mark _ _ e) in
    let path = one_path a.path b.path (oid_bytes a.oid) (oid_bytes b.oid) lifespan.2 in
    let short_a : length a.oid < 2 ^ 16 = omega (arith, fits_a.oid) in
    let short_b : length b.oid < 2 ^ 16 = omega (arith, fits_b.oid) in
    let oid = one_oid a.oid b.oid [] [] short_a short_b (append-nil _ ∙ path.1 ∙ sym (append-nil _)) in
    same_key a b lifespan.0 path.0 oid.0 lifespan.1

-- a key's lifespan stands at the front of what is behind its mark
no_front : (stamp : Option Stamp) (tag : ℕ) (rest text : List ℕ) → IsStamp stamp → tag < 2 ^ 16 → ReadsNone spelled_lifespan IsLifespan text
    → lifespan_bytes stamp tag ++ rest ≡ text → ⊥
no_front None tag rest text fits small none is = none (Persistent tag) rest (record { begins = sym is; fits = (tt, small, tt) })
no_front (Some stamp) tag rest text fits small none is =
    none (Transient stamp) rest (record { begins = sym is; fits = (fits, omega arith, refl) })

pub no_lifespan : (bytes unmarked : List ℕ) → bytes ≡ key_mark ++ unmarked → ReadsNone spelled_lifespan IsLifespan unmarked → (key : Key) → IsKey key
    → key_spelling key ≡ bytes → ⊥
no_lifespan bytes unmarked mark none key fits spelled =
    no_front key.stamp key.tag (path_bytes key.path ++ oid_bytes key.oid) unmarked fits.stamp fits.tag none
    (append_cancel_left key_mark _ _ (spelled ∙ mark))

-- what is left of a key behind its mark, lifespan and path is its object id
pub oid_is_left : (bytes unmarked behind left : List ℕ) (lifespan : KeyLifespan) (path : List (List ℕ)) → bytes ≡ key_mark ++ unmarked
    → KeyReads spelled_lifespan IsLifespan lifespan unmarked behind → KeyReads path_bytes ArePathNames path behind left → (key : Key) → IsKey key
    → key_spelling key ≡ bytes → KeyReads oid_bytes IsOid key.oid left []
oid_is_left bytes unmarked behind left lifespan path mark life_read path_read key fits spelled =
    let marked : key_mark ++ (lifespan_bytes key.stamp key.tag ++ (path_bytes key.path ++ oid_bytes key.oid)) ≡ key_mark ++ unmarked = spelled ∙ mark in
    let behind_mark : lifespan_bytes key.stamp key.tag ++ (path_bytes key.path ++ oid_bytes key.oid) ≡ unmarked = append_cancel_left key_mark _ _ marked in
    let behind_lifespan =
    one_lifespan key.stamp (stamp_in lifespan) key.tag (tag_in lifespan) (path_bytes key.path ++ oid_bytes key.oid) behind fits.stamp life_read.fits.0
    fits.tag life_read.fits.1 fits.tagged life_read.fits.2 (behind_mark ∙ life_read.begins) in
    let behind_path = one_path key.path path (oid_bytes key.oid) left (behind_lifespan.2 ∙ path_read.begins) in
    record { begins = sym behind_path.1 ∙ sym (append-nil (oid_bytes key.oid)); fits = fits.oid }

-- behind a key's object id nothing is left
pub nothing_left : (oid found text left : List ℕ) → KeyReads oid_bytes IsOid oid text [] → KeyReads oid_bytes IsOid found text left → left ≡ []
nothing_left oid found text left whole read =
    let short_whole : length oid < 2 ^ 16 = omega (arith, whole.fits) in
    let short_read : length found < 2 ^ 16 = omega (arith, read.fits) in
    sym (one_oid oid found [] left short_whole short_read (sym whole.begins ∙ read.begins)).1

-- what is seen where a key spells the bytes is that key
pub seen_back : (seen : Key) (bytes : List ℕ) → IsKey seen × (key_spelling seen ≡ bytes) → (key : Key) → IsKey key → key_spelling key ≡ bytes → seen ≡ key
seen_back seen bytes spelled key fits is = one_key seen key spelled.0 fits (spelled.1 ∙ sym is)
