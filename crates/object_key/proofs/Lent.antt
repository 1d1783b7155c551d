-- The parts of a key lie where its spelling has them.
use Rattle.std.proofs.Common.{◌≡◌, ℕ, ◌+◌, ◌<◌, List, [], ◌∷◌, ◌++◌, length, take, drop, get_or, refl, sym, ◌∙◌, ap, append_assoc, length-append}
use Rattle.std.proofs.lemmas.List.{drop_at, take_at, drop_more, take-append-drop}
use Rattle.std.proofs.lemmas.Grind.{flat_map-append}
use Rattle.std.specs.Int.{w16, to_be_bytes}
use Rattle.std.specs.Prelude.{Option, Some, None, IfSome}
use Rattle.poa_base.specs.declared.Key.{Key}
use Rattle.object_key.specs.Spelling.{key_mark, lifespan_bytes, name_bytes, path_bytes, oid_bytes, key_spelling, IsKey}
use Rattle.object_key.specs.Reading.{names_bytes}
use Rattle.object_key.specs.Lent.{names_at, name_at, oid_at, LendsKey}

-- behind a front comes a part
lies : (bytes front part back : List ℕ) (place : ℕ) → bytes ≡ front ++ (part ++ back) → length front ≡ place → take (length part) (drop place bytes) ≡ part
lies bytes front part back place split at =
    ap (λ b. take (length part) (drop place b)) split ∙ ap (λ b. take (length part) b) (drop_at front (part ++ back) place at)
    ∙ take_at part back (length part) refl

-- the bytes of names are those before one, its own and those behind it
names_bytes-at : (names : List (List ℕ)) (i : ℕ) → i < length names
    → names_bytes names ≡ names_bytes (take i names) ++ (name_bytes (get_or names i []) ++ names_bytes (drop (i + 1) names))
names_bytes-at names i below =
    ap names_bytes (sym (take-append-drop i names)) ∙ flat_map-append name_bytes (take i names) (drop i names)
    ∙ ap (λ ns. names_bytes (take i names) ++ names_bytes ns) (drop_more names i [] below)

-- what stands before the names
abbrev before : Key → List ℕ
before key = (key_mark ++ lifespan_bytes key.stamp key.tag) ++ (length key.path ∷ [])

spelled_so : (key : Key) → key_spelling key ≡ before key ++ (names_bytes key.path ++ oid_bytes key.oid)
spelled_so key =
    sym (append_assoc key_mark (lifespan_bytes key.stamp key.tag) (path_bytes key.path ++ oid_bytes key.oid))
    ∙ sym (append_assoc (key_mark ++ lifespan_bytes key.stamp key.tag) (length key.path ∷ []) (names_bytes key.path ++ oid_bytes key.oid))

before_names : (key : Key) → length (before key) ≡ names_at key
before_names key = length-append (key_mark ++ lifespan_bytes key.stamp key.tag) (length key.path ∷ []) ∙ ap (λ n. n + 1) (length-append key_mark (lifespan_bytes key.stamp key.tag))

name_lies : (key : Key) (bytes : List ℕ) → key_spelling key ≡ bytes → (i : ℕ) → i < length key.path
    → take (length (get_or key.path i [])) (drop (name_at key i) bytes) ≡ get_or key.path i []
name_lies key bytes spelled i below =
    let name : List ℕ = get_or key.path i [] in
    let first : List ℕ = names_bytes (take i key.path) in
    let more : List ℕ = names_bytes (drop (i + 1) key.path) in
    let front : List ℕ = (before key ++ first) ++ (length name ∷ []) in
    let split : bytes ≡ front ++ (name ++ (more ++ oid_bytes key.oid)) =
    sym spelled ∙ spelled_so key ∙ ap (λ b. before key ++ (b ++ oid_bytes key.oid)) (names_bytes-at key.path i below)
    ∙ ap (λ b. before key ++ b)
    (append_assoc first (name_bytes name ++ more) (oid_bytes key.oid) ∙ ap (λ b. first ++ b) (append_assoc (name_bytes name) more (oid_bytes key.oid)))
    ∙ sym (append_assoc (before key) first (name_bytes name ++ (more ++ oid_bytes key.oid)))
    ∙ sym (append_assoc (before key ++ first) (length name ∷ []) (name ++ (more ++ oid_bytes key.oid))) in
    let at : length front ≡ name_at key i =
    length-append (before key ++ first) (length name ∷ [])
    ∙ ap (λ n. n + 1) (length-append (before key) first ∙ ap (λ n. n + length first) (before_names key)) in
    lies bytes front name (more ++ oid_bytes key.oid) (name_at key i) split at

oid_lies : (key : Key) (bytes : List ℕ) → key_spelling key ≡ bytes → drop (oid_at key) bytes ≡ key.oid
oid_lies key bytes spelled =
    let names : List ℕ = names_bytes key.path in
    let len : List ℕ = to_be_bytes w16 (length key.oid) in
    let split : bytes ≡ ((before key ++ names) ++ len) ++ key.oid =
    sym spelled ∙ spelled_so key ∙ sym (append_assoc (before key) names (oid_bytes key.oid)) ∙ sym (append_assoc (before key ++ names) len key.oid) in
    let at : length ((before key ++ names) ++ len) ≡ oid_at key =
    length-append (before key ++ names) len ∙ ap (λ n. n + 2) (length-append (before key) names ∙ ap (λ n. n + length names) (before_names key)) in
    ap (λ b. drop (oid_at key) b) split ∙ drop_at ((before key ++ names) ++ len) key.oid (oid_at key) at

pub key_lends : (key : Key) (bytes : List ℕ) → key_spelling key ≡ bytes → LendsKey bytes key
key_lends key bytes spelled = record { name = name_lies key bytes spelled; oid = oid_lies key bytes spelled }
