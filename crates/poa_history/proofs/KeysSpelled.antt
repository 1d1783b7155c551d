-- The key that bytes spell is found, and is the key of that spelling.
use Rattle.std.specs.Prelude.{◌≡◌, ℕ, ◌<◌, ◌^◌, true, ◌&&◌, ◌==◌, nat_lt, nat_le, if◌then◌else◌, List, [], ◌∷◌, ◌++◌, take, drop, length, All, Option, Some, None, IfSome, option_map, option_and_then, refl}
use Rattle.std.specs.List.{list_all, flat_map}
use Rattle.std.specs.Int.{w16, w32, to_be_bytes, from_be_bytes}
use Rattle.std.proofs.Common.{sym, subst, ap, ap₂, ◌∙◌, arith, append_assoc}
use Rattle.std.proofs.lemmas.Bool.{cond_both, and_parts, eqb-true, lt-ltb, ltb-true, le-leb, leb-true}
use Rattle.std.proofs.lemmas.List.Elements.{All-nil, All-cons, All-head, All-tail}
use Rattle.std.proofs.lemmas.Nat.{from_be_bytes-to_be_bytes_2, from_be_bytes-to_be_bytes_4}
use Rattle.poa_base.specs.declared.Key.{Key}
use Rattle.poa_base.specs.declared.Stamp.{Stamp}
use Rattle.poa_base.specs.Limits.{IsName}
use Rattle.object_key.specs.Spelling.{tag_bytes, lifespan_bytes, name_bytes, path_bytes, oid_bytes, key_spelling, IsStamp, TagsPersistent, IsKey}
use Rattle.history_standing.specs.Paths.{same_bytes}
use Rattle.history_standing.specs.Keys.{names_in, key_behind, stamp_in, key_tried, is_within, if_spelled, key_of}
use Rattle.history_standing.proofs.Leading.{same_self, bytes_same}

-- the name in front is taken, and what is behind it is left
taken : (x y : List ℕ) → take (length x) (x ++ y) ≡ x
taken [] y = refl
taken (a ∷ x) y = ap (λ z. a ∷ z) (taken x y)

left : (x y : List ℕ) → drop (length x) (x ++ y) ≡ y
left [] y = refl
left (a ∷ x) y = left x y

names_back : (names : List (List ℕ)) (rest : List ℕ) → names_in (length names) (flat_map name_bytes names ++ rest) ≡ Some (names, rest)
names_back [] rest = refl
names_back (x ∷ names) rest =
    let behind : (x ++ flat_map name_bytes names) ++ rest ≡ x ++ (flat_map name_bytes names ++ rest) = append_assoc x (flat_map name_bytes names) rest in
    ap (λ r. option_map (λ more. (take (length x) r ∷ more.0, more.1)) (names_in (length names) (drop (length x) r))) behind
    ∙ (ap₂ (λ t d. option_map (λ more. (t ∷ more.0, more.1)) (names_in (length names) d)) (taken x (flat_map name_bytes names ++ rest))
    (left x (flat_map name_bytes names ++ rest))
    ∙ ap (λ o. option_map (λ more. (x ∷ more.0, more.1)) o) (names_back names rest))

behind_back : (stamp : Option Stamp) (tag : ℕ) (path : List (List ℕ)) (oid : List ℕ)
    → key_behind stamp tag (path_bytes path ++ oid_bytes oid) ≡ Some (record { stamp = stamp; path = path; oid = oid; tag = tag })
behind_back stamp tag path oid =
    ap (λ o. option_map (λ found. record { stamp = stamp; path = found.0; oid = drop 2 found.1; tag = tag }) o) (names_back path (oid_bytes oid))

stamp_back : (run number : ℕ) → run < 2 ^ 32 → number < 2 ^ 32 → (rest : List ℕ)
    → stamp_in ((to_be_bytes w32 run ++ to_be_bytes w32 number) ++ rest) ≡ record { run = run; number = number }
stamp_back run number small small' rest =
    ap₂ (λ a b. record { run = a; number = b }) (from_be_bytes-to_be_bytes_4 run small) (from_be_bytes-to_be_bytes_4 number small')

tag_back : (tag : ℕ) → tag < 2 ^ 16 → (path : List (List ℕ)) (oid : List ℕ)
    → key_tried (tag_bytes tag ++ (path_bytes path ++ oid_bytes oid)) ≡ Some (record { stamp = None; path = path; oid = oid; tag = tag })
tag_back tag small path oid =
    cond_both (tag == 0) (1 ∷ 1 ∷ []) (2 ∷ 1 ∷ to_be_bytes w16 tag)
    (λ form. key_tried (form ++ (path_bytes path ++ oid_bytes oid)) ≡ Some (record { stamp = None; path = path; oid = oid; tag = tag }))
    (λ none. behind_back None 0 path oid ∙ ap (λ t. Some (record { stamp = None; path = path; oid = oid; tag = t })) (sym (eqb-true tag 0 none)))
    (λ _. ap (λ n. key_behind None n (path_bytes path ++ oid_bytes oid)) (from_be_bytes-to_be_bytes_2 tag small) ∙ behind_back None tag path oid)

tried_back : (stamp : Option Stamp) (tag : ℕ) → IsStamp stamp → tag < 2 ^ 16 → IfSome stamp (λ _. tag ≡ 0) → (path : List (List ℕ)) (oid : List ℕ)
    → key_tried (lifespan_bytes stamp tag ++ (path_bytes path ++ oid_bytes oid)) ≡ Some (record { stamp = stamp; path = path; oid = oid; tag = tag })
tried_back None tag fits small untagged path oid = tag_back tag small path oid
tried_back (Some st) tag fits small untagged path oid =
    ap (λ x. key_behind (Some x) 0 (path_bytes path ++ oid_bytes oid)) (stamp_back st.run st.number fits.0 fits.1 (path_bytes path ++ oid_bytes oid))
    ∙ (behind_back (Some st) 0 path oid ∙ ap (λ t. Some (record { stamp = Some st; path = path; oid = oid; tag = t })) (sym untagged))

names_within : (path : List (List ℕ)) → All IsName path → list_all (λ name. nat_lt 0 (length name) && nat_le (length name) 64) path ≡ true
names_within [] all = refl
names_within (x ∷ path) all =
    let is = All-head IsName x path all in
    ap₂ (λ a b. a && b) (ap₂ (λ a b. a && b) (lt-ltb 0 (length x) (let e = is.0 in omega arith)) (le-leb (length x) 64 is.1))
    (names_within path (All-tail IsName x path all))

within : (key : Key) → IsKey key → is_within key ≡ true
within key fits =
    ap₂ (λ a b. a && b) (ap₂ (λ a b. a && b) (names_within key.path fits.path.1) (le-leb (length key.path) 16 fits.path.0))
    (le-leb (length key.oid) 256 fits.oid)

pub spelling_found : (key : Key) → IsKey key → key_of (key_spelling key) ≡ Some key
spelling_found key fits =
    ap (λ o. option_and_then (if_spelled (key_spelling key)) o) (tried_back key.stamp key.tag fits.stamp fits.tag fits.tagged key.path key.oid)
    ∙ ap₂ (λ a b. if a && b then Some key else None) (within key fits) (same_self (key_spelling key))

names_of : (path : List (List ℕ)) → list_all (λ name. nat_lt 0 (length name) && nat_le (length name) 64) path ≡ true → All IsName path
names_of [] all = All-nil IsName
names_of (x ∷ path) all =
    let parts = and_parts (nat_lt 0 (length x) && nat_le (length x) 64) (list_all (λ name. nat_lt 0 (length name) && nat_le (length name) 64) path) all in
    let here = and_parts (nat_lt 0 (length x)) (nat_le (length x) 64) parts.0 in
    All-cons IsName x path ((let less : 0 < length x = ltb-true _ _ here.0 in omega arith), leb-true _ _ here.1) (names_of path parts.1)

-- four octets that were written are those of a number of 32 bits
small_number : (n : ℕ) → from_be_bytes w32 (to_be_bytes w32 n) < 2 ^ 32
small_number n = omega arith

small_tag : (n : ℕ) → from_be_bytes w16 (to_be_bytes w16 n) < 2 ^ 16
small_tag n = omega arith

behind_is : (stamp : Option Stamp) (tag : ℕ) (rest : List ℕ) (key : Key) → key_behind stamp tag rest ≡ Some key
    → (key.stamp ≡ stamp) × (key.tag ≡ tag)
behind_is stamp tag [] key none = absurd (let e : None ≡ Some key = none in cc)
behind_is stamp tag (count ∷ rest) key is =
    elim (names_in count rest) as (λ o. option_map (λ found. record { stamp = stamp; path = found.0; oid = drop 2 found.1; tag = tag }) o ≡ Some key
    → (key.stamp ≡ stamp) × (key.tag ≡ tag)) [
      | None ↦ λ none. absurd (let e : None ≡ Some key = none in cc)
      | Some found ↦ λ some_. (let same : record { stamp = stamp; path = found.0; oid = drop 2 found.1; tag = tag } ≡ key = cc in
          (ap (λ k. k.stamp) (sym same), ap (λ k. k.tag) (sym same)))
    ] is

-- the key that was tried: its tag, or its stamp, is that of the octets behind the form and the lifespan
data Tried (text : List ℕ) (key : Key) : Type 0 where
  by_tag : key.stamp ≡ None → key.tag ≡ from_be_bytes w16 (take 2 (drop 2 text)) → Tried text key
  by_stamp : key.stamp ≡ Some (stamp_in (drop 2 text)) → key.tag ≡ 0 → Tried text key
  by_neither : key.stamp ≡ None → key.tag ≡ 0 → Tried text key

tried_by : (text : List ℕ) (key : Key) → key_tried text ≡ Some key → Tried text key
tried_by [] key none = absurd (let e : None ≡ Some key = none in cc)
tried_by (form ∷ []) key none = absurd (let e : None ≡ Some key = none in cc)
tried_by (form ∷ lifespan ∷ rest) key tried =
    cond_both (form == 2) (key_behind None (from_be_bytes w16 (take 2 rest)) (drop 2 rest))
    (if lifespan == 0 then key_behind (Some (stamp_in rest)) 0 (drop 8 rest) else key_behind None 0 rest)
    (λ o. o ≡ Some key → Tried (form ∷ lifespan ∷ rest) key)
    (λ _ is. (let at = behind_is None (from_be_bytes w16 (take 2 rest)) (drop 2 rest) key is in by_tag at.0 at.1))
    (λ _. cond_both (lifespan == 0) (key_behind (Some (stamp_in rest)) 0 (drop 8 rest)) (key_behind None 0 rest)
    (λ o. o ≡ Some key → Tried (form ∷ lifespan ∷ rest) key)
    (λ _ is. (let at = behind_is (Some (stamp_in rest)) 0 (drop 8 rest) key is in by_stamp at.0 at.1))
    (λ _ is. (let at = behind_is None 0 rest key is in by_neither at.0 at.1))) tried

module _ (bytes : List ℕ) (key : Key) (spelled : key_spelling key ≡ bytes) where
  stamp_of : (st : Stamp) → key.stamp ≡ Some st → st ≡ stamp_in (drop 2 (drop 3 bytes)) → IsStamp (Some st)
  stamp_of st has same =
      let rest : (to_be_bytes w32 st.run ++ to_be_bytes w32 st.number) ++ (path_bytes key.path ++ oid_bytes key.oid) ≡ drop 2 (drop 3 bytes) =
      ap (λ s. drop 2 (lifespan_bytes s key.tag ++ (path_bytes key.path ++ oid_bytes key.oid))) (sym has) ∙ ap (λ b. drop 2 (drop 3 b)) spelled in
      let run : st.run ≡ from_be_bytes w32 (to_be_bytes w32 st.run) = ap (λ s. s.run) same ∙ ap (λ r. from_be_bytes w32 (take 4 r)) (sym rest) in
      let number : st.number ≡ from_be_bytes w32 (to_be_bytes w32 st.number) = ap (λ s. s.number) same
      ∙ ap (λ r. from_be_bytes w32 (take 4 (drop 4 r))) (sym rest) in
      (subst (λ n. n < 2 ^ 32) (sym run) (small_number st.run), subst (λ n. n < 2 ^ 32) (sym number) (small_number st.number))

  tag_of : key.stamp ≡ None → key.tag ≡ from_be_bytes w16 (take 2 (drop 2 (drop 3 bytes))) → key.tag < 2 ^ 16
  tag_of none same =
      cond_both (key.tag == 0) (1 ∷ 1 ∷ []) (2 ∷ 1 ∷ to_be_bytes w16 key.tag)
      (λ form. form ++ (path_bytes key.path ++ oid_bytes key.oid) ≡ drop 3 bytes → key.tag < 2 ^ 16)
      (λ untagged _. (let is : key.tag ≡ 0 = eqb-true key.tag 0 untagged in omega arith))
      (λ _ rest. (let is : key.tag ≡ from_be_bytes w16 (to_be_bytes w16 key.tag) = same ∙ ap (λ r. from_be_bytes w16 (take 2 (drop 2 r))) (sym rest) in
      subst (λ n. n < 2 ^ 16) (sym is) (small_tag key.tag)))
      (ap (λ s. lifespan_bytes s key.tag ++ (path_bytes key.path ++ oid_bytes key.oid)) (sym none) ∙ ap (λ b. drop 3 b) spelled)

  -- the stamp and the tag are within their limits, and a transient key has no tag
  lifespan_within : Tried (drop 3 bytes) key → IsStamp key.stamp × (key.tag < 2 ^ 16) × TagsPersistent key
  lifespan_within (by_tag none at) =
      (subst IsStamp (sym none) tt, tag_of none at, subst (λ s. IfSome s (λ _. key.tag ≡ 0)) (sym none) tt)
  lifespan_within (by_stamp at untagged) = (
    subst IsStamp (sym at) (stamp_of (stamp_in (drop 2 (drop 3 bytes))) at refl),
    omega arith,
    subst (λ s. IfSome s (λ _. key.tag ≡ 0)) (sym at) untagged,
  )
  lifespan_within (by_neither none untagged) =
      (subst IsStamp (sym none) tt, omega arith, subst (λ s. IfSome s (λ _. key.tag ≡ 0)) (sym none) tt)

  if_within : is_within key ≡ true → key_tried (drop 3 bytes) ≡ Some key → IsKey key
  if_within fits tried =
      let parts =
      and_parts (list_all (λ name. nat_lt 0 (length name) && nat_le (length name) 64) key.path && nat_le (length key.path) 16)
      (nat_le (length key.oid) 256) fits in
      let path = and_parts (list_all (λ name. nat_lt 0 (length name) && nat_le (length name) 64) key.path) (nat_le (length key.path) 16) parts.0 in
      let lifespan = lifespan_within (tried_by (drop 3 bytes) key tried) in
      record {
        stamp = lifespan.0;
        tag = lifespan.1;
        tagged = lifespan.2;
        path = (leb-true _ _ path.1, names_of key.path path.0);
        oid = leb-true _ _ parts.1;
      }

pub key_spelled : (bytes : List ℕ) (key : Key) → key_of bytes ≡ Some key → IsKey key × (key_spelling key ≡ bytes)
key_spelled bytes key found =
    elim (key_tried (drop 3 bytes)) as (λ o. key_tried (drop 3 bytes) ≡ o → option_and_then (if_spelled bytes) o ≡ Some key → IsKey key
    × (key_spelling key ≡ bytes)) [
      | None ↦ λ _ none. absurd (let e : None ≡ Some key = none in cc)
      | Some tried ↦
          λ is. cond_both (is_within tried && same_bytes (key_spelling tried) bytes) (Some tried) None
          (λ o. o ≡ Some key → IsKey key × (key_spelling key ≡ bytes))
          (λ both some_. (let same : tried ≡ key = cc in
          let parts = and_parts (is_within tried) (same_bytes (key_spelling tried) bytes) both in
          let spelled : key_spelling key ≡ bytes = ap key_spelling (sym same) ∙ bytes_same (key_spelling tried) bytes parts.1 in
          (if_within bytes key spelled (ap is_within (sym same) ∙ parts.0) (is ∙ ap (λ k. Some k) same), spelled)))
          (λ _ none. absurd (let e : None ≡ Some key = none in cc))
    ] refl found
