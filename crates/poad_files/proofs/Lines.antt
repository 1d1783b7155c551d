-- The lines of objects, one after another.
use Rattle.std.proofs.Common.{◌≡◌, ℕ, suc, ◌+◌, ◌<◌, List, ◌∷◌, ◌++◌, length, drop, get_or, Option, Some, None, slice_get, refl, ap, sym, ◌∙◌, add-one}
use Rattle.std.proofs.lemmas.List.{append_assoc, drop_more}
use Rattle.poa_base.specs.declared.Config.{Config}
use Rattle.poa_base.specs.declared.Key.{Key}
use Rattle.poa_base.specs.declared.ObjectConf.{ObjectConf}
use Rattle.history_standing.specs.Reference.{reference_text}
use Rattle.poad_files.specs.Numbers.{Numbers}
use Rattle.poad_files.specs.Tags.{tag_at}
use Rattle.poad_files.specs.Objects.{id_of, key_of, line, lines, made_with, object_line, type_in}

-- the line of an object, by its parts
pub line_of : (c : Config) (numbers : Numbers) (path : List (List ℕ)) (oid made : List ℕ) (n : ℕ) (number tag : Option ℕ) (key : Key) (type_id ref : List ℕ)
    → oid ≡ made → number ≡ numbers path → tag ≡ tag_at c.adapters path → key ≡ key_of c.run number tag path oid → type_id ≡ type_in (slice_get c.servants n)
    → ref ≡ reference_text (record { host = c.host; port = c.port }) type_id key
    → line key.path key.oid ref ≡ object_line c numbers path made n
line_of c numbers path oid made n number tag key type_id ref is_oid is_number is_tag is_key is_type is_ref =
    by number is_number is_key
  where
    by : (found : Option ℕ) → found ≡ numbers path → key ≡ key_of c.run found tag path oid → line key.path key.oid ref ≡ object_line c numbers path made n
    by None is_number is_key = rw (is_ref, is_type, is_key, sym is_number, sym is_tag, is_oid) refl
    by (Some found) is_number is_key = rw (is_ref, is_type, is_key, sym is_number, is_oid) refl

-- one more line
pub lines_more : (c : Config) (numbers : Numbers) (out longer whole : List ℕ) (items : List ObjectConf) (i made more : ℕ) (o : ObjectConf) → i < length items
    → o ≡ get_or items i o
    → out ++ lines c numbers made (drop i items) ≡ whole → longer ≡ out ++ object_line c numbers o.adapter (id_of c.run (made + 1) o.oid) o.servant
    → more ≡ made_with o.oid made
    → longer ++ lines c numbers more (drop (i + 1) items) ≡ whole
lines_more c numbers out longer whole items i made more o lt is before new next =
    let rest = drop (i + 1) items in
    let this = λ (k : ℕ). object_line c numbers o.adapter (id_of c.run k o.oid) o.servant in
    let front : drop i items ≡ o ∷ rest = drop_more items i o lt ∙ ap (λ (x : ObjectConf). x ∷ rest) (sym is) in
    let same : this (made + 1) ++ lines c numbers more rest ≡ lines c numbers made (drop i items) =
    ap (λ (k : ℕ). this k ++ lines c numbers more rest) (add-one made)
    ∙ (ap (λ (m : ℕ). this (suc made) ++ lines c numbers m rest) next ∙ ap (lines c numbers made) (sym front)) in
    ap (λ (t : List ℕ). t ++ lines c numbers more rest) new
    ∙ (append_assoc out (this (made + 1)) (lines c numbers more rest) ∙ (ap (λ (t : List ℕ). out ++ t) same ∙ before))
