-- Objects and forwards that were read one after another keep their rules.
use Rattle.std.proofs.Common.{◌⊎◌, ◌≡◌, ◌≢◌, ◌≤◌, ℕ, Bool, true, false, List, [], ◌∷◌, ◌++◌, length, Option, Some, None, IfSome, is_some, refl, ap, sym, ◌∙◌, inl, inr, if◌then◌else◌}
use Rattle.std.proofs.lemmas.Bool.{false≢true}
use Rattle.std.proofs.lemmas.Option.{none-some, same_Some}
use Rattle.std.proofs.lemmas.Slice.Eq.{bytes_eq-Decides}
use Rattle.std.specs.List.{AllByRecursion, list_all}
use Rattle.std.specs.Str.{bytes_eq}
use Rattle.poa_base.specs.declared.AdapterConf.{AdapterConf}
use Rattle.poa_base.specs.declared.ForwardConf.{ForwardConf}
use Rattle.poa_base.specs.declared.ObjectConf.{ObjectConf}
use Rattle.poa_base.specs.declared.PolicySet.{PolicySet}
use Rattle.poa_base.specs.declared.ServantConf.{ServantConf}
use Rattle.text_words.specs.Name.{is_name}
use Rattle.text_words.specs.Path.{path_text}
use Rattle.conf_fields.specs.Numbers.{Find, place_of, seen_of}
use Rattle.conf_fields.proofs.Finds.{none_new}
use Rattle.poa_policy.specs.Adapters.{IsEndpoint}
use Rattle.poa_policy.specs.Entries.{EachAfter, IsNew}
use Rattle.poa_policy.specs.Objects.{IsHome, IsObject, id_key, servant_key}
use Rattle.poa_policy.specs.Kept.{IsForward}
use Rattle.poa_policy.proofs.Each.{each_weaker}
use Rattle.conf_toml.specs.Adapters.{adapter_paths}
use Rattle.conf_toml.specs.Servants.{servant_names}
use Rattle.conf_toml.proofs.Below.{IsWritten, found_by_text}
use Rattle.conf_toml.proofs.KeptRows.{servant_number_within}
use Rattle.conf_toml.specs.Forwards.{forward_paths}
use Rattle.conf_toml.specs.Found.{HomeFound, IsReadAfter}
use Rattle.conf_toml.specs.Objects.{id_text, id_texts, ids_of, servant_text, taken_of}

new_forward_path : (f : ForwardConf) (ds : List ForwardConf) → AllByRecursion (λ (d : ForwardConf). path_text d.path ≢ path_text f.path) ds
    → IsNew (λ (x : ForwardConf). x.path) ds f
new_forward_path f [] all = tt
new_forward_path f (d ∷ ds) all = (λ same. all.0 (ap path_text same), new_forward_path f ds all.1)

pub forward_keeps : (done : List ForwardConf) (f : ForwardConf) (find : Find) → find ≡ place_of (forward_paths done) → find (path_text f.path) ≡ None
    → (length f.path ≤ 16) × (list_all is_name f.path ≡ true) → IsEndpoint f.endpoint → IsForward done f
forward_keeps done f find noted fresh written endpoint = record {
  few = written.0;
  named = written.1;
  new = new_forward_path f done
      (none_new (λ (x : ForwardConf). path_text x.path) done (path_text f.path) (ap (λ (g : Find). g (path_text f.path)) (sym noted) ∙ fresh));
  endpoint = endpoint;
}

-- a text that wasn't seen is none of those
unseen : (t q : List ℕ) (more : List (List ℕ)) (here : Bool) → (here ≡ bytes_eq t q) → (if here then Some 0 else seen_of more q) ≡ None → (t ≢ q)
    × (seen_of more q ≡ None)
unseen t q more true is h = cc
unseen t q more false is h = (λ same. false≢true (is ∙ (bytes_eq-Decides t q).1 same), h)

other_id : (path : List (List ℕ)) (oid : Option (List ℕ)) (p : List (List ℕ)) (id : List ℕ) (more : List (List ℕ))
    → seen_of (id_texts (path_text path) oid ++ more) (id_text (path_text p) id) ≡ None
    → ((path ≡ p) → oid ≡ Some id → ⊥) × (seen_of more (id_text (path_text p) id) ≡ None)
other_id path None p id more h = (λ same there. none-some id there, h)
other_id path (Some given) p id more h =
    let q = id_text (path_text p) id in
    let (other, rest) = unseen (id_text (path_text path) given) q more (bytes_eq (id_text (path_text path) given) q) refl h in
    (λ same there. other (ap (λ (x : List (List ℕ)). id_text (path_text x) given) same ∙ ap (id_text (path_text p)) (same_Some given id there)), rest)

new_id : (o : ObjectConf) (id : List ℕ) → o.oid ≡ Some id → (ds : List ObjectConf) → seen_of (ids_of ds) (id_text (path_text o.adapter) id) ≡ None
    → IsNew id_key ds o
new_id o id is [] h = tt
new_id o id is (d ∷ ds) h =
    let (other, rest) = other_id d.adapter d.oid o.adapter id (ids_of ds) h in
    (λ same. other (ap (λ k. k.0) same) (ap (λ k. k.1) same ∙ is), new_id o id is ds rest)

new_ids : (o : ObjectConf) (oid : Option (List ℕ)) → o.oid ≡ oid → (ds : List ObjectConf)
    → IfSome oid (λ id. seen_of (ids_of ds) (id_text (path_text o.adapter) id) ≡ None) → is_some oid ≡ true → IsNew id_key ds o
new_ids o None is ds h some = absurd (false≢true some)
new_ids o (Some id) is ds h some = new_id o id is ds h

new_servant : (o : ObjectConf) (ds : List ObjectConf) → seen_of (taken_of ds) (servant_text (path_text o.adapter) o.servant) ≡ None → IsNew servant_key ds o
new_servant o [] h = tt
new_servant o (d ∷ ds) h =
    let q = servant_text (path_text o.adapter) o.servant in
    let t = servant_text (path_text d.adapter) d.servant in
    let (other, rest) = unseen t q (taken_of ds) (bytes_eq t q) refl h in
    (λ same. other (ap (λ k. servant_text (path_text k.0) k.1) same), new_servant o ds rest)

home_kept : (find : Find) (adapters : List AdapterConf) (p : List (List ℕ)) (set : PolicySet) → find ≡ place_of (adapter_paths adapters)
    → AllByRecursion (λ (a : AdapterConf). IsWritten a.path) adapters
    → IsWritten p → HomeFound find adapters p set → IsHome adapters p set
home_kept find adapters [] set noted all written home = home
home_kept find adapters (n ∷ ns) set noted all written home =
    let at = found_by_text adapters (n ∷ ns) home.place all written (ap (λ (g : Find). g (path_text (n ∷ ns))) (sym noted) ∙ home.found) in
    let same : home.fit.adapter ≡ at.adapter = same_Some home.fit.adapter at.adapter (sym home.fit.is ∙ at.stands) in
    record {
      adapter = home.fit.adapter;
      stands = (home.place, home.fit.is);
      path_is = ap (λ (a : AdapterConf). a.path) same ∙ at.path_is;
      boots = home.fit.boots;
      retains = home.fit.retains;
      policies = home.fit.policies;
    }

alone_kept : (o : ObjectConf) (ds : List ObjectConf) (A : Type 0) → A ⊎ (seen_of (taken_of ds) (servant_text (path_text o.adapter) o.servant) ≡ None) → A
    ⊎ IsNew servant_key ds o
alone_kept o ds A (inl shared) = inl shared
alone_kept o ds A (inr free) = inr (new_servant o ds free)

module _ (find servants : Find) (adapters : List AdapterConf) (ss : List ServantConf) (paths_noted : find ≡ place_of (adapter_paths adapters))
    (ss_noted : servants ≡ place_of (servant_names ss))
    (written : AllByRecursion (λ (a : AdapterConf). IsWritten a.path) adapters) where
  object_keeps : (done : List ObjectConf) (o : ObjectConf) → IsReadAfter find adapters servants done o → IsObject adapters (length ss) done o
  object_keeps done o read = record {
    policies = read.policies;
    home = home_kept find adapters o.adapter read.policies paths_noted written (record { few = read.few; named = read.named }) read.home;
    id = read.id;
    servant = servant_number_within ss servants ss_noted o.servant read.servant;
    new = new_ids o o.oid refl done read.new;
    alone = alone_kept o done _ read.alone;
  }

  pub objects_keep : (os : List ObjectConf) → EachAfter (IsReadAfter find adapters servants) [] os → EachAfter (IsObject adapters (length ss)) [] os
  objects_keep os each = each_weaker (IsReadAfter find adapters servants) (IsObject adapters (length ss)) [] os object_keeps each
