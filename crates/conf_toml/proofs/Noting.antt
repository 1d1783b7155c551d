-- The objects and forwards that were read, and what is noted of them.
use Rattle.std.proofs.Common.{◌≡◌, ℕ, List, [], ◌∷◌, ◌++◌, Option, Some, None, ap, ◌∙◌, append-nil}
use Rattle.std.proofs.lemmas.Grind.{flat_map-append}
use Rattle.poa_base.specs.declared.ForwardConf.{ForwardConf}
use Rattle.poa_base.specs.declared.ObjectConf.{ObjectConf}
use Rattle.text_words.specs.Path.{path_text}
use Rattle.conf_fields.specs.Numbers.{Find, seen_of, noted}
use Rattle.conf_fields.proofs.Finds.{map-last, seen_next}
use Rattle.conf_toml.specs.Forwards.{forward_paths}
use Rattle.conf_toml.specs.Objects.{id_text, id_texts, ids_of, servant_text, taken_of}
use Rattle.conf_toml.specs.Notes.{noted_id}

pub forward_paths_more : (done : List ForwardConf) (f : ForwardConf) → forward_paths (done ++ f ∷ []) ≡ forward_paths done ++ path_text f.path ∷ []
forward_paths_more done f = map-last (λ x. path_text x.path) done f

pub taken_more : (done : List ObjectConf) (o : ObjectConf) → taken_of (done ++ o ∷ []) ≡ taken_of done ++ servant_text (path_text o.adapter) o.servant ∷ []
taken_more done o = map-last (λ x. servant_text (path_text x.adapter) x.servant) done o

ids_more : (done : List ObjectConf) (o : ObjectConf) → ids_of (done ++ o ∷ []) ≡ ids_of done ++ id_texts (path_text o.adapter) o.oid
ids_more done o = flat_map-append (λ x. id_texts (path_text x.adapter) x.oid) done (o ∷ [])
    ∙ ap (λ t. ids_of done ++ t) (append-nil (id_texts (path_text o.adapter) o.oid))

seen_id : (texts : List (List ℕ)) (path : List ℕ) (oid : Option (List ℕ)) (f g : Find) → f ≡ seen_of texts → g ≡ noted_id path oid f
    → g ≡ seen_of (texts ++ id_texts path oid)
seen_id texts path None f g before after = rw append-nil (after ∙ before)
seen_id texts path (Some id) f g before after = seen_next f g texts (id_text path id) before after

-- the ids with those of one more object
pub ids_next : (done : List ObjectConf) (o : ObjectConf) (f g : Find) → f ≡ seen_of (ids_of done) → g ≡ noted_id (path_text o.adapter) o.oid f
    → g ≡ seen_of (ids_of (done ++ o ∷ []))
ids_next done o f g before after = rw (ids_more done o) (seen_id (ids_of done) (path_text o.adapter) o.oid f g before after)

-- the servants with that of one more object
pub taken_next : (done : List ObjectConf) (o : ObjectConf) (f g : Find) → f ≡ seen_of (taken_of done)
    → g ≡ noted (servant_text (path_text o.adapter) o.servant) 0 f → g ≡ seen_of (taken_of (done ++ o ∷ []))
taken_next done o f g before after = rw (taken_more done o) (seen_next f g (taken_of done) (servant_text (path_text o.adapter) o.servant) before after)
