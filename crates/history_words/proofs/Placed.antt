-- Each adapter that stands has the number and the path of its creation.
use Rattle.std.specs.Prelude.{◌≡◌, ℕ, zero, suc, Bool, not, ◌&&◌, cond, List, [], ◌∷◌, ◌++◌}
use Rattle.std.specs.Prelude.{map, filter, length, Option, Some, None, slice_get, refl, false}
use Rattle.std.proofs.Common.{inl, inr, sym, subst, ap, ◌∙◌, arith, length-append}
use Rattle.std.proofs.lemmas.Bool.{cond_both}
use Rattle.std.proofs.lemmas.List.{append-nil, append_assoc}
use Rattle.poa_base.specs.declared.AdapterConf.{AdapterConf}
use Rattle.poa_base.specs.declared.Config.{Config}
use Rattle.poa_base.specs.declared.ObjectConf.{ObjectConf}
use Rattle.poa_base.specs.declared.Attempt.TheVariants.{Yes, No, Raised, Dying as ParentDying}
use Rattle.poa_base.specs.declared.Entry.{Entry}
use Rattle.poa_base.specs.declared.Entry.TheVariants.{Entered, Arrive, Filled, Left, Collect, Admit, Tried, Incarnated}
use Rattle.poa_base.specs.declared.Entry.TheVariants.{Run, Done, TakeOut, Etherealized, Abandon}
use Rattle.poa_base.specs.declared.Sid.TheVariants.{Named as NamedServant}
use Rattle.history_standing.specs.declared.node.Node.{Node}
use Rattle.history_standing.specs.Paths.{is_root}
use Rattle.history_standing.specs.Trees.{In}
use Rattle.history_standing.proofs.Members.{in_either}
use Rattle.history_standing.specs.declared.activation.Phase.TheVariants.{Complete}
use Rattle.poa_history.specs.Alone.{IsGivenAlone}
use Rattle.poa_history.specs.Bounds.{IsWithinLimits}
use Rattle.history_standing.specs.Changes.{standing}
use Rattle.poa_history.specs.Legal.{EachEntry, IsLegal}
use Rattle.history_standing.specs.Opening.{with_node, with_activation, with_made, made_id, number_at, with_boots, with_object, with_objects, root_alone}
use Rattle.poa_history.specs.Sound.{IsGiven}
use Rattle.history_standing.specs.Standings.{Standing}
use Rattle.history_words.specs.Creations.{paths_opened, path_created, with_path, paths_created, NumbersNext}
use Rattle.history_words.proofs.Asked.{knows, yes_number}
use Rattle.history_words.proofs.Created.{Creates, StandsFrom, stood, new, creates}

-- places in a list with one element more
get_front : {A : Type 0} (xs ys : List A) (i : ℕ) (x : A) → slice_get xs i ≡ Some x → slice_get (xs ++ ys) i ≡ Some x
get_front [] ys i x is = absurd (let e : None ≡ Some x = is in cc)
get_front (z ∷ xs) ys zero x is = is
get_front (z ∷ xs) ys (suc i) x is = get_front xs ys i x is

get_end : {A : Type 0} (xs : List A) (x : A) → slice_get (xs ++ x ∷ []) (length xs) ≡ Some x
get_end [] x = refl
get_end (z ∷ xs) x = get_end xs x

-- all that stands has the number and the path of the list
pub record Places (s : Standing) (paths : List (List (List ℕ))) : Type 0 where
  pub counted : s.count ≡ length paths
  pub placed : (n : Node) → In n s.nodes → slice_get paths n.number ≡ Some n.path

places_step : (s t : Standing) (paths : List (List (List ℕ))) (made : Option (List (List ℕ))) → Places s paths → Creates s t made
    → Places t (with_path paths made)
places_step s t paths None places creates = record {
  counted = creates.count ∙ places.counted;
  placed = λ n there. elim (creates.nodes n there) [
    | stood m was number path ↦ ap (slice_get paths) number ∙ (places.placed m was ∙ ap (λ x. Some x) (sym path))
    | new p is number path ↦ absurd (let e : None ≡ Some p = is in cc)
  ];
}
places_step s t paths (Some q) places creates = record {
  counted =
      (let more : t.count ≡ suc s.count = creates.count in let same = places.counted in
      let long = length-append paths (q ∷ []) in omega (arith, more, same, long));
  placed = λ n there. elim (creates.nodes n there) [
    | stood m was number path ↦ ap (slice_get (paths ++ q ∷ [])) number
        ∙ (get_front paths (q ∷ []) m.number m.path (places.placed m was) ∙ ap (λ x. Some x) (sym path))
    | new p is number path ↦ (let e : Some q ≡ Some p = is in let same : q ≡ p = cc in
        ap (slice_get (paths ++ q ∷ [])) (number ∙ places.counted) ∙ (get_end paths q ∙ ap (λ x. Some x) (same ∙ sym path)))
  ];
}

-- at opening
module _ (c : Config) (run : ℕ) where
  abbrev is_opened : AdapterConf → Bool
  is_opened a = a.boot && not (is_root a.path)

  node_creates : (p : List (List ℕ)) (s : Standing) → Creates s (with_node p s) (Some p)
  node_creates p s = record { count = refl; nodes = from }
    where
      from : (n : Node) → In n (with_node p s).nodes → StandsFrom s (Some p) n
      from n there =
          elim (in_either n (record { number = s.count; path = p; dying = false }) s.nodes there)
          [ inl was ↦ stood n was refl refl | inr made ↦ new p refl (ap (λ x. x.number) made) (ap (λ x. x.path) made) ]

  boots_placed : (as' : List AdapterConf) (s : Standing) (paths : List (List (List ℕ))) → Places s paths
      → Places (with_boots as' s) (paths ++ map (λ a. a.path) (filter is_opened as'))
  boots_placed [] s paths places = subst (λ ps. Places s ps) (sym (append-nil paths)) places
  boots_placed (a ∷ as') s paths places =
      cond_both (is_opened a) (with_node a.path s) s (λ t. Places (with_boots as' t) (paths ++ map (λ x. x.path) (filter is_opened (a ∷ as'))))
      (λ opens. subst
      (λ b. Places (with_boots as' (with_node a.path s)) (paths ++ map (λ x. x.path) (cond b (a ∷ filter is_opened as') (filter is_opened as'))))
      (sym opens)
      (subst (λ ps. Places (with_boots as' (with_node a.path s)) ps) (append_assoc paths (a.path ∷ []) (map (λ x. x.path) (filter is_opened as')))
      (boots_placed as' (with_node a.path s) (paths ++ a.path ∷ [])
      (places_step s (with_node a.path s) paths (Some a.path) places (node_creates a.path s)))))
      (λ stays. subst (λ b. Places (with_boots as' s) (paths ++ map (λ x. x.path) (cond b (a ∷ filter is_opened as') (filter is_opened as')))) (sym stays)
      (boots_placed as' s paths places))

  object_placed : (o : ObjectConf) (s : Standing) (paths : List (List (List ℕ))) → Places s paths → Places (with_object run o s) paths
  object_placed o s paths places =
      elim o.oid as
      (λ oid. Places
      (elim oid [
        | Some i ↦ with_activation (number_at s o.adapter) o.adapter i (Complete (NamedServant o.servant)) s
        | None ↦ with_activation
            (number_at s o.adapter) o.adapter (made_id run (suc s.made)) (Complete (NamedServant o.servant)) (with_made s)
      ]) paths) [
        | Some i ↦ record { counted = places.counted; placed = places.placed }
        | None ↦ record { counted = places.counted; placed = places.placed }
      ]

  objects_placed : (os : List ObjectConf) (s : Standing) (paths : List (List (List ℕ))) → Places s paths → Places (with_objects run os s) paths
  objects_placed [] s paths places = places
  objects_placed (o ∷ os) s paths places = objects_placed os (with_object run o s) paths (object_placed o s paths places)

  opening_placed : Places (standing c run []) (paths_opened c)
  opening_placed =
      objects_placed c.objects (with_boots c.adapters root_alone) (paths_opened c)
      (boots_placed c.adapters root_alone ([] ∷ [])
      (record {
        counted = refl;
        placed = λ n there. elim there
            [ inl same ↦ ap (λ m. slice_get ([] ∷ []) m.number) same ∙ ap (λ m. Some m.path) (sym same) | inr none ↦ absurd none ];
      }))

  module _ (limit : ℕ) (given : IsGiven c run) (alone : IsGivenAlone c run) (within : IsWithinLimits c limit) where
    pub all_placed : (h : List Entry) → IsLegal c run limit h → Places (standing c run h) (paths_created c run h)
    all_placed [] legal = opening_placed
    all_placed (e ∷ past) legal =
        places_step (standing c run past) (standing c run (e ∷ past)) (paths_created c run past) (path_created c run past e)
        (all_placed past legal.1) (creates c run past e (knows c run limit given alone within past e legal))

    numbers : (past : List Entry) (e : Entry) → IsLegal c run limit (e ∷ past) → NumbersNext c run past e
    numbers past (Tried w (Yes k)) legal = yes_number c run limit given alone within past w k legal ∙ (all_placed past legal.1).counted
    numbers past (Tried w No) legal = tt
    numbers past (Tried w Raised) legal = tt
    numbers past (Tried w ParentDying) legal = tt
    numbers past (Entered conn) legal = tt
    numbers past (Arrive conn size call) legal = tt
    numbers past (Filled conn size) legal = tt
    numbers past (Left conn) legal = tt
    numbers past (Collect conn a) legal = tt
    numbers past (Admit w r v) legal = tt
    numbers past (Incarnated w a) legal = tt
    numbers past (Run w) legal = tt
    numbers past (Done w) legal = tt
    numbers past (TakeOut w n x) legal = tt
    numbers past (Etherealized w x y) legal = tt
    numbers past (Abandon w) legal = tt

    pub all_numbered : (h : List Entry) → IsLegal c run limit h → EachEntry (NumbersNext c run) h
    all_numbered [] legal = tt
    all_numbered (e ∷ past) legal = (numbers past e legal, all_numbered past legal.1)
