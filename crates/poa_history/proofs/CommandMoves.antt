-- What the answer to a command tells of what stands: enough for what it does.
use Rattle.std.specs.Prelude.{◌≡◌, ℕ, suc, Bool, true, false, not, ◌&&◌, nat_le, if◌then◌else◌, List, [], ◌∷◌, ◌++◌, Option, Some, None, is_none, refl}
use Rattle.std.specs.List.{list_any}
use Rattle.std.proofs.Common.{inl, inr, sym, subst, ap, ap₂, ◌∙◌}
use Rattle.std.proofs.lemmas.Bool.{cond_both, cases_Bool, and_parts, true≢false, eq-eqb}
use Rattle.poa_base.specs.declared.Config.{Config}
use Rattle.poa_base.specs.declared.Reason.{Reason}
use Rattle.poa_base.specs.declared.Reason.TheVariants.{AdapterNonExistent, NoTemplate, AdapterAlreadyExists, TooMany, WrongPolicy, NoServant, ServantAlreadyActive, BadId, ObjectAlreadyActive}
use Rattle.poa_base.specs.declared.Answer.TheVariants.{Good, GoodId, No}
use Rattle.poa_base.specs.declared.Verdict.{Verdict}
use Rattle.poa_base.specs.declared.Verdict.TheVariants.{Answer}
use Rattle.history_standing.specs.declared.node.Node.{Node}
use Rattle.history_standing.specs.declared.activation.Activation.{Activation}
use Rattle.history_standing.specs.Paths.{same_bytes, parent_path}
use Rattle.history_standing.specs.Templates.{template, policies_at, retains, makes_ids, servant_number}
use Rattle.history_standing.specs.Standings.{Standing, is_active, is_of, is_tried}
use Rattle.history_standing.specs.Nodes.{node_at}
use Rattle.history_standing.specs.Ends.{is_over}
use Rattle.history_standing.specs.Logs.{is_accepted}
use Rattle.history_standing.specs.Opening.{with_made, made_id, number_at}
use Rattle.history_standing.specs.Commands.{refusal, live_at, with_live, with_servant, is_taken, is_bad_id, is_implicit, create_row, activate_row, activate_id_row}
use Rattle.history_standing.specs.Trees.{In, MayCreate}
use Rattle.poa_history.specs.Sound.{IsSound}
use Rattle.history_standing.proofs.Leading.{same_self}
use Rattle.poa_history.proofs.SoundKept.{IsUntried, MayLive}
use Rattle.history_standing.proofs.WalkStands.{node_found, node_missing}
use Rattle.poa_history.proofs.VerdictMoves.{untried_by}
use Rattle.poa_history.proofs.ChangeSound.{with_made_sound}
use Rattle.history_standing.proofs.Tests.{none_by}

-- a refusal isn't accepted
pub refused : {A : Type 0} (reason : Reason) (v : Verdict) → refusal reason ≡ Some v → is_accepted v ≡ true → A
refused reason v is accepted = absurd (let same : Answer (No reason) ≡ v = cc in let e : false ≡ true = ap is_accepted same ∙ accepted in cc)

pub held : {A B : Type 0} (v : B) → None ≡ Some v → A
held v is = absurd (cc)

-- an adapter that lives
pub live_tells : (s : Standing) (p : List (List ℕ)) (n : Node) → live_at s p ≡ Some n → (In n s.nodes) × (n.path ≡ p) × (n.dying ≡ false)
    × (node_at s.nodes p ≡ Some n)
live_tells s p n lives =
    elim (node_at s.nodes p) as (λ o. node_at s.nodes p ≡ o → (elim o [ Some m ↦ (if m.dying then None else Some m) | None ↦ None ]) ≡ Some n → (In n s.nodes)
    × (n.path ≡ p) × (n.dying ≡ false) × (node_at s.nodes p ≡ Some n)) [
      | None ↦ λ _ none. held n none
      | Some m ↦ λ found is. by_dying m found m.dying refl is
    ] refl lives
  where
    by_dying : (m : Node) → node_at s.nodes p ≡ Some m → (b : Bool) → m.dying ≡ b → (if b then None else Some m) ≡ Some n → (In n s.nodes) × (n.path ≡ p)
        × (n.dying ≡ false) × (node_at s.nodes p ≡ Some n)
    by_dying m found true dying is = absurd (let e : None ≡ Some n = is in cc)
    by_dying m found false living is =
        let same : m ≡ n = cc in let there = node_found s.nodes p m found in
        (subst (λ x. In x s.nodes) same there.0, ap (λ x. x.path) (sym same) ∙ there.1, ap (λ x. x.dying) (sym same) ∙ living, found ∙ ap (λ x. Some x) same)

pub lived : (s : Standing) (p : List (List ℕ)) (then_ : Node → Option Verdict) (v : Verdict) → with_live s p then_ ≡ Some v → is_accepted v ≡ true → (n : Node)
    × (live_at s p ≡ Some n) × (then_ n ≡ Some v)
lived s p then_ v is accepted =
    elim (live_at s p) as (λ o. live_at s p ≡ o → (elim o [ Some n ↦ then_ n | None ↦ refusal AdapterNonExistent ]) ≡ Some v → (n : Node)
    × (live_at s p ≡ Some n) × (then_ n ≡ Some v))
    [ Some n ↦ λ lives done. (n, lives, done) | None ↦ λ _ no_. refused AdapterNonExistent v no_ accepted ] refl is

pub known : (c : Config) (name : List ℕ) (then_ : ℕ → Option Verdict) (v : Verdict) → with_servant c name then_ ≡ Some v → is_accepted v ≡ true → (k : ℕ)
    × (servant_number c name ≡ Some k) × (then_ k ≡ Some v)
known c name then_ v is accepted =
    elim (servant_number c name) as (λ o. servant_number c name ≡ o → (elim o [ Some k ↦ then_ k | None ↦ refusal NoServant ]) ≡ Some v → (k : ℕ)
    × (servant_number c name ≡ Some k) × (then_ k ≡ Some v))
    [ Some k ↦ λ number done. (k, number, done) | None ↦ λ _ no_. refused NoServant v no_ accepted ] refl is

-- the last name of a path
abbrev last_of : (x : List ℕ) (p : List (List ℕ)) → List ℕ
last_of x [] = x
last_of x (y ∷ p) = last_of y p

path_parts : (x : List ℕ) (p : List (List ℕ)) → x ∷ p ≡ parent_path (x ∷ p) ++ last_of x p ∷ []
path_parts x [] = refl
path_parts x (y ∷ p) = ap (λ q. x ∷ q) (path_parts y p)

pub number_live : (s : Standing) (p : List (List ℕ)) (n : Node) → node_at s.nodes p ≡ Some n → n.number ≡ number_at s p
number_live s p n found = ap (λ o. elim o [ Some m ↦ m.number | None ↦ 0 ]) (sym found)

module _ (c : Config) (run : ℕ) (s : Standing) (sound : IsSound c run s) where
  -- the next system-made id is that of no activation that holds it, in any adapter that makes ids
  abbrev pub FreshIds : Type 0
  FreshIds = (n : Node) → In n s.nodes → makes_ids (policies_at c n.path) ≡ true → (a : Activation) → In a s.activations → a.adapter ≡ n.number
      → a.oid ≡ made_id run (suc s.made) → is_over c a ≡ true

  -- the next system-made id is one that an adapter has once it is made
  abbrev pub NextFits : Type 0
  NextFits = (p : List (List ℕ)) → is_bad_id c run (suc s.made) p (made_id run (suc s.made)) ≡ false

  pub may_create : (p : List (List ℕ)) (v : Verdict) → create_row c s p ≡ Some v → is_accepted v ≡ true → MayCreate s.nodes p × IsUntried c run s sound p
  may_create [] v is accepted = refused AdapterAlreadyExists v is accepted
  may_create (x ∷ p) v is accepted =
      let (n, lives, done) =
      lived s (parent_path (x ∷ p))
      (λ n. if is_none (template c (x ∷ p)) then refusal NoTemplate else if is_tried s.flights (x ∷ p) then None else elim (node_at s.nodes (x ∷ p)) [
        | Some old ↦ (if old.dying then None else refusal AdapterAlreadyExists)
        | None ↦ (if nat_le 65536 s.count then refusal (TooMany s.count) else Some (Answer Good))
      ]) v is accepted in
      let (stands, placed, living, found) = live_tells s (parent_path (x ∷ p)) n lives in
      cond_both (is_none (template c (x ∷ p))) _ _ (λ o. o ≡ Some v → MayCreate s.nodes (x ∷ p) × IsUntried c run s sound (x ∷ p))
      (λ _ no_. refused NoTemplate v no_ accepted)
      (λ _. cond_both (is_tried s.flights (x ∷ p)) _ _ (λ o. o ≡ Some v → MayCreate s.nodes (x ∷ p) × IsUntried c run s sound (x ∷ p))
      (λ _ none. held v none)
      (λ untried rest. (
        record {
          parent = n;
          name = last_of x p;
          stands = stands;
          living = living;
          child = path_parts x p ∙ ap (λ q. q ++ last_of x p ∷ []) (sym placed);
          free = elim (node_at s.nodes (x ∷ p)) as (λ o. node_at s.nodes (x ∷ p) ≡ o → (elim o [
            | Some old ↦
                (if old.dying then None else refusal AdapterAlreadyExists)
            | None ↦ (if nat_le 65536 s.count then refusal (TooMany s.count) else Some (Answer Good))
          ]) ≡ Some v → (m : Node) → In m s.nodes → m.path ≡ x ∷ p → ⊥) [
            | None ↦ λ none _. node_missing s.nodes (x ∷ p) none
            | Some old ↦
                λ _ row. cond_both old.dying _ _ (λ o. o ≡ Some v → (m : Node) → In m s.nodes → m.path ≡ x ∷ p → ⊥) (λ _ none. held v none)
                (λ _ no_. refused AdapterAlreadyExists v no_ accepted) row
          ] refl rest;
        },
        untried_by c run s sound (x ∷ p) untried,
      ))) done

  fresh_live : FreshIds → NextFits → (p : List (List ℕ)) (n : Node) → live_at s p ≡ Some n → makes_ids (policies_at c p) ≡ true
      → MayLive c run (with_made s) (with_made_sound c run s sound) (number_at s p) p (made_id run (suc s.made))
  fresh_live fresh fits p n lives makes =
      let (stands, placed, living, found) = live_tells s p n lives in
      record {
        node = n;
        stands = stands;
        numbered = number_live s p n found;
        placed = placed;
        over = λ a is at_k of_id. fresh n stands (subst (λ q. makes_ids (policies_at c q) ≡ true) (sym placed) makes) a is
            (at_k ∙ sym (number_live s p n found)) of_id;
        made = fits p;
      }

  pub may_activate : FreshIds → NextFits → (p : List (List ℕ)) (servant : List ℕ) (v : Verdict) → activate_row c run s p servant ≡ Some v → is_accepted v ≡ true
      → MayLive c run (with_made s) (with_made_sound c run s sound) (number_at s p) p (made_id run (suc s.made))
  may_activate fresh fits p servant v is accepted =
      let (n, lives, done) =
      lived s p
      (λ n. if not (retains (policies_at c p) && makes_ids (policies_at c p)) then refusal WrongPolicy else with_servant c servant
      (λ k. if is_taken c s n k then refusal ServantAlreadyActive else Some (Answer (GoodId (made_id run (suc s.made)))))) v is accepted in
      fresh_live fresh fits p n lives
      (elim (cases_Bool (retains (policies_at c p) && makes_ids (policies_at c p))) [
        | inl both ↦ (and_parts (retains (policies_at c p)) (makes_ids (policies_at c p)) both).1
        | inr wrong ↦
            refused WrongPolicy v
            (ap (λ b. if not b then refusal WrongPolicy else with_servant c servant
            (λ k. if is_taken c s n k then refusal ServantAlreadyActive else Some (Answer (GoodId (made_id run (suc s.made)))))) (sym wrong) ∙ done) accepted
      ])

  -- an activation of the id that isn't over would hold the command
  pub may_activate_id : (p : List (List ℕ)) (oid servant : List ℕ) (v : Verdict) → activate_id_row c run s p oid servant ≡ Some v → is_accepted v ≡ true
      → MayLive c run s sound (number_at s p) p oid
  may_activate_id p oid servant v is accepted =
      let (n, lives, done) = lived s p (λ n. if not (retains (policies_at c p)) then refusal WrongPolicy else with_servant c servant (after n)) v is accepted in
      let (stands, placed, living, found) = live_tells s p n lives in
      cond_both (not (retains (policies_at c p))) _ _ (λ o. o ≡ Some v → MayLive c run s sound (number_at s p) p oid)
      (λ _ no_. refused WrongPolicy v no_ accepted)
      (λ _ more. (let (k, number, row) = known c servant (after n) v more accepted in
      record {
        node = n;
        stands = stands;
        numbered = number_live s p n found;
        placed = placed;
        over = λ a is' at_k of_id. over_by_row n k row a is' (at_k ∙ sym (number_live s p n found)) of_id;
        made = good_by_row n k row;
      })) done
    where
      after : Node → ℕ → Option Verdict
      after n k =
          if is_bad_id c run s.made p oid then refusal BadId
          else if list_any (λ a. is_of n.number oid a && is_active a) s.activations then refusal ObjectAlreadyActive
          else if list_any (λ a. is_of n.number oid a && not (is_over c a)) s.activations then None
          else if is_taken c s n k then refusal ServantAlreadyActive
          else Some (Answer Good)

      good_by_row : (n : Node) (k : ℕ) → after n k ≡ Some v → is_bad_id c run s.made p oid ≡ false
      good_by_row n k row =
          elim (cases_Bool (is_bad_id c run s.made p oid)) [
            | inl bad ↦
                refused BadId v
                (ap (λ b. if b then refusal BadId else if list_any
                (λ a. is_of n.number oid a && is_active a) s.activations then refusal ObjectAlreadyActive else if list_any
                (λ a. is_of n.number oid a && not (is_over c a)) s.activations then None else if is_taken c s n k then refusal ServantAlreadyActive else Some
                (Answer Good)) (sym bad) ∙ row) accepted
            | inr good ↦ good
          ]

      over_by_row : (n : Node) (k : ℕ) → after n k ≡ Some v → (a : Activation) → In a s.activations → a.adapter ≡ n.number → a.oid ≡ oid → is_over c a ≡ true
      over_by_row n k row a is' at_k of_id =
          elim (cases_Bool (is_over c a)) [
            | inl over ↦ over
            | inr alive ↦ cond_both (is_bad_id c run s.made p oid) _ _ (λ o. o ≡ Some v → is_over c a ≡ true)
                (λ _ no_. refused BadId v no_ accepted)
                (λ _. cond_both (list_any (λ b. is_of n.number oid b && is_active b) s.activations) _ _ (λ o. o ≡ Some v → is_over c a ≡ true)
                (λ _ no_. refused ObjectAlreadyActive v no_ accepted)
                (λ _. cond_both (list_any (λ b. is_of n.number oid b && not (is_over c b)) s.activations) _ _ (λ o. o ≡ Some v → is_over c a ≡ true)
                (λ _ none. held v none)
                (λ none _. absurd
                (true≢false
                (sym (ap₂ (λ x y. x && y) (ap₂ (λ x y. x && y) (eq-eqb _ _ at_k) (ap (λ i. same_bytes i oid) of_id ∙ same_self oid)) (ap not alive))
                ∙ none_by (λ b. is_of n.number oid b && not (is_over c b)) a s.activations is' none))))) row
          ]

  pub may_reference : FreshIds → NextFits → (p : List (List ℕ)) (servant : List ℕ) (n : Node) (k : ℕ) → live_at s p ≡ Some n
      → (is_implicit c s n k ≡ true → makes_ids (policies_at c p) ≡ true) → is_implicit c s n k ≡ true
      → MayLive c run (with_made s) (with_made_sound c run s sound) (number_at s p) p (made_id run (suc s.made))
  may_reference fresh fits p servant n k lives makes implicit = fresh_live fresh fits p n lives (makes implicit)
