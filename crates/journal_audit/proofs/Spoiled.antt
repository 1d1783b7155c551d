-- A history with an entry that may not follow the ones before it isn't legal, and has one first such entry.
use Rattle.std.proofs.Common.{◌≡◌, ℕ, suc, List, [], ◌∷◌, ◌++◌, length, reverse, refl, sym, ◌∙◌, ap, ap₂, subst, append_assoc, append-nil}
use Rattle.std.proofs.lemmas.List.{reverse-append, reverse-reverse}
use Rattle.poa_base.specs.declared.Config.{Config}
use Rattle.poa_base.specs.declared.Entry.{Entry}
use Rattle.poa_history.specs.Legal.{IsLegal, MayFollow}
use Rattle.journal_audit.specs.Rules.{rule_of}
use Rattle.journal_audit.specs.declared.rule.Rule.{Rule}
use Rattle.journal_audit.specs.FirstBad.{IsFirstBad}

-- entries, the oldest first, that follow a history
abbrev pub onto : List Entry → List Entry → List Entry
onto [] past = past
onto (e ∷ es) past = onto es (e ∷ past)

onto_append : (a b past : List Entry) → onto (a ++ b) past ≡ onto b (onto a past)
onto_append [] b past = refl
onto_append (e ∷ a) b past = onto_append a b (e ∷ past)

onto_is : (es past : List Entry) → onto es past ≡ reverse es ++ past
onto_is [] past = refl
onto_is (e ∷ es) past = onto_is es (e ∷ past) ∙ (sym (append_assoc (reverse es) (e ∷ []) past) ∙ ap (λ h. h ++ past) (sym (reverse-append (e ∷ []) es)))

onto_none : (es : List Entry) → onto es [] ≡ reverse es
onto_none es = onto_is es [] ∙ append-nil (reverse es)

back : (past : List Entry) → onto (reverse past) [] ≡ past
back past = onto_none (reverse past) ∙ reverse-reverse past

module _ (c : Config) (run limit : ℕ) where
  -- what goes on legally was legal before
  legal_before : (more past : List Entry) → IsLegal c run limit (onto more past) → IsLegal c run limit past
  legal_before [] past legal = legal
  legal_before (e ∷ more) past legal = (legal_before more (e ∷ past) legal).1

  pub spoiled : (entries : List Entry) (place : ℕ) (rule : Rule) → IsFirstBad c run limit entries place rule
      → IsLegal c run limit (reverse entries) → ⊥
  spoiled entries place rule first legal =
      let whole : reverse entries ≡ onto first.behind (first.bad ∷ first.past) =
      sym (onto_none entries) ∙ (ap (λ es. onto es []) first.parts
      ∙ (onto_append (reverse first.past) (first.bad ∷ first.behind) [] ∙ ap (λ h. onto first.behind (first.bad ∷ h)) (back first.past))) in
      let after : IsLegal c run limit (first.bad ∷ first.past) =
      legal_before first.behind (first.bad ∷ first.past) (subst (λ (h : List Entry). IsLegal c run limit h) whole legal) in
      first.refused after.0

  -- of two cuts of the entries, each in front of one that may not follow
  pub record OneCut (front past : List Entry) (b : Entry) (other : List Entry) (d : Entry) : Type 0 where
    pub long : length front ≡ length other
    pub fronts : onto front past ≡ onto other past
    pub bad : b ≡ d

  one_cut : (past front other : List Entry) (b d : Entry) (x y : List Entry) → front ++ b ∷ x ≡ other ++ d ∷ y
      → IsLegal c run limit (onto front past) → (MayFollow c run limit (onto front past) b → ⊥)
      → IsLegal c run limit (onto other past) → (MayFollow c run limit (onto other past) d → ⊥) → OneCut front past b other d
  one_cut past [] [] b d x y same l never m none = record { long = refl; fronts = refl; bad = (let e : b ∷ x ≡ d ∷ y = same in cc) }
  one_cut past [] (f ∷ other) b d x y same l never m none =
      let here : b ∷ x ≡ f ∷ (other ++ d ∷ y) = same in
      let is : f ≡ b = cc in
      absurd (never (subst (λ e. MayFollow c run limit past e) is (legal_before other (f ∷ past) m).0))
  one_cut past (e ∷ front) [] b d x y same l never m none =
      let here : e ∷ (front ++ b ∷ x) ≡ d ∷ y = same in
      let is : e ≡ d = cc in
      absurd (none (subst (λ k. MayFollow c run limit past k) is (legal_before front (e ∷ past) l).0))
  one_cut past (e ∷ front) (f ∷ other) b d x y same l never m none =
      let here : e ∷ (front ++ b ∷ x) ≡ f ∷ (other ++ d ∷ y) = same in
      let is : f ≡ e = cc in
      let rest : front ++ b ∷ x ≡ other ++ d ∷ y = cc in
      let cut = one_cut (e ∷ past) front other b d x y rest l never
      (subst (λ k. IsLegal c run limit (onto other (k ∷ past))) is m)
      (subst (λ k. MayFollow c run limit (onto other (k ∷ past)) d → ⊥) is none) in
      record { long = ap suc cut.long; fronts = cut.fronts ∙ ap (λ k. onto other (k ∷ past)) (sym is); bad = cut.bad }

  pub one_first : (entries : List Entry) (place other : ℕ) (rule breaks : Rule) → IsFirstBad c run limit entries place rule
      → IsFirstBad c run limit entries other breaks → (place ≡ other) × (rule ≡ breaks)
  one_first entries place other rule breaks p q =
      let cut = one_cut [] (reverse p.past) (reverse q.past) p.bad q.bad p.behind q.behind (sym p.parts ∙ q.parts)
      (subst (λ (h : List Entry). IsLegal c run limit h) (sym (back p.past)) p.legal)
      (subst (λ (h : List Entry). MayFollow c run limit h p.bad → ⊥) (sym (back p.past)) p.refused)
      (subst (λ (h : List Entry). IsLegal c run limit h) (sym (back q.past)) q.legal)
      (subst (λ (h : List Entry). MayFollow c run limit h q.bad → ⊥) (sym (back q.past)) q.refused) in
      let same : p.past ≡ q.past = sym (back p.past) ∙ (cut.fronts ∙ back q.past) in (
        p.stands ∙ (ap length same ∙ sym q.stands),
        p.broken ∙ (ap₂ rule_of same cut.bad ∙ sym q.broken),
      )
