use Rattle.std.proofs.Common.{◌≡◌, ℕ, ◌∙◌, sym, subst, ap, ap₂, ◌∷◌, ◌-◌, List, drop, take, length, get_or, arith}
use Rattle.std.proofs.Math.Seq.{take-length}
use Rattle.std.proofs.lemmas.List.{length-drop}
use Rattle.object_key.specs.Reading.{names_of}
use Rattle.object_key.specs.Lent.{SpellsNames}
use Rattle.object_key.proofs.Names.{first_name}
use Rattle.object_key.proofs.path_view.PathView.split_first.Goals as goal

-- all behind the first byte
all_behind : (bytes : List ℕ) → take (length bytes - 1) (drop 1 bytes) ≡ drop 1 bytes
all_behind bytes = ap (λ n. take n (drop 1 bytes)) (sym (length-drop 1 bytes)) ∙ take-length (drop 1 bytes)

pub invariant_of-rest : goal.invariant_of-rest
invariant_of-rest c =
    let names : List ℕ = c.self.inside.names.now in
    let first = first_name c.self.inside.count names c.in-len1-up.len_at_least c.self.invariant.1 in (
      omega (arith, c.self.invariant.0),
      subst (λ b. SpellsNames (c.self.inside.count - 1) b)
          (ap (λ b. drop (get_or names 0 0) b) (sym (all_behind names)) ∙ sym c.split_at.ensures.back) first.others,
    )

pub returns-clause-some : goal.returns-clause-some
returns-clause-some c =
    let names : List ℕ = c.self.inside.names.now in
    let first = first_name c.self.inside.count names c.in-len1-up.len_at_least c.self.invariant.1 in
    sym c.self.view_is ∙ first.is
    ∙ ap (λ b. take (get_or names 0 0) b ∷ names_of (c.self.inside.count - 1) (drop (get_or names 0 0) b)) (sym (all_behind names))
    ∙ ap₂ (λ n b. n ∷ names_of (c.self.inside.count - 1) b) (sym c.split_at.ensures.front) (sym c.split_at.ensures.back)
