-- How far a write of a whole piece has come.
use Rattle.std.proofs.Common.{◌≡◌, ℕ, ◌-◌, List, [], ◌++◌, length, take, drop, true, false, refl, sym, ap, subst, ◌∙◌, append_assoc}
use Rattle.std.proofs.lemmas.List.{take-append-drop, take_rest}
use Rattle.outside.specs.Link.{Shown, Moves, Writes}
use Rattle.outside.proofs.Moving.{moves_none, moves_out, moves_still}

-- the link took a front of the bytes, and this rest follows it
pub record Written (a b : Shown) (bytes rest : List ℕ) : Type 0 where
  pub front : List ℕ
  pub cut : bytes ≡ front ++ rest
  pub moved : Moves a b [] front

pub written_none : (a : Shown) (bytes : List ℕ) → Written a a bytes bytes
written_none a bytes = record { front = []; cut = refl; moved = moves_none a }

pub written_more : (a b z : Shown) (bytes rest : List ℕ) (n : ℕ) → Written a b bytes rest → Moves b z [] (take n rest) → Written a z bytes (drop n rest)
written_more a b z bytes rest n w more = record {
  front = w.front ++ take n rest;
  cut = w.cut ∙ (ap (λ (back : List ℕ). w.front ++ back) (sym (take-append-drop n rest)) ∙ sym (append_assoc w.front (take n rest) (drop n rest)));
  moved = moves_out a b z [] w.front (take n rest) w.moved more;
}

-- the same, where the code cuts the rest
pub written_on : (a b z : Shown) (bytes rest : List ℕ) (n : ℕ) → Written a b bytes rest → Moves b z [] (take n rest)
    → Written a z bytes (take (length rest - n) (drop n rest))
written_on a b z bytes rest n w more = subst (Written a z bytes) (sym (take_rest rest n)) (written_more a b z bytes rest n w more)

pub written_all : (a b : Shown) (bytes rest : List ℕ) → Written a b bytes rest → rest ≡ [] → Writes bytes a b true
written_all a b bytes rest w none = record { done = w.front; rest = rest; moved = w.moved; front = w.cut; all = λ _. none }

pub written_part : (a b z : Shown) (bytes rest : List ℕ) → Written a b bytes rest → Moves b z [] [] → Writes bytes a z false
written_part a b z bytes rest w still =
    record {
      done = w.front;
      rest = rest;
      moved = moves_still a b z [] w.front w.moved still;
      front = w.cut;
      all = λ is. absurd (let e : false ≡ true = is in cc);
    }

-- where there is nothing to write
pub written_nothing : (a : Shown) → Writes [] a a true
written_nothing a = record { done = []; rest = []; moved = moves_none a; front = refl; all = λ _. refl }
