-- What was done so far, with whatever follows, is the whole.
use Rattle.std.proofs.Common.{◌≡◌, ℕ, List, [], ◌++◌, refl, sym, ap, ◌∙◌, subst, append_assoc, append-nil}
use Rattle.poa_history.specs.Life.{Life}
use Rattle.replay_run.specs.declared.player.Player.{Player}
use Rattle.replay_run.specs.Effects.{Works}

abbrev pub Onward : {S : Type 0} → (S → List ℕ → S → Type 0) → S → List ℕ → S → Type 0
Onward {S} R before done now = (more : List ℕ) (last : S) → R now more last → R before (done ++ more) last

pub onward_then : {S : Type 0} (R : S → List ℕ → S → Type 0) (a b c : S) (s t : List ℕ) → Onward R a s b → Onward R b t c → Onward R a (s ++ t) c
onward_then R a b c s t p q more last r = subst (λ (x : List ℕ). R a x last) (sym (append_assoc s t more)) (p (t ++ more) last (q more last r))

-- texts printed one behind the other
pub printed_then : (a b c s t : List ℕ) → b ≡ a ++ s → c ≡ b ++ t → c ≡ a ++ (s ++ t)
printed_then a b c s t p q = q ∙ (ap (λ (x : List ℕ). x ++ t) p ∙ append_assoc a s t)

module _ (P Q R : Life → List ℕ → Life → Type 0) (a b c : Player) where
  pub works_join : ((s t : List ℕ) → P a.core s b.core → Q b.core t c.core → R a.core (s ++ t) c.core) → Works P a b → Works Q b c → Works R a c
  works_join step p q = record {
    text = p.text ++ q.text;
    printed = printed_then a.printed.items b.printed.items c.printed.items p.text q.text p.printed q.printed;
    does = step p.text q.text p.does q.does;
    filled = q.filled ∙ p.filled;
    turned_away = q.turned_away ∙ p.turned_away;
  }

pub works_onward : (R : Life → List ℕ → Life → Type 0) (a b c : Player) → Works (Onward R) a b → Works (Onward R) b c → Works (Onward R) a c
works_onward R a b c = works_join (Onward R) (Onward R) (Onward R) a b c (λ s t p q. onward_then R a.core b.core c.core s t p q)

pub works_end : (R : Life → List ℕ → Life → Type 0) (a b c : Player) → Works (Onward R) a b → Works R b c → Works R a c
works_end R a b c = works_join (Onward R) R R a b c (λ s t p q. p t c.core q)

-- nothing was printed, and nothing changed
pub works_still : (R : Life → List ℕ → Life → Type 0) (a b : Player) → b ≡ a → R a.core [] a.core → Works R a b
works_still R a b same r = subst (λ (x : Player). Works R a x) (sym same) (record {
  text = [];
  printed = sym (append-nil a.printed.items);
  does = r;
  filled = refl;
  turned_away = refl;
})

pub works_none : (R : Life → List ℕ → Life → Type 0) (a : Player) → Works (Onward R) a a
works_none R a = works_still (Onward R) a a refl (λ more last r. r)
