-- The same of a connection, and of the world.
use Rattle.std.proofs.Common.{ℕ, List, [], ◌++◌, refl, sym, ◌∙◌, append-nil}
use Rattle.replay_run.specs.declared.channel.Channel.{Channel}
use Rattle.replay_run.specs.declared.player.Player.{Player}
use Rattle.replay_run.specs.World.{World, Talk}
use Rattle.replay_run.specs.Keeping.{Tells, Shows, talk, world}
use Rattle.replay_run.proofs.PlayedOnward.{Onward, onward_then, printed_then}

module _ (P Q R : Talk → List ℕ → Talk → Type 0) (a b c : Player) (x y z : Channel) where
  pub tells_join : ((s t : List ℕ) → P (talk a x) s (talk b y) → Q (talk b y) t (talk c z) → R (talk a x) (s ++ t) (talk c z)) → Tells P a b x y
      → Tells Q b c y z → Tells R a c x z
  tells_join step p q = record {
    text = p.text ++ q.text;
    printed = printed_then a.printed.items b.printed.items c.printed.items p.text q.text p.printed q.printed;
    does = step p.text q.text p.does q.does;
    filled = λ known. q.filled (p.filled known);
    turned_away = q.turned_away ∙ p.turned_away;
  }

pub tells_onward : (R : Talk → List ℕ → Talk → Type 0) (a b c : Player) (x y z : Channel) → Tells (Onward R) a b x y → Tells (Onward R) b c y z
    → Tells (Onward R) a c x z
tells_onward R a b c x y z = tells_join (Onward R) (Onward R) (Onward R) a b c x y z (λ s t p q. onward_then R (talk a x) (talk b y) (talk c z) s t p q)

pub tells_end : (R : Talk → List ℕ → Talk → Type 0) (a b c : Player) (x y z : Channel) → Tells (Onward R) a b x y → Tells R b c y z → Tells R a c x z
tells_end R a b c x y z = tells_join (Onward R) R R a b c x y z (λ s t p q. p t (talk c z) q)

pub tells_none : (R : Talk → List ℕ → Talk → Type 0) (a : Player) (x : Channel) → Tells (Onward R) a a x x
tells_none R a x = record {
  text = [];
  printed = sym (append-nil a.printed.items);
  does = λ more last r. r;
  filled = λ known. known;
  turned_away = refl;
}

module _ (P Q R : World → List ℕ → World → Type 0) (a b c : Player) (xs ys zs : List Channel) where
  pub shows_join : ((s t : List ℕ) → P (world a xs) s (world b ys) → Q (world b ys) t (world c zs) → R (world a xs) (s ++ t) (world c zs)) → Shows P a b xs ys
      → Shows Q b c ys zs → Shows R a c xs zs
  shows_join step p q = record {
    text = p.text ++ q.text;
    printed = printed_then a.printed.items b.printed.items c.printed.items p.text q.text p.printed q.printed;
    does = step p.text q.text p.does q.does;
  }
