-- What is played quietly is what is played, and the messages that are gathered stand one behind the other.
use Rattle.std.proofs.Common.{arith, ◌≡◌, ℕ, ◌+◌, ◌<◌, ◌≤◌, List, [], ◌∷◌, ◌++◌, Option, Some, None, length, get_or, refl, sym, subst, append-nil}
use Rattle.poa_base.specs.declared.Config.{Config}
use Rattle.poa_base.specs.declared.Head.{Head}
use Rattle.poa_base.specs.declared.Reply.{Reply}
use Rattle.poa_history.specs.Life.{Life, givens_of}
use Rattle.history_standing.specs.Arrivals.{connections}
use Rattle.poa_core.specs.Answers.{Collects}
use Rattle.poa_core.specs.declared.Collected.TheVariants as collected
use Rattle.replay_script.specs.declared.Step.{Step}
use Rattle.replay_run.specs.declared.player.Player.{Player}
use Rattle.replay_run.specs.Collecting.{CollectsAll}
use Rattle.replay_run.specs.Working.{Rests}
use Rattle.replay_run.specs.Effects.{Works}
use Rattle.replay_run.proofs.PlayedOnward.{Onward, onward_then, printed_then}
use Rattle.replay_run.proofs.Same.{Still, Same, Givens, same_givens, still_life, still_then, still_stays, still_collects, still_settles}
use Rattle.replay_run.proofs.Collected.{collected_one}
use Rattle.replay_run.specs.declared.channel.Channel.{Channel}
use Rattle.replay_run.specs.Playing.{OnLife, Plays}
use Rattle.replay_run.specs.Keeping.{Keeps, Shows, world}
use Rattle.replay_run.specs.Quiet.{Gathers, GathersEach, GathersOf, HasGivens, PutsBehind, Quietly, message_of}
use Rattle.replay_run.proofs.Seats.{keeps_still}
use Rattle.replay_run.proofs.Steps.{play_givens}
use Rattle.replay_run.proofs.Whole.{life_shows}
use Rattle.replay_run.proofs.Listed.{Ahead, ahead_more, ahead_end, front}

pub has_givens : (old new : Life) → Givens old new → HasGivens old new
has_givens old new g = rw (g.config, g.run, g.limit, g.opening) refl

pub still_givens : (old new : Life) → Still old new → HasGivens old new
still_givens old new s = has_givens old new (same_givens old new s.same)

pub played : (s : Step) (old new : Player) (xs ys : List Channel) → Shows (Plays s) old new xs ys → Quietly (Plays s) (world old xs) (world new ys)
played s old new xs ys p = record { text = p.text; does = p.does }

pub played_givens : (s : Step) (old new : Player) (xs ys : List Channel) → Shows (Plays s) old new xs ys → HasGivens old.core new.core
played_givens s old new xs ys p = has_givens old.core new.core (play_givens s (world old xs) p.text (world new ys) p.does)

pub settled : (old new : Player) (xs : List Channel) → Works Rests old new → Quietly (OnLife Rests) (world old xs) (world new xs)
settled old new xs p = (let s : Shows (OnLife Rests) old new xs xs = life_shows Rests old new xs p in record { text = s.text; does = s.does })

-- what was printed doesn't matter
pub keeps_cleared : (old new : Player) (xs : List Channel) → new.core ≡ old.core → new.filled ≡ old.filled → Keeps old xs → Keeps new xs
keeps_cleared old new xs core filled k = keeps_still old new xs k (subst (λ (l : Life). Still old.core l) (sym core) (still_life old.core)) filled

module _ {S : Type 0} (P Q R : S → List ℕ → S → Type 0) (a b c : S) (u v w : List ℕ) where
  pub puts_join : ((s t : List ℕ) → P a s b → Q b t c → R a (s ++ t) c) → PutsBehind P u v a b → PutsBehind Q v w b c → PutsBehind R u w a c
  puts_join step p q = record {
    bytes = p.bytes ++ q.bytes;
    put = printed_then u v w p.bytes q.bytes p.put q.put;
    does = step p.bytes q.bytes p.does q.does;
  }

pub puts_none : {S : Type 0} (P : S → List ℕ → S → Type 0) (a : S) (u : List ℕ) → P a [] a → PutsBehind P u u a a
puts_none P a u done = record { bytes = []; put = sym (append-nil u); does = done }

-- a message in front of others
pub gathers_one : (conn : ℕ) (a b c : Life) (r : ℕ) (head : Head) (reply : Reply) (u v w : List ℕ) → Collects conn b (collected.Reply r head reply) c
    → w ≡ v ++ message_of head reply
    → PutsBehind (Onward (CollectsAll message_of conn)) u v a b → PutsBehind (Onward (CollectsAll message_of conn)) u w a c
gathers_one conn a b c r head reply u v w collects put p =
    puts_join (Onward (CollectsAll message_of conn)) (Onward (CollectsAll message_of conn)) (Onward (CollectsAll message_of conn)) a b c u v w
    (λ s t before next. onward_then (CollectsAll message_of conn) a b c s t before next)
    p (record { bytes = message_of head reply; put = put; does = λ more last all. collected_one message_of conn b c last r head reply more collects all })

-- none is left
pub gathers_end : (conn : ℕ) (a b c : Life) (u v : List ℕ) → CollectsAll message_of conn b [] c → PutsBehind (Onward (CollectsAll message_of conn)) u v a b
    → PutsBehind (CollectsAll message_of conn) u v a c
gathers_end conn a b c u v none p = record {
  bytes = p.bytes;
  put = p.put;
  does = subst (λ (t : List ℕ). CollectsAll message_of conn a t c) (append-nil p.bytes) (p.does [] c none);
}

pub still_of : (number : Option ℕ) (a : Life) (text : List ℕ) (b : Life) → GathersOf number a text b → Still a b
still_of None a text b s = still_stays a text b s
still_of (Some conn) a text b s = still_collects message_of conn a text b s

pub still_each : (channels : List Channel) (a : Life) (text : List ℕ) (b : Life) → GathersEach channels a text b → Still a b
still_each [] a text b s = still_stays a text b s
still_each (c ∷ cs) a text b t = still_then a t.between b (still_of c.number a t.front t.between t.first) (still_each cs t.between t.rest b t.second)

-- a connection more
pub each_more : (channels : List Channel) (i : ℕ) (channel : Channel) → i < length channels → channel ≡ get_or channels i channel
    → (a b c : Life) (u v w : List ℕ)
    → PutsBehind (Ahead GathersEach channels i) u v a b → PutsBehind (GathersOf channel.number) v w b c
    → PutsBehind (Ahead GathersEach channels (i + 1)) u w a c
each_more channels i channel less is a b c u v w =
    puts_join (Ahead GathersEach channels i) (GathersOf channel.number) (Ahead GathersEach channels (i + 1)) a b c u v w
    (λ s t p q. ahead_more GathersEach (λ x. GathersOf x.number)
    (λ x rest a b c s t one more. record { between = b; front = s; rest = t; first = one; second = more; joined = refl })
    channels i channel (front channels i channel less is) a b c s t p q)

pub each_end : (channels : List Channel) (i : ℕ) → length channels ≤ i → (a b : Life) (u v : List ℕ) → PutsBehind (Ahead GathersEach channels i) u v a b
    → PutsBehind (GathersEach channels) u v a b
each_end channels i more a b u v p = record {
  bytes = p.bytes;
  put = p.put;
  does = ahead_end GathersEach (λ s. (refl, refl)) channels i more a b p.bytes p.does;
}

pub entered_conn : (conn : ℕ) (a b : Life) → Still a b → conn < connections a.history → conn < connections b.history
entered_conn conn a b s less = omega (arith, s.same.entered, less)

-- the connections of a play
pub gathered : (old : Player) (core : Life) (xs : List Channel) (u v : List ℕ) → PutsBehind (GathersEach xs) u v old.core core
    → PutsBehind Gathers u v (world old xs) (record (world old xs) { life = core })
gathered old core xs u v p = record { bytes = p.bytes; put = p.put; does = record { life = core; does = p.does; became = refl } }
