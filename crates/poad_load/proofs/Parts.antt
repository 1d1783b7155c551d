-- Parts of a load one behind the other.
use Rattle.std.proofs.Common.{arith, ◌≡◌, ℕ, suc, ◌+◌, ◌/◌, ◌%◌, ◌^◌, ◌<◌, ◌≤◌, if◌then◌else◌, List, [], ◌++◌, codes, decimal, length, refl, sym, ◌∙◌, ap, subst, add-one}
use Rattle.std.proofs.lemmas.Fmt.{length-decimal-le_succ}
use Rattle.std.proofs.lemmas.Nat.{mod_below}
use Rattle.poa_base.specs.declared.Config.{Config}
use Rattle.poa_history.specs.Legal.{IsLegal}
use Rattle.poa_history.specs.Lifetime.{HasLifetime}
use Rattle.poa_history.specs.Life.{Life, givens_of}
use Rattle.poa_history.specs.declared.Givens.{Givens}
use Rattle.replay_run.specs.Opening.{life_at_first}
use Rattle.poa_core.specs.Stored.{Stores}
use Rattle.replay_run.specs.Working.{Rests, Stays, Then}
use Rattle.replay_run.proofs.PlayedOnward.{printed_then}
use Rattle.replay_run.specs.World.{World}
use Rattle.replay_run.specs.Playing.{IsOpening, OnLife, Plays}
use Rattle.replay_run.specs.Quiet.{Gathers, HasGivens, IsInPlay, PutsBehind, Quietly, world_of}
use Rattle.replay_run.specs.declared.QuietPlay.{QuietPlay}
use Rattle.poad_load.specs.Counts.{IsLoaded, load_text}
use Rattle.poad_load.specs.Loading.{Ends, EntersFirst, Finishes, PlaysDraw, PlaysDraws}
use Rattle.poad_load.specs.Schedule.{draw, is_command, names, next_id, next_number, number_behind, object, object_id, shutdown}
use Rattle.poad_load.specs.Played.{Collected, Played, Tells}

-- nothing was played
pub played_none : (play : QuietPlay) → IsInPlay play → Played Stays play play
played_none play keeps = record { does = record { text = []; does = (refl, refl) }; givens = refl; in_play = keeps }

pub played_then : (P Q : World → List ℕ → World → Type 0) (a b c : QuietPlay) → Played P a b → Quietly Q (world_of b) (world_of c)
    → HasGivens (world_of b).life (world_of c).life → IsInPlay c → Played (Then P Q) a c
played_then P Q a b c p does givens keeps = record {
  does = record {
    text = p.does.text ++ does.text;
    does = record { between = world_of b; front = p.does.text; rest = does.text; first = p.does.does; second = does.does; joined = refl };
  };
  givens = givens ∙ p.givens;
  in_play = keeps;
}

pub both_played : (P Q : World → List ℕ → World → Type 0) (a b c : QuietPlay) → Played P a b → Played Q b c → Played (Then P Q) a c
both_played P Q a b c p q = played_then P Q a b c p q.does q.givens q.in_play

pub first_played : (P Q : World → List ℕ → World → Type 0) (a b c : QuietPlay) → Quietly P (world_of a) (world_of b)
    → HasGivens (world_of a).life (world_of b).life
    → Played Q b c → Played (Then P Q) a c
first_played P Q a b c does givens q = record {
  does = record {
    text = does.text ++ q.does.text;
    does = record { between = world_of b; front = does.text; rest = q.does.text; first = does.does; second = q.does.does; joined = refl };
  };
  givens = q.givens ∙ givens;
  in_play = q.in_play;
}

pub finished : (a b c : QuietPlay) (u v : List ℕ) → Quietly (OnLife Rests) (world_of a) (world_of b) → HasGivens (world_of a).life (world_of b).life
    → PutsBehind Gathers u v (world_of b) (world_of c) → HasGivens (world_of b).life (world_of c).life → IsInPlay c → Collected Finishes u v a c
finished a b c u v rests same gathers more keeps = record {
  puts = record { bytes = gathers.bytes; put = gathers.put; does = record { rested = world_of b; rests = rests; gathers = gathers.does } };
  givens = more ∙ same;
  in_play = keeps;
}

pub ended : (a b c d : QuietPlay) (u v w : List ℕ) → Collected Finishes u v a b → Quietly (Plays shutdown) (world_of b) (world_of c)
    → HasGivens (world_of b).life (world_of c).life
    → Collected Finishes v w c d → Collected Ends u w a d
ended a b c d u v w p stops same q = record {
  puts = record {
    bytes = p.puts.bytes ++ q.puts.bytes;
    put = printed_then u v w p.puts.bytes q.puts.bytes p.puts.put q.puts.put;
    does = record {
      finished = world_of b;
      stopped = world_of c;
      front = p.puts.bytes;
      rest = q.puts.bytes;
      finishes = p.puts.does;
      stops = stops;
      ends = q.puts.does;
      joined = refl;
    };
  };
  givens = q.givens ∙ (same ∙ p.givens);
  in_play = q.in_play;
}

-- a run with the givens of a configuration is one of it
pub legal_by : (c : Config) (limit : ℕ) (first last : Life) → first ≡ life_at_first c limit → HasGivens first last
    → IsLegal last.config last.run last.limit last.history
    → IsLegal c c.run limit last.history
legal_by c limit first last at same legal = subst (λ (g : Givens). IsLegal g.config g.run g.limit last.history) (same ∙ ap givens_of at) legal

pub lifetime_by : (c : Config) (limit : ℕ) (first last : Life) → first ≡ life_at_first c limit → HasGivens first last
    → HasLifetime last.config last.run last.history
    → HasLifetime c c.run last.history
lifetime_by c limit first last at same kept = subst (λ (g : Givens). HasLifetime g.config g.run last.history) (same ∙ ap givens_of at) kept

-- one of a row more
pub one_more : (P : ℕ → World → List ℕ → World → Type 0) (n : ℕ) (a b : QuietPlay) → Played (P (suc n)) a b → Played (P (n + 1)) a b
one_more P n a b p = subst (λ (m : ℕ). Played (P m) a b) (sym (add-one n)) p

-- the generator, its draw, and the id of the next request, one draw later
pub number_at : (start i old new : ℕ) → old ≡ number_behind start i → new ≡ next_number old → new ≡ number_behind start (i + 1)
number_at start i old new was is = is ∙ (ap next_number was ∙ ap (number_behind start) (sym (add-one i)))

pub bits_at : (start i old new bits : ℕ) → old ≡ number_behind start i → new ≡ next_number old → bits ≡ new / 2 ^ 33 → bits ≡ draw start i
bits_at start i old new bits was is drawn = drawn ∙ ap (λ (x : ℕ). x / 2 ^ 33) (is ∙ ap next_number was)

pub id_at : (start i old new bits : ℕ) → old ≡ next_id start i → bits ≡ draw start i → new ≡ (if is_command bits then old else old + 1)
    → new ≡ next_id start (i + 1)
id_at start i old new bits was drawn is =
    is ∙ (ap (λ (d : ℕ). if is_command d then old else old + 1) drawn
    ∙ (ap (λ (n : ℕ). if is_command (draw start i) then n else n + 1) was ∙ ap (next_id start) (sym (add-one i))))

pub draws_more : (start i id bits : ℕ) (a b c : QuietPlay) → id ≡ next_id start i → bits ≡ draw start i → Played (PlaysDraws start i) a b
    → Played (PlaysDraw id bits) b c
    → Played (PlaysDraws start (i + 1)) a c
draws_more start i id bits a b c was drawn p q = one_more (PlaysDraws start) i a c
    (both_played (PlaysDraws start i) (PlaysDraw (next_id start i) (draw start i)) a b c p
    (subst (λ (n : ℕ). Played (PlaysDraw n (draw start i)) b c) was (subst (λ (d : ℕ). Played (PlaysDraw id d) b c) drawn q)))

-- `o` and a number below sixteen
pub short_id : (d : ℕ) (bytes : List ℕ) → bytes ≡ object_id d → length bytes ≤ 256
short_id d bytes is =
    let small : object d < 16 = mod_below (d / 4) 16 (omega arith) in
    let digits : length (decimal (object d)) ≤ object d + 1 = length-decimal-le_succ (object d) (omega (arith, small)) in
    let one : length (object_id d) ≡ suc (length (decimal (object d))) = refl in
    subst (λ (b : List ℕ). length b ≤ 256) (sym is) (omega (arith, small, digits, one))

-- a load from its first entry to its lines
pub is_loaded : (c : Config) (n start : ℕ) (p q r s : QuietPlay) (u v : List ℕ) (life : Life) (text : List ℕ) → IsOpening c 4000000 names (world_of p)
    → Played (EntersFirst 5) p q → Played (PlaysDraws start n) q r → Collected Ends u v r s → u ≡ [] → life ≡ (world_of s).life → Tells n life v text
    → IsLegal life.config life.run life.limit life.history → HasLifetime life.config life.run life.history → IsLoaded c n start text
is_loaded c n start p q r s u v life text opens enters draws ends empty at tells legal lifetime =
    let all : v ≡ ends.puts.bytes = ends.puts.put ∙ ap (λ (x : List ℕ). x ++ ends.puts.bytes) empty in
    let givens : HasGivens (world_of p).life (world_of s).life = ends.givens ∙ (draws.givens ∙ enters.givens) in
    record {
      messages = v;
      last = world_of s;
      slots = tells.slots;
      loads = record {
        opening = world_of p;
        entered = world_of q;
        drawn = world_of r;
        opens = opens;
        enters = enters.does;
        draws = draws.does;
        ends = subst (λ (b : List ℕ). Ends (world_of r) b (world_of s)) (sym all) ends.puts.does;
      };
      stores = subst (λ (l : Life). Stores l tells.slots) at tells.stores;
      told = tells.told ∙ ap (λ (l : Life). load_text n l.history v tells.slots) at;
      legal = legal_by c 4000000 (world_of p).life (world_of s).life opens.life givens
          (subst (λ (l : Life). IsLegal l.config l.run l.limit l.history) at legal);
      lifetime =
          lifetime_by c 4000000 (world_of p).life (world_of s).life opens.life givens (subst (λ (l : Life). HasLifetime l.config l.run l.history) at lifetime);
    }
