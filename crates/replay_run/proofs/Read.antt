-- What is heard over a connection, as the player reads it.
use Rattle.std.proofs.Common.{◌≡◌, ℕ, ◌+◌, length, Bool, true, false, ◌||◌, not, option_map, List, [], ◌++◌, refl, sym, ap, ◌∙◌, subst, append-nil}
use Rattle.replay_run.specs.declared.channel.Channel.{Channel}
use Rattle.replay_run.specs.declared.player.Player.{Player}
use Rattle.poa_base.specs.declared.Call.{Call}
use Rattle.poa_base.specs.declared.Call.TheVariants.{Line}
use Rattle.poa_base.specs.declared.Command.{Command}
use Rattle.admin_line.specs.Reading.{command_of_line}
use Rattle.poa_history.specs.Life.{Life}
use Rattle.session_laws.specs.HearingPieces.{Intake}
use Rattle.session_laws.specs.declared.told.Told.TheVariants as told
use Rattle.replay_run.specs.World.{Talk}
use Rattle.replay_run.specs.Working.{Either, Stays}
use Rattle.poa_core.specs.Answers.{filled_at}
use Rattle.replay_run.specs.Lines.{bad_line}
use Rattle.replay_run.specs.Effects.{numbers, KnowsFilled}
use Rattle.replay_run.specs.Reading.{ReadsOn, waits, closes, fails, skips, comes, Feeds, Grows, Hears, ReadsBytes}
use Rattle.replay_run.specs.Calling.{after_call, call_text}
use Rattle.replay_run.specs.Talking.{Commands, TakesLine, is_sized}
use Rattle.replay_run.specs.Keeping.{Tells, ReadsNext, talk}

-- bytes that were taken in behind what came, and read
pub feeds : (bytes : List ℕ) (conn : ℕ) (a b : Player) (x z : Channel) (input : Intake) → (x.dropped || x.ended) ≡ false → Grows x.input bytes input
    → Tells (ReadsOn conn) a b (record x { input = input }) z → Tells (Feeds bytes conn) a b x z
feeds bytes conn a b x z input is grows p = record {
  text = p.text;
  printed = p.printed;
  does = subst (λ (d : Bool). Either d Stays (ReadsBytes conn bytes) (talk a x) p.text (talk b z)) (sym is)
      (record { input = input; grows = grows; reads = p.does });
  filled = p.filled;
  turned_away = p.turned_away;
}

-- nothing is read
pub feeds_nothing : (bytes : List ℕ) (conn : ℕ) (a : Player) (x : Channel) → (x.dropped || x.ended) ≡ true → Tells (Feeds bytes conn) a a x x
feeds_nothing bytes conn a x is = record {
  text = [];
  printed = sym (append-nil a.printed.items);
  does = subst (λ (d : Bool). Either d Stays (ReadsBytes conn bytes) (talk a x) [] (talk a x)) (sym is) (refl, refl);
  filled = λ known. known;
  turned_away = refl;
}

-- an administrator's line that came
pub commands_told : (words : List ℕ) (conn number : ℕ) (command : Command) (a b : Player) (x : Channel) → x.ended ≡ false → is_sized words ≡ true
    → number ≡ x.lines + 1 → command ≡ command_of_line words → b.core ≡ after_call conn (Line number command) (length words) a.core
    → b.printed.items ≡ a.printed.items ++ call_text x.name (Line number command) (length words) a.core → (KnowsFilled a → KnowsFilled b)
    → b.turned_away ≡ a.turned_away
    → Tells (Commands words conn) a b x (record x { lines = number })
commands_told words conn number command a b x open_ sized numbered read life printed filled away =
    let is : (x.ended || not (is_sized words)) ≡ false = ap (λ d. d || not (is_sized words)) open_ ∙ ap not sized in
    let call_is : Line number command ≡ Line (x.lines + 1) (command_of_line words) = ap (λ n. Line n command) numbered ∙ ap (λ c. Line (x.lines + 1) c) read in
    record {
      text = call_text x.name (Line number command) (length words) a.core;
      printed = printed;
      does = subst
          (λ (d : Bool). Either d Stays (TakesLine words conn) (talk a x) (call_text x.name (Line number command) (length words) a.core)
          (talk b (record x { lines = number }))) (sym is)
          (record {
            told = ap (λ (c : Call). call_text x.name c (length words) a.core) call_is;
            became =
                ap (λ (l : Life). let t : Talk = record { life = l; channel = record x { lines = number } } in t)
                (life ∙ ap (λ (c : Call). after_call conn c (length words) a.core) call_is)
                ∙ ap (λ (n : ℕ).
                let t : Talk =
                record { life = after_call conn (Line (x.lines + 1) (command_of_line words)) (length words) a.core; channel = record x { lines = n } } in t)
                numbered;
          });
      filled = filled;
      turned_away = away;
    }

module _ (conn : ℕ) (a : Player) (x : Channel) (input : Intake) where
  -- a call came
  pub call_next : (call : Call) (size : ℕ) (b : Player) (name : List ℕ) → Hears (talk a x) (told.Call call size) input → name ≡ x.name
      → b.core ≡ after_call conn call size a.core → b.printed.items ≡ a.printed.items ++ call_text name call size a.core
      → (KnowsFilled a → KnowsFilled b) → b.turned_away ≡ a.turned_away → Tells (ReadsNext true conn) a b x (record x { input = input })
  call_next call size b name hears named core printed filled away = record {
    text = call_text x.name call size a.core;
    printed = printed ∙ ap (λ (n : List ℕ). a.printed.items ++ call_text n call size a.core) named;
    does = λ more last r.
        comes (talk a x) last call size input more hears
        (subst (λ (l : Life). ReadsOn conn (record { life = l; channel = record x { input = input } }) more last) core r);
    filled = filled;
    turned_away = away;
  }

  -- what asks nothing
  pub nothing_next : Hears (talk a x) told.Nothing input → Tells (ReadsNext true conn) a a x (record x { input = input })
  nothing_next hears = record {
    text = [];
    printed = sym (append-nil a.printed.items);
    does = λ more last r. skips (talk a x) last input more hears r;
    filled = λ known. known;
    turned_away = refl;
  }

  -- no message stands whole
  pub more_next : (have : ℕ) → Hears (talk a x) (told.More have) input → Tells (ReadsNext false conn) a a x (record x { input = input })
  more_next have hears = record {
    text = [];
    printed = sym (append-nil a.printed.items);
    does = waits (talk a x) have input hears;
    filled = λ known. known;
    turned_away = refl;
  }

  -- a CloseConnection
  pub closed_next : Hears (talk a x) told.Closed input → Tells (ReadsNext false conn) a a x (record x { input = input; dropped = true })
  closed_next hears = record {
    text = [];
    printed = sym (append-nil a.printed.items);
    does = closes (talk a x) input hears;
    filled = λ known. known;
    turned_away = refl;
  }

  -- a place is bad
  pub bad_next : (b : Player) (name : List ℕ) (at : ℕ) → Hears (talk a x) (told.Bad at) input → name ≡ x.name
      → b.core ≡ a.core → b.printed.items ≡ a.printed.items ++ bad_line name at → b.filled ≡ a.filled → b.turned_away ≡ a.turned_away
      → Tells (ReadsNext false conn) a b x (record x { input = input; dropped = true })
  bad_next b name at hears named core printed filled away = record {
    text = bad_line x.name at;
    printed = printed ∙ ap (λ (n : List ℕ). a.printed.items ++ bad_line n at) named;
    does = subst (λ (l : Life). ReadsOn conn (talk a x) (bad_line x.name at) (record { life = l; channel = record x { input = input; dropped = true } }))
        (sym core)
        (fails (talk a x) at input hears);
    filled = λ known. ap (λ o. option_map numbers o) filled ∙ (known ∙ sym (ap (λ (l : Life). filled_at l.history) core));
    turned_away = away;
  }

pub next_so : (b c : Bool) (conn : ℕ) (old new : Player) (x y : Channel) → b ≡ c → Tells (ReadsNext b conn) old new x y → Tells (ReadsNext c conn) old new x y
next_so b c conn old new x y same p = subst (λ (d : Bool). Tells (ReadsNext d conn) old new x y) same p
