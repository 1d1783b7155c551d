-- Lists walked from the front.
use Rattle.std.proofs.Common.{◌≡◌, ℕ, zero, suc, ◌+◌, ◌<◌, ◌≤◌, List, [], ◌∷◌, ◌++◌, take, drop, length, Some, None, slice_get, refl, sym, ap, ◌∙◌, subst, append_assoc, append-nil, arith, add-one, ◌⊎◌, inl, inr, get_or, drop-cons}
use Rattle.std.proofs.lemmas.List.{take_more}
use Rattle.std.proofs.lemmas.Grind.{common_steps}
use Rattle.history_standing.specs.Arrivals.{connections}
use Rattle.poa_history.specs.Life.{Life}
use Rattle.replay_script.specs.declared.ScriptStep.{ScriptStep}
use Rattle.replay_run.specs.declared.channel.Channel.{Channel}
use Rattle.replay_run.specs.declared.player.Player.{Player}
use Rattle.replay_run.specs.Playing.{AreFresh, IsFresh, CollectsEach, CollectsOf, Plays, PlaysAll}
use Rattle.replay_run.specs.Keeping.{AllEntered, Shows, world}
use Rattle.replay_run.specs.Effects.{Works}
use Rattle.replay_run.proofs.Same.{Still}
use Rattle.replay_run.proofs.PlayedOnward.{works_join}
use Rattle.replay_run.proofs.Onward.{shows_join}
use Rattle.replay_run.specs.Working.{Then}

-- one connection more
pub fresh_more : (names : List (List ℕ)) (channels : List Channel) (name : List ℕ) (channel : Channel) → AreFresh names channels → IsFresh name channel
    → AreFresh (names ++ name ∷ []) (channels ++ channel ∷ [])
fresh_more [] [] name channel all is = (is, tt)
fresh_more [] (c ∷ cs) name channel all is = absurd all
fresh_more (n ∷ ns) [] name channel all is = absurd all
fresh_more (n ∷ ns) (c ∷ cs) name channel all is = (all.0, fresh_more ns cs name channel all.1 is)

-- none of them has entered
pub fresh_none : (names : List (List ℕ)) (channels : List Channel) → AreFresh names channels → (i : ℕ) (a : Channel) → slice_get channels i ≡ Some a
    → a.number ≡ None
fresh_none names [] all i a is = absurd (let e : None ≡ Some a = is in cc)
fresh_none [] (c ∷ cs) all i a is = absurd all
fresh_none (n ∷ ns) (c ∷ cs) all zero a is = (let same : c ≡ a = (let e : Some c ≡ Some a = is in cc) in subst (λ (x : Channel). x.number ≡ None) same all.0.number)
fresh_none (n ∷ ns) (c ∷ cs) all (suc i) a is = fresh_none ns cs all.1 i a is

-- what is done with a list from the place i on, behind what was done before it
abbrev pub Ahead : {S A : Type 0} → (List A → S → List ℕ → S → Type 0) → List A → ℕ → S → List ℕ → S → Type 0
Ahead {S} {A} R xs i before done now = (more : List ℕ) (last : S) → R (drop i xs) now more last → R xs before (done ++ more) last

-- the element at a place stands in front of what is behind it
pub front : {A : Type 0} (xs : List A) (i : ℕ) (x : A) → i < length xs → x ≡ get_or xs i x → drop i xs ≡ x ∷ drop (i + 1) xs
front {A} xs i x less is =
    let cut : drop i xs ≡ get_or xs i x ∷ drop (suc i) xs = drop-cons xs i x less in
    let here : get_or xs i x ∷ drop (suc i) xs ≡ x ∷ drop (suc i) xs = ap (λ (y : A). y ∷ drop (suc i) xs) (sym is) in
    let behind : x ∷ drop (suc i) xs ≡ x ∷ drop (i + 1) xs = ap (λ (n : ℕ). x ∷ drop n xs) (sym (add-one i)) in
    cut ∙ (here ∙ behind)

pub ahead_more : {S A : Type 0} (R : List A → S → List ℕ → S → Type 0) (One : A → S → List ℕ → S → Type 0)
    → ((x : A) (rest : List A) (a b c : S) (s t : List ℕ) → One x a s b → R rest b t c → R (x ∷ rest) a (s ++ t) c)
    → (xs : List A) (i : ℕ) (x : A) → drop i xs ≡ x ∷ drop (i + 1) xs → (a b c : S) (s t : List ℕ) → Ahead R xs i a s b → One x b t c
    → Ahead R xs (i + 1) a (s ++ t) c
ahead_more R One cons xs i x cut a b c s t ahead one more last r =
    subst (λ (text : List ℕ). R xs a text last) (sym (append_assoc s t more))
    (ahead (t ++ more) last (subst (λ ys. R ys b (t ++ more) last) (sym cut) (cons x (drop (i + 1) xs) b c last t more one r)))

pub collects_more : (channels : List Channel) (i : ℕ) (channel : Channel) → i < length channels → channel ≡ get_or channels i channel → (a b c : Player)
    → Works (Ahead CollectsEach channels i) a b → Works (CollectsOf channel.name channel.number) b c → Works (Ahead CollectsEach channels (i + 1)) a c
collects_more channels i channel less is a b c =
    works_join (Ahead CollectsEach channels i) (CollectsOf channel.name channel.number) (Ahead CollectsEach channels (i + 1)) a b c
    (λ s t p q. ahead_more CollectsEach (λ x. CollectsOf x.name x.number)
    (λ x rest a b c s t one more. record { between = b; front = s; rest = t; first = one; second = more; joined = refl })
    channels i channel (front channels i channel less is) a.core b.core c.core s t p q)

pub plays_more : (steps : List ScriptStep) (i : ℕ) (step : ScriptStep) → i < length steps → step ≡ get_or steps i step
    → (a b c : Player) (xs ys zs : List Channel)
    → Shows (Ahead PlaysAll steps i) a b xs ys → Shows (Plays step.step) b c ys zs → Shows (Ahead PlaysAll steps (i + 1)) a c xs zs
plays_more steps i step less is a b c xs ys zs = shows_join (Ahead PlaysAll steps i) (Plays step.step) (Ahead PlaysAll steps (i + 1)) a b c xs ys zs
    (λ s t p q. ahead_more PlaysAll (λ x. Plays x.step)
    (λ x rest a b c s t one more. record { between = b; front = s; rest = t; first = one; second = more; joined = refl })
    steps i step (front steps i step less is) (world a xs) (world b ys) (world c zs) s t p q)

-- one name more
pub next_name : (names : List (List ℕ)) (i : ℕ) (name : List ℕ) (channels : List Channel) (channel : Channel) (pushed : List Channel)
    → i < length names → name ≡ get_or names i name → pushed ≡ channels ++ channel ∷ [] → AreFresh (take i names ++ name ∷ []) (channels ++ channel ∷ [])
    → AreFresh (take (i + 1) names) pushed
next_name names i name channels channel pushed less is push all =
    let cut : take (i + 1) names ≡ take i names ++ name ∷ [] = take_more names i name less ∙ ap (λ n. take i names ++ n ∷ []) (sym is) in
    subst (λ (ns : List (List ℕ)). AreFresh ns pushed) (sym cut) (subst (λ (cs : List Channel). AreFresh (take i names ++ name ∷ []) cs) (sym push) all)

pub past : {A : Type 0} (xs : List A) (i : ℕ) → length xs ≤ i → drop i xs ≡ []
past xs i more = grind (arith, common_steps)

-- all was done
pub ahead_end : {S A : Type 0} (R : List A → S → List ℕ → S → Type 0) → ((s : S) → R [] s [] s) → (xs : List A) (i : ℕ) → length xs ≤ i
    → (a b : S) (s : List ℕ) → Ahead R xs i a s b → R xs a s b
ahead_end {S} {A} R done xs i more a b s ahead =
    subst (λ (t : List ℕ). R xs a t b) (append-nil s) (ahead [] b (subst (λ (ys : List A). R ys b [] b) (sym (past xs i more)) (done b)))

pub collects_end : (channels : List Channel) (i : ℕ) → length channels ≤ i → (a b : Player) → Works (Ahead CollectsEach channels i) a b
    → Works (CollectsEach channels) a b
collects_end channels i more a b p = record {
  text = p.text;
  printed = p.printed;
  does = ahead_end CollectsEach (λ s. (refl, refl)) channels i more a.core b.core p.text p.does;
  filled = p.filled;
  turned_away = p.turned_away;
}

pub plays_end : (steps : List ScriptStep) (i : ℕ) → length steps ≤ i → (a b : Player) (xs ys : List Channel) → Shows (Ahead PlaysAll steps i) a b xs ys
    → Shows (PlaysAll steps) a b xs ys
plays_end steps i more a b xs ys p = record {
  text = p.text;
  printed = p.printed;
  does = ahead_end PlaysAll (λ s. (refl, refl)) steps i more (world a xs) (world b ys) p.text p.does;
}

pub entered_still : (channels : List Channel) (a b : Life) → Still a b → AllEntered channels a.history → AllEntered channels b.history
entered_still channels a b s all i n channel at is = (let less : n < connections a.history = all i n channel at is in omega (arith, s.same.entered, less))

pub fresh_at : (copy name : List ℕ) (channel : Channel) → copy ≡ name → IsFresh copy channel → IsFresh name channel
fresh_at copy name channel same is = subst (λ (n : List ℕ). IsFresh n channel) same is
