-- What has settled stays as it is when it settles again; what only begins lets nothing end.
use Rattle.std.specs.Prelude.{◌≡◌, ℕ, Bool, true, false, not, ◌&&◌, ◌||◌, ◌==◌, if◌then◌else◌, List, [], ◌∷◌, map, filter, length, Option, Some, None, refl}
use Rattle.std.proofs.Common.{inl, inr, sym, subst, ap, ap₂, ◌∙◌}
use Rattle.std.proofs.lemmas.Bool.{cond_both}
use Rattle.std.proofs.lemmas.List.Folds.{list_any-append}
use Rattle.poa_base.specs.declared.Config.{Config}
use Rattle.poa_base.specs.declared.Key.{Key}
use Rattle.poa_base.specs.declared.Verdict.{Verdict}
use Rattle.poa_base.specs.declared.Verdict.TheVariants.{Serve, Preset, Locator, Incarnate, Try, Refuse, Forward, Addressing, Here, Unknown, Answer, Wait}
use Rattle.poa_base.specs.declared.Entry.{Entry}
use Rattle.poa_base.specs.declared.Entry.TheVariants.{Entered, Arrive, Filled, Left, Collect, Admit, Tried, Incarnated, Run, Done, TakeOut, Etherealized, Abandon}
use Rattle.history_standing.specs.declared.node.Node.{Node}
use Rattle.history_standing.specs.Nodes.{stands_under}
use Rattle.history_standing.specs.Paths.{is_root}
use Rattle.history_standing.specs.Trees.{In}
use Rattle.history_standing.proofs.Members.{in_kept, in_image, in_either}
use Rattle.history_standing.specs.declared.activation.Activation.{Activation}
use Rattle.history_standing.specs.declared.activation.Phase.{Phase}
use Rattle.history_standing.specs.declared.activation.Phase.TheVariants.{Begun}
use Rattle.history_standing.specs.declared.flight.Flight.{Flight}
use Rattle.history_standing.specs.Arrivals.{call_of}
use Rattle.history_standing.specs.Changes.{standing, changed, with_flight, with_admitted, with_command}
use Rattle.history_standing.specs.Ends.{is_left, is_over, is_clear, let_out, settled}
use Rattle.history_standing.specs.Keys.{key_in}
use Rattle.history_standing.specs.Logs.{command_in}
use Rattle.history_standing.specs.Opening.{with_activation, opening}
use Rattle.history_standing.specs.Standings.{Standing, is_complete, is_void, is_used}
use Rattle.history_standing.specs.Templates.{has_activator}
use Rattle.poa_history.proofs.AloneKept.{all_open}
use Rattle.poa_history.proofs.DyingIs.{opening_live}
use Rattle.poa_history.proofs.SettledKept.{or_first, or_second}
use Rattle.poa_history.specs.Entries.{changes_nothing, may_end}
use Rattle.core_standing.proofs.Dropping.{stays, stays_left}

map_still : {A : Type 0} (f : A → A) (xs : List A) → ((x : A) → In x xs → f x ≡ x) → map f xs ≡ xs
map_still f [] same = refl
map_still f (x ∷ xs) same = ap₂ (λ y ys. y ∷ ys) (same x (inl refl)) (map_still f xs (λ y is. same y (inr is)))

pub filter_still : {A : Type 0} (keeps : A → Bool) (xs : List A) → ((x : A) → In x xs → keeps x ≡ true) → filter keeps xs ≡ xs
filter_still keeps [] all = refl
filter_still keeps (x ∷ xs) all =
    cond_both (keeps x) (x ∷ filter keeps xs) (filter keeps xs) (λ ys. ys ≡ x ∷ xs)
    (λ _. ap (λ ys. x ∷ ys) (filter_still keeps xs (λ y is. all y (inr is))))
    (λ goes. absurd (let e : true ≡ false = sym (all x (inl refl)) ∙ goes in cc))

-- no activation is to leave the map, and no adapter is to go
pub record IsSettled (c : Config) (s : Standing) : Type 0 where
  pub activations_stay : (a : Activation) → In a s.activations → let_out c s a ≡ a
  pub nodes_stay : (n : Node) → In n s.nodes → stays c s n ≡ true

pub settled_still : (c : Config) (s : Standing) → IsSettled c s → settled c s ≡ s
settled_still c s is =
    ap (λ activations. record s { activations = activations; nodes = filter (stays c (record s { activations = activations })) s.nodes })
    (map_still (let_out c s) s.activations is.activations_stay)
    ∙ ap (λ ns. record s { nodes = ns }) (filter_still (stays c s) s.nodes is.nodes_stay)

-- an activation that left the map leaves it but once
let_out_twice : (c : Config) (s : Standing) (a : Activation) → let_out c s (let_out c s a) ≡ let_out c s a
let_out_twice c s a =
    cond_both (is_left c s a) (record a { out = true }) a (λ b. let_out c s b ≡ b)
    (λ is. ap (λ t. if t then record a { out = true } else record a { out = true }) is)
    (λ quiet. ap (λ t. if t then record a { out = true } else a) quiet)

pub settling_settles : (c : Config) (s : Standing) → IsSettled c (settled c s)
settling_settles c s = record {
  activations_stay = λ a is. (let found = in_image (let_out c s) a s.activations is in ap (let_out c s) found.2 ∙ let_out_twice c s found.0 ∙ sym found.2);
  nodes_stay = λ n is. stays_left c (record s { activations = map (let_out c s) s.activations }) 0 n
      ∙ (in_kept (stays c (record s { activations = map (let_out c s) s.activations })) n s.nodes is).1;
}

-- what isn't ending doesn't leave, what isn't dying doesn't go
not_ending : (c : Config) (s : Standing) (a : Activation) → a.ending ≡ false → let_out c s a ≡ a
not_ending c s a quiet =
    ap (λ t. if not (has_activator c a.path) && (is_complete a && ((t && not (is_void a)) && not (is_used s.flights a.number))) then record a
    { out = true } else a) quiet
    ∙ none (not (has_activator c a.path)) (is_complete a)
  where
    none : (h k : Bool) → (if h && (k && false) then record a { out = true } else a) ≡ a
    none true true = refl
    none true false = refl
    none false k = refl

pub opening_settled : (c : Config) (run : ℕ) → IsSettled c (opening c run)
opening_settled c run = record {
  activations_stay = λ a is. not_ending c (opening c run) a (all_open c run a is).3;
  nodes_stay = λ n is. or_second (is_root n.path) _ (ap (λ t. not (t && is_clear c (opening c run) n.path)) (opening_live c run n is));
}

pub standing_settled : (c : Config) (run : ℕ) (past : List Entry) → IsSettled c (standing c run past)
standing_settled c run [] = opening_settled c run
standing_settled c run (e ∷ past) = settling_settles c _

-- where more is in flight and more lives, less leaves and less goes
pub stays_more : (r d f g a b : Bool) → (f ≡ true → g ≡ true) → (a ≡ true → b ≡ true) → (r || not (d && (not f && not a))) ≡ true
    → (r || not (d && (not g && not b))) ≡ true
stays_more true d f g a b more_f more_a is = refl
stays_more false false f g a b more_f more_a is = refl
stays_more false true true g a b more_f more_a is = ap (λ t. not (not t && not b)) (more_f refl)
stays_more false true false g true b more_f more_a is = ap (λ t. not (not g && not t)) (more_a refl) ∙ none g
  where
    none : (g : Bool) → not (not g && false) ≡ true
    none true = refl
    none false = refl
stays_more false true false g false b more_f more_a is = absurd (let e : false ≡ true = is in cc)

left_fewer : (h k e u x : Bool) → (h && (k && (e && not (u || x)))) ≡ true → (h && (k && (e && not u))) ≡ true
left_fewer true true true true x is = is
left_fewer true true true false x is = refl
left_fewer true true false u x is = is
left_fewer true false e u x is = is
left_fewer false k e u x is = is

module _ (c : Config) (s : Standing) (is : IsSettled c s) where
  pub more_flies : (f : Flight) → IsSettled c (with_flight f s)
  more_flies f = record {
    activations_stay = λ a there. still_out a (is.activations_stay a there);
    nodes_stay =
        λ n there. stays_more (is_root n.path) n.dying _ _ _ _
        (λ some. list_any-append (λ g. stands_under s.nodes n.path g.adapter) s.flights (f ∷ []) ∙ or_first _ _ some) (λ some. some) (is.nodes_stay n there);
  }
    where
      uses : Activation → Flight → Bool
      uses a g = elim g.activation [ Some m ↦ m == a.number | None ↦ false ]

      was_left : (a : Activation) → is_left c (with_flight f s) a ≡ true → is_left c s a ≡ true
      was_left a left =
          left_fewer (not (has_activator c a.path)) (is_complete a) (a.ending && not (is_void a)) (is_used s.flights a.number) (uses a f || false)
          (ap (λ t. not (has_activator c a.path) && (is_complete a && ((a.ending && not (is_void a)) && not t)))
          (sym (list_any-append (uses a) s.flights (f ∷ []))) ∙ left)

      still_out : (a : Activation) → let_out c s a ≡ a → let_out c (with_flight f s) a ≡ a
      still_out a out =
          cond_both (is_left c (with_flight f s) a) (record a { out = true }) a (λ b. b ≡ a)
          (λ left. sym (ap (λ t. if t then record a { out = true } else a) (was_left a left)) ∙ out)
          (λ _. refl)

  pub more_lives : (k : ℕ) (p : List (List ℕ)) (oid : List ℕ) (phase : Phase) → IsSettled c (with_activation k p oid phase s)
  more_lives k p oid phase = record {
    activations_stay =
        λ a there. elim (in_either a fresh s.activations there)
        [ inl was ↦ is.activations_stay a was | inr made ↦ not_ending c (with_activation k p oid phase s) a (ap (λ b. b.ending) made) ];
    nodes_stay =
        λ n there. stays_more (is_root n.path) n.dying _ _ _ _ (λ some. some)
        (λ some. list_any-append (λ b. not (is_over c b) && stands_under s.nodes n.path b.adapter) s.activations (fresh ∷ []) ∙ or_first _ _ some)
        (is.nodes_stay n there);
  }
    where
      fresh : Activation
      fresh = record {
        number = length s.activations;
        adapter = k;
        path = p;
        oid = oid;
        phase = phase;
        ending = false;
        quiet = false;
        out = false;
        cleanup = false;
        remaining = false;
        etherealized = false;
      }

-- so what the Admit of a request begins lets nothing end
admitted_settled : (c : Config) (s : Standing) → IsSettled c s → (r : ℕ) (key : Option Key) (v : Verdict) → IsSettled c (with_admitted r key v s)
admitted_settled c s is r None v = is
admitted_settled c s is r (Some key) (Serve n) = more_flies c s is _
admitted_settled c s is r (Some key) (Preset name) = more_flies c s is _
admitted_settled c s is r (Some key) (Locator name) = more_flies c s is _
admitted_settled c s is r (Some key) (Incarnate n) = more_lives c _ (more_flies c s is _) _ key.path key.oid Begun
admitted_settled c s is r (Some key) Try = more_flies c s is _
admitted_settled c s is r (Some key) (Refuse x) = is
admitted_settled c s is r (Some key) (Forward to) = is
admitted_settled c s is r (Some key) Addressing = is
admitted_settled c s is r (Some key) Here = is
admitted_settled c s is r (Some key) Unknown = is
admitted_settled c s is r (Some key) (Answer a) = is
admitted_settled c s is r (Some key) Wait = is

-- an entry that changes nothing leaves what stands as it was
pub nothing_changed : (c : Config) (run : ℕ) (past : List Entry) (e : Entry) → changes_nothing e ≡ true → standing c run (e ∷ past) ≡ standing c run past
nothing_changed c run past (Entered conn) is = settled_still c _ (standing_settled c run past)
nothing_changed c run past (Arrive conn size call) is = settled_still c _ (standing_settled c run past)
nothing_changed c run past (Filled conn size) is = settled_still c _ (standing_settled c run past)
nothing_changed c run past (Left conn) is = settled_still c _ (standing_settled c run past)
nothing_changed c run past (Collect conn r) is = settled_still c _ (standing_settled c run past)
nothing_changed c run past (Run w) is = settled_still c _ (standing_settled c run past)
nothing_changed c run past (Abandon w) is = settled_still c _ (standing_settled c run past)
nothing_changed c run past (Admit w r v) is = absurd (let e : false ≡ true = is in cc)
nothing_changed c run past (Tried w answer) is = absurd (let e : false ≡ true = is in cc)
nothing_changed c run past (Incarnated w answer) is = absurd (let e : false ≡ true = is in cc)
nothing_changed c run past (Done w) is = absurd (let e : false ≡ true = is in cc)
nothing_changed c run past (TakeOut w n etherealize) is = absurd (let e : false ≡ true = is in cc)
nothing_changed c run past (Etherealized w cleanup remaining) is = absurd (let e : false ≡ true = is in cc)

-- after an entry with which nothing ends, what it changed is settled
pub still_after : (c : Config) (run : ℕ) (past : List Entry) (e : Entry) → may_end e ≡ false
    → settled c (changed c run past e (standing c run past)) ≡ changed c run past e (standing c run past)
still_after c run past (Admit w r v) quiet =
    let begun : Standing = with_admitted r (key_in (call_of past r)) v (standing c run past) in
    let same : changed c run past (Admit w r v) (standing c run past) ≡ begun =
    ap (λ t. with_command c run (if t then command_in (call_of past r) else None) begun) quiet in
    settled_still c _
    (subst (λ s. IsSettled c s) (sym same) (admitted_settled c (standing c run past) (standing_settled c run past) r (key_in (call_of past r)) v))
still_after c run past (Tried w answer) quiet = absurd (let e : true ≡ false = quiet in cc)
still_after c run past (Incarnated w answer) quiet = absurd (let e : true ≡ false = quiet in cc)
still_after c run past (Done w) quiet = absurd (let e : true ≡ false = quiet in cc)
still_after c run past (TakeOut w n etherealize) quiet = absurd (let e : true ≡ false = quiet in cc)
still_after c run past (Etherealized w cleanup remaining) quiet = absurd (let e : true ≡ false = quiet in cc)
still_after c run past (Entered conn) quiet = nothing_changed c run past (Entered conn) refl
still_after c run past (Arrive conn size call) quiet = nothing_changed c run past (Arrive conn size call) refl
still_after c run past (Filled conn size) quiet = nothing_changed c run past (Filled conn size) refl
still_after c run past (Left conn) quiet = nothing_changed c run past (Left conn) refl
still_after c run past (Collect conn r) quiet = nothing_changed c run past (Collect conn r) refl
still_after c run past (Run w) quiet = nothing_changed c run past (Run w) refl
still_after c run past (Abandon w) quiet = nothing_changed c run past (Abandon w) refl
