-- What the rows of the connections say of the lines that were read.
use Rattle.std.proofs.Common.{◌≡◌, ℕ, suc, ◌&&◌, ◌||◌, not, Bool, true, false, cond, List, [], ◌∷◌, ◌++◌, Option, Some, None, refl, sym, ap, ◌∙◌, subst, ◌<◌, length, slice_set, slice_index_or, arith, not-suc-le-zero, IsSome, ◌↔◌}
use Rattle.std.proofs.lemmas.Bool.{false≢true}
use Rattle.std.specs.Cmp.Lexicographic.{bytes_decides}
use Rattle.std.specs.Str.{bytes_eq}
use Rattle.poa_base.specs.declared.ScriptLine.{ScriptLine}
use Rattle.replay_script.specs.declared.connections.Connection.{Connection}
use Rattle.replay_script.specs.declared.role.Role.{Role}
use Rattle.replay_script.specs.declared.role.Role.TheVariants.{Call, Command, End, Collect}
use Rattle.replay_script.specs.declared.traffic.Traffic.{Traffic}
use Rattle.replay_script.specs.Connections.{role_of, allows, leaves, is_open, is_open_to, may_stand, entered, entered_by, entered_by_line, connections, place_in}
use Rattle.replay_script.specs.Traffic.{no_traffic, with_role, allowed, traffic_of, noted, noted_by, allowed_by, names}

and_false : (b : Bool) → (b && false) ≡ false
and_false true = refl
and_false false = refl

-- one more line leaves what it allows of what was allowed before
allowed_with : (earlier later : Role) (t : Traffic) → allowed (with_role earlier t) later ≡ (allows earlier later && allowed t later)
allowed_with Call Call t = refl
allowed_with Call Command t = refl
allowed_with Call End t = refl
allowed_with Call Collect t = refl
allowed_with Command Call t = refl
allowed_with Command Command t = refl
allowed_with Command End t = refl
allowed_with Command Collect t = refl
allowed_with End Call t = and_false (not t.commands)
allowed_with End Command t = and_false (not t.calls)
allowed_with End End t = refl
allowed_with End Collect t = refl
allowed_with Collect later t = refl

allowed_none : (later : Role) → allowed no_traffic later ≡ true
allowed_none Call = refl
allowed_none Command = refl
allowed_none End = refl
allowed_none Collect = refl

changed_here : (test : Bool) (f : Traffic → Traffic) (x y : Traffic) → cond test (f x) y ≡ cond test (f (cond test x y)) (cond test x y)
changed_here true f x y = refl
changed_here false f x y = refl

changed_behind : (a b : Bool) → (a ≡ true → b ≡ true → ⊥) → (f : Traffic → Traffic) (x y z : Traffic) → z ≡ cond b (f y) y
    → cond a x z ≡ cond b (f (cond a x y)) (cond a x y)
changed_behind true true apart f x y z h = absurd (apart refl refl)
changed_behind true false apart f x y z h = refl
changed_behind false true apart f x y z h = h
changed_behind false false apart f x y z h = h

traffic_by : (test : Bool) (n name : List ℕ) (role : Role) (r : Connection) (rs : List Connection) → bytes_eq r.name name ≡ test
    → traffic_of n (noted name role rs) ≡ cond (bytes_eq name n) (with_role role (traffic_of n rs)) (traffic_of n rs)
    → traffic_of n (cond test (record { name = r.name; traffic = with_role role r.traffic } ∷ rs) (r ∷ noted name role rs))
    ≡ cond (bytes_eq name n) (with_role role (traffic_of n (r ∷ rs))) (traffic_of n (r ∷ rs))
traffic_by true n name role r rs is h =
    subst (λ w. cond (bytes_eq r.name n) (with_role role r.traffic) (traffic_of n rs) ≡ cond (bytes_eq w n) (with_role role (traffic_of n (r ∷ rs)))
    (traffic_of n (r ∷ rs)))
    ((bytes_decides r.name name).0 is) (changed_here (bytes_eq r.name n) (with_role role) r.traffic (traffic_of n rs))
traffic_by false n name role r rs is h =
    changed_behind (bytes_eq r.name n) (bytes_eq name n)
    (λ a b. false≢true (sym is ∙ (bytes_decides r.name name).1 ((bytes_decides r.name n).0 a ∙ sym ((bytes_decides name n).0 b))))
    (with_role role) r.traffic (traffic_of n rs) (traffic_of n (noted name role rs)) h

-- one more line changes the traffic of its connection alone
traffic_noted : (n name : List ℕ) (role : Role) (rows : List Connection)
    → traffic_of n (noted name role rows) ≡ cond (bytes_eq name n) (with_role role (traffic_of n rows)) (traffic_of n rows)
traffic_noted n name role [] = refl
traffic_noted n name role (r ∷ rs) = traffic_by (bytes_eq r.name name) n name role r rs refl (traffic_noted n name role rs)

-- the names are the connections of the lines, and the rows tell which lines each may have next
pub record Known (rows : List Connection) (entered : List (List ℕ)) (past : List ScriptLine) : Type 0 where
  pub named : entered ≡ connections past
  pub left : (name : List ℕ) (later : Role) → allowed (traffic_of name rows) later ≡ is_open past name later

pub known_none : Known [] [] []
known_none = record { named = refl; left = λ name later. allowed_none later }

allowed_then : (rows : List Connection) (names : List (List ℕ)) (past : List ScriptLine) → Known rows names past → (r : Option (List ℕ × Role))
    → allowed_by rows r ≡ is_open_to past r
allowed_then rows names past known None = refl
allowed_then rows names past known (Some r) = known.left r.0 r.1

-- the rows tell whether a line may stand
pub stands : (rows : List Connection) (names : List (List ℕ)) (past : List ScriptLine) (l : ScriptLine) → Known rows names past
    → allowed_by rows (role_of l) ≡ may_stand past l
stands rows names past l known = allowed_then rows names past known (role_of l)

narrowed : (test : Bool) (earlier later : Role) (t : Traffic)
    → allowed (cond test (with_role earlier t) t) later ≡ ((not test || allows earlier later) && allowed t later)
narrowed true earlier later t = allowed_with earlier later t
narrowed false earlier later t = refl

left_then : (rows : List Connection) (past : List ScriptLine) (r : Option (List ℕ × Role)) (n : List ℕ) (later : Role)
    → allowed (traffic_of n rows) later ≡ is_open past n later → allowed (traffic_of n (noted_by r rows)) later ≡ (leaves r n later && is_open past n later)
left_then rows past None n later h = h
left_then rows past (Some r) n later h =
    ap (λ t. allowed t later) (traffic_noted n r.0 r.1 rows) ∙ narrowed (bytes_eq r.0 n) r.1 later (traffic_of n rows)
    ∙ ap (λ b. (not (bytes_eq r.0 n) || allows r.1 later) && b) h

-- and with one more line they tell the same of it and those before
pub known_further : (rows : List Connection) (names : List (List ℕ)) (past : List ScriptLine) (l : ScriptLine) → Known rows names past
    → Known (noted_by (role_of l) rows) (entered_by (entered_by_line l) names) (l ∷ past)
known_further rows names past l known = record {
  named = ap (entered_by (entered_by_line l)) known.named;
  left = λ name later. left_then rows past (role_of l) name later (known.left name later);
}

there_by : (test : Bool) (name n : List ℕ) (ns : List (List ℕ)) → (place_in name ns < length ns → entered name ns ≡ ns)
    → cond test 0 (suc (place_in name ns)) < length (n ∷ ns) → cond test (n ∷ ns) (n ∷ entered name ns) ≡ n ∷ ns
there_by true name n ns more within = refl
there_by false name n ns more within = ap (λ all. n ∷ all) (more (omega (arith, within)))

-- a name that is there isn't entered again
pub entered_there : (name : List ℕ) (names : List (List ℕ)) → place_in name names < length names → entered name names ≡ names
entered_there name [] within = absurd (not-suc-le-zero within)
entered_there name (n ∷ ns) within = there_by (bytes_eq n name) name n ns (entered_there name ns) within

last_by : (test : Bool) (name n : List ℕ) (ns : List (List ℕ)) → ((place_in name ns < length ns → ⊥) → ns ++ name ∷ [] ≡ entered name ns)
    → (cond test 0 (suc (place_in name ns)) < length (n ∷ ns) → ⊥) → (n ∷ ns) ++ name ∷ [] ≡ cond test (n ∷ ns) (n ∷ entered name ns)
last_by true name n ns more beyond = absurd (beyond (omega arith))
last_by false name n ns more beyond = ap (λ all. n ∷ all) (more (λ within. beyond (omega (arith, within))))

-- and another one is the last
pub entered_last : (name : List ℕ) (names : List (List ℕ)) → (place_in name names < length names → ⊥) → names ++ name ∷ [] ≡ entered name names
entered_last name [] beyond = refl
entered_last name (n ∷ ns) beyond = last_by (bytes_eq n name) name n ns (entered_last name ns) beyond

at_by : (test : Bool) (name : List ℕ) (role : Role) (r : Connection) (rs : List Connection) (row : Connection)
    → (place_in name (names rs) < length rs → row ≡ slice_index_or rs (place_in name (names rs)) row
    → slice_set rs (place_in name (names rs)) (record { name = row.name; traffic = with_role role row.traffic }) ≡ noted name role rs)
    → cond test 0 (suc (place_in name (names rs))) < length (r ∷ rs) → row ≡ slice_index_or (r ∷ rs) (cond test 0 (suc (place_in name (names rs)))) row
    → slice_set (r ∷ rs) (cond test 0 (suc (place_in name (names rs)))) (record { name = row.name; traffic = with_role role row.traffic })
    ≡ cond test (record { name = r.name; traffic = with_role role r.traffic } ∷ rs) (r ∷ noted name role rs)
at_by true name role r rs row more within h = ap (λ (q : Connection). record { name = q.name; traffic = with_role role q.traffic } ∷ rs) h
at_by false name role r rs row more within h = ap (λ qs. r ∷ qs) (more (omega (arith, within)) h)

-- the row at the place of a name is the one that is changed
pub noted_at : (name : List ℕ) (role : Role) (rows : List Connection) (row : Connection)
    → place_in name (names rows) < length rows → row ≡ slice_index_or rows (place_in name (names rows)) row
    → slice_set rows (place_in name (names rows)) (record { name = row.name; traffic = with_role role row.traffic }) ≡ noted name role rows
noted_at name role [] row within h = absurd (not-suc-le-zero within)
noted_at name role (r ∷ rs) row within h = at_by (bytes_eq r.name name) name role r rs row (noted_at name role rs row) within h

new_by : (test : Bool) (name : List ℕ) (role : Role) (r : Connection) (rs : List Connection)
    → ((place_in name (names rs) < length rs → ⊥) → rs ++ record { name = name; traffic = with_role role no_traffic } ∷ [] ≡ noted name role rs)
    → (cond test 0 (suc (place_in name (names rs))) < length (r ∷ rs) → ⊥)
    → (r ∷ rs) ++ record { name = name; traffic = with_role role no_traffic } ∷ []
    ≡ cond test (record { name = r.name; traffic = with_role role r.traffic } ∷ rs) (r ∷ noted name role rs)
new_by true name role r rs more beyond = absurd (beyond (omega arith))
new_by false name role r rs more beyond = ap (λ qs. r ∷ qs) (more (λ within. beyond (omega (arith, within))))

-- a name that has no row gets the last
pub noted_new : (name : List ℕ) (role : Role) (rows : List Connection) → (place_in name (names rows) < length rows → ⊥)
    → rows ++ record { name = name; traffic = with_role role no_traffic } ∷ [] ≡ noted name role rows
noted_new name role [] beyond = refl
noted_new name role (r ∷ rs) beyond = new_by (bytes_eq r.name name) name role r rs (noted_new name role rs) beyond

-- what holds exactly where there is a value doesn't where there is none
pub not_there : {X : Type 0} {P : Type 0} (o : Option X) → (IsSome o ↔ P) → o ≡ None → P → ⊥
not_there None h is p = false≢true (h.1 p)
not_there (Some x) h is p = cc

-- and does where there is one
pub is_there : {X : Type 0} {P : Type 0} (o : Option X) (x : X) → (IsSome o ↔ P) → o ≡ Some x → P
is_there None x h is = cc
is_there (Some y) x h is = h.0 refl
