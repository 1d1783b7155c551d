-- Whether the opening and the closing of a Request stand at a cursor is decided.
use Rattle.std.proofs.Common.{◌≡◌, ℕ, true, false, List, [], ◌∷◌, Option, Some, length, zero, suc, refl, sym, ap₂, subst, arith, inl, inr}
use Rattle.cdr_core.specs.Field.{octet, ulong, text, octets}
use Rattle.cdr_core.specs.Cursor.{Cursor, Reads}
use Rattle.cdr_core.proofs.OneReading.{one_octet_read, one_ulong_read, one_octets_read, one_text_read}
use Rattle.giop_msg.specs.Fields.{ReadsAll}
use Rattle.giop_msg.specs.Version.{is_newest, ByVersion}
use Rattle.giop_msg.specs.Contexts.{Context, context_fields, IsContexts}
use Rattle.giop_msg.specs.Opening.{HasFlags, IsAsked, IsReserved, IsNewestOpening, IsEarlierOpening, IsOpening}
use Rattle.giop_msg.specs.Request.{IsNewestClosing, IsEarlierClosing, IsClosing}
use Rattle.giop_msg.specs.Target.{IsTarget, IsKey, IsAddressed}
use Rattle.giop_msg.proofs.Addressing.{target_decided}
use Rattle.giop_msg.proofs.ContextFields.{one_contexts}
use Rattle.giop_msg.proofs.Openings.{one_opening, one_asked}
use Rattle.giop_msg.proofs.Deciding.{Decided, decided_as, decided_then, is_decided, Stands, StandsThen}
use Rattle.giop_msg.proofs.Numbers.{octet_decided, ulong_decided}
use Rattle.giop_msg.proofs.Strings.{octets_decided, text_decided}

-- so many contexts
abbrev HasContexts : ℕ → Cursor → Type 0
HasContexts n c = (cs : List Context) × (after : Cursor) × ReadsAll (context_fields cs) c after × (length cs ≡ n)

abbrev DataThen : ℕ → Cursor → Type 0
DataThen n c = StandsThen (List ℕ) (λ (xs : List ℕ). Reads (octets xs)) (λ (xs : List ℕ) (a : Cursor). HasContexts n a) c

abbrev ContextThen : ℕ → Cursor → Type 0
ContextThen n c = StandsThen ℕ (λ (m : ℕ). Reads (ulong m)) (λ (m : ℕ) (a : Cursor). DataThen n a) c

contexts_there : (n : ℕ) (c : Cursor) → ContextThen n c → HasContexts (suc n) c
contexts_there n c s =
    let data_ = s.3 in
    ((s.0, data_.0) ∷ data_.3.0, data_.3.1, (s.1, (s.2, (data_.1, (data_.2, data_.3.2)))), omega (arith, data_.3.3))

contexts_back : (n : ℕ) (c after : Cursor) (cs : List Context) → ReadsAll (context_fields cs) c after → length cs ≡ suc n → ContextThen n c
contexts_back n c after [] read long = absurd (omega (arith, long))
contexts_back n c after (x ∷ xs) read long =
    (x.0, read.0, read.1.0, (x.1, read.1.1.0, read.1.1.1.0, (xs, after, read.1.1.1.1, omega (arith, long))))

contexts_decided : (n : ℕ) (c : Cursor) → Decided (HasContexts n c)
contexts_decided zero c = inl ([], c, refl, refl)
contexts_decided (suc n) c =
    decided_as (ContextThen n c) (HasContexts (suc n) c) (contexts_there n c) (λ s. contexts_back n c s.1 s.0 s.2 s.3)
    (decided_then ℕ (λ (m : ℕ). Reads (ulong m)) (λ (m : ℕ) (a : Cursor). DataThen n a) c (λ k m a b p q. one_ulong_read k m c a b p q)
    (λ m a. decided_then (List ℕ) (λ (xs : List ℕ). Reads (octets xs)) (λ (xs : List ℕ) (d : Cursor). HasContexts n d) a
    (λ xs ys d e p q. one_octets_read xs ys a d e p q) (λ xs d. contexts_decided n d) (octets_decided a))
    (ulong_decided c))

-- the operation, the count of the contexts, and the contexts
abbrev CountThen : Cursor → Type 0
CountThen c = StandsThen ℕ (λ (n : ℕ). Reads (ulong n)) HasContexts c

abbrev OperationThen : Cursor → Type 0
OperationThen c = StandsThen (List ℕ) (λ (xs : List ℕ). Reads (text xs)) (λ (xs : List ℕ) (a : Cursor). CountThen a) c

closing_there : (c : Cursor) → OperationThen c → Stands (List ℕ) IsNewestClosing c
closing_there c s =
    let contexts = s.3.3 in (
      s.0,
      contexts.1,
      record {
        contexts = contexts.0;
        read = (s.1, (s.2, (s.3.1, (subst (λ (n : ℕ). Reads (ulong n) s.1 s.3.1) (sym contexts.3) s.3.2, contexts.2))));
      },
    )

closing_back : (c : Cursor) → Stands (List ℕ) IsNewestClosing c → OperationThen c
closing_back c s =
    let read = s.2.read in
    (s.0, read.0, read.1.0, (length s.2.contexts, read.1.1.0, read.1.1.1.0, (s.2.contexts, s.1, read.1.1.1.1, refl)))

newest_closing_decided : (c : Cursor) → Decided (Stands (List ℕ) IsNewestClosing c)
newest_closing_decided c =
    decided_as (OperationThen c) (Stands (List ℕ) IsNewestClosing c) (closing_there c) (closing_back c)
    (decided_then (List ℕ) (λ (xs : List ℕ). Reads (text xs)) (λ (xs : List ℕ) (a : Cursor). CountThen a) c (λ xs ys a b p q. one_text_read xs ys c a b p q)
    (λ xs a. decided_then ℕ (λ (n : ℕ). Reads (ulong n)) HasContexts a (λ m n d e p q. one_ulong_read m n a d e p q) contexts_decided (ulong_decided a))
    (text_decided c))

-- an octet, and what follows it
abbrev OctetThen : (ℕ → Cursor → Type 0) → Cursor → Type 0
OctetThen Next c = StandsThen ℕ (λ (n : ℕ). Reads (octet n)) Next c

octet_then : (Next : ℕ → Cursor → Type 0) (c : Cursor) → ((n : ℕ) (a : Cursor) → Decided (Next n a)) → Decided (OctetThen Next c)
octet_then Next c next = decided_then ℕ (λ (n : ℕ). Reads (octet n)) Next c (λ m n a b p q. one_octet_read m n c a b p q) next (octet_decided c)

abbrev ThreeOctets : Cursor → Type 0
ThreeOctets c = OctetThen (λ (a : ℕ) (d : Cursor). OctetThen (λ (b : ℕ) (e : Cursor). Stands ℕ (λ (n : ℕ). Reads (octet n)) e) d) c

-- the id, the response flags and three octets
abbrev IdThen : Cursor → Type 0
IdThen c = StandsThen ℕ (λ (n : ℕ). Reads (ulong n)) (λ (n : ℕ) (a : Cursor). OctetThen (λ (f : ℕ) (b : Cursor). ThreeOctets b) a) c

abbrev NewestOpening : ℕ × ℕ → Cursor → Cursor → Type 0
NewestOpening v before after = IsNewestOpening v.0 v.1 before after

opening_there : (c : Cursor) → IdThen c → Stands (ℕ × ℕ) NewestOpening c
opening_there c s =
    let flags = s.3 in
    let a = flags.3 in
    let b = a.3 in
    let o = b.3 in (
      (s.0, flags.0),
      o.1,
      record {
        a = a.0;
        b = b.0;
        c = o.0;
        read = (s.1, (s.2, (flags.1, (flags.2, (a.1, (a.2, (b.1, (b.2, (o.1, (o.2, refl))))))))));
      },
    )

opening_back : (c : Cursor) → Stands (ℕ × ℕ) NewestOpening c → IdThen c
opening_back c s =
    let id = s.2.read in
    let flags = id.1.1 in
    let a = flags.1.1 in
    let b = a.1.1 in
    let o = b.1.1 in (
      s.0.0,
      id.0,
      id.1.0,
      (s.0.1, flags.0, flags.1.0, (s.2.a, a.0, a.1.0, (s.2.b, b.0, b.1.0, (s.2.c, o.0, o.1.0)))),
    )

newest_opening_decided : (c : Cursor) → Decided (Stands (ℕ × ℕ) NewestOpening c)
newest_opening_decided c =
    decided_as (IdThen c) (Stands (ℕ × ℕ) NewestOpening c) (opening_there c) (opening_back c)
    (decided_then ℕ (λ (n : ℕ). Reads (ulong n)) (λ (n : ℕ) (a : Cursor). OctetThen (λ (f : ℕ) (b : Cursor). ThreeOctets b) a) c
    (λ m n a b p q. one_ulong_read m n c a b p q)
    (λ n a. octet_then (λ (f : ℕ) (b : Cursor). ThreeOctets b) a
    (λ f b. octet_then (λ (x : ℕ) (d : Cursor). OctetThen (λ (y : ℕ) (e : Cursor). Stands ℕ (λ (z : ℕ). Reads (octet z)) e) d) b
    (λ x d. octet_then (λ (y : ℕ) (e : Cursor). Stands ℕ (λ (z : ℕ). Reads (octet z)) e) d (λ y e. octet_decided e))))
    (ulong_decided c))

-- the contexts with their count
abbrev Contexts : Unit {0} → Cursor → Cursor → Type 0
Contexts u before after = IsContexts before after

contexts_counted : (c : Cursor) → Decided (Stands (Unit {0}) Contexts c)
contexts_counted c =
    decided_as (CountThen c) (Stands (Unit {0}) Contexts c)
    (λ s. (
      tt,
      s.3.1,
      record {
        contexts = s.3.0;
        read = (s.1, (subst (λ (n : ℕ). Reads (ulong n) c s.1) (sym s.3.3) s.2, s.3.2));
      },
    ))
    (λ s. (length s.2.contexts, s.2.read.0, s.2.read.1.0, (s.2.contexts, s.1, s.2.read.1.1, refl)))
    (decided_then ℕ (λ (n : ℕ). Reads (ulong n)) HasContexts c (λ m n a b p q. one_ulong_read m n c a b p q) contexts_decided (ulong_decided c))

-- the flags for which an octet stands
flags_decided : (o : ℕ) → Decided (o ≡ 0) → Decided (o ≡ 1) → Decided ((flags : ℕ) × HasFlags o flags)
flags_decided o (inl none) one = inl (0, inl (none, refl))
flags_decided o (inr some) (inl one) = inl (3, inr (one, refl))
flags_decided o (inr some) (inr more) = inr (λ f. no f.0 f.1)
  where
    no : (flags : ℕ) → HasFlags o flags → ⊥
    no flags (inl here) = some here.0
    no flags (inr here) = more here.0

-- the id, and whether a reply is asked
abbrev Asked : ℕ × ℕ → Cursor → Cursor → Type 0
Asked v before after = IsAsked v.0 v.1 before after

abbrev AskedThen : Cursor → Type 0
AskedThen c =
    StandsThen ℕ (λ (n : ℕ). Reads (ulong n)) (λ (n : ℕ) (a : Cursor). OctetThen (λ (o : ℕ) (b : Cursor). (flags : ℕ) × HasFlags o flags) a) c

asked_decided : (c : Cursor) → Decided (Stands (ℕ × ℕ) Asked c)
asked_decided c =
    decided_as (AskedThen c) (Stands (ℕ × ℕ) Asked c)
    (λ s. ((s.0, s.3.3.0), s.3.1, record { asked = s.3.0; read = (s.1, (s.2, (s.3.1, (s.3.2, refl)))); has_flags = s.3.3.1 }))
    (λ s. (s.0.0, s.2.read.0, s.2.read.1.0, (s.2.asked, s.2.read.1.1.0, s.2.read.1.1.1.0, (s.0.1, s.2.has_flags))))
    (decided_then ℕ (λ (n : ℕ). Reads (ulong n)) (λ (n : ℕ) (a : Cursor). OctetThen (λ (o : ℕ) (b : Cursor). (flags : ℕ) × HasFlags o flags) a) c
    (λ m n a b p q. one_ulong_read m n c a b p q)
    (λ n a. octet_then (λ (o : ℕ) (b : Cursor). (flags : ℕ) × HasFlags o flags) a (λ o b. flags_decided o (is_decided o 0) (is_decided o 1)))
    (ulong_decided c))

-- what is reserved behind it
reserved_decided : (minor : ℕ) (c : Cursor) → Decided (Stands (Unit {0}) (λ (u : Unit {0}). IsReserved minor) c)
reserved_decided zero c = inl (tt, c, refl)
reserved_decided (suc minor) c =
    decided_as (ThreeOctets c) (Stands (Unit {0}) (λ (u : Unit {0}). IsReserved (suc minor)) c)
    (λ s. (tt, s.3.3.1, (s.0, s.3.0, s.3.3.0, (s.1, (s.2, (s.3.1, (s.3.2, (s.3.3.1, (s.3.3.2, refl)))))))))
    (λ s. let read = s.2.3 in
    (s.2.0, read.0, read.1.0, (s.2.1, read.1.1.0, read.1.1.1.0, (s.2.2, read.1.1.1.1.0, read.1.1.1.1.1.0))))
    (octet_then (λ (x : ℕ) (d : Cursor). OctetThen (λ (y : ℕ) (e : Cursor). Stands ℕ (λ (z : ℕ). Reads (octet z)) e) d) c
    (λ x d. octet_then (λ (y : ℕ) (e : Cursor). Stands ℕ (λ (z : ℕ). Reads (octet z)) e) d (λ y e. octet_decided e)))

same_pair : (v w : ℕ × ℕ) → v.0 ≡ w.0 → v.1 ≡ w.1 → v ≡ w
same_pair v w first second = ap₂ (λ (x y : ℕ). (x, y)) first second

-- the opening of the versions before 1.2
abbrev ReservedThen : ℕ → Cursor → Type 0
ReservedThen minor c = StandsThen (ℕ × ℕ) Asked (λ (v : ℕ × ℕ) (a : Cursor). Stands (Unit {0}) (λ (u : Unit {0}). IsReserved minor) a) c

abbrev EarlierThen : ℕ → Cursor → Type 0
EarlierThen minor c = StandsThen (Unit {0}) Contexts (λ (u : Unit {0}) (a : Cursor). ReservedThen minor a) c

abbrev EarlierOpening : ℕ → ℕ × ℕ → Cursor → Cursor → Type 0
EarlierOpening minor v before after = IsEarlierOpening minor v.0 v.1 before after

asked_once : (c : Cursor) (v w : ℕ × ℕ) (a b : Cursor) → Asked v c a → Asked w c b → (v ≡ w) × (a ≡ b)
asked_once c v w a b p q = let one = one_asked v.0 w.0 v.1 w.1 c a b p q in (same_pair v w one.0 one.1, one.2)

same_unit : (u v : Unit {0}) → u ≡ v
same_unit u v = refl

earlier_opening_decided : (minor : ℕ) (c : Cursor) → Decided (Stands (ℕ × ℕ) (EarlierOpening minor) c)
earlier_opening_decided minor c =
    decided_as (EarlierThen minor c) (Stands (ℕ × ℕ) (EarlierOpening minor) c)
    (λ s. (s.3.0, s.3.3.1, record { behind_contexts = s.1; behind_asked = s.3.1; contexts = s.2; asked = s.3.2; reserved = s.3.3.2 }))
    (λ s. (tt, s.2.behind_contexts, s.2.contexts, (s.0, s.2.behind_asked, s.2.asked, (tt, s.1, s.2.reserved))))
    (decided_then (Unit {0}) Contexts (λ (u : Unit {0}) (a : Cursor). ReservedThen minor a) c
    (λ u v a b p q. (same_unit u v, one_contexts c a b p q))
    (λ u a. decided_then (ℕ × ℕ) Asked (λ (v : ℕ × ℕ) (d : Cursor). Stands (Unit {0}) (λ (x : Unit {0}). IsReserved minor) d) a (asked_once a)
    (λ v d. reserved_decided minor d) (asked_decided a))
    (contexts_counted c))

-- by the version
abbrev pub Opening : ℕ → ℕ × ℕ → Cursor → Cursor → Type 0
Opening minor v before after = IsOpening minor v.0 v.1 before after

pub opening_decided : (minor : ℕ) (c : Cursor) → Decided (Stands (ℕ × ℕ) (Opening minor) c)
opening_decided minor c =
    elim (is_newest minor) as (λ v. Decided (Stands (ℕ × ℕ)
    (λ (x : ℕ × ℕ) (a b : Cursor). ByVersion v (IsNewestOpening x.0 x.1 a b) (IsEarlierOpening minor x.0 x.1 a b)) c)) [
      | true ↦ newest_opening_decided c
      | false ↦ earlier_opening_decided minor c
    ]

pub opened_once : (minor : ℕ) (c : Cursor) (v w : ℕ × ℕ) (a b : Cursor) → Opening minor v c a → Opening minor w c b → (v ≡ w) × (a ≡ b)
opened_once minor c v w a b p q = let one = one_opening minor v.0 w.0 v.1 w.1 c a b p q in (same_pair v w one.0 one.1, one.2)

-- the target
key_decided : (c : Cursor) → Decided (Stands (Option (List ℕ)) IsKey c)
key_decided c =
    decided_as (Stands (List ℕ) (λ (xs : List ℕ). Reads (octets xs)) c) (Stands (Option (List ℕ)) IsKey c)
    (λ s. (Some s.0, s.1, record { key = s.0; read = s.2; gives = refl })) (λ s. (s.2.key, s.1, s.2.read)) (octets_decided c)

pub addressed_decided : (minor : ℕ) (c : Cursor) → Decided (Stands (Option (List ℕ)) (IsAddressed minor) c)
addressed_decided minor c =
    elim (is_newest minor) as (λ v. Decided (Stands (Option (List ℕ)) (λ (t : Option (List ℕ)) (a b : Cursor). ByVersion v (IsTarget t a b) (IsKey t a b)) c)) [
      | true ↦ target_decided c
      | false ↦ key_decided c
    ]

-- the operation, and the principal
earlier_closing_decided : (c : Cursor) → Decided (Stands (List ℕ) IsEarlierClosing c)
earlier_closing_decided c =
    decided_as (StandsThen (List ℕ) (λ (xs : List ℕ). Reads (text xs)) (λ (xs : List ℕ) (a : Cursor). Stands (List ℕ) (λ (ys : List ℕ). Reads (octets ys)) a) c)
    (Stands (List ℕ) IsEarlierClosing c)
    (λ s. (s.0, s.3.1, record { principal = s.3.0; read = (s.1, (s.2, (s.3.1, (s.3.2, refl)))) }))
    (λ s. (s.0, s.2.read.0, s.2.read.1.0, (s.2.principal, s.2.read.1.1.0, s.2.read.1.1.1.0)))
    (decided_then (List ℕ) (λ (xs : List ℕ). Reads (text xs)) (λ (xs : List ℕ) (a : Cursor). Stands (List ℕ) (λ (ys : List ℕ). Reads (octets ys)) a) c
    (λ xs ys a b p q. one_text_read xs ys c a b p q) (λ xs a. octets_decided a) (text_decided c))

pub closing_decided : (minor : ℕ) (c : Cursor) → Decided (Stands (List ℕ) (IsClosing minor) c)
closing_decided minor c =
    elim (is_newest minor) as (λ v. Decided (Stands (List ℕ) (λ (o : List ℕ) (a b : Cursor). ByVersion v (IsNewestClosing o a b) (IsEarlierClosing o a b)) c)) [
      | true ↦ newest_closing_decided c
      | false ↦ earlier_closing_decided c
    ]
