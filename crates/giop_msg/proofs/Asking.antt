-- A Request that is written is read as the call that it was written for.
use Rattle.std.proofs.Common.{◌≡◌, ◌⊎◌, inl, inr, ℕ, zero, suc, ◌+◌, ◌≤◌, ◌==◌, if◌then◌else◌, Bool, true, false, List, [], ◌∷◌, ◌++◌, Option, Some, None, length, drop, replicate, refl, sym, ap, ap₂, ◌∙◌, subst, arith}
use Rattle.std.specs.Prelude.{min}
use Rattle.std.proofs.lemmas.Bool.{eqb-true, eqb-false}
use Rattle.std.proofs.lemmas.List.{length-replicate}
use Rattle.std.proofs.Math.Seq.{drop-append_seam, drop-nil}
use Rattle.std.proofs.Common.{length-append, append_assoc}
use Rattle.cdr_core.specs.Field.{Field, ulong, octet, octets}
use Rattle.cdr_core.specs.Spelling.{gap, written}
use Rattle.cdr_core.specs.Cursor.{Cursor, Reads}
use Rattle.cdr_core.specs.Draft.{empty_draft}
use Rattle.cdr_core.proofs.OneReading.{same_cursor}
use Rattle.poa_base.specs.declared.Ask.{Ask}
use Rattle.poa_base.specs.declared.Body.{Body}
use Rattle.poa_base.specs.declared.Datum.{Datum}
use Rattle.poa_base.specs.declared.Head.{Head}
use Rattle.giop_frame.specs.Part.{is_little, minor_of}
use Rattle.giop_answer.specs.declared.kind.TheConstants.{HEADER, MINOR, REQUEST}
use Rattle.giop_answer.specs.Reply.{datum_field}
use Rattle.giop_msg.specs.declared.target.TheConstants.{KEY_ADDRESS}
use Rattle.giop_msg.specs.Version.{is_newest, ByVersion}
use Rattle.giop_msg.specs.Fields.{ReadsAll, fields_start}
use Rattle.giop_msg.specs.Contexts.{counted_contexts}
use Rattle.giop_msg.specs.Opening.{opening_fields, asked_fields, reserved_fields, HasFlags, IsReserved, IsEarlierOpening, IsOpening}
use Rattle.giop_msg.specs.Target.{by_key, key_fields, IsTarget, IsKey, IsAddressed}
use Rattle.giop_msg.specs.Request.{closing_fields, principal_fields, body_at, body_from, body_unit, request_head, IsClosing}
use Rattle.giop_msg.specs.Ask.{request_draft, request_end, argument_bytes, request_bytes, asked_body, newest_fields, earlier_fields, ask_fields, asked_by_flags, no_reserved, CarriesFlags, IsAsk}
use Rattle.giop_msg.specs.Laws.{WrittenIsMessage, WrittenAsks}
use Rattle.giop_msg.proofs.Fields.{reads_split}
use Rattle.giop_msg.proofs.Written.{AllFit, written_all, with_fields-bytes, reads_written}
use Rattle.giop_msg.proofs.Headers.{framed-type, framed-order, framed-minor, framed-content, framed_message}

same_body : (little : Bool) (xs ys : List ℕ) (m n : ℕ) → xs ≡ ys → m ≡ n
    → (let r : Body = record { bytes = xs; little = little; base = m } in r) ≡ record { bytes = ys; little = little; base = n }
same_body little xs ys m n bytes base = ap₂ (λ (l : List ℕ) (k : ℕ). let r : Body = record { bytes = l; little = little; base = k } in r) bytes base

-- the body behind the fields is the argument's
body_of_argument : (unit : ℕ) (little : Bool) (place : ℕ) (argument : Option Datum)
    → body_from unit (record { little = little; place = place; rest = argument_bytes unit little place argument }) ≡ asked_body unit little place argument
body_of_argument unit little place None =
    same_body little (drop (gap unit place) []) [] (place + min (gap unit place) 0) place (drop-nil (gap unit place)) (omega arith)
body_of_argument unit little place (Some datum) =
    let padding : List ℕ = replicate (gap unit place) 0 in
    let field : List ℕ = written little (place + gap unit place) (datum_field datum) in
    let counted : length padding ≡ gap unit place = length-replicate (gap unit place) 0 in
    same_body little (drop (gap unit place) (padding ++ field)) field (place + min (gap unit place) (length (padding ++ field))) (place + gap unit place)
    (subst (λ (n : ℕ). drop n (padding ++ field) ≡ field) counted (drop-append_seam padding field))
    (omega (arith, length-append padding field, counted))

-- the fields of the Request
both_fit : (fs gs : List Field) → AllFit fs → AllFit gs → AllFit (fs ++ gs)
both_fit [] gs first second = second
both_fit (f ∷ fs) gs first second = (first.0, both_fit fs gs first.1 second)

newest_fit : (ask : Ask) → IsAsk ask → AllFit (newest_fields ask)
newest_fit ask is =
    let fits = is.fits in
    (fits.id, (fits.flags, (omega arith, (omega arith, (omega arith, (omega arith, (fits.key, (fits.operation, (omega arith, tt)))))))))

reserved_fit : (minor : ℕ) → AllFit (no_reserved minor)
reserved_fit zero = tt
reserved_fit (suc minor) = (omega arith, (omega arith, (omega arith, tt)))

asked_low : (b : Bool) → AllFit (octet (if b then 0 else 1) ∷ [])
asked_low true = (omega arith, tt)
asked_low false = (omega arith, tt)

earlier_fit : (ask : Ask) → IsAsk ask → AllFit (earlier_fields ask)
earlier_fit ask is =
    let fits = is.fits in (
      omega arith,
      (
        fits.id,
        (
          (asked_low (ask.head.flags == 0)).0,
          both_fit (no_reserved ask.head.minor) (octets ask.key ∷ principal_fields ask.operation [])
              (reserved_fit ask.head.minor) (fits.key, (fits.operation, (omega arith, tt))),
        ),
      ),
    )

fields_fit : (ask : Ask) → IsAsk ask → AllFit (ask_fields ask)
fields_fit ask is =
    elim (is_newest ask.head.minor) as (λ v. AllFit (if v then newest_fields ask else earlier_fields ask)) [
      | true ↦ newest_fit ask is
      | false ↦ earlier_fit ask is
    ]

-- behind the fields the argument follows
abbrev behind : Ask → Cursor
behind ask = record {
  little = ask.head.little;
  place = request_end ask;
  rest = argument_bytes (body_unit ask.head.minor) ask.head.little (request_end ask) ask.argument;
}

abbrev content : Ask → List ℕ
content ask = (request_draft ask).bytes ++ (behind ask).rest

start : (ask : Ask) → fields_start (request_bytes ask) ≡ record { little = ask.head.little; place = HEADER; rest = content ask }
start ask =
    same_cursor (fields_start (request_bytes ask)) (record { little = ask.head.little; place = HEADER; rest = content ask })
    (framed-order ask.head.minor REQUEST ask.head.little (content ask)) refl (framed-content ask.head.minor REQUEST ask.head.little (content ask))

fields_read : (ask : Ask) → IsAsk ask → ReadsAll (ask_fields ask) (fields_start (request_bytes ask)) (behind ask)
fields_read ask is =
    let bytes : (request_draft ask).bytes ≡ written_all ask.head.little HEADER (ask_fields ask) =
    with_fields-bytes (ask_fields ask) (empty_draft ask.head.little HEADER) in
    subst (λ (c : Cursor). ReadsAll (ask_fields ask) c (behind ask)) (sym (start ask))
    (reads_written (ask_fields ask) (record { little = ask.head.little; place = HEADER; rest = content ask }) (behind ask)
    (fields_fit ask is)
    (ap (λ (l : List ℕ). l ++ (behind ask).rest) bytes) refl (ap (λ (l : List ℕ). HEADER + length l) bytes))

-- the fields of a target by its key are read as that target
target_by_key : (key : List ℕ) (a b : Cursor) → ReadsAll (key_fields key) a b → IsTarget (Some key) a b
target_by_key key a b read = record {
  disposition = KEY_ADDRESS;
  behind = read.0;
  told = read.1.0;
  address = record {
    object = by_key key;
    is = refl;
    read = subst (λ (c : Cursor). Reads (octets key) read.0 c) (sym read.1.1.1.1) read.1.1.1.0;
    gives = refl;
  };
}

-- the octets that are reserved are read as such
reserved_read : (minor : ℕ) (a b : Cursor) → ReadsAll (no_reserved minor) a b → IsReserved minor a b
reserved_read zero a b read = read
reserved_read (suc minor) a b read = (0, 0, 0, read)

-- the octet stands for the flags
flags_told : (minor flags : ℕ) → CarriesFlags minor flags → is_newest minor ≡ false → HasFlags (asked_by_flags flags) flags
flags_told minor flags (inl newest) earlier = absurd (eqb-false minor MINOR earlier newest)
flags_told minor flags (inr (inl none)) earlier = inl (ap asked_by_flags none, none)
flags_told minor flags (inr (inr asked)) earlier = inr (ap asked_by_flags asked, asked)

-- the parts of a Request, whose fields were read
record Parts (ask : Ask) (minor : ℕ) (a after : Cursor) : Type 0 where
  behind_opening : Cursor
  behind_target : Cursor
  opening : IsOpening minor ask.head.id ask.head.flags a behind_opening
  addressed : IsAddressed minor (Some ask.key) behind_opening behind_target
  closing : IsClosing minor ask.operation behind_target after

newest_parts : (ask : Ask) (a after : Cursor) → ReadsAll (newest_fields ask) a after → Parts ask MINOR a after
newest_parts ask a after whole =
    let front : List Field = opening_fields ask.head.id ask.head.flags 0 0 0 in
    let opened = reads_split front (key_fields ask.key ++ closing_fields ask.operation []) a after whole in
    let told = reads_split (key_fields ask.key) (closing_fields ask.operation []) opened.0 after opened.1.1 in
    record {
      behind_opening = opened.0;
      behind_target = told.0;
      opening = record { a = 0; b = 0; c = 0; read = opened.1.0 };
      addressed = target_by_key ask.key opened.0 told.0 told.1.0;
      closing = record { contexts = []; read = told.1.1 };
    }

by_earlier : (minor : ℕ) (newest earlier : Type 0) → is_newest minor ≡ false → earlier → ByVersion (is_newest minor) newest earlier
by_earlier minor newest earlier is x = subst (λ (b : Bool). ByVersion b newest earlier) (sym is) x

earlier_parts : (ask : Ask) (a after : Cursor) → is_newest ask.head.minor ≡ false → CarriesFlags ask.head.minor ask.head.flags
    → ReadsAll (earlier_fields ask) a after
    → Parts ask ask.head.minor a after
earlier_parts ask a after earlier carried whole =
    let minor : ℕ = ask.head.minor in
    let asked : List Field = asked_fields ask.head.id (asked_by_flags ask.head.flags) in
    let last : List Field = principal_fields ask.operation [] in
    let contexts = reads_split (counted_contexts []) (asked ++ no_reserved minor ++ octets ask.key ∷ last) a after whole in
    let told = reads_split asked (no_reserved minor ++ octets ask.key ∷ last) contexts.0 after contexts.1.1 in
    let kept = reads_split (no_reserved minor) (octets ask.key ∷ last) told.0 after told.1.1 in
    record {
      behind_opening = kept.0;
      behind_target = kept.1.1.0;
      opening = by_earlier minor _ _ earlier (record {
        behind_contexts = contexts.0;
        behind_asked = told.0;
        contexts = record { contexts = []; read = contexts.1.0 };
        asked = record { asked = asked_by_flags ask.head.flags; read = told.1.0; has_flags = flags_told minor ask.head.flags carried earlier };
        reserved = reserved_read minor told.0 kept.0 kept.1.0;
      });
      addressed = by_earlier minor _ _ earlier (record { key = ask.key; read = kept.1.1.1.0; gives = refl });
      closing = by_earlier minor _ _ earlier (record { principal = []; read = kept.1.1.1.1 });
    }

parts : (ask : Ask) (a after : Cursor) → CarriesFlags ask.head.minor ask.head.flags → ReadsAll (ask_fields ask) a after → Parts ask ask.head.minor a after
parts ask a after carried =
    elim (is_newest ask.head.minor) as (λ v. is_newest ask.head.minor ≡ v → ReadsAll (if v then newest_fields ask else earlier_fields ask) a after
    → Parts ask ask.head.minor a after) [
      | true ↦ (λ newest read. subst (λ (n : ℕ). Parts ask n a after) (sym (eqb-true ask.head.minor MINOR newest)) (newest_parts ask a after read))
      | false ↦ (λ earlier read. earlier_parts ask a after earlier carried read)
    ] refl

-- the head as it is read
same_head : (h : Head) (minor : ℕ) (little : Bool) → minor ≡ h.minor → h.locate ≡ false → little ≡ h.little → h ≡ request_head minor h.id h.flags little
same_head h minor little version locate order =
    ap (λ (m : ℕ). let r : Head = record { id = h.id; minor = m; little = h.little; flags = h.flags; locate = h.locate } in r) (sym version)
    ∙ (ap (λ (l : Bool). let r : Head = record { id = h.id; minor = minor; little = l; flags = h.flags; locate = h.locate } in r) (sym order)
    ∙ ap (λ (l : Bool). let r : Head = record { id = h.id; minor = minor; little = little; flags = h.flags; locate = l } in r) locate)

pub written_is_message : WrittenIsMessage
written_is_message ask known = framed_message ask.head.minor REQUEST ask.head.little _ known (omega arith)

pub written_asks : WrittenAsks
written_asks ask is =
    let bytes : List ℕ = request_bytes ask in
    let version : minor_of bytes ≡ ask.head.minor = framed-minor ask.head.minor REQUEST ask.head.little (content ask) in
    let read = subst (λ (n : ℕ). Parts ask n (fields_start bytes) (behind ask)) (sym version)
    (parts ask (fields_start bytes) (behind ask) is.carried (fields_read ask is)) in (
      framed-type ask.head.minor REQUEST ask.head.little (content ask),
      record {
        known = subst (λ (n : ℕ). n ≤ MINOR) (sym version) is.minor;
        behind_opening = read.behind_opening;
        behind_target = read.behind_target;
        behind = behind ask;
        opening = read.opening;
        addressed = read.addressed;
        closing = read.closing;
        is_head = same_head ask.head (minor_of bytes) (is_little bytes) version is.no_locate
            (framed-order ask.head.minor REQUEST ask.head.little (content ask));
        is_body = sym (ap (λ (n : ℕ). body_at n (behind ask)) version
            ∙ body_of_argument (body_unit ask.head.minor) ask.head.little (request_end ask) ask.argument);
      },
    )
