-- The parts of a Request, each read where the one before it ends.
use Rattle.std.proofs.Common.{◌≡◌, ℕ, ◌≤◌, Bool, List, Option, length, drop, refl, sym, ap, ◌∙◌, subst, arith}
use Rattle.cdr_core.specs.Cursor.{Cursor}
use Rattle.poa_base.specs.declared.Body.{Body}
use Rattle.poa_base.specs.declared.Call.TheVariants.{Request, Locate, Line}
use Rattle.poa_base.specs.declared.Head.{Head}
use Rattle.giop_frame.specs.Part.{is_little, minor_of}
use Rattle.giop_answer.specs.declared.kind.TheConstants.{HEADER, REQUEST}
use Rattle.giop_msg.specs.Fields.{fields_start}
use Rattle.giop_msg.specs.Target.{IsAddressed}
use Rattle.giop_msg.specs.Opening.{IsOpening}
use Rattle.giop_msg.specs.Request.{body_at, body_from, body_unit, request_head, IsClosing, IsRequest}
use Rattle.giop_msg.specs.Header.{message_type}
use Rattle.giop_msg.specs.Reading.{NoneAddressed, NoCall}
use Rattle.giop_msg.proofs.Openings.{one_opening}
use Rattle.giop_msg.proofs.Targets.{one_addressed}
use Rattle.giop_msg.proofs.Places.{IsWithin, start_within, opening_within, addressed_within, closing_within, by_place}

abbrev body_with : List ℕ → Bool → ℕ → Body
body_with content little base = record { bytes = content; little = little; base = base }

-- its target and what follows stand where the parts that were read end
pub target_at :
    (bytes : List ℕ) (head : Head) (t : Option (List ℕ)) (o : List ℕ) (body : Body) (i f : ℕ) (b : Cursor) →
    IsOpening (minor_of bytes) i f (fields_start bytes) b → (is : IsRequest bytes head t o body) → IsAddressed (minor_of bytes) t b is.behind_target
target_at bytes head t o body i f b opening is =
    subst (λ (z : Cursor). IsAddressed (minor_of bytes) t z is.behind_target)
    (one_opening (minor_of bytes) head.id i head.flags f (fields_start bytes) is.behind_opening b is.opening opening).2 is.addressed

pub closing_at :
    (bytes : List ℕ) (head : Head) (t : Option (List ℕ)) (o : List ℕ) (body : Body) (i f : ℕ) (u : Option (List ℕ)) (b d : Cursor) →
    IsOpening (minor_of bytes) i f (fields_start bytes) b → IsAddressed (minor_of bytes) u b d → (is : IsRequest bytes head t o body) →
    IsClosing (minor_of bytes) o d is.behind
closing_at bytes head t o body i f u b d opening target is =
    subst (λ (z : Cursor). IsClosing (minor_of bytes) o z is.behind) (one_addressed (minor_of bytes) t u b is.behind_target d (target_at bytes head t o body i f b opening is) target).1 is.closing

-- no Request, so no call
no_call :
    (bytes : List ℕ) → message_type bytes ≡ REQUEST →
    ((head : Head) (t : Option (List ℕ)) (o : List ℕ) (body : Body) → IsRequest bytes head t o body → ⊥) → NoCall bytes
no_call bytes kind none (Request head t o body) makes = none head t o body makes.1
no_call bytes kind none (Locate head t) makes = omega (arith, kind, makes.0)
no_call bytes kind none (Line number command) makes = makes

-- the opening can't be read
pub no_opening :
    (bytes : List ℕ) → message_type bytes ≡ REQUEST →
    ((id flags : ℕ) (after : Cursor) → IsOpening (minor_of bytes) id flags (fields_start bytes) after → ⊥) → NoCall bytes
no_opening bytes kind none = no_call bytes kind (λ head t o body is. none head.id head.flags is.behind_opening is.opening)

-- or the target
pub no_target :
    (bytes : List ℕ) (i f : ℕ) (b : Cursor) → message_type bytes ≡ REQUEST → IsOpening (minor_of bytes) i f (fields_start bytes) b →
    NoneAddressed (minor_of bytes) b → NoCall bytes
no_target bytes i f b kind opening none =
    no_call bytes kind (λ head t o body is. none t is.behind_target (target_at bytes head t o body i f b opening is))

-- or the operation or the contexts
pub no_closing :
    (bytes : List ℕ) (i f : ℕ) (t : Option (List ℕ)) (b d : Cursor) → message_type bytes ≡ REQUEST →
    IsOpening (minor_of bytes) i f (fields_start bytes) b → IsAddressed (minor_of bytes) t b d → ((o : List ℕ) (after : Cursor) → IsClosing (minor_of bytes) o d after → ⊥) →
    NoCall bytes
no_closing bytes i f t b d kind opening target none =
    no_call bytes kind (λ head u o body is. none o is.behind (closing_at bytes head u o body i f t b d opening target is))

-- where all parts were read the message goes on from there
pub within :
    (bytes : List ℕ) (i f : ℕ) (t : Option (List ℕ)) (o : List ℕ) (b d e : Cursor) → HEADER ≤ length bytes →
    IsOpening (minor_of bytes) i f (fields_start bytes) b → IsAddressed (minor_of bytes) t b d → IsClosing (minor_of bytes) o d e → IsWithin bytes e
within bytes i f t o b d e whole opening target closing =
    closing_within bytes (minor_of bytes) o d e
    (addressed_within bytes (minor_of bytes) t b d
    (opening_within bytes (minor_of bytes) i f (fields_start bytes) b (start_within bytes whole) opening) target) closing

-- the parts make a Request
pub request_read :
    (bytes : List ℕ) (i f place base : ℕ) (little : Bool) (t : Option (List ℕ)) (o content : List ℕ) (b d e : Cursor) →
    HEADER ≤ length bytes → minor_of bytes ≤ 2 → IsOpening (minor_of bytes) i f (fields_start bytes) b → IsAddressed (minor_of bytes) t b d →
    IsClosing (minor_of bytes) o d e → place ≡ e.place →
    little ≡ is_little bytes →
    body_with content (is_little bytes) base ≡ body_at (minor_of bytes) (record { little = is_little bytes; place = place; rest = drop place bytes }) →
    IsRequest bytes (request_head (minor_of bytes) i f little) t o (body_with content little base)
request_read bytes i f place base little t o content b d e whole known opening target closing at order is_body = record {
  known = known;
  behind_opening = b;
  behind_target = d;
  behind = e;
  opening = opening;
  addressed = target;
  closing = closing;
  is_head = ap (λ (x : Bool). request_head (minor_of bytes) i f x) order;
  is_body = ap (λ (x : Bool). body_with content x base) order
      ∙ is_body
      ∙ ap (body_at (minor_of bytes)) (by_place bytes e place (within bytes i f t o b d e whole opening target closing) at);
}

-- the same of what was read of the message by this version, from this cursor on
module _ (bytes : List ℕ) (version : ℕ) (is : version ≡ minor_of bytes) (start : Cursor) (begins : start ≡ fields_start bytes) where
  pub opening_missing : message_type bytes ≡ REQUEST → ((id flags : ℕ) (after : Cursor) → IsOpening version id flags start after → ⊥) → NoCall bytes
  opening_missing kind none =
      no_opening bytes kind
      (λ id flags after here. none id flags after
      (subst (λ (n : ℕ). IsOpening n id flags start after) (sym is)
      (subst (λ (z : Cursor). IsOpening (minor_of bytes) id flags z after) (sym begins) here)))

  module _ (i f : ℕ) (b : Cursor) (opening : IsOpening version i f start b) where
    opening_here : IsOpening (minor_of bytes) i f (fields_start bytes) b
    opening_here =
        subst (λ (n : ℕ). IsOpening n i f (fields_start bytes) b) is (subst (λ (z : Cursor). IsOpening version i f z b) begins opening)

    pub target_missing : message_type bytes ≡ REQUEST → NoneAddressed version b → NoCall bytes
    target_missing kind none = no_target bytes i f b kind opening_here (subst (λ (n : ℕ). NoneAddressed n b) is none)

    module _ (t : Option (List ℕ)) (d : Cursor) (addressed : IsAddressed version t b d) where
      addressed_here : IsAddressed (minor_of bytes) t b d
      addressed_here = subst (λ (n : ℕ). IsAddressed n t b d) is addressed

      pub closing_missing : message_type bytes ≡ REQUEST → ((o : List ℕ) (after : Cursor) → IsClosing version o d after → ⊥) → NoCall bytes
      closing_missing kind none =
          no_closing bytes i f t b d kind opening_here addressed_here
          (λ o after here. none o after (subst (λ (n : ℕ). IsClosing n o d after) (sym is) here))

      module _ (o : List ℕ) (e : Cursor) (closing : IsClosing version o d e) (whole : HEADER ≤ length bytes) where
        closing_here : IsClosing (minor_of bytes) o d e
        closing_here = subst (λ (n : ℕ). IsClosing n o d e) is closing

        pub stands_within : IsWithin bytes e
        stands_within = within bytes i f t o b d e whole opening_here addressed_here closing_here

        pub request_stands :
            (place base unit : ℕ) (little : Bool) (content : List ℕ) → minor_of bytes ≤ 2 → place ≡ e.place →
            little ≡ is_little bytes → unit ≡ body_unit version →
            body_with content (is_little bytes) base ≡ body_from unit (record { little = is_little bytes; place = place; rest = drop place bytes }) →
            IsRequest bytes (request_head version i f little) t o (body_with content little base)
        request_stands place base unit little content known at order unit_is is_body =
            subst (λ (n : ℕ). IsRequest bytes (request_head n i f little) t o (body_with content little base)) (sym is)
            (request_read bytes i f place base little t o content b d e whole known opening_here addressed_here closing_here at order
            (is_body ∙ ap (λ (n : ℕ). body_from n (record { little = is_little bytes; place = place; rest = drop place bytes }))
            (unit_is ∙ ap body_unit is)))
