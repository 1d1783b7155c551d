-- A profile has one body.
use Rattle.std.proofs.Common.{◌≡◌, ℕ, List, ◌∙◌, ap, subst}
use Rattle.cdr_core.specs.Cursor.{Cursor}
use Rattle.cdr_core.proofs.OneReading.{one_ushort_read, one_text_read, one_octets_read}
use Rattle.poa_base.specs.declared.Profile.{Profile}
use Rattle.ior_text.specs.declared.body.ProfileBody.{ProfileBody}
use Rattle.ior_text.specs.Body.{ReadsBody, HasBody}
use Rattle.ior_text.proofs.Bodies.{Versioned, same_version, host_at, port_at, key_at}

abbrev body_with : ℕ → ℕ → List ℕ → ℕ → List ℕ → ProfileBody
body_with major minor host port key = record { major = major; minor = minor; host = host; port = port; key = key }

-- one body stands at a cursor
one_body_read : (a b : ProfileBody) (c : Cursor) → ReadsBody a c → ReadsBody b c → a ≡ b
one_body_read a b c r s =
    let v : Versioned c b.major b.minor s.behind_minor =
    record { behind_major = s.behind_major; major_read = s.major; minor_read = s.minor } in
    let version = same_version a c s.behind_minor b.major b.minor r v in
    let host = one_text_read a.host b.host s.behind_minor r.behind_host s.behind_host (host_at a c s.behind_minor b.major b.minor r v) s.host in
    let port =
    one_ushort_read a.port b.port s.behind_host r.behind_port s.behind_port
    (port_at a c s.behind_minor s.behind_host b.major b.minor b.host r v s.host) s.port in
    let key =
    one_octets_read a.key b.key s.behind_port r.behind_key s.behind_key
    (key_at a c s.behind_minor s.behind_host s.behind_port b.major b.minor b.host b.port r v s.host s.port) s.key in
    ap (λ x. body_with x a.minor a.host a.port a.key) version.0
    ∙ ap (λ x. body_with b.major x a.host a.port a.key) version.1.0
    ∙ ap (λ (x : List ℕ). body_with b.major b.minor x a.port a.key) host.0
    ∙ ap (λ x. body_with b.major b.minor b.host x a.key) port.0
    ∙ ap (λ (x : List ℕ). body_with b.major b.minor b.host b.port x) key.0

-- a profile has one body
pub one_body : (profile : Profile) (a b : ProfileBody) → HasBody profile a → HasBody profile b → a ≡ b
one_body profile a b r s =
    let start : r.encloses.start ≡ s.encloses.start = cc (r.encloses.opened, s.encloses.opened) in
    one_body_read a b s.encloses.start (subst (λ (x : Cursor). ReadsBody a x) start r.encloses.read) s.encloses.read
