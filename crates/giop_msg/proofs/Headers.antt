-- What a written header says.
use Rattle.std.proofs.Common.{◌≡◌, ℕ, ◌<◌, ◌≤◌, Bool, true, false, List, drop, refl, arith}
use Rattle.giop_frame.specs.Part.{is_little, minor_of}
use Rattle.giop_frame.specs.Message.{IsMessage}
use Rattle.giop_answer.specs.declared.kind.TheConstants.{HEADER, MINOR}
use Rattle.giop_msg.specs.Header.{message_type}
use Rattle.giop_answer.specs.Outgoing.{framed}

pub framed-type : (minor kind : ℕ) (little : Bool) (content : List ℕ) → message_type (framed minor kind little content) ≡ kind
framed-type minor kind true content = refl
framed-type minor kind false content = refl

pub framed-order : (minor kind : ℕ) (little : Bool) (content : List ℕ) → is_little (framed minor kind little content) ≡ little
unfolding is_little
framed-order minor kind true content = refl
framed-order minor kind false content = refl

pub framed-content : (minor kind : ℕ) (little : Bool) (content : List ℕ) → drop HEADER (framed minor kind little content) ≡ content
framed-content minor kind true content = refl
framed-content minor kind false content = refl

pub framed-minor : (minor kind : ℕ) (little : Bool) (content : List ℕ) → minor_of (framed minor kind little content) ≡ minor
framed-minor minor kind true content = refl
framed-minor minor kind false content = refl

-- a written message of a version that is read is a message
pub framed_message : (minor kind : ℕ) (little : Bool) (content : List ℕ) → minor ≤ MINOR → kind < 7 → IsMessage (framed minor kind little content)
framed_message minor kind true content known small = record { header = omega arith; magic = refl; major = refl; minor = known; kind = small }
framed_message minor kind false content known small = record { header = omega arith; magic = refl; major = refl; minor = known; kind = small }
