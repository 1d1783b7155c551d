-- What each message of a stream is.
use Rattle.std.specs.Prelude.{◌≡◌, ℕ, ◌<◌, ◌≤◌, List, length, slice_index, take, codes}
use Rattle.giop_frame.specs.declared.header.TheConstants.{HEADER, FRAGMENT, NEWEST_MINOR}
use Rattle.giop_frame.specs.Part.{minor_of}

-- a header of GIOP 1.0, 1.1 or 1.2 and what follows it, and no Fragment
pub record IsMessage (bytes : List ℕ) : Type 0 where
  pub header : HEADER ≤ length bytes
  pub magic : take 4 bytes ≡ codes "GIOP"
  pub major : slice_index bytes 4 ≡ 1
  pub minor : minor_of bytes ≤ NEWEST_MINOR
  pub kind : slice_index bytes 7 < FRAGMENT
