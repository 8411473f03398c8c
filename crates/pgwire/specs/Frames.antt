-- PostgreSQL documentation, Message Formats: CopyData (B) and CopyDone (B), the frames of a
-- session.
use Rattle.std.specs.Prelude.{◌≡◌, ◌≢◌, ◌<◌, ◌≤◌, ◌+◌, ◌⊎◌, ℕ, List, [], ◌∷◌, ◌++◌, Bool, true}
use Rattle.std.specs.Prelude.{false, length, drop, slice_index}
use Rattle.std.specs.List.{flat_map}
use Rattle.std.specs.Int.{w32, to_be_bytes}
use Rattle.byteorder.specs.Endian.{big_number}
use Rattle.pgwire.specs.declared.fault.WireFault.{WireFault}
use Rattle.pgwire.specs.declared.fault.WireFault.TheVariants.{UnknownFrame, BadLength, TooLarge}
use Rattle.pgwire.specs.declared.fault.WireFault.TheVariants.{AfterDone}
pub use Rattle.pgwire.specs.Payloads.{ServerMessage, XLogData, Keepalive, payload}

-- the first byte of a frame: `d` of CopyData, `c` of CopyDone
abbrev pub copy_data_tag : ℕ
copy_data_tag = 100

abbrev pub copy_done_tag : ℕ
copy_done_tag = 99

-- the greatest length that the four bytes of a header tell, an Int32
abbrev pub max_length : ℕ
max_length = 2147483647

-- a frame: CopyData with its payload, or CopyDone
pub data Frame : Type 0 where
  CopyData : (bytes : List ℕ) → Frame
  CopyDone : Frame

-- its bytes: `d` or `c`, the length, which counts itself and not the letter, and the payload
abbrev pub frame : Frame → List ℕ
frame (CopyData bytes) = copy_data_tag ∷ (to_be_bytes w32 (length bytes + 4) ++ bytes)
frame CopyDone = copy_done_tag ∷ 0 ∷ 0 ∷ 0 ∷ 4 ∷ []

abbrev pub frames : List Frame → List ℕ
frames fs = flat_map frame fs

-- the payload has at most max bytes, and its length fits the header
abbrev pub IsAllowed : ℕ → Frame → Type 0
IsAllowed max (CopyData bytes) = (length bytes ≤ max) × (length bytes + 4 ≤ max_length)
IsAllowed max CopyDone = Unit {0}

-- each frame is allowed, and CopyDone is the last alone
abbrev pub AreFrames : ℕ → List Frame → Type 0
AreFrames max [] = Unit {0}
AreFrames max (CopyDone ∷ fs) = fs ≡ []
AreFrames max (CopyData bytes ∷ fs) = IsAllowed max (CopyData bytes) × AreFrames max fs

abbrev pub has_copy_done : List Frame → Bool
has_copy_done [] = false
has_copy_done (CopyDone ∷ fs) = true
has_copy_done (CopyData bytes ∷ fs) = has_copy_done fs

-- of the bytes from a frame's first one on: the letter, and the length after it
abbrev pub tag_of : List ℕ → ℕ
tag_of bytes = slice_index bytes 0

abbrev pub length_of : List ℕ → ℕ
length_of bytes = big_number 4 (drop 1 bytes)

abbrev pub IsTag : ℕ → Type 0
IsTag tag = (tag ≡ copy_data_tag) ⊎ (tag ≡ copy_done_tag)

-- less than a whole frame, within the rules: nothing, or a letter, and once the header is complete,
-- a payload that isn't whole
pub record IsPartial (max : ℕ) (bytes : List ℕ) : Type 0 where
  pub tag : 1 ≤ length bytes → IsTag (tag_of bytes)
  pub payload : 5 ≤ length bytes
      → (tag_of bytes ≡ copy_data_tag) × (length bytes < length_of bytes + 1) × (length_of bytes ≤ max + 4) × (length_of bytes ≤ max_length)

-- the bytes are these frames, and then less than a whole one; nothing after CopyDone
pub record IsDeframedAs (max : ℕ) (bytes : List ℕ) (fs : List Frame) (rest : List ℕ) : Type 0 where
  pub whole : bytes ≡ frames fs ++ rest
  pub each : AreFrames max fs
  pub partial : IsPartial max rest
  pub last : has_copy_done fs ≡ true → rest ≡ []

-- how a length breaks the rules
abbrev pub BreaksLength : ℕ → ℕ → Type 0
BreaksLength tag n = (n < 4) ⊎ (max_length < n) ⊎ ((tag ≡ copy_done_tag) × (n ≢ 4))

-- what follows the whole frames, of which CopyDone may be one, can't be the front of a frame
abbrev pub IsFramingFault : ℕ → Bool → List ℕ → WireFault → Type 0
IsFramingFault max done bytes AfterDone = (done ≡ true) × (1 ≤ length bytes)
IsFramingFault max done bytes (UnknownFrame byte) =
    (done ≡ false) × (1 ≤ length bytes) × (byte ≡ tag_of bytes) × (byte ≢ copy_data_tag) × (byte ≢ copy_done_tag)
IsFramingFault max done bytes BadLength =
    (done ≡ false) × (5 ≤ length bytes) × IsTag (tag_of bytes) × BreaksLength (tag_of bytes) (length_of bytes)
IsFramingFault max done bytes TooLarge =
    (done ≡ false) × (5 ≤ length bytes) × (tag_of bytes ≡ copy_data_tag) × (max + 4 < length_of bytes) × (length_of bytes ≤ max_length)
IsFramingFault max done bytes _ = ⊥

pub record HasFramingFault (max : ℕ) (bytes : List ℕ) (fault : WireFault) : Type 0 where
  pub fs : List Frame
  pub rest : List ℕ
  pub whole : bytes ≡ frames fs ++ rest
  pub each : AreFrames max fs
  pub breaks : IsFramingFault max (has_copy_done fs) rest fault

-- what a header that keeps the rules says of its payload: nothing yet, or its length
pub record HasPayloadLen (max : ℕ) (header : List ℕ) (n : ℕ) : Type 0 where
  pub tag : 1 ≤ length header → IsTag (tag_of header)
  pub begun : length header < 5 → n ≡ 0
  pub counted : 5 ≤ length header → (n + 4 ≡ length_of header) × (length_of header ≤ max_length)
  pub most : n ≤ max
  pub done : 5 ≤ length header → tag_of header ≡ copy_done_tag → n ≡ 0
