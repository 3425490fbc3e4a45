-- The versions of the format (this project's rule), and what a frame of each may be.
use Rattle.std.specs.Prelude.{ℕ, Bool, true, false, nat_le}
use Rattle.std.specs.Int.{Width, w16, w32}
use Rattle.cb_frame.specs.declared.version.FrameVersion.{FrameVersion}
use Rattle.cb_frame.specs.declared.version.FrameVersion.TheVariants.{One, Two}
use Rattle.cb_frame.specs.declared.kind.Kind.{Kind}
use Rattle.cb_frame.specs.declared.kind.Kind.TheVariants as kind

-- the first byte of a frame
abbrev pub version_byte : FrameVersion → ℕ
version_byte One = 1
version_byte Two = 2

-- the field before a page's bytes that says how many they are, and its length
abbrev pub size_width : FrameVersion → Width
size_width One = w16
size_width Two = w32

abbrev pub size_length : FrameVersion → ℕ
size_length One = 2
size_length Two = 4

-- whether frames of the version have pages of this size
abbrev pub has_size : FrameVersion → ℕ → Bool
has_size One page_size = nat_le page_size 4096
has_size Two page_size = true

-- whether the version has frames of this kind; those of kept write permission came with the second
abbrev pub has_kind : FrameVersion → Kind → Bool
has_kind Two kind = true
has_kind One kind.Downgraded = false
has_kind One kind.Downgrade = false
has_kind One _ = true
