-- Which frames there are under given limits (this project's rule), and their bytes in each version
-- of the format.
use Rattle.std.specs.Prelude.{◌≡◌, ℕ, ◌<◌, true, List, length, map}
use Rattle.std.specs.List.{AllByRecursion}
use Rattle.cb_page.specs.Bounds.{Bounds, AreInRange}
use Rattle.cb_page.specs.Numbers.{IsNumber, IsVersion}
use Rattle.cb_page.specs.Rising.{IsRising}
use Rattle.cb_frame.specs.declared.frame.Frame.{Frame}
use Rattle.cb_frame.specs.declared.frame.Body.{Body}
use Rattle.cb_frame.specs.declared.frame.Body.TheVariants as body
use Rattle.cb_frame.specs.declared.frame.ShortBody.{ShortBody}
use Rattle.cb_frame.specs.declared.version.FrameVersion.{FrameVersion}
use Rattle.cb_frame.specs.declared.writes.Write.{Write}
use Rattle.cb_frame.specs.Fields.{FieldsFit, fields_of}
use Rattle.cb_frame.specs.Kinds.{kind_of_body}
use Rattle.cb_frame.specs.Spelling.{spelling, spelling_in}
use Rattle.cb_frame.specs.Versions.{has_kind, has_size}

-- a page that a commit writes, with as many bytes as a page has
pub record WriteFits (limits : Bounds) (write : Write) : Type 0 where
  pub page : write.page < limits.pages
  pub grant : IsNumber write.grant
  pub bytes : length write.bytes ≡ limits.page_size

abbrev pub page_of : Write → ℕ
page_of write = write.page

-- each number lies in its range
abbrev pub ShortFits : Bounds → ShortBody → Type 0
ShortFits limits short = FieldsFit limits (fields_of short)

-- a commit's pages rise, and pages have the store's size
abbrev pub BodyFits : Bounds → Body → Type 0
BodyFits limits (body.Short short) = ShortFits limits short
BodyFits limits (body.Commit txn writes) =
    IsNumber txn × AllByRecursion (WriteFits limits) writes × IsRising (map page_of writes)
BodyFits limits (body.Granted page grant version bytes) =
    (page < limits.pages) × IsNumber grant × IsVersion version × (length bytes ≡ limits.page_size)

-- a frame under these limits
pub record Fits (limits : Bounds) (frame : Frame) : Type 0 where
  pub client : frame.client < limits.clients
  pub incarnation : IsNumber frame.incarnation
  pub body : BodyFits limits frame.body

-- these bytes are that frame in that version of the format
pub record IsFrameIn (version : FrameVersion) (limits : Bounds) (frame : Frame) (bytes : List ℕ)
    : Type 0 where
  pub fits : Fits limits frame
  pub size : has_size version limits.page_size ≡ true
  pub kind : has_kind version (kind_of_body frame.body) ≡ true
  pub spelled : bytes ≡ spelling_in version frame

-- these bytes are that frame, in one version or the other
abbrev pub IsFrameInSome : Bounds → Frame → List ℕ → Type 0
IsFrameInSome limits frame bytes = (version : FrameVersion) × IsFrameIn version limits frame bytes

-- these bytes are that frame as it is written
abbrev pub IsFrame : Bounds → Frame → List ℕ → Type 0
IsFrame limits frame bytes = Fits limits frame × (bytes ≡ spelling frame)

-- a frame under some limits
abbrev pub FitsSome : Frame → Type 0
FitsSome frame = (limits : Bounds) × AreInRange limits × Fits limits frame

-- a body, and the pages of a commit, under some limits
abbrev pub BodyFitsSome : Body → Type 0
BodyFitsSome body = (limits : Bounds) × AreInRange limits × BodyFits limits body

abbrev pub WritesFitSome : List Write → Type 0
WritesFitSome writes =
    (limits : Bounds) × AreInRange limits
    × AllByRecursion (WriteFits limits) writes × IsRising (map page_of writes)
