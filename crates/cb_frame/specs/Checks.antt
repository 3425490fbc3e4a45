-- What can be wrong with the bytes of a frame, in the order of the checks, and what they say
-- otherwise.
use Rattle.std.specs.Prelude.{◌≡◌, ℕ, zero, suc, ◌+◌, ◌-◌, ◌/◌, ◌%◌, Bool, true, false, not, ◌&&◌}
use Rattle.std.specs.Prelude.{◌==◌, nat_lt, nat_le, if◌then◌else◌, List, [], ◌∷◌, length, take}
use Rattle.std.specs.Prelude.{drop, map, slice_index, unwrap_or, Option, Some, None, Result, Ok}
use Rattle.std.specs.Prelude.{Err}
use Rattle.std.specs.List.{list_all}
use Rattle.std.specs.Int.{Width, w16, w32, w64, byte_len, from_be_bytes}
use Rattle.cb_page.specs.Bounds.{Bounds}
use Rattle.cb_page.specs.Numbers.{is_number, is_version}
use Rattle.cb_page.specs.Rising.{is_rising}
use Rattle.cb_frame.specs.declared.frame.Frame.{Frame}
use Rattle.cb_frame.specs.declared.frame.Body.{Body}
use Rattle.cb_frame.specs.declared.frame.Body.TheVariants as body
use Rattle.cb_frame.specs.declared.frame.ShortBody.{ShortBody}
use Rattle.cb_frame.specs.declared.frame.ShortBody.TheVariants as short
use Rattle.cb_frame.specs.declared.kind.Kind.{Kind}
use Rattle.cb_frame.specs.declared.kind.Kind.TheVariants as kind
use Rattle.cb_frame.specs.declared.version.FrameVersion.{FrameVersion}
use Rattle.cb_frame.specs.declared.version.FrameVersion.TheVariants.{One, Two}
use Rattle.cb_frame.specs.declared.writes.Write.{Write}
use Rattle.cb_frame.specs.declared.fault.FrameFault.{FrameFault}
use Rattle.cb_frame.specs.declared.fault.FrameFault.TheVariants as fault
use Rattle.cb_frame.specs.Fields.{fields_fit, fields_length, fields_of}
use Rattle.cb_frame.specs.Grammar.{page_of}
use Rattle.cb_frame.specs.Kinds.{is_short}
use Rattle.cb_frame.specs.Versions.{has_kind, has_size, size_length, size_width}

-- ---- what stands where

-- the number that begins at a place
unfoldable pub number : Width → ℕ → List ℕ → ℕ
number w at bytes = from_be_bytes w (take (byte_len w) (drop at bytes))

-- the version that a first byte stands for
unfoldable pub version_of : ℕ → Option FrameVersion
version_of byte = if byte == 1 then Some One else if byte == 2 then Some Two else None

-- the kind that a code stands for
unfoldable pub kind_of : ℕ → Option Kind
kind_of code =
    if code == 1 then Some kind.Hello
    else if code == 2 then Some kind.AskRead
    else if code == 3 then Some kind.AskWrite
    else if code == 4 then Some kind.GiveBack
    else if code == 5 then Some kind.InUse
    else if code == 6 then Some kind.Commit
    else if code == 7 then Some kind.Drop
    else if code == 8 then Some kind.Downgraded
    else if code == 65 then Some kind.Welcome
    else if code == 66 then Some kind.Granted
    else if code == 67 then Some kind.MayWrite
    else if code == 68 then Some kind.Callback
    else if code == 69 then Some kind.Done
    else if code == 70 then Some kind.AbortNow
    else if code == 71 then Some kind.Downgrade
    else None

-- the length that the header gives, and the bytes that it gives to the body
abbrev pub body_length : List ℕ → ℕ
body_length bytes = number w32 12 bytes

abbrev pub body_bytes : List ℕ → List ℕ
body_bytes bytes = take (body_length bytes) (drop 16 bytes)

-- the length of one page of a commit: the page, the grant, the size and the bytes
abbrev pub write_length : FrameVersion → ℕ → ℕ
write_length version page_size = 12 + size_length version + page_size

-- how many pages a commit's body of this length has
abbrev pub count_in : FrameVersion → ℕ → ℕ → ℕ
count_in version page_size len = (len - 10) / write_length version page_size

-- one page of a commit
abbrev pub write_in : FrameVersion → ℕ → List ℕ → Write
write_in version page_size bytes = record {
  page = number w32 0 bytes;
  grant = number w64 4 bytes;
  bytes = take page_size (drop (12 + size_length version) bytes);
}

-- the pages of a commit
unfoldable pub writes_at : FrameVersion → ℕ → ℕ → List ℕ → List Write
writes_at version page_size zero bytes = []
writes_at version page_size (suc n) bytes =
    write_in version page_size bytes
    ∷ writes_at version page_size n (drop (write_length version page_size) bytes)

-- bodies by the shape of their fields
abbrev pub txn_at : (ℕ → ShortBody) → List ℕ → ShortBody
txn_at make bytes = make (number w64 0 bytes)

abbrev pub txn_page_at : (ℕ → ℕ → ShortBody) → List ℕ → ShortBody
txn_page_at make bytes = make (number w64 0 bytes) (number w32 8 bytes)

abbrev pub txn_page_grant_at : (ℕ → ℕ → ℕ → ShortBody) → List ℕ → ShortBody
txn_page_grant_at make bytes = make (number w64 0 bytes) (number w32 8 bytes) (number w64 12 bytes)

abbrev pub txn_commit_at : (ℕ → ℕ → ShortBody) → List ℕ → ShortBody
txn_commit_at make bytes = make (number w64 0 bytes) (number w64 8 bytes)

abbrev pub page_grant_at : (ℕ → ℕ → ShortBody) → List ℕ → ShortBody
page_grant_at make bytes = make (number w32 0 bytes) (number w64 4 bytes)

abbrev pub page_grant_txn_at : (ℕ → ℕ → ℕ → ShortBody) → List ℕ → ShortBody
page_grant_txn_at make bytes = make (number w32 0 bytes) (number w64 4 bytes) (number w64 12 bytes)

-- what a body without page bytes says; the two kinds with page bytes are not asked for
unfoldable pub short_at : Kind → List ℕ → ShortBody
short_at kind.Hello bytes = short.Hello
short_at kind.AskRead bytes = txn_page_at short.AskRead bytes
short_at kind.AskWrite bytes = txn_page_grant_at short.AskWrite bytes
short_at kind.GiveBack bytes = page_grant_at short.GiveBack bytes
short_at kind.InUse bytes = txn_page_grant_at short.InUse bytes
short_at kind.Drop bytes = txn_at short.Drop bytes
short_at kind.Welcome bytes = short.Welcome
short_at kind.MayWrite bytes = txn_page_grant_at short.MayWrite bytes
short_at kind.Callback bytes = page_grant_at short.Callback bytes
short_at kind.Done bytes = txn_commit_at short.Done bytes
short_at kind.AbortNow bytes = txn_at short.AbortNow bytes
short_at kind.Downgraded bytes = page_grant_txn_at short.Downgraded bytes
short_at kind.Downgrade bytes = page_grant_txn_at short.Downgrade bytes
short_at _ bytes = short.Hello

-- whether frames of a code's kind can have page bytes; memory is taken for them alone
abbrev pub has_pages : Option Kind → Bool
has_pages None = false
has_pages (Some kind) = not (is_short kind)

abbrev pub commit_at : FrameVersion → ℕ → List ℕ → Body
commit_at version page_size bytes =
    body.Commit (number w64 0 bytes)
    (writes_at version page_size (count_in version page_size (length bytes)) (drop 10 bytes))

abbrev pub granted_at : FrameVersion → ℕ → List ℕ → Body
granted_at version page_size bytes =
    body.Granted (number w32 0 bytes) (number w64 4 bytes) (number w64 12 bytes)
    (take page_size (drop (20 + size_length version) bytes))

unfoldable pub body_at : Bounds → FrameVersion → Kind → List ℕ → Body
body_at limits version kind.Commit bytes = commit_at version limits.page_size bytes
body_at limits version kind.Granted bytes = granted_at version limits.page_size bytes
body_at limits version kind bytes = body.Short (short_at kind bytes)

abbrev pub frame_at : Bounds → FrameVersion → Kind → List ℕ → Frame
frame_at limits version kind bytes = record {
  client = number w16 2 bytes;
  incarnation = number w64 4 bytes;
  body = body_at limits version kind (body_bytes bytes);
}

-- the frame at the front, where nothing is wrong
abbrev pub version_in_front : List ℕ → FrameVersion
version_in_front bytes = unwrap_or (version_of (slice_index bytes 0)) Two

abbrev pub frame_in_front : Bounds → List ℕ → Frame
frame_in_front limits bytes =
    frame_at limits (version_in_front bytes)
    (unwrap_or (kind_of (slice_index bytes 1)) kind.Hello) bytes

-- ---- the tests

-- how long bodies of a kind without page bytes are, whatever they say
unfoldable pub short_length : Kind → ℕ
short_length kind = fields_length (fields_of (short_at kind []))

-- whether a body of this kind can have this length
unfoldable pub can_be_length : Bounds → FrameVersion → Kind → ℕ → Bool
can_be_length limits version kind.Commit len =
    nat_le 10 len && ((len - 10) % write_length version limits.page_size == 0
    && nat_le (count_in version limits.page_size len) limits.pages)
can_be_length limits version kind.Granted len = len == 20 + size_length version + limits.page_size
can_be_length limits version kind len = len == short_length kind

-- whether the size before each page is that of a page
unfoldable pub sizes_fit : FrameVersion → ℕ → ℕ → List ℕ → Bool
sizes_fit version page_size zero bytes = true
sizes_fit version page_size (suc n) bytes =
    number (size_width version) 12 bytes == page_size
    && sizes_fit version page_size n (drop (write_length version page_size) bytes)

-- whether the count and the sizes in a body are those that its length gives
unfoldable pub parts_fit : Bounds → FrameVersion → Kind → List ℕ → Bool
parts_fit limits version kind.Commit bytes =
    number w16 8 bytes == count_in version limits.page_size (length bytes)
    && sizes_fit version limits.page_size
    (count_in version limits.page_size (length bytes)) (drop 10 bytes)
parts_fit limits version kind.Granted bytes =
    number (size_width version) 20 bytes == limits.page_size
parts_fit limits version _ bytes = true

-- whether each number is in its range
abbrev pub is_write : Bounds → Write → Bool
is_write limits write = nat_lt write.page limits.pages && is_number write.grant

unfoldable pub numbers_fit : Bounds → Body → Bool
numbers_fit limits (body.Short short) = fields_fit limits (fields_of short)
numbers_fit limits (body.Commit txn writes) = is_number txn && list_all (is_write limits) writes
numbers_fit limits (body.Granted page grant version bytes) =
    nat_lt page limits.pages && (is_number grant && is_version version)

unfoldable pub is_sender : Bounds → ℕ → ℕ → Bool
is_sender limits client incarnation = nat_lt client limits.clients && is_number incarnation

abbrev pub frame_numbers_fit : Bounds → Frame → Bool
frame_numbers_fit limits frame =
    is_sender limits frame.client frame.incarnation && numbers_fit limits frame.body

-- whether a commit's pages rise
unfoldable pub pages_rise : Body → Bool
pages_rise (body.Commit txn writes) = is_rising (map page_of writes)
pages_rise _ = true

-- ---- the faults, each behind the test of its cause, first one first

-- what can be wrong with what a body says
abbrev pub body_causes : Bounds → Body → List (Bool × FrameFault)
body_causes limits body =
    (not (numbers_fit limits body), fault.Range) ∷ (not (pages_rise body), fault.Order) ∷ []

-- what can be wrong with a frame whose kind and length are known
abbrev pub content_causes : Bounds → FrameVersion → Kind → List ℕ → List (Bool × FrameFault)
content_causes limits version kind bytes =
    (not (parts_fit limits version kind (body_bytes bytes)), fault.Length)
    ∷ (not (frame_numbers_fit limits (frame_at limits version kind bytes)), fault.Range)
    ∷ (not (pages_rise (body_at limits version kind (body_bytes bytes))), fault.Order)
    ∷ []

abbrev pub causes_by_kind : Bounds → FrameVersion → List ℕ → Option Kind → List (Bool × FrameFault)
causes_by_kind limits version bytes None = (true, fault.Kind) ∷ []
causes_by_kind limits version bytes (Some kind) =
    (not (has_kind version kind), fault.Kind)
    ∷ (not (can_be_length limits version kind (body_length bytes)), fault.Length)
    ∷ (nat_lt (length bytes) (16 + body_length bytes), fault.Short)
    ∷ content_causes limits version kind bytes

abbrev pub causes_by_version : Bounds → List ℕ → Option FrameVersion → List (Bool × FrameFault)
causes_by_version limits bytes None = (true, fault.Version) ∷ []
causes_by_version limits bytes (Some version) =
    (not (has_size version limits.page_size), fault.Version)
    ∷ causes_by_kind limits version bytes (kind_of (slice_index bytes 1))

abbrev pub causes : Bounds → List ℕ → List (Bool × FrameFault)
causes limits bytes =
    (nat_lt (length bytes) 16, fault.Short)
    ∷ causes_by_version limits bytes (version_of (slice_index bytes 0))

-- ---- what a reader gives

-- the fault of the bytes themselves: want of memory is none
abbrev pub fault_in_bytes : FrameFault → Option FrameFault
fault_in_bytes fault.Memory = None
fault_in_bytes fault = Some fault

-- the value where nothing is wrong with the bytes, unless memory ran out; else the first fault
abbrev pub Gives : {X : Type 0} → Option FrameFault → X → Result X FrameFault → Type 0
Gives first value (Ok x) = (first ≡ None) × (x ≡ value)
Gives first value (Err e) = first ≡ fault_in_bytes e

-- the value where it is in its range, else Range
abbrev pub GivesInRange : {X : Type 0} → Bool → X → Result X FrameFault → Type 0
GivesInRange test value (Ok x) = (test ≡ true) × (x ≡ value)
GivesInRange test value (Err e) = (test ≡ false) × (e ≡ fault.Range)
