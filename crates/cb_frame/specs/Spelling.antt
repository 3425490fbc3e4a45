-- The one spelling of each frame in each version of the format (this project's rule). All numbers
-- have their highest byte first.
use Rattle.std.specs.Prelude.{ℕ, List, ◌∷◌, ◌++◌, length}
use Rattle.std.specs.List.{flat_map}
use Rattle.std.specs.Int.{w16, w32, w64}
use Rattle.cb_frame.specs.declared.frame.Frame.{Frame}
use Rattle.cb_frame.specs.declared.frame.Body.{Body}
use Rattle.cb_frame.specs.declared.frame.Body.TheVariants as body
use Rattle.cb_frame.specs.declared.version.FrameVersion.{FrameVersion}
use Rattle.cb_frame.specs.declared.version.FrameVersion.TheVariants.{Two}
use Rattle.cb_frame.specs.declared.writes.Write.{Write}
use Rattle.cb_frame.specs.Fields.{fields_of, fields_spelling, word}
use Rattle.cb_frame.specs.Kinds.{code_of, kind_of_body}
use Rattle.cb_frame.specs.Versions.{size_width, version_byte}

-- a page with its size before it
unfoldable pub page_spelling : FrameVersion → List ℕ → List ℕ
page_spelling version bytes = word (size_width version) (length bytes) ++ bytes

-- a page that a commit writes
unfoldable pub write_spelling : FrameVersion → Write → List ℕ
write_spelling version write =
    word w32 write.page ++ (word w64 write.grant ++ page_spelling version write.bytes)

unfoldable pub body_spelling : FrameVersion → Body → List ℕ
body_spelling version (body.Short short) = fields_spelling (fields_of short)
body_spelling version (body.Commit txn writes) =
    word w64 txn ++ (word w16 (length writes) ++ flat_map (write_spelling version) writes)
body_spelling version (body.Granted page grant page_version bytes) =
    word w32 page ++ (word w64 grant ++ (word w64 page_version ++ page_spelling version bytes))

-- the version of the format, the kind, the client, the incarnation, the length of the body, and the
-- body
unfoldable pub spelling_in : FrameVersion → Frame → List ℕ
spelling_in version frame =
    version_byte version ∷ code_of (kind_of_body frame.body)
    ∷ (word w16 frame.client ++ (word w64 frame.incarnation
    ++ (word w32 (length (body_spelling version frame.body)) ++ body_spelling version frame.body)))

-- what is written of a frame: its spelling in the newest version
unfoldable pub spelling : Frame → List ℕ
spelling frame = spelling_in Two frame
