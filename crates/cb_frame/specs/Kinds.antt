-- The kinds of frames (this project's rule): their codes, their names, and which way they go.
use Rattle.std.specs.Prelude.{◌≡◌, ℕ, Bool, true, false, nat_lt, List, codes}
use Rattle.cb_frame.specs.declared.kind.Kind.{Kind}
use Rattle.cb_frame.specs.declared.kind.Kind.TheVariants as kind
use Rattle.cb_frame.specs.declared.frame.Body.{Body}
use Rattle.cb_frame.specs.declared.frame.Body.TheVariants as body
use Rattle.cb_frame.specs.declared.frame.ShortBody.{ShortBody}
use Rattle.cb_frame.specs.declared.frame.ShortBody.TheVariants as short

-- the kind of a body
abbrev pub kind_of_short : ShortBody → Kind
kind_of_short short.Hello = kind.Hello
kind_of_short (short.AskRead txn page) = kind.AskRead
kind_of_short (short.AskWrite txn page grant) = kind.AskWrite
kind_of_short (short.GiveBack page grant) = kind.GiveBack
kind_of_short (short.InUse txn page grant) = kind.InUse
kind_of_short (short.Drop txn) = kind.Drop
kind_of_short short.Welcome = kind.Welcome
kind_of_short (short.MayWrite txn page grant) = kind.MayWrite
kind_of_short (short.Callback page grant) = kind.Callback
kind_of_short (short.Done txn number) = kind.Done
kind_of_short (short.AbortNow txn) = kind.AbortNow
kind_of_short (short.Downgraded page grant txn) = kind.Downgraded
kind_of_short (short.Downgrade page grant txn) = kind.Downgrade

abbrev pub kind_of_body : Body → Kind
kind_of_body (body.Short b) = kind_of_short b
kind_of_body (body.Commit txn writes) = kind.Commit
kind_of_body (body.Granted page grant version bytes) = kind.Granted

-- the byte that stands for a kind
abbrev pub code_of : Kind → ℕ
code_of kind.Hello = 1
code_of kind.AskRead = 2
code_of kind.AskWrite = 3
code_of kind.GiveBack = 4
code_of kind.InUse = 5
code_of kind.Commit = 6
code_of kind.Drop = 7
code_of kind.Downgraded = 8
code_of kind.Welcome = 65
code_of kind.Granted = 66
code_of kind.MayWrite = 67
code_of kind.Callback = 68
code_of kind.Done = 69
code_of kind.AbortNow = 70
code_of kind.Downgrade = 71

-- as it is printed
abbrev pub name_of : Kind → List ℕ
name_of kind.Hello = codes "Hello"
name_of kind.AskRead = codes "AskRead"
name_of kind.AskWrite = codes "AskWrite"
name_of kind.GiveBack = codes "GiveBack"
name_of kind.InUse = codes "InUse"
name_of kind.Commit = codes "Commit"
name_of kind.Drop = codes "Drop"
name_of kind.Welcome = codes "Welcome"
name_of kind.Granted = codes "Granted"
name_of kind.MayWrite = codes "MayWrite"
name_of kind.Callback = codes "Callback"
name_of kind.Done = codes "Done"
name_of kind.AbortNow = codes "AbortNow"
name_of kind.Downgraded = codes "Downgraded"
name_of kind.Downgrade = codes "Downgrade"

-- whether a frame of this kind goes from its client to the server, and not the other way: by its
-- code
abbrev pub goes_to_server : Kind → Bool
goes_to_server kind = nat_lt (code_of kind) 64

-- whether bodies of this kind have no page bytes
abbrev pub is_short : Kind → Bool
is_short kind.Commit = false
is_short kind.Granted = false
is_short _ = true

-- no two kinds have one code
abbrev pub CodesDiffer : Type 0
CodesDiffer = (one other : Kind) → code_of one ≡ code_of other → one ≡ other
