-- The numbers of a body without page bytes, by the shapes that such bodies have (this project's
-- format).
use Rattle.std.specs.Prelude.{ℕ, ◌<◌, Bool, true, ◌&&◌, nat_lt, List, [], ◌++◌}
use Rattle.std.specs.Int.{Width, w32, w64, to_be_bytes}
use Rattle.cb_page.specs.Bounds.{Bounds}
use Rattle.cb_page.specs.Numbers.{IsNumber, is_number}
use Rattle.cb_frame.specs.declared.fields.Fields.{Fields}
use Rattle.cb_frame.specs.declared.fields.Fields.TheVariants.{Nothing, Txn, TxnPage}
use Rattle.cb_frame.specs.declared.fields.Fields.TheVariants.{TxnPageGrant, TxnCommit}
use Rattle.cb_frame.specs.declared.fields.Fields.TheVariants.{PageGrant, PageGrantTxn}
use Rattle.cb_frame.specs.declared.frame.ShortBody.{ShortBody}
use Rattle.cb_frame.specs.declared.frame.ShortBody.TheVariants as short

-- what a body says, in the order of its frame
abbrev pub fields_of : ShortBody → Fields
fields_of short.Hello = Nothing
fields_of (short.AskRead txn page) = TxnPage txn page
fields_of (short.AskWrite txn page grant) = TxnPageGrant txn page grant
fields_of (short.GiveBack page grant) = PageGrant page grant
fields_of (short.InUse txn page grant) = TxnPageGrant txn page grant
fields_of (short.Drop txn) = Txn txn
fields_of short.Welcome = Nothing
fields_of (short.MayWrite txn page grant) = TxnPageGrant txn page grant
fields_of (short.Callback page grant) = PageGrant page grant
fields_of (short.Done txn number) = TxnCommit txn number
fields_of (short.AbortNow txn) = Txn txn
fields_of (short.Downgraded page grant txn) = PageGrantTxn page grant txn
fields_of (short.Downgrade page grant txn) = PageGrantTxn page grant txn

-- each number lies in its range
abbrev pub FieldsFit : Bounds → Fields → Type 0
FieldsFit limits Nothing = Unit {0}
FieldsFit limits (Txn txn) = IsNumber txn
FieldsFit limits (TxnPage txn page) = IsNumber txn × (page < limits.pages)
FieldsFit limits (TxnPageGrant txn page grant) =
    IsNumber txn × (page < limits.pages) × IsNumber grant
FieldsFit limits (TxnCommit txn number) = IsNumber txn × IsNumber number
FieldsFit limits (PageGrant page grant) = (page < limits.pages) × IsNumber grant
FieldsFit limits (PageGrantTxn page grant txn) =
    (page < limits.pages) × IsNumber grant × IsNumber txn

unfoldable pub fields_fit : Bounds → Fields → Bool
fields_fit limits Nothing = true
fields_fit limits (Txn txn) = is_number txn
fields_fit limits (TxnPage txn page) = is_number txn && nat_lt page limits.pages
fields_fit limits (TxnPageGrant txn page grant) =
    is_number txn && (nat_lt page limits.pages && is_number grant)
fields_fit limits (TxnCommit txn number) = is_number txn && is_number number
fields_fit limits (PageGrant page grant) = nat_lt page limits.pages && is_number grant
fields_fit limits (PageGrantTxn page grant txn) =
    nat_lt page limits.pages && (is_number grant && is_number txn)

-- a number, its highest byte first
unfoldable pub word : Width → ℕ → List ℕ
word w n = to_be_bytes w n

-- a page is four bytes, all others are eight
unfoldable pub fields_spelling : Fields → List ℕ
fields_spelling Nothing = []
fields_spelling (Txn txn) = word w64 txn
fields_spelling (TxnPage txn page) = word w64 txn ++ word w32 page
fields_spelling (TxnPageGrant txn page grant) = word w64 txn ++ (word w32 page ++ word w64 grant)
fields_spelling (TxnCommit txn number) = word w64 txn ++ word w64 number
fields_spelling (PageGrant page grant) = word w32 page ++ word w64 grant
fields_spelling (PageGrantTxn page grant txn) = word w32 page ++ (word w64 grant ++ word w64 txn)

-- how many bytes that is
abbrev pub fields_length : Fields → ℕ
fields_length Nothing = 0
fields_length (Txn txn) = 8
fields_length (TxnPage txn page) = 12
fields_length (TxnPageGrant txn page grant) = 20
fields_length (TxnCommit txn number) = 16
fields_length (PageGrant page grant) = 12
fields_length (PageGrantTxn page grant txn) = 20
