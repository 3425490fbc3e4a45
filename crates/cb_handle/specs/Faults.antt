-- The number and the text of each fault, as a host sees them (this project's rule).
use Rattle.std.specs.Prelude.{ℕ, ◌==◌, nat_lt, if◌then◌else◌, List, codes}
use Rattle.cb_client.specs.declared.client_fault.ClientFault.{ClientFault}
use Rattle.cb_client.specs.declared.client_fault.ClientFault.TheVariants as client
use Rattle.cb_frame.specs.declared.fault.FrameFault.{FrameFault}
use Rattle.cb_frame.specs.declared.fault.FrameFault.TheVariants as frame
use Rattle.cb_handle.specs.declared.refusal.HandleRefusal.{HandleRefusal}
use Rattle.cb_handle.specs.declared.refusal.HandleRefusal.TheVariants as refusal
use Rattle.cb_page.specs.declared.limits.LimitFault.{LimitFault}
use Rattle.cb_page.specs.declared.limits.LimitFault.TheVariants as limit
use Rattle.cb_server.specs.declared.server_fault.ServerFault.{ServerFault}
use Rattle.cb_server.specs.declared.server_fault.ServerFault.TheVariants as server

-- the number of a client's fault
abbrev pub client_number : ClientFault → ℕ
client_number client.NotWelcome = 1
client_number client.NoTransaction = 2
client_number client.TransactionOpen = 3
client_number client.Committing = 4
client_number client.Waiting = 5
client_number client.PageRange = 6
client_number client.NotRead = 7
client_number client.NotHere = 8
client_number client.NotWritable = 9
client_number client.WrongLength = 10
client_number client.PoolFull = 11
client_number client.Exhausted = 12
client_number client.Memory = 13

-- of a server's, which are two of those
abbrev pub server_number : ServerFault → ℕ
server_number server.Exhausted = 12
server_number server.Memory = 13

-- of a frame's bytes
abbrev pub frame_number : FrameFault → ℕ
frame_number frame.Short = 257
frame_number frame.Version = 258
frame_number frame.Kind = 259
frame_number frame.Length = 260
frame_number frame.Range = 261
frame_number frame.Order = 262
frame_number frame.Memory = 263

-- of limits
abbrev pub limit_number : LimitFault → ℕ
limit_number limit.Clients = 513
limit_number limit.Pages = 514
limit_number limit.PageSize = 515
limit_number limit.Slots = 516
limit_number limit.Kin = 517
limit_number limit.Kout = 518

-- of any refusal
abbrev pub number_of : HandleRefusal → ℕ
number_of (refusal.Client fault) = client_number fault
number_of (refusal.Server fault) = server_number fault
number_of (refusal.Frame fault) = frame_number fault
number_of (refusal.Limits fault) = limit_number fault
number_of refusal.Memory = 13
number_of refusal.OtherKind = 769
number_of refusal.Unfetched = 770
number_of refusal.Nothing = 771
number_of refusal.Room = 772
number_of refusal.Range = 773
number_of refusal.Held = 774

-- the text of what is done, and of a client's or a server's fault
unfoldable pub call_text : ℕ → List ℕ
call_text number =
    if number == 0 then codes "done"
    else if number == 1 then codes "not welcome: the server's Welcome has not come"
    else if number == 2 then codes "no transaction is open"
    else if number == 3 then codes "a transaction is open already"
    else if number == 4 then codes "the transaction is committing"
    else if number == 5 then codes "waiting: an ask is out"
    else if number == 6 then codes "there is no such page"
    else if number == 7 then codes "the transaction has not read the page"
    else if number == 8 then codes "the page's bytes are not here: read it again"
    else if number == 9 then codes "the client may not write the page"
    else if number == 10 then codes "the bytes are not as long as a page"
    else if number == 11 then codes "the pool is full of pages that may not leave it"
    else if number == 12 then codes "no number is left"
    else if number == 13 then codes "memory was refused"
    else codes "no such fault"

-- of a frame's
unfoldable pub frame_text : ℕ → List ℕ
frame_text number =
    if number == 257 then codes "short: the frame isn't whole yet"
    else if number == 258 then codes "a frame has no such version"
    else if number == 259 then codes "a frame has no such kind"
    else if number == 260 then codes "a frame of this kind has no such length"
    else if number == 261 then codes "a number in the frame is out of range"
    else if number == 262 then codes "the pages of a commit don't rise"
    else if number == 263 then codes "memory was refused for the frame"
    else codes "no such fault"

-- of limits
unfoldable pub limit_text : ℕ → List ℕ
limit_text number =
    if number == 513 then codes "clients: 1 to 32"
    else if number == 514 then codes "pages: 1 to 4,096"
    else if number == 515 then codes "page size: 16 to 65,536 by steps of 16"
    else if number == 516 then codes "slots: 2 to 1,024"
    else if number == 517 then codes "kin: 1 to one less than the slots"
    else if number == 518 then codes "kout: 1 to 4,096"
    else codes "no such fault"

-- of a handle's use
unfoldable pub handle_text : ℕ → List ℕ
handle_text number =
    if number == 769 then codes "the handle is empty, or what it holds has no such call"
    else if number == 770 then codes "what was said before is to be fetched first"
    else if number == 771 then codes "there is nothing"
    else if number == 772 then codes "the room hasn't the length that is needed"
    else if number == 773 then codes "a number is out of range"
    else if number == 774 then codes "the handle holds an object already"
    else codes "no such fault"

-- of any number
unfoldable pub fault_text : ℕ → List ℕ
fault_text number =
    if nat_lt number 257 then call_text number
    else if nat_lt number 513 then frame_text number
    else if nat_lt number 769 then limit_text number
    else handle_text number
