-- What each call takes, and what it makes of the hand that it is lent.
use Rattle.std.specs.Prelude.{◌≡◌, ◌↔◌, ◌==◌, ◌&&◌, ◌++◌, ℕ, Bool, true, false, not, nat_lt}
use Rattle.std.specs.Prelude.{IsTrue, List, [], ◌∷◌, if◌then◌else◌, length, map, Option, Some}
use Rattle.std.specs.Prelude.{None, zero, suc}
use Rattle.std.specs.List.{AllByRecursion}
use Rattle.cb_hands.specs.OwnHand.{all_restamped, pages_written}
use Rattle.cb_frame.specs.Grammar.{Fits, page_of}
use Rattle.cb_frame.specs.declared.frame.Body.{Body}
use Rattle.cb_frame.specs.declared.frame.Body.TheVariants as body
use Rattle.cb_frame.specs.declared.frame.Frame.{Frame}
use Rattle.cb_frame.specs.declared.frame.ShortBody.{ShortBody}
use Rattle.cb_frame.specs.declared.frame.ShortBody.TheVariants as short
use Rattle.cb_frame.specs.declared.writes.Write.{Write}
use Rattle.cb_hands.specs.Hands.{HandState, held_at, permitted, with_copy}
use Rattle.cb_hands.specs.Hands.{without_copy}
use Rattle.cb_hands.specs.Hands.{without_permissions}
use Rattle.cb_hands.specs.declared.grant.Held.{Held}
use Rattle.cb_hands.specs.declared.entry.Entry.{Entry}
use Rattle.cb_hands.specs.declared.entry.Read.{Read}
use Rattle.cb_hands.specs.Joined.{IsHeld}
use Rattle.cb_station.specs.Stations.{StationState}
use Rattle.cb_outbox.specs.Messages.{page_writes}
use Rattle.cb_page.specs.Flags.{has}
use Rattle.cb_protocol.specs.Basics.{is_none}
use Rattle.cb_protocol.specs.Server.{Server, has_not_ended, has_row, is_write_holder}

-- it says whether the hand is the one that is stored
abbrev pub IsKnown : Bool → StationState → HandState → Type 0
IsKnown known station hand = IsTrue known ↔ IsHeld station.hands hand

-- the frame fits the station's limits, and is of the hand's client and incarnation; and the hand is
-- the one that is stored
pub record IsOwn (station : StationState) (frame : Frame) (hand : HandState) : Type 0 where
  pub held : IsHeld station.hands hand
  pub client : frame.client ≡ hand.client
  pub incarnation : frame.incarnation ≡ hand.incarnation
  pub fits : Fits station.dispatcher.server.limits frame

-- a frame that `take` takes: any but Hello and Commit
abbrev pub is_plain : Body → Bool
is_plain (body.Short short.Hello) = false
is_plain (body.Short said) = true
is_plain (body.Commit txn writes) = false
is_plain (body.Granted page grant version bytes) = true

-- a frame that `commit` takes
abbrev pub is_commit : Body → Bool
is_commit (body.Commit txn writes) = true
is_commit _ = false

-- the copy is by that grant
abbrev pub is_by : Option Held → (grant : ℕ) → Bool
is_by None grant = false
is_by (Some held) grant = held.grant == grant

-- a GiveBack of what the hand doesn't hold by that grant
abbrev pub is_stray : HandState → Body → Bool
is_stray hand (body.Short (short.GiveBack page grant)) = not (is_by (held_at hand.held page) grant)
is_stray hand _ = false

-- what a frame gives back goes from the hand
abbrev pub given_back : HandState → Body → HandState
given_back hand (body.Short (short.GiveBack page grant)) = without_copy hand page
given_back hand _ = hand

-- the transaction has begun and ended
abbrev pub is_over : Server → (client : ℕ) → Option ℕ → Bool
is_over server client None = false
is_over server client (Some txn) =
    not (nat_lt (server.session client).txn txn) && not (has_not_ended server client txn)

-- a hand whose transaction has ended loses its permissions
abbrev pub ended_if_over : Server → HandState → HandState
ended_if_over server hand =
    if is_over server hand.client hand.txn then without_permissions hand else hand

-- that transaction of the client is current and has not ended
abbrev pub is_lasting : Server → (client txn : ℕ) → Bool
is_lasting server client txn =
    ((server.session client).txn == txn) && has_not_ended server client txn

-- a grant makes the hand hold the page, where it doesn't yet and the row stands
abbrev pub received : Server → HandState → (page grant : ℕ) → HandState
received server hand page grant =
    if nat_lt page (length hand.held)
    && (is_none (held_at hand.held page) && has_row server hand.client page grant)
    then with_copy hand page
    (record { grant = grant; version = server.store.version page })
    else hand

-- a permission marks the page, where the hand holds it by that grant and the transaction has the
-- permission
abbrev pub told : Server → HandState → (txn page grant : ℕ) → HandState
told server hand txn page grant =
    if is_by (held_at hand.held page) grant
    && (is_lasting server hand.client txn && is_write_holder server hand.client page)
    then permitted hand page txn else hand

-- the hand once such a body was collected
abbrev pub told_of : Server → HandState → ShortBody → HandState
told_of server hand (short.MayWrite txn page grant) = told server hand txn page grant
told_of server hand _ = hand

abbrev pub received_of : Server → HandState → Body → HandState
received_of server hand (body.Granted page grant version bytes) = received server hand page grant
received_of server hand (body.Short said) = told_of server hand said
received_of server hand (body.Commit txn writes) = hand

-- the hand once a frame was collected, if there was one
abbrev pub collected : Server → HandState → Option Frame → HandState
collected server hand None = hand
collected server hand (Some frame) = received_of server hand frame.body

-- the hand holds a copy of each of these pages
abbrev pub HoldsAll : HandState → (reads : List Bool) → Type 0
HoldsAll hand reads = (page : ℕ) → has reads page ≡ true
    → (held : Held) × (held_at hand.held page ≡ Some held)

-- it shows that this very transaction may write the page, by that grant
pub record MayWrite (hand : HandState) (txn : ℕ) (write : Write) : Type 0 where
  pub grant : is_by (held_at hand.held write.page) write.grant ≡ true
  pub told : has hand.writable write.page ≡ true
  pub of_txn : hand.txn ≡ Some txn

-- so of each of these writes
abbrev pub MayWriteAll : HandState → (txn : ℕ) → List Write → Type 0
MayWriteAll hand txn writes = AllByRecursion (MayWrite hand txn) writes

-- the page at the version that the hand shows
abbrev pub read_of : HandState → (page : ℕ) → List Read
read_of hand page = elim (held_at hand.held page) [
  | None ↦ []
  | Some held ↦ record { page = page; version = held.version } ∷ []
]

-- those of these pages below `end`, rising, at the versions that the hand shows
abbrev pub reads_below : HandState → (reads : List Bool) → (end : ℕ) → List Read
reads_below hand reads zero = []
reads_below hand reads (suc page) =
    reads_below hand reads page ++ (if has reads page then read_of hand page else [])

-- The entry is of that transaction of the hand's: it has these pages as reads, at the versions that
-- the hand shows, and these writes.
pub record IsEntryOf (hand : HandState) (number : ℕ) (written : List Write) (pages : List Bool)
    (entry : Entry) : Type 0 where
  pub client : entry.client ≡ hand.client
  pub incarnation : entry.incarnation ≡ hand.incarnation
  pub txn : entry.txn ≡ number
  pub reads : entry.reads.items ≡ reads_below hand pages (length pages)
  pub writes : entry.writes.items ≡ map page_of written

-- the hand once its transaction has committed
abbrev pub committed : HandState → List Write → (number : ℕ) → HandState
committed hand writes number =
    without_permissions (all_restamped hand (pages_written (page_writes writes)) number)
