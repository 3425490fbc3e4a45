-- Which copies the clients of a world can read, and which of them they may write.
use Rattle.std.specs.Prelude.{◌∷◌, ◌&&◌, ℕ, Bool, List, [], if◌then◌else◌}
use Rattle.std.specs.List.{flat_map, range_with_len}
use Rattle.std.specs.Option.{is_some}
use Rattle.cb_page.specs.Flags.{has}
use Rattle.cb_cache.specs.CacheState.{content_at}
use Rattle.cb_client_core.specs.ClientState.{ClientState, stage_of}
use Rattle.cb_protocol.specs.Cache.{is_open}
use Rattle.cb_schedule.specs.WorldState.{WorldState}
use Rattle.cb_schedule.specs.WorldClientsState.{client_at}
use Rattle.cb_chart.specs.declared.bars.ClientCopy.{ClientCopy}

-- the client has the bytes of its copy of the page
abbrev pub can_read : ClientState → (page : ℕ) → Bool
can_read client page = is_some (content_at client.copies page)

-- its transaction is open, and it may write the page
abbrev pub may_write : ClientState → (page : ℕ) → Bool
may_write client page = is_open (stage_of client.stage) && has client.copies.may_write page

-- the client's copy of the page, if it can read it
abbrev pub copy_of : (number : ℕ) → ClientState → (page : ℕ) → List ClientCopy
copy_of number client page =
    if can_read client page
    then record { client = number; page = page; may_write = may_write client page } ∷ []
    else []

-- the copies that the client can read, of so many pages, by rising page
abbrev pub copies_to : (number : ℕ) → ClientState → (pages : ℕ) → List ClientCopy
copies_to number client pages = flat_map (copy_of number client) (range_with_len 0 pages)

-- the copies that the client of that number can read
abbrev pub copies_at : WorldState → (number : ℕ) → List ClientCopy
copies_at w number =
    copies_to number (client_at w.net.world_clients number)
    (client_at w.net.world_clients number).copies.limits.pages

-- those of so many clients, by rising client
abbrev pub sight_to : WorldState → (clients : ℕ) → List ClientCopy
sight_to w clients = flat_map (copies_at w) (range_with_len 0 clients)

-- the copies that the clients of the world can read
abbrev pub sight : WorldState → List ClientCopy
sight w = sight_to w w.limits.clients
