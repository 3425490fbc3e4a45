-- What becomes of a grant that comes to a client (TODS 1997; that a grant is to be greater than all
-- that came before is this project's rule).
use Rattle.std.specs.Prelude.{if◌then◌else◌, ◌==◌, nat_lt, ℕ, Bool, true, false, not, ◌&&◌, List}
use Rattle.std.specs.Prelude.{[], ◌∷◌, Option, Some, None, unwrap_or}
use Rattle.std.specs.Option.{is_some}
use Rattle.cb_page.specs.Flags.{has}
use Rattle.cb_cache.specs.CacheState.{CacheState, content_at, copy_at}
use Rattle.cb_locks.specs.Locks.{LocksState}
use Rattle.cb_protocol.specs.Cache.{LetGo}
use Rattle.cb_protocol.specs.Client.{ChangeCache, ClientStep, asks_to_read}
use Rattle.cb_protocol.specs.Messages.{Body, GiveBack}
use Rattle.cb_client_core.specs.ClientState.{ClientState, ask_of}
use Rattle.cb_client_core.specs.declared.client_core.granted.GrantCase.{GrantCase}
use Rattle.cb_client_core.specs.declared.client_core.granted.GrantCase.TheVariants as cases

-- the case, by the grant held
abbrev pub case_held : ClientState → (page grant version : ℕ) → Option ℕ → GrantCase
case_held client page grant version None =
    if nat_lt (unwrap_or (copy_at client.copies page).seen 0) grant
    && asks_to_read (ask_of client.ask) page
    then cases.Installed else cases.Refused
case_held client page grant version (Some held) =
    if held == grant
    then (if not (is_some (content_at client.copies page))
    && (((copy_at client.copies page).version == version)
    && asks_to_read (ask_of client.ask) page)
    then cases.Filled else cases.Ignored)
    else cases.Refused

-- the case of a grant
abbrev pub case_at : ClientState → (page grant version : ℕ) → GrantCase
case_at client page grant version =
    case_held client page grant version (copy_at client.copies page).held

-- a page that isn't locked goes, if it is held
abbrev pub gone_steps : (locked : Bool) → (page : ℕ) → Option ℕ → List ClientStep
gone_steps true page held = []
gone_steps false page None = []
gone_steps false page (Some grant) = ChangeCache (LetGo page) ∷ []

-- and its grant is given back
abbrev pub gone_bodies : (locked : Bool) → (page : ℕ) → Option ℕ → List Body
gone_bodies true page held = []
gone_bodies false page None = []
gone_bodies false page (Some grant) = GiveBack page grant ∷ []

-- so of the page that went from the pool, if any
abbrev pub after_gone : CacheState → LocksState → Option ℕ → List ClientStep
after_gone copies locks None = []
after_gone copies locks (Some page) =
    gone_steps (has locks.locked page) page (copy_at copies page).held

abbrev pub said_of_gone : CacheState → LocksState → Option ℕ → List Body
said_of_gone copies locks None = []
said_of_gone copies locks (Some page) =
    gone_bodies (has locks.locked page) page (copy_at copies page).held
