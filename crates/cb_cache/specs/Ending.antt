-- What the end of a transaction does and says, by the protocol's steps.
use Rattle.std.specs.Prelude.{◌≡◌, ℕ, Bool, List, ◌++◌, map}
use Rattle.cb_frame.specs.declared.frame.Frame.{Frame}
use Rattle.cb_outbox.specs.Messages.{messages_of}
use Rattle.cb_protocol.specs.Client.{Client, ClientStep, bodies_said, client_after}
use Rattle.cb_protocol.specs.ClientEnd.{end_page, end_pages}
use Rattle.cb_protocol.specs.Messages.{Body, Message}
use Rattle.cb_cache.specs.CacheState.{CacheState, client_with, copy_at, references_at}
use Rattle.cb_locks.specs.Locks.{LocksState, ended}
use Rattle.cb_cache.specs.Owing.{holder, locks_with}

-- a message of the client whose locks these are
abbrev pub sent_by : LocksState → Body → Message
sent_by locks body =
    record { client = locks.client; incarnation = locks.incarnation; body = body }

-- its messages, in order
abbrev pub all_sent_by : LocksState → List Body → List Message
all_sent_by locks bodies = map (sent_by locks) bodies

-- the steps of a page at the end
abbrev pub page_steps : CacheState → LocksState → (dropped : Bool) → (page : ℕ) → List ClientStep
page_steps copies locks dropped page =
    end_page (holder copies locks) dropped page (copy_at copies page).held

-- the steps of the pages before a place, rising
abbrev pub pages_steps : CacheState → LocksState → (dropped : Bool) → (end : ℕ) → List ClientStep
pages_steps copies locks dropped end = end_pages (holder copies locks) dropped end

-- The transaction ends by these steps, and by those of each page: whichever client has the copies
-- and locks becomes what the steps make of it, with nothing locked or due, and the frames are what
-- is said in them. No page is referred to.
pub record Ends (copies : CacheState) (locks : LocksState) (steps : List ClientStep)
    (dropped : Bool) (frames : List Frame) (copies_after : CacheState)
    (locks_after : LocksState) : Type 0 where
  pub becomes : (client : Client)
      → client_after copies.limits.keep_write (client_with copies (locks_with locks client))
      (steps ++ pages_steps copies locks dropped copies.limits.pages)
      ≡ client_with copies_after (locks_with locks_after
      (client_after copies.limits.keep_write client steps))
  pub says : messages_of frames
      ≡ all_sent_by locks
      (bodies_said (steps ++ pages_steps copies locks dropped copies.limits.pages))
  pub unlocked : locks_after ≡ ended locks
  pub limits : copies_after.limits ≡ copies.limits
  pub references : references_at copies_after ≡ references_at copies
