-- How a change of copies is bound to the protocol's steps.
use Rattle.std.specs.Prelude.{◌≡◌, ℕ, ◌++◌, List, [], ◌∷◌, Option, Some, None}
use Rattle.cb_protocol.specs.Basics.{Bytes}
use Rattle.cb_protocol.specs.Cache.{Fill, Install, MakeBare}
use Rattle.cb_protocol.specs.Client.{ChangeCache, Client, ClientStep, client_after}
use Rattle.cb_protocol.specs.ClientMessages.{MayLetGo}
use Rattle.cb_cache.specs.CacheState.{CacheState, client_with, content_at, limits_of}
use Rattle.cb_cache.specs.CacheState.{references_at}

-- The copies become what these steps of the protocol make of them, whichever client has them. No
-- page is referred to.
pub record Does (before : CacheState) (steps : List ClientStep) (after : CacheState)
    : Type 0 where
  pub becomes : (client : Client)
      → client_after before.limits.keep_write (client_with before client) steps
      ≡ client_with after (client_after before.limits.keep_write client steps)
  pub limits : after.limits ≡ before.limits
  pub references : references_at after ≡ references_at before

-- the same, save that a page is referred to once, with the pages fixed that were fixed before
pub record DoesReferring (before : CacheState) (page : ℕ) (steps : List ClientStep)
    (after : CacheState) : Type 0 where
  pub becomes : (client : Client)
      → client_after before.limits.keep_write (client_with before client) steps
      ≡ client_with after (client_after before.limits.keep_write client steps)
  pub limits : after.limits ≡ before.limits
  pub references : references_at after ≡ references_at before ++ (page, before.pool.fixed) ∷ []

-- the first, of a client whose last transaction has this number
pub record DoesInTxn (txn : ℕ) (before : CacheState) (steps : List ClientStep)
    (after : CacheState) : Type 0 where
  pub becomes : (client : Client) → client.cache.number ≡ txn
      → client_after before.limits.keep_write (client_with before client) steps
      ≡ client_with after (client_after before.limits.keep_write client steps)
  pub limits : after.limits ≡ before.limits
  pub references : references_at after ≡ references_at before

-- the pool lets a page's bytes go, if any, and what stays of that copy is its grant
abbrev pub lose_bytes : Option ℕ → List ClientStep
lose_bytes None = []
lose_bytes (Some gone) = ChangeCache (MakeBare gone) ∷ []

-- A page comes into the pool, which is a reference to it. The pool lets one go or none: as its law
-- says, where the page wasn't there.
pub record BringsIn (before : CacheState) (page : ℕ) (step : ClientStep) (gone : Option ℕ)
    (after : CacheState) : Type 0 where
  pub does : DoesReferring before page (lose_bytes gone ++ step ∷ []) after
  pub by_law : content_at before page ≡ None
      → (client : Client)
      → MayLetGo (limits_of before.limits) (client_with before client) page gone

-- the step brings the page's bytes
pub data Brings (page : ℕ) : ClientStep → Type 0 where
  Filled : (grant : ℕ) (bytes : Bytes) → Brings page (ChangeCache (Fill page grant bytes))
  Installed : (grant version : ℕ) (bytes : Bytes)
      → Brings page (ChangeCache (Install page grant version bytes))
