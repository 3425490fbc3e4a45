-- What the protocol's steps make of copies.
use Rattle.std.proofs.Common.{◌≡◌, ◌≢◌, ◌<◌, ℕ, Bool, true, false, max, List, [], ◌∷◌, ◌++◌, length, replicate, slice_set, Option, Some, None, unwrap_or, IfSome, Result, Ok, Err, IfOk, refl, sym, ◌∙◌, ap, arith}
use Rattle.cb_pool.specs.PoolState.{PoolState, let_go, MayGo, with_reference, with_removal}
use Rattle.cb_twoq.proofs.Called.{refers_more, refers_none}
use Rattle.cb_protocol.specs.Basics.{Bytes, update}
use Rattle.cb_protocol.specs.Cache.{Abandon, Fill, Install, LetGo, MakeBare, RefuseGrant, TakePermission, WriteBytes, YieldPermission}
use Rattle.cb_protocol.specs.Client.{ChangeCache, Client, ClientStep, EndTransaction, LastOutcome, MarkWanted, client_after}
use Rattle.cb_cache.specs.declared.table.PageCopy.{PageCopy}
use Rattle.cb_cache.specs.Rows.{Dropped, row_at}
use Rattle.cb_cache.specs.CacheState.{AreCopies, CacheState, Emptied, HaveSizes, client_with, copy_at}
use Rattle.cb_cache.specs.ByTable.{Brings, BringsIn, Does, DoesInTxn, DoesReferring, Filled, Installed, lose_bytes}
use Rattle.cb_cache.proofs.Changing.{go_first, go_last, none_in, pool_brings, put_entry, put_field, put_same}
use Rattle.cb_cache.proofs.PoolRoom.{may_let_go, within_pool}

pub refuses : (v : CacheState) (page grant : ℕ) → page < v.limits.pages → HaveSizes v
    → Does v (ChangeCache (RefuseGrant page grant) ∷ [])
    (record v { rows = slice_set v.rows page (record (copy_at v page) { seen = Some (max (unwrap_or (copy_at v page).seen 0) grant) }) })
refuses v page grant lt sizes =
    let below : page < length v.rows = let r = sizes.rows in omega arith in
    let new : PageCopy = record (copy_at v page) { seen = Some (max (unwrap_or (copy_at v page).seen 0) grant) } in
    record {
      becomes = λ client i. record (client_with v client) {
        cache = record (client_with v client).cache {
          seen = λ q. put_field (λ c. unwrap_or c.seen 0) v.rows page q new below i;
          held = λ q. put_same (λ c. c.held) v.rows page q new below refl i;
          version = λ q. put_same (λ c. c.version) v.rows page q new below refl i;
          tag = λ q. put_same (λ c. unwrap_or c.tag 0) v.rows page q new below refl i;
        };
      };
      limits = refl;
      references = refl;
    }

pub lets_go : (v : CacheState) (page : ℕ) → page < v.limits.pages → HaveSizes v
    → Does v (ChangeCache (LetGo page) ∷ [])
    (record v {
      rows = slice_set v.rows page (record (copy_at v page) { held = None });
      may_write = slice_set v.may_write page false;
      pool = record v.pool { pages = slice_set v.pool.pages page None; calls = with_removal v.pool page };
    })
lets_go v page lt sizes =
    let below : page < length v.rows = let r = sizes.rows in omega arith in
    let permitted : page < length v.may_write = let r = sizes.may_write in omega arith in
    let pages : page < length v.pool.pages = let r = sizes.pages in omega arith in
    let new : PageCopy = record (copy_at v page) { held = None } in
    record {
      becomes = λ client i. record (client_with v client) {
        cache = record (client_with v client).cache {
          seen = λ q. put_same (λ c. unwrap_or c.seen 0) v.rows page q new below refl i;
          held = λ q. put_field (λ c. c.held) v.rows page q new below i;
          version = λ q. put_same (λ c. c.version) v.rows page q new below refl i;
          tag = λ q. put_same (λ c. unwrap_or c.tag 0) v.rows page q new below refl i;
          content = λ q. put_entry None v.pool.pages page q None pages i;
          may_write = λ q. put_entry false v.may_write page q false permitted i;
        };
      };
      limits = refl;
      references = refers_none v.pool.calls page v.pool.fixed;
    }

pub takes_permission : (v : CacheState) (page txn : ℕ) → page < v.limits.pages → HaveSizes v
    → DoesInTxn txn v (ChangeCache (TakePermission page) ∷ [])
    (record v {
      rows = slice_set v.rows page (record (copy_at v page) { tag = Some txn });
      may_write = slice_set v.may_write page true;
    })
takes_permission v page txn lt sizes =
    let below : page < length v.rows = let r = sizes.rows in omega arith in
    let permitted : page < length v.may_write = let r = sizes.may_write in omega arith in
    let new : PageCopy = record (copy_at v page) { tag = Some txn } in
    let tags : (client : Client) → client.cache.number ≡ txn → (q : ℕ)
    → update (λ p. unwrap_or (copy_at v p).tag 0) page client.cache.number q ≡ unwrap_or (row_at (slice_set v.rows page new) q).tag 0 =
    λ client e q. ap (λ n. update (λ p. unwrap_or (copy_at v p).tag 0) page n q) e ∙ put_field (λ c. unwrap_or c.tag 0) v.rows page q new below in
    record {
      becomes = λ client e i. record (client_with v client) {
        cache = record (client_with v client).cache {
          seen = λ q. put_same (λ c. unwrap_or c.seen 0) v.rows page q new below refl i;
          held = λ q. put_same (λ c. c.held) v.rows page q new below refl i;
          version = λ q. put_same (λ c. c.version) v.rows page q new below refl i;
          tag = λ q. tags client e q i;
          may_write = λ q. put_entry false v.may_write page q true permitted i;
        };
      };
      limits = refl;
      references = refl;
    }

pub writes : (v : CacheState) (page : ℕ) (bytes : Bytes) (fixed : List Bool) → page < length v.pool.pages → HaveSizes v
    → Does v (ChangeCache (WriteBytes page bytes) ∷ [])
    (record v {
      wrote = slice_set v.wrote page true;
      pool = record v.pool { fixed = fixed; pages = slice_set v.pool.pages page (Some bytes) };
    })
writes v page bytes fixed lt sizes =
    let marked : page < length v.wrote = let r = sizes.wrote in let s = sizes.pages in omega arith in
    record {
      becomes = λ client i. record (client_after v.limits.keep_write (client_with v client) (ChangeCache (WriteBytes page bytes) ∷ [])) {
        cache = record (client_after v.limits.keep_write (client_with v client) (ChangeCache (WriteBytes page bytes) ∷ [])).cache {
          content = λ q. put_entry None v.pool.pages page q (Some bytes) lt i;
          wrote = λ q. put_entry false v.wrote page q true marked i;
        };
      };
      limits = refl;
      references = refl;
    }

pub yields : (v : CacheState) (page : ℕ) → page < v.limits.pages → HaveSizes v
    → Does v (ChangeCache (YieldPermission page) ∷ []) (record v { may_write = slice_set v.may_write page false })
yields v page lt sizes =
    let permitted : page < length v.may_write = let r = sizes.may_write in omega arith in
    record {
      becomes = λ client i. record (client_with v client) {
        cache = record (client_with v client).cache { may_write = λ q. put_entry false v.may_write page q false permitted i };
      };
      limits = refl;
      references = refl;
    }

pub wants : (v : CacheState) (page : ℕ) (fixed : List Bool) → page < v.limits.pages → HaveSizes v
    → Does v (MarkWanted page ∷ []) (record v { wanted = slice_set v.wanted page true; pool = record v.pool { fixed = fixed } })
wants v page fixed lt sizes =
    let marked : page < length v.wanted = let r = sizes.wanted in omega arith in
    record {
      becomes = λ client i. record (client_with v client) { wanted = λ q. put_entry false v.wanted page q true marked i };
      limits = refl;
      references = refl;
    }

-- a page let go was in the pool
goes_within : (v : CacheState) (page : ℕ) (gone : Option ℕ) → MayGo v.pool page gone → IfSome gone (λ g. g < length v.pool.pages)
goes_within v page None may = tt
goes_within v page (Some g) may = within_pool v.pool.pages g may.2

pub fills : (v : CacheState) (page grant : ℕ) (bytes : Bytes) (gone : Option ℕ) → page < v.limits.pages → AreCopies v → MayGo v.pool page gone
    → BringsIn v page (ChangeCache (Fill page grant bytes)) gone
    (record v { pool = record v.pool { pages = slice_set (let_go gone v.pool.pages) page (Some bytes); calls = with_reference v.pool page } })
fills v page grant bytes gone lt are may =
    let pages : page < length v.pool.pages = let r = are.sizes.pages in omega arith in
    record { does = by gone (goes_within v page gone may); by_law = λ out. may_let_go v are page out gone may }
  where
    by : (g : Option ℕ) → IfSome g (λ n. n < length v.pool.pages)
        → DoesReferring v page (lose_bytes g ++ ChangeCache (Fill page grant bytes) ∷ []) (record v { pool = record v.pool { pages = slice_set (let_go g v.pool.pages) page (Some bytes); calls = with_reference v.pool page } })
    by None within = record {
      becomes = λ client i. record (client_with v client) {
        cache = record (client_with v client).cache {
          content = λ q. pool_brings v.pool.pages None page q (Some bytes) (let r = are.sizes.pages in omega arith) within i;
        };
      };
      limits = refl;
      references = refers_more v.pool.calls page v.pool.fixed;
    }
    by (Some n) within = record {
      becomes = λ client i. record (client_with v client) {
        cache = record (client_with v client).cache {
          content = λ q. pool_brings v.pool.pages (Some n) page q (Some bytes) (let r = are.sizes.pages in omega arith) within i;
        };
      };
      limits = refl;
      references = refers_more v.pool.calls page v.pool.fixed;
    }

pub fill_result : (v w : CacheState) (page : ℕ) (bytes : Bytes) {F : Type 0} (result : Result (Option ℕ) F) (new : PoolState) → page < v.limits.pages → AreCopies v
    → IfOk result (λ gone. new ≡ record v.pool { pages = slice_set (let_go gone v.pool.pages) page (Some bytes); calls = with_reference v.pool page }) → IfOk result (MayGo v.pool page)
    → w ≡ record v { pool = new }
    → IfOk result (λ gone. (grant : ℕ) → BringsIn v page (ChangeCache (Fill page grant bytes)) gone w)
fill_result v w page bytes (Ok gone) new lt are pages may e = λ grant. rw (e, pages) (fills v page grant bytes gone lt are may)
fill_result v w page bytes (Err fault) new lt are pages may e = tt

pub installs : (v : CacheState) (page grant version : ℕ) (bytes : Bytes) (gone : Option ℕ) → page < v.limits.pages → AreCopies v → MayGo v.pool page gone
    → BringsIn v page (ChangeCache (Install page grant version bytes)) gone
    (record v {
      rows = slice_set v.rows page (record (copy_at v page) { seen = Some grant; held = Some grant; version = version });
      pool = record v.pool { pages = slice_set (let_go gone v.pool.pages) page (Some bytes); calls = with_reference v.pool page };
    })
installs v page grant version bytes gone lt are may =
    record { does = by gone (goes_within v page gone may); by_law = λ out. may_let_go v are page out gone may }
  where
    new : PageCopy
    new = record (copy_at v page) { seen = Some grant; held = Some grant; version = version }

    below : page < length v.rows
    below = let r = are.sizes.rows in omega arith

    pages : page < length v.pool.pages
    pages = let r = are.sizes.pages in omega arith

    by : (g : Option ℕ) → IfSome g (λ n. n < length v.pool.pages)
        → DoesReferring v page (lose_bytes g ++ ChangeCache (Install page grant version bytes) ∷ [])
        (record v { rows = slice_set v.rows page new; pool = record v.pool { pages = slice_set (let_go g v.pool.pages) page (Some bytes); calls = with_reference v.pool page } })
    by None within = record {
      becomes = λ client i. record (client_with v client) {
        cache = record (client_with v client).cache {
          seen = λ q. put_field (λ c. unwrap_or c.seen 0) v.rows page q new below i;
          held = λ q. put_field (λ c. c.held) v.rows page q new below i;
          version = λ q. put_field (λ c. c.version) v.rows page q new below i;
          tag = λ q. put_same (λ c. unwrap_or c.tag 0) v.rows page q new below refl i;
          content = λ q. pool_brings v.pool.pages None page q (Some bytes) pages within i;
        };
      };
      limits = refl;
      references = refers_more v.pool.calls page v.pool.fixed;
    }
    by (Some n) within = record {
      becomes = λ client i. record (client_with v client) {
        cache = record (client_with v client).cache {
          seen = λ q. put_field (λ c. unwrap_or c.seen 0) v.rows page q new below i;
          held = λ q. put_field (λ c. c.held) v.rows page q new below i;
          version = λ q. put_field (λ c. c.version) v.rows page q new below i;
          tag = λ q. put_same (λ c. unwrap_or c.tag 0) v.rows page q new below refl i;
          content = λ q. pool_brings v.pool.pages (Some n) page q (Some bytes) pages within i;
        };
      };
      limits = refl;
      references = refers_more v.pool.calls page v.pool.fixed;
    }

pub abandons : (v : CacheState) (outcome : LastOutcome) (rows : List PageCopy) (pool : PoolState) (a b c n : ℕ) → Dropped v.rows v.wrote rows → Emptied v.pool v.wrote pool
    → Does v (EndTransaction outcome ∷ ChangeCache Abandon ∷ [])
    (record v { rows = rows; may_write = replicate a false; wrote = replicate b false; wanted = replicate c false; pool = record pool { fixed = replicate n false } })
abandons v outcome rows pool a b c n dropped emptied = record {
  becomes = λ client i. record (client_after v.limits.keep_write (client_with v client) (EndTransaction outcome ∷ ChangeCache Abandon ∷ [])) {
    cache = record (client_after v.limits.keep_write (client_with v client) (EndTransaction outcome ∷ ChangeCache Abandon ∷ [])).cache {
      seen = λ q. unwrap_or (sym (dropped.seen q) i) 0;
      held = λ q. sym (dropped.held q) i;
      version = λ q. sym (dropped.version q) i;
      tag = λ q. unwrap_or (sym (dropped.tag q) i) 0;
      content = λ q. sym (emptied.content q) i;
      may_write = λ q. none_in a q i;
      wrote = λ q. none_in b q i;
    };
    wanted = λ q. none_in c q i;
  };
  limits = refl;
  references = emptied.references;
}

-- A page goes from the pool for one that comes in, and then its grant goes too: the client is what
-- it would be had its copy gone first.
pub goes_before : (keep_write : Bool) (client : Client) (gone page : ℕ) (step : ClientStep) → gone ≢ page → Brings page step
    → client_after keep_write client (ChangeCache (MakeBare gone) ∷ step ∷ ChangeCache (LetGo gone) ∷ [])
    ≡ client_after keep_write client (ChangeCache (LetGo gone) ∷ step ∷ [])
goes_before keep_write client gone page _ other (Filled grant bytes) = λ i. record client {
  cache = record client.cache {
    may_write = update client.cache.may_write gone false;
    held = update client.cache.held gone None;
    content = λ q. go_first client.cache.content gone page (Some bytes) q other i;
  };
}
goes_before keep_write client gone page _ other (Installed grant version bytes) = λ i. record client {
  cache = record client.cache {
    may_write = update client.cache.may_write gone false;
    seen = update client.cache.seen page grant;
    version = update client.cache.version page version;
    held = λ q. go_last client.cache.held gone page (Some grant) q other i;
    content = λ q. go_first client.cache.content gone page (Some bytes) q other i;
  };
}
