-- What holds of copies holds once a new copy came.
use Rattle.std.proofs.Common.{◌≡◌, ◌≢◌, ◌<◌, ℕ, Bool, true, false, nat_eq, List, length, slice_set, slice_index_or, Option, Some, None, Result, Ok, Err, IfOk, OnErr, refl, sym, subst, ◌∙◌, ap, arith}
use Rattle.std.proofs.Math.ListN.{length-set}
use Rattle.std.proofs.lemmas.List.{get_or-set_same, get_or-set_other}
use Rattle.std.proofs.lemmas.Grind.{common_steps}
use Rattle.std.specs.Option.{is_some}
use Rattle.cb_page.specs.Flags as flags
use Rattle.cb_pool.specs.PoolState.{PoolState, let_go, MayGo, with_reference}
use Rattle.cb_twoq.specs.Calls.{Calls}
use Rattle.cb_protocol.specs.Basics.{Bytes}
use Rattle.cb_cache.specs.declared.table.PageCopy.{PageCopy}
use Rattle.cb_cache.specs.Rows.{no_copy, row_at}
use Rattle.cb_cache.specs.CacheState.{AreCopies, CacheState, copy_at}

-- a page let go isn't there any more, every other is as it was
length_let_go : (gone : Option ℕ) (pages : List (Option Bytes)) → length (let_go gone pages) ≡ length pages
length_let_go None pages = refl
length_let_go (Some g) pages = length-set pages g None

module _ (pages : List (Option Bytes)) (page : ℕ) (bytes : Bytes) (below : page < length pages) where
  -- the page is there
  pub here_put : (gone : Option ℕ) → is_some (slice_index_or (slice_set (let_go gone pages) page (Some bytes)) page None) ≡ true
  here_put gone = ap is_some (get_or-set_same (let_go gone pages) page (Some bytes) None (let l = length_let_go gone pages in omega arith))

  -- another that is there was there
  pub was_here : (gone : Option ℕ) (p : ℕ) → p ≢ page → is_some (slice_index_or (slice_set (let_go gone pages) page (Some bytes)) p None) ≡ true
      → is_some (slice_index_or pages p None) ≡ true
  was_here None p other e = sym (ap is_some (get_or-set_other pages page p (Some bytes) None other)) ∙ e
  was_here (Some g) p other e = by (nat_eq p g) refl (sym (ap is_some (get_or-set_other (slice_set pages g None) page p (Some bytes) None other)) ∙ e)
    where
      by : (b : Bool) → nat_eq p g ≡ b → is_some (slice_index_or (slice_set pages g None) p None) ≡ true → is_some (slice_index_or pages p None) ≡ true
      by true t here = grind (arith, common_steps)
      by false t here = let n : p ≢ g = grind (arith, common_steps) in sym (ap is_some (get_or-set_other pages g p None None n)) ∙ here

  -- another that was there and doesn't go is there
  pub stays_here : (gone : Option ℕ) (p : ℕ) → p ≢ page → gone ≢ Some p → is_some (slice_index_or pages p None) ≡ true
      → is_some (slice_index_or (slice_set (let_go gone pages) page (Some bytes)) p None) ≡ true
  stays_here None p other stays e = ap is_some (get_or-set_other pages page p (Some bytes) None other) ∙ e
  stays_here (Some g) p other stays e =
      let n : p ≢ g = λ same. stays (ap Some (sym same)) in
      ap is_some (get_or-set_other (slice_set pages g None) page p (Some bytes) None other) ∙ ap is_some (get_or-set_other pages g p None None n) ∙ e

-- what goes is fixed neither by a write nor otherwise
goes_unwritten : (v : CacheState) (page p : ℕ) (g : Option ℕ) → AreCopies v → flags.has v.wrote p ≡ true → MayGo v.pool page g → g ≢ Some p
goes_unwritten v page p None are there m e = absurd (cc)
goes_unwritten v page p (Some g) are there m e =
    let same : g ≡ p = cc in
    let free : flags.has v.pool.fixed p ≡ false = subst (λ q. flags.has v.pool.fixed q ≡ false) same m.3 in
    absurd (let f = are.fixed p in grind (arith, common_steps))

-- what the transaction wrote is in the pool still
wrote_stays : (v : CacheState) (page : ℕ) (bytes : Bytes) (gone : Option ℕ) → page < length v.pool.pages → AreCopies v → MayGo v.pool page gone
    → (p : ℕ) → flags.has v.wrote p ≡ true → is_some (slice_index_or (slice_set (let_go gone v.pool.pages) page (Some bytes)) p None) ≡ true
wrote_stays v page bytes gone pages are may p there = by (nat_eq p page) refl
  where
    by : (b : Bool) → nat_eq p page ≡ b → is_some (slice_index_or (slice_set (let_go gone v.pool.pages) page (Some bytes)) p None) ≡ true
    by true e =
        let same : p ≡ page = grind (arith, common_steps) in
        subst (λ q. is_some (slice_index_or (slice_set (let_go gone v.pool.pages) page (Some bytes)) q None) ≡ true) (sym same) (here_put v.pool.pages page bytes pages gone)
    by false e =
        let other : p ≢ page = grind (arith, common_steps) in
        stays_here v.pool.pages page bytes pages gone p other (goes_unwritten v page p gone are there may) (are.wrote_here p there)

pub keeps_installed : (v : CacheState) (page grant version : ℕ) (bytes : Bytes) (gone : Option ℕ) (calls : Calls) → page < v.limits.pages → AreCopies v → MayGo v.pool page gone
    → AreCopies (record v {
      rows = slice_set v.rows page (record (copy_at v page) { seen = Some grant; held = Some grant; version = version });
      pool = record v.pool { pages = slice_set (let_go gone v.pool.pages) page (Some bytes); calls = calls };
    })
keeps_installed v page grant version bytes gone calls lt are may = record {
  limits = are.limits;
  sizes = record {
    rows = length-set v.rows page new ∙ are.sizes.rows;
    may_write = are.sizes.may_write;
    wrote = are.sizes.wrote;
    wanted = are.sizes.wanted;
    pages = length-set (let_go gone v.pool.pages) page (Some bytes) ∙ length_let_go gone v.pool.pages ∙ are.sizes.pages;
    fixed = are.sizes.fixed;
    slots = are.sizes.slots;
    page_size = are.sizes.page_size;
  };
  here_held = λ p here. held_at p (λ other. are.here_held p (was_here v.pool.pages page bytes pages gone p other here));
  permitted_held = λ p there. held_at p (λ other. are.permitted_held p there);
  wrote_here = λ p there. wrote_stays v page bytes gone pages are may p there;
  fixed = are.fixed;
}
  where
    new : PageCopy
    new = record (copy_at v page) { seen = Some grant; held = Some grant; version = version }

    below : page < length v.rows
    below = let r = are.sizes.rows in omega arith

    pages : page < length v.pool.pages
    pages = let r = are.sizes.pages in omega arith

    held_at : (p : ℕ) → (p ≢ page → is_some (copy_at v p).held ≡ true) → is_some (row_at (slice_set v.rows page new) p).held ≡ true
    held_at p was = by (nat_eq p page) refl
      where
        by : (b : Bool) → nat_eq p page ≡ b → is_some (row_at (slice_set v.rows page new) p).held ≡ true
        by true e =
            let same : p ≡ page = grind (arith, common_steps) in
            subst (λ q. is_some (row_at (slice_set v.rows page new) q).held ≡ true) (sym same) (ap (λ (c : PageCopy). is_some c.held) (get_or-set_same v.rows page new no_copy below))
        by false e =
            let other : p ≢ page = grind (arith, common_steps) in
            ap (λ (c : PageCopy). is_some c.held) (get_or-set_other v.rows page p new no_copy other) ∙ was other

-- what holds of copies holds once a call of the pool's chooser is told
pub keeps_called : (v : CacheState) (calls : Calls) → AreCopies v → AreCopies (record v { pool = record v.pool { calls = calls } })
keeps_called v calls are = record {
  limits = are.limits;
  sizes = record {
    rows = are.sizes.rows;
    may_write = are.sizes.may_write;
    wrote = are.sizes.wrote;
    wanted = are.sizes.wanted;
    pages = are.sizes.pages;
    fixed = are.sizes.fixed;
    slots = are.sizes.slots;
    page_size = are.sizes.page_size;
  };
  here_held = are.here_held;
  permitted_held = are.permitted_held;
  wrote_here = are.wrote_here;
  fixed = are.fixed;
}

-- once bytes came for a copy that is held
pub keeps_filled : (v : CacheState) (page : ℕ) (bytes : Bytes) (gone : Option ℕ) (calls : Calls) → page < v.limits.pages → is_some (copy_at v page).held ≡ true → AreCopies v → MayGo v.pool page gone
    → AreCopies (record v { pool = record v.pool { pages = slice_set (let_go gone v.pool.pages) page (Some bytes); calls = calls } })
keeps_filled v page bytes gone calls lt held are may = record {
  limits = are.limits;
  sizes = record {
    rows = are.sizes.rows;
    may_write = are.sizes.may_write;
    wrote = are.sizes.wrote;
    wanted = are.sizes.wanted;
    pages = length-set (let_go gone v.pool.pages) page (Some bytes) ∙ length_let_go gone v.pool.pages ∙ are.sizes.pages;
    fixed = are.sizes.fixed;
    slots = are.sizes.slots;
    page_size = are.sizes.page_size;
  };
  here_held = λ p here. held_at p here (nat_eq p page) refl;
  permitted_held = are.permitted_held;
  wrote_here = λ p there. wrote_stays v page bytes gone pages are may p there;
  fixed = are.fixed;
}
  where
    pages : page < length v.pool.pages
    pages = let r = are.sizes.pages in omega arith

    held_at : (p : ℕ) → is_some (slice_index_or (slice_set (let_go gone v.pool.pages) page (Some bytes)) p None) ≡ true → (b : Bool) → nat_eq p page ≡ b → is_some (copy_at v p).held ≡ true
    held_at p here true e = let same : p ≡ page = grind (arith, common_steps) in subst (λ q. is_some (copy_at v q).held ≡ true) (sym same) held
    held_at p here false e = let other : p ≢ page = grind (arith, common_steps) in are.here_held p (was_here v.pool.pages page bytes pages gone p other here)

pub keeps_fill : (v : CacheState) (page : ℕ) (bytes : Bytes) {F : Type 0} (result : Result (Option ℕ) F) (new : PoolState) → page < v.limits.pages → is_some (copy_at v page).held ≡ true → AreCopies v
    → IfOk result (λ gone. new ≡ record v.pool { pages = slice_set (let_go gone v.pool.pages) page (Some bytes); calls = with_reference v.pool page }) → IfOk result (MayGo v.pool page)
    → OnErr result (new ≡ v.pool) → AreCopies (record v { pool = new })
keeps_fill v page bytes (Ok gone) new lt held are pages may same = rw pages (keeps_filled v page bytes gone (with_reference v.pool page) lt held are may)
keeps_fill v page bytes (Err fault) new lt held are pages may same = rw same are
