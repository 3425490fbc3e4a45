-- Goals of `Client::lock_here`.
use Rattle.std.proofs.Common.{◌≡◌, ◌<◌, ◌≤◌, ℕ, nat_lt, Bool, true, false, true≢false, length, None, refl, sym, ◌∙◌, ap, subst, arith}
use Rattle.std.proofs.lemmas.Bool.Decides.{nat_tests}
use Rattle.std.proofs.lemmas.List.{get_or_past}
use Rattle.std.specs.Option.{is_some}
use Rattle.cb_cache.specs.CacheState.{AreCopies, CacheState, content_at, referred_to}
use Rattle.cb_client_core.specs.ClientState.{ClientState, IsClient}
use Rattle.cb_client_core.specs.Parts.{client_in}
use Rattle.cb_client.proofs.Calling.{finds_here, read_keeps}
use Rattle.cb_client.proofs.Refusals.{page_within}
use Rattle.cb_client.proofs.client.Client.lock_here.Goals as goal

-- a page in the pool is one of the store
here_below : (copies : CacheState) (page : ℕ) → AreCopies copies → is_some (content_at copies page) ≡ true → page < copies.limits.pages
here_below copies page sound here = by (nat_lt page (length copies.pool.pages)) refl
  where
    by : (b : Bool) → nat_lt page (length copies.pool.pages) ≡ b → page < copies.limits.pages
    by true e = let lt : page < length copies.pool.pages = grind (arith, nat_tests) in let s = sound.sizes.pages in omega arith
    by false e = let le : length copies.pool.pages ≤ page = grind (arith, nat_tests) in absurd (true≢false (sym here ∙ ap is_some (get_or_past copies.pool.pages page None le)))

-- a reference changes nothing that holds of copies, or of a client
were_copies : (copies : CacheState) (page : ℕ) → AreCopies (referred_to copies page) → AreCopies copies
were_copies copies page are = record {
  limits = are.limits;
  sizes = record {
    rows = are.sizes.rows;
    may_write = are.sizes.may_write;
    wrote = are.sizes.wrote;
    wanted = are.sizes.wanted;
    pages = are.sizes.pages;
    fixed = are.sizes.fixed;
    slots = are.sizes.slots;
    page_size = are.sizes.page_size;
  };
  here_held = are.here_held;
  permitted_held = are.permitted_held;
  wrote_here = are.wrote_here;
  fixed = are.fixed;
}

refers_keeps : (v : ClientState) (page : ℕ) → IsClient v → IsClient (record v { copies = referred_to v.copies page })
refers_keeps v page is = record {
  no = is.no;
  incarnation = is.incarnation;
  locked = is.locked;
  dues = is.dues;
  same_client = is.same_client;
  same_incarnation = is.same_incarnation;
  same_txn = is.same_txn;
  due_held = is.due_held;
  due_locked = is.due_locked;
  bare_locked = is.bare_locked;
  room = is.room;
  reached = record { operations = is.reached.operations; arises = is.reached.arises };
}

pub invariant_of-self : goal.invariant_of-self
invariant_of-self g c = rw c.reference.ensures.same (refers_keeps _ c.args.page c.self.invariant)

pub invariant_of-self-2 : goal.invariant_of-self-2
invariant_of-self-2 g c =
    let here : is_some (content_at c.self.inside.core.copies c.args.page) ≡ true = sym c.if-not-reference.ensures.here in
    let sound : AreCopies c.self.inside.core.copies = were_copies _ c.args.page (subst AreCopies c.reference.ensures.same c.reference.ensures.sound) in
    let below : c.args.page < c.self.inside.core.copies.limits.pages = here_below c.self.inside.core.copies c.args.page sound here in
    let free = page_within (client_in c.self.inside.core) c.args.page (rw (← c.self.view_is) at c.requires.free) below in
    rw (c.lock.ensures, c.reference.ensures.same) (read_keeps _ c.args.page (finds_here (client_in c.self.inside.core) c.args.page free here) below here c.self.invariant)
