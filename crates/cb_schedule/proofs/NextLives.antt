-- Whether a floor is new, and what there is to know of a server as its life ends.
use Rattle.std.proofs.Common.{◌≡◌, ◌-◌, ◌<◌, ◌≤◌, ◌∙◌, ℕ, List, length, take, ap, sym, subst, arith, inl, inr}
use Rattle.std.specs.List.{All}
use Rattle.std.proofs.lemmas.Bool.{cases_lt}
use Rattle.std.proofs.lemmas.List.{get_or_past}
use Rattle.cb_commit.specs.History.{AreCommits, Numbered, remembered, store_after}
use Rattle.cb_commit.specs.Stores.{IsOf, StoreState}
use Rattle.cb_commit.specs.declared.commit.Commit.{Commit}
use Rattle.cb_links.specs.Changes.{unknown}
use Rattle.cb_links.specs.declared.sessions.Session.{Session}
use Rattle.cb_page.specs.Bounds.{Bounds}
use Rattle.cb_server.specs.Knowing.{KnowsBelow, KnowsUpTo}
use Rattle.cb_server.specs.ServerValue.{IsServer, ServerValue, commits_of, server_of}
use Rattle.cb_server_state.specs.States.{or_zero}
use Rattle.cb_schedule.proofs.DiskStores.{numbered_take, store_length, store_size}
use Rattle.cb_schedule.proofs.FittingCommits.{fit_store}
use Rattle.cb_schedule.specs.NextLife.{FitsStore, IsNewFloorOf, LeavesStore}

-- of a client that there isn't the server knows no incarnation
nobody_there : (v : ServerValue) (c : ℕ) → length v.state.sessions ≤ c → ((server_of v).session c).current ≡ 0
nobody_there v c l = ap (λ (s : Session). or_zero s.incarnation) (get_or_past v.state.sessions c unknown l)

-- a floor above the greatest incarnation known is a new one
pub above_known : (v : ServerValue) (present floor known : ℕ) → present < floor → KnowsUpTo (server_of v) known → known < floor → IsNewFloorOf (server_of v) present floor
above_known v present floor known l most k = record { rises = l; admitted = λ c n. (let m = most c in omega (arith, m, k)) }

-- and no other one is
pub known_below : (v : ServerValue) (present floor known : ℕ) → present < floor → ((below : ℕ) → KnowsBelow (server_of v) below → known < below) → IsNewFloorOf (server_of v) present floor → known < floor
known_below v present floor known l least new = least floor (λ c. elim (cases_lt c (length v.state.sessions)) [
  | inl n ↦ new.admitted c n
  | inr n ↦ (let z = nobody_there v c n in omega (arith, z, l))
])

-- The store with which the life began, and the first of its commits.
pub record LifeCommits (v : ServerValue) (bounds : Bounds) (s : StoreState) (n : ℕ) (firsts : List Commit) : Type 0 where
  pub of : IsOf bounds s
  pub fit : All (FitsStore s) firsts
  pub numbered : Numbered s.number firsts
  pub are : firsts ≡ take n (commits_of v).commits

pub life_commits : (v : ServerValue) (bounds : Bounds) (s : StoreState) (n : ℕ) (committed firsts : List Commit) → IsServer v → AreCommits (commits_of v) → v.limits ≡ bounds → (commits_of v).opening ≡ s → (commits_of v).forgotten ≡ 0
    → committed ≡ remembered (commits_of v) → firsts ≡ take n committed → LifeCommits v bounds s n firsts
life_commits v bounds s n committed firsts is are l o f e g = record {
  of = subst (λ (b : Bounds). IsOf b s) l of;
  fit = subst (λ (cs : List Commit). All (FitsStore s) cs) (sym same) (fit_store v s n is are of);
  numbered = subst (λ (cs : List Commit). Numbered s.number cs) (sym same) (numbered_take n (commits_of v).commits s.number (subst (λ (x : StoreState). Numbered x.number (commits_of v).commits) o are.numbered));
  are = same;
}
  where
    of : IsOf v.limits s
    of = subst (λ (x : StoreState). IsOf v.limits x) o (record { count = are.pages ∙ is.of.store.count; page_size = are.page_size ∙ is.of.store.page_size })

    all : committed ≡ (commits_of v).commits
    all = e ∙ ap (λ (k : ℕ). remembered (record (commits_of v) { forgotten = k })) f

    same : firsts ≡ take n (commits_of v).commits
    same = g ∙ ap (take n) all

-- the store that it leaves is of the same limits
pub left_of : (bounds : Bounds) (s store : StoreState) (cs : List Commit) → IsOf bounds s → store ≡ store_after s cs → IsOf bounds store
left_of bounds s store cs of e = subst (λ (x : StoreState). IsOf bounds x) (sym e) (record { count = store_length cs s ∙ of.count; page_size = store_size cs s ∙ of.page_size })

-- and it is that which the server leaves
pub leaves : (v : ServerValue) (bounds : Bounds) (s store : StoreState) (number m : ℕ) (committed firsts : List Commit) → IsServer v → AreCommits (commits_of v) → v.limits ≡ bounds → (commits_of v).opening ≡ s → (commits_of v).forgotten ≡ 0
    → committed ≡ remembered (commits_of v) → m ≡ s.number → firsts ≡ take (number - m) committed → store ≡ store_after s firsts → LeavesStore v number store
leaves v bounds s store number m committed firsts is are l o f e n g left = record {
  are = are;
  fit = subst (λ (x : StoreState). All (FitsStore x) (take (number - x.number) (commits_of v).commits)) (sym o) (subst (λ (cs : List Commit). All (FitsStore s) cs) taken life.fit);
  left = left ∙ ap (store_after s) taken ∙ (λ k. store_after (sym o k) (take (number - (sym o k).number) (commits_of v).commits));
}
  where
    life : LifeCommits v bounds s (number - m) firsts
    life = life_commits v bounds s (number - m) committed firsts is are l o f e g

    taken : firsts ≡ take (number - s.number) (commits_of v).commits
    taken = life.are ∙ ap (λ (k : ℕ). take (number - k) (commits_of v).commits) n
