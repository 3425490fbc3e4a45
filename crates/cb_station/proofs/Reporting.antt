-- What a station has on disk once a batch is reported.
use Rattle.std.proofs.Common.{◌≡◌, ◌∙◌, ℕ, ◌≤◌, ◌<◌, Bool, true, false, Result, Ok, Err, OnOk, OnErr, ap, arith, max, refl, subst, sym}
use Rattle.std.proofs.lemmas.Bool.Decides.{nat_tests}
use Rattle.cb_mailboxes.specs.Dispatching.{Everybody, Posts}
use Rattle.cb_protocol.proofs.NoCycles.{sends_dones}
use Rattle.cb_protocol.proofs.SettlingClears.{after_noted}
use Rattle.cb_protocol.specs.AnyMessages.{ReachesDisk}
use Rattle.cb_protocol.specs.Flush.{can_flush, dones_between}
use Rattle.cb_protocol.specs.Server.{Server, SetFlushed}
use Rattle.cb_station.specs.Reporting.{ReportsUpTo}
use Rattle.cb_station.specs.Stations.{IsUnchanged, StationState, forgot, mailbox_of, server_of}

-- a number that can be flushed is above what is on disk
pub above : (s : Server) (n : ℕ) → can_flush s n ≡ true → s.flushed < n
above s n e = grind (arith, nat_tests)

-- one that can't be is on disk, where a commit has it
pub not_above : (s : Server) (n : ℕ) → can_flush s n ≡ false → n ≤ s.store.last_commit → n ≤ s.flushed
not_above s n e made = grind (arith, nat_tests)

-- a report puts the number of the last commit on disk up to that one
pub posts_flushed : (old mid : StationState) (n : ℕ) → Posts old.dispatcher (ReachesDisk n) (mailbox_of old) Everybody mid.dispatcher → (server_of mid).flushed ≡ n
posts_flushed old mid n posts =
    let s = server_of old in
    ap (λ (k : Server). k.flushed) (posts.does.becomes ∙ after_noted s (dones_between s.commits s.flushed n) (SetFlushed n) (sends_dones s.commits s.flushed n))

-- so it is the greater of that one and what it was
pub greater_flushed : (old new : StationState) (n : ℕ) → can_flush (server_of old) n ≡ true
    → Posts old.dispatcher (ReachesDisk n) (mailbox_of old) Everybody new.dispatcher → (server_of new).flushed ≡ max n (server_of old).flushed
greater_flushed old new n is posts =
    let e = posts_flushed old new n posts in let low = above (server_of old) n is in omega arith

-- where nothing is to be reported it stays the greater
pub still_flushed : (s : Server) (n : ℕ) → can_flush s n ≡ false → n ≤ s.store.last_commit → s.flushed ≡ max n s.flushed
still_flushed s n is made = let low = not_above s n is made in omega arith

-- what isn't at most a number is above it
below : (m n : ℕ) → ¬ (n ≤ m) → m < n
below m n not = grind arith

flushed_at : (b : Bool) (old mid : StationState) (n : ℕ) → can_flush (server_of old) n ≡ b
    → (can_flush (server_of old) n ≡ true → Posts old.dispatcher (ReachesDisk n) (mailbox_of old) Everybody mid.dispatcher)
    → (can_flush (server_of old) n ≡ false → IsUnchanged old mid) → n ≤ (server_of mid).flushed → (server_of mid).flushed ≡ max n (server_of old).flushed
flushed_at true old mid n is says silent far =
    greater_flushed old mid n is (says is)
flushed_at false old mid n is says silent far =
    let same : (server_of mid).flushed ≡ (server_of old).flushed = ap (λ (k : Server). k.flushed) (silent is).dispatcher.server.server in omega arith

-- where it was refused nothing was on disk that wasn't before, so there was nothing to say
said_of : {X E : Type 0} (r : Result X E) (old mid : StationState) (n : ℕ)
    → OnOk r (can_flush (server_of old) n ≡ true → Posts old.dispatcher (ReachesDisk n) (mailbox_of old) Everybody mid.dispatcher)
    → OnErr r (IsUnchanged old mid) → n ≤ (server_of mid).flushed
    → can_flush (server_of old) n ≡ true → Posts old.dispatcher (ReachesDisk n) (mailbox_of old) Everybody mid.dispatcher
said_of (Ok x) old mid n posts refused far is = posts is
said_of (Err e) old mid n posts refused far is =
    let low = above (server_of old) n is in
    let same : (server_of mid).flushed ≡ (server_of old).flushed = ap (λ (k : Server). k.flushed) refused.dispatcher.server.server in
    absurd (omega arith)

-- the parts of a report are one
pub reports_up_to : {X E : Type 0} (r : Result X E) (old mid new : StationState) (n : ℕ)
    → OnOk r (can_flush (server_of old) n ≡ true → Posts old.dispatcher (ReachesDisk n) (mailbox_of old) Everybody mid.dispatcher)
    → OnErr r (IsUnchanged old mid) → (can_flush (server_of old) n ≡ false → IsUnchanged old mid) → n ≤ (server_of mid).flushed
    → mid.hands ≡ old.hands → mid.history ≡ old.history → mid.flags ≡ old.flags → new ≡ forgot mid n → ReportsUpTo n old new
reports_up_to r old mid new n posts refused silent far hands history flags forgets =
    let says = said_of r old mid n posts refused far in
    record {
      flushed = ap (λ (s : StationState). (server_of s).flushed) forgets ∙ flushed_at (can_flush (server_of old) n) old mid n refl says silent far;
      reported = mid;
      says = says;
      silent = silent;
      hands = hands;
      history = history;
      flags = flags;
      forgets = forgets;
    }

-- what isn't on disk then wasn't reported, and nothing changed
pub unreported : {X E : Type 0} (r : Result X E) (b : Bool) (old mid : StationState) (n : ℕ) → can_flush (server_of old) n ≡ b
    → OnOk r (can_flush (server_of old) n ≡ true → Posts old.dispatcher (ReachesDisk n) (mailbox_of old) Everybody mid.dispatcher)
    → OnErr r (IsUnchanged old mid) → (can_flush (server_of old) n ≡ false → IsUnchanged old mid) → ¬ (n ≤ (server_of mid).flushed)
    → IsUnchanged old mid × ((server_of old).flushed < n)
unreported (Ok x) true old mid n is posts refused silent low =
    let e = posts_flushed old mid n (posts is) in absurd (low (omega arith))
unreported (Ok x) false old mid n is posts refused silent low =
    let same : (server_of mid).flushed ≡ (server_of old).flushed = ap (λ (k : Server). k.flushed) (silent is).dispatcher.server.server in (silent is, below (server_of old).flushed n (λ e. low (subst (λ (k : ℕ). n ≤ k) (sym same) e)))
unreported (Err e) b old mid n is posts refused silent low =
    let same : (server_of mid).flushed ≡ (server_of old).flushed = ap (λ (k : Server). k.flushed) refused.dispatcher.server.server in (refused, below (server_of old).flushed n (λ e. low (subst (λ (k : ℕ). n ≤ k) (sym same) e)))
