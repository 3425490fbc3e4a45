-- What `fetch` lends is what `hit` would lend of the worker that it leaves.
use Rattle.std.proofs.Common.{◌≡◌, ◌&&◌, ℕ, Bool, true, [], Option, Some, refl, sym, ◌∙◌, ap, subst}
use Rattle.std.specs.Option.{is_some}
use Rattle.cb_cache.specs.CacheState.{content_at}
use Rattle.cb_client.specs.ByTable.{limits_at}
use Rattle.cb_client.specs.CallAnswers.{page_read}
use Rattle.cb_client_core.specs.ClientState.{ClientState, client_of}
use Rattle.cb_protocol.specs.Answers as table
use Rattle.cb_protocol.specs.Basics.{Bytes, is_none}
use Rattle.cb_protocol.specs.ClientCalls.{CallRead, call_fault}
use Rattle.cb_running_laws.proofs.Worlds.{lent}
use Rattle.cb_running_laws.specs.ByContracts.{FetchesLend}
use Rattle.cb_worker.proofs.Reading.{hits, reads, three}
use Rattle.cb_worker.specs.Workers.{Hit, WorkerState, may_hit, shows_copy, with_client}
use Rattle.cb_worker.specs.declared.answers.Fetched.TheVariants as fetched

-- a read of a page that is here is refused after it was read where it was before
same_fault : (v : ClientState) (page : ℕ) (bytes : Bytes) → content_at v.copies page ≡ Some bytes
    → call_fault (limits_at v) (client_of (page_read v page) []) (CallRead page)
    ≡ call_fault (limits_at v) (client_of v []) (CallRead page)
unfolding call_fault
same_fault v page bytes e = rw e refl

all_true : (a b c : Bool) → a ≡ true → b ≡ true → c ≡ true → (a && (b && c)) ≡ true
all_true a b c p q r = rw (p, q, r) refl

-- so it can be read at hand again
again : (w : WorkerState) (page : ℕ) (bytes : Bytes) → may_hit w page ≡ true
    → content_at w.client.copies page ≡ Some bytes
    → may_hit (with_client w (page_read w.client page)) page ≡ true
again w page bytes may e =
    let parts : (shows_copy w page ≡ true) × (is_some (content_at w.client.copies page) ≡ true)
    × (is_none (call_fault (limits_at w.client) (client_of w.client []) (CallRead page)) ≡ true)
    = three _ _ _ may in
    all_true _ _ _ parts.0 parts.1
    (ap (λ (f : Option table.ClientFault). is_none f) (same_fault w.client page bytes e) ∙ parts.2)

pub fetches_lend : FetchesLend
fetches_lend program c page worker next fetched.Aborted f e = tt
fetches_lend program c page worker next (fetched.Bytes bytes) f e =
    let before : WorkerState = f.1 in
    let here : content_at before.client.copies page ≡ Some bytes.now =
    lent before page bytes.now [] f.2 in
    let after : WorkerState = with_client before (page_read before.client page) in
    let hit : Hit after page bytes.now = hits after page (Some bytes.now)
    (again before page bytes.now f.2.may here) (sym here) in
    record {
      worker = next;
      has = e;
      hit = subst (λ (w : WorkerState). Hit w page bytes.now)
          (reads before page f.2.may ∙ sym f.3) hit;
    }
