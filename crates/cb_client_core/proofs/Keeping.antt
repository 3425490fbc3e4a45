-- What holds of every client still holds where little changes.
use Rattle.std.proofs.Common.{◌≡◌, ℕ, true, length, None, sym, ◌∙◌, ap}
use Rattle.std.specs.Option.{is_some}
use Rattle.cb_page.specs.Bounds.{Bounds}
use Rattle.cb_page.specs.Flags.{has}
use Rattle.cb_cache.specs.CacheState.{client_with, content_at, copy_at, limits_of}
use Rattle.cb_locks.specs.Dues.{is_due}
use Rattle.cb_locks.specs.Locks.{due_at}
use Rattle.cb_protocol.specs.Client.{Client}
use Rattle.cb_client_core.specs.ClientState.{ClientState, HasRoomLeft, IsClient, IsReached}
use Rattle.cb_client_core.specs.declared.stage.PendingAsk.TheVariants as asks

-- the pool has room while an ask to read is out
abbrev pub HasRoomToRead : ClientState → Type 0
HasRoomToRead v = (page : ℕ) → v.ask ≡ asks.Read page → (other : Client) → HasRoomLeft (limits_of v.copies.limits) (client_with v.copies other)

-- what holds of every client still holds, where its parts have the same sizes and names
pub keeps : (v w : ClientState) → IsClient v → w.copies.limits ≡ v.copies.limits → w.no ≡ v.no → w.incarnation ≡ v.incarnation → length w.locks.locked ≡ length v.locks.locked
    → length w.locks.dues ≡ length v.locks.dues → w.locks.client ≡ v.locks.client → w.locks.incarnation ≡ v.locks.incarnation → w.locks.txn ≡ w.txn
    → ((page : ℕ) → due_at w.locks page ≡ due_at v.locks page) → ((page : ℕ) → (copy_at w.copies page).held ≡ (copy_at v.copies page).held)
    → ((page : ℕ) → has v.locks.locked page ≡ true → has w.locks.locked page ≡ true) → ((page : ℕ) → content_at w.copies page ≡ None → content_at v.copies page ≡ None)
    → HasRoomToRead w → IsReached w → IsClient w
keeps v w is limits number own locked dues client incarnation txn due held stays here room r = record {
  no = rw (limits, number) is.no;
  incarnation = rw own is.incarnation;
  locked = locked ∙ is.locked ∙ ap (λ (b : Bounds). b.pages) (sym limits);
  dues = dues ∙ is.dues ∙ ap (λ (b : Bounds). b.pages) (sym limits);
  same_client = client ∙ is.same_client ∙ sym number;
  same_incarnation = incarnation ∙ is.same_incarnation ∙ sym own;
  same_txn = txn;
  due_held = λ q. rw (due q, held q) (is.due_held q);
  due_locked = λ q e. stays q (is.due_locked q (sym (ap is_due (due q)) ∙ e));
  bare_locked = λ q e n. stays q (is.bare_locked q (sym (ap is_some (held q)) ∙ e) (here q n));
  room = room;
  reached = r;
}
