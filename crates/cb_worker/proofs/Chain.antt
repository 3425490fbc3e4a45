-- From the read of a page to its commit.
use Rattle.std.proofs.Common.{◌≡◌, ◌≢◌, ◌||◌, ◌&&◌, inl, ℕ, Bool, true, false, [], Option, Some, None, Ok, refl, sym, ◌∙◌, ap, subst, arith}
use Rattle.cb_client.specs.ByTable.{limits_at}
use Rattle.cb_client.specs.CallAnswers.{Writes, puts}
use Rattle.cb_client_core.specs.ClientState.{ClientState, client_of}
use Rattle.cb_protocol.proofs.Cases.{call_accepted, call_refused}
use Rattle.cb_protocol.specs.Answers as table
use Rattle.cb_protocol.specs.Basics.{Bytes}
use Rattle.cb_protocol.specs.Cache.{Idle, TransactionState, WriteBytes, cache_after, is_open}
use Rattle.cb_protocol.specs.Client.{Client, client_after}
use Rattle.cb_protocol.specs.ClientCalls.{CallWrite, Reply, call_fault}
use Rattle.cb_worker.proofs.Written.{stays_written}
use Rattle.cb_worker.specs.Keeping.{HasWritten, Uses}
use Rattle.cb_worker.specs.ReadToCommit.{CallsKeepWritten, OtherWritesKeep, ReadIsCommitted, WantKeepsBytes, WriteReplacesBytes}
use Rattle.cb_worker.specs.Workers.{seen_by}

open_busy : (s : TransactionState) (w : Bool) → (is_open s && w) ≡ true → s ≢ Idle
open_busy Idle w e = absurd cc
open_busy _ w e = λ z. absurd cc

pub want_keeps_bytes : WantKeepsBytes
want_keeps_bytes old new page grant bytes uses wants =
    wants.2.uses grant bytes (open_busy (seen_by new).cache.status ((seen_by new).cache.may_write page) (wants.1 [])) uses

-- the client after a write
abbrev written_to : Client → (page : ℕ) → Bytes → Client
written_to k page bytes = record k { cache = cache_after false k.cache (WriteBytes page bytes) }

written_client : (old new : ClientState) (page : ℕ) (bytes : Bytes) → Writes old page bytes (Ok tt) new → written_to (client_of old []) page bytes ≡ client_of new (puts page bytes [])
written_client old new page bytes calls = go (call_fault (limits_at old) (client_of old []) (CallWrite page bytes)) refl
  where
    go : (f : Option table.ClientFault) → call_fault (limits_at old) (client_of old []) (CallWrite page bytes) ≡ f → written_to (client_of old []) page bytes ≡ client_of new (puts page bytes [])
    go (Some f) e = absurd (let w = ap (λ (r : Reply). r.word) (call_refused _ _ _ f e) in let b = calls.word [] in cc)
    go None e = sym (ap (λ (r : Reply). client_after old.copies.limits.keep_write (client_of old []) r.steps) (call_accepted (limits_at old) (client_of old []) (CallWrite page bytes) e)) ∙ calls.makes.after []

-- whatever the transaction did
any_writing : (v : ClientState) (page grant : ℕ) (put bytes : Bytes) (q : ℕ) → HasWritten (client_of v (puts q put [])) page grant bytes → HasWritten (client_of v []) page grant bytes
any_writing v page grant put bytes at h = record {
  uses = record { reading = h.uses.reading; content = h.uses.content; safe = h.uses.safe };
  wrote = h.wrote;
}

wrote_fixed : (a b : Bool) → b ≡ true → (a || b) ≡ true
wrote_fixed true b e = refl
wrote_fixed false b e = e

writes_here : (k : Client) (page grant : ℕ) (bytes put : Bytes) → Uses k page grant bytes → HasWritten (written_to k page put) page grant put
writes_here k page grant bytes put u = record {
  uses = record {
    reading = u.reading;
    content = grind arith;
    safe = inl (wrote_fixed (k.wanted page) ((written_to k page put).cache.wrote page) wrote);
  };
  wrote = wrote;
}
  where
    wrote : (written_to k page put).cache.wrote page ≡ true
    wrote = grind arith

pub write_replaces_bytes : WriteReplacesBytes
write_replaces_bytes old new page grant bytes put uses writes =
    any_writing new.client page grant put put page (subst (λ (k : Client). HasWritten k page grant put) (written_client old.client new.client page put writes) (writes_here (seen_by old) page grant bytes put uses))

writes_elsewhere : (k : Client) (page other grant : ℕ) (bytes put : Bytes) → other ≢ page → HasWritten k other grant bytes → HasWritten (written_to k page put) other grant bytes
writes_elsewhere k page other grant bytes put apart h = record {
  uses = record {
    reading = h.uses.reading;
    content = let c = h.uses.content in grind arith;
    safe = inl (wrote_fixed (k.wanted other) ((written_to k page put).cache.wrote other) wrote);
  };
  wrote = wrote;
}
  where
    wrote : (written_to k page put).cache.wrote other ≡ true
    wrote = let w = h.wrote in grind arith

pub other_writes_keep : OtherWritesKeep
other_writes_keep old new page other put apart writes grant bytes h =
    any_writing new.client other grant put bytes page (subst (λ (k : Client). HasWritten k other grant bytes) (written_client old.client new.client page put writes) (writes_elsewhere (seen_by old) page other grant bytes put apart h))

pub calls_keep_written : CallsKeepWritten
calls_keep_written old new page still busy grant bytes h = stays_written (seen_by old) (seen_by new) still.keeps busy page grant bytes h

pub read_is_committed : ReadIsCommitted
read_is_committed read permitted written last page grant bytes put uses wants writes keeps handed =
    handed.written.each page grant put (keeps grant put (write_replaces_bytes permitted written page grant bytes put (want_keeps_bytes read permitted page grant bytes uses wants) writes))
