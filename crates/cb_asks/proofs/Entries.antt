-- The entries of a queue's map as asks.
use Rattle.std.proofs.Common.{◌≡◌, ℕ, ◌+◌, ◌≤◌, Bool, true, false, cond, nat_eq, ◌==◌, if◌then◌else◌, List, [], ◌∷◌, ◌++◌, length, Option, Some, None, refl, sym, ◌∙◌, ap, arith, slice_get, remove, zero, suc}
use Rattle.std.proofs.lemmas.Grind.{common_steps}
use Rattle.std.specs.Map.{lookup, remove_entry, values_of}
use Rattle.std.specs.Option.{option_map, unwrap_or}
use Rattle.indexmap.specs.IndexMap.{insert_entry, set_value_at}
use Rattle.cb_protocol.specs.Deadlock.{ask_count}
use Rattle.cb_protocol.specs.Server.{WaitingAsk, after_first, set_called_back, set_downgrade_sent, without_client}
use Rattle.cb_asks.specs.Queues.{ask_by}
use Rattle.cb_asks.specs.Entries.{ask_of_entry, asks_of}
use Rattle.cb_asks.specs.declared.queue.Entry.{Entry}
use Rattle.cb_asks.proofs.Queues.{without_none}

-- the order of a test's numbers
flipped : (one other : ℕ) → nat_eq one other ≡ (other == one)
flipped one other = grind (arith, common_steps)

pub length_asks : (entries : List (ℕ × Entry)) → length (asks_of entries) ≡ length entries
length_asks [] = refl
length_asks (entry ∷ entries) = let e = length_asks entries in omega arith

pub get_asks : (entries : List (ℕ × Entry)) (place : ℕ) → slice_get (asks_of entries) place ≡ option_map ask_of_entry (slice_get entries place)
get_asks [] place = refl
get_asks (entry ∷ entries) zero = refl
get_asks (entry ∷ entries) (suc place) = get_asks entries place

-- a new key's entry goes to the end
pub entered : (client : ℕ) (entry : Entry) (entries : List (ℕ × Entry)) → ask_count client (asks_of entries) ≡ 0
    → asks_of (insert_entry nat_eq entries client entry) ≡ asks_of entries ++ ask_of_entry (client, entry) ∷ []
entered client entry [] none = refl
entered client entry (first ∷ entries) none = by (first.0 == client) refl none (entered client entry entries)
  where
    by : (b : Bool) → (first.0 == client) ≡ b → (if b then 1 else 0) + ask_count client (asks_of entries) ≡ 0
        → (ask_count client (asks_of entries) ≡ 0 → asks_of (insert_entry nat_eq entries client entry) ≡ asks_of entries ++ ask_of_entry (client, entry) ∷ [])
        → asks_of (insert_entry nat_eq (first ∷ entries) client entry) ≡ asks_of (first ∷ entries) ++ ask_of_entry (client, entry) ∷ []
    by true e none rest = absurd (omega arith)
    by false e none rest =
        ap (λ b. asks_of (if b then (first.0, entry) ∷ entries else first ∷ insert_entry nat_eq entries client entry)) (flipped client first.0 ∙ e)
        ∙ ap (λ l. ask_of_entry first ∷ l) (rest (omega arith))

-- a client's entry goes
pub removed : (client : ℕ) (entries : List (ℕ × Entry)) → ask_count client (asks_of entries) ≤ 1
    → asks_of (remove_entry (nat_eq client) entries) ≡ without_client client (asks_of entries)
removed client [] one = refl
removed client (first ∷ entries) one = by (first.0 == client) refl one (removed client entries)
  where
    by : (b : Bool) → (first.0 == client) ≡ b → (if b then 1 else 0) + ask_count client (asks_of entries) ≤ 1
        → (ask_count client (asks_of entries) ≤ 1 → asks_of (remove_entry (nat_eq client) entries) ≡ without_client client (asks_of entries))
        → asks_of (remove_entry (nat_eq client) (first ∷ entries)) ≡ without_client client (asks_of (first ∷ entries))
    by true e one rest =
        ap (λ b. asks_of (cond b entries (first ∷ remove_entry (nat_eq client) entries))) (flipped client first.0 ∙ e)
        ∙ sym (ap (λ b. if b then without_client client (asks_of entries) else ask_of_entry first ∷ without_client client (asks_of entries)) e ∙ without_none client (asks_of entries) (omega arith))
    by false e one rest =
        ap (λ b. asks_of (cond b entries (first ∷ remove_entry (nat_eq client) entries))) (flipped client first.0 ∙ e)
        ∙ ap (λ l. ask_of_entry first ∷ l) (rest (omega arith))
        ∙ sym (ap (λ b. if b then without_client client (asks_of entries) else ask_of_entry first ∷ without_client client (asks_of entries)) e)

-- what is looked up is the client's ask
pub looked_up : (client : ℕ) (entries : List (ℕ × Entry)) → option_map (λ (entry : Entry). ask_of_entry (client, entry)) (lookup (nat_eq client) entries) ≡ ask_by client (asks_of entries)
looked_up client [] = refl
looked_up client (first ∷ entries) = by (first.0 == client) refl (looked_up client entries)
  where
    same : (first.0 == client) ≡ true → client ≡ first.0
    same e = grind (arith, common_steps)

    by : (b : Bool) → (first.0 == client) ≡ b
        → option_map (λ (entry : Entry). ask_of_entry (client, entry)) (lookup (nat_eq client) entries) ≡ ask_by client (asks_of entries)
        → option_map (λ (entry : Entry). ask_of_entry (client, entry)) (lookup (nat_eq client) (first ∷ entries)) ≡ ask_by client (asks_of (first ∷ entries))
    by true e rest =
        ap (λ b. option_map (λ (entry : Entry). ask_of_entry (client, entry)) (cond b (Some first.1) (lookup (nat_eq client) entries))) (flipped client first.0 ∙ e)
        ∙ ap (λ key. Some (ask_of_entry (key, first.1))) (same e)
        ∙ sym (ap (λ b. if b then Some (ask_of_entry first) else ask_by client (asks_of entries)) e)
    by false e rest =
        ap (λ b. option_map (λ (entry : Entry). ask_of_entry (client, entry)) (cond b (Some first.1) (lookup (nat_eq client) entries))) (flipped client first.0 ∙ e)
        ∙ rest
        ∙ sym (ap (λ b. if b then Some (ask_of_entry first) else ask_by client (asks_of entries)) e)

-- the first entry goes
pub first_removed : (entries : List (ℕ × Entry)) → asks_of (remove entries 0) ≡ after_first (asks_of entries)
first_removed [] = refl
first_removed (first ∷ entries) = refl

-- the first entry is the first ask
pub first_is : (entries : List (ℕ × Entry)) (key : ℕ) (entry : Entry) → ◌≡◌ {A = Option (ℕ × Entry)} (slice_get entries 0) (Some (key, entry)) → asks_of entries ≡ ask_of_entry (key, entry) ∷ after_first (asks_of entries)
first_is [] key entry e = absurd (none_some e)
  where
    none_some : ◌≡◌ {A = Option (ℕ × Entry)} None (Some (key, entry)) → ⊥
    none_some e = grind arith
first_is (first ∷ entries) key entry e = ap (λ (o : Option (ℕ × Entry)). ask_of_entry (unwrap_or o (key, entry)) ∷ asks_of entries) e

-- a note on the first entry
pub first_called : (entries : List (ℕ × Entry)) (entry : Entry) → Some entry ≡ slice_get (values_of entries) 0
    → asks_of (set_value_at entries 0 (record { write_grant = entry.write_grant; called_back = true; downgrade_sent = entry.downgrade_sent })) ≡ set_called_back (asks_of entries)
first_called [] entry e = refl
first_called (first ∷ entries) entry e = ap (λ (o : Option Entry). noted (unwrap_or o entry) ∷ asks_of entries) e
  where
    noted : Entry → WaitingAsk
    noted entry = record { client = first.0; write_grant = entry.write_grant; called_back = true; downgrade_sent = entry.downgrade_sent }

pub first_sent : (tag : ℕ) (entries : List (ℕ × Entry)) (entry : Entry) → Some entry ≡ slice_get (values_of entries) 0
    → asks_of (set_value_at entries 0 (record { write_grant = entry.write_grant; called_back = entry.called_back; downgrade_sent = Some tag })) ≡ set_downgrade_sent tag (asks_of entries)
first_sent tag [] entry e = refl
first_sent tag (first ∷ entries) entry e = ap (λ (o : Option Entry). noted (unwrap_or o entry) ∷ asks_of entries) e
  where
    noted : Entry → WaitingAsk
    noted entry = record { client = first.0; write_grant = entry.write_grant; called_back = entry.called_back; downgrade_sent = Some tag }
