-- What is seen of clients, page by page and client by client.
use Rattle.std.proofs.Common.{◌≡◌, ◌+◌, ◌++◌, ◌∷◌, ℕ, List, [], Option, Some, None, refl, sym, ap, ◌∙◌, arith}
use Rattle.std.specs.List.{flat_map, range_with_len}
use Rattle.std.specs.Option.{is_some}
use Rattle.std.proofs.lemmas.Grind.{flat_map-append}
use Rattle.std.proofs.lemmas.List.{append-nil, append_assoc}
use Rattle.std.proofs.lemmas.List.FromFn.{map-range_with_len_more}
use Rattle.std.proofs.lemmas.List.{map-id}
use Rattle.cb_cache.specs.CacheState.{content_at}
use Rattle.cb_client_core.specs.ByTable.{Calls, limits_at}
use Rattle.cb_client_core.specs.ClientState.{ClientState, client_of}
use Rattle.cb_protocol.proofs.Cases.{call_accepted, fault_of_peek}
use Rattle.cb_protocol.specs.Basics.{Bytes}
use Rattle.cb_protocol.specs.ClientCalls.{CallPeek, Reply, peek_word}
use Rattle.cb_protocol.specs.Messages.{Message}
use Rattle.cb_protocol.specs.Serial.{Operation}

-- the bytes that are peeked at are those of the client's copy
word_bytes : (x y : Option Bytes) → peek_word x ≡ peek_word y → x ≡ y
word_bytes None None e = refl
word_bytes None (Some b) e = absurd cc
word_bytes (Some a) None e = absurd cc
word_bytes (Some a) (Some b) e = cc

pub peeked : (now new : ClientState) (page : ℕ) (found : Option Bytes) (messages : List Message) (history : List Operation → List Operation)
    → Calls now (CallPeek page) (peek_word found) messages history new → is_some found ≡ is_some (content_at now.copies page)
peeked now new page found messages history calls =
    ap is_some (sym (word_bytes (content_at now.copies page) found (sym (ap (λ (x : Reply). x.word) (call_accepted (limits_at now) (client_of now []) (CallPeek page) (fault_of_peek (limits_at now) (client_of now []) page))) ∙ calls.word [])))

range_more : (count : ℕ) → range_with_len 0 (count + 1) ≡ range_with_len 0 count ++ count ∷ []
range_more count = sym (map-id (range_with_len 0 (count + 1))) ∙ map-range_with_len_more (λ x. x) 0 count count (omega arith) ∙ ap (λ front. front ++ count ∷ []) (map-id (range_with_len 0 count))

-- what is put behind a list for one number more
pub one_more : {A : Type 0} (f : ℕ → List A) (first old new : List A) (count : ℕ) → old ≡ first ++ flat_map f (range_with_len 0 count) → new ≡ old ++ f count
    → new ≡ first ++ flat_map f (range_with_len 0 (count + 1))
one_more f first old new count before now =
    now ∙ ap (λ xs. xs ++ f count) before ∙ append_assoc first (flat_map f (range_with_len 0 count)) (f count)
    ∙ ap (λ xs. first ++ (flat_map f (range_with_len 0 count) ++ xs)) (sym (append-nil (f count)))
    ∙ ap (λ xs. first ++ xs) (sym (flat_map-append f (range_with_len 0 count) (count ∷ [])) ∙ ap (flat_map f) (sym (range_more count)))
