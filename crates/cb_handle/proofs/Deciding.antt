-- How a call of a client ends, by what the protocol's table says of it.
use Rattle.std.proofs.Common.{◌≡◌, ◌∙◌, inl, inr, ℕ, Bool, true, false, List, [], Option, Some, None, ap, refl, subst, sym}
use Rattle.std.specs.Prelude.{⊤, Err}
use Rattle.std.specs.Option.{option_map}
use Rattle.cb_cache.specs.CacheState.{content_at}
use Rattle.cb_client.specs.ByTable as by
use Rattle.cb_client.specs.ByTable.{Calls, IsRefused, RefusesOrLacks, limits_at}
use Rattle.cb_client.specs.CallAnswers.{Answers}
use Rattle.cb_client.specs.declared.client_fault.ClientFault.{ClientFault}
use Rattle.cb_client.specs.declared.client_fault.ClientFault.TheVariants as client
use Rattle.cb_client_core.specs.ClientState.{ClientState, client_of}
use Rattle.cb_frame.specs.declared.frame.Frame.{Frame}
use Rattle.cb_handle.specs.Causes.{Decides, after_fetch, by_table, committing_may, fault_of, memory}
use Rattle.cb_handle.specs.declared.refusal.HandleRefusal.{HandleRefusal}
use Rattle.cb_handle.specs.declared.refusal.HandleRefusal.TheVariants as refusal
use Rattle.cb_page.specs.Flags.{has}
use Rattle.cb_protocol.proofs.Cases.{call_accepted, call_refused, fault_of_peek}
use Rattle.cb_protocol.specs.Answers as table
use Rattle.cb_protocol.specs.Basics.{Bytes, Limits}
use Rattle.cb_protocol.specs.Client.{Client}
use Rattle.cb_protocol.specs.ClientCalls.{Call, CallDrop, CallFinish, CallPeek, Reply, call_fault, client_call, peek_word}
use Rattle.cb_protocol.specs.Messages.{Message}
use Rattle.cb_protocol.specs.Serial.{Operation}

-- a fault is what the table's reason stands for that it names
named_back : (fault : ClientFault) (reason : table.ClientFault) → by.refusal fault ≡ Some reason → fault_of reason ≡ refusal.Client fault
named_back client.NotWelcome reason e = let is : reason ≡ table.NotWelcome = cc in rw is refl
named_back client.NoTransaction reason e = let is : reason ≡ table.NoTransaction = cc in rw is refl
named_back client.TransactionOpen reason e = let is : reason ≡ table.TransactionOpen = cc in rw is refl
named_back client.Committing reason e = let is : reason ≡ table.Committing = cc in rw is refl
named_back client.Waiting reason e = let is : reason ≡ table.Waiting = cc in rw is refl
named_back client.PageRange reason e = let is : reason ≡ table.PageRange = cc in rw is refl
named_back client.NotRead reason e = let is : reason ≡ table.NotRead = cc in rw is refl
named_back client.NotHere reason e = let is : reason ≡ table.NotHere = cc in rw is refl
named_back client.NotWritable reason e = let is : reason ≡ table.NotWritable = cc in rw is refl
named_back client.WrongLength reason e = let is : reason ≡ table.WrongLength = cc in rw is refl
named_back client.PoolFull reason e = let is : reason ≡ table.PoolFull = cc in rw is refl
named_back client.Exhausted reason e = let is : reason ≡ table.Exhausted = cc in rw is refl
named_back client.Memory reason e = absurd cc

-- a fault of the table is what is in the way
pub refused_so : (now : ClientState) (call : Call) (fault : ClientFault) → IsRefused now call fault → by_table now call ≡ Some (refusal.Client fault)
refused_so now call fault is =
    ap (λ (x : Option table.ClientFault). option_map fault_of x) (is.refuses []) ∙ ap (λ (x : HandleRefusal). Some x) (named_back fault is.reason is.named)

-- a word that refuses nothing
abbrev pub accepts : table.AnswerWord → Bool
accepts (table.Refused reason) = false
accepts word = true

free_so : (L : Limits) (k : Client) (call : Call) (word : table.AnswerWord) (reason : Option table.ClientFault) → call_fault L k call ≡ reason → (client_call L k call).word ≡ word → accepts word ≡ true → reason ≡ None
free_so L k call word None e is free = refl
free_so L k call word (Some reason) e is free = absurd (
    let refused : (client_call L k call).word ≡ table.Refused reason = ap (λ (x : Reply). x.word) (call_refused L k call reason e) in
    let not : accepts word ≡ false = ap (λ (x : table.AnswerWord). accepts x) (sym is ∙ refused) in cc)

-- where it is answered by such a word, nothing is in the way
pub called_free : (now new : ClientState) (call : Call) (word : table.AnswerWord) (messages : List Message) (history : List Operation → List Operation)
    → Calls now call word messages history new → accepts word ≡ true → by_table now call ≡ None
called_free now new call word messages history calls free =
    ap (λ (x : Option table.ClientFault). option_map fault_of x) (free_so (limits_at now) (client_of now []) call word (call_fault (limits_at now) (client_of now []) call) refl (calls.word []) free)

pub called_fetched : (said : List Frame) (now new : ClientState) (call : Call) (word : table.AnswerWord) (messages : List Message) (history : List Operation → List Operation)
    → said ≡ [] → Calls now call word messages history new → accepts word ≡ true → after_fetch said (by_table now call) ≡ None
called_fetched said now new call word messages history none calls free =
    ap (λ (l : List Frame). after_fetch l (by_table now call)) none ∙ called_free now new call word messages history calls free

pub answered_free : (now : ClientState) (call : Call) (word : table.AnswerWord) (messages : List Message) → Answers now call word messages → accepts word ≡ true → by_table now call ≡ None
answered_free now call word messages answers free =
    ap (λ (x : Option table.ClientFault). option_map fault_of x) (free_so (limits_at now) (client_of now []) call word (call_fault (limits_at now) (client_of now []) call) refl (answers.word []) free)

-- the table refuses it, or memory for it is wanted
by_table_or : (old new : ClientState) (call : Call) (fault : ClientFault) (may : ℕ → Type 0) → RefusesOrLacks old call fault new → (fault ≡ client.Memory → may 13)
    → Decides {X = ⊤} (by_table old call) may (Err (refusal.Client fault))
by_table_or old new call client.Memory may is allowed = inr (ap (λ (x : Option table.ClientFault). option_map fault_of x) (is.0 []), allowed refl)
by_table_or old new call client.NotWelcome may is allowed = inl (refused_so old call client.NotWelcome is.0)
by_table_or old new call client.NoTransaction may is allowed = inl (refused_so old call client.NoTransaction is.0)
by_table_or old new call client.TransactionOpen may is allowed = inl (refused_so old call client.TransactionOpen is.0)
by_table_or old new call client.Committing may is allowed = inl (refused_so old call client.Committing is.0)
by_table_or old new call client.Waiting may is allowed = inl (refused_so old call client.Waiting is.0)
by_table_or old new call client.PageRange may is allowed = inl (refused_so old call client.PageRange is.0)
by_table_or old new call client.NotRead may is allowed = inl (refused_so old call client.NotRead is.0)
by_table_or old new call client.NotHere may is allowed = inl (refused_so old call client.NotHere is.0)
by_table_or old new call client.NotWritable may is allowed = inl (refused_so old call client.NotWritable is.0)
by_table_or old new call client.WrongLength may is allowed = inl (refused_so old call client.WrongLength is.0)
by_table_or old new call client.PoolFull may is allowed = inl (refused_so old call client.PoolFull is.0)
by_table_or old new call client.Exhausted may is allowed = inl (refused_so old call client.Exhausted is.0)

-- memory for a commit is wanted only where a page was written
pub finish_refused : (said : List Frame) (old new : ClientState) (fault : ClientFault) → said ≡ [] → RefusesOrLacks old CallFinish fault new
    → (((page : ℕ) → has old.copies.wrote page ≡ false) → fault ≡ client.Memory → ⊥) → Decides {X = ⊤} (after_fetch said (by_table old CallFinish)) (committing_may old) (Err (refusal.Client fault))
finish_refused said old new fault none is needs =
    subst (λ (x : List Frame). Decides {X = ⊤} (after_fetch x (by_table old CallFinish)) (committing_may old) (Err (refusal.Client fault))) (sym none)
    (by_table_or old new CallFinish fault (committing_may old) is (λ lacks. (refl, λ nothing. needs nothing lacks)))

pub drop_refused : (said : List Frame) (old new : ClientState) (fault : ClientFault) → said ≡ [] → RefusesOrLacks old CallDrop fault new
    → Decides {X = ⊤} (after_fetch said (by_table old CallDrop)) memory (Err (refusal.Client fault))
drop_refused said old new fault none is =
    subst (λ (x : List Frame). Decides {X = ⊤} (after_fetch x (by_table old CallDrop)) memory (Err (refusal.Client fault))) (sym none) (by_table_or old new CallDrop fault memory is (λ lacks. refl))

-- the bytes that are peeked at are those of the client's copy
word_bytes : (x y : Option Bytes) → peek_word x ≡ peek_word y → x ≡ y
word_bytes None None e = refl
word_bytes None (Some b) e = absurd cc
word_bytes (Some a) None e = absurd cc
word_bytes (Some a) (Some b) e = cc

pub peeked : (now new : ClientState) (page : ℕ) (found : Option Bytes) (messages : List Message) (history : List Operation → List Operation)
    → Calls now (CallPeek page) (peek_word found) messages history new → content_at now.copies page ≡ found
peeked now new page found messages history calls =
    word_bytes (content_at now.copies page) found (sym (ap (λ (x : Reply). x.word) (call_accepted (limits_at now) (client_of now []) (CallPeek page) (fault_of_peek (limits_at now) (client_of now []) page))) ∙ calls.word [])
