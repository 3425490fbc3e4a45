-- The frames that a client ignores.
use Rattle.cb_frame.specs.declared.frame.ShortBody.{ShortBody}
use Rattle.cb_frame.specs.declared.frame.ShortBody.TheVariants as short
use Rattle.cb_outbox.specs.Messages.{short_of}
use Rattle.std.proofs.Common.{ℕ, ◌≡◌, ◌≢◌, Bool, true, false, List, [], None, refl, sym, ap, ◌∙◌}
use Rattle.cb_protocol.proofs.Cases.{takes_nothing_unwelcomed, takes_welcomed}
use Rattle.cb_protocol.specs.Client.{ClientStep, bodies_said, client_after}
use Rattle.cb_protocol.specs.ClientMessages.{ChoiceAllowed, brings_page, client_take, take_welcomed}
use Rattle.cb_protocol.specs.Messages.{AbortNow, Body, Callback, Commit, Done, Downgrade, Granted, MayWrite, PageWrite, Welcome, to_server}
use Rattle.cb_protocol.specs.Serial.{Operation}
use Rattle.cb_client_core.specs.ClientState.{ClientState, client_of}
use Rattle.cb_client_core.specs.ByTable.{Takes, as_before, limits_at, messages_from, references_of, with_brought}

-- nothing is done at a message
pub nothing : (v : ClientState) (b : Body) → references_of v ≡ with_brought v b (references_of v) → ((ops : List Operation) → client_take (limits_at v) (client_of v ops) b None ≡ []) → Takes v b [] v
nothing v b refers_none table = record {
  let_go = None;
  allowed = λ ops. allowed b ops (table ops);
  history = as_before;
  makes = record {
    said = λ ops. ap (λ (s : List ClientStep). messages_from v (bodies_said s)) (table ops);
    after = λ ops. ap (λ (s : List ClientStep). client_after v.copies.limits.keep_write (client_of v ops) s) (table ops);
    limits = refl;
    no = refl;
    incarnation = refl;
  };
  references = refers_none;
}
  where
    allowed : (m : Body) (ops : List Operation) → client_take (limits_at v) (client_of v ops) m None ≡ [] → ChoiceAllowed (limits_at v) (client_of v ops) m None
    allowed (Granted p g x bytes) ops e = λ f. absurd (let z : false ≡ true = ap brings_page (sym e) ∙ f in cc)
    allowed _ ops e = tt

-- of one that isn't welcomed; one that is for the server
pub unwelcomed : (v : ClientState) (b : Body) → v.welcomed ≡ false → b ≢ Welcome → Takes v b [] v
unwelcomed v b e n = nothing v b (brings_none b) (λ ops. takes_nothing_unwelcomed (limits_at v) (client_of v ops) b None e n)
  where
    brings_none : (m : Body) → references_of v ≡ with_brought v m (references_of v)
    brings_none (Granted p g x bytes) = rw e refl
    brings_none _ = refl

pub for_the_server : (v : ClientState) (b : Body) → v.welcomed ≡ true → to_server b ≡ true → Takes v b [] v
for_the_server v b e s = nothing v b (brings_none b s) (λ ops. takes_welcomed (limits_at v) (client_of v ops) b None e (λ z. absurd (let w : to_server b ≡ false = ap to_server z in cc)) ∙ table b ops s)
  where
    table : (m : Body) (ops : List Operation) → to_server m ≡ true → take_welcomed (limits_at v) (client_of v ops) m None ≡ []
    table (Granted p g x bytes) ops t = absurd cc
    table (MayWrite t p g) ops s = absurd cc
    table (Callback p g) ops s = absurd cc
    table (Done t n) ops s = absurd cc
    table (AbortNow t) ops s = absurd cc
    table (Downgrade p g t) ops s = absurd cc
    table _ ops s = refl

    brings_none : (m : Body) → to_server m ≡ true → references_of v ≡ with_brought v m (references_of v)
    brings_none (Granted p g x bytes) t = absurd cc
    brings_none _ t = refl

-- bodies without page bytes, by their kinds
pub unwelcomed_short : (v : ClientState) (s : ShortBody) → v.welcomed ≡ false → (s ≡ short.Welcome → ⊥) → Takes v (short_of s) [] v
unwelcomed_short v short.Hello e n = unwelcomed v _ e (λ z. cc)
unwelcomed_short v (short.AskRead t p) e n = unwelcomed v _ e (λ z. cc)
unwelcomed_short v (short.AskWrite t p g) e n = unwelcomed v _ e (λ z. cc)
unwelcomed_short v (short.GiveBack p g) e n = unwelcomed v _ e (λ z. cc)
unwelcomed_short v (short.InUse t p g) e n = unwelcomed v _ e (λ z. cc)
unwelcomed_short v (short.Drop t) e n = unwelcomed v _ e (λ z. cc)
unwelcomed_short v short.Welcome e n = absurd (n refl)
unwelcomed_short v (short.MayWrite t p g) e n = unwelcomed v _ e (λ z. cc)
unwelcomed_short v (short.Callback p g) e n = unwelcomed v _ e (λ z. cc)
unwelcomed_short v (short.Done t m) e n = unwelcomed v _ e (λ z. cc)
unwelcomed_short v (short.AbortNow t) e n = unwelcomed v _ e (λ z. cc)
unwelcomed_short v (short.Downgraded p g t) e n = unwelcomed v _ e (λ z. cc)
unwelcomed_short v (short.Downgrade p g t) e n = unwelcomed v _ e (λ z. cc)

pub ignored_short : (v : ClientState) (s : ShortBody) → v.welcomed ≡ true → (s ≡ short.Welcome → ⊥) → ((t p g : ℕ) → s ≡ short.MayWrite t p g → ⊥) → ((p g : ℕ) → s ≡ short.Callback p g → ⊥) → ((t m : ℕ) → s ≡ short.Done t m → ⊥) → ((t : ℕ) → s ≡ short.AbortNow t → ⊥)
    → ((p g t : ℕ) → s ≡ short.Downgrade p g t → ⊥) → Takes v (short_of s) [] v
ignored_short v short.Hello e n m c d a w = for_the_server v _ e refl
ignored_short v (short.AskRead t p) e n m c d a w = for_the_server v _ e refl
ignored_short v (short.AskWrite t p g) e n m c d a w = for_the_server v _ e refl
ignored_short v (short.GiveBack p g) e n m c d a w = for_the_server v _ e refl
ignored_short v (short.InUse t p g) e n m c d a w = for_the_server v _ e refl
ignored_short v (short.Drop t) e n m c d a w = for_the_server v _ e refl
ignored_short v short.Welcome e n m c d a w = absurd (n refl)
ignored_short v (short.MayWrite t p g) e n m c d a w = absurd (m t p g refl)
ignored_short v (short.Callback p g) e n m c d a w = absurd (c p g refl)
ignored_short v (short.Done t x) e n m c d a w = absurd (d t x refl)
ignored_short v (short.AbortNow t) e n m c d a w = absurd (a t refl)
ignored_short v (short.Downgraded p g t) e n m c d a w = for_the_server v _ e refl
ignored_short v (short.Downgrade p g t) e n m c d a w = absurd (w p g t refl)

-- a Commit is for the server
pub commit_ignored : (v : ClientState) (txn : ℕ) (writes : List PageWrite) → Takes v (Commit txn writes) [] v
commit_ignored v txn writes = by v.welcomed refl
  where
    by : (b : Bool) → v.welcomed ≡ b → Takes v (Commit txn writes) [] v
    by true e = for_the_server v (Commit txn writes) e refl
    by false e = unwelcomed v (Commit txn writes) e (λ z. cc)
