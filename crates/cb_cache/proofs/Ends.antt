-- What the end of a transaction makes of its client.
use Rattle.std.proofs.Common.{◌≡◌, ◌≤◌, ◌+◌, ◌==◌, ℕ, zero, suc, Bool, true, false, ◌&&◌, ◌||◌, if◌then◌else◌, List, [], ◌∷◌, ◌++◌, length, replicate, slice_index_or, Option, Some, None, IfSome, refl, sym, ◌∙◌, ap, subst, arith}
use Rattle.std.specs.Option.{is_some}
use Rattle.cb_page.specs.Bounds.{Bounds}
use Rattle.cb_page.specs.Flags.{has}
use Rattle.cb_frame.specs.declared.frame.Frame.{Frame}
use Rattle.cb_frame.specs.declared.frame.ShortFrame.{ShortFrame}
use Rattle.cb_outbox.specs.Messages.{messages_of, short_of}
use Rattle.cb_protocol.proofs.Cases.{client_after_append}
use Rattle.cb_protocol.specs.Basics.{is_none, update}
use Rattle.cb_protocol.specs.Cache.{Abandon, LetGo, TakeDone, YieldPermission}
use Rattle.cb_protocol.specs.Client.{ChangeCache, Client, ClientStep, DueDowngrade, EndTransaction, LastOutcome, Say, bodies_said, client_after, new_client}
use Rattle.cb_protocol.specs.ClientEnd.{end_page, end_pages, give_down}
use Rattle.cb_protocol.specs.Messages.{Body, Downgraded, GiveBack, Message}
use Rattle.cb_cache.specs.ByTable.{Does}
use Rattle.cb_cache.specs.CacheState.{CacheState, client_with, content_at, copy_at}
use Rattle.cb_locks.specs.Dues.{nothing_due}
use Rattle.cb_locks.specs.Locks.{LocksState, due_at, ended}
use Rattle.cb_cache.specs.Owing.{OwesLocked, downgrade_of, holder, locks_with}
use Rattle.cb_cache.specs.Ending.{Ends, all_sent_by, pages_steps}
use Rattle.cb_cache.proofs.Walk.{does_then, pages_by_sight}

-- a list of one value has it everywhere, also past the end
default_everywhere : {A : Type 0} (n q : ℕ) (a : A) → slice_index_or (replicate n a) q a ≡ a
default_everywhere zero q a = refl
default_everywhere (suc n) zero a = refl
default_everywhere (suc n) (suc q) a = default_everywhere n q a

-- the steps of pages change nothing but copies
page_alone : (keep_write : Bool) (u : CacheState) (k l : Client) (d : Bool) (p : ℕ) (r : Option ℕ) → client_with u (client_after keep_write l (end_page k d p r)) ≡ client_with u l
page_alone keep_write u k l d p None = refl
page_alone keep_write u k l d p (Some g) = go (d && k.cache.wrote p) (k.due p || is_none (k.cache.content p)) d (k.due_downgrade p)
  where
    go : (a b x : Bool) (y : Option DueDowngrade)
        → client_with u (client_after keep_write l (if a then Say (GiveBack p g) ∷ [] else if b then ChangeCache (LetGo p) ∷ Say (GiveBack p g) ∷ [] else if x then [] else give_down p y)) ≡ client_with u l
    go true b x y = refl
    go false true x y = refl
    go false false true y = refl
    go false false false None = refl
    go false false false (Some y) = refl

pages_alone : (keep_write : Bool) (u : CacheState) (k l : Client) (d : Bool) (n : ℕ) → client_with u (client_after keep_write l (end_pages k d n)) ≡ client_with u l
pages_alone keep_write u k l d zero = refl
pages_alone keep_write u k l d (suc n) =
    ap (client_with u) (client_after_append keep_write l (end_pages k d n) (end_page k d n (k.cache.held n)))
    ∙ page_alone keep_write u k (client_after keep_write l (end_pages k d n)) d n (k.cache.held n) ∙ pages_alone keep_write u k l d n

-- a transaction that is dropped may give its pages back before it is over
abbrev dropping : LastOutcome → List ClientStep
dropping outcome = EndTransaction outcome ∷ ChangeCache Abandon ∷ []

gone_first : {A : Type 0} (entries : ℕ → Option A) (wrote : ℕ → Bool) (p q : ℕ)
    → update (λ x. if wrote x then None else entries x) p None q ≡ (if wrote q then None else update entries p None q)
gone_first entries wrote p q = by (q == p) (wrote q)
  where
    by : (b c : Bool) → (if b then None else (if c then None else entries q)) ≡ (if c then None else (if b then None else entries q))
    by true true = refl
    by true false = refl
    by false c = refl

none_either : (p q : ℕ) → update (λ (x : ℕ). false) p false q ≡ false
none_either p q = by (q == p)
  where
    by : (b : Bool) → (if b then false else false) ≡ false
    by true = refl
    by false = refl

page_first : (keep_write : Bool) (outcome : LastOutcome) (k l : Client) (p : ℕ) (r : Option ℕ)
    → client_after keep_write (client_after keep_write l (dropping outcome)) (end_page k true p r) ≡ client_after keep_write (client_after keep_write l (end_page k true p r)) (dropping outcome)
page_first keep_write outcome k l p None = refl
page_first keep_write outcome k l p (Some g) = go (k.cache.wrote p) (k.due p || is_none (k.cache.content p))
  where
    steps : Bool → Bool → List ClientStep
    steps a b = if a then Say (GiveBack p g) ∷ [] else if b then ChangeCache (LetGo p) ∷ Say (GiveBack p g) ∷ [] else []

    go : (a b : Bool)
        → client_after keep_write (client_after keep_write l (dropping outcome)) (if a then Say (GiveBack p g) ∷ [] else if b then ChangeCache (LetGo p) ∷ Say (GiveBack p g) ∷ [] else [])
        ≡ client_after keep_write (client_after keep_write l (if a then Say (GiveBack p g) ∷ [] else if b then ChangeCache (LetGo p) ∷ Say (GiveBack p g) ∷ [] else [])) (dropping outcome)
    go true b = refl
    go false true = λ i. record (client_after keep_write l (dropping outcome)) {
      cache = record (client_after keep_write l (dropping outcome)).cache {
        may_write = λ q. none_either p q i;
        held = λ q. gone_first l.cache.held l.cache.wrote p q i;
        content = λ q. gone_first l.cache.content l.cache.wrote p q i;
      };
    }
    go false false = refl

pages_first : (keep_write : Bool) (outcome : LastOutcome) (k l : Client) (n : ℕ)
    → client_after keep_write (client_after keep_write l (dropping outcome)) (end_pages k true n) ≡ client_after keep_write (client_after keep_write l (end_pages k true n)) (dropping outcome)
pages_first keep_write outcome k l zero = refl
pages_first keep_write outcome k l (suc n) =
    client_after_append keep_write (client_after keep_write l (dropping outcome)) (end_pages k true n) (end_page k true n (k.cache.held n))
    ∙ ap (λ (x : Client). client_after keep_write x (end_page k true n (k.cache.held n))) (pages_first keep_write outcome k l n)
    ∙ page_first keep_write outcome k (client_after keep_write l (end_pages k true n)) n (k.cache.held n)
    ∙ ap (λ (x : Client). client_after keep_write x (dropping outcome)) (sym (client_after_append keep_write l (end_pages k true n) (end_page k true n (k.cache.held n))))

-- a client whose locks are free has nothing locked or due
abbrev FreeOf : LocksState → Type 0
FreeOf m = ((p : ℕ) → has m.locked p ≡ false) × ((p : ℕ) → due_at m p ≡ nothing_due)

free_of : (l : LocksState) → FreeOf (ended l)
free_of l = (λ p. default_everywhere (length l.locked) p false, λ p. default_everywhere (length l.dues) p nothing_due)

freed : (u : CacheState) (m : LocksState) (k : Client) → FreeOf m → ((p : ℕ) → k.cache.locked p ≡ false) → ((p : ℕ) → k.due p ≡ false) → ((p : ℕ) → k.due_downgrade p ≡ None)
    → client_with u k ≡ client_with u (locks_with m k)
freed u m k free locked due down = λ i. record (client_with u k) {
  cache = record (client_with u k).cache { locked = λ p. (locked p ∙ sym (free.0 p)) i };
  due = λ p. (due p ∙ sym (ap is_some (ap callback_of (free.1 p)))) i;
  due_downgrade = λ p. (down p ∙ sym (ap downgrade_of (ap permission_of (free.1 p)))) i;
}
  where
    callback_of : Rattle.cb_locks.specs.declared.dues.PageDue.PageDue → Option ℕ
    callback_of d = d.callback

    permission_of : Rattle.cb_locks.specs.declared.dues.PageDue.PageDue → Option Rattle.cb_locks.specs.declared.dues.DueDowngrade.DueDowngrade
    permission_of d = d.downgrade

-- as committed
pub same_after_done : (v w : CacheState) (l : LocksState) (outcome : LastOutcome) (number : ℕ) → Does v (EndTransaction outcome ∷ ChangeCache (TakeDone number) ∷ []) w
    → pages_steps w l false w.limits.pages ≡ pages_steps v l false v.limits.pages
same_after_done v w l outcome number does =
    ap (λ (b : Bounds). pages_steps w l false b.pages) does.limits
    ∙ pages_by_sight (holder w l) (holder v l) false v.limits.pages (λ p. sym (ap (λ (k : Client). k.cache.held p) (does.becomes new_client))) (λ p. refl) (λ p. refl) (λ p. sym (ap (λ (k : Client). k.cache.content p) (does.becomes new_client))) (λ p. refl)

pub owes_after_done : (v w : CacheState) (l : LocksState) (outcome : LastOutcome) (number : ℕ) → Does v (EndTransaction outcome ∷ ChangeCache (TakeDone number) ∷ []) w → OwesLocked v l → OwesLocked w l
owes_after_done v w l outcome number does owes = record {
  sized = owes.sized ∙ ap (λ (b : Bounds). b.pages) (sym does.limits);
  due_locked = owes.due_locked;
  due_held = λ p. rw (held p) (owes.due_held p);
  bare_locked = λ p e n. owes.bare_locked p (sym (ap is_some (held p)) ∙ e) (ap (λ (k : Client). k.cache.content p) (does.becomes new_client) ∙ n);
  wrote_locked = λ p e. absurd (let z : true ≡ false = sym e ∙ unwritten p in cc);
}
  where
    held : (p : ℕ) → (copy_at w p).held ≡ (copy_at v p).held
    held p = sym (ap (λ (k : Client). k.cache.held p) (does.becomes new_client))

    unwritten : (p : ℕ) → has w.wrote p ≡ false
    unwritten p = sym (ap (λ (k : Client). k.cache.wrote p) (does.becomes new_client))

pub unwritten_after_done : (v w : CacheState) (outcome : LastOutcome) (number : ℕ) → Does v (EndTransaction outcome ∷ ChangeCache (TakeDone number) ∷ []) w → (p : ℕ) → has w.wrote p ≡ false
unwritten_after_done v w outcome number does p = sym (ap (λ (k : Client). k.cache.wrote p) (does.becomes new_client))

pub commits : (v w u : CacheState) (l m : LocksState) (outcome : LastOutcome) (number : ℕ) (before frames : List Frame) → Does v (EndTransaction outcome ∷ ChangeCache (TakeDone number) ∷ []) w
    → Does w (pages_steps w l false w.limits.pages) u → before ≡ [] → messages_of frames ≡ messages_of before ++ all_sent_by l (bodies_said (pages_steps w l false w.limits.pages)) → m ≡ ended l
    → Ends v l (EndTransaction outcome ∷ ChangeCache (TakeDone number) ∷ []) false frames u m
commits v w u l m outcome number before frames done walked empty says gone = rw gone (record {
  becomes = λ client.
      (does_then v w u (EndTransaction outcome ∷ ChangeCache (TakeDone number) ∷ []) (pages_steps v l false v.limits.pages) done (subst (λ (s : List ClientStep). Does w s u) same walked)).becomes (locks_with l client)
      ∙ pages_alone v.limits.keep_write u (holder v l) (client_after v.limits.keep_write (locks_with l client) (EndTransaction outcome ∷ ChangeCache (TakeDone number) ∷ [])) false v.limits.pages
      ∙ freed u (ended l) (client_after v.limits.keep_write client (EndTransaction outcome ∷ ChangeCache (TakeDone number) ∷ [])) (free_of l) (λ p. refl) (λ p. refl) (λ p. refl);
  says = says ∙ ap (λ (x : List Frame). messages_of x ++ all_sent_by l (bodies_said (pages_steps w l false w.limits.pages))) empty ∙ ap (λ (s : List ClientStep). all_sent_by l (bodies_said s)) same;
  unlocked = refl;
  limits = (does_then v w u _ _ done walked).limits;
  references = walked.references ∙ done.references;
})
  where
    same : pages_steps w l false w.limits.pages ≡ pages_steps v l false v.limits.pages
    same = same_after_done v w l outcome number done

-- as dropped
pub drops : (v w u : CacheState) (l m : LocksState) (outcome : LastOutcome) (said : ShortFrame) (before frames : List Frame) → Does v (pages_steps v l true v.limits.pages) w → Does w (dropping outcome) u
    → messages_of before ≡ record { client = said.client; incarnation = said.incarnation; body = short_of said.body } ∷ [] → said.client ≡ l.client → said.incarnation ≡ l.incarnation
    → messages_of frames ≡ messages_of before ++ all_sent_by l (bodies_said (pages_steps v l true v.limits.pages)) → m ≡ ended l
    → Ends v l (EndTransaction outcome ∷ ChangeCache Abandon ∷ Say (short_of said.body) ∷ []) true frames u m
drops v w u l m outcome said before frames walked abandoned first client incarnation says gone = rw gone (record {
  becomes = λ k.
      pages_first v.limits.keep_write outcome (holder v l) (client_with v (locks_with l k)) v.limits.pages
      ∙ sym (client_after_append v.limits.keep_write (client_with v (locks_with l k)) (pages_steps v l true v.limits.pages) (dropping outcome))
      ∙ (does_then v w u (pages_steps v l true v.limits.pages) (dropping outcome) walked abandoned).becomes (locks_with l k)
      ∙ ap (client_with u) (client_after_append v.limits.keep_write (locks_with l k) (pages_steps v l true v.limits.pages) (dropping outcome)
      ∙ sym (pages_first v.limits.keep_write outcome (holder v l) (locks_with l k) v.limits.pages))
      ∙ pages_alone v.limits.keep_write u (holder v l) (client_after v.limits.keep_write (locks_with l k) (dropping outcome)) true v.limits.pages
      ∙ freed u (ended l) (client_after v.limits.keep_write k (dropping outcome)) (free_of l) (λ p. refl) (λ p. refl) (λ p. refl);
  says = says ∙ ap (λ (s : List Message). s ++ all_sent_by l (bodies_said (pages_steps v l true v.limits.pages))) (first ∙ (λ i. record { client = client i; incarnation = incarnation i; body = short_of said.body } ∷ []));
  unlocked = refl;
  limits = (does_then v w u (pages_steps v l true v.limits.pages) (dropping outcome) walked abandoned).limits;
  references = abandoned.references ∙ walked.references;
})
