-- The walk over the locked pages at the end.
use Rattle.std.proofs.Common.{◌≡◌, ◌≢◌, ◌<◌, ◌≤◌, ◌+◌, ◌-◌, ◌==◌, nat_lt, ℕ, zero, suc, Bool, true, false, true≢false, not, ◌&&◌, ◌||◌, if◌then◌else◌, List, [], ◌∷◌, ◌++◌, length, map, replicate, slice_set, slice_index_or, Option, Some, None, IfSome, refl, sym, ◌∙◌, ap, subst, arith, append_assoc}
use Rattle.std.specs.Option.{is_some}
use Rattle.std.proofs.Math.ListN.{get_or, length-set}
use Rattle.std.proofs.lemmas.Bool.Decides.{nat_tests}
use Rattle.std.proofs.lemmas.List.{append-nil, ext_get_or, get_or-replicate, get_or-set_other, get_or-set_same, get_or_past, length-append, length-map, length-replicate, map-append}
use Rattle.cb_page.specs.Bounds.{Bounds}
use Rattle.cb_page.specs.Flags.{has}
use Rattle.cb_frame.specs.declared.frame.Frame.{Frame}
use Rattle.cb_outbox.specs.Messages.{message_of, messages_of}
use Rattle.cb_protocol.proofs.Cases.{client_after_append, said_append}
use Rattle.cb_protocol.specs.Basics.{is_none, update}
use Rattle.cb_protocol.specs.Cache.{Abandon, LetGo, TakeDone, YieldPermission}
use Rattle.cb_protocol.specs.Client.{ChangeCache, Client, ClientStep, DueDowngrade, EndTransaction, LastOutcome, Say, bodies_said, client_after, new_client}
use Rattle.cb_protocol.specs.ClientEnd.{end_page, end_pages, give_down}
use Rattle.cb_protocol.specs.Messages.{Body, Downgraded, GiveBack, Message}
use Rattle.cb_cache.specs.ByTable.{Does, DoesReferring}
use Rattle.cb_cache.specs.CacheState.{CacheState, client_with, content_at, copy_at}
use Rattle.cb_locks.specs.Dues.{called_by, is_due, nothing_due}
use Rattle.cb_locks.specs.Locks.{LocksState, due_at, ended, unlocked}
use Rattle.cb_locks.specs.declared.dues.DueDowngrade as locks
use Rattle.cb_locks.specs.declared.dues.PageDue.{PageDue}
use Rattle.cb_cache.specs.Owing.{OwesLocked, downgrade_of, holder, locks_with}
use Rattle.cb_cache.specs.Ending.{Ends, all_sent_by, page_steps, pages_steps}
use Rattle.cb_locks.proofs.Counted.{not_due}
use Rattle.cb_cache.proofs.PageSteps.{silent}

-- one list of steps after another
pub does_then : (a b c : CacheState) (xs ys : List ClientStep) → Does a xs b → Does b ys c → Does a (xs ++ ys) c
does_then a b c xs ys first next = record {
  becomes = λ client.
      client_after_append a.limits.keep_write (client_with a client) xs ys
      ∙ ap (λ (k : Client). client_after a.limits.keep_write k ys) (first.becomes client)
      ∙ subst (λ (l : Bounds). client_after l.keep_write (client_with b (client_after a.limits.keep_write client xs)) ys ≡ client_with c (client_after l.keep_write (client_after a.limits.keep_write client xs) ys)) first.limits (next.becomes (client_after a.limits.keep_write client xs))
      ∙ ap (client_with c) (sym (client_after_append a.limits.keep_write client xs ys));
  limits = next.limits ∙ first.limits;
  references = next.references ∙ first.references;
}

-- the same, where the first steps refer to a page
pub refers_then : (a b c : CacheState) (page : ℕ) (xs ys : List ClientStep) → DoesReferring a page xs b → Does b ys c → DoesReferring a page (xs ++ ys) c
refers_then a b c page xs ys first next = record {
  becomes = λ client.
      client_after_append a.limits.keep_write (client_with a client) xs ys
      ∙ ap (λ (k : Client). client_after a.limits.keep_write k ys) (first.becomes client)
      ∙ subst (λ (l : Bounds). client_after l.keep_write (client_with b (client_after a.limits.keep_write client xs)) ys ≡ client_with c (client_after l.keep_write (client_after a.limits.keep_write client xs) ys)) first.limits (next.becomes (client_after a.limits.keep_write client xs))
      ∙ ap (client_with c) (sym (client_after_append a.limits.keep_write client xs ys));
  limits = next.limits ∙ first.limits;
  references = next.references ∙ first.references;
}

-- the steps of a page by what the table sees of it
by_sight : (k l : Client) (d : Bool) (p : ℕ) (r : Option ℕ) → (d && k.cache.wrote p) ≡ (d && l.cache.wrote p) → k.due p ≡ l.due p → k.cache.content p ≡ l.cache.content p → k.due_downgrade p ≡ l.due_downgrade p
    → end_page k d p r ≡ end_page l d p r
by_sight k l d p None w u c y = refl
by_sight k l d p (Some g) w u c y = rw (w, u, c, y) refl

pub pages_by_sight : (k l : Client) (d : Bool) (n : ℕ) → ((p : ℕ) → k.cache.held p ≡ l.cache.held p) → ((p : ℕ) → (d && k.cache.wrote p) ≡ (d && l.cache.wrote p)) → ((p : ℕ) → k.due p ≡ l.due p) → ((p : ℕ) → k.cache.content p ≡ l.cache.content p)
    → ((p : ℕ) → k.due_downgrade p ≡ l.due_downgrade p) → end_pages k d n ≡ end_pages l d n
pages_by_sight k l d zero h w u c y = refl
pages_by_sight k l d (suc n) h w u c y =
    let last : end_page k d n (k.cache.held n) ≡ end_page l d n (l.cache.held n) = rw (h n) (by_sight k l d n (l.cache.held n) (w n) (u n) (c n) (y n)) in
    λ i. pages_by_sight k l d n h w u c y i ++ last i

-- what the steps of a page leave of the others
record Elsewhere (k l : Client) (p : ℕ) : Type 0 where
  held : (q : ℕ) → q ≢ p → l.cache.held q ≡ k.cache.held q
  content : (q : ℕ) → q ≢ p → l.cache.content q ≡ k.cache.content q
  wrote : (q : ℕ) → l.cache.wrote q ≡ k.cache.wrote q

elsewhere : (keep_write : Bool) (k l : Client) (d : Bool) (p : ℕ) (r : Option ℕ) → Elsewhere l (client_after keep_write l (end_page k d p r)) p
elsewhere keep_write k l d p None = record { held = λ q n. refl; content = λ q n. refl; wrote = λ q. refl }
elsewhere keep_write k l d p (Some g) = go (d && k.cache.wrote p) (k.due p || is_none (k.cache.content p)) d (k.due_downgrade p)
  where
    go : (u v x : Bool) (y : Option DueDowngrade) → Elsewhere l (client_after keep_write l (if u then Say (GiveBack p g) ∷ [] else if v then ChangeCache (LetGo p) ∷ Say (GiveBack p g) ∷ [] else if x then [] else give_down p y)) p
    go true v x y = record { held = λ q n. refl; content = λ q n. refl; wrote = λ q. refl }
    go false true x y = record { held = λ q n. grind (arith, nat_tests); content = λ q n. grind (arith, nat_tests); wrote = λ q. refl }
    go false false true y = record { held = λ q n. refl; content = λ q n. refl; wrote = λ q. refl }
    go false false false None = record { held = λ q n. refl; content = λ q n. refl; wrote = λ q. refl }
    go false false false (Some y) = record { held = λ q n. refl; content = λ q n. refl; wrote = λ q. refl }

record Stays (v w : CacheState) (p : ℕ) : Type 0 where
  held : (q : ℕ) → q ≢ p → (copy_at w q).held ≡ (copy_at v q).held
  content : (q : ℕ) → q ≢ p → content_at w q ≡ content_at v q
  wrote : (q : ℕ) → has w.wrote q ≡ has v.wrote q

stays : (v w : CacheState) (l : LocksState) (d : Bool) (p : ℕ) → Does v (page_steps v l d p) w → Stays v w p
stays v w l d p does =
    let e = elsewhere v.limits.keep_write (holder v l) (client_with v new_client) d p (copy_at v p).held in
    record {
      held = λ q n. sym (ap (λ (k : Client). k.cache.held q) (does.becomes new_client)) ∙ e.held q n;
      content = λ q n. sym (ap (λ (k : Client). k.cache.content q) (does.becomes new_client)) ∙ e.content q n;
      wrote = λ q. sym (ap (λ (k : Client). k.cache.wrote q) (does.becomes new_client)) ∙ e.wrote q;
    }

-- a page that isn't locked says and does nothing
pub unlocked_silent : (v : CacheState) (l : LocksState) (d : Bool) (p : ℕ) → OwesLocked v l → has l.locked p ≡ false → page_steps v l d p ≡ []
unlocked_silent v l d p owes e = silent (holder v l) d p (copy_at v p).held (written d (has v.wrote p) refl) (copy (due_at l p) (owes.due_locked p)) (λ z. down (due_at l p) (owes.due_locked p)) (λ h. here (content_at v p) refl h)
  where
    never : has l.locked p ≡ true → ⊥
    never t = true≢false (sym t ∙ e)

    written : (x b : Bool) → has v.wrote p ≡ b → (x && b) ≡ false
    written false b w = refl
    written true false w = refl
    written true true w = absurd (never (owes.wrote_locked p w))

    copy : (y : PageDue) → (is_due y ≡ true → has l.locked p ≡ true) → is_some y.callback ≡ false
    copy y n = by (is_some y.callback) refl
      where
        by : (b : Bool) → is_some y.callback ≡ b → b ≡ false
        by false t = refl
        by true t = absurd (never (n (rw t refl)))

    down : (y : PageDue) → (is_due y ≡ true → has l.locked p ≡ true) → downgrade_of y.downgrade ≡ None
    down y n = by y.downgrade refl
      where
        or_true : (b : Bool) → (b || true) ≡ true
        or_true true = refl
        or_true false = refl

        by : (x : Option locks.DueDowngrade) → y.downgrade ≡ x → downgrade_of x ≡ None
        by None t = refl
        by (Some x) t = absurd (never (n (rw t (or_true (is_some y.callback)))))

    here : (o : Option (List ℕ)) → content_at v p ≡ o → is_some (copy_at v p).held ≡ true → is_none o ≡ false
    here None t h = absurd (never (owes.bare_locked p h t))
    here (Some bytes) t h = refl

-- so pages that aren't locked add nothing
pub pages_skip : (extra : ℕ) (v : CacheState) (l : LocksState) (d : Bool) (from : ℕ) → OwesLocked v l → ((k : ℕ) → from ≤ k → k < from + extra → has l.locked k ≡ false)
    → pages_steps v l d (from + extra) ≡ pages_steps v l d from
pages_skip zero v l d from owes none = let e : from + zero ≡ from = omega arith in ap (pages_steps v l d) e
pages_skip (suc extra) v l d from owes none =
    let e : from + suc extra ≡ suc (from + extra) = omega arith in
    let last : page_steps v l d (from + extra) ≡ [] = unlocked_silent v l d (from + extra) owes (none (from + extra) (omega arith) (omega arith)) in
    ap (pages_steps v l d) e ∙ ap (λ (s : List ClientStep). pages_steps v l d (from + extra) ++ s) last ∙ append-nil (pages_steps v l d (from + extra)) ∙ pages_skip extra v l d from owes (λ k le lt. none k le (omega (arith, lt)))

pub pages_to : (v : CacheState) (l : LocksState) (d : Bool) (from to : ℕ) → OwesLocked v l → from ≤ to → ((k : ℕ) → from ≤ k → k < to → has l.locked k ≡ false) → pages_steps v l d to ≡ pages_steps v l d from
pages_to v l d from to owes le none =
    let gap : to ≡ from + (to - from) = omega arith in
    ap (pages_steps v l d) gap ∙ pages_skip (to - from) v l d from owes (λ k a lt. none k a (omega (arith, lt, gap)))

pub pages_next : (v : CacheState) (l : LocksState) (d : Bool) (from page : ℕ) → OwesLocked v l → from ≤ page → ((k : ℕ) → from ≤ k → k < page → has l.locked k ≡ false)
    → pages_steps v l d (page + 1) ≡ pages_steps v l d from ++ page_steps v l d page
pages_next v l d from page owes le none =
    let e : page + 1 ≡ suc page = omega arith in
    ap (pages_steps v l d) e ∙ ap (λ (s : List ClientStep). s ++ page_steps v l d page) (pages_to v l d from page owes le none)

-- more pages say no less
said_more : (v : CacheState) (l : LocksState) (d : Bool) (n extra : ℕ) → length (bodies_said (pages_steps v l d n)) ≤ length (bodies_said (pages_steps v l d (n + extra)))
said_more v l d n zero = let e : n + zero ≡ n = omega arith in let s : length (bodies_said (pages_steps v l d (n + zero))) ≡ length (bodies_said (pages_steps v l d n)) = ap (λ m. length (bodies_said (pages_steps v l d m))) e in omega arith
said_more v l d n (suc extra) =
    let e : n + suc extra ≡ suc (n + extra) = omega arith in
    let s : length (bodies_said (pages_steps v l d (n + suc extra))) ≡ length (bodies_said (pages_steps v l d (n + extra)) ++ bodies_said (page_steps v l d (n + extra))) =
    ap (λ m. length (bodies_said (pages_steps v l d m))) e ∙ ap length (said_append (pages_steps v l d (n + extra)) (page_steps v l d (n + extra))) in
    let t = length-append (bodies_said (pages_steps v l d (n + extra))) (bodies_said (page_steps v l d (n + extra))) in
    let h = said_more v l d n extra in omega arith

pub said_within : (v : CacheState) (l : LocksState) (d : Bool) (n end : ℕ) → n ≤ end → length (bodies_said (pages_steps v l d n)) ≤ length (bodies_said (pages_steps v l d end))
said_within v l d n end le = let gap : n + (end - n) ≡ end = omega arith in subst (λ m. length (bodies_said (pages_steps v l d n)) ≤ length (bodies_said (pages_steps v l d m))) gap (said_more v l d n (end - n))

-- a locked page is one of the store's
pub locked_within : (flags : List Bool) (p : ℕ) → has flags p ≡ true → p < length flags
locked_within flags p e = by (nat_lt p (length flags)) refl
  where
    by : (b : Bool) → nat_lt p (length flags) ≡ b → p < length flags
    by true t = grind (arith, nat_tests)
    by false t = let le : length flags ≤ p = grind (arith, nat_tests) in absurd (true≢false (sym e ∙ get_or_past flags p false le))

-- an entry that is reset to what stands past the end
reset : {A : Type 0} (xs : List A) (p q : ℕ) (a : A) → q ≡ p → slice_index_or (slice_set xs p a) q a ≡ a
reset xs p q a e = by (nat_lt p (length xs)) refl
  where
    by : (b : Bool) → nat_lt p (length xs) ≡ b → slice_index_or (slice_set xs p a) q a ≡ a
    by true t = rw e (get_or-set_same xs p a a (grind (arith, nat_tests)))
    by false t = rw e (get_or_past (slice_set xs p a) p a (let l = length-set xs p a in let le : length xs ≤ p = grind (arith, nat_tests) in omega arith))

-- nothing is due
nothing_of : (y : PageDue) → (is_due y ≡ true → ⊥) → y ≡ nothing_due
nothing_of y n = not_due y (by (is_due y) refl)
  where
    by : (b : Bool) → is_due y ≡ b → b ≡ false
    by false e = refl
    by true e = absurd (n e)

-- Where the walk stands: the pages before `from` are done.
pub record Walks (v : CacheState) (l : LocksState) (d : Bool) (before : List Message) (from : ℕ) (w : CacheState) (m : LocksState) (frames : List Frame) : Type 0 where
  pub does : Does v (pages_steps v l d from) w
  pub says : messages_of frames ≡ before ++ all_sent_by l (bodies_said (pages_steps v l d from))
  pub client : m.client ≡ l.client
  pub incarnation : m.incarnation ≡ l.incarnation
  pub txn : m.txn ≡ l.txn
  pub locked_length : length m.locked ≡ length l.locked
  pub dues_length : length m.dues ≡ length l.dues
  pub below_locked : (p : ℕ) → p < from → has m.locked p ≡ false
  pub below_due : (p : ℕ) → p < from → due_at m p ≡ nothing_due
  pub above_locked : (p : ℕ) → from ≤ p → has m.locked p ≡ has l.locked p
  pub above_due : (p : ℕ) → from ≤ p → due_at m p ≡ due_at l p
  pub above_held : (p : ℕ) → from ≤ p → (copy_at w p).held ≡ (copy_at v p).held
  pub above_content : (p : ℕ) → from ≤ p → content_at w p ≡ content_at v p
  pub wrote : (p : ℕ) → has w.wrote p ≡ has v.wrote p
  pub within : from ≤ v.limits.pages

pub walk_begins : (v : CacheState) (l : LocksState) (d : Bool) (frames : List Frame) → Walks v l d (messages_of frames) 0 v l frames
walk_begins v l d frames = record {
  does = record { becomes = λ client. refl; limits = refl; references = refl };
  says = sym (append-nil (messages_of frames));
  client = refl;
  incarnation = refl;
  txn = refl;
  locked_length = refl;
  dues_length = refl;
  below_locked = λ p lt. absurd (omega arith);
  below_due = λ p lt. absurd (omega arith);
  above_locked = λ p le. refl;
  above_due = λ p le. refl;
  above_held = λ p le. refl;
  above_content = λ p le. refl;
  wrote = λ p. refl;
  within = omega arith;
}

module _ (v : CacheState) (l : LocksState) (d : Bool) (before : List Message) (from : ℕ) (w : CacheState) (m : LocksState) (frames : List Frame) (owes : OwesLocked v l) (walk : Walks v l d before from w m frames) where
  -- the next page's steps are the table's
  pub same_steps : (page : ℕ) → from ≤ page → page_steps w m d page ≡ page_steps v l d page
  same_steps page le =
      ap (λ (r : Option ℕ). end_page (holder w m) d page r) (walk.above_held page le)
      ∙ by_sight (holder w m) (holder v l) d page (copy_at v page).held (ap (λ b. d && b) (walk.wrote page)) (ap (λ (x : PageDue). is_some x.callback) (walk.above_due page le)) (walk.above_content page le) (ap (λ (x : PageDue). downgrade_of x.downgrade) (walk.above_due page le))

  skipped : (page : ℕ) → ((k : ℕ) → from ≤ k → k < page → has m.locked k ≡ false) → (k : ℕ) → from ≤ k → k < page → has l.locked k ≡ false
  skipped page none k le lt = sym (walk.above_locked k le) ∙ none k le lt

  pub found_within : (page : ℕ) → has m.locked page ≡ true → page < v.limits.pages
  found_within page e = let lt = locked_within m.locked page e in let a = walk.locked_length in let b = owes.sized in omega arith

  pub held_due : (page : ℕ) → from ≤ page → IfSome (called_by (due_at m page)) (λ called. (copy_at w page).held ≡ Some called.0)
  held_due page le = rw (walk.above_due page le, walk.above_held page le) (owes.due_held page)

  pub room_for : (page capacity : ℕ) → from ≤ page → has m.locked page ≡ true → ((k : ℕ) → from ≤ k → k < page → has m.locked k ≡ false)
      → length before + length (bodies_said (pages_steps v l d v.limits.pages)) ≤ capacity → length frames + length (bodies_said (page_steps w m d page)) ≤ capacity
  room_for page capacity le found none room =
      let a : length frames ≡ length before + length (bodies_said (pages_steps v l d from)) = sym (length-map frames message_of) ∙ ap length walk.says ∙ length-append before (all_sent_by l (bodies_said (pages_steps v l d from)))
      ∙ ap (λ n. length before + n) (length-map (bodies_said (pages_steps v l d from)) _) in
      let b : length (bodies_said (page_steps w m d page)) ≡ length (bodies_said (page_steps v l d page)) = ap (λ (s : List ClientStep). length (bodies_said s)) (same_steps page le) in
      let c : length (bodies_said (pages_steps v l d (page + 1))) ≡ length (bodies_said (pages_steps v l d from)) + length (bodies_said (page_steps v l d page)) =
      ap (λ (s : List ClientStep). length (bodies_said s)) (pages_next v l d from page owes le (skipped page none)) ∙ ap length (said_append (pages_steps v l d from) (page_steps v l d page)) ∙ length-append (bodies_said (pages_steps v l d from)) (bodies_said (page_steps v l d page)) in
      let lt = found_within page found in
      let e = said_within v l d (page + 1) v.limits.pages (omega (arith, lt)) in omega arith

  pub walk_goes_on : (page : ℕ) (w' : CacheState) (m' : LocksState) (frames' : List Frame) → from ≤ page → has m.locked page ≡ true → ((k : ℕ) → from ≤ k → k < page → has m.locked k ≡ false)
      → Does w (page_steps w m d page) w' → messages_of frames' ≡ messages_of frames ++ all_sent_by m (bodies_said (page_steps w m d page)) → m' ≡ unlocked m page
      → Walks v l d before (page + 1) w' m' frames'
  walk_goes_on page w' m' frames' le found none does says e = rw e (record {
    does = subst (λ (s : List ClientStep). Does v s w') (sym next) (does_then v w w' (pages_steps v l d from) (page_steps v l d page) walk.does (subst (λ (s : List ClientStep). Does w s w') (same_steps page le) does));
    says = says ∙ ap (λ (s : List Message). s ++ all_sent_by m (bodies_said (page_steps w m d page))) walk.says ∙ append_assoc before (all_sent_by l (bodies_said (pages_steps v l d from))) _ ∙ ap (λ (s : List Message). before ++ s) joined;
    client = walk.client;
    incarnation = walk.incarnation;
    txn = walk.txn;
    locked_length = length-set m.locked page false ∙ walk.locked_length;
    dues_length = length-set m.dues page nothing_due ∙ walk.dues_length;
    below_locked = λ p lt. below m.locked false walk.below_locked p lt;
    below_due = λ p lt. below_dues p lt;
    above_locked = λ p a. get_or-set_other m.locked page p false false (λ z. absurd (omega (arith, z, a))) ∙ walk.above_locked p (omega (arith, a));
    above_due = λ p a. get_or-set_other m.dues page p nothing_due nothing_due (λ z. absurd (omega (arith, z, a))) ∙ walk.above_due p (omega (arith, a));
    above_held = λ p a. s.held p (λ z. absurd (omega (arith, z, a))) ∙ walk.above_held p (omega (arith, a));
    above_content = λ p a. s.content p (λ z. absurd (omega (arith, z, a))) ∙ walk.above_content p (omega (arith, a));
    wrote = λ p. s.wrote p ∙ walk.wrote p;
    within = let lt = found_within page found in omega arith;
  })
    where
      s : Stays w w' page
      s = stays w w' m d page does

      next : pages_steps v l d (page + 1) ≡ pages_steps v l d from ++ page_steps v l d page
      next = pages_next v l d from page owes le (skipped page none)

      same_sender : (bodies : List Body) → all_sent_by m bodies ≡ all_sent_by l bodies
      same_sender bodies = λ i. map (λ (b : Body). record { client = walk.client i; incarnation = walk.incarnation i; body = b }) bodies

      joined : all_sent_by l (bodies_said (pages_steps v l d from)) ++ all_sent_by m (bodies_said (page_steps w m d page)) ≡ all_sent_by l (bodies_said (pages_steps v l d (page + 1)))
      joined =
          ap (λ (x : List Message). all_sent_by l (bodies_said (pages_steps v l d from)) ++ x) (same_sender (bodies_said (page_steps w m d page)) ∙ ap (λ (x : List ClientStep). all_sent_by l (bodies_said x)) (same_steps page le))
          ∙ sym (map-append _ (bodies_said (pages_steps v l d from)) (bodies_said (page_steps v l d page)))
          ∙ ap (all_sent_by l) (sym (said_append (pages_steps v l d from) (page_steps v l d page)))
          ∙ ap (λ (x : List ClientStep). all_sent_by l (bodies_said x)) (sym next)

      below : (flags : List Bool) (b : Bool) → ((p : ℕ) → p < from → has m.locked p ≡ false) → (p : ℕ) → p < page + 1 → has (slice_set m.locked page false) p ≡ false
      below flags b h p lt = by (p == page) refl (nat_lt p from) refl
        where
          by : (c : Bool) → (p == page) ≡ c → (x : Bool) → nat_lt p from ≡ x → has (slice_set m.locked page false) p ≡ false
          by true t x u = reset m.locked page p false (grind (arith, nat_tests))
          by false t true u = let other : p ≢ page = grind (arith, nat_tests) in get_or-set_other m.locked page p false false other ∙ h p (grind (arith, nat_tests))
          by false t false u = let other : p ≢ page = grind (arith, nat_tests) in let a : from ≤ p = grind (arith, nat_tests) in get_or-set_other m.locked page p false false other ∙ none p a (omega (arith, other, lt))

      below_dues : (p : ℕ) → p < page + 1 → due_at (unlocked m page) p ≡ nothing_due
      below_dues p lt = by (p == page) refl (nat_lt p from) refl
        where
          by : (c : Bool) → (p == page) ≡ c → (x : Bool) → nat_lt p from ≡ x → due_at (unlocked m page) p ≡ nothing_due
          by true t x u = reset m.dues page p nothing_due (grind (arith, nat_tests))
          by false t true u = let other : p ≢ page = grind (arith, nat_tests) in get_or-set_other m.dues page p nothing_due nothing_due other ∙ walk.below_due p (grind (arith, nat_tests))
          by false t false u =
              let other : p ≢ page = grind (arith, nat_tests) in let a : from ≤ p = grind (arith, nat_tests) in
              get_or-set_other m.dues page p nothing_due nothing_due other ∙ walk.above_due p a ∙ nothing_of (due_at l p) (λ i. true≢false (sym (owes.due_locked p i) ∙ sym (walk.above_locked p a) ∙ none p a (omega (arith, other, lt))))

  pub walk_ends : ((k : ℕ) → from ≤ k → has m.locked k ≡ false) → (Does v (pages_steps v l d v.limits.pages) w) × (messages_of frames ≡ before ++ all_sent_by l (bodies_said (pages_steps v l d v.limits.pages))) × (m ≡ ended l)
  walk_ends none =
      let all : pages_steps v l d from ≡ pages_steps v l d v.limits.pages = sym (pages_to v l d from v.limits.pages owes walk.within (λ k le lt. sym (walk.above_locked k le) ∙ none k le)) in
      (subst (λ (s : List ClientStep). Does v s w) all walk.does, walk.says ∙ ap (λ (s : List ClientStep). before ++ all_sent_by l (bodies_said s)) all, gone)
    where
      free : (p : ℕ) → has m.locked p ≡ false
      free p = by (nat_lt p from) refl
        where
          by : (b : Bool) → nat_lt p from ≡ b → has m.locked p ≡ false
          by true e = walk.below_locked p (grind (arith, nat_tests))
          by false e = none p (grind (arith, nat_tests))

      no_due : (p : ℕ) → due_at m p ≡ nothing_due
      no_due p = by (nat_lt p from) refl
        where
          by : (b : Bool) → nat_lt p from ≡ b → due_at m p ≡ nothing_due
          by true e = walk.below_due p (grind (arith, nat_tests))
          by false e = let a : from ≤ p = grind (arith, nat_tests) in walk.above_due p a ∙ nothing_of (due_at l p) (λ i. true≢false (sym (owes.due_locked p i) ∙ sym (walk.above_locked p a) ∙ none p a))

      all_free : m.locked ≡ replicate (length l.locked) false
      all_free = ext_get_or false m.locked (replicate (length l.locked) false) (walk.locked_length ∙ sym (length-replicate (length l.locked) false)) (λ i lt. free i ∙ sym (get_or-replicate (length l.locked) i false false (let e = walk.locked_length in omega arith)))

      all_paid : m.dues ≡ replicate (length l.dues) nothing_due
      all_paid = ext_get_or nothing_due m.dues (replicate (length l.dues) nothing_due) (walk.dues_length ∙ sym (length-replicate (length l.dues) nothing_due)) (λ i lt. no_due i ∙ sym (get_or-replicate (length l.dues) i nothing_due nothing_due (let e = walk.dues_length in omega arith)))

      gone : m ≡ ended l
      gone = λ i. record { client = walk.client i; incarnation = walk.incarnation i; txn = walk.txn i; locked = all_free i; dues = all_paid i }

-- the count of what may be said goes on by a page
pub count_goes_on : (v : CacheState) (l : LocksState) (d : Bool) (from page count more : ℕ) → OwesLocked v l → from ≤ page → ((k : ℕ) → from ≤ k → k < page → has l.locked k ≡ false)
    → length (bodies_said (pages_steps v l d from)) ≤ count → length (bodies_said (page_steps v l d page)) ≤ more → length (bodies_said (pages_steps v l d (page + 1))) ≤ count + more
count_goes_on v l d from page count more owes le none below here =
    let c : length (bodies_said (pages_steps v l d (page + 1))) ≡ length (bodies_said (pages_steps v l d from)) + length (bodies_said (page_steps v l d page)) =
    ap (λ (s : List ClientStep). length (bodies_said s)) (pages_next v l d from page owes le none) ∙ ap length (said_append (pages_steps v l d from) (page_steps v l d page)) ∙ length-append (bodies_said (pages_steps v l d from)) (bodies_said (page_steps v l d page)) in
    omega arith

pub count_ends : (v : CacheState) (l : LocksState) (d : Bool) (from count : ℕ) → OwesLocked v l → from ≤ v.limits.pages → ((k : ℕ) → from ≤ k → has l.locked k ≡ false)
    → length (bodies_said (pages_steps v l d from)) ≤ count → length (bodies_said (pages_steps v l d v.limits.pages)) ≤ count
count_ends v l d from count owes within none below = subst (λ (s : List ClientStep). length (bodies_said s) ≤ count) (sym (pages_to v l d from v.limits.pages owes within (λ k le lt. none k le))) below

pub locked_page : (v : CacheState) (l : LocksState) (page : ℕ) → OwesLocked v l → has l.locked page ≡ true → page < v.limits.pages
locked_page v l page owes e = let lt = locked_within l.locked page e in let b = owes.sized in omega arith
