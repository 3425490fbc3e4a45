-- The histories of several lives, one behind the other, and what of a life's commits survives its end.
use Rattle.std.proofs.Common.{Bool, List, Option, [], ap, arith, false, if◌then◌else◌, inl, inr, map, nat_le, refl, reverse, subst, sym, true, ℕ, ◌++◌, ◌+◌, ◌<◌, ◌∙◌, ◌∷◌, ◌≡◌, ◌≤◌, ◌⊎◌}
use Rattle.std.proofs.lemmas.List.{map-append, reverse-append}
use Rattle.cb_protocol.proofs.HistoryKept.{history_names, history_operations}
use Rattle.cb_protocol.proofs.LifeImage.{in_append}
use Rattle.cb_protocol.proofs.LifeMachine.{EachLeaves}
use Rattle.cb_protocol.proofs.Machine.{CommittedTransaction}
use Rattle.cb_protocol.proofs.SerialHistories.{committed_push}
use Rattle.cb_protocol.proofs.TranscriptKept.{same_ops}
use Rattle.cb_protocol.specs.AnyMessages.{Numbered, bytes_after, committed_names, version_after}
use Rattle.cb_protocol.specs.Basics.{Bytes, IsIn}
use Rattle.cb_protocol.specs.Headline.{SoundOpening}
use Rattle.cb_protocol.specs.LivesWorld.{commits_up_to}
use Rattle.cb_protocol.specs.Messages.{PageWrite, write_of_page}
use Rattle.cb_protocol.specs.Serial.{EachOnce, IsSerial, Operation, PerformedOperation, TransactionName, after_operations, committed_operations, store_left, transaction_operations}
use Rattle.cb_protocol.specs.Server.{AppliedCommit}
use Rattle.cb_protocol.specs.Session.{new_bytes, new_version}
use Rattle.cb_protocol.specs.World.{Opening}

-- the operations of these commits, the oldest first, by the operations of each
abbrev pub operations_by : (ℕ → ℕ → ℕ → List Operation) → List AppliedCommit → List (List Operation)
operations_by f xs = reverse (map (λ n. reverse (f n.client n.incarnation n.txn)) (committed_names xs))

-- only those of the commits count
each_same : (f g : ℕ → ℕ → ℕ → List Operation) (xs : List AppliedCommit) → ((x : AppliedCommit) → IsIn x xs → f x.client x.incarnation x.txn ≡ g x.client x.incarnation x.txn)
    → map (λ (n : TransactionName). reverse (f n.client n.incarnation n.txn)) (committed_names xs) ≡ map (λ (n : TransactionName). reverse (g n.client n.incarnation n.txn)) (committed_names xs)
each_same f g [] h = refl
each_same f g (x ∷ xs) h = let a = h x (inl refl) in let b = each_same f g xs (λ y i. h y (inr i)) in cc

pub same_operations : (f g : ℕ → ℕ → ℕ → List Operation) (xs : List AppliedCommit) → ((x : AppliedCommit) → IsIn x xs → f x.client x.incarnation x.txn ≡ g x.client x.incarnation x.txn) → operations_by f xs ≡ operations_by g xs
same_operations f g xs h = ap reverse (each_same f g xs h)

-- the later commits stand in front, and their operations behind
pub operations_append : (f : ℕ → ℕ → ℕ → List Operation) (xs ys : List AppliedCommit) → operations_by f (xs ++ ys) ≡ operations_by f ys ++ operations_by f xs
operations_append f xs ys = ap (λ (ns : List TransactionName). reverse (map each ns)) (map-append _ xs ys)
    ∙ (ap reverse (map-append each (committed_names xs) (committed_names ys)) ∙ reverse-append (map each (committed_names xs)) (map each (committed_names ys)))
  where
    each : TransactionName → List Operation
    each n = reverse (f n.client n.incarnation n.txn)

-- one history behind another
pub serial_append : (m : ℕ → Bytes) (hs bs : List (List Operation)) → IsSerial m hs → IsSerial (store_left m hs) bs → IsSerial m (hs ++ bs)
serial_append m [] bs a b = b
serial_append m (t ∷ hs) bs a b = (a.0, serial_append (after_operations m t) hs bs a.1 b)

pub serial_before : (m : ℕ → Bytes) (hs bs : List (List Operation)) → IsSerial m (hs ++ bs) → IsSerial m hs
serial_before m [] bs a = tt
serial_before m (t ∷ hs) bs a = (a.0, serial_before (after_operations m t) hs bs a.1)

pub left_append : (m : ℕ → Bytes) (hs bs : List (List Operation)) → store_left m (hs ++ bs) ≡ store_left (store_left m hs) bs
left_append m [] bs = refl
left_append m (t ∷ hs) bs = left_append (after_operations m t) hs bs

tail_names : (e : CommittedTransaction) (es : List CommittedTransaction) (x : AppliedCommit) (xs : List AppliedCommit) → history_names (e ∷ es) ≡ committed_names (x ∷ xs) → history_names es ≡ committed_names xs
tail_names e es x xs q = cc

-- the commits up to a number are a serial history, which leaves the store that their writes make
pub survivors_serial : (o : ℕ → Bytes) (ls : List PerformedOperation) (n : ℕ) (es : List CommittedTransaction) (xs : List AppliedCommit) → EachLeaves o es xs → history_names es ≡ committed_names xs
    → ((e : CommittedTransaction) → IsIn e es → transaction_operations ls e.client e.incarnation e.txn ≡ e.operations) → IsSerial o (history_operations es)
    → IsSerial o (operations_by (transaction_operations ls) (commits_up_to n xs)) × ((p : ℕ) → store_left o (operations_by (transaction_operations ls) (commits_up_to n xs)) p ≡ bytes_after o (commits_up_to n xs) p)
survivors_serial o ls n [] [] l q t s = (tt, λ p. refl)
survivors_serial o ls n [] (x ∷ xs) l q t s = absurd l
survivors_serial o ls n (e ∷ es) [] l q t s = absurd l
survivors_serial o ls n (e ∷ es) (x ∷ xs) l q t s = go (survivors_serial o ls n es xs l.1 (tail_names e es x xs q) (λ d i. t d (inr i)) (serial_before o (history_operations es) (reverse e.operations ∷ []) (subst (λ (h : List (List Operation)). IsSerial o h) (committed_push e es) s))) (nat_le x.number n)
  where
    whole : operations_by (transaction_operations ls) (x ∷ xs) ≡ history_operations (e ∷ es)
    whole = ap (λ (ns : List TransactionName). committed_operations ns ls) (sym q) ∙ ap reverse (same_ops ls (e ∷ es) t)

    Survives : List AppliedCommit → Type 0
    Survives ys = IsSerial o (operations_by (transaction_operations ls) ys) × ((p : ℕ) → store_left o (operations_by (transaction_operations ls) ys) p ≡ bytes_after o ys p)

    go : Survives (commits_up_to n xs) → (r : Bool) → Survives (if r then x ∷ xs else commits_up_to n xs)
    go h true = (subst (λ (h : List (List Operation)). IsSerial o h) (sym whole) s, λ p. ap (λ (h : List (List Operation)). store_left o h p) whole ∙ l.0 p)
    go h false = h

-- they are numbered up to it
pub survivors_numbered : (first n last : ℕ) (xs : List AppliedCommit) → Numbered first xs last → first ≤ n → n ≤ last → Numbered first (commits_up_to n xs) n
survivors_numbered first n last [] h a b = omega (arith, h, a, b)
survivors_numbered first n last (x ∷ xs) h a b = go (nat_le x.number n) refl
    (λ l. survivors_numbered first n h.1.0 xs h.1.2 a (let e = h.1.1 in omega (arith, l, e)))
  where
    here : nat_le x.number n ≡ true → last ≡ n
    here e = let k = h.0 in let l : x.number ≤ n = grind arith in omega (arith, k, l, b)

    above : nat_le x.number n ≡ false → n < last
    above e = let k = h.0 in let l : n < x.number = grind arith in omega (arith, k, l)

    go : (r : Bool) → nat_le x.number n ≡ r → (n < last → Numbered first (commits_up_to n xs) n) → Numbered first (if r then x ∷ xs else commits_up_to n xs) n
    go true e f = subst (λ (m : ℕ). Numbered first (x ∷ xs) m) (here e) h
    go false e f = f (above e)

newer_version : (w : Option PageWrite) (number old last before : ℕ) → number ≡ last → last ≡ before + 1 → old ≤ before → new_version w number old ≤ last
newer_version w number old last before a b c = grind (arith, a, b, c)

-- no page is newer than the last of them
pub survivors_sound : (o : Opening) (n : ℕ) (xs : List AppliedCommit) → SoundOpening o → Numbered o.number xs n → (p : ℕ) → version_after o.version xs p ≤ n
survivors_sound o n [] s h p = let a = s p in omega (arith, h, a)
survivors_sound o n (x ∷ xs) s h p = newer_version (write_of_page x.writes p) x.number (version_after o.version xs p) n h.1.0 h.0 h.1.1 (survivors_sound o h.1.0 xs s h.1.2 p)

-- which they are
pub survives : (n : ℕ) (xs : List AppliedCommit) (x : AppliedCommit) → IsIn x xs → x.number ≤ n → IsIn x (commits_up_to n xs)
survives n [] x i l = absurd i
survives n (y ∷ xs) x i l = go (nat_le y.number n) refl (λ j. survives n xs x j l)
  where
    beyond : nat_le y.number n ≡ false → y ≡ x → ⊥
    beyond e q = let k : n < y.number = grind arith in let z : y.number ≡ x.number = ap (λ (c : AppliedCommit). c.number) q in omega (arith, k, z, l)

    go : (r : Bool) → nat_le y.number n ≡ r → (IsIn x xs → IsIn x (commits_up_to n xs)) → IsIn x (if r then y ∷ xs else commits_up_to n xs)
    go true e f = i
    go false e f = elim i [ inl q ↦ absurd (beyond e q) | inr j ↦ f j ]

pub survived : (n : ℕ) (xs : List AppliedCommit) (x : AppliedCommit) → IsIn x (commits_up_to n xs) → IsIn x xs
survived n [] x i = i
survived n (y ∷ xs) x i = go (nat_le y.number n) (λ j. survived n xs x j) i
  where
    go : (r : Bool) → (IsIn x (commits_up_to n xs) → IsIn x xs) → IsIn x (if r then y ∷ xs else commits_up_to n xs) → IsIn x (y ∷ xs)
    go true f j = j
    go false f j = inr (f j)

pub survivors_once : (n : ℕ) (xs : List AppliedCommit) → EachOnce (committed_names xs) → EachOnce (committed_names (commits_up_to n xs))
survivors_once n [] h = h
survivors_once n (y ∷ xs) h = go (nat_le y.number n) (survivors_once n xs h.1)
  where
    go : (r : Bool) → EachOnce (committed_names (commits_up_to n xs)) → EachOnce (committed_names (if r then y ∷ xs else commits_up_to n xs))
    go true f = h
    go false f = f

-- a name in the list is that of a commit
name_at : (n : TransactionName) (xs : List AppliedCommit) → IsIn n (committed_names xs) → (x : AppliedCommit) × IsIn x xs × (x.incarnation ≡ n.incarnation)
name_at n [] i = absurd i
name_at n (y ∷ xs) i = elim i [
  | inl q ↦ (y, inl refl, ap (λ (z : TransactionName). z.incarnation) q)
  | inr j ↦ (let r = name_at n xs j in (r.0, inr r.1, r.2))
]

name_append : (n : TransactionName) (xs ys : List AppliedCommit) → IsIn n (committed_names (xs ++ ys)) → IsIn n (committed_names xs) ⊎ IsIn n (committed_names ys)
name_append n xs ys i = in_append n (committed_names xs) (committed_names ys) (subst (λ (ns : List TransactionName). IsIn n ns) (map-append _ xs ys) i)

-- commits from a floor on, and others below it
pub once_append : (floor : ℕ) (xs ys : List AppliedCommit) → EachOnce (committed_names xs) → EachOnce (committed_names ys) → ((x : AppliedCommit) → IsIn x xs → floor ≤ x.incarnation) → ((y : AppliedCommit) → IsIn y ys → y.incarnation < floor) → EachOnce (committed_names (xs ++ ys))
once_append floor [] ys a b f g = b
once_append floor (x ∷ xs) ys a b f g = (
  λ i. elim (name_append _ xs ys i) [
    | inl j ↦ a.0 j
    | inr j ↦ (let r = name_at _ ys j in let l = f x (inl refl) in let k = g r.0 r.1 in let e = r.2 in omega (arith, l, k, e))
  ],
  once_append floor xs ys a.1 b (λ y i. f y (inr i)) g,
)

-- the numbers of two lives, one behind the other
pub numbered_append : (first opened last : ℕ) (xs ys : List AppliedCommit) → Numbered opened xs last → Numbered first ys opened → Numbered first (xs ++ ys) last
numbered_append first opened last [] ys a b = subst (λ (n : ℕ). Numbered first ys n) (sym a) b
numbered_append first opened last (x ∷ xs) ys a b = (a.0, (a.1.0, a.1.1, numbered_append first opened a.1.0 xs ys a.1.2 b))

-- and their writes
pub bytes_append : (o : ℕ → Bytes) (xs ys : List AppliedCommit) (p : ℕ) → bytes_after o (xs ++ ys) p ≡ bytes_after (bytes_after o ys) xs p
bytes_append o [] ys p = refl
bytes_append o (x ∷ xs) ys p = ap (new_bytes (write_of_page x.writes p)) (bytes_append o xs ys p)

pub version_append : (o : ℕ → ℕ) (xs ys : List AppliedCommit) (p : ℕ) → version_after o (xs ++ ys) p ≡ version_after (version_after o ys) xs p
version_append o [] ys p = refl
version_append o (x ∷ xs) ys p = ap (new_version (write_of_page x.writes p) x.number) (version_append o xs ys p)
