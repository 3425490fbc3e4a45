-- A commit's write of a page stands until a later commit writes the page.
use Rattle.std.proofs.Common.{List, None, Option, Some, [], arith, inl, inr, refl, subst, sym, ℕ, ◌∙◌, ◌∷◌, ◌≡◌, ◌≤◌}
use Rattle.cb_laws.specs.WrittenPages.{LastWritesStand}
use Rattle.cb_protocol.proofs.LedgerKept.{holds_always}
use Rattle.cb_protocol.specs.AnyMessages.{Ledger, Numbered, bytes_after, version_after}
use Rattle.cb_protocol.specs.Basics.{IsIn}
use Rattle.cb_protocol.specs.Messages.{PageWrite, write_of_page}
use Rattle.cb_protocol.specs.Server.{AppliedCommit}
use Rattle.cb_protocol.specs.World.{Opening}

-- no commit has a greater number than the last
pub none_greater : (n last : ℕ) (xs : List AppliedCommit) (x : AppliedCommit) → Numbered n xs last → IsIn x xs → x.number ≤ last
none_greater n last [] x h i = absurd i
none_greater n last (y ∷ xs) x h i = elim i [
  | inl e ↦ subst (λ (z : AppliedCommit). z.number ≤ last) e (let a = h.0 in omega arith)
  | inr j ↦ (let a = none_greater n h.1.0 xs x h.1.2 j in let b = h.1.1 in omega arith)
]

-- the page has the version of a commit that wrote it, or a greater one
pub version_reached : (o : Opening) (last p : ℕ) (xs : List AppliedCommit) (x : AppliedCommit) (y : PageWrite) → Numbered o.number xs last → IsIn x xs → write_of_page x.writes p ≡ Some y → x.number ≤ version_after o.version xs p
version_reached o last p [] x y h i e = absurd i
version_reached o last p (z ∷ xs) x y h i e = go (λ j. version_reached o h.1.0 p xs x y h.1.2 j e) (write_of_page z.writes p) refl
  where
    go : (IsIn x xs → x.number ≤ version_after o.version xs p) → (r : Option PageWrite) → write_of_page z.writes p ≡ r → x.number ≤ version_after o.version (z ∷ xs) p
    go earlier None f = elim i [
      | inl q ↦ absurd (let a = subst (λ (c : AppliedCommit). write_of_page c.writes p ≡ None) q f in let b : Some y ≡ None = sym e ∙ a in cc)
      | inr j ↦ rw f (earlier j)
    ]
    go earlier (Some w) f = rw f (let a = none_greater o.number last (z ∷ xs) x h i in let b = h.0 in omega arith)

-- and the bytes that it wrote, where it has its version
pub bytes_stand : (o : Opening) (last p : ℕ) (xs : List AppliedCommit) (x : AppliedCommit) (y : PageWrite) → Numbered o.number xs last → IsIn x xs → write_of_page x.writes p ≡ Some y → version_after o.version xs p ≡ x.number → bytes_after o.bytes xs p ≡ y.bytes
bytes_stand o last p [] x y h i e v = absurd i
bytes_stand o last p (z ∷ xs) x y h i e v = elim i [
  | inl q ↦ rw (subst (λ (c : AppliedCommit). write_of_page c.writes p ≡ Some y) (sym q) e) refl
  | inr j ↦ go (bytes_stand o h.1.0 p xs x y h.1.2 j e) j (write_of_page z.writes p) refl
]
  where
    go : (version_after o.version xs p ≡ x.number → bytes_after o.bytes xs p ≡ y.bytes) → IsIn x xs → (r : Option PageWrite) → write_of_page z.writes p ≡ r → bytes_after o.bytes (z ∷ xs) p ≡ y.bytes
    go earlier j None f = rw f (earlier (rw f at v))
    go earlier j (Some w) f = absurd (let a : z.number ≡ x.number = rw f at v in let b = none_greater o.number h.1.0 xs x h.1.2 j in let c = h.0 in let d = h.1.1 in omega arith)

pub last_writes_stand : LastWritesStand
last_writes_stand L cycle o s r = let h : Ledger o s = (holds_always L cycle o s r).1 in record {
  none_older = λ x p y i e. subst (λ (n : ℕ). x.number ≤ n) (sym (h.version p)) (version_reached o s.store.last_commit p s.commits x y h.numbered i e);
  bytes = λ x p y i e v. h.bytes p ∙ bytes_stand o s.store.last_commit p s.commits x y h.numbered i e (sym (h.version p) ∙ v);
}
