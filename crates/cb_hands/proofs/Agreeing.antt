-- Hands that agree with a server.
use Rattle.std.proofs.Common.{◌≡◌, ◌≢◌, true≢false, ◌<◌, ◌+◌, ◌==◌, ℕ, Bool, true, false, List, [], ◌∷◌, length, replicate, refl, sym, ◌∙◌, ap, arith, Option, Some, None, inl, inr, ◌⊎◌, if◌then◌else◌}
use Rattle.std.proofs.lemmas.Grind.{common_steps}
use Rattle.std.proofs.lemmas.Bool.{cases_eq, cases_lt}
use Rattle.std.proofs.Math.ListN.{get_or, set}
use Rattle.std.proofs.lemmas.List.{get_or_past, get_or-replicate, length-replicate, get_or-set_other, get_or-set_same}
use Rattle.cb_hands.specs.Agreement.{Agrees, CommitLeavesOthers, CopyComes, CopyGoes, EmptyHand, HandsMeet, OthersStay, PermissionComes, PermissionsEnd}
use Rattle.cb_hands.specs.Hands.{HandState, held_at, shown_as}
use Rattle.cb_hands.specs.declared.grant.Held.{Held}
use Rattle.cb_hands.specs.declared.grant.Shown.{Shown}
use Rattle.cb_page.specs.Flags.{has}
use Rattle.cb_protocol.specs.AnyMessages.{DirectoryRule, version_after}
use Rattle.cb_protocol.specs.Basics.{IsIn}
use Rattle.cb_protocol.specs.Messages.{PageWrite, write_of_page}
use Rattle.cb_protocol.specs.Server.{Server}
use Rattle.cb_protocol.specs.Session.{new_version}
use Rattle.cb_protocol.specs.StepsKeep.{KeepsClient}

-- nothing is not something
none_some : (held : Held) → None ≡ Some held → ⊥
none_some held e = cc

-- what is shown of a copy is its version and whether it may be written
shown_is : (copy : Option Held) (may_write : Bool) (x : Shown) → shown_as copy may_write ≡ Some x → (held : Held) × (copy ≡ Some held) × (x.version ≡ held.version) × (x.may_write ≡ may_write)
shown_is None may_write x e = absurd (let z : None ≡ Some x = e in cc)
shown_is (Some held) may_write x e = (held, refl, sym (ap (λ (o : Option Shown). version_of o) e), sym (ap (λ (o : Option Shown). may_write_of o) e))
  where
    version_of : Option Shown → ℕ
    version_of None = 0
    version_of (Some y) = y.version

    may_write_of : Option Shown → Bool
    may_write_of None = false
    may_write_of (Some y) = y.may_write

-- who holds a page that another holds too may not write it
module _ (server : Server) (one other : HandState) (rule : DirectoryRule server) (agrees : Agrees server one) (others : Agrees server other) (apart : one.client ≢ other.client) where
  may_not : (page : ℕ) (held mine : Held) → held_at one.held page ≡ Some mine → held_at other.held page ≡ Some held → (b : Bool) → has one.writable page ≡ b → b ≡ false
  may_not page held mine here there false e = refl
  may_not page held mine here there true e =
      absurd (apart (sym (rule.sole page one.client other.client held.grant (agrees.permission page mine here e) (others.rows page held there).grant)))

pub hands_meet : HandsMeet
hands_meet server one other rule agrees others apart page x y e f =
    let a = shown_is (held_at one.held page) (has one.writable page) x e in
    let b = shown_is (held_at other.held page) (has other.writable page) y f in
    let same : a.0.version ≡ b.0.version = sym (agrees.rows page a.0 a.1).version ∙ (others.rows page b.0 b.1).version in (
      a.2 ∙ same ∙ sym b.2,
      a.3 ∙ may_not server one other rule agrees others apart page b.0 a.0 a.1 b.1 (has one.writable page) refl,
      b.3 ∙ may_not server other one rule others agrees (λ z. apart (sym z)) page a.0 b.0 b.1 a.1 (has other.writable page) refl,
    )

-- a hand agrees where its client is kept as it was, and each page that it holds keeps its version
stays : (before after : Server) (hand : HandState) → KeepsClient before after hand.client
    → ((page : ℕ) (held : Held) → held_at hand.held page ≡ Some held → after.store.version page ≡ before.store.version page) → Agrees before hand → Agrees after hand
stays before after hand keeps version agrees = record {
  rows = λ page held here. record {
    grant = keeps.row page held.grant (agrees.rows page held here).grant;
    version = version page held here ∙ (agrees.rows page held here).version;
  };
  permission = λ page held here told. keeps.permission page (agrees.permission page held here told);
}

pub others_stay : OthersStay
others_stay opening before after hand was is same keeps agrees =
    stays before after hand keeps (λ page held here. is.version page ∙ ap (λ commits. version_after opening.version commits page) same ∙ sym (was.version page)) agrees

-- a page that none of these writes is of keeps its version
not_written : (writes : List PageWrite) (page number old : ℕ) → ((write : PageWrite) → IsIn write writes → write.page ≢ page) → new_version (write_of_page writes page) number old ≡ old
not_written [] page number old none = refl
not_written (write ∷ writes) page number old none = by (write.page == page) refl (not_written writes page number old (λ w i. none w (inr i)))
  where
    by : (b : Bool) → (write.page == page) ≡ b → new_version (write_of_page writes page) number old ≡ old → new_version (if b then Some write else write_of_page writes page) number old ≡ old
    by true e rest = absurd (none write (inl refl) (grind (arith, common_steps)))
    by false e rest = rest

pub commit_leaves_others : CommitLeavesOthers
commit_leaves_others opening before after hand client incarnation txn writes was is rule applied permitted apart keeps agrees =
    stays before after hand keeps (λ page held here.
    is.version page ∙ ap (λ commits. version_after opening.version commits page) applied.listed
    ∙ not_written writes page (before.store.last_commit + 1) (version_after opening.version before.commits page)
    (λ write inside same. apart (rule.sole page client hand.client held.grant (ap before.store.holder (sym same) ∙ permitted write inside) (agrees.rows page held here).grant))
    ∙ sym (was.version page)) agrees

-- nothing is held of an empty table, and it has no flag
nothing_held : (pages page : ℕ) (held : Held) → get_or (replicate pages None) page None ≡ Some held → ⊥
nothing_held pages page held e =
    let none : Option Held = None in
    elim (cases_lt page pages) [
      | inl lt ↦ none_some held (sym (get_or-replicate pages page none none lt) ∙ e)
      | inr le ↦ none_some held (sym (get_or_past (replicate pages none) page none (let l = length-replicate pages none in omega (arith, l, le))) ∙ e)
    ]

no_flag : (pages page : ℕ) → get_or (replicate pages false) page false ≡ true → ⊥
no_flag pages page e = elim (cases_lt page pages) [
  | inl lt ↦ true≢false (sym e ∙ get_or-replicate pages page false false lt)
  | inr le ↦ true≢false (sym e ∙ get_or_past (replicate pages false) page false (let l = length-replicate pages false in omega (arith, l, le)))
]

pub empty_hand : EmptyHand
empty_hand server client incarnation pages = record {
  rows = λ page held here. absurd (nothing_held pages page held here);
  permission = λ page held here told. absurd (nothing_held pages page held here);
}

pub permissions_end : PermissionsEnd
permissions_end server hand rows = record {
  rows = rows;
  permission = λ page held here told. absurd (no_flag (length hand.writable) page told);
}

-- after one entry of a table changed, what is there at a place
at_place : {A : Type 0} (table : List A) (place k : ℕ) (new default : A) → place < length table → (found : A) → get_or (set table place new) k default ≡ found
    → ((k ≡ place) × (new ≡ found)) ⊎ ((k ≢ place) × (get_or table k default ≡ found))
at_place table place k new default lt found e = elim (cases_eq k place) [
  | inl here ↦ inl (here, sym (get_or-set_same table place new default lt) ∙ ap (λ n. get_or (set table place new) n default) (sym here) ∙ e)
  | inr apart ↦ inr (apart, sym (get_or-set_other table place k new default apart) ∙ e)
]

pub copy_comes : CopyComes
copy_comes server hand page copy sizes lt row agrees = record {
  rows = λ k held here. elim (at_place hand.held page k (Some copy) None lt (Some held) here) [
    | inl new ↦ let same : copy ≡ held = let z = new.1 in cc in rw (new.0, ← same) row
    | inr old ↦ agrees.rows k held old.1
  ];
  permission = λ k held here told. elim (at_place hand.writable page k false false (omega (arith, sizes, lt)) true told) [
    | inl new ↦ absurd (true≢false (sym new.1))
    | inr flag ↦ elim (at_place hand.held page k (Some copy) None lt (Some held) here) [
      | inl new ↦ absurd (flag.0 new.0)
      | inr old ↦ agrees.permission k held old.1 flag.1
    ]
  ];
}

pub copy_goes : CopyGoes
copy_goes server hand page sizes lt agrees = record {
  rows = λ k held here. elim (at_place hand.held page k None None lt (Some held) here) [
    | inl new ↦ absurd (none_some held new.1)
    | inr old ↦ agrees.rows k held old.1
  ];
  permission = λ k held here told. elim (at_place hand.writable page k false false (omega (arith, sizes, lt)) true told) [
    | inl new ↦ absurd (true≢false (sym new.1))
    | inr flag ↦ elim (at_place hand.held page k None None lt (Some held) here) [
      | inl new ↦ absurd (none_some held new.1)
      | inr old ↦ agrees.permission k held old.1 flag.1
    ]
  ];
}

pub permission_comes : PermissionComes
permission_comes server hand page txn sizes lt holder agrees = record {
  rows = agrees.rows;
  permission = λ k held here told. elim (at_place hand.writable page k true false (omega (arith, sizes, lt)) true told) [
    | inl new ↦ ap server.store.holder new.0 ∙ holder
    | inr flag ↦ agrees.permission k held here flag.1
  ];
}
