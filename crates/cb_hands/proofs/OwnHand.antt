-- A hand goes on agreeing while its own client's messages change the server.
use Rattle.std.proofs.Common.{◌≡◌, ◌≢◌, true≢false, ◌<◌, ◌+◌, ◌==◌, ℕ, Bool, true, false, if◌then◌else◌, List, [], ◌∷◌, length, refl, sym, ◌∙◌, ap, arith, Option, Some, None, inl, inr}
use Rattle.std.proofs.lemmas.Grind.{common_steps}
use Rattle.std.proofs.lemmas.Bool.{cases_eq}
use Rattle.std.proofs.Math.ListN.{get_or}
use Rattle.std.proofs.lemmas.List.{get_or-set_other, get_or-set_same, length-set}
use Rattle.cb_hands.specs.Agreement.{HasRows}
use Rattle.cb_hands.specs.OwnHand.{OwnCommit, OwnMessage, all_restamped, pages_written}
use Rattle.cb_hands.proofs.Agreeing.{permissions_end}
use Rattle.cb_hands.specs.Hands.{HandState, at_version, restamped}
use Rattle.cb_hands.specs.declared.grant.Held.{Held}
use Rattle.cb_protocol.specs.AnyMessages.{version_after}
use Rattle.cb_protocol.specs.Basics.{IsIn}
use Rattle.cb_protocol.specs.Messages.{PageWrite, write_of_page}
use Rattle.cb_protocol.specs.Session.{new_version}

pub own_message : OwnMessage
own_message opening before after hand body was is same keeps stays agrees = (
  rows,
  λ lasts. record {
    rows = rows;
    permission = λ page held here told. elim (keeps.permission page (agrees.permission page held here told)) [
      | inl holder ↦ holder
      | inr over ↦ absurd (omega (arith, lasts, over))
    ];
  },
)
  where
    rows : HasRows after hand
    rows page held here = record {
      grant = keeps.row page held.grant (stays page held here) (agrees.rows page held here).grant;
      version = is.version page ∙ ap (λ commits. version_after opening.version commits page) same ∙ sym (was.version page) ∙ (agrees.rows page held here).version;
    }

-- what is held of a page once pages are restamped: of a written page the same grant at the new
-- version, of another what was held
record Restamped (table : List (Option Held)) (writes : List PageWrite) (number page old : ℕ) (held : Held) : Type 0 where
  before : Held
  here : get_or table page None ≡ Some before
  grant : before.grant ≡ held.grant
  version : before.version ≡ old → new_version (write_of_page writes page) number old ≡ held.version

-- where the first write is of another page, it says nothing
other_page : (write : PageWrite) (writes : List PageWrite) (page number old : ℕ) → write.page ≢ page → new_version (write_of_page (write ∷ writes) page) number old ≡ new_version (write_of_page writes page) number old
other_page write writes page number old apart = by (write.page == page) refl
  where
    by : (b : Bool) → (write.page == page) ≡ b → new_version (if b then Some write else write_of_page writes page) number old ≡ new_version (write_of_page writes page) number old
    by true e = absurd (apart (grind (arith, common_steps)))
    by false e = refl

this_page : (write : PageWrite) (writes : List PageWrite) (page number old : ℕ) → write.page ≡ page → new_version (write_of_page (write ∷ writes) page) number old ≡ number
this_page write writes page number old here = by (write.page == page) refl
  where
    by : (b : Bool) → (write.page == page) ≡ b → new_version (if b then Some write else write_of_page writes page) number old ≡ number
    by true e = refl
    by false e = absurd (true≢false (sym (let t : (write.page == page) ≡ true = grind (arith, common_steps) in t) ∙ e))

-- a later write of the same page gives the same number
or_number : (later : Option PageWrite) (number : ℕ) → new_version later number number ≡ number
or_number None number = refl
or_number (Some write) number = refl

-- the copy at the new version
stamped : (copy : Option Held) (number : ℕ) (held : Held) → at_version number copy ≡ Some held → (before : Held) × (copy ≡ Some before) × (before.grant ≡ held.grant) × (number ≡ held.version)
stamped None number held e = absurd (let z : None ≡ Some held = e in cc)
stamped (Some before) number held e = (before, refl, ap (λ (o : Option Held). grant_of o) e, ap (λ (o : Option Held). version_of o) e)
  where
    grant_of : Option Held → ℕ
    grant_of None = 0
    grant_of (Some x) = x.grant

    version_of : Option Held → ℕ
    version_of None = 0
    version_of (Some x) = x.version

restamps : (writes : List PageWrite) (hand : HandState) (number page old : ℕ) (held : Held) → ((write : PageWrite) → IsIn write writes → write.page < length hand.held)
    → get_or (all_restamped hand (pages_written writes) number).held page None ≡ Some held → Restamped hand.held writes number page old held
restamps [] hand number page old held within e = record { before = held; here = e; grant = refl; version = λ v. sym v }
restamps (write ∷ writes) hand number page old held within e =
    let first : Restamped (restamped hand write.page number).held writes number page (if write.page == page then number else old) held =
    restamps writes (restamped hand write.page number) number page (if write.page == page then number else old) held
    (λ w i. let l = within w (inr i) in let s = length-set hand.held write.page (at_version number (get_or hand.held write.page None)) in omega (arith, l, s)) e in
    elim (cases_eq page write.page) [
      | inl is ↦ here_first first is
      | inr apart ↦ elsewhere first apart
    ]
  where
    here_first : Restamped (restamped hand write.page number).held writes number page (if write.page == page then number else old) held → page ≡ write.page → Restamped hand.held (write ∷ writes) number page old held
    here_first first is =
        let at : at_version number (get_or hand.held write.page None) ≡ Some first.before =
        sym (get_or-set_same hand.held write.page (at_version number (get_or hand.held write.page None)) None (within write (inl refl))) ∙ ap (λ k. get_or (restamped hand write.page number).held k None) (sym is) ∙ first.here in
        let copy = stamped (get_or hand.held write.page None) number first.before at in
        let chosen : (if write.page == page then number else old) ≡ number = by (write.page == page) refl (sym is) in
        let later : new_version (write_of_page writes page) number number ≡ held.version =
        ap (λ n. new_version (write_of_page writes page) number n) (sym chosen) ∙ first.version (sym copy.3 ∙ sym chosen) in
        record {
          before = copy.0;
          here = ap (λ k. get_or hand.held k None) is ∙ copy.1;
          grant = copy.2 ∙ first.grant;
          version = λ v. this_page write writes page number old (sym is) ∙ sym (or_number (write_of_page writes page) number) ∙ later;
        }
      where
        by : (b : Bool) → (write.page == page) ≡ b → write.page ≡ page → (if b then number else old) ≡ number
        by true f g = refl
        by false f g = absurd (true≢false (sym (let t : (write.page == page) ≡ true = grind (arith, common_steps) in t) ∙ f))

    elsewhere : Restamped (restamped hand write.page number).held writes number page (if write.page == page then number else old) held → page ≢ write.page → Restamped hand.held (write ∷ writes) number page old held
    elsewhere first apart =
        let chosen : (if write.page == page then number else old) ≡ old = by (write.page == page) refl in
        record {
          before = first.before;
          here = sym (get_or-set_other hand.held write.page page (at_version number (get_or hand.held write.page None)) None apart) ∙ first.here;
          grant = first.grant;
          version = λ v. other_page write writes page number old (λ z. apart (sym z)) ∙ ap (λ n. new_version (write_of_page writes page) number n) (sym chosen) ∙ first.version (v ∙ sym chosen);
        }
      where
        by : (b : Bool) → (write.page == page) ≡ b → (if b then number else old) ≡ old
        by true f = absurd (apart (grind (arith, common_steps)))
        by false f = refl

-- whose hand it is
same_client : (pages : List ℕ) (hand : HandState) (number : ℕ) → (all_restamped hand pages number).client ≡ hand.client
same_client [] hand number = refl
same_client (page ∷ pages) hand number = same_client pages (restamped hand page number) number

pub own_commit : OwnCommit
own_commit opening before after hand body incarnation txn writes was is applied keeps none within rows = permissions_end after (all_restamped hand (pages_written writes) number) (λ page held here.
    let old = restamps writes hand number page (before.store.version page) held within here in
    let row = rows page old.before old.here in
    record {
      grant = ap (λ c. (after.session c).row page) (same_client (pages_written writes) hand number) ∙ keeps.row page old.before.grant (none page old.before.grant) row.grant ∙ ap (λ g. Some g) old.grant;
      version = is.version page ∙ ap (λ commits. version_after opening.version commits page) applied.listed
          ∙ ap (λ n. new_version (write_of_page writes page) number n) (sym (was.version page))
          ∙ old.version (sym row.version);
    })
  where
    number : ℕ
    number = before.store.last_commit + 1
