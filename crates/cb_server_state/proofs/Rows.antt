-- The rows of a page, client by client, and the directory rule.
use Rattle.std.proofs.Common.{◌≡◌, ℕ, ◌<◌, ◌≤◌, ◌==◌, Bool, true, false, not, ◌&&◌, ◌||◌, Option, Some, None, length, zero, suc, refl, sym, ap, arith, inl, inr}
use Rattle.std.specs.Option.{is_some}
use Rattle.std.specs.Prelude.{MatchOption}
use Rattle.cb_page.specs.Clients.{Clients, IsLeast, has, without}
use Rattle.std.proofs.lemmas.Bool.{cases_eq, cases_lt}
use Rattle.std.proofs.lemmas.Bool.Decides.{nat_tests}
use Rattle.std.proofs.lemmas.List.{get_or_past}
use Rattle.cb_directory.specs.Directories.{IsSoleRow, Rule, row}
use Rattle.cb_directory.specs.Rows.{ClientState, grant_of}
use Rattle.cb_directory.specs.RowTables.{no_client}
use Rattle.cb_protocol.specs.AnyMessages.{DirectoryRule}
use Rattle.cb_protocol.specs.Basics.{is_none}
use Rattle.cb_protocol.specs.Settling.{sole_row}
use Rattle.cb_server_state.specs.States.{PartsAgree, server_of}
use Rattle.cb_server_state.specs.declared.server_state.ServerState.{ServerState}

-- a client that there isn't has no row
no_row : (v : ServerState) (client page : ℕ) → length v.directory.tables.clients ≤ client
    → row v.directory client page ≡ None
no_row v client page past =
    ap (λ (line : ClientState). grant_of line page)
    (get_or_past v.directory.tables.clients client no_client past)

none_or : (x : Option ℕ) → is_none x ≡ true → x ≡ None
none_or None e = refl
none_or (Some g) e = cc

both : (a b : Bool) → (a && b) ≡ true → (a ≡ true) × (b ≡ true)
both true true e = (refl, refl)
both true false e = cc
both false b e = cc

row_below : (v : ServerState) (client page end : ℕ)
    → sole_row (server_of v) page client end ≡ true
    → (other grant : ℕ) → other < end → row v.directory other page ≡ Some grant → other ≡ client
row_below v client page zero sole other grant lt is = absurd (omega (arith, lt))
row_below v client page (suc end) sole other grant lt is =
    let parts = both (sole_row (server_of v) page client end)
    ((end == client) || is_none (row v.directory end page)) sole in
    elim (cases_eq other end) [
      | inl here ↦ last here (end == client) refl parts.1
      | inr apart ↦ row_below v client page end parts.0 other grant (omega (arith, lt, apart)) is
    ]
  where
    last : other ≡ end → (b : Bool) → (end == client) ≡ b
        → (b || is_none (row v.directory end page)) ≡ true → other ≡ client
    last here true e t = grind (arith, nat_tests, here)
    last here false e t =
        let none : row v.directory end page ≡ None = none_or (row v.directory end page) t in
        let some : row v.directory end page ≡ Some grant = rw (← here) is in
        cc

-- the test, as a fact
pub sole_is : (v : ServerState) (client page : ℕ) → PartsAgree v
    → sole_row (server_of v) page client (server_of v).clients ≡ true
    → IsSoleRow v.directory client page
sole_is v client page are sole other grant is = elim (cases_lt other (length v.sessions)) [
  | inl lt ↦ row_below v client page (length v.sessions) sole other grant lt is
  | inr past ↦
      let none = no_row v other page (rw (are.clients) past) in
      cc
]

-- the fact, as the test
pub sole_of : (v : ServerState) (client page end : ℕ) → IsSoleRow v.directory client page
    → sole_row (server_of v) page client end ≡ true
sole_of v client page zero sole = refl
sole_of v client page (suc end) sole =
    rw (sole_of v client page end sole) (last (row v.directory end page) refl)
  where
    last : (x : Option ℕ) → row v.directory end page ≡ x → ((end == client) || is_none x) ≡ true
    last None e = grind (arith, nat_tests)
    last (Some grant) e =
        let same : end ≡ client = sole end grant e in
        grind (arith, nat_tests, same)

-- where another client has a row, the test fails
pub not_sole : (v : ServerState) (client page other : ℕ) → PartsAgree v
    → (other ≡ client → ⊥) → is_some (row v.directory other page) ≡ true
    → sole_row (server_of v) page client (server_of v).clients ≡ false
not_sole v client page other are apart some =
    told (sole_row (server_of v) page client (server_of v).clients) refl
    (row v.directory other page) refl
  where
    told : (b : Bool) → sole_row (server_of v) page client (server_of v).clients ≡ b
        → (x : Option ℕ) → row v.directory other page ≡ x → b ≡ false
    told false e x is = refl
    told true e None is = let bad : is_some (row v.directory other page) ≡ false = ap is_some is in cc
    told true e (Some grant) is = absurd (apart (sole_is v client page are e other grant is))

-- the directory's rule is the protocol's
pub rule_of : (v : ServerState) → Rule v.directory → DirectoryRule (server_of v)
rule_of v rule = record {
  sole = λ page holder client grant held is. rule.alone page holder held client grant is;
  distinct = λ client other page second grant a b. rule.distinct client other page second grant a b;
}

-- the rows of a page but one client's: none is left exactly where that client's is the only one
pub sole_by : (v : ServerState) (client page : ℕ) (others rest : Clients) (first : Option ℕ)
    → PartsAgree v
    → ((other : ℕ) → has others other ≡ is_some (row v.directory other page))
    → ((other : ℕ) → has rest other ≡ without others client other)
    → MatchOption first ((other : ℕ) → has rest other ≡ false) (IsLeast rest)
    → not (is_some first) ≡ sole_row (server_of v) page client (server_of v).clients
sole_by v client page others rest None are members removed none =
    sym (sole_of v client page (server_of v).clients (λ other grant is. elim (cases_eq other client) [
      | inl same ↦ same
      | inr apart ↦
          let gone = none other in
          let out = removed other in
          let in_all = members other in
          let some : is_some (row v.directory other page) ≡ true = ap is_some is in
          grind (arith, nat_tests, gone, out, in_all, some, apart)
    ]))
sole_by v client page others rest (Some other) are members removed least =
    let here = least.here in
    let out = removed other in
    let in_all = members other in
    let apart : other ≡ client → ⊥ = λ same. grind (arith, nat_tests, here, out, same) in
    let some : is_some (row v.directory other page) ≡ true = grind (arith, nat_tests, here, out, in_all, apart) in
    sym (not_sole v client page other are apart some)
