-- Marks that are new, and a client's marks taken off one by one.
use Rattle.std.proofs.Common.{◌≡◌, ◌≢◌, ◌⊎◌, ℕ, ◌+◌, ◌<◌, ◌≤◌, Bool, true, false, ◌==◌, ◌&&◌, if◌then◌else◌, List, [], length, replicate, slice_index_or, slice_set, refl, sym, ◌∙◌, ap, arith, inl, inr}
use Rattle.std.proofs.lemmas.Bool.{cases_eq, cases_lt}
use Rattle.std.proofs.lemmas.Grind.{elements}
use Rattle.std.proofs.lemmas.List.{get_or-replicate, get_or_past, get_or_read, length-replicate, length-set}
use Rattle.cb_page.specs.Clients.{Clients, has, set_of}
use Rattle.cb_page.proofs.ClientBits.{has_none}
use Rattle.cb_page.proofs.Lookups.{replicate_gives}
use Rattle.cb_page.specs.Flags as flags
use Rattle.cb_protocol.specs.Server.{set_in_use}
use Rattle.cb_asks.specs.Marks.{HasMarks, IsMarks, MarksState, is_in_use}
use Rattle.cb_asks.proofs.Steps.{apart_is, same_is}

pub new_none : (clients pages : ℕ) (set : Clients) → ((client : ℕ) → has set client ≡ false)
    → (client page : ℕ) → is_in_use (record { by_client = replicate clients (replicate pages false); by_page = replicate pages set }) client page ≡ false
new_none clients pages set nobody client page = replicate_gives (λ (users : Clients). has users client ≡ false) pages page set (set_of 0) (nobody client) (has_none client)

pub new_marks : (clients pages : ℕ) (set : Clients) → ((client : ℕ) → has set client ≡ false) → clients ≤ 32 → pages ≤ 4096
    → IsMarks (record { by_client = replicate clients (replicate pages false); by_page = replicate pages set })
new_marks clients pages set nobody few most = record {
  clients = let e = length-replicate {A = List Bool} clients (replicate pages false) in omega arith;
  pages = let e = length-replicate {A = Clients} pages set in omega arith;
  flags = λ client lt. ap length (get_or-replicate {A = List Bool} clients client (replicate pages false) [] (let e = length-replicate {A = List Bool} clients (replicate pages false) in omega arith))
      ∙ length-replicate {A = Bool} pages false ∙ sym (length-replicate {A = Clients} pages set);
  agree = λ client page. replicate_gives (λ (list : List Bool). flags.has list page ≡ false) clients client (replicate pages false) []
      (replicate_gives (λ (b : Bool). b ≡ false) pages page false false refl refl) refl
      ∙ sym (new_none clients pages set nobody client page);
}

-- a page of a client's list is a page that there is
pub listed_within : (flags : List Bool) (page : ℕ) → slice_index_or flags page false ≡ true → page < length flags
listed_within list page is = by (cases_lt page (length list))
  where
    by : (page < length list) ⊎ (length list ≤ page) → page < length list
    by (inl within) = within
    by (inr past) = let e = sym is ∙ get_or_past {X = Bool} list page false past in absurd (differ e)
      where
        differ : true ≡ false → ⊥
        differ e = grind arith

-- of one client the pages before this one are done, all else is as it was
pub record Cleared (marks was : ℕ → ℕ → Bool) (client from : ℕ) : Type 0 where
  pub done : (page : ℕ) → page < from → marks client page ≡ false
  pub rest : (page : ℕ) → from ≤ page → marks client page ≡ was client page
  pub others : (other page : ℕ) → (other == client) ≡ false → marks other page ≡ was other page

pub clear_more : (marks was after : ℕ → ℕ → Bool) (client from page : ℕ) → Cleared marks was client from → from ≤ page
    → ((other : ℕ) → from ≤ other → other < page → marks client other ≡ false)
    → ((other at : ℕ) → after other at ≡ set_in_use marks client page false other at)
    → Cleared after was client (page + 1)
clear_more marks was after client from page c le none set = record {
  done = λ at lt. set client at ∙ ap (λ b. if b && (at == page) then false else marks client at) (same_is client) ∙ by_place at (cases_eq at page) lt;
  rest = λ at past. set client at ∙ ap (λ b. if (client == client) && b then false else marks client at) (apart_is at page (λ e. absurd (omega arith))) ∙ past_both (client == client) at ∙ c.rest at (omega arith);
  others = λ other at apart. set other at ∙ ap (λ b. if b && (at == page) then false else marks other at) apart ∙ c.others other at apart;
}
  where
    past_both : (b : Bool) (at : ℕ) → (if b && false then false else marks client at) ≡ marks client at
    past_both true at = refl
    past_both false at = refl

    by_place : (at : ℕ) → (at ≡ page) ⊎ (at ≢ page) → at < page + 1 → (if at == page then false else marks client at) ≡ false
    by_place at (inl here) lt = ap (λ b. if b then false else marks client at) (ap (λ n. n == page) here ∙ same_is page)
    by_place at (inr ne) lt = ap (λ b. if b then false else marks client at) (apart_is at page ne) ∙ early (cases_lt at from)
      where
        early : (at < from) ⊎ (from ≤ at) → marks client at ≡ false
        early (inl before) = c.done at before
        early (inr after) = none at after (omega arith)

-- a client's list as it was read
pub line_read : (items : List (List Bool)) (marks : MarksState) (at client : ℕ) (line : List Bool) → items ≡ marks.by_client → at ≡ client → client < length marks.by_client
    → line ≡ slice_index_or items at line → line ≡ slice_index_or marks.by_client client []
line_read items marks at client line lists e known read =
    let within : at < length items = let l = ap length lists in omega arith in
    get_or_read items at line within read [] ∙ ap (λ n. slice_index_or items n []) e ∙ ap (λ (l : List (List Bool)). slice_index_or l client []) lists

pub next_within : (marks : MarksState) (client page : ℕ) (line : List Bool) → IsMarks marks → client < length marks.by_client → line ≡ slice_index_or marks.by_client client []
    → flags.has line page ≡ true → page < length marks.by_page
next_within marks client page line is known read here = let l = listed_within line page here in let e = ap length read ∙ is.flags client known in omega arith

pub next_unused : (marks : MarksState) (client page : ℕ) (line : List Bool) → IsMarks marks → line ≡ slice_index_or marks.by_client client []
    → flags.has line page ≡ false → is_in_use marks client page ≡ false
next_unused marks client page line is read none = sym (is.agree client page) ∙ ap (λ (l : List Bool). flags.has l page) (sym read) ∙ none

-- a client's list and a page's set once a mark was put there, or taken off
pub record Put (marks : MarksState) (client page : ℕ) (is : Bool) (line : List Bool) (users : Clients) : Type 0 where
  pub listed : line ≡ slice_set (slice_index_or marks.by_client client []) page is
  pub has_users : (other : ℕ) → has users other ≡ (if other == client then is else has (slice_index_or marks.by_page page (set_of 0)) other)

module _ (marks : MarksState) (client page : ℕ) (is : Bool) (line : List Bool) (users : Clients)
    (known : client < length marks.by_client) (within : page < length marks.by_page) (put : Put marks client page is line users) where
  abbrev pub after : MarksState
  after = record { by_client = slice_set marks.by_client client line; by_page = slice_set marks.by_page page users }

  pub marks_put : HasMarks marks after (set_in_use (is_in_use marks) client page is)
  marks_put = record {
    marks = λ other at. let here = put.has_users other in grind (arith, elements);
    clients = length-set {A = List Bool} marks.by_client client line;
    pages = length-set {A = Clients} marks.by_page page users;
  }

  pub put_is : IsMarks marks → IsMarks after
  put_is was = record {
    clients = let e = marks_put.clients in let l = was.clients in omega arith;
    pages = let e = marks_put.pages in let l = was.pages in omega arith;
    flags = λ at lt. let l = was.flags at in let e = put.listed in grind (arith, elements);
    agree = λ other at. let here = put.has_users other in let agree = was.agree other at in let e = put.listed in grind (arith, elements);
  }

-- from what the two calls say of what they were lent
pub put_read : (marks : MarksState) (client page at place : ℕ) (is : Bool) (line new_line : List Bool) (users new_users : Clients)
    → client < length marks.by_client → page < length marks.by_page → at ≡ client → place ≡ page
    → line ≡ slice_index_or marks.by_client at line → new_line ≡ slice_set line page is
    → users ≡ slice_index_or marks.by_page place users → ((other : ℕ) → has new_users other ≡ (if other == client then is else has users other))
    → Put marks client page is new_line new_users
put_read marks client page at place is line new_line users new_users known within e f line_is new_is users_is set = record {
  listed = new_is ∙ ap (λ (l : List Bool). slice_set l page is) (line_read marks.by_client marks at client line refl e known line_is);
  has_users = λ other. set other ∙ ap (λ (s : Clients). if other == client then is else has s other)
      (get_or_read marks.by_page place users (omega arith) users_is (set_of 0) ∙ ap (λ n. slice_index_or marks.by_page n (set_of 0)) f);
}
