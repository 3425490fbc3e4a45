-- What a chooser may do: this project's rule, which holds for 2Q and for any other order of letting
-- go.
use Rattle.std.specs.Prelude.{◌≡◌, ◌≢◌, ℕ, ◌+◌, ◌<◌, ◌≤◌, Bool, true, false, List, length, Option}
use Rattle.std.specs.Prelude.{Some, None, ◌⊎◌}
use Rattle.cb_page.specs.Flags as flags
use Rattle.cb_twoq.specs.Pages.{has}

-- nothing but the two pages named enters or leaves
abbrev pub KeepsOthers : List ℕ → List ℕ → Option ℕ → Option ℕ → Type 0
KeepsOthers old new comes goes =
    (page : ℕ) → comes ≢ Some page → goes ≢ Some page → has new page ≡ has old page

-- no page is let go: the page was a member, or it comes in and there were fewer members than slots
abbrev pub HasSlot : ℕ → List ℕ → ℕ → List ℕ → Type 0
HasSlot slots old page new =
    ((has old page ≡ true) × (length new ≡ length old))
    ⊎ ((has old page ≡ false) × (length old < slots) × (length new ≡ length old + 1))

-- A page let go was a member, isn't fixed and isn't the page referred to.
-- It goes only where that page was no member and all slots were taken.
pub record LetsGo (slots : ℕ) (fixed : List Bool) (old : List ℕ) (page gone : ℕ)
    (new : List ℕ) : Type 0 where
  pub was_member : has old gone ≡ true
  pub not_fixed : flags.has fixed gone ≡ false
  pub other : gone ≢ page
  pub was_out : has old page ≡ false
  pub was_full : slots ≤ length old
  pub left : has new gone ≡ false
  pub count : length new ≡ length old

-- what may be answered: none, or a page
abbrev pub Goes : ℕ → List Bool → List ℕ → ℕ → Option ℕ → List ℕ → Type 0
Goes slots fixed old page None new = HasSlot slots old page new
Goes slots fixed old page (Some gone) new = LetsGo slots fixed old page gone new

-- After a reference the page is a member, and the only other change is that the page answered, if
-- any, is none any more.
pub record Chooses (slots : ℕ) (fixed : List Bool) (old : List ℕ) (page : ℕ)
    (gone : Option ℕ) (new : List ℕ) : Type 0 where
  pub member : has new page ≡ true
  pub others : KeepsOthers old new (Some page) gone
  pub goes : Goes slots fixed old page gone new

-- the page is no member, all slots are taken, and all members are fixed
pub record IsFull (slots : ℕ) (fixed : List Bool) (members : List ℕ) (page : ℕ) : Type 0 where
  pub out : has members page ≡ false
  pub taken : slots ≤ length members
  pub all_fixed : (member : ℕ) → has members member ≡ true → flags.has fixed member ≡ true

-- the page is no member any more, and no other changed
pub record Forgets (old : List ℕ) (page : ℕ) (new : List ℕ) : Type 0 where
  pub out : has new page ≡ false
  pub others : KeepsOthers old new (Some page) None
  pub count : ((has old page ≡ true) × (length new + 1 ≡ length old))
      ⊎ ((has old page ≡ false) × (length new ≡ length old))
