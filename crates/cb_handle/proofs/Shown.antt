-- A page of a batch as it is shown.
use Rattle.std.proofs.Common.{◌≡◌, ℕ, List, Option, Some, ◌∙◌, ap, sym}
use Rattle.cb_commit.specs.declared.batch.BatchPage.{BatchPage}

-- a page that was found, by its parts
pub page_shown : (found : Option BatchPage) (page : BatchPage) (bytes : List ℕ) → found ≡ Some page → bytes ≡ page.bytes
    → found ≡ Some (record { page = page.page; version = page.version; bytes = bytes })
page_shown found page bytes is same = is ∙ ap (λ (x : List ℕ). Some (record page { bytes = x })) (sym same)
