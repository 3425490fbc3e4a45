-- What a commit's pages make of a store.
use Rattle.std.proofs.Common.{◌≡◌, ℕ, ◌≤◌, List, [], ◌∷◌, ◌++◌, length, slice_set, Bool, true, refl, arith, ◌∙◌, rules}
use Rattle.std.specs.List.{All}
use Rattle.cb_frame.specs.declared.writes.Write.{Write}
use Rattle.cb_commit.specs.declared.store.StoredPage.{StoredPage}
use Rattle.cb_commit.specs.Stores.{IsStored}
use Rattle.cb_commit.specs.Changes.{marked}
use Rattle.cb_commit.specs.History.{rewritten}

pub rewritten_push : (ws : List Write) (w : Write) (number : ℕ) (pages : List StoredPage) → rewritten number pages (ws ++ w ∷ []) ≡ slice_set (rewritten number pages ws) w.page (record { version = number; bytes = w.bytes })
rewritten_push [] w number pages = refl
rewritten_push (x ∷ ws) w number pages = rewritten_push ws w number _

pub rewritten_length : (ws : List Write) (number : ℕ) (pages : List StoredPage) → length (rewritten number pages ws) ≡ length pages
rewritten_length [] number pages = refl
rewritten_length (x ∷ ws) number pages = rewritten_length ws number _ ∙ search rules

pub marked_push : (ws : List Write) (w : Write) (flags : List Bool) → marked flags (ws ++ w ∷ []) ≡ slice_set (marked flags ws) w.page true
marked_push [] w flags = refl
marked_push (x ∷ ws) w flags = marked_push ws w _

pub marked_length : (ws : List Write) (flags : List Bool) → length (marked flags ws) ≡ length flags
marked_length [] flags = refl
marked_length (x ∷ ws) flags = marked_length ws _ ∙ search rules

pub stored_later : (pages : List StoredPage) (size least number : ℕ) → least ≤ number → All (IsStored size least) pages → All (IsStored size number) pages
stored_later pages size least number le all = λ k d lt. record { size = (all k d lt).size; version = omega (arith, le, (all k d lt).version) }
