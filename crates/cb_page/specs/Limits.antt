-- The faults of proposed limits.
use Rattle.std.specs.Prelude.{ℕ, ◌%◌, ◌-◌, Bool, not, ◌||◌, ◌==◌, nat_lt, List, [], ◌∷◌}
use Rattle.cb_page.specs.declared.limits.LimitFault.{LimitFault}
use Rattle.cb_page.specs.declared.limits.LimitFault.TheVariants.{Clients, Pages, PageSize, Slots}
use Rattle.cb_page.specs.declared.limits.LimitFault.TheVariants.{Kin, Kout}

-- whether a number is not from the least to the greatest
abbrev pub is_outside : ℕ → ℕ → ℕ → Bool
is_outside least greatest n = nat_lt n least || nat_lt greatest n

-- what can be wrong with proposed limits, in the order of the faults (this project's rule)
abbrev pub limit_causes : ℕ → ℕ → ℕ → ℕ → ℕ → ℕ → List (Bool × LimitFault)
limit_causes clients pages page_size slots kin kout =
    (is_outside 1 32 clients, Clients)
    ∷ (is_outside 1 4096 pages, Pages)
    ∷ (is_outside 16 65536 page_size || not (page_size % 16 == 0), PageSize)
    ∷ (is_outside 2 1024 slots, Slots)
    ∷ (is_outside 1 (slots - 1) kin, Kin)
    ∷ (is_outside 1 4096 kout, Kout)
    ∷ []
