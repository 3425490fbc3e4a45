-- The texts of faults, as they are printed. This project's rules.
use Rattle.std.specs.Prelude.{ℕ, List, codes}
use Rattle.cb_page.specs.declared.limits.LimitFault.{LimitFault}
use Rattle.cb_page.specs.declared.limits.LimitFault.TheVariants as fault

-- the number and the name of a fault of limits
abbrev pub limit_text : LimitFault → List ℕ
limit_text fault.Clients = codes "1 Clients"
limit_text fault.Pages = codes "2 Pages"
limit_text fault.PageSize = codes "3 PageSize"
limit_text fault.Slots = codes "4 Slots"
limit_text fault.Kin = codes "5 Kin"
limit_text fault.Kout = codes "6 Kout"
