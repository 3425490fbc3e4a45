-- A commit frame that fits may be applied.
use Rattle.std.proofs.Common.{List, [], ◌∷◌, map, zero, suc, ◌∙◌, sym, arith}
use Rattle.std.specs.List.{All, AllByRecursion}
use Rattle.cb_page.specs.Bounds.{Bounds}
use Rattle.cb_frame.specs.Grammar.{WriteFits, page_of}
use Rattle.cb_page.specs.Rising.{IsRising}
use Rattle.cb_frame.specs.declared.writes.Write.{Write}
use Rattle.cb_commit.specs.Stores.{IsOf, StoreState}
use Rattle.cb_commit.specs.History.{FitsInto, WritesInto}

each_into : (ws : List Write) (limits : Bounds) (s : StoreState) → IsOf limits s → AllByRecursion (WriteFits limits) ws → All (WritesInto s) ws
each_into [] limits s of fit k d lt = absurd (omega (arith, lt))
each_into (w ∷ ws) limits s of fit zero d lt = record { page = omega (arith, fit.0.page, of.count); bytes = fit.0.bytes ∙ sym of.page_size }
each_into (w ∷ ws) limits s of fit (suc k) d lt = each_into ws limits s of fit.1 k d (omega (arith, lt))

pub fits_into : (ws : List Write) (limits : Bounds) (s : StoreState) → IsOf limits s → AllByRecursion (WriteFits limits) ws → IsRising (map page_of ws) → FitsInto s ws
fits_into ws limits s of fit rising = record { pages = each_into ws limits s of fit; rising = rising }
