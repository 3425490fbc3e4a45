-- Goals of `find_below`.
use Rattle.std.proofs.Common.{◌≡◌, true, inl, sym, ◌∙◌, rules}
use Rattle.cb_shelf.proofs.Asking.{tells_last}
use Rattle.cb_shelf.proofs.Questions.{below_asks}
use Rattle.cb_shelf.proofs.life.find_below.Goals as goal

pub ask_number-requires : goal.ask_number-requires
ask_number-requires g c = below_asks

pub returns-clause-tells : goal.returns-clause-tells
returns-clause-tells g c =
    let there : c.in_ok-there.there ≡ true = search rules in
    tells_last g.S.Store _ _ _ _ _ _ _ _ _ c.in_ok-there.there c.ask_number.result
    (λ db y first second. inl (sym first ∙ there, second)) (λ db first wrong. wrong)
    c.in_ok-there.ensures.tells (c.ask_number.ensures.tells) c.ask_number.ensures.inside.survives
