-- What holds at each turn of the loops of `Callbacks::+settle_page`.
use Rattle.cb_callbacks.proofs.callbacks.Callbacks.+settle_page.Given as goal

abbrev pub decreases-settle_page : goal.decreases-settle_page
decreases-settle_page l = l.asks
