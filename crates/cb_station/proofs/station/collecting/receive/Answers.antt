-- Goals of `receive`.
use Rattle.std.proofs.Common.{rules, ◌≡◌, ◌∙◌, ℕ, true, ap, sym, subst}
use Rattle.cb_server_state.specs.States.{server_of as server_in}
use Rattle.cb_commit.specs.Stores.{StoreState, version_at}
use Rattle.cb_station.proofs.Receiving.{taken_in}
use Rattle.cb_protocol.specs.Server.{has_row}
use Rattle.cb_station.proofs.station.collecting.receive.Goals as goal

pub returns-then-has_row-clause-hand : goal.returns-then-has_row-clause-hand
returns-then-has_row-clause-hand c =
    let row : has_row (server_in c.args.state.now) c.args.hand.now.client c.args.page c.args.grant ≡ true =
    subst (λ (k : ℕ). has_row (server_in c.args.state.now) k c.args.page c.args.grant ≡ true) c.client.ensures (sym c.has_row.ensures ∙ c.if-has_row.true) in
    c.receive.ensures.hand ∙ taken_in (server_in c.args.state.now) c.args.hand.now c.args.page c.args.grant c.version-version.result row (search rules) (search rules) (c.version-version.ensures.value ∙ ap (λ (s : StoreState). version_at s c.args.page) c.store.ensures.value)
