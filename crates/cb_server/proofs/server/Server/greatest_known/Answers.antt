-- Goals of `Server::greatest_known`.
use Rattle.std.proofs.Common.{◌≡◌, ◌≤◌, ℕ, inl, inr, ap, arith, rules, subst, sym}
use Rattle.std.proofs.lemmas.Bool.{cases_lt}
use Rattle.cb_links.specs.Changes.{session_of}
use Rattle.cb_server_state.specs.States.{or_zero}
use Rattle.cb_server.proofs.server.Server.greatest_known.Goals as goal

pub loop-client-init : goal.loop-client-init
loop-client-init c = (λ client l. absurd (omega (arith, l)), λ below all. (let first = all 0 in omega (arith, first)))

pub loop-client-preserved : goal.loop-client-preserved
loop-client-preserved c =
    let known : or_zero c.session-known.result.incarnation ≡ or_zero (session_of c.state-state.result.now.sessions c.loop-client.client).incarnation = search rules in
    let first = c.greater-greatest.ensures.first in let second = c.greater-greatest.ensures.second in (
      λ client l. elim (cases_lt client c.loop-client.client) [
        | inl before ↦ (let most = c.loop-client.invariant.0 client before in omega (arith, most, first))
        | inr from ↦ (let same : client ≡ c.loop-client.client = omega (arith, l, from) in subst (λ (k : ℕ). or_zero (session_of c.state-state.result.now.sessions k).incarnation ≤ or_zero c.greater-greatest.result) (sym same) (omega (arith, second, known)))
      ],
      λ below all. elim c.greater-greatest.ensures.either [
        | inl e ↦ (let less = c.loop-client.invariant.1 below all in omega (arith, e, less))
        | inr e ↦ (let less = all c.loop-client.client in omega (arith, e, less, known))
      ],
    )
