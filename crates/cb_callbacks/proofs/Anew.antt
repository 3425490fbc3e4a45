-- The view built anew.
use Rattle.std.proofs.Common.{◌≡◌, ℕ, Bool, true, false, refl, sym, ◌∙◌}
use Rattle.cb_callbacks.proofs.Ending.{waits_at}
use Rattle.cb_callbacks.proofs.Queues.{none_counted}
use Rattle.cb_callbacks.specs.Following.{FollowsPages}
use Rattle.cb_server_state.specs.Waits.{Waits}
use Rattle.cb_protocol.proofs.NoCycles.{none_waits}
use Rattle.cb_protocol.specs.Server.{Server, has_ask}
use Rattle.cb_protocol.specs.ServerMessages.{has_waiting_ask}
use Rattle.cb_protocol.specs.WaitsFor.{waits_for}
use Rattle.cb_waits.proofs.Rows.{no_ask_no_edge}
use Rattle.cb_waits.specs.Follows.{Follows}
use Rattle.cb_waits.specs.Graph.{Edges, waits}

-- from nobody waits, all pages followed
pub follows_anew : (s : Server) (nobody view : Edges) → Waits s → ((client other : ℕ) → waits nobody client other ≡ false)
    → FollowsPages nobody s s.pages view → Follows view s
follows_anew s nobody view known none followed waiting other = go (has_waiting_ask s waiting s.pages) refl
  where
    nowhere : has_waiting_ask s waiting s.pages ≡ false → (page : ℕ) → has_ask waiting (s.queue page) ≡ false
    nowhere e page = none_counted waiting (s.queue page) (none_waits s waiting (record { one = known.one_ask; known = known.in_range }) e page)

    go : (b : Bool) → has_waiting_ask s waiting s.pages ≡ b → waits view waiting other ≡ waits_for s waiting other
    go true e = let at = waits_at s waiting s.pages e in followed.asks waiting at.page at.within at.there other
    go false e = followed.rest waiting other (λ page before. nowhere e page) ∙ none waiting other ∙ sym (no_ask_no_edge s waiting other (nowhere e))
