-- New rows are sent.
use Rattle.std.proofs.Common.{List, [], arith, inl, inr, refl, ℕ, ◌≡◌, ◌⊎◌}
use Rattle.cb_laws.proofs.RowsSent.{AllSent, rows_sent}
use Rattle.cb_laws.specs.NewRows.{NewRowsAreSent}
use Rattle.cb_laws.specs.RowVersions.{HasRow}
use Rattle.cb_protocol.proofs.ServedSteps.{first_asks_met}
use Rattle.cb_protocol.specs.AnyMessages.{input_steps}
use Rattle.cb_protocol.specs.Basics.{Bytes, IsIn}
use Rattle.cb_protocol.specs.Messages.{Granted, Message}
use Rattle.cb_protocol.specs.Server.{Server, ServerStep, server_after}
use Rattle.cb_protocol.specs.World.{messages_sent}

-- the message is of a row that was there
abbrev OfOldRow : Server → Message → Type 0
OfOldRow s f = (p : ℕ) × (g : ℕ) × (v : ℕ) × (b : Bytes) × HasRow s f.client p g × (f.body ≡ Granted p g v b)

same_row : (s : Server) (c p g v q h x : ℕ) (b d : Bytes) → HasRow s c q h → Granted p g v b ≡ Granted q h x d → HasRow s c p g
same_row s c p g v q h x b d e f = grind arith

pub new_rows_are_sent : NewRowsAreSent
new_rows_are_sent cycle s i c p g e =
    let ds : List ServerStep = input_steps cycle s i in
    let a : AllSent (λ f. OfOldRow s f ⊎ IsIn f (messages_sent ds)) (server_after s ds) =
    rows_sent (λ f. OfOldRow s f) s ds (λ d q h k. (0, [], (q, h, 0, [], k, refl))) (first_asks_met cycle s i).0 in
    let r = a c p g e in
    elim r.2 [
      | inl o ↦ inl (same_row s c p g r.0 o.0 o.1 o.2 r.1 o.3 o.4 o.5)
      | inr j ↦ inr (r.0, r.1, j)
    ]
