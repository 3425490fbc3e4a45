-- Room for some of the steps.
use Rattle.std.proofs.Common.{◌≡◌, List, ◌++◌, subst, ◌∙◌}
use Rattle.std.proofs.lemmas.List.{append_assoc}
use Rattle.cb_outbox.specs.Saying.{HasRoomFor, OutboxState, Says}
use Rattle.cb_outbox.proofs.Saying.{room_after, room_first}
use Rattle.cb_protocol.specs.Server.{Server, ServerStep}

pub room_by : (steps others : List ServerStep) (outbox : OutboxState) → steps ≡ others → HasRoomFor steps outbox → HasRoomFor others outbox
room_by steps others outbox e r = subst (λ (l : List ServerStep). HasRoomFor l outbox) e r

-- after some steps, for the next of them
pub room_next : (before after : Server) (done : Server → List ServerStep) (next rest whole : List ServerStep) (old new : OutboxState)
    → whole ≡ (done before ++ next) ++ rest → HasRoomFor whole old → Says before done after old new → HasRoomFor next new
room_next before after done next rest whole old new e r says =
    room_first next rest new (room_after before after done (next ++ rest) old new
    (room_by whole (done before ++ (next ++ rest)) old (e ∙ append_assoc (done before) next rest) r) says)
