-- What a collected copy brings.
use Rattle.std.proofs.Common.{◌≡◌, true≢false, ◌<◌, ◌&&◌, ℕ, Bool, true, false, nat_lt, if◌then◌else◌, length, refl, sym, ◌∙◌, ap, subst, arith, List, Option, Some, None, IsSome, inl, inr, ◌⊎◌}
use Rattle.std.proofs.lemmas.Bool.Decides.{nat_tests}
use Rattle.std.proofs.lemmas.List.{get_or-set_same}
use Rattle.cb_frame.specs.declared.frame.Body.{Body}
use Rattle.cb_frame.specs.declared.frame.Body.TheVariants as body
use Rattle.cb_frame.specs.declared.frame.Frame.{Frame}
use Rattle.cb_frame.specs.declared.frame.ShortBody.TheVariants as short
use Rattle.cb_hands.specs.Hands.{HandState, held_at, with_copy}
use Rattle.cb_hands.specs.Joined.{IsHeld}
use Rattle.cb_hands.specs.declared.grant.Held.{Held}
use Rattle.cb_laws.specs.RowVersions.{HasRow, IsAsStored, WroteSince}
use Rattle.cb_mailboxes.specs.Mail.{IsMailFor}
use Rattle.cb_outbox.specs.Messages.{body_of}
use Rattle.cb_protocol.specs.Basics.{Bytes, is_exactly, is_none}
use Rattle.cb_protocol.specs.Messages as protocol
use Rattle.cb_protocol.specs.Messages.{Granted}
use Rattle.cb_protocol.specs.Server.{Server, has_row}
use Rattle.cb_station.specs.Copies.{BringsCopy}
use Rattle.cb_station.specs.Moves.{collected, received, received_of}
use Rattle.cb_station.specs.Written.{HoldsWritten}

some_is : (o : Option ℕ) (g : ℕ) → is_exactly o g ≡ true → o ≡ Some g
some_is o g e = grind arith

both : (a b : Bool) → (a && b) ≡ true → (a ≡ true) × (b ≡ true)
both true b e = (refl, e)
both false b e = absurd (true≢false (sym e))

-- where the hand comes to hold the page, its row stands
comes : (server : Server) (hand : HandState) (page grant : ℕ) (held : Held) → held_at hand.held page ≡ None → held_at (received server hand page grant).held page ≡ Some held
    → HasRow server hand.client page grant × (held ≡ record { grant = grant; version = server.store.version page })
comes server hand page grant held none e = go (nat_lt page (length hand.held) && (is_none (held_at hand.held page) && has_row server hand.client page grant)) refl e
  where
    go : (r : Bool) → (nat_lt page (length hand.held) && (is_none (held_at hand.held page) && has_row server hand.client page grant)) ≡ r
        → held_at (if r then with_copy hand page (record { grant = grant; version = server.store.version page }) else hand).held page ≡ Some held
        → HasRow server hand.client page grant × (held ≡ record { grant = grant; version = server.store.version page })
    go false f g = absurd (let z : None ≡ Some held = sym none ∙ g in cc)
    go true f g = let x = both _ _ f in let y = both _ _ x.1 in
        (some_is _ grant y.1, let z : Some (record { grant = grant; version = server.store.version page }) ≡ Some held = sym (get_or-set_same hand.held page (Some (record { grant = grant; version = server.store.version page })) None (within x.0)) ∙ g in cc)
      where
        within : nat_lt page (length hand.held) ≡ true → page < length hand.held
        within h = grind (arith, nat_tests)

-- a frame of that body is the one that carries it
granted_of : (server : Server) (hand : HandState) (b : Body) (page grant version : ℕ) (bytes : Bytes) → body_of b ≡ Granted page grant version bytes → received_of server hand b ≡ received server hand page grant
granted_of server hand (body.Granted p g v bs) page grant version bytes e = grind arith
granted_of server hand (body.Commit t ws) page grant version bytes e = absurd (let z : protocol.Commit t _ ≡ Granted page grant version bytes = e in cc)
granted_of server hand (body.Short short.Hello) page grant version bytes e = absurd (let z : protocol.Hello ≡ Granted page grant version bytes = e in cc)
granted_of server hand (body.Short (short.AskRead t p)) page grant version bytes e = absurd (let z : protocol.AskRead t p ≡ Granted page grant version bytes = e in cc)
granted_of server hand (body.Short (short.AskWrite t p g)) page grant version bytes e = absurd (let z : protocol.AskWrite t p g ≡ Granted page grant version bytes = e in cc)
granted_of server hand (body.Short (short.GiveBack p g)) page grant version bytes e = absurd (let z : protocol.GiveBack p g ≡ Granted page grant version bytes = e in cc)
granted_of server hand (body.Short (short.InUse t p g)) page grant version bytes e = absurd (let z : protocol.InUse t p g ≡ Granted page grant version bytes = e in cc)
granted_of server hand (body.Short (short.Drop t)) page grant version bytes e = absurd (let z : protocol.Drop t ≡ Granted page grant version bytes = e in cc)
granted_of server hand (body.Short short.Welcome) page grant version bytes e = absurd (let z : protocol.Welcome ≡ Granted page grant version bytes = e in cc)
granted_of server hand (body.Short (short.MayWrite t p g)) page grant version bytes e = absurd (let z : protocol.MayWrite t p g ≡ Granted page grant version bytes = e in cc)
granted_of server hand (body.Short (short.Callback p g)) page grant version bytes e = absurd (let z : protocol.Callback p g ≡ Granted page grant version bytes = e in cc)
granted_of server hand (body.Short (short.Done t n)) page grant version bytes e = absurd (let z : protocol.Done t n ≡ Granted page grant version bytes = e in cc)
granted_of server hand (body.Short (short.AbortNow t)) page grant version bytes e = absurd (let z : protocol.AbortNow t ≡ Granted page grant version bytes = e in cc)
granted_of server hand (body.Short (short.Downgraded p g t)) page grant version bytes e = absurd (let z : protocol.Downgraded p g t ≡ Granted page grant version bytes = e in cc)
granted_of server hand (body.Short (short.Downgrade p g t)) page grant version bytes e = absurd (let z : protocol.Downgrade p g t ≡ Granted page grant version bytes = e in cc)

-- What its client wrote since, it would hold.
as_stored : (server : Server) (hands : List (Option HandState)) (hand : HandState) (page grant version : ℕ) (bytes : Bytes) → HoldsWritten server hands → IsHeld hands hand → (server.session hand.client).current ≡ hand.incarnation
    → held_at hand.held page ≡ None → HasRow server hand.client page grant → IsAsStored server page version bytes ⊎ WroteSince server hand.client page grant version → IsAsStored server page version bytes
as_stored server hands hand page grant version bytes h held current none row (inl is) = is
as_stored server hands hand page grant version bytes h held current none row (inr wrote) =
    absurd (true≢false (sym (subst (λ (o : Option Held). IsSome o) none (h.held hand.client page grant (server.store.version page) hand held (sym current) row wrote.1))))

-- a frame that was sent to the client, and collected into its hand
pub brings : (server : Server) (hands : List (Option HandState)) (old new : HandState) (frame : Frame) → HoldsWritten server hands → IsHeld hands old → (server.session old.client).current ≡ old.incarnation
    → IsMailFor server old.client frame → new ≡ collected server old (Some frame) → BringsCopy server old new frame
brings server hands old new frame h holds current sent e page grant version bytes b none held f =
    let g : held_at (received server old page grant).held page ≡ Some held = ap (λ (x : HandState). held_at x.held page) (sym (e ∙ granted_of server old frame.body page grant version bytes b)) ∙ f in
    let c = comes server old page grant held none g in record {
      by_grant = ap (λ (x : Held). x.grant) c.1;
      now = ap (λ (x : Held). x.version) c.1;
      stored = as_stored server hands old page grant version bytes h holds current none c.0 (sent.copy page grant version bytes b c.0).stored;
    }
