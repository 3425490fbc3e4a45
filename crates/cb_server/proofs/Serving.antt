-- The server between two calls, and after each.
use Rattle.std.proofs.Common.{◌≡◌, ℕ, ◌<◌, ◌≤◌, false, length, List, [], ◌++◌, refl, sym, ap, ◌∙◌, subst, arith}
use Rattle.std.specs.List.{AllByRecursion}
use Rattle.cb_server_state.specs.States as states
use Rattle.cb_server_state.specs.declared.server_state.ServerState.{ServerState}
use Rattle.cb_commit.specs.History.{CommitsState, begun}
use Rattle.cb_commit.specs.Stores.{IsOf, IsSound, StoreState}
use Rattle.cb_frame.specs.Grammar as grammar
use Rattle.cb_frame.specs.declared.frame.Frame.{Frame}
use Rattle.cb_server_state.specs.States.{AreOf, limits_of, opening_of}
use Rattle.cb_outbox.specs.Messages.{body_of, messages_of}
use Rattle.cb_outbox.specs.Saying.{OutboxState}
use Rattle.cb_page.specs.Bounds.{Bounds}
use Rattle.cb_protocol.specs.AnyMessages.{Input, Opened, ReachedBy, input_steps}
use Rattle.cb_protocol.specs.Messages.{Message}
use Rattle.cb_protocol.specs.Ranges.{InputTaken, StoreFits}
use Rattle.cb_protocol.specs.Server.{Server, new_server}
use Rattle.cb_protocol.specs.ServerMessages.{is_exhausted}
use Rattle.cb_protocol.specs.WaitsFor.{on_cycle}
use Rattle.cb_protocol.specs.World.{messages_sent, opening_store}
use Rattle.cb_server.specs.Answering.{FitsIn, HasLittleRoom, IsLeft, IsReady, Serves, server_in}
use Rattle.cb_server.specs.ServerValue.{IsAtRest, IsServer, IsUnchanged, ServerValue, forgot, most_frames}
use Rattle.cb_server.specs.Taking.{Does, Takes, input_of}
use Rattle.cb_server.specs.declared.engine.Engine.{Engine}
use Rattle.cb_protocol.proofs.SettlingAgain.{settled}
use Rattle.cb_server.proofs.LawsKept.{reached}
use Rattle.cb_server.proofs.Arising.{arises, body_fits_in, frame_comes, has_grants, of_left, said_fits, store_fits}

-- a server of these parts
abbrev pub state : Bounds → Engine → ServerValue
state limits e = record { limits = limits; state = e.callbacks.state }

pub ready : (limits : Bounds) (e : Engine) → IsAtRest (state limits e) e.outbox → IsReady e
ready limits e rest = record {
  sent = rest.sent;
  settled = settled (server_in e) (reached (state limits e) rest.is);
  grants = has_grants (limits_of limits) (opening_of e.callbacks.state.commits.opening) (server_in e) rest.is.reached;
  size = rest.page_size ∙ sym rest.is.of.store.page_size;
}

-- a frame that fits is of a client that there is, and fits the tables
pub of_client : (limits : Bounds) (e : Engine) (frame : Frame) → IsAtRest (state limits e) e.outbox → grammar.Fits limits frame
    → states.HasClient e.callbacks.state frame.client
of_client limits e frame rest fits = subst (λ (n : ℕ). frame.client < n) (sym rest.is.of.clients) fits.client

pub into_tables : (limits : Bounds) (e : Engine) (frame : Frame) → IsAtRest (state limits e) e.outbox → grammar.Fits limits frame → FitsIn e frame.body
into_tables limits e frame rest fits = body_fits_in e limits frame.body rest.is.of fits.body

-- it is at rest again once it has served an input and what it says was handed out
pub rests : (limits : Bounds) (old new : Engine) (outbox : OutboxState) (input : Input) → IsAtRest (state limits old) old.outbox → InputTaken (limits_of limits) (server_in old) input
    → Serves old (λ s. input_steps on_cycle s input) new → outbox.sent ≡ [] → outbox.page_size ≡ new.outbox.page_size → outbox.spare ≡ new.outbox.spare → outbox.room ≡ 0
    → IsAtRest (record { limits = limits; state = new.callbacks.state }) outbox
rests limits old new outbox input rest taken serves sent size spare room = record {
  is = arises limits old.callbacks.state new.callbacks.state input rest.is taken serves.stays serves.becomes;
  sent = sent;
  page_size = size ∙ serves.page_size ∙ rest.page_size;
  room = omega (arith, room);
  spare = let few = serves.few rest.spare in omega (arith, few, spare);
}

-- there is little room
little : (limits : Bounds) (e : Engine) → IsAtRest (state limits e) e.outbox → HasLittleRoom e
little limits e rest = let room = rest.room in let none = ap length rest.sent in omega (arith, room, none)

-- and no more in what is handed out
pub said_room : (limits : Bounds) (old new : Engine) (input : Input) (room : ℕ) → IsAtRest (state limits old) old.outbox
    → Serves old (λ s. input_steps on_cycle s input) new → room ≡ new.outbox.room → room ≤ most_frames (server_in old)
said_room limits old new input room rest serves is =
    let most = serves.room (little limits old rest) in let none = ap length rest.sent in omega (arith, is, most, none)

-- and where nothing changed but room
pub rests_unchanged : (limits : Bounds) (old new : Engine) → IsAtRest (state limits old) old.outbox → IsLeft old new → IsAtRest (state limits new) new.outbox
rests_unchanged limits old new rest left = record {
  is = record {
    opening = subst (λ (o : StoreState). StoreFits (limits_of limits) (opening_of o)) (sym opening) rest.is.opening;
    reached = subst (λ (o : StoreState). ReachedBy (limits_of limits) on_cycle (opening_of o) (InputTaken (limits_of limits)) (server_in new)) (sym opening)
        (subst (λ (s : Server). ReachedBy (limits_of limits) on_cycle (opening_of old.callbacks.state.commits.opening) (InputTaken (limits_of limits)) s) (sym left.server) rest.is.reached);
    of = of_left limits old.callbacks.state new.callbacks.state left.rest rest.is.of;
  };
  sent = left.sent ∙ rest.sent;
  page_size = left.page_size ∙ rest.page_size;
  room = subst (λ (s : Server). new.outbox.room ≤ most_frames s) (sym left.server)
      (let most = left.room (little limits old rest) in let none = ap length rest.sent in omega (arith, most, none));
  spare = left.few rest.spare;
}
  where
    opening : new.callbacks.state.commits.opening ≡ old.callbacks.state.commits.opening
    opening = ap (λ (h : ServerState). h.commits.opening) left.rest

pub is_unchanged : (limits : Bounds) (old new : Engine) → IsLeft old new → IsUnchanged (state limits old) (state limits new)
is_unchanged limits old new left = record { limits = refl; server = left.server; rest = left.rest }

-- what it does is the protocol's, and what is handed out is all that it says
pub all_said : (old new : Engine) (input : Input) (frames : List Frame) → old.outbox.sent ≡ [] → Serves old (λ s. input_steps on_cycle s input) new
    → messages_of frames ≡ new.outbox.sent → messages_of frames ≡ messages_sent (input_steps on_cycle (server_in old) input)
all_said old new input frames none serves is = is ∙ serves.sends ∙ ap (λ (l : List Message). l ++ messages_sent (input_steps on_cycle (server_in old) input)) none

pub does : (limits : Bounds) (old new : Engine) (input : Input) (frames : List Frame) → IsAtRest (state limits old) old.outbox → Serves old (λ s. input_steps on_cycle s input) new
    → messages_of frames ≡ new.outbox.sent → Does (state limits old) input (messages_of frames) (state limits new)
does limits old new input frames rest serves is = record {
  sends = all_said old new input frames rest.sent serves is;
  becomes = serves.becomes;
  limits = refl;
  opening = serves.stays.opening;
  forgotten = serves.stays.forgotten;
}

pub takes_frame : (limits : Bounds) (old new : Engine) (frame : Frame) (frames : List Frame) → IsAtRest (state limits old) old.outbox
    → is_exhausted (server_in old) frame.client frame.incarnation (body_of frame.body) ≡ false
    → Serves old (λ s. input_steps on_cycle s (input_of frame)) new → messages_of frames ≡ new.outbox.sent → Takes (state limits old) frame (messages_of frames) (state limits new)
takes_frame limits old new frame frames rest taken serves is = record { taken = taken; does = does limits old new (input_of frame) frames rest serves is }

pub input_taken : (limits : Bounds) (e : Engine) (frame : Frame) → grammar.Fits limits frame → is_exhausted (server_in e) frame.client frame.incarnation (body_of frame.body) ≡ false
    → InputTaken (limits_of limits) (server_in e) (input_of frame)
input_taken limits e frame fits taken = (frame_comes limits frame fits, taken)

pub fits_said : (limits : Bounds) (old new : Engine) (input : Input) (frames : List Frame) → IsAtRest (state limits old) old.outbox → InputTaken (limits_of limits) (server_in old) input
    → Serves old (λ s. input_steps on_cycle s input) new → messages_of frames ≡ new.outbox.sent → AllByRecursion (grammar.Fits limits) frames
fits_said limits old new input frames rest taken serves is =
    said_fits limits old.callbacks.state input frames rest.is taken (all_said old new input frames rest.sent serves is)

-- a new one
pub begins_at_rest : (limits : Bounds) (store : StoreState) (kept : ServerState) (outbox : OutboxState) → IsSound store → IsOf limits store → AreOf limits kept
    → kept.commits ≡ begun store
    → states.server_of kept ≡ new_server limits.clients limits.pages (opening_store (limits_of limits) (opening_of store))
    → outbox.sent ≡ [] → outbox.page_size ≡ limits.page_size → outbox.spare ≡ 0 → outbox.room ≡ 0 → IsAtRest (record { limits = limits; state = kept }) outbox
begins_at_rest limits store kept outbox sound of are commits server sent size spare room = record {
  is = record {
    opening = subst (λ (o : StoreState). StoreFits (limits_of limits) (opening_of o)) (sym same) (store_fits limits store sound of);
    reached = subst (λ (o : StoreState). ReachedBy (limits_of limits) on_cycle (opening_of o) (InputTaken (limits_of limits)) (states.server_of kept)) (sym same)
        (subst (λ (s : Server). ReachedBy (limits_of limits) on_cycle (opening_of store) (InputTaken (limits_of limits)) s) (sym server) Opened);
    of = are;
  };
  sent = sent;
  page_size = size;
  room = omega (arith, room);
  spare = omega (arith, spare);
}
  where
    same : kept.commits.opening ≡ store
    same = ap (λ (k : CommitsState). k.opening) commits

-- where commits were forgotten
pub arises_forgotten : (value : ServerValue) (number : ℕ) → IsServer value → IsServer (forgot value number)
arises_forgotten value number is = record {
  opening = is.opening;
  reached = is.reached;
  of = record { clients = is.of.clients; store = is.of.store; keep_write = is.of.keep_write };
}
