-- How a frame that is taken is refused, by its bytes.
use Rattle.std.proofs.Common.{◌≡◌, ◌∙◌, ◌⊎◌, inl, inr, ℕ, Bool, true, false, List, [], Option, Some, None, ap, refl, sym, subst, take, drop, slice_index}
use Rattle.std.proofs.lemmas.List.{take-append-drop}
use Rattle.std.specs.Option.{option_map}
use Rattle.std.specs.Prelude.{Result, Err}
use Rattle.cb_client.specs.FramesTaken as client_taking
use Rattle.cb_client.specs.declared.client_fault.ClientFault.{ClientFault}
use Rattle.cb_client_core.specs.ClientState.{ClientState}
use Rattle.cb_frame.proofs.Again.{spelled_again}
use Rattle.cb_frame.specs.Checks.{causes, fault_in_bytes, frame_in_front, has_pages, kind_of}
use Rattle.cb_frame.specs.declared.fault.FrameFault.{FrameFault}
use Rattle.cb_frame.specs.declared.fault.FrameFault.TheVariants as reading
use Rattle.cb_frame.specs.Grammar.{IsFrameInSome}
use Rattle.cb_frame.specs.declared.frame.Frame.{Frame}
use Rattle.cb_handle.specs.Causes.{Decides, NeedsRoom, after_fetch, client_take_may, in_bytes, server_take_may}
use Rattle.cb_handle.specs.Faults.{client_number, frame_number}
use Rattle.cb_handle.specs.Servers.{ServerValue}
use Rattle.cb_handle.specs.declared.refusal.HandleRefusal.{HandleRefusal}
use Rattle.cb_handle.specs.declared.refusal.HandleRefusal.TheVariants as refusal
use Rattle.cb_page.specs.Bounds.{AreInRange, Bounds}
use Rattle.cb_page.specs.Faults.{first_fault}
use Rattle.cb_server.specs.Taking as server_taking
use Rattle.cb_server.specs.Taking.{MayWantMemory, Refuses, is_exhaustion, lacks_number_for}
use Rattle.cb_server.specs.declared.server_fault.ServerFault.{ServerFault}
use Rattle.cb_server.specs.declared.server_fault.ServerFault.TheVariants as server

-- the frame that the bytes begin with is the one in front, and nothing is wrong with them
pub record InFront (limits : Bounds) (bytes : List ℕ) (frame : Frame) : Type 0 where
  pub faultless : first_fault (causes limits bytes) ≡ None
  pub is : frame_in_front limits bytes ≡ frame

pub in_front : (limits : Bounds) (bytes : List ℕ) (frame : Frame) (used : ℕ) → AreInRange limits → IsFrameInSome limits frame (take used bytes) → InFront limits bytes frame
in_front limits bytes frame used range is =
    let again = spelled_again limits is.0 frame (take used bytes) (drop used bytes) bytes range is.1 (sym (take-append-drop used bytes)) in
    record { faultless = again.faultless; is = again.frame }

-- so nothing of them is in the way
pub whole_frame : (limits : Bounds) (bytes : List ℕ) (frame : Frame) (used : ℕ) → AreInRange limits → IsFrameInSome limits frame (take used bytes) → in_bytes limits bytes ≡ None
whole_frame limits bytes frame used range is = ap (λ (x : Option FrameFault). option_map refusal.Frame x) (in_front limits bytes frame used range is).faultless

has_some : (bytes : List ℕ) (test : Bool) → has_pages (kind_of (slice_index bytes 1)) ≡ test → (test ≡ false → ⊥) → has_pages (kind_of (slice_index bytes 1)) ≡ true
has_some bytes true is not = is
has_some bytes false is not = absurd (not refl)

-- a fault of the bytes is what is in the way, or memory to read them is wanted
abbrev ByBytes : Bounds → List ℕ → FrameFault → Type 0
ByBytes limits bytes fault = (in_bytes limits bytes ≡ Some (refusal.Frame fault)) ⊎ ((in_bytes limits bytes ≡ None) × ((fault ≡ reading.Memory) × (has_pages (kind_of (slice_index bytes 1)) ≡ true)))

by_bytes : (limits : Bounds) (bytes : List ℕ) (fault : FrameFault) → first_fault (causes limits bytes) ≡ fault_in_bytes fault
    → (has_pages (kind_of (slice_index bytes 1)) ≡ false → fault ≡ reading.Memory → ⊥) → ByBytes limits bytes fault
by_bytes limits bytes reading.Memory e needs = inr (ap (λ (x : Option FrameFault). option_map refusal.Frame x) e, (refl, has_some bytes _ refl (λ without. needs without refl)))
by_bytes limits bytes reading.Short e needs = inl (ap (λ (x : Option FrameFault). option_map refusal.Frame x) e)
by_bytes limits bytes reading.Version e needs = inl (ap (λ (x : Option FrameFault). option_map refusal.Frame x) e)
by_bytes limits bytes reading.Kind e needs = inl (ap (λ (x : Option FrameFault). option_map refusal.Frame x) e)
by_bytes limits bytes reading.Length e needs = inl (ap (λ (x : Option FrameFault). option_map refusal.Frame x) e)
by_bytes limits bytes reading.Range e needs = inl (ap (λ (x : Option FrameFault). option_map refusal.Frame x) e)
by_bytes limits bytes reading.Order e needs = inl (ap (λ (x : Option FrameFault). option_map refusal.Frame x) e)

-- ---- a client

client_frame_so : (now : ClientState) (bytes : List ℕ) (fault : FrameFault) → ByBytes now.copies.limits bytes fault → Decides {X = ℕ} (in_bytes now.copies.limits bytes) (client_take_may now bytes) (Err (refusal.Frame fault))
client_frame_so now bytes fault (inl e) = inl e
client_frame_so now bytes fault (inr (free, (is, with_pages))) = inr (free, inl (ap (λ (x : FrameFault). frame_number x) is, with_pages))

client_taker_so : (now : ClientState) (bytes : List ℕ) (fault : ClientFault) → AreInRange now.copies.limits → client_taking.LacksMemoryFor now bytes fault
    → Decides {X = ℕ} (in_bytes now.copies.limits bytes) (client_take_may now bytes) (Err (refusal.Client fault))
client_taker_so now bytes fault range lacks =
    let front = in_front now.copies.limits bytes lacks.frame lacks.used range lacks.begin.read in
    inr (whole_frame now.copies.limits bytes lacks.frame lacks.used range lacks.begin.read, inr (ap (λ (x : ClientFault). client_number x) lacks.memory, subst (λ (x : Frame). NeedsRoom now x) (sym front.is) (lacks.own, lacks.needed)))

-- with nothing unfetched
fetched : {X : Type 0} (said : List Frame) (cause : Option HandleRefusal) (may : ℕ → Type 0) (result : Result X HandleRefusal) → said ≡ [] → Decides cause may result → Decides (after_fetch said cause) may result
fetched said cause may result none decides = subst (λ (x : List Frame). Decides (after_fetch x cause) may result) (sym none) decides

pub whole_fetched : (said : List Frame) (limits : Bounds) (bytes : List ℕ) (frame : Frame) (used : ℕ) → said ≡ [] → AreInRange limits → IsFrameInSome limits frame (take used bytes)
    → after_fetch said (in_bytes limits bytes) ≡ None
whole_fetched said limits bytes frame used none range is =
    ap (λ (l : List Frame). after_fetch l (in_bytes limits bytes)) none ∙ whole_frame limits bytes frame used range is

pub client_frame : (said : List Frame) (now : ClientState) (bytes : List ℕ) (fault : FrameFault) → said ≡ [] → first_fault (causes now.copies.limits bytes) ≡ fault_in_bytes fault
    → (has_pages (kind_of (slice_index bytes 1)) ≡ false → fault ≡ reading.Memory → ⊥)
    → Decides {X = ℕ} (after_fetch said (in_bytes now.copies.limits bytes)) (client_take_may now bytes) (Err (refusal.Frame fault))
client_frame said now bytes fault none e needs =
    fetched {X = ℕ} said (in_bytes now.copies.limits bytes) (client_take_may now bytes) (Err (refusal.Frame fault)) none (client_frame_so now bytes fault (by_bytes now.copies.limits bytes fault e needs))

pub client_taker : (said : List Frame) (now : ClientState) (bytes : List ℕ) (fault : ClientFault) → said ≡ [] → AreInRange now.copies.limits → client_taking.LacksMemoryFor now bytes fault
    → Decides {X = ℕ} (after_fetch said (in_bytes now.copies.limits bytes)) (client_take_may now bytes) (Err (refusal.Client fault))
client_taker said now bytes fault none range lacks =
    fetched {X = ℕ} said (in_bytes now.copies.limits bytes) (client_take_may now bytes) (Err (refusal.Client fault)) none (client_taker_so now bytes fault range lacks)

-- ---- a server

server_frame_so : (now : ServerValue) (bytes : List ℕ) (fault : FrameFault) → ByBytes now.limits bytes fault → Decides {X = ℕ} (in_bytes now.limits bytes) (server_take_may now bytes) (Err (refusal.Frame fault))
server_frame_so now bytes fault (inl e) = inl e
server_frame_so now bytes fault (inr (free, (is, with_pages))) = inr (free, inl (ap (λ (x : FrameFault). frame_number x) is, with_pages))

server_taker_so : (now : ServerValue) (bytes : List ℕ) (fault : ServerFault) → AreInRange now.limits → server_taking.RefusesBytes now bytes fault
    → Decides {X = ℕ} (in_bytes now.limits bytes) (server_take_may now bytes) (Err (refusal.Server fault))
server_taker_so now bytes fault range refuses = go fault (subst (λ (x : Frame). Refuses now x fault) (sym front.is) refuses.refuses)
  where
    front : InFront now.limits bytes refuses.frame
    front = in_front now.limits bytes refuses.frame refuses.used range refuses.read

    free : in_bytes now.limits bytes ≡ None
    free = whole_frame now.limits bytes refuses.frame refuses.used range refuses.read

    go : (found : ServerFault) → Refuses now (frame_in_front now.limits bytes) found → Decides {X = ℕ} (in_bytes now.limits bytes) (server_take_may now bytes) (Err (refusal.Server found))
    go server.Exhausted lacks = inr (free, inr (inl (refl, lacks)))
    go server.Memory lacks = inr (free, inr (inr (refl, lacks, subst (λ (x : Frame). MayWantMemory now x) (sym front.is) refuses.needed)))

pub server_frame : (said : List Frame) (now : ServerValue) (bytes : List ℕ) (fault : FrameFault) → said ≡ [] → first_fault (causes now.limits bytes) ≡ fault_in_bytes fault
    → (has_pages (kind_of (slice_index bytes 1)) ≡ false → fault ≡ reading.Memory → ⊥)
    → Decides {X = ℕ} (after_fetch said (in_bytes now.limits bytes)) (server_take_may now bytes) (Err (refusal.Frame fault))
server_frame said now bytes fault none e needs =
    fetched {X = ℕ} said (in_bytes now.limits bytes) (server_take_may now bytes) (Err (refusal.Frame fault)) none (server_frame_so now bytes fault (by_bytes now.limits bytes fault e needs))

pub server_taker : (said : List Frame) (now : ServerValue) (bytes : List ℕ) (fault : ServerFault) → said ≡ [] → AreInRange now.limits → server_taking.RefusesBytes now bytes fault
    → Decides {X = ℕ} (after_fetch said (in_bytes now.limits bytes)) (server_take_may now bytes) (Err (refusal.Server fault))
server_taker said now bytes fault none range refuses =
    fetched {X = ℕ} said (in_bytes now.limits bytes) (server_take_may now bytes) (Err (refusal.Server fault)) none (server_taker_so now bytes fault range refuses)
