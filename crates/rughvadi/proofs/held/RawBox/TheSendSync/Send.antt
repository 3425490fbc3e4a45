-- A box behind its pointer may go to another thread, as its object and the right to free it may.
use Rattle.std.proofs.Common.{Bool, true, false}
use base.Fml.{Fml}
use base.Shift.{Keyless}
use denote.RawPtr.{Ptr}
use denote.Struct.Struct.{exits_of}
use denote.Struct.Owning.{shape, fields, to}
use denote.Param.Send.{IsSend, AllSend, owning_send, struct_send, sendable}
use Rattle.std.proofs.Crossing.{frees}
use Rattle.std.specs.contracts.impls.GlobalAllocator.TheImpl.{ghosts}
use Rattle.std.specs.declared.alloc.Global.{Global}
use Rattle.std_alloc.proofs.SendSync.{lies, quiet}
use Rattle.std_alloc.specs.Box.Ownership.{box_owns}
use Rattle.rughvadi.specs.Slot.{owned_if}
use Rattle.rughvadi.specs.contracts.held.RawBox as held
use Rattle.cb_handle.proofs.object.Object.TheSendSync as sends
use Rattle.cb_handle.specs.contracts.object.Object as object
use Rattle.cb_handle.specs.declared.object.Object.{Object}

-- the object in its block, and the right to free that
box_keyless : (a : Global) (p : Ptr) (x : Object) → Keyless (box_owns (ghosts.dealloc_token a) object.the_row p x)
box_keyless a p x = (lies object.the_row sends.the_send p x, frees.frees a _ p)

-- or nothing
slot_keyless : (live : Bool) (f : Fml) → Keyless f → Keyless (owned_if live f)
slot_keyless true f k = k
slot_keyless false f k = tt

pub send : IsSend held.the_row
send =
    let O = held.the_type in let all : AllSend (fields O) = (search sendable, (search sendable, tt)) in
    owning_send O all (λ d. slot_keyless d.live _ (box_keyless d.alloc d.at d.value)) (λ k. quiet (to O) (exits_of k (fields O)) ((struct_send (shape O) all).leaving k))
