-- Goals of `Cache::has_room`.
use Rattle.std.proofs.Common.{arith}
use Rattle.cb_cache.proofs.PoolRoom.{pool_counted, room_is}
use Rattle.cb_cache.proofs.cache.Cache.has_room.Goals as goal

pub returns-clause-room : goal.returns-clause-room
returns-clause-room g c = λ client. rw (← c.self.view_is) (room_is _ c.self.invariant client c.room.result c.room.ensures.room)

pub returns-clause-within : goal.returns-clause-within
returns-clause-within g c = λ client. rw (← c.self.view_is) (
    let counted = pool_counted _ c.self.invariant client in
    let within = c.room.ensures.is_pool.within in
    let slots = c.self.invariant.sizes.slots in
    omega arith
    )
