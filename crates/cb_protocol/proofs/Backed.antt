-- The parts of what backs a copy, each by itself.
use Rattle.cb_protocol.specs.Passes.{HeldGrantsHaveRows, HeldPagesAreTheStores, WritersHavePermission}
use Rattle.cb_protocol.proofs.Laws.{copies_backed}
use Rattle.cb_protocol.specs.Headline.{BackedByServer}
use Rattle.cb_protocol.specs.Laws.{Always}
use Rattle.cb_protocol.specs.World.{World}

part_of_backed : (P : World → Type 0) → ((w : World) → BackedByServer w → P w) → Always (λ o w. P w)
part_of_backed P f L cycle o w s r = f w (copies_backed L cycle o w s r)

pub held_grants_have_rows : Always (λ o w. HeldGrantsHaveRows w)
held_grants_have_rows = part_of_backed HeldGrantsHaveRows (λ w b. record { row = b.row; never_back = b.never_back })

pub writers_have_permission : Always (λ o w. WritersHavePermission w)
writers_have_permission = part_of_backed WritersHavePermission (λ w b. b.permission)

pub held_pages_are_the_stores : Always (λ o w. HeldPagesAreTheStores w)
held_pages_are_the_stores = part_of_backed HeldPagesAreTheStores (λ w b. record { version = b.version; bytes = b.bytes })
