-- A state of some limits stays so.
use Rattle.std.proofs.Common.{◌∙◌}
use Rattle.cb_page.specs.Bounds.{Bounds}
use Rattle.cb_server_state.specs.States.{AreOf, Stays}
use Rattle.cb_server_state.specs.declared.server_state.ServerState.{ServerState}

pub still_of : (limits : Bounds) (v u : ServerState) → AreOf limits v → Stays v u → AreOf limits u
still_of limits v u of stays = record {
  clients = stays.clients ∙ of.clients;
  store = record { count = stays.pages ∙ of.store.count; page_size = stays.page_size ∙ of.store.page_size };
  keep_write = stays.keep_write ∙ of.keep_write;
}
