-- The protocol's limits, by those of a store.
use Rattle.cb_page.specs.Bounds.{Bounds}
use Rattle.cb_protocol.specs.Basics.{Limits}

-- the same numbers, without those that only a pool of pages goes by
abbrev pub limits_of : Bounds → Limits
limits_of limits = record {
  clients = limits.clients;
  pages = limits.pages;
  page_size = limits.page_size;
  slots = limits.slots;
  keep_write = limits.keep_write;
}
