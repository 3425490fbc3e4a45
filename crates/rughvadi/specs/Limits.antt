-- The limits of a store as C gives them.
use Rattle.std.specs.Prelude.{◌==◌, not}
use Rattle.cb_page.specs.Bounds.{Bounds}
use Rattle.rughvadi.specs.declared.limits.StoreLimits.{StoreLimits}

-- the limits of these numbers; write permission is kept where the last isn't 0
abbrev pub bounds_of : StoreLimits → Bounds
bounds_of limits = record {
  clients = limits.clients;
  pages = limits.pages;
  page_size = limits.page_size;
  slots = limits.slots;
  kin = limits.kin;
  kout = limits.kout;
  keep_write = not (limits.keep_write == 0);
}
