-- What holds at each turn of the loops of `Outbox::reserve`.
use Rattle.std.proofs.Common.{◌≡◌, ◌≤◌, length, max}
use Rattle.std.specs.List.{All}
use Rattle.cb_outbox.proofs.outbox.Outbox.reserve.Given as goal

abbrev pub invariant-loop-made : goal.invariant-loop-made
invariant-loop-made l = record {
  frames : l.self-inside.frames ≡ l.initial.self-inside.frames;
  page_size : l.self-inside.page_size ≡ l.initial.self-inside.page_size;
  sizes : All (λ page. length page ≡ l.self-inside.page_size) l.self-inside.spare.items;
  made : l._made ≡ length l.self-inside.spare.items;
  kept : length l.initial.self-inside.spare.items ≤ length l.self-inside.spare.items;
  most : length l.self-inside.spare.items ≤ max (length l.initial.self-inside.spare.items) l.copies;
}
