-- What holds at each turn of the loops of `PageHasherHasher::write`.
use Rattle.std.specs.Prelude.{◌≡◌, ◌≤◌, length, take}
use Rattle.std.specs.List.{fold}
use Rattle.cb_twoq.specs.PageHash.{with_byte}
use Rattle.cb_twoq.proofs.page_hash.PageHasherHasher.write.Given as goal

abbrev pub invariant-loop-byte : goal.invariant-loop-byte
invariant-loop-byte l =
    (l.byte-index ≤ length l.bytes)
    × (l.self.number ≡ fold with_byte l.initial.self.number (take l.byte-index l.bytes))
