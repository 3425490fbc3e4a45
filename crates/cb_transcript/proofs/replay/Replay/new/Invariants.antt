-- What holds at each turn of the loops of `Replay::new`.
use Rattle.std.proofs.Common.{◌≡◌, ◌<◌, ℕ, [], length, map, get_or}
use Rattle.cb_commit.specs.Stores.{bytes_at}
use Rattle.cb_transcript.proofs.replay.Replay.new.Given as goal

abbrev pub invariant-loop-page : goal.invariant-loop-page
invariant-loop-page l = record {
  so_far : length l.pages.items ≡ l.page;
  shown : (k : ℕ) → k < l.page
      → get_or (map (λ bytes. bytes.now) l.pages.items) k [] ≡ bytes_at l.fn.opening k;
}
