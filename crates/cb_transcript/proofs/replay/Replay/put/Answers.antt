-- Goals of `Replay::put`.
use Rattle.std.proofs.Common.{length, subst, ◌<◌, ◌≡◌, ℕ}
use Rattle.std.specs.Vec.{with_item}
use Rattle.cb_protocol.specs.Basics.{update}
use Rattle.cb_transcript.specs.Replays.{shown}
use Rattle.cb_transcript.proofs.Pages.{put_shown}
use Rattle.cb_transcript.proofs.replay.Replay.put.Goals as goal

pub returns-clause-shown : goal.returns-clause-shown
returns-clause-shown c = let within : c.index.result < length c.args.self.now.pages.items = rw c.requires c.index.ensures.greatest in
    subst (λ (p : ℕ). shown (record { pages = with_item c.args.self.now.pages c.index.result c.args.bytes }) ≡ update (shown c.args.self.now) p c.args.bytes.now) c.index.ensures.value (put_shown (λ b. b.now) c.args.self.now.pages.items c.index.result c.args.bytes within)
