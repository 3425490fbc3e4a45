-- Goals of `Replay::shows`.
use Rattle.std.proofs.Common.{rules, ◌≡◌, ◌<◌, length, ◌∙◌, ap}
use Rattle.cb_transcript.specs.Replays.{shown}
use Rattle.cb_transcript.proofs.Pages.{shown_at}
use Rattle.cb_transcript.proofs.replay.Replay.shows.Goals as goal

pub returns : goal.returns
returns c = let within : c.index.result < length c.args.self.now.pages.items = rw c.requires c.index.ensures.greatest in
    let there : c.index-2.result.now.now ≡ shown c.args.self.now c.args.page = ap (λ b. b.now) c.index-2.ensures ∙ shown_at (λ b. b.now) c.args.self.now.pages.items c.index-2.result.now c.index.result within ∙ ap (shown c.args.self.now) c.index.ensures.value in
    rw (← there) (search rules)
