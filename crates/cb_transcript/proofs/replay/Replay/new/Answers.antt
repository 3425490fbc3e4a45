-- Goals of `Replay::new`.
use Rattle.std.proofs.Common.{arith, ap, length, subst, ◌<◌, ◌≤◌}
use Rattle.std.proofs.Math.ListN.{get_or-eq_default}
use Rattle.cb_commit.specs.Stores.{bytes_at, no_page}
use Rattle.cb_transcript.proofs.Pages.{all_shown}
use Rattle.cb_transcript.proofs.replay.Replay.new.Goals as goal

pub returns-clause-shown : goal.returns-clause-shown
returns-clause-shown c = let l = c.loop-page.invariant.so_far in let f = c.loop-page-test.false in
    let few : length c.args.opening.now.pages ≤ length c.loop-page.pages.items = rw l (omega (arith, f, c.page_count-count.ensures.sound.count)) in
    all_shown (λ b. b.now) c.loop-page.pages.items (bytes_at c.args.opening.now) (length c.args.opening.now.pages) few (λ k h. ap (λ p. p.bytes) (get_or-eq_default c.args.opening.now.pages no_page h)) (λ k h. c.loop-page.invariant.shown k (subst (λ n. k < n) l h))
