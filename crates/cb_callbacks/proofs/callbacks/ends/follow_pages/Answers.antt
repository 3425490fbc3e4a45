-- Goals of `follow_pages`.
use Rattle.std.proofs.Common.{◌+◌, ◌<◌, ℕ, sym, subst, ap, arith}
use Rattle.cb_callbacks.specs.Following.{FollowsPages}
use Rattle.cb_server_state.specs.States.{server_of}
use Rattle.cb_callbacks.proofs.Ending.{pages_follow}
use Rattle.cb_callbacks.proofs.callbacks.ends.follow_pages.Goals as goal

pub loop-page-preserved : goal.loop-page-preserved
loop-page-preserved c =
    let lt = subst (λ (n : ℕ). c.in-Some.page < n) c.requires.agree.queues c.in-Some.ensures.1 in
    let value = c.index-from.ensures.value in
    record {
      follows = subst (λ (n : ℕ). FollowsPages c.args.view.now (server_of c.args.state.now) n c.follow_page.new.view) (ap (λ (n : ℕ). n + 1) (sym value))
          (pages_follow (server_of c.args.state.now) c.args.view.now c.loop-page.view c.follow_page.new.view c.loop-page.from c.in-Some.page c.requires.waits lt
          c.in-Some.ensures.0 c.in-Some.ensures.3 c.loop-page.invariant.follows c.follow_page.ensures);
      within = omega (arith, value, lt);
    }
