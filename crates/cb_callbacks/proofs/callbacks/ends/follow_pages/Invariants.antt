-- What holds at each turn of the loops of `follow_pages`.
use Rattle.std.proofs.Common.{◌≤◌, ◌-◌}
use Rattle.cb_callbacks.specs.Following.{FollowsPages}
use Rattle.cb_server_state.specs.States.{server_of}
use Rattle.cb_callbacks.proofs.callbacks.ends.follow_pages.Given as goal

-- the pages before `from` are followed
abbrev pub invariant-loop-page : goal.invariant-loop-page
invariant-loop-page l = record {
  follows : FollowsPages l.initial.view (server_of l.state) l.from l.view;
  within : l.from ≤ (server_of l.state).pages;
}

abbrev pub decreases-loop-page : goal.decreases-loop-page
decreases-loop-page l = (server_of l.state).pages - l.from
