-- Goals of `apply`.
use Rattle.std.proofs.Common.{◌∙◌}
use Rattle.cb_commit.proofs.Rewriting.{rewritten_length}
use Rattle.cb_test_parts.proofs.commits.apply.Goals as goal

pub returns-in-Commit : goal.returns-in-Commit
returns-in-Commit c =
    let ok = c.in_ok-apply-in-Commit.ensures.ok in
    rw ok (record { count = rewritten_length c.in-Commit.writes _ c.args.commits.now.store.pages ∙ c.requires.count; page_size = c.requires.page_size })
