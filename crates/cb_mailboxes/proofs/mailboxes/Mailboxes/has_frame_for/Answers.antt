-- Goals of `Mailboxes::has_frame_for`.
use Rattle.std.proofs.Common.{rules, arith, ◌≡◌, ◌≢◌, [], sym, ◌∙◌, slice_index_or, IsTrue, false}
use Rattle.std.proofs.lemmas.Grind.{common_steps}
use Rattle.cb_mailboxes.specs.Mailboxes.{current_in}
use Rattle.cb_server_state.specs.States.{server_of}
use Rattle.cb_mailboxes.proofs.Posting.{among_the_late, in_the_box}
use Rattle.cb_mailboxes.proofs.mailboxes.Mailboxes.has_frame_for.Goals as goal

pub returns-then-not-is_empty : goal.returns-then-not-is_empty
returns-then-not-is_empty c =
    let box : slice_index_or c.args.self.now.boxes c.args.client [] ≡ c.index-2.result.now = grind (arith, common_steps) in
    let filled : c.is_empty.result ≡ false = search rules in
    let some : slice_index_or c.args.self.now.boxes c.args.client [] ≢ [] = λ e. let is : IsTrue c.is_empty.result = c.is_empty.ensures.1 (sym box ∙ e) in grind (arith, common_steps) in
    ((λ is. in_the_box (current_in (server_of c.args.state.now)) c.args.self.now c.args.client some), (λ n. search rules))

pub returns-else-not-is_empty : goal.returns-else-not-is_empty
returns-else-not-is_empty c =
    let box : slice_index_or c.args.self.now.boxes c.args.client [] ≡ c.index-2.result.now = grind (arith, common_steps) in
    let empty : slice_index_or c.args.self.now.boxes c.args.client [] ≡ [] = search rules in
    among_the_late (current_in (server_of c.args.state.now)) c.args.self.now c.args.client c.has_late.result empty c.has_late.ensures
