-- Goals of `Client::again`.
use Rattle.std.proofs.Common.{◌≡◌, ◌++◌, [], List, false, true, true≢false, option_to_list, refl, sym, ◌∙◌, ap, arith, rules}
use Rattle.std.specs.Option.{option_map}
use Rattle.cb_outbox.specs.Messages.{message_of, messages_of}
use Rattle.cb_protocol.specs.Messages.{Message}
use Rattle.cb_client.specs.CallAnswers.{short_message}
use Rattle.cb_protocol.specs.ClientCalls.{CallAgain}
use Rattle.cb_client_core.specs.ClientState.{IsClient}
use Rattle.cb_client.proofs.FramesFit.{call_frames_fit}
use Rattle.cb_client.proofs.Room.{greets, no_part, none_said}
use Rattle.cb_client.proofs.SayingAgain.{all_again, greets_again}
use Rattle.cb_client.proofs.client.Client.again.Goals as goal

pub push-requires : goal.push-requires
push-requires g c = search rules

pub returns-clause-room : goal.returns-clause-room
returns-clause-room g c = search rules

pub returns-then-not-self-clause-by_table : goal.returns-then-not-self-clause-by_table
returns-then-not-self-clause-by_table g c =
    let unwelcomed : c.args.self.now.welcomed ≡ false = rw (← c.self.view_is) c.if-not-self.true in
    rw (c.push_reserved.ensures.items, c.in_ok-frames.ensures.items) (greets_again c.args.self.now _ unwelcomed c.hello.ensures.by_table)

pub returns-then-not-self-clause-fits : goal.returns-then-not-self-clause-fits
returns-then-not-self-clause-fits g c = rw (c.push_reserved.ensures.items, c.in_ok-frames.ensures.items) (c.hello.ensures.fits, tt)

pub returns-in_err-frames-clause-none : goal.returns-in_err-frames-clause-none
returns-in_err-frames-clause-none g c = λ e. absurd (greets c.args.self.now (rw (← c.self.view_is) c.if-not-self.true) e)

pub returns-in_err-commit-clause-none : goal.returns-in_err-commit-clause-none
returns-in_err-commit-clause-none g c = λ e.
    let welcomed : c.args.self.now.welcomed ≡ true = rw (← c.self.view_is) c.if-not-self.false in
    let z : false ≡ true = c.in_err-commit.ensures.none (no_part c.args.self.now welcomed e).1.1 in
    absurd (true≢false (sym z))

pub returns-in_err-frames-2-clause-none : goal.returns-in_err-frames-2-clause-none
returns-in_err-frames-2-clause-none g c = λ e.
    let welcomed : c.args.self.now.welcomed ≡ true = rw (← c.self.view_is) c.if-not-self.false in
    let parts = no_part c.args.self.now welcomed e in
    let drop = none_said short_message c.args.self.now _ c.drop_again-dropped.result parts.0 (c.drop_again-dropped.ensures []) in
    let ask = none_said short_message c.args.self.now _ c.ask-ask.result parts.1.0 (c.ask-ask.ensures.by_table []) in
    let commit = none_said message_of c.args.self.now _ c.in_ok-commit.commit parts.1.1 (c.in_ok-commit.ensures.by_table []) in
    let first = c.count_of.ensures.count in
    let second = c.count_of-2.ensures.count in
    let third = c.count_of-3.ensures.count in
    let z : false ≡ true = c.in_err-frames-2.ensures.succeeds (omega arith) in
    absurd (true≢false (sym z))

pub returns-clause-by_table : goal.returns-clause-by_table
returns-clause-by_table g c =
    let welcomed : c.args.self.now.welcomed ≡ true = rw (← c.self.view_is) c.if-not-self.false in
    let drop : List Message = option_to_list (option_map short_message c.drop_again-dropped.result) in
    let ask : List Message = option_to_list (option_map short_message c.ask-ask.result) in
    let commit : List Message = option_to_list (option_map message_of c.in_ok-commit.commit) in
    let none : messages_of c.in_ok-frames-2.frames.items ≡ [] = rw c.in_ok-frames-2.ensures.items refl in
    let first : messages_of c.push_short.new.frames.items ≡ drop = c.push_short.ensures.messages ∙ ap (λ (said : List Message). said ++ drop) none in
    let second : messages_of c.push_short-2.new.frames.items ≡ drop ++ ask = c.push_short-2.ensures.messages ∙ ap (λ (said : List Message). said ++ ask) first in
    all_again c.args.self.now drop ask commit (messages_of c.push.new.frames.items) welcomed c.drop_again-dropped.ensures c.ask-ask.ensures.by_table c.in_ok-commit.ensures.by_table
    (c.push.ensures.messages ∙ ap (λ (said : List Message). said ++ commit) second)

pub returns-clause-fits : goal.returns-clause-fits
returns-clause-fits g c =
    let welcomed : c.args.self.now.welcomed ≡ true = rw (← c.self.view_is) c.if-not-self.false in
    let drop : List Message = option_to_list (option_map short_message c.drop_again-dropped.result) in
    let ask : List Message = option_to_list (option_map short_message c.ask-ask.result) in
    let commit : List Message = option_to_list (option_map message_of c.in_ok-commit.commit) in
    let none : messages_of c.in_ok-frames-2.frames.items ≡ [] = rw c.in_ok-frames-2.ensures.items refl in
    let first : messages_of c.push_short.new.frames.items ≡ drop = c.push_short.ensures.messages ∙ ap (λ (said : List Message). said ++ drop) none in
    let second : messages_of c.push_short-2.new.frames.items ≡ drop ++ ask = c.push_short-2.ensures.messages ∙ ap (λ (said : List Message). said ++ ask) first in
    let sound : IsClient c.args.self.now = rw (← c.self.view_is) c.self.invariant in
    call_frames_fit c.args.self.now c.args.self.now CallAgain c.push.new.frames.items sound (all_again c.args.self.now drop ask commit (messages_of c.push.new.frames.items) welcomed c.drop_again-dropped.ensures c.ask-ask.ensures.by_table c.in_ok-commit.ensures.by_table
    (c.push.ensures.messages ∙ ap (λ (said : List Message). said ++ commit) second))
