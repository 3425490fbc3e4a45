-- What may be lost is said again by the table.
use Rattle.std.proofs.Common.{◌≡◌, ◌<◌, ◌++◌, ℕ, true, false, List, [], ◌∷◌, Option, Some, None, unwrap_or, refl, subst, sym, ◌∙◌, ap, arith}
use Rattle.std.proofs.lemmas.List.{append_assoc}
use Rattle.cb_protocol.proofs.Cases.{call_accepted, fault_of_again, fault_of_hello, said_append}
use Rattle.cb_protocol.proofs.ClientInvariant as protocol
use Rattle.cb_protocol.proofs.ClientInvariant.{ClientKeeps, only_again, says_same, tidy}
use Rattle.cb_protocol.specs.Answers as table
use Rattle.cb_protocol.specs.Client.{bodies_said}
use Rattle.cb_protocol.specs.ClientCalls.{CallAgain, CallHello, Reply, client_again, commit_again, say_ask, say_drop}
use Rattle.cb_protocol.specs.Messages.{Body, Hello, Message}
use Rattle.cb_protocol.specs.Ranges.{InputFits}
use Rattle.cb_protocol.specs.Serial.{Operation}
use Rattle.cb_client_core.specs.ClientState.{ClientState, IsClient, client_of, is_gone, outcome_of}
use Rattle.cb_client_core.specs.declared.stage.Outcome.{Outcome}
use Rattle.cb_client_core.specs.declared.stage.Outcome.TheVariants as outcomes
use Rattle.cb_client.specs.ByTable.{Calls, as_before, limits_at, messages_from}
use Rattle.cb_client.proofs.CallSteps.{accepted}

-- the last transaction that was dropped or aborted has a number
pub has_dropped : (v : ClientState) → IsClient v → is_gone v.last ≡ true → v.dropped ≡ None → ⊥
has_dropped v is gone e = none_gone v.dropped e (keeps.gone (same v.last gone))
  where
    keeps : ClientKeeps (limits_at v) (client_of v is.reached.operations)
    keeps = tidy (limits_at v) (InputFits (limits_at v)) (client_of v is.reached.operations) is.reached.arises

    same : (last : Option Outcome) → is_gone last ≡ true → protocol.is_gone (outcome_of last) ≡ true
    same None g = absurd cc
    same (Some (outcomes.Committed n)) g = absurd cc
    same (Some outcomes.Dropped) g = refl
    same (Some outcomes.Aborted) g = refl

    none_gone : (t : Option ℕ) → t ≡ None → 0 < unwrap_or t 0 → ⊥
    none_gone None e lt = absurd (omega arith)
    none_gone (Some x) e lt = absurd cc

from_append : (v : ClientState) (xs ys : List Body) → messages_from v (xs ++ ys) ≡ messages_from v xs ++ messages_from v ys
from_append v [] ys = refl
from_append v (x ∷ xs) ys = ap (λ said. record { client = v.no; incarnation = v.incarnation; body = x } ∷ said) (from_append v xs ys)

says_again : (v : ClientState) (messages : List Message) → ((ops : List Operation) → messages_from v (bodies_said (client_again (limits_at v) (client_of v ops))) ≡ messages)
    → Calls v CallAgain table.AnsweredOk messages as_before v
says_again v messages said = accepted v v CallAgain table.AnsweredOk (λ ops. client_again (limits_at v) (client_of v ops)) messages as_before (record {
  accepts = λ ops. fault_of_again (limits_at v) (client_of v ops);
  reply = λ ops. refl;
  said = said;
  after = λ ops. says_same v.copies.limits.keep_write (client_of v ops) (client_again (limits_at v) (client_of v ops)) (only_again (limits_at v) (client_of v ops));
  limits = refl;
  same_no = refl;
  same_incarnation = refl;
  references = refl;
})

-- before the Welcome came
pub hello_again : (v : ClientState) → v.welcomed ≡ false → Calls v CallAgain table.AnsweredOk (record { client = v.no; incarnation = v.incarnation; body = Hello } ∷ []) as_before v
hello_again v e = says_again v (record { client = v.no; incarnation = v.incarnation; body = Hello } ∷ []) (λ ops. rw e refl)

-- afterwards
pub all_again : (v : ClientState) (drop ask commit messages : List Message) → v.welcomed ≡ true
    → ((ops : List Operation) → messages_from v (bodies_said (say_drop (client_of v ops) (client_of v ops).last_outcome)) ≡ drop)
    → ((ops : List Operation) → messages_from v (bodies_said (say_ask (client_of v ops) (client_of v ops).ask)) ≡ ask)
    → ((ops : List Operation) → messages_from v (bodies_said (commit_again (limits_at v) (client_of v ops))) ≡ commit)
    → messages ≡ (drop ++ ask) ++ commit → Calls v CallAgain table.AnsweredOk messages as_before v
all_again v drop ask commit messages e d a c m = says_again v messages said
  where
    said : (ops : List Operation) → messages_from v (bodies_said (client_again (limits_at v) (client_of v ops))) ≡ messages
    said ops =
        let drops = say_drop (client_of v ops) (client_of v ops).last_outcome in
        let asked = say_ask (client_of v ops) (client_of v ops).ask in
        let commits = commit_again (limits_at v) (client_of v ops) in
        rw e (
        ap (messages_from v) (said_append drops (asked ++ commits) ∙ ap (λ (bodies : List Body). bodies_said drops ++ bodies) (said_append asked commits))
        ∙ from_append v (bodies_said drops) (bodies_said asked ++ bodies_said commits)
        ∙ ap (λ (more : List Message). messages_from v (bodies_said drops) ++ more) (from_append v (bodies_said asked) (bodies_said commits))
        ∙ ap (λ (first : List Message). first ++ (messages_from v (bodies_said asked) ++ messages_from v (bodies_said commits))) (d ops)
        ∙ ap (λ (second : List Message). drop ++ (second ++ messages_from v (bodies_said commits))) (a ops)
        ∙ ap (λ (third : List Message). drop ++ (ask ++ third)) (c ops)
        ∙ sym (append_assoc drop ask commit) ∙ sym m)

-- a Hello said again is the one that a greeting says
pub greets_again : (v : ClientState) (messages : List Message) → v.welcomed ≡ false → Calls v CallHello table.AnsweredOk messages as_before v → Calls v CallAgain table.AnsweredOk messages as_before v
greets_again v messages e c = subst (λ (said : List Message). Calls v CallAgain table.AnsweredOk said as_before v) same (hello_again v e)
  where
    same : record { client = v.no; incarnation = v.incarnation; body = Hello } ∷ [] ≡ messages
    same = sym (ap (λ (r : Reply). messages_from v (bodies_said r.steps)) (call_accepted (limits_at v) (client_of v []) CallHello (fault_of_hello (limits_at v) (client_of v [])))) ∙ c.makes.said []
