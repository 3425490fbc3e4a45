-- The versions of rows, by what a server's calls answered.
use Rattle.std.proofs.Common.{◌≡◌, ◌≤◌, ◌+◌, ℕ, Bool, true, false, nat_lt, suc, zero, List, [], ◌++◌, length, ap, arith, refl, subst, sym, ◌∙◌}
use Rattle.std.proofs.lemmas.Bool.Decides.{nat_tests}
use Rattle.std.proofs.lemmas.List.{get_or_past}
use Rattle.std.proofs.lemmas.List.Elements.{All-get_or}
use Rattle.cb_commit.specs.Stores.{IsSound, IsStored, StoreState, no_page, version_at}
use Rattle.cb_laws.proofs.RowFacts.{weaker}
use Rattle.cb_laws.proofs.RowVersions.{Kept, kept_by_server, kept_input, kept_new, row_versions}
use Rattle.cb_laws.specs.RowVersions.{SentAfter, SentByServer, SentNothing}
use Rattle.cb_laws.proofs.LifeBegins.{greeted, greets_alone, none_greeted}
use Rattle.cb_page.specs.Bounds.{Bounds}
use Rattle.cb_protocol.specs.AnyMessages.{MessageComes, input_steps}
use Rattle.cb_protocol.specs.Basics.{IsIn, Limits}
use Rattle.cb_protocol.specs.Headline.{SoundOpening}
use Rattle.cb_protocol.specs.LivesWorld.{server_of_life}
use Rattle.cb_protocol.specs.Messages.{Hello, Message}
use Rattle.cb_protocol.specs.Server.{Server}
use Rattle.cb_protocol.specs.WaitsFor.{on_cycle}
use Rattle.cb_protocol.specs.World.{Opening, messages_sent}
use Rattle.cb_server.specs.Said.{Answered, HasSaid, Opened, Resumed, SaysRowVersions, Stayed}
use Rattle.cb_server.specs.ServerValue.{ServerValue, limits_at, server_of}
use Rattle.cb_server_state.specs.States.{limits_of, opening_of}

-- no page of a store is newer than its last commit
pub sound_opening : (s : StoreState) → IsSound s → SoundOpening (opening_of s)
sound_opening s sound p = by_test (nat_lt p (length s.pages)) refl
  where
    by_test : (b : Bool) → nat_lt p (length s.pages) ≡ b → version_at s p ≤ s.number
    by_test true e = (All-get_or (IsStored s.page_size s.number) s.pages p no_page
        (grind (arith, nat_tests)) sound.pages).version
    by_test false e =
        let past : length s.pages ≤ p = grind (arith, nat_tests) in
        rw (version_at, get_or_past s.pages p no_page past) (omega arith)

-- what a server says to the Hellos of its floor, from the clients below n
pub floor_said : (L : Limits) (o : Opening) (floor : ℕ) → 1 ≤ floor → (n : ℕ) → n ≤ L.clients
    → (sent : List Message) × SentByServer L on_cycle o (greeted L o floor n) sent
floor_said L o floor least zero within = (
  [],
  subst (λ (s : Server). SentByServer L on_cycle o s []) (sym (none_greeted L o floor))
      SentNothing,
)
floor_said L o floor least (suc n) within =
    let before = floor_said L o floor least n (omega (arith, within)) in
    let next : n + 1 ≡ suc n = omega arith in
    let says : List Message = messages_sent (input_steps on_cycle (greeted L o floor n)
    (MessageComes n floor Hello)) in (
      before.0 ++ says,
      subst (λ (s : Server). SentByServer L on_cycle o s (before.0 ++ says))
          (greets_alone L on_cycle o floor n least ∙ ap (greeted L o floor) next)
          (SentAfter before.1 (MessageComes n floor Hello) (omega (arith, within))),
    )

-- it has no rows then, so nothing that was said counts
kept_resumed : (L : Limits) (o : Opening) (floor : ℕ) → SoundOpening o → 1 ≤ floor
    → Kept L (server_of_life L o floor) []
kept_resumed L o floor sound least =
    let said = floor_said L o floor least L.clients (omega arith) in
    let kept : Kept L (server_of_life L o floor) said.0 =
    kept_by_server L on_cycle o (server_of_life L o floor) said.0 sound said.1 in record {
      orderly = kept.orderly;
      clients = kept.clients;
      facts = weaker (λ f. IsIn f said.0) (λ f. IsIn f []) (server_of_life L o floor)
          (λ f i. absurd i) kept.facts;
      sent = λ c p g e. absurd cc;
    }

-- what is kept of a server and of all that its calls answered
kept_said : (value : ServerValue) (said : List Message) → HasSaid value said
    → Kept (limits_at value) (server_of value) said
kept_said value said (Opened bounds store v sound is) =
    subst (λ (b : Bounds). Kept (limits_of b) (server_of v) []) (sym is.limits)
    (subst (λ (s : Server). Kept (limits_of bounds) s []) (sym is.server)
    (kept_new (limits_of bounds) (opening_of store) (sound_opening store sound)))
kept_said value said (Resumed bounds store floor v sound least is) =
    subst (λ (b : Bounds). Kept (limits_of b) (server_of v) []) (sym is.limits)
    (subst (λ (s : Server). Kept (limits_of bounds) s []) (sym is.server)
    (kept_resumed (limits_of bounds) (opening_of store) floor (sound_opening store sound) least))
kept_said value said (Answered {old = old} {said = before} has input messages new comes does) =
    subst (λ (b : Bounds). Kept (limits_of b) (server_of new) (before ++ messages))
    (sym does.limits)
    (subst (λ (m : List Message). Kept (limits_at old) (server_of new) (before ++ m))
    (sym does.sends)
    (subst (λ (s : Server). Kept (limits_at old) s
    (before ++ messages_sent (input_steps on_cycle (server_of old) input))) (sym does.becomes)
    (kept_input (limits_at old) on_cycle (server_of old) before input
    (kept_said old before has) comes)))
kept_said value said (Stayed {old = old} {said = before} has new limits same) =
    subst (λ (b : Bounds). Kept (limits_of b) (server_of new) before) (sym limits)
    (subst (λ (s : Server). Kept (limits_at old) s before) (sym same)
    (kept_said old before has))

pub says_row_versions : (value : ServerValue) → SaysRowVersions value
says_row_versions value said has =
    row_versions (limits_at value) (server_of value) said (kept_said value said has)
