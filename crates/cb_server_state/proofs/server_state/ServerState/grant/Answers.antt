-- Goals of `ServerState::grant`.
use Rattle.std.proofs.Common.{◌≡◌, ◌∙◌, refl, ap, arith}
use Rattle.cb_commit.specs.Stores.{StoreState, bytes_at, version_at}
use Rattle.cb_server_state.specs.States.{server_of}
use Rattle.cb_server_state.proofs.Changes.{grants}
use Rattle.cb_server_state.proofs.server_state.ServerState.grant.Goals as goal

pub returns-clause-says : goal.returns-clause-says
returns-clause-says c =
    let version : c.version-version.result ≡ (server_of c.args.self.now).store.version c.args.page =
    c.version-version.ensures.value ∙ ap (λ (s : StoreState). version_at s c.args.page) c.store-store.ensures.value in
    let bytes : c.bytes.result.now ≡ (server_of c.args.self.now).store.bytes c.args.page =
    c.bytes.ensures.value ∙ ap (λ (s : StoreState). bytes_at s c.args.page) c.store-store.ensures.value in
    let copies = c.requires.room.copies in
    grants c.args.self.now c.grant-grant.new.self c.args.client c.args.page _ c.args.outbox.now c.grant.new.self
    c.grant-grant.ensures.grants (rw (c.incarnation-incarnation.ensures, c.grant-grant.ensures.number, version, bytes) refl) (omega (arith, copies)) c.grant.ensures
