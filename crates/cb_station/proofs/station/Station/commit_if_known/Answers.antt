-- Goals of `Station::commit_if_known`.
use Rattle.std.proofs.Common.{rules, true, Ok, ◌++◌, ◌∷◌, [], List, refl, sym, ap, ◌∙◌, subst}
use Rattle.cb_frame.specs.Grammar.{Fits}
use Rattle.cb_hands.specs.Joined.{IsHeld}
use Rattle.cb_hands.specs.declared.entry.Entry.{Entry}
use Rattle.cb_station.proofs.Admitting.{lacks_memory, refuses}
use Rattle.cb_station.proofs.Committed.{entry_within, noted_commit, noted_committed, noted_holds}
use Rattle.cb_station.proofs.Remembering.{still_forgotten}
use Rattle.cb_station.proofs.Stations.{unchanged_station}
use Rattle.cb_station.proofs.Telling.{noted_flags, with_flags}
use Rattle.cb_station.specs.Calls.{Committed}
use Rattle.cb_station.specs.Commits.{AllowsCommit}
use Rattle.cb_station.specs.Stations.{StationState}
use Rattle.cb_station.proofs.Holding.{holds_unchanged}
use Rattle.cb_station.proofs.station.Station.commit_if_known.Goals as goal

pub returns-in-Err-clause-committed : goal.returns-in-Err-clause-committed
returns-in-Err-clause-committed c = refuses c.args.self.now _ c.args.frame c.args.reads.now c.args.hand.now _ c.in-Err.fault c.in-Err.ensures.refused (search rules) (search rules)

pub entry_of-requires : goal.entry_of-requires
entry_of-requires c = c.in-Ok.ensures.allowed.own.1

pub take_owned-requires : goal.take_owned-requires
take_owned-requires c = subst (λ (v : StationState). Fits v.dispatcher.server.limits c.args.frame) (sym c.self.view_is) c.in-Ok.ensures.allowed.own.0.fits

pub note-requires-clause-held : goal.note-requires-clause-held
note-requires-clause-held c = subst (λ (v : StationState). IsHeld v.hands c.args.hand.now) (sym c.self.view_is) c.in-Ok.ensures.allowed.own.0.held

pub note-requires-clause-pages : goal.note-requires-clause-pages
note-requires-clause-pages c = entry_within c.args.self.now c.args.frame c.args.hand.now c.args.reads.now c.in-Ok.number c.in-Ok.ensures.allowed c.in-Ok-entry_of.entry c.in-Ok-entry_of.ensures.entry

pub invariant_of-self-in-Err-take_owned : goal.invariant_of-self-in-Err-take_owned
invariant_of-self-in-Err-take_owned c = (
  unchanged_station (record { dispatcher = c.self.inside.dispatcher; hands = c.self.inside.hands; history = c.self.inside.history.items; flags = c.self.inside.flags }) (record { dispatcher = c.take_owned.new.self; hands = c.self.inside.hands; history = c.entry_of.new.history.items; flags = c.self.inside.flags }) c.self.invariant.0 (record { dispatcher = c.in-Err-take_owned.ensures.unchanged; hands = refl; history = c.entry_of.ensures.same; flags = refl }),
  c.entry_of.ensures.forgotten ∙ still_forgotten _ _ _ c.self.invariant.1 c.in-Err-take_owned.ensures.unchanged,
  holds_unchanged c.self.inside.dispatcher c.take_owned.new.self c.self.inside.hands c.self.inside.hands (c.in-Err-take_owned.ensures.unchanged) refl c.self.invariant.2,
)

pub invariant_of-self-in-Ok-take_owned : goal.invariant_of-self-in-Ok-take_owned
invariant_of-self-in-Ok-take_owned c =
    let posts = c.in-Ok-take_owned.ensures.ok in
    let allowed = subst (λ (v : StationState). AllowsCommit v c.args.frame c.args.hand.now c.args.reads.now c.in-Ok.number) (sym c.self.view_is) c.in-Ok.ensures.allowed in
    let noted = noted_commit (record { dispatcher = c.self.inside.dispatcher; hands = c.self.inside.hands; history = c.self.inside.history.items; flags = c.self.inside.flags }) c.args.frame c.args.hand.now c.args.reads.now c.in-Ok.number allowed c.in-Ok-entry_of.entry c.in-Ok-entry_of.ensures.entry
    (record { dispatcher = c.take_owned.new.self; hands = c.note.new.hands; history = c.note.new.history.items; flags = c.self.inside.flags }) c.note.new.hand c.self.invariant.0 c.in-Ok-take_owned.ensures.arose posts
    (c.note.ensures.history ∙ ap (λ (h : List Entry). h ++ c.in-Ok-entry_of.entry ∷ []) c.entry_of.ensures.same) c.note.ensures.hand c.note.ensures.stored refl in (
      with_flags c.take_owned.new.self c.note.new.hands c.note.new.history.items c.self.inside.flags noted.0 _ (noted_flags c.self.inside.flags c.self.invariant.0.flags),
      c.note.ensures.forgotten ∙ c.entry_of.ensures.forgotten ∙ c.self.invariant.1 ∙ sym posts.does.forgotten,
      noted_holds (record { dispatcher = c.self.inside.dispatcher; hands = c.self.inside.hands; history = c.self.inside.history.items; flags = c.self.inside.flags }) c.args.frame c.args.hand.now c.args.reads.now c.in-Ok.number allowed c.in-Ok-entry_of.entry c.in-Ok-entry_of.ensures.entry
          (record { dispatcher = c.take_owned.new.self; hands = c.note.new.hands; history = c.note.new.history.items; flags = c.self.inside.flags }) c.note.new.hand c.self.invariant.0 posts c.note.ensures.hand c.note.ensures.stored c.self.invariant.2,
    )

pub returns-in-Ok-take_owned-clause-committed : goal.returns-in-Ok-take_owned-clause-committed
returns-in-Ok-take_owned-clause-committed c =
    let allowed = subst (λ (v : StationState). AllowsCommit v c.args.frame c.args.hand.now c.args.reads.now c.in-Ok.number) (sym c.self.view_is) c.in-Ok.ensures.allowed in
    let noted = noted_committed (record { dispatcher = c.self.inside.dispatcher; hands = c.self.inside.hands; history = c.self.inside.history.items; flags = c.self.inside.flags }) c.args.frame c.args.hand.now c.args.reads.now c.in-Ok.number allowed c.in-Ok-entry_of.entry c.in-Ok-entry_of.ensures.entry
    (record { dispatcher = c.take_owned.new.self; hands = c.note.new.hands; history = c.note.new.history.items; flags = c.self.inside.flags }) c.note.new.hand c.self.invariant.0 c.in-Ok-take_owned.ensures.arose
    c.in-Ok-take_owned.ensures.ok c.in-Ok-take_owned.ensures.taken (c.note.ensures.history ∙ ap (λ (h : List Entry). h ++ c.in-Ok-entry_of.entry ∷ []) c.entry_of.ensures.same) c.note.ensures.hand c.note.ensures.stored refl in
    subst (λ (v : StationState). Committed v c.args.frame c.args.reads.now c.args.hand.now (Ok c.in-Ok.number) (record { dispatcher = c.take_owned.new.self; hands = c.note.new.hands; history = c.note.new.history.items; flags = record c.self.inside.flags { news = true } }) c.note.new.hand) c.self.view_is noted
