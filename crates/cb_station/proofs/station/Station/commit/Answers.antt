-- Goals of `Station::commit`.
use Rattle.std.proofs.Common.{rules, Ok, Err, ◌++◌, ◌∷◌, [], ◌≡◌, List, true, false, is_err, refl, sym, ap, ◌∙◌, subst}
use Rattle.cb_frame.specs.Grammar.{Fits}
use Rattle.cb_hands.specs.Joined.{IsHeld}
use Rattle.cb_hands.specs.declared.entry.Entry.{Entry}
use Rattle.cb_station.proofs.Admitting.{lacks_memory, refuses}
use Rattle.cb_station.proofs.Calls.{err_fact, ok_fact}
use Rattle.cb_station.proofs.Committed.{entry_within, noted_commit, noted_committed, noted_holds}
use Rattle.cb_station.proofs.Remembering.{still_forgotten}
use Rattle.cb_station.proofs.Stations.{unchanged_station}
use Rattle.cb_station.proofs.Telling.{noted_flags, with_flags}
use Rattle.cb_station.specs.Calls.{Committed}
use Rattle.cb_station.specs.Commits.{AllowsCommit}
use Rattle.cb_station.specs.Stations.{StationState}
use Rattle.cb_station.proofs.Holding.{holds_unchanged}
use Rattle.cb_station.specs.declared.office_fault.OfficeFault.TheVariants as office
use Rattle.cb_station.proofs.station.Station.commit.Goals as goal

pub returns-in_err-number : goal.returns-in_err-number
returns-in_err-number c =
    let is : c.from_residual.result ≡ Err c.in_err-number.field-0.0 = search rules in
    rw is (refuses c.args.self.now _ c.args.frame.now c.args.reads.now c.args.hand.now _ c.in_err-number.field-0.0 c.in_err-number.ensures.refused (search rules) (search rules))

pub returns-in_err-entry : goal.returns-in_err-entry
returns-in_err-entry c =
    let is : c.from_residual-in_err-entry.result ≡ Err office.Memory = search rules in
    rw is (lacks_memory c.args.self.now _ c.args.frame.now c.args.reads.now c.args.hand.now _ c.in_ok-number.number c.in_ok-number.ensures.allowed (search rules) (search rules))

pub returns-then-is_err : goal.returns-then-is_err
returns-then-is_err c = lacks_memory c.args.self.now _ c.args.frame.now c.args.reads.now c.args.hand.now _ c.in_ok-number.number c.in_ok-number.ensures.allowed (search rules) (search rules)

pub entry_of-requires : goal.entry_of-requires
entry_of-requires c = c.in_ok-number.ensures.allowed.own.1

pub take-requires : goal.take-requires
take-requires c = subst (λ (v : StationState). Fits v.dispatcher.server.limits c.args.frame.now) (sym c.self.view_is) c.in_ok-number.ensures.allowed.own.0.fits

pub note-requires-clause-held : goal.note-requires-clause-held
note-requires-clause-held c = subst (λ (v : StationState). IsHeld v.hands c.args.hand.now) (sym c.self.view_is) c.in_ok-number.ensures.allowed.own.0.held

pub note-requires-clause-pages : goal.note-requires-clause-pages
note-requires-clause-pages c = entry_within c.args.self.now c.args.frame.now c.args.hand.now c.args.reads.now c.in_ok-number.number c.in_ok-number.ensures.allowed c.in_ok-entry.entry c.in_ok-entry.ensures.entry

pub invariant_of-self-then-is_err : goal.invariant_of-self-then-is_err
invariant_of-self-then-is_err c =
    let failed : is_err c.take.result ≡ true = sym c.is_err.ensures.value ∙ c.if-is_err.true in (
      unchanged_station (record { dispatcher = c.self.inside.dispatcher; hands = c.self.inside.hands; history = c.self.inside.history.items; flags = c.self.inside.flags }) (record { dispatcher = c.take.new.self; hands = c.self.inside.hands; history = c.entry_of.new.history.items; flags = c.self.inside.flags }) c.self.invariant.0 (record { dispatcher = err_fact c.take.result _ failed c.take.ensures.unchanged; hands = refl; history = c.entry_of.ensures.same; flags = refl }),
      c.entry_of.ensures.forgotten ∙ still_forgotten _ _ _ c.self.invariant.1 (err_fact c.take.result _ failed c.take.ensures.unchanged),
      holds_unchanged c.self.inside.dispatcher c.take.new.self c.self.inside.hands c.self.inside.hands (err_fact c.take.result _ failed c.take.ensures.unchanged) refl c.self.invariant.2,
    )

pub invariant_of-self-2 : goal.invariant_of-self-2
invariant_of-self-2 c =
    let done : is_err c.take.result ≡ false = sym c.is_err.ensures.value ∙ c.if-is_err.false in
    let posts = ok_fact c.take.result _ done c.take.ensures.ok in
    let allowed = subst (λ (v : StationState). AllowsCommit v c.args.frame.now c.args.hand.now c.args.reads.now c.in_ok-number.number) (sym c.self.view_is) c.in_ok-number.ensures.allowed in
    let noted = noted_commit (record { dispatcher = c.self.inside.dispatcher; hands = c.self.inside.hands; history = c.self.inside.history.items; flags = c.self.inside.flags }) c.args.frame.now c.args.hand.now c.args.reads.now c.in_ok-number.number allowed c.in_ok-entry.entry c.in_ok-entry.ensures.entry
    (record { dispatcher = c.take.new.self; hands = c.note.new.hands; history = c.note.new.history.items; flags = c.self.inside.flags }) c.note.new.hand c.self.invariant.0 (ok_fact c.take.result _ done c.take.ensures.arose) posts
    (c.note.ensures.history ∙ ap (λ (h : List Entry). h ++ c.in_ok-entry.entry ∷ []) c.entry_of.ensures.same) c.note.ensures.hand c.note.ensures.stored refl in (
      with_flags c.take.new.self c.note.new.hands c.note.new.history.items c.self.inside.flags noted.0 _ (noted_flags c.self.inside.flags c.self.invariant.0.flags),
      c.note.ensures.forgotten ∙ c.entry_of.ensures.forgotten ∙ c.self.invariant.1 ∙ sym posts.does.forgotten,
      noted_holds (record { dispatcher = c.self.inside.dispatcher; hands = c.self.inside.hands; history = c.self.inside.history.items; flags = c.self.inside.flags }) c.args.frame.now c.args.hand.now c.args.reads.now c.in_ok-number.number allowed c.in_ok-entry.entry c.in_ok-entry.ensures.entry
          (record { dispatcher = c.take.new.self; hands = c.note.new.hands; history = c.note.new.history.items; flags = c.self.inside.flags }) c.note.new.hand c.self.invariant.0 posts c.note.ensures.hand c.note.ensures.stored c.self.invariant.2,
    )

pub returns : goal.returns
returns c =
    let done : is_err c.take.result ≡ false = sym c.is_err.ensures.value ∙ c.if-is_err.false in
    let allowed = subst (λ (v : StationState). AllowsCommit v c.args.frame.now c.args.hand.now c.args.reads.now c.in_ok-number.number) (sym c.self.view_is) c.in_ok-number.ensures.allowed in
    let noted = noted_committed (record { dispatcher = c.self.inside.dispatcher; hands = c.self.inside.hands; history = c.self.inside.history.items; flags = c.self.inside.flags }) c.args.frame.now c.args.hand.now c.args.reads.now c.in_ok-number.number allowed c.in_ok-entry.entry c.in_ok-entry.ensures.entry
    (record { dispatcher = c.take.new.self; hands = c.note.new.hands; history = c.note.new.history.items; flags = c.self.inside.flags }) c.note.new.hand c.self.invariant.0 (ok_fact c.take.result _ done c.take.ensures.arose)
    (ok_fact c.take.result _ done c.take.ensures.ok) (ok_fact c.take.result _ done c.take.ensures.taken) (c.note.ensures.history ∙ ap (λ (h : List Entry). h ++ c.in_ok-entry.entry ∷ []) c.entry_of.ensures.same) c.note.ensures.hand c.note.ensures.stored refl in
    subst (λ (v : StationState). Committed v c.args.frame.now c.args.reads.now c.args.hand.now (Ok c.in_ok-number.number) (record { dispatcher = c.take.new.self; hands = c.note.new.hands; history = c.note.new.history.items; flags = record c.self.inside.flags { news = true } }) c.note.new.hand) c.self.view_is noted
