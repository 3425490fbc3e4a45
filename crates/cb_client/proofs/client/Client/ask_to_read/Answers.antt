-- Goals of `Client::ask_to_read`.
use Rattle.std.proofs.Common.{sym}
use Rattle.cb_client.proofs.Calling.{after_ask, after_refused, ask_keeps, called_ask, called_refused, finds_full, finds_room, read_shut_out}
use Rattle.cb_client.proofs.Refusals.{fetch_full, fetch_is, fetch_shut, page_free, page_past}
use Rattle.cb_client.specs.declared.client_fault.ClientFault.TheVariants as fault
use Rattle.cb_client.proofs.client.Client.ask_to_read.Goals as goal

pub returns-then-is_past-clause-decided : goal.returns-then-is_past-clause-decided
returns-then-is_past-clause-decided g c =
    let past = page_past c.args.self.now c.args.page c.requires.free (sym c.if-is_past.ensures.value) in
    fetch_is c.args.self.now c.args.page _ (fetch_shut c.args.self.now c.args.page _ past)

pub returns-then-is_past-clause-after : goal.returns-then-is_past-clause-after
returns-then-is_past-clause-after g c =
    let past = page_past c.args.self.now c.args.page c.requires.free (sym c.if-is_past.ensures.value) in
    after_refused c.args.self.now c.args.page _ (read_shut_out c.args.self.now c.args.page fault.PageRange past)

pub returns-then-is_past-clause-called : goal.returns-then-is_past-clause-called
returns-then-is_past-clause-called g c =
    let past = page_past c.args.self.now c.args.page c.requires.free (sym c.if-is_past.ensures.value) in
    called_refused c.args.self.now c.args.page _ (read_shut_out c.args.self.now c.args.page fault.PageRange past)

pub returns-then-not-has_room-clause-decided : goal.returns-then-not-has_room-clause-decided
returns-then-not-has_room-clause-decided g c =
    let free = page_free c.args.self.now c.args.page c.requires.free (sym c.if-is_past.ensures.value) in
    fetch_is c.args.self.now c.args.page _ (fetch_full c.args.self.now c.args.page free c.requires.away (rw (← c.self.view_is) c.if-not-has_room.ensures.room))

pub returns-then-not-has_room-clause-after : goal.returns-then-not-has_room-clause-after
returns-then-not-has_room-clause-after g c =
    let free = page_free c.args.self.now c.args.page c.requires.free (sym c.if-is_past.ensures.value) in
    after_refused c.args.self.now c.args.page _ (finds_full c.args.self.now c.args.page free c.requires.away (rw (← c.self.view_is) c.if-not-has_room.ensures.room))

pub returns-then-not-has_room-clause-called : goal.returns-then-not-has_room-clause-called
returns-then-not-has_room-clause-called g c =
    let free = page_free c.args.self.now c.args.page c.requires.free (sym c.if-is_past.ensures.value) in
    called_refused c.args.self.now c.args.page _ (finds_full c.args.self.now c.args.page free c.requires.away (rw (← c.self.view_is) c.if-not-has_room.ensures.room))

pub invariant_of-self : goal.invariant_of-self
invariant_of-self g c =
    let free = page_free c.args.self.now c.args.page c.requires.free (sym c.if-is_past.ensures.value) in
    ask_keeps _ c.args.page (rw (← c.self.view_is) at (finds_room c.args.self.now c.args.page free (rw (← c.self.view_is) c.if-not-has_room.ensures.room))) (rw (← c.self.view_is) at c.requires.away) (λ other. record { room = sym (c.if-not-has_room.ensures.room other); within = c.if-not-has_room.ensures.within other }) c.self.invariant

pub returns-clause-decided : goal.returns-clause-decided
returns-clause-decided g c =
    let free = page_free c.args.self.now c.args.page c.requires.free (sym c.if-is_past.ensures.value) in
    finds_room c.args.self.now c.args.page free (rw (← c.self.view_is) c.if-not-has_room.ensures.room)

pub returns-clause-after : goal.returns-clause-after
returns-clause-after g c =
    let free = page_free c.args.self.now c.args.page c.requires.free (sym c.if-is_past.ensures.value) in
    rw (← c.self.view_is)
    (after_ask _ c.args.page (rw (← c.self.view_is) at (finds_room c.args.self.now c.args.page free (rw (← c.self.view_is) c.if-not-has_room.ensures.room))) (rw (← c.self.view_is) at c.requires.away))

pub returns-clause-called : goal.returns-clause-called
returns-clause-called g c =
    let free = page_free c.args.self.now c.args.page c.requires.free (sym c.if-is_past.ensures.value) in
    rw (← c.self.view_is)
    (called_ask _ c.args.page (rw (← c.self.view_is) at (finds_room c.args.self.now c.args.page free (rw (← c.self.view_is) c.if-not-has_room.ensures.room))) (rw (← c.self.view_is) at c.requires.away))
