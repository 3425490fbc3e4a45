-- Goals of `draw_to`.
use Rattle.std.proofs.Common.{◌≡◌, List, subst, rules}
use Rattle.std.specs.Io.KnownBytes.{Appends}
use Rattle.std.specs.List.{flat_map}
use Rattle.cb_transcript.specs.declared.event.Event.{Event}
use Rattle.cb_console.specs.DrawnText.{event_text}
use Rattle.cb_console.proofs.PrintedDraws.{drawn_run, refused_run}
use Rattle.cb_console.proofs.drawn.draw_to.Goals as goal

pub returns-in_ok-put_events-in-Ok : goal.returns-in_ok-put_events-in-Ok
returns-in_ok-put_events-in-Ok g c =
    let lent : c.as_slice.result.now ≡ c.in-Ok.events.items = search rules in
    drawn_run _ _ _ _ _ _ _ c.in-Ok.ensures.ok
    (subst (λ (events : List Event). Appends (g.O.Write.contents c.args.out.now) (g.O.Write.contents c.put_events.new.out) (flat_map event_text events)) lent c.in_ok-put_events-in-Ok.ensures)

pub returns-in-Err : goal.returns-in-Err
returns-in-Err g c = refused_run _ _ _ _ _ _ _ _ c.in-Err.ensures.fault c.print_fault.ensures
