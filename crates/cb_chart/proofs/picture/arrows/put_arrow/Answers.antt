-- Goals of `put_arrow`.
use Rattle.std.proofs.Common.{◌++◌}
use Rattle.std.proofs.KnownBytes.{Appends-trans}
use Rattle.cb_chart.specs.Arrows.{is_again}
use Rattle.cb_chart.specs.Signs.{class_text, point_text, way_text}
use Rattle.cb_chart.proofs.picture.arrows.put_arrow.Goals as goal

pub returns : goal.returns
returns g c =
    let arrow = c.args.arrow.now in
    let again = is_again c.args.chart.now.arrows.items arrow in
    Appends-trans _ _ _ (class_text arrow.packet.kind again) (way_text c.args.layout.now arrow ++ point_text arrow.packet.kind) (rw (← c.is_again.ensures) c.in_ok-put_class.ensures)
    (Appends-trans _ _ _ (way_text c.args.layout.now arrow) (point_text arrow.packet.kind) c.in_ok-put_way.ensures c.in_ok-put_point.ensures)
