-- Goals of `put_stub`.
use Rattle.std.proofs.Common.{◌+◌, ◌++◌, List, ℕ}
use Rattle.std.proofs.KnownBytes.{Appends-trans}
use Rattle.cb_chart.specs.Layouts.{row_line}
use Rattle.cb_chart.specs.Signs.{cross_class_text, cross_text, stub_class_text, stub_end}
use Rattle.cb_chart.specs.Signs.{stub_way_text}
use Rattle.cb_chart.proofs.picture.arrows.put_stub.Goals as goal

pub returns : goal.returns
returns g c =
    let sending = c.args.sending.now in
    let way : List ℕ = stub_way_text c.args.layout.now sending in
    let class : List ℕ = cross_class_text sending.packet.kind in
    let cross : List ℕ = cross_text (stub_end c.args.layout.now sending) (row_line sending.event + 7) in
    Appends-trans _ _ _ (stub_class_text sending.packet.kind) (way ++ (class ++ cross)) c.in_ok-put_stub_class.ensures
    (Appends-trans _ _ _ way (class ++ cross) c.in_ok-put_stub_way.ensures
    (Appends-trans _ _ _ class cross c.in_ok-put_cross_class.ensures
    (rw (← c.stub_end-x.ensures.value, ← c.row-row.ensures.value) c.in_ok-put_cross.ensures)))
