-- How bars, arrows and stubs are spelled. This project's rules.
use Rattle.std.specs.Prelude.{◌+◌, ◌-◌, ◌*◌, ◌++◌, ℕ, Bool, true, false, List, [], codes}
use Rattle.std.specs.Prelude.{if◌then◌else◌}
use Rattle.std.specs.Fmt.{decimal}
use Rattle.cb_chart.specs.Arrows.{is_again, is_taken}
use Rattle.cb_chart.specs.declared.arrows.Arrow.{Arrow}
use Rattle.cb_chart.specs.declared.arrows.Sending.{Sending}
use Rattle.cb_frame.specs.Kinds.{goes_to_server}
use Rattle.cb_frame.specs.declared.kind.Kind.{Kind}
use Rattle.cb_frame.specs.declared.kind.Kind.TheVariants as kind
use Rattle.cb_chart.specs.Layouts.{bar_line, row_line, source_line, target_line}
use Rattle.cb_chart.specs.declared.picture.columns.PlacedBar.{PlacedBar}
use Rattle.cb_chart.specs.declared.picture.layout.Layout.{Layout}

-- the class of a packet of that kind: its colour
abbrev pub family_of : Kind → List ℕ
family_of kind.Hello = codes "hello"
family_of kind.Welcome = codes "hello"
family_of kind.AskRead = codes "ask"
family_of kind.AskWrite = codes "ask"
family_of kind.Granted = codes "grant"
family_of kind.MayWrite = codes "grant"
family_of kind.Callback = codes "call"
family_of kind.Downgrade = codes "call"
family_of kind.GiveBack = codes "back"
family_of kind.InUse = codes "back"
family_of kind.Downgraded = codes "back"
family_of kind.Commit = codes "commit"
family_of kind.Done = codes "commit"
family_of kind.Drop = codes "abort"
family_of kind.AbortNow = codes "abort"

-- what an arrow is classed as beside its colour, where an earlier event took its packet, too
abbrev pub again_text : Bool → List ℕ
again_text true = codes " again"
again_text false = []

-- how an arrow begins, with its colour
abbrev pub class_text : Kind → (again : Bool) → List ℕ
class_text of again =
    codes "<path class=\"arrow " ++ (family_of of ++ (again_text again ++ codes "\""))

-- it goes from the lane and the row where its packet was sent to those where it was taken
abbrev pub way_text : Layout → Arrow → List ℕ
way_text layout arrow =
    codes " d=\"M" ++ (decimal (source_line layout arrow.packet)
    ++ (codes " " ++ (decimal (row_line arrow.sent)
    ++ (codes "L" ++ (decimal (target_line layout arrow.packet)
    ++ (codes " " ++ (decimal (row_line arrow.taken) ++ codes "\"")))))))

-- its head
abbrev pub point_text : Kind → List ℕ
point_text of = codes " marker-end=\"url(#" ++ (family_of of ++ codes ")\"/>\n")

abbrev pub arrow_text : Layout → List Arrow → Arrow → List ℕ
arrow_text layout arrows arrow =
    class_text arrow.packet.kind (is_again arrows arrow)
    ++ (way_text layout arrow ++ point_text arrow.packet.kind)

-- where a stub ends: 26 beside the lane that its packet comes from
abbrev pub stub_end : Layout → Sending → ℕ
stub_end layout sending =
    if goes_to_server sending.packet.kind then source_line layout sending.packet - 26
    else source_line layout sending.packet + 26

-- how a stub begins
abbrev pub stub_class_text : Kind → List ℕ
stub_class_text of = codes "<path class=\"arrow stub " ++ (family_of of ++ codes "\"")

-- it goes from the lane and the row where its packet was sent, a little down
abbrev pub stub_way_text : Layout → Sending → List ℕ
stub_way_text layout sending =
    codes " d=\"M" ++ (decimal (source_line layout sending.packet)
    ++ (codes " " ++ (decimal (row_line sending.event)
    ++ (codes "L" ++ (decimal (stub_end layout sending)
    ++ (codes " " ++ (decimal (row_line sending.event + 7) ++ codes "\"/>")))))))

-- a cross of that colour
abbrev pub cross_class_text : Kind → List ℕ
cross_class_text of = codes "<path class=\"cross " ++ (family_of of ++ codes "\"")

-- at that place
abbrev pub cross_text : (x y : ℕ) → List ℕ
cross_text x y =
    codes " d=\"M" ++ (decimal (x - 3) ++ (codes " " ++ (decimal (y - 3)
    ++ (codes "L" ++ (decimal (x + 3) ++ (codes " " ++ (decimal (y + 3)
    ++ (codes "M" ++ (decimal (x + 3) ++ (codes " " ++ (decimal (y - 3)
    ++ (codes "L" ++ (decimal (x - 3) ++ (codes " " ++ (decimal (y + 3)
    ++ codes "\"/>\n")))))))))))))))

-- a stub, with a cross at its end
abbrev pub stub_text : Layout → Sending → List ℕ
stub_text layout sending =
    stub_class_text sending.packet.kind
    ++ (stub_way_text layout sending
    ++ (cross_class_text sending.packet.kind
    ++ cross_text (stub_end layout sending) (row_line sending.event + 7)))

-- a stub of a packet that no event took; nothing of another
abbrev pub lost_text : Layout → List Arrow → Sending → List ℕ
lost_text layout arrows sending =
    if is_taken arrows sending.packet.number then [] else stub_text layout sending

-- a copy that its client may write is darker
abbrev pub shade_of : Bool → List ℕ
shade_of true = codes "writes"
shade_of false = codes "reads"

-- A bar begins in the middle of the row of its first event, and ends in that of the event behind
-- its last one.
abbrev pub bar_text : Layout → PlacedBar → List ℕ
bar_text layout placed =
    codes "<rect class=\"" ++ (shade_of placed.bar.copy.may_write
    ++ (codes "\" x=\"" ++ (decimal (bar_line layout placed.bar.copy.client placed.column)
    ++ (codes "\" y=\"" ++ (decimal (row_line placed.bar.first)
    ++ (codes "\" width=\"12\" height=\""
    ++ (decimal (18 * (placed.bar.last + 1 - placed.bar.first))
    ++ codes "\"/>\n")))))))
