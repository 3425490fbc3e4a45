-- Where everything is, in pixels. This project's rules.
use Rattle.std.specs.Prelude.{◌+◌, ◌*◌, ◌%◌, ℕ, if◌then◌else◌}
use Rattle.cb_frame.specs.Kinds.{goes_to_server}
use Rattle.cb_chart.specs.declared.picture.layout.Layout.{Layout}
use Rattle.cb_chart.specs.declared.picture.layout.Room.{Room}
use Rattle.cb_chart.specs.declared.picture.layout.Room.TheVariants as room
use Rattle.cb_transcript.specs.declared.answer.SentPacket.{SentPacket}

-- how many bars fit beside a lane
abbrev pub columns_in : Room → ℕ
columns_in room.Two = 2
columns_in room.Four = 4
columns_in room.Eight = 8
columns_in room.Sixteen = 16
columns_in room.ThirtyTwo = 32
columns_in room.SixtyFour = 64

-- the width of a client's lane: its bars of 14, and 92 for its labels
abbrev pub lane_width : Room → ℕ
lane_width room = columns_in room * 14 + 92

-- the line of a client's lane
abbrev pub client_line : Layout → (client : ℕ) → ℕ
client_line layout client = 340 + lane_width layout.room * client

-- the lines of the lanes that a packet comes from, and goes to
abbrev pub source_line : Layout → SentPacket → ℕ
source_line layout packet =
    if goes_to_server packet.kind then client_line layout packet.client else 244

abbrev pub target_line : Layout → SentPacket → ℕ
target_line layout packet =
    if goes_to_server packet.kind then 244 else client_line layout packet.client

-- the middle of an event's row
abbrev pub row_line : (event : ℕ) → ℕ
row_line event = 113 + 18 * event

-- where a bar begins that stands in that column of the client's lane: columns that don't fit stand
-- on the first ones
abbrev pub bar_line : Layout → (client column : ℕ) → ℕ
bar_line layout client column =
    client_line layout client + 5 + 14 * (column % columns_in layout.room)
