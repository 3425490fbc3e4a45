-- The texts of faults, as they are printed. This project's rules.
use Rattle.std.specs.Prelude.{ℕ, List, ◌++◌, codes, Option, Some, option_map}
use Rattle.cb_frame.specs.declared.fault.BytesFault.{BytesFault}
use Rattle.cb_frame.specs.declared.fault.BytesFault.TheVariants as bytes
use Rattle.cb_frame.specs.declared.fault.FrameFault.{FrameFault}
use Rattle.cb_frame.specs.declared.fault.FrameFault.TheVariants as fault

-- the number and the name of a fault of a frame's bytes
abbrev pub frame_text : FrameFault → List ℕ
frame_text fault.Short = codes "1 Short"
frame_text fault.Version = codes "2 Version"
frame_text fault.Kind = codes "3 Kind"
frame_text fault.Length = codes "4 Length"
frame_text fault.Range = codes "5 Range"
frame_text fault.Order = codes "6 Order"
frame_text fault.Memory = codes "7 Memory"

-- of bytes that came: the fault of the frame, or that of who took it, behind the number and name
-- of which of both it is
abbrev pub bytes_text : {F : Type 0} → (F → Option (List ℕ)) → BytesFault F → Option (List ℕ)
bytes_text shown (bytes.Frame fault) = Some (codes "1 Frame: " ++ frame_text fault)
bytes_text shown (bytes.Taker fault) = option_map (λ text. codes "2 Taker: " ++ text) (shown fault)
