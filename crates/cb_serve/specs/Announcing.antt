-- What a server says first that announces its life.
use Rattle.std.specs.Prelude.{◌≡◌, ℕ, List, [], ◌∷◌, ◌++◌, take, Option}
use Rattle.std.specs.Int.{w64}
use Rattle.std.specs.Io.KnownBytes.{Appends}
use Rattle.cb_frame.specs.Fields.{word}
use Rattle.cb_serve.specs.declared.fault.RoundFault.{RoundFault}
use Rattle.cb_serve.specs.declared.fault.RoundFault.TheVariants as round

-- a header of version 2 and kind 0, of client 0 and length 0, whose incarnation is the floor
abbrev pub announcement : (floor : ℕ) → List ℕ
announcement floor = 2 ∷ 0 ∷ 0 ∷ 0 ∷ (word w64 floor ++ (0 ∷ 0 ∷ 0 ∷ 0 ∷ []))

-- why it wasn't said, or not whole: memory was refused, and nothing put out; or a front of it was
abbrev pub StaysUnannounced : RoundFault → (floor : ℕ) → (old_out new_out : Option (List ℕ))
    → Type 0
StaysUnannounced round.Memory floor old_out new_out = new_out ≡ old_out
StaysUnannounced (round.Output e) floor old_out new_out =
    (n : ℕ) × Appends old_out new_out (take n (announcement floor))
StaysUnannounced _ floor old_out new_out = ⊥
