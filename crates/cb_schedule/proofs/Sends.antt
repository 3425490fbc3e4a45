-- What is sent stays the spelling of frames.
use Rattle.std.proofs.Common.{◌≡◌, ℕ, ◌<◌, List, [], ◌∷◌, ◌++◌, take, Some, length, refl, subst, ap, arith, zero, suc, ◌∙◌}
use Rattle.std.specs.Prelude.{slice_get, slice_index_or}
use Rattle.std.specs.List.{AllByRecursion}
use Rattle.std.proofs.lemmas.List.Elements.{All-get_or, All-push, All-take}
use Rattle.std.proofs.lemmas.Option.{get_or_from_slice_get, slice_get_within}
use Rattle.cb_page.specs.Bounds.{Bounds}
use Rattle.std.specs.Prelude.{Bool, false, true, not, slice_index}
use Rattle.cb_frame.specs.Checks.{has_pages, kind_of}
use Rattle.cb_frame.specs.Grammar.{Fits, IsFrame, IsFrameIn}
use Rattle.cb_frame.specs.Kinds.{code_of, is_short, kind_of_body}
use Rattle.cb_frame.specs.Spelling.{spelling, spelling_in}
use Rattle.cb_frame.specs.declared.kind.Kind.{Kind}
use Rattle.cb_frame.specs.declared.kind.Kind.TheVariants as kind
use Rattle.cb_frame.specs.declared.frame.Frame.{Frame}
use Rattle.cb_frame.specs.declared.version.FrameVersion.TheVariants.{Two}
use Rattle.cb_schedule.specs.Packets.{ArePackets, IsSpelled, PacketsState}

-- a frame as it is written is one of the newest version
pub in_newest : (limits : Bounds) (frame : Frame) (bytes : List ℕ) → IsFrame limits frame bytes → IsFrameIn Two limits frame bytes
unfolding spelling
in_newest limits frame bytes is = record { fits = is.0; size = refl; kind = refl; spelled = is.1 }

-- one packet more
pub one_more : (packets : PacketsState) (frame : Frame) → ArePackets packets → Fits packets.limits frame → ArePackets (record { limits = packets.limits; sent = packets.sent ++ spelling frame ∷ [] })
one_more packets frame is fits = record {
  limits = is.limits;
  spelled = All-push (IsSpelled packets.limits) packets.sent (spelling frame) is.spelled (frame, (fits, refl));
}

-- the first of them
pub first_ones : (packets : PacketsState) (n : ℕ) → ArePackets packets → ArePackets (record { limits = packets.limits; sent = take n packets.sent })
first_ones packets n is = record { limits = is.limits; spelled = All-take (IsSpelled packets.limits) n packets.sent is.spelled }

-- each of them is a frame, spelled
pub spelled_at : (packets : PacketsState) (n : ℕ) (bytes : List ℕ) → ArePackets packets → slice_get packets.sent n ≡ Some bytes → IsSpelled packets.limits bytes
spelled_at packets n bytes is at =
    subst (λ (x : List ℕ). IsSpelled packets.limits x) (get_or_from_slice_get packets.sent n bytes bytes at)
    (All-get_or (IsSpelled packets.limits) packets.sent n bytes (slice_get_within packets.sent n bytes at) is.spelled)

none_below : (i : ℕ) → i < 0 → ⊥
none_below i h = omega (arith, h)

-- what holds of each holds of the one at a place
pub one_of : {X : Type 0} (P : X → Type 0) (xs : List X) (i : ℕ) (d : X) → AllByRecursion P xs → i < length xs → P (slice_index_or xs i d)
one_of P [] i d all h = absurd (none_below i h)
one_of P (x ∷ xs) zero d all h = all.0
one_of P (x ∷ xs) (suc i) d all h = one_of P xs i d all.1 (omega (arith, h))

-- whether a kind has page bytes is read off its code
pages_of_code : (k : Kind) → has_pages (kind_of (code_of k)) ≡ not (is_short k)
unfolding kind_of
pages_of_code kind.Hello = refl
pages_of_code _ = refl

-- the second byte of a frame is the code of its kind
code_there : (frame : Frame) → slice_index (spelling frame) 1 ≡ code_of (kind_of_body frame.body)
unfolding spelling spelling_in
code_there frame = refl

-- whether a frame has page bytes is read off its bytes
pub pages_in : (limits : Bounds) (frame : Frame) (bytes : List ℕ) → IsFrame limits frame bytes → has_pages (kind_of (slice_index bytes 1)) ≡ not (is_short (kind_of_body frame.body))
pages_in limits frame bytes is =
    ap (λ (bs : List ℕ). has_pages (kind_of (slice_index bs 1))) is.1
    ∙ (ap (λ (n : ℕ). has_pages (kind_of n)) (code_there frame) ∙ pages_of_code (kind_of_body frame.body))

not_short : (b : Bool) → (not b ≡ false → ⊥) → b ≡ false
not_short true wants = absurd (wants refl)
not_short false wants = refl

-- a frame of which memory may be wanted has page bytes
pub has_bytes : (limits : Bounds) (frame : Frame) (bytes : List ℕ) → (has_pages (kind_of (slice_index bytes 1)) ≡ false → ⊥) → IsFrame limits frame bytes → is_short (kind_of_body frame.body) ≡ false
has_bytes limits frame bytes wants is = not_short (is_short (kind_of_body frame.body)) (λ short. wants (pages_in limits frame bytes is ∙ short))
