-- Frames that are sent, and the messages that they carry.
use Rattle.std.proofs.Common.{◌≡◌, ◌+◌, ◌<◌, take, ℕ, List, [], ◌∷◌, ◌++◌, Option, None, Some, zero, suc, length, map, refl, ap, ◌∙◌, sym, arith}
use Rattle.std.specs.Prelude.{slice_get, slice_index_or}
use Rattle.std.proofs.lemmas.List.{length-append, length-take-le, take_more}
use Rattle.std.specs.List.{AllByRecursion}
use Rattle.cb_frame.specs.Kinds.{code_of, kind_of_body}
use Rattle.cb_frame.specs.Grammar.{Fits}
use Rattle.cb_frame.specs.Spelling.{spelling}
use Rattle.cb_frame.specs.declared.frame.Body.{Body}
use Rattle.cb_frame.specs.declared.frame.Body.TheVariants as body
use Rattle.cb_frame.specs.declared.frame.ShortBody.TheVariants as short
use Rattle.cb_frame.specs.declared.frame.Frame.{Frame}
use Rattle.cb_outbox.specs.Messages.{body_of, messages_of}
use Rattle.cb_schedule.specs.Packets.{IsSpelled}
use Rattle.cb_schedule.specs.Wire.{AllSpell, Spells}
use Rattle.cb_page.specs.Bounds.{Bounds}
use Rattle.cb_protocol.specs.Messages.{Message, kind}
use Rattle.cb_protocol.specs.World.{numbered_from, packet_at}
use Rattle.cb_transcript.specs.ProtocolEvents.{sent_of}
use Rattle.cb_transcript.specs.declared.answer.SentPacket.{SentPacket}
use Rattle.cb_schedule.specs.NetMoves.{sent_as}

-- each frame is spelled
pub frames_spell : (l : Bounds) (frames : List Frame) → AllByRecursion (Fits l) frames → AllSpell l (map spelling frames) (messages_of frames)
frames_spell l [] h = tt
frames_spell l (f ∷ fs) h = (record { frame = f; spelled = (h.0, refl); carries = refl }, frames_spell l fs h.1)

pub all_spell : (l : Bounds) (ps qs : List (List ℕ)) (ms ns : List Message) → AllSpell l ps ms → AllSpell l qs ns → AllSpell l (ps ++ qs) (ms ++ ns)
all_spell l [] qs [] ns a b = b
all_spell l (p ∷ ps) qs (m ∷ ms) ns a b = (a.0, all_spell l ps qs ms ns a.1 b)
all_spell l [] qs (m ∷ ms) ns a b = absurd a
all_spell l (p ∷ ps) qs [] ns a b = absurd a

-- as many packets as messages
pub spell_length : (l : Bounds) (ps : List (List ℕ)) (ms : List Message) → AllSpell l ps ms → length ms ≡ length ps
spell_length l [] [] a = refl
spell_length l (p ∷ ps) (m ∷ ms) a = ap suc (spell_length l ps ms a.1)
spell_length l [] (m ∷ ms) a = absurd a
spell_length l (p ∷ ps) [] a = absurd a

-- packet n is the spelling of message n
abbrev pub SpelledAt : Bounds → Option (List ℕ) → Option Message → Type 0
SpelledAt l None None = Unit {0}
SpelledAt l (Some bytes) (Some m) = Spells l bytes m
SpelledAt l None (Some m) = ⊥
SpelledAt l (Some bytes) None = ⊥

pub spelled_at : (l : Bounds) (ps : List (List ℕ)) (ms : List Message) (n : ℕ) → AllSpell l ps ms → SpelledAt l (slice_get ps n) (packet_at ms n)
spelled_at l [] [] n a = tt
spelled_at l (p ∷ ps) (m ∷ ms) zero a = a.0
spelled_at l (p ∷ ps) (m ∷ ms) (suc n) a = spelled_at l ps ms n a.1
spelled_at l [] (m ∷ ms) n a = absurd a
spelled_at l (p ∷ ps) [] n a = absurd a

-- a frame's kind has the protocol's number
pub kind_code : (b : Body) → code_of (kind_of_body b) ≡ kind (body_of b)
kind_code (body.Short short.Hello) = refl
kind_code (body.Short (short.AskRead txn page)) = refl
kind_code (body.Short (short.AskWrite txn page grant)) = refl
kind_code (body.Short (short.GiveBack page grant)) = refl
kind_code (body.Short (short.InUse txn page grant)) = refl
kind_code (body.Short (short.Drop txn)) = refl
kind_code (body.Short short.Welcome) = refl
kind_code (body.Short (short.MayWrite txn page grant)) = refl
kind_code (body.Short (short.Callback page grant)) = refl
kind_code (body.Short (short.Done txn number)) = refl
kind_code (body.Short (short.AbortNow txn)) = refl
kind_code (body.Short (short.Downgraded page grant txn)) = refl
kind_code (body.Short (short.Downgrade page grant txn)) = refl
kind_code (body.Commit txn writes) = refl
kind_code (body.Granted page grant version bytes) = refl

-- as many packets as frames
pub sent_length : (n : ℕ) (frames : List Frame) → length (map spelling frames) ≡ length (sent_as n frames)
sent_length n [] = refl
sent_length n (f ∷ fs) = ap suc (sent_length (n + 1) fs)

-- each of them is the spelling of a frame
pub frames_spelled : (l : Bounds) (frames : List Frame) → AllByRecursion (Fits l) frames → AllByRecursion (IsSpelled l) (map spelling frames)
frames_spelled l [] h = tt
frames_spelled l (f ∷ fs) h = ((f, (h.0, refl)), frames_spelled l fs h.1)

pub numbered : (n : ℕ) (frames : List Frame) → numbered_from n (messages_of frames) ≡ map sent_of (sent_as n frames)
numbered n [] = refl
numbered n (f ∷ fs) = λ i. record { number = n; kind = sym (kind_code f.body) i; client = f.client } ∷ numbered (n + 1) fs i

zero_more : (n : ℕ) → n ≡ n + 0
zero_more n = omega (arith)

-- one frame more
pub sent_more : (n : ℕ) (frames : List Frame) (f : Frame) → sent_as n (frames ++ f ∷ []) ≡ sent_as n frames ++ record { number = n + length frames; kind = kind_of_body f.body; client = f.client } ∷ []
sent_more n [] f = λ i. record { number = zero_more n i; kind = kind_of_body f.body; client = f.client } ∷ []
sent_more n (g ∷ gs) f = ap (λ (xs : List SentPacket). record { number = n; kind = kind_of_body g.body; client = g.client } ∷ xs)
    (sent_more (n + 1) gs f ∙ (λ i. sent_as (n + 1) gs ++ record { number = moved n (length gs) i; kind = kind_of_body f.body; client = f.client } ∷ []))
  where
    moved : (n m : ℕ) → (n + 1) + m ≡ n + suc m
    moved n m = omega (arith)

-- the loop that numbers them takes one step
pub numbered_more : (first i : ℕ) (frames : List Frame) (f : Frame) (list next : List SentPacket) → i < length frames → f ≡ slice_index_or frames i f → list ≡ sent_as first (take i frames)
    → next ≡ list ++ record { number = first + i; kind = kind_of_body f.body; client = f.client } ∷ [] → next ≡ sent_as first (take (i + 1) frames)
numbered_more first i frames f list next h is told put =
    let one : take (i + 1) frames ≡ take i frames ++ f ∷ [] = take_more frames i f h ∙ ap (λ (g : Frame). take i frames ++ g ∷ []) (sym is) in
    let within : length (take i frames) ≡ i = length-take-le i frames (omega (arith, h)) in
    put ∙ ap (λ (xs : List SentPacket). xs ++ record { number = first + i; kind = kind_of_body f.body; client = f.client } ∷ []) told
    ∙ ap (λ (n : ℕ). sent_as first (take i frames) ++ record { number = first + n; kind = kind_of_body f.body; client = f.client } ∷ []) (sym within)
    ∙ sym (ap (λ (xs : List Frame). sent_as first xs) one ∙ sent_more first (take i frames) f)

as_many : (frames : List Frame) → length (map spelling frames) ≡ length frames
as_many [] = refl
as_many (f ∷ fs) = ap suc (as_many fs)

-- the number of the first of them, once they were sent
pub sent_end : (ps : List (List ℕ)) (frames : List Frame) → length (ps ++ map spelling frames) ≡ length ps + length frames
sent_end ps frames = length-append ps (map spelling frames) ∙ ap (λ (n : ℕ). length ps + n) (as_many frames)
