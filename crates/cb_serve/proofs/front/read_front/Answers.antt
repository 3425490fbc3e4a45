-- Goals of `read_front`.
use Rattle.std.proofs.Common.{◌≡◌, ◌∙◌, ℕ, zero, suc, ◌+◌, ◌<◌, ◌≤◌, List, [], ◌∷◌, take, length, refl, sym, ap, subst, arith}
use Rattle.std.proofs.lemmas.List.{length-take-le}
use Rattle.std.proofs.lemmas.Result.{IfOk-weaker}
use Rattle.cb_frame.specs.Checks.{body_length}
use Rattle.cb_frame.specs.Grammar.{IsFrameInSome}
use Rattle.cb_page.specs.Bounds.{Bounds}
use Rattle.cb_serve.specs.Fronts.{IsFront, IsWhole}
use Rattle.cb_serve.specs.Streams.{IsUnread, is_no_header}
use Rattle.cb_serve.specs.declared.front.Front.{Front}
use Rattle.cb_serve.specs.declared.front.Front.TheVariants as front
use Rattle.cb_serve.proofs.front.read_front.Goals as goal

-- a front of a front
shorter : (n m : ℕ) (bytes : List ℕ) → n ≤ m → take n (take m bytes) ≡ take n bytes
shorter zero m bytes less = refl
shorter (suc n) zero bytes less = absurd (omega arith)
shorter (suc n) (suc m) [] less = refl
shorter (suc n) (suc m) (byte ∷ bytes) less = ap (λ (k : List ℕ). byte ∷ k) (shorter n m bytes (omega arith))

-- what bytes are whole, stands at the front of more
whole_in_front : (l : Bounds) (bytes : List ℕ) (n : ℕ) (x : Front) → n ≤ length bytes → 0 < n → IsWhole l (take n bytes) x → IsFront l bytes x
whole_in_front l bytes n (front.Frame frame used) within some is =
    let size : length (take n bytes) ≡ n = length-take-le n bytes within in
    let few = is.1 in
    (subst (λ (k : List ℕ). IsFrameInSome l frame k) (shorter used n bytes (omega arith)) is.0, omega arith)
whole_in_front l bytes n (front.Unread used) within some is =
    let size : used ≡ n = is.1 ∙ length-take-le n bytes within in
    (subst (λ (k : ℕ). IsUnread l (take k bytes)) (sym size) is.0, omega arith, omega arith)
whole_in_front l bytes n front.Again within some is = absurd is
whole_in_front l bytes n front.Part within some is = absurd is
whole_in_front l bytes n front.NoFrame within some is = absurd is

pub read_whole-requires-clause-header : goal.read_whole-requires-clause-header
read_whole-requires-clause-header c =
    ap (is_no_header c.args.limits.now) (shorter 16 (16 + c.body_length-whole.result) c.args.bytes.now (omega arith)) ∙ sym c.is_no_header.ensures ∙ c.if-is_no_header.false

pub read_whole-requires-clause-whole : goal.read_whole-requires-clause-whole
read_whole-requires-clause-whole c =
    length-take-le (16 + c.body_length-whole.result) c.args.bytes.now c.if-bytes-whole.false
    ∙ ap (λ (k : ℕ). 16 + k) (c.body_length-whole.ensures.value ∙ ap body_length (sym (shorter 16 (16 + c.body_length-whole.result) c.args.bytes.now (omega arith))))

pub returns : goal.returns
returns c =
    IfOk-weaker c.read_whole.result _ _
    (λ (x : Front) is. whole_in_front c.args.limits.now c.args.bytes.now (16 + c.body_length-whole.result) x c.if-bytes-whole.false (omega arith) is)
    c.read_whole.ensures
