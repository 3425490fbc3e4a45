-- Pieces, one after another.
use Rattle.std.proofs.Common.{◌≡◌, ◌∙◌, ℕ, zero, suc, ◌+◌, ◌-◌, ◌^◌, ◌<◌, ◌≤◌, min, ◌&&◌, nat_le, Bool, if◌then◌else◌, List, [], ◌∷◌, ◌++◌, refl, sym, ap, subst, take, drop, length, length-drop, append_assoc, arith, true, false, true≢false}
use Rattle.std.proofs.Math.Seq.{take-add}
use Rattle.std.proofs.lemmas.Bool.Decides.{nat_tests}
use Rattle.std.proofs.lemmas.Grind.{flat_map-append}
use Rattle.std.proofs.lemmas.List.{append-nil}
use Rattle.std.specs.List.{AllByRecursion, flat_map}
use Rattle.cb_frame.specs.Grammar.{IsFrameInSome}
use Rattle.cb_frame.specs.Kinds.{kind_of_body}
use Rattle.cb_frame.specs.Spelling.{spelling_in}
use Rattle.cb_frame.specs.declared.frame.Frame.{Frame}
use Rattle.cb_page.specs.Bounds.{Bounds}
use Rattle.cb_protocol.specs.AnyMessages.{Input, SendsAgain}
use Rattle.cb_server.specs.ServerValue.{ServerValue}
use Rattle.cb_shelf.specs.Living.{raise_end}
use Rattle.cb_server.specs.Taking.{Refuses, input_of}
use Rattle.cb_server.specs.declared.server_fault.ServerFault.{ServerFault}
use Rattle.cb_server.specs.declared.server_fault.ServerFault.TheVariants as server
use Rattle.cb_serve.proofs.Inputs.{all_append, answers_nothing, answers_then}
use Rattle.cb_serve.specs.Answering.{Answers, TakesPieces, heard, inputs_in, inputs_of}
use Rattle.cb_serve.specs.Endings.{becomes_of_server}
use Rattle.cb_serve.specs.Fronts.{IsFront}
use Rattle.cb_serve.specs.Rounds.{counted_on}
use Rattle.cb_serve.specs.Steps.{RefusesFrame, RefusesFront, StopsTaking, TakesAll, TakesFront}
use Rattle.cb_serve.specs.Streams.{IsNoFrame, IsPart, IsPiece, Piece, asks_again, bytes_of, comes, count_passed, greets_from, is_hello, let_go, passed_over}
use Rattle.cb_serve.specs.declared.fault.RoundFault.{RoundFault}
use Rattle.cb_serve.specs.declared.fault.RoundFault.TheVariants as round
use Rattle.cb_serve.specs.declared.front.Front.TheVariants as front
use Rattle.cb_serve.specs.declared.taking.Step.TheVariants as step

pub takes_nothing : (old : ServerValue) (bytes : List ℕ) → TakesPieces old bytes [] 0 [] old
takes_nothing old bytes = record { are = tt; within = omega arith; cut = refl; answers = answers_nothing old }

pub takes_then : (old mid new : ServerValue) (bytes : List ℕ) (xs ys : List Piece) (used n : ℕ) (first more : List ℕ)
    → used ≤ length bytes → TakesPieces old bytes xs used first mid → TakesPieces mid (drop used bytes) ys n more new
    → TakesPieces old bytes (xs ++ ys) (used + n) (first ++ more) new
takes_then old mid new bytes xs ys used n first more within a b = record {
  are = all_append (IsPiece old.limits) xs ys a.are (subst (λ (l : Bounds). AllByRecursion (IsPiece l) ys) a.answers.limits b.are);
  within = let left = b.within in omega (arith, length-drop used bytes);
  cut = take-add used n bytes ∙ ap (λ (k : List ℕ). k ++ take n (drop used bytes)) a.cut ∙ ap (λ (k : List ℕ). flat_map bytes_of xs ++ k) b.cut
      ∙ sym (flat_map-append bytes_of xs ys);
  answers = subst (λ (i : List Input). Answers old i (first ++ more) new) (sym (flat_map-append inputs_of xs ys))
      (answers_then old mid new (inputs_in xs) (inputs_in ys) first more a.answers b.answers);
}

pub passed_append : (xs ys : List Piece) → count_passed (xs ++ ys) ≡ count_passed xs + count_passed ys
passed_append [] ys = omega arith
passed_append (x ∷ xs) ys = let ih : count_passed (xs ++ ys) ≡ count_passed xs + count_passed ys = passed_append xs ys in omega arith

-- a frame has bytes
frame_long : (l : Bounds) (f : Frame) (bytes : List ℕ) (used : ℕ) → IsFrameInSome l f (take used bytes) → 0 < used
unfolding spelling_in
frame_long l f bytes zero is = absurd (let e = is.1.spelled in cc)
frame_long l f bytes (suc n) is = omega arith

-- both, or neither
both : (a b : Bool) → (a && b) ≡ true → (a ≡ true) × (b ≡ true)
both true b e = (refl, e)
both false b e = absurd (true≢false (sym e))

-- a Hello from a number on is one from each lower number on
lower : (low high : ℕ) (f : Frame) → low ≤ high → greets_from high f ≡ true → greets_from low f ≡ true
lower low high f less e =
    let p = both (nat_le high f.incarnation) (is_hello (kind_of_body f.body)) e in
    let before : nat_le low f.incarnation ≡ true = (let far = p.0 in grind (arith, nat_tests)) in
    rw before p.1

-- the first piece is taken, by what it is
pub front_frame : (old new : ServerValue) (l : Bounds) (bytes : List ℕ) (f : Frame) (used end : ℕ) (more : List ℕ) → l ≡ old.limits → raise_end ≤ end
    → IsFront l bytes (front.Frame f used) → Answers old (heard end f) more new → TakesFront old bytes (step.Taken used 0) more new
front_frame old new l bytes f used end more same far is answers = go (greets_from end f) refl
  where
    framed : IsFrameInSome old.limits f (take used bytes)
    framed = subst (λ (k : Bounds). IsFrameInSome k f (take used bytes)) same is.0

    told : (b : Bool) → greets_from end f ≡ b → Answers old (if b then [] else input_of f ∷ []) more new
    told b e = subst (λ (t : Bool). Answers old (if t then [] else input_of f ∷ []) more new) e answers

    go : (b : Bool) → greets_from end f ≡ b → TakesFront old bytes (step.Taken used 0) more new
    go true e = (
      frame_long l f bytes used is.0,
      let_go f (take used bytes),
      record { are = ((framed, lower raise_end end f far e), tt); within = is.1; cut = sym (append-nil (take used bytes)); answers = told true e },
      refl,
    )
    go false e = (
      frame_long l f bytes used is.0,
      comes f (take used bytes),
      record { are = (framed, tt); within = is.1; cut = sym (append-nil (take used bytes)); answers = told false e },
      refl,
    )

pub front_again : (old new : ServerValue) (l : Bounds) (bytes more : List ℕ) → IsFront l bytes front.Again → Answers old (SendsAgain ∷ []) more new
    → TakesFront old bytes (step.Taken 16 0) more new
front_again old new l bytes more is answers =
    (omega arith, asks_again, record { are = (tt, tt); within = is.1; cut = is.0; answers = answers }, refl)

pub front_unread : (old : ServerValue) (l : Bounds) (bytes : List ℕ) (used : ℕ) → l ≡ old.limits → IsFront l bytes (front.Unread used)
    → TakesFront old bytes (step.Taken used 1) [] old
front_unread old l bytes used same is = (
  is.2,
  passed_over (take used bytes),
  record {
    are = (subst (λ (k : Bounds). IsPiece k (passed_over (take used bytes))) same is.0, tt);
    within = is.1;
    cut = sym (append-nil (take used bytes));
    answers = answers_nothing old;
  },
  refl,
)

pub front_part : (old : ServerValue) (l : Bounds) (bytes : List ℕ) → l ≡ old.limits → IsFront l bytes front.Part → TakesFront old bytes step.Part [] old
front_part old l bytes same is = (subst (λ (k : Bounds). IsPart k bytes) same is, refl, refl)

pub front_no_frame : (old : ServerValue) (l : Bounds) (bytes : List ℕ) → l ≡ old.limits → IsFront l bytes front.NoFrame → TakesFront old bytes step.NoFrame [] old
front_no_frame old l bytes same is = (subst (λ (k : Bounds). IsNoFrame k bytes) same is, refl, refl)

-- a frame was refused, by the server's fault
pub frame_refused : (old : ServerValue) (frame : Frame) (e : ServerFault) (f : RoundFault) → f ≡ becomes_of_server e → Refuses old frame e → RefusesFrame old frame f
frame_refused old frame server.Exhausted f is refuses = subst (RefusesFrame old frame) (sym is) refuses
frame_refused old frame server.Memory f is refuses = subst (RefusesFrame old frame) (sym is) tt

-- so the first piece was
pub front_refused : (old : ServerValue) (l : Bounds) (bytes : List ℕ) (frame : Frame) (used : ℕ) (f : RoundFault) → l ≡ old.limits
    → IsFront l bytes (front.Frame frame used) → RefusesFrame old frame f → RefusesFront old bytes f
front_refused old l bytes frame used round.Exhausted same is refuses =
    record { frame = frame; used = used; within = is.1; read = subst (λ (k : Bounds). IsFrameInSome k frame (take used bytes)) same is.0; lacks = refuses }
front_refused old l bytes frame used round.Memory same is refuses = tt
front_refused old l bytes frame used round.Shape same is refuses = absurd refuses
front_refused old l bytes frame used round.Store same is refuses = absurd refuses
front_refused old l bytes frame used (round.Input r) same is refuses = absurd refuses
front_refused old l bytes frame used (round.Output e) same is refuses = absurd refuses

-- How far a loop over the pieces of some bytes has come.
pub record SoFar (old : ServerValue) (bytes before after : List ℕ) (used passed_before passed : ℕ) (new : ServerValue) : Type 0 where
  pub pieces : List Piece
  pub more : List ℕ
  pub said : after ≡ before ++ more
  pub takes : TakesPieces old bytes pieces used more new
  pub count_is : passed ≡ counted_on passed_before (count_passed pieces)
  pub within : used ≤ length bytes

pub so_far_nothing : (old : ServerValue) (bytes before : List ℕ) (passed : ℕ) → SoFar old bytes before before 0 passed passed old
so_far_nothing old bytes before passed = record {
  pieces = [];
  more = [];
  said = sym (append-nil before);
  takes = takes_nothing old bytes;
  count_is = refl;
  within = omega arith;
}

-- a count that went on goes on
counts_more : (before n more all now : ℕ) → now ≤ 2 ^ 64 - 1 → now ≡ counted_on before n → all ≡ n + more → min (now + more) (2 ^ 64 - 1) ≡ counted_on before all
counts_more before zero more zero now fits is sum = omega arith
counts_more before zero more (suc all) now fits is sum = omega arith
counts_more before (suc n) more zero now fits is sum = omega arith
counts_more before (suc n) more (suc all) now fits is sum = omega arith

pub so_far_more : (old mid new : ServerValue) (bytes before after later more : List ℕ) (used n passed_before passed passes now : ℕ) → SoFar old bytes before after used passed_before passed mid
    → later ≡ after ++ more → passed ≤ 2 ^ 64 - 1 → now ≡ min (passed + passes) (2 ^ 64 - 1) → TakesFront mid (drop used bytes) (step.Taken n passes) more new
    → SoFar old bytes before later (used + n) passed_before now new
so_far_more old mid new bytes before after later more used n passed_before passed passes now a said fits counted t = record {
  pieces = a.pieces ++ t.1 ∷ [];
  more = a.more ++ more;
  said = said ∙ ap (λ (k : List ℕ). k ++ more) a.said ∙ append_assoc before a.more more;
  takes = takes_then old mid new bytes a.pieces (t.1 ∷ []) used n a.more more a.within a.takes t.2;
  count_is = counted ∙ ap (λ (k : ℕ). min (passed + k) (2 ^ 64 - 1)) t.3 ∙ counts_more passed_before (count_passed a.pieces) (count_passed (t.1 ∷ [])) (count_passed (a.pieces ++ t.1 ∷ [])) passed fits a.count_is
      (passed_append a.pieces (t.1 ∷ []));
  within = let left = t.2.within in let before = a.within in omega (arith, length-drop used bytes);
}

pub so_far_part : (old mid new : ServerValue) (bytes before after later more : List ℕ) (used passed_before passed : ℕ) → SoFar old bytes before after used passed_before passed mid
    → later ≡ after ++ more → TakesFront mid (drop used bytes) step.Part more new
    → TakesAll old bytes before passed_before (record { used = used; ends = false }) later passed new
so_far_part old mid new bytes before after later more used passed_before passed a said t = record {
  pieces = a.pieces;
  more = a.more;
  said = said ∙ ap (λ (k : List ℕ). after ++ k) t.1 ∙ append-nil after ∙ a.said;
  takes = subst (λ (v : ServerValue). TakesPieces old bytes a.pieces used a.more v) (sym t.2) a.takes;
  count = a.count_is;
  part = λ e. subst (λ (l : Bounds). IsPart l (drop used bytes)) a.takes.answers.limits t.0;
  no_frame = λ e. absurd cc;
}

pub so_far_no_frame : (old mid new : ServerValue) (bytes before after later more : List ℕ) (used passed_before passed : ℕ) → SoFar old bytes before after used passed_before passed mid
    → later ≡ after ++ more → TakesFront mid (drop used bytes) step.NoFrame more new
    → TakesAll old bytes before passed_before (record { used = used; ends = true }) later passed new
so_far_no_frame old mid new bytes before after later more used passed_before passed a said t = record {
  pieces = a.pieces;
  more = a.more;
  said = said ∙ ap (λ (k : List ℕ). after ++ k) t.1 ∙ append-nil after ∙ a.said;
  takes = subst (λ (v : ServerValue). TakesPieces old bytes a.pieces used a.more v) (sym t.2) a.takes;
  count = a.count_is;
  part = λ e. absurd cc;
  no_frame = λ e. subst (λ (l : Bounds). IsNoFrame l (drop used bytes)) a.takes.answers.limits t.0;
}

pub so_far_stops : (old mid : ServerValue) (bytes before after : List ℕ) (used passed_before passed : ℕ) (f : RoundFault) → SoFar old bytes before after used passed_before passed mid
    → RefusesFront mid (drop used bytes) f → StopsTaking old bytes passed_before passed f
so_far_stops old mid bytes before after used passed_before passed f a refuses =
    record { pieces = a.pieces; used = used; said = a.more; mid = mid; takes = a.takes; count = a.count_is; refuses = refuses }
