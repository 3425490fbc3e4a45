-- What is said to inputs, one after another.
use Rattle.std.proofs.Common.{◌≡◌, ◌∙◌, ℕ, List, [], ◌∷◌, ◌++◌, refl, sym, ap, subst, append_assoc}
use Rattle.std.proofs.lemmas.Grind.{flat_map-append}
use Rattle.std.proofs.lemmas.List.{append-nil, map-append}
use Rattle.std.specs.List.{AllByRecursion, flat_map}
use Rattle.cb_frame.specs.Grammar.{Fits}
use Rattle.cb_frame.specs.Spelling.{spelling}
use Rattle.cb_frame.specs.declared.frame.Frame.{Frame}
use Rattle.cb_outbox.specs.Messages.{message_of, messages_of}
use Rattle.cb_page.specs.Bounds.{Bounds}
use Rattle.cb_protocol.specs.AnyMessages.{Input, input_steps}
use Rattle.cb_protocol.specs.Messages.{Message}
use Rattle.cb_protocol.specs.Server.{Server, server_after}
use Rattle.cb_protocol.specs.WaitsFor.{on_cycle}
use Rattle.cb_protocol.specs.World.{messages_sent}
use Rattle.cb_server.specs.ServerValue.{ServerValue, server_of}
use Rattle.cb_server.specs.Taking.{Does}
use Rattle.cb_serve.specs.Answering.{Answers, Spells, after_inputs, said_to}

pub after_append : (xs ys : List Input) (s : Server) → after_inputs s (xs ++ ys) ≡ after_inputs (after_inputs s xs) ys
after_append [] ys s = refl
after_append (x ∷ xs) ys s = after_append xs ys (server_after s (input_steps on_cycle s x))

pub said_append : (xs ys : List Input) (s : Server) → said_to s (xs ++ ys) ≡ said_to s xs ++ said_to (after_inputs s xs) ys
said_append [] ys s = refl
said_append (x ∷ xs) ys s =
    ap (λ (m : List Message). messages_sent (input_steps on_cycle s x) ++ m) (said_append xs ys (server_after s (input_steps on_cycle s x)))
    ∙ sym (append_assoc (messages_sent (input_steps on_cycle s x)) _ _)

pub all_append : {X : Type 0} (P : X → Type 0) (xs ys : List X) → AllByRecursion P xs → AllByRecursion P ys → AllByRecursion P (xs ++ ys)
all_append P [] ys all more = more
all_append P (x ∷ xs) ys all more = (all.0, all_append P xs ys all.1 more)

pub spells_nothing : (l : Bounds) → Spells l [] []
spells_nothing l = record { frames = []; fit = tt; carry = refl; spelled = refl }

pub spells_then : (l : Bounds) (m n : List Message) (xs ys : List ℕ) → Spells l m xs → Spells l n ys → Spells l (m ++ n) (xs ++ ys)
spells_then l m n xs ys first more = record {
  frames = first.frames ++ more.frames;
  fit = all_append (Fits l) first.frames more.frames first.fit more.fit;
  carry = map-append message_of first.frames more.frames ∙ ap (λ (k : List Message). k ++ messages_of more.frames) first.carry ∙ ap (λ (k : List Message). m ++ k) more.carry;
  spelled = ap (λ (k : List ℕ). k ++ ys) first.spelled ∙ ap (λ (k : List ℕ). flat_map spelling first.frames ++ k) more.spelled ∙ sym (flat_map-append spelling first.frames more.frames);
}

pub answers_nothing : (old : ServerValue) → Answers old [] [] old
answers_nothing old = record { says = spells_nothing old.limits; becomes = refl; limits = refl; opening = refl }

-- what one call of the server says
pub answers_one : (old : ServerValue) (input : Input) (frames : List Frame) (new : ServerValue) → Does old input (messages_of frames) new → AllByRecursion (Fits old.limits) frames
    → Answers old (input ∷ []) (flat_map spelling frames) new
answers_one old input frames new does fit = record {
  says = record { frames = frames; fit = fit; carry = does.sends ∙ sym (append-nil (messages_sent (input_steps on_cycle (server_of old) input))); spelled = refl };
  becomes = does.becomes;
  limits = does.limits;
  opening = does.opening;
}

pub answers_then : (old mid new : ServerValue) (xs ys : List Input) (first more : List ℕ) → Answers old xs first mid → Answers mid ys more new → Answers old (xs ++ ys) (first ++ more) new
answers_then old mid new xs ys first more a b = record {
  says = subst (λ (m : List Message). Spells old.limits m (first ++ more)) (sym (said_append xs ys (server_of old)))
      (spells_then old.limits _ _ first more a.says
      (subst (λ (l : Bounds). Spells l (said_to (after_inputs (server_of old) xs) ys) more) a.limits
      (subst (λ (s : Server). Spells mid.limits (said_to s ys) more) a.becomes b.says)));
  becomes = b.becomes ∙ ap (λ (s : Server). after_inputs s ys) a.becomes ∙ sym (after_append xs ys (server_of old));
  limits = b.limits ∙ a.limits;
  opening = b.opening ∙ a.opening;
}

-- frames that fit, under other names
pub fits_still : (k l : Bounds) (xs ys : List Frame) → k ≡ l → ys ≡ xs → AllByRecursion (Fits l) xs → AllByRecursion (Fits k) ys
fits_still k l xs ys same frames fit = subst (λ (b : Bounds). AllByRecursion (Fits b) ys) (sym same) (subst (λ (zs : List Frame). AllByRecursion (Fits l) zs) (sym frames) fit)

-- bytes that were appended, under another name
pub appended : (before after : List ℕ) (xs ys : List Frame) → ys ≡ xs → after ≡ before ++ flat_map spelling ys → after ≡ before ++ flat_map spelling xs
appended before after xs ys same e = e ∙ ap (λ (zs : List Frame). before ++ flat_map spelling zs) same
