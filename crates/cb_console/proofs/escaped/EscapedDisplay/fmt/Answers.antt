-- Goals of `EscapedDisplay::fmt`.
use Rattle.std.proofs.Common.{rules, ◌≡◌, ℕ, List, [], ◌∷◌, ◌++◌, refl, ap, ◌∙◌, sym, append-nil, map-id}
use Rattle.std.proofs.lemmas.Grind.{flat_map-append, put_two}
use Rattle.std.proofs.lemmas.Iterator.{YieldsList-from_chars}
use Rattle.std.proofs.lemmas.Iterator.Consumers.{YieldsList-end}
use Rattle.std.specs.List.{flat_map}
use Rattle.std.specs.Str.{IsUtf8, chars}
use Rattle.cb_console.specs.Escaped.{escaped, escaped_character}
use Rattle.cb_console.proofs.escaped.EscapedDisplay.fmt.Goals as goal

-- the text up to a character, and that one
escaped_then : (characters : List ℕ) (character : ℕ)
    → flat_map escaped_character characters ++ escaped_character character ≡ flat_map escaped_character (characters ++ character ∷ [])
escaped_then characters character =
    sym (flat_map-append escaped_character characters (character ∷ []) ∙ ap (λ (l : List ℕ). flat_map escaped_character characters ++ l) (append-nil (escaped_character character)))

pub loop-character-preserved : goal.loop-character-preserved
loop-character-preserved g c = λ plain.
    let before = c.loop-character.invariant plain in
    put_two g.W.Write.write_str_gives _ _ _ _ _ _ before (c.in_ok-write.ensures.writes before.plain refl) (escaped_then c.loop-character.yielded c.in-Some.character)

pub returns-clause-writes : goal.returns-clause-writes
unfolding escaped
returns-clause-writes g c =
    let text : IsUtf8 c.args.self.now.0.now = search rules in
    let all = YieldsList-end (YieldsList-from_chars c.args.self.now.0.now text cc) c.loop-character.yielded _ c.loop-character.yielded_by _ _ c.in-None.is c.next.ensures.steps in
    let same : c.loop-character.yielded ≡ chars c.args.self.now.0.now = sym (map-id _) ∙ all.0 in
    rw (← same) (λ plain written. c.loop-character.invariant plain)
