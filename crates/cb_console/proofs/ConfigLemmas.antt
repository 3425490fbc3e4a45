-- What is wrong with a table, part by part.
use Rattle.std.proofs.Common.{◌≡◌, ℕ, Bool, true, false, not, List, [], ◌∷◌, ◌++◌, map, codes, refl, ap, String, Global, string_bytes, Some, None, option_map, ◌∙◌, ◌≤◌, ◌<◌, nat_lt, arith, rules}
use Rattle.std.proofs.lemmas.Bool.Decides.{nat_tests}
use Rattle.std.specs.Map.{keys_of}
use Rattle.toml.specs.View.{members_view}
use Rattle.toml.specs.declared.value.Value.{Value}
use Rattle.cb_page.specs.FaultTexts.{limit_text}
use Rattle.cb_page.specs.Faults.{first_fault}
use Rattle.cb_page.specs.declared.limits.LimitFault.{LimitFault}
use Rattle.cb_console.specs.Settings.{IsFirst, is_known, limit_cause, unknown_causes}
use Rattle.toml.specs.Data.{Members}
use Rattle.cb_console.specs.declared.config.Key.TheVariants as key
use Rattle.cb_console.specs.declared.config.ConfigFault.{ConfigFault}

-- behind what isn't wrong the next decides
pub clear_append : (xs ys : List (Bool × List ℕ)) → first_fault xs ≡ None → first_fault (xs ++ ys) ≡ first_fault ys
clear_append [] ys h = refl
clear_append ((true, text) ∷ xs) ys h = cc
clear_append ((false, text) ∷ xs) ys h = clear_append xs ys h

-- what is wrong first stays the first, whatever follows
pub fault_append : (xs ys : List (Bool × List ℕ)) (text : List ℕ) → first_fault xs ≡ Some text → first_fault (xs ++ ys) ≡ Some text
fault_append [] ys text h = cc
fault_append ((true, first) ∷ xs) ys text h = h
fault_append ((false, first) ∷ xs) ys text h = fault_append xs ys text h

pub behind : (xs ys : List (Bool × List ℕ)) (e : ConfigFault) → first_fault xs ≡ None → IsFirst (first_fault ys) e → IsFirst (first_fault (xs ++ ys)) e
behind xs ys e clear first = λ other. clear_append xs ys clear ∙ first other

pub ahead : (xs ys : List (Bool × List ℕ)) (e : ConfigFault) → IsFirst (first_fault xs) e → IsFirst (first_fault (xs ++ ys)) e
ahead xs ys e first = λ other. fault_append xs ys _ (first other)

-- the text of a fault of the limits
pub limit_fault : (causes : List (Bool × LimitFault)) (e : LimitFault) → first_fault causes ≡ Some e
    → first_fault (map limit_cause causes) ≡ Some (codes "limit " ++ limit_text e)
limit_fault [] e h = cc
limit_fault ((true, first) ∷ rest) e h = ap (λ o. option_map (λ (l : LimitFault). codes "limit " ++ limit_text l) o) h
limit_fault ((false, first) ∷ rest) e h = limit_fault rest e h

pub limit_none : (causes : List (Bool × LimitFault)) → first_fault causes ≡ None → first_fault (map limit_cause causes) ≡ None
limit_none [] h = refl
limit_none ((true, first) ∷ rest) h = cc
limit_none ((false, first) ∷ rest) h = limit_none rest h

-- what is wrong with names
abbrev pub name_causes : List (List ℕ) → List (Bool × List ℕ)
name_causes names = map (λ name. (not (is_known name), codes "unknown " ++ name)) names

-- the names of a table
pub unknown-names : (es : List (String Global × Value)) → unknown_causes (members_view es) ≡ name_causes (map string_bytes (keys_of es))
unfolding unknown_causes
unknown-names [] = refl
unknown-names (e ∷ es) = ap (λ causes. (not (is_known (string_bytes e.0)), codes "unknown " ++ string_bytes e.0) ∷ causes) (unknown-names es)
