-- Faults and events, line by line.
use Rattle.std.proofs.Common.{◌≡◌, ℕ, ◌<◌, ◌≤◌, ◌+◌, Bool, true, false, List, [], ◌∷◌, ◌++◌, Option, Some, None, length, take, drop, get_or, refl, sym, ◌∙◌, ap, arith, suc, length-drop, add-one, below_more, IsSome, ◌≢◌}
use Rattle.cb_page.specs.Faults.{first_fault}
use Rattle.std.specs.Option.{option_to_list}
use Rattle.std.proofs.lemmas.List.{take_all}
use Rattle.std.proofs.lemmas.List.Elements.{filter_map-append}
use Rattle.std.proofs.Math.Seq.{take-suc, drop-cons}
use Rattle.cb_transcript.specs.Lines.{Grammar, events_of, fault_at, IsText, HasFault, HasEvent}
use Rattle.cb_transcript.specs.Lines.{RefusesText}
use Rattle.cb_transcript.specs.Pieces.{lines_of}
use Rattle.std.specs.List.{cons_option}
use Rattle.cb_transcript.specs.declared.text.ScheduleFault.TheVariants as fault
use Rattle.cb_transcript.specs.declared.text.ScheduleFault.{ScheduleFault}

-- behind causes that do not stand the next decide
pub clear_append : (xs ys : List (Bool × ScheduleFault)) → first_fault xs ≡ None → first_fault (xs ++ ys) ≡ first_fault ys
clear_append [] ys h = refl
clear_append ((true, fault) ∷ xs) ys h = cc
clear_append ((false, fault) ∷ xs) ys h = clear_append xs ys h

-- a fault stays the first, whatever follows
pub fault_append : (xs ys : List (Bool × ScheduleFault)) (e : ScheduleFault) → first_fault xs ≡ Some e → first_fault (xs ++ ys) ≡ Some e
fault_append [] ys e h = cc
fault_append ((true, fault) ∷ xs) ys e h = h
fault_append ((false, fault) ∷ xs) ys e h = fault_append xs ys e h

-- where what is left begins with a line
pub record IsNext (lines : List (List ℕ)) (i : ℕ) (line : List ℕ) (rest : List (List ℕ)) : Type 0 where
  pub within : i < length lines
  pub here : get_or lines i [] ≡ line
  pub behind : drop (i + 1) lines ≡ rest
  pub before : take (i + 1) lines ≡ take i lines ++ line ∷ []

pub next_line : (lines : List (List ℕ)) (i : ℕ) (line : List ℕ) (rest : List (List ℕ)) → drop i lines ≡ line ∷ rest → IsNext lines i line rest
next_line lines i line rest e =
    let within : i < length lines = omega (arith, ap length e, length-drop i lines) in
    let cut : get_or lines i [] ∷ drop (suc i) lines ≡ line ∷ rest = sym (drop-cons lines i [] within) ∙ e in
    let here : get_or lines i [] ≡ line = cc in
    let behind : drop (suc i) lines ≡ rest = cc in
    record {
      within = within;
      here = here;
      behind = ap (λ (n : ℕ). drop n lines) (add-one i) ∙ behind;
      before = ap (λ (n : ℕ). take n lines) (add-one i) ∙ take-suc lines i [] within ∙ ap (λ (one : List ℕ). take i lines ++ one ∷ []) here;
    }

one_event : {E : Type 0} (event : Option E) → cons_option event [] ≡ option_to_list event
one_event None = refl
one_event (Some event) = refl

-- the events of one line more
pub more_events : {E : Type 0} (grammar : Grammar E) (lines : List (List ℕ)) (i : ℕ) (line : List ℕ) (rest : List (List ℕ)) → IsNext lines i line rest → events_of grammar (take (i + 1) lines) ≡ events_of grammar (take i lines) ++ option_to_list (grammar.event line)
more_events {E = E} grammar lines i line rest next =
    ap (events_of grammar) next.before ∙ filter_map-append grammar.event (take i lines) (line ∷ []) ∙ ap (λ (one : List E). events_of grammar (take i lines) ++ one) (one_event (grammar.event line))

-- the fault of the next line, behind the events so far
pub fault_here : {E : Type 0} (grammar : Grammar E) (lines : List (List ℕ)) (i : ℕ) (earlier : List E) (line : List ℕ) (rest : List (List ℕ)) → IsNext lines i line rest → earlier ≡ events_of grammar (take i lines) → fault_at grammar lines i ≡ first_fault (grammar.causes (i + 1) (length earlier) line)
unfolding fault_at
fault_here grammar lines i earlier line rest next e = rw (next.here, e) refl

-- the reader's state: behind so many lines without a fault, with their events
pub record IsRead {E : Type 0} (grammar : Grammar E) (lines : List (List ℕ)) (n : ℕ) (events : List E) : Type 0 where
  pub faultless : (i : ℕ) → i < n → fault_at grammar lines i ≡ None
  pub meaning : events ≡ events_of grammar (take n lines)

pub one_more : {E : Type 0} (grammar : Grammar E) (lines : List (List ℕ)) (n : ℕ) (events new : List E) (line : List ℕ) (rest : List (List ℕ)) → IsRead grammar lines n events → drop n lines ≡ line ∷ rest → first_fault (grammar.causes (n + 1) (length events) line) ≡ None → new ≡ events ++ option_to_list (grammar.event line) → IsRead grammar lines (n + 1) new × (drop (n + 1) lines ≡ rest)
one_more {E = E} grammar lines n events new line rest read left clear added =
    let next = next_line lines n line rest left in (
      record {
        faultless = below_more _ _ read.faultless (fault_here grammar lines n events line rest next read.meaning ∙ clear);
        meaning = added ∙ ap (λ (es : List E). es ++ option_to_list (grammar.event line)) read.meaning ∙ sym (more_events grammar lines n line rest next);
      },
      next.behind,
    )

-- at the end of the text
pub all_read : {E : Type 0} (grammar : Grammar E) (text : List ℕ) (n : ℕ) (events : List E) → IsRead grammar (lines_of text) n events → drop n (lines_of text) ≡ [] → IsText grammar text events
all_read grammar text n events read left =
    let all : length (lines_of text) ≤ n = omega (arith, ap length left, length-drop n (lines_of text)) in
    record {
      faultless = λ i h. read.faultless i (omega arith);
      meaning = read.meaning ∙ ap (events_of grammar) (take_all n (lines_of text) all);
    }

has_fault : {E : Type 0} (grammar : Grammar E) (text : List ℕ) (n : ℕ) (events : List E) (line : List ℕ) (rest : List (List ℕ)) (e : ScheduleFault) → IsRead grammar (lines_of text) n events → drop n (lines_of text) ≡ line ∷ rest → first_fault (grammar.causes (n + 1) (length events) line) ≡ Some e → HasFault grammar text e
has_fault grammar text n events line rest e read left first =
    let next = next_line (lines_of text) n line rest left in
    record {
      line = n;
      is_line = next.within;
      faultless = read.faultless;
      lowest = fault_here grammar (lines_of text) n events line rest next read.meaning ∙ first;
    }

has_event : {E : Type 0} (grammar : Grammar E) (text : List ℕ) (n : ℕ) (events : List E) (line : List ℕ) (rest : List (List ℕ)) → IsRead grammar (lines_of text) n events → drop n (lines_of text) ≡ line ∷ rest → first_fault (grammar.causes (n + 1) (length events) line) ≡ None → IsSome (grammar.event line) → HasEvent grammar text
has_event grammar text n events line rest read left clear some =
    let next = next_line (lines_of text) n line rest left in
    let here : fault_at grammar (lines_of text) n ≡ None = fault_here grammar (lines_of text) n events line rest next read.meaning ∙ clear in
    record {
      line = n;
      is_line = next.within;
      faultless = λ i h. below_more _ _ read.faultless here i (omega arith);
      event = rw next.here some;
    }

-- the reader stops at its first fault, or for want of memory
pub refused : {E : Type 0} (grammar : Grammar E) (text : List ℕ) (n : ℕ) (events : List E) (line : List ℕ) (rest : List (List ℕ)) (e : ScheduleFault) → IsRead grammar (lines_of text) n events → drop n (lines_of text) ≡ line ∷ rest → (e ≢ fault.Memory → first_fault (grammar.causes (n + 1) (length events) line) ≡ Some e) → (e ≡ fault.Memory → (first_fault (grammar.causes (n + 1) (length events) line) ≡ None) × IsSome (grammar.event line)) → RefusesText grammar text e
refused grammar text n events line rest fault.Memory read left first memory =
    has_event grammar text n events line rest read left (memory refl).0 (memory refl).1
refused grammar text n events line rest other read left first memory =
    has_fault grammar text n events line rest other read left (first (λ h. cc))

-- two readings of one text agree
pub one_reading : {E : Type 0} (grammar : Grammar E) (text : List ℕ) (events meant : List E) → IsText grammar text events → IsText grammar text meant → events ≡ meant
one_reading grammar text events meant read other = read.meaning ∙ sym other.meaning

-- a text with a fault is no schedule
pub no_reading : {E : Type 0} (grammar : Grammar E) (text : List ℕ) (meant : List E) (e : ScheduleFault) → RefusesText grammar text e → IsText grammar text meant → e ≡ fault.Memory
no_reading grammar text meant fault.Memory refuses read = refl
no_reading grammar text meant other refuses read =
    let clear : fault_at grammar (lines_of text) refuses.line ≡ None = read.faultless refuses.line refuses.is_line in
    cc (refuses.lowest)
