-- Lines one after another.
use Rattle.std.proofs.Common.{◌≡◌, ◌<◌, ◌+◌, ◌∙◌, ℕ, zero, suc, true, List, [], ◌∷◌, ◌++◌, ap, append_assoc, arith, drop, get_or, length, subst, sym, take}
use Rattle.std.proofs.lemmas.List.{append-nil}
use Rattle.json5_grammar.specs.Language.Characters.{line_feed}
use Rattle.json5_styles.specs.JsonTexts.{is_json}
use Rattle.json5_styles.specs.WholeTexts.{RefusesText}
use Rattle.json5_types.specs.Errors.{LacksMemory}
use Rattle.json5_types.specs.ValueLookups.{fits}
use Rattle.json5_types.specs.ValueMeanings.{value_of}
use Rattle.json5_types.specs.declared.error.Error.{Error}
use Rattle.json5_convert.specs.Lines.{RefusesLines, here, later, line_of, lines_of}
use Rattle.json5_types.specs.declared.value.Value.{Value}

more : (i : ℕ) (vs : List Value) (v : Value) → i < length vs → v ≡ get_or vs i v → lines_of (take (suc i) vs) ≡ lines_of (take i vs) ++ line_of v
more zero [] v h is = absurd (omega (arith, h))
more zero (x ∷ vs) v h is = append-nil (line_of x) ∙ ap line_of (sym is)
more (suc i) [] v h is = absurd (omega (arith, h))
more (suc i) (x ∷ vs) v h is = ap (λ z. line_of x ++ z) (more i vs v (omega (arith, h)) is) ∙ sym (append_assoc (line_of x) (lines_of (take i vs)) (line_of v))

-- and the next one, behind which its line feed comes
pub lines_more : (i : ℕ) (vs : List Value) (v : Value) (made text joined ended : List ℕ) → i < length vs → v ≡ get_or vs i v → made ≡ lines_of (take i vs) → text ++ line_feed ∷ [] ≡ line_of v
    → joined ≡ made ++ text → ended ≡ joined ++ line_feed ∷ [] → ended ≡ lines_of (take (i + 1) vs)
lines_more i vs v made text joined ended h is so_far line pushed closed =
    let next : i + 1 ≡ suc i = omega arith in
    let all = ap (λ z. z ++ line_feed ∷ []) (pushed ∙ ap (λ z. z ++ text) so_far) ∙ append_assoc (lines_of (take i vs)) text (line_feed ∷ []) ∙ ap (λ z. lines_of (take i vs) ++ z) line in
    rw next (closed ∙ all ∙ sym (more i vs v h is))

front : (i : ℕ) (vs : List Value) (v : Value) → i < length vs → v ≡ get_or vs i v → drop i vs ≡ v ∷ drop (suc i) vs
front zero [] v h is = absurd (omega (arith, h))
front zero (x ∷ vs) v h is = ap (λ z. z ∷ vs) (sym is)
front (suc i) [] v h is = absurd (omega (arith, h))
front (suc i) (x ∷ vs) v h is = front i vs v (omega (arith, h)) is

-- the value at i is refused
pub refuses_here : (i : ℕ) (vs : List Value) (v : Value) (e : Error) → i < length vs → v ≡ get_or vs i v → RefusesText (fits (value_of v)) (is_json (value_of v)) e → RefusesLines (drop i vs) e
refuses_here i vs v e h is r = subst (λ z. RefusesLines z e) (sym (front i vs v h is)) (here v (drop (suc i) vs) e r)

-- memory ran out before it was
pub lacks_here : (i : ℕ) (vs : List Value) (v : Value) (e : Error) → i < length vs → v ≡ get_or vs i v → fits (value_of v) ≡ true → is_json (value_of v) ≡ true → LacksMemory e → RefusesLines (drop i vs) e
lacks_here i vs v e h is deep json lacks = refuses_here i vs v e h is (rw (deep, json) lacks)

-- it isn't, and one behind it is
pub refuses_later : (i : ℕ) (vs : List Value) (v : Value) (e : Error) → i < length vs → v ≡ get_or vs i v → fits (value_of v) ≡ true → is_json (value_of v) ≡ true → RefusesLines (drop (i + 1) vs) e → RefusesLines (drop i vs) e
refuses_later i vs v e h is deep json r =
    let next : i + 1 ≡ suc i = omega arith in
    subst (λ z. RefusesLines z e) (sym (front i vs v h is)) (later v (drop (suc i) vs) e deep json (subst (λ z. RefusesLines (drop z vs) e) next r))
