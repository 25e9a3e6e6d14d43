-- Where a path leads to an array.
use Rattle.std.proofs.Common.{◌≡◌, ◌≢◌, ◌∙◌, ◌||◌, ◌<◌, ◌≤◌, ◌+◌, get_or, ℕ, Bool, true, false, List, [], ◌∷◌, ◌++◌, length, take, drop, refl, sym, ap, subst, arith, Some, None, Option, ne_eqb, inl, inr, ◌⊎◌}
use Rattle.std.specs.Prelude.{◌==◌, ◌-◌, MatchOption, is_some}
use Rattle.std.specs.Borrow.{Bor}
use Rattle.std.specs.Char.{encode_utf8}
use Rattle.std.specs.Str.{IsUtf8, IsCharBoundary, all_scalars, chars, encode_utf8_all}
use Rattle.std.proofs.lemmas.Bool.Decides.{nat_tests}
use Rattle.std.proofs.lemmas.List.{take_all, take_more}
use Rattle.std.proofs.Math.Seq.{drop-append_seam}
use Rattle.std.proofs.lemmas.Str.{encodes-append, encodes-chars, scalars-chars}
use Rattle.json5_grammar.specs.Faults.Tokens.{begins_number, is_sign}
use Rattle.json5_grammar.specs.Language.Characters.{left_bracket}
use Rattle.json5_grammar.specs.Language.Documents.{Doc, max_depth}
use Rattle.json5_grammar.specs.Language.Strings.{is_quote, quoted}
use Rattle.json5_grammar.specs.Language.Trees.{Tree, Trees, array}
use Rattle.json5_grammar.specs.Language.Values.{Val, is_null, is_true, is_false, is_number, is_text, is_empty_array, is_array, is_empty_object, is_object}
use Rattle.json5_grammar.proofs.ValueHeads.{number_head}
use Rattle.json5_tokens.specs.Outcome.{bytes_in}
use Rattle.json5_tokens.proofs.TextCuts.{Halves, begins_char, bytes_append, cut_half, drop_half, scalar_halves}
use Rattle.json5_walk.proofs.Calls.{utf8_len}
use Rattle.json5_edit.specs.Parts.{part, positions_of}
use Rattle.json5_edit.specs.Places.{IsPart, IsPlace, Leads, LeadsTo, span_of}
use Rattle.json5_edit.specs.PathTexts.{AreStepsOf, BeginsArrayIf, IsStepOf, LeadsToArrayIf, no_step, one_more, starts_array}
use Rattle.json5_edit.specs.declared.paths.Step.{Step}
use Rattle.json5_edit.specs.declared.places.ValueSpan.{ValueSpan}
use Rattle.json5_edit.specs.declared.path_texts.parsed.Written.{Written}

-- ---- a value that begins with a bracket

abbrev pub IsArrayIf : Bool → Tree → Type 0
IsArrayIf true t = (ts : Trees) × (t ≡ array ts)
IsArrayIf false t = (ts : Trees) → t ≢ array ts

no_bracket : (c : ℕ) → (is_sign c || begins_number c) ≡ true → (c == left_bracket) ≡ false
no_bracket c h = grind (arith, nat_tests)

no_quote : (c : ℕ) → is_quote c ≡ true → (c == left_bracket) ≡ false
no_quote c h = grind (arith, nat_tests)

array_if : {s : List ℕ} {t : Tree} (r : List ℕ) → Val s t → IsArrayIf (starts_array (s ++ r)) t
array_if r is_null = λ ts h. absurd (cc)
array_if r is_true = λ ts h. absurd (cc)
array_if r is_false = λ ts h. absurd (cc)
array_if {t = t} r (is_number a) = let (c, more, is, begins) = number_head a in subst (λ z. IsArrayIf (starts_array (z ++ r)) t) (sym is) (subst (λ b. IsArrayIf b t) (sym (no_bracket c begins)) (λ ts h. absurd (cc)))
array_if {t = t} r (is_text (quoted {q = q} {s = s} h i)) = subst (λ b. IsArrayIf b t) (sym (no_quote q h)) (λ ts e. absurd (cc))
array_if r (is_empty_array b) = (_, refl)
array_if r (is_array ms) = (_, refl)
array_if r (is_empty_object b) = λ ts h. absurd (cc)
array_if r (is_object ps) = λ ts h. absurd (cc)

-- ---- the value that a path leads to

same_positions : (path : List Step) (w : Tree) (ps qs : List ℕ) (t : Tree) (ts : Trees) → positions_of path w ≡ Some ps → part ps w ≡ Some t → positions_of path w ≡ Some qs → part qs w ≡ Some (array ts) → t ≡ array ts
same_positions path w ps qs t ts led there other at =
    let same : ps ≡ qs = cc in
    let both : part ps w ≡ part qs w = ap (λ z. part z w) same in
    cc

led_if : (text : List ℕ) (path : List Step) (w t : Tree) (positions : List ℕ) (is : Bool) → Doc max_depth (chars text) w → positions_of path w ≡ Some positions → part positions w ≡ Some t → IsArrayIf is t → LeadsToArrayIf text path is
led_if text path w t positions true d led there (ts, e) = (w, d, (positions, ts, led, there ∙ ap Some e))
led_if text path w t positions false d led there other = (w, d, λ qs ts l k. other ts (same_positions path w positions qs t ts led there l k))

pub span_led : (text : List ℕ) (path : List Step) (span : ValueSpan) (is : Bool) → LeadsTo text path (Some span) → BeginsArrayIf text span.start is → LeadsToArrayIf text path is
span_led text path span is (None, leads, e) starts = absurd (cc)
span_led text path span is (Some p, leads, e) starts =
    let there = leads.placed in
    let same : span ≡ span_of p = cc in
    let at : span.start ≡ bytes_in there.before = ap (λ (z : ValueSpan). z.start) same ∙ there.cut.starts in
    let begins = starts there.before (there.old ++ there.after) there.cut.whole at in
    led_if text path leads.tree there.tree there.positions is leads.document there.led there.there (subst (λ b. IsArrayIf b there.tree) (sym begins) (array_if there.after there.value))

pub none_led : (text : List ℕ) (path : List Step) → LeadsTo text path None → LeadsToArrayIf text path false
none_led text path (None, leads, e) = (leads.tree, leads.document, λ ps ts l k. let h : None ≡ Some ps = sym leads.placed ∙ l in absurd (cc))
none_led text path (Some p, leads, e) = absurd (cc)

-- ---- the first character there

halves : {text before x : List ℕ} → IsUtf8 text → chars text ≡ before ++ x → Halves text before x
halves utf8 whole = record { is_text = utf8; split = whole }

offset_is : (text before x : List ℕ) → IsUtf8 text → chars text ≡ before ++ x → length text - bytes_in x ≡ bytes_in before
offset_is text before x utf8 whole = let n = utf8_len text utf8 ∙ ap bytes_in whole ∙ bytes_append before x in omega (arith, n)

begins_if : (rest x : List ℕ) (r : Option (Bor (List ℕ))) → IsUtf8 rest → chars rest ≡ x → MatchOption r ((y : List ℕ) → rest ≢ left_bracket ∷ y) (λ y. rest ≡ left_bracket ∷ y.now) → is_some r ≡ starts_array x
unfolding encode_utf8
begins_if rest x (Some y) utf8 is k = let h = (begins_char rest y.now left_bracket utf8 k).chars in subst (λ z. true ≡ starts_array z) (sym h ∙ is) refl
begins_if rest [] None utf8 is k = refl
begins_if rest (c ∷ x) None utf8 is k = sym (ne_eqb c left_bracket (λ e. k (encode_utf8_all x) (sym (encodes-chars rest utf8) ∙ ap encode_utf8_all is ∙ ap (λ z. encode_utf8 z ++ encode_utf8_all x) e)))

-- what follows a boundary is text
rest_text : (text before x : List ℕ) → IsUtf8 text → chars text ≡ before ++ x → IsUtf8 (drop (bytes_in before) text)
rest_text text before x utf8 whole =
    let parts = scalar_halves before x (subst (λ z. all_scalars z ≡ true) whole (scalars-chars text utf8)) in
    let split : text ≡ encode_utf8_all before ++ encode_utf8_all x = sym (encodes-chars text utf8) ∙ ap encode_utf8_all whole ∙ encodes-append before x in
    subst IsUtf8 (sym (ap (drop (bytes_in before)) split ∙ drop-append_seam (encode_utf8_all before) (encode_utf8_all x))) (x, (parts.1, refl))

pub begins_so : (text rest : List ℕ) (start : ℕ) (r : Option (Bor (List ℕ))) → IsUtf8 text → rest ≡ drop start text → MatchOption r ((y : List ℕ) → rest ≢ left_bracket ∷ y) (λ y. rest ≡ left_bracket ∷ y.now) → BeginsArrayIf text start (is_some r)
begins_so text rest start r utf8 is k = λ before x whole at.
    let h = halves utf8 whole in
    begins_if rest x r (subst IsUtf8 (sym (is ∙ ap (λ n. drop n text) at)) (rest_text text before x utf8 whole)) (ap chars (is ∙ ap (λ n. drop n text) (at ∙ sym (offset_is text before x utf8 whole))) ∙ drop_half h) k

pub begins_none : (text : List ℕ) (start : ℕ) → IsUtf8 text → (IsCharBoundary text start → ⊥) → BeginsArrayIf text start false
begins_none text start utf8 none = λ before x whole at. let h = halves utf8 whole in absurd (none (subst (IsCharBoundary text) (offset_is text before x utf8 whole ∙ sym at) (cut_half h)))

-- ---- one step more

pub steps_more : {text : List ℕ} (i : ℕ) (ws : List Written) (w : Written) (ss ns : List Step) (s : Step) → i < length ws → w ≡ get_or ws i w → AreStepsOf text (take i ws) ss → IsStepOf text ss w s → ns ≡ ss ++ s ∷ [] → AreStepsOf text (take (i + 1) ws) ns
steps_more {text = text} i ws w ss ns s inside is so_far step pushed =
    let more = take_more ws i w inside ∙ ap (λ z. take i ws ++ z ∷ []) (sym is) in
    subst (λ z. AreStepsOf text z ns) (sym more) (subst (AreStepsOf text (take i ws ++ w ∷ [])) (sym pushed) (one_more w s so_far step))

pub all_steps : {text : List ℕ} (i : ℕ) (ws : List Written) (ss : List Step) → length ws ≤ i → AreStepsOf text (take i ws) ss → AreStepsOf text ws ss
all_steps {text = text} i ws ss end so_far = subst (λ z. AreStepsOf text z ss) (take_all i ws end) so_far
