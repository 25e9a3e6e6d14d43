-- Documents one after another, read one by one.
use Rattle.std.proofs.Common.{◌≡◌, ◌<◌, ◌+◌, ◌∙◌, ℕ, suc, List, [], ◌∷◌, ◌++◌, ap, append_assoc, arith, length, sym, subst, inl, inr}
use Rattle.std.proofs.lemmas.List.{length-append}
use Rattle.json5_grammar.proofs.ValueHeads.{val_head}
use Rattle.json5_tokens.specs.Cursor.{Cursor}
use Rattle.json5_types.specs.declared.error.Error.{Error}
use Rattle.json5_types.specs.declared.value.Value.{Value}
use Rattle.json5_convert.specs.Lines.{AreDocuments, RefusesDocuments, behind, next}
use Rattle.json5_convert.specs.Streams.{ReadsFront}

-- a document takes at least a character
pub front_shorter : (x y : List ℕ) (v : Value) → ReadsFront x y v → length y < length x
front_shorter x y v f =
    let head = val_head f.value in
    let whole : length x ≡ length f.blanks + (length f.phrase + length y) = ap length f.split ∙ length-append f.blanks (f.phrase ++ y) ∙ ap (λ n. length f.blanks + n) (length-append f.phrase y) in
    let filled : length f.phrase ≡ suc (length head.more) = ap length head.is in
    omega (arith, whole, filled)

-- what may be said of the text's start
abbrev pub LeadsTo : (text : List ℕ) → (done : List Value) → (left : List ℕ) → Type 0
LeadsTo text done left = (vs : List Value) → AreDocuments left vs → AreDocuments text (done ++ vs)

-- one document more
pub one_more : (text left rest : List ℕ) (done : List Value) (v : Value) → ReadsFront left rest v → LeadsTo text done left → LeadsTo text (done ++ v ∷ []) rest
one_more text left rest done v f leads vs are = subst (AreDocuments text) (sym (append_assoc done (v ∷ []) vs)) (leads (v ∷ vs) (next left rest v vs f are))
