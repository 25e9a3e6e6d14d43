-- Documents that have the same lexemes have the same tree.
use Rattle.std.proofs.Common.{◌≡◌, ℕ, Bool, true, false, List, [], ◌∷◌, ◌++◌, refl, sym, ap, ◌∙◌, subst}
use Rattle.std.specs.Prelude.{◌==◌}
use Rattle.std.proofs.lemmas.Bool.{both_ways}
use Rattle.json5_grammar.specs.Language.Characters.{Each, right_bracket, left_bracket, left_brace, right_brace, colon_sign}
use Rattle.json5_grammar.specs.Language.Documents.{Doc}
use Rattle.json5_grammar.specs.Language.Names.{Key}
use Rattle.json5_grammar.specs.Language.Trees.{Tree, Trees, Members, array, object}
use Rattle.json5_grammar.specs.Language.Values.{KeyText, Val}
use Rattle.json5_grammar.specs.Language.Values as values
use Rattle.json5_grammar.proofs.CharacterClasses.{colon_no_name}
use Rattle.json5_grammar.proofs.CommonLemmas.{neq_from}
use Rattle.json5_grammar.proofs.KeysRead.{one_key}
use Rattle.json5_grammar.proofs.OneTree.{one_front}
use Rattle.json5_lexemes.specs.AlikeLexemes.{AreAlike, HaveAlikeLexemes}
use Rattle.json5_lexemes.specs.AlikeLexemes as pairs
use Rattle.json5_lexemes.specs.SameLexemes.{is_sign, is_word_part}
use Rattle.json5_lexemes.specs.Lexemes.{Lexemes, HaveSameLexemes}
use Rattle.json5_lexemes.specs.Tokens.{Scalar, is_null, is_true, is_false, is_number, is_text, Tokens, ElementTokens, MemberTokens, scalar, array_begins, object_begins, array_ends, element, object_ends, member_begins, Spells, without_comments}
use Rattle.json5_lexemes.proofs.DocumentLexemes.{document_spelled}
use Rattle.json5_lexemes.proofs.OneList.{part_apart, quote_apart, each_head}
use Rattle.json5_lexemes.proofs.SettledLists.{one_token_list}
use Rattle.json5_lexemes.proofs.WordParts.{IsToken, a_word, a_string, scalar_token, key_token}

-- ---- a list of tokens spells one tree

-- a token is no bracket and no colon
sign_no_token : (c : ℕ) → is_sign c ≡ true → {s : List ℕ} → s ≡ c ∷ [] → IsToken s → ⊥
sign_no_token c h e (a_word some k) = both_ways (is_sign c) (part_apart c (each_head (subst (λ z. Each is_word_part z) e k))).1 h
sign_no_token c h e (a_string q t f k i) = let same : q ≡ c = cc in both_ways (is_sign c) (ap is_sign (sym same) ∙ (quote_apart q k).1) h

scalar_value : {s : List ℕ} {t : Tree} → Scalar s t → Val s t
scalar_value is_null = values.is_null
scalar_value is_true = values.is_true
scalar_value is_false = values.is_false
scalar_value (is_number a) = values.is_number a
scalar_value (is_text a) = values.is_text a

-- a token means one scalar
one_scalar : {s r : List ℕ} {t u : Tree} → s ≡ r → Scalar s t → Scalar r u → t ≡ u
one_scalar {s = s} {r = r} {t = t} {u = u} e a b = (one_front s r [] [] t u (scalar_value a) (scalar_value b) tt tt (ap (λ z. z ++ []) e)).1

key_before_colon : {k u : List ℕ} {p : Bool} → KeyText k u p → Key k (colon_sign ∷ []) u p
key_before_colon (KeyText.string_key s) = Key.string_key s
key_before_colon (KeyText.name_key i) = Key.name_key i colon_no_name

-- and one key
one_key_text : {k j u v : List ℕ} {p q : Bool} → k ≡ j → KeyText k u p → KeyText j v q → (u ≡ v) × (p ≡ q)
one_key_text e a b = let k = one_key (key_before_colon a) (key_before_colon b) (ap (λ z. z ++ colon_sign ∷ []) e) in (k.1, k.2)

signs_apart : (c d : ℕ) (l m : List (List ℕ)) → (c == d) ≡ false → (c ∷ []) ∷ l ≡ (d ∷ []) ∷ m → ⊥
signs_apart c d l m h e = let same : c ≡ d = cc in neq_from c d h same

-- no value begins with a closing bracket
value_no_close : {l r m : List (List ℕ)} {t : Tree} → Tokens l t r → l ≡ (right_bracket ∷ []) ∷ m → ⊥
value_no_close (scalar {s = s} a) e = let same : s ≡ right_bracket ∷ [] = cc in sign_no_token right_bracket refl same (scalar_token a)
value_no_close {m = m} (array_begins {l = l} a) e = signs_apart left_bracket right_bracket l m refl e
value_no_close {m = m} (object_begins {l = l} a) e = signs_apart left_brace right_bracket l m refl e

-- a list begins with the tokens of one tree, and one rest is left
mutual
  one_value : {l m r q : List (List ℕ)} {t u : Tree} → Tokens l t r → Tokens m u q → l ≡ m → (t ≡ u) × (r ≡ q)
  one_value (scalar {s = s} {r = r} a) (scalar {s = j} {r = q} b) e = let same : s ≡ j = cc in (one_scalar same a b, cc)
  one_value (scalar {s = s} a) (array_begins b) e = let same : s ≡ left_bracket ∷ [] = cc in absurd (sign_no_token left_bracket refl same (scalar_token a))
  one_value (scalar {s = s} a) (object_begins b) e = let same : s ≡ left_brace ∷ [] = cc in absurd (sign_no_token left_brace refl same (scalar_token a))
  one_value (array_begins a) (scalar {s = s} b) e = let same : s ≡ left_bracket ∷ [] = cc in absurd (sign_no_token left_bracket refl same (scalar_token b))
  one_value (array_begins a) (array_begins b) e = let k = one_elements a b (cc) in (ap array k.0, k.1)
  one_value (array_begins {l = l} a) (object_begins {l = m} b) e = absurd (signs_apart left_bracket left_brace l m refl e)
  one_value (object_begins a) (scalar {s = s} b) e = let same : s ≡ left_brace ∷ [] = cc in absurd (sign_no_token left_brace refl same (scalar_token b))
  one_value (object_begins {l = l} a) (array_begins {l = m} b) e = absurd (signs_apart left_brace left_bracket l m refl e)
  one_value (object_begins a) (object_begins b) e = let k = one_members a b (cc) in (ap object k.0, k.1)

  one_elements : {l m r q : List (List ℕ)} {ts us : Trees} → ElementTokens l ts r → ElementTokens m us q → l ≡ m → (ts ≡ us) × (r ≡ q)
  one_elements array_ends array_ends e = (refl, cc)
  one_elements array_ends (element b bs) e = absurd (value_no_close b (sym e))
  one_elements (element a es) array_ends e = absurd (value_no_close a e)
  one_elements (element a es) (element b bs) e =
      let k = one_value a b e in
      let n = one_elements es bs k.1 in
      (cc, n.1)

  one_members : {l m r q : List (List ℕ)} {ps qs : Members} → MemberTokens l ps r → MemberTokens m qs q → l ≡ m → (ps ≡ qs) × (r ≡ q)
  one_members object_ends object_ends e = (refl, cc)
  one_members object_ends (member_begins {k = k} key b bs) e = let same : k ≡ right_brace ∷ [] = cc in absurd (sign_no_token right_brace refl same (key_token key))
  one_members (member_begins {k = k} key a es) object_ends e = let same : k ≡ right_brace ∷ [] = cc in absurd (sign_no_token right_brace refl same (key_token key))
  one_members (member_begins {k = k} {u = u} {l = l} key a es) (member_begins {k = j} {u = v} {l = m} other b bs) e =
      let same : k ≡ j = cc in
      let rest : l ≡ m = cc in
      let names = one_key_text same key other in
      let first = one_value a b rest in
      let others = one_members es bs first.1 in
      (cc, others.1)

-- ---- documents

-- a document has lexemes
pub document_has_lexemes : (limit : ℕ) (x : List ℕ) (t : Tree) → Doc limit x t → (ls : List (List ℕ)) × Lexemes x ls
document_has_lexemes limit x t d = let a = document_spelled limit x t d in (a.0, a.1)

-- it has its own lexemes
pub document_same : (limit : ℕ) (x : List ℕ) (t : Tree) → Doc limit x t → HaveSameLexemes x x
document_same limit x t d = let a = document_spelled limit x t d in record { lexemes = a.0; left = a.1; right = a.1 }

-- each list of its lexemes spells its tree
pub document_spells : (limit : ℕ) (x : List ℕ) (t : Tree) (ls : List (List ℕ)) → Doc limit x t → Lexemes x ls → Spells ls t
document_spells limit x t ls d s = let a = document_spelled limit x t d in subst (λ z. Tokens z t []) (one_token_list x a.0 ls a.1 s) a.2

-- lexemes spell at most one tree
pub one_tree_spelled : (ls : List (List ℕ)) (t u : Tree) → Spells ls t → Spells ls u → t ≡ u
one_tree_spelled ls t u a b = (one_value a b refl).0

-- documents that have the same lexemes have the same tree
pub same_tree : (limit other : ℕ) (x y : List ℕ) (t u : Tree) → Doc limit x t → Doc other y u → HaveSameLexemes x y → t ≡ u
same_tree limit other x y t u d e h = one_tree_spelled h.lexemes t u (document_spells limit x t h.lexemes d h.left) (document_spells other y u h.lexemes e h.right)

-- and are nested within the same limit
pub same_document : (limit other : ℕ) (x y : List ℕ) (t u : Tree) → Doc limit x t → Doc other y u → HaveSameLexemes x y → Doc limit y t
same_document limit other x y t u d e h =
    let same : Doc other y t = subst (Doc other y) (sym (same_tree limit other x y t u d e h)) e in
    record { before = same.before; text = same.text; after = same.after; whole = same.whole; blank = same.blank; value = same.value; last = same.last; shallow = d.shallow }

-- ---- lexemes that are alike

alike_itself : (move : Bool) (ls : List (List ℕ)) → AreAlike move ls ls
alike_itself move [] = pairs.no_lexeme
alike_itself move (l ∷ ls) = pairs.same (alike_itself move ls)

pub same_alike : (move : Bool) (x y : List ℕ) → HaveSameLexemes x y → HaveAlikeLexemes move x y
same_alike move x y h = record { left_lexemes = h.lexemes; right_lexemes = h.lexemes; left = h.left; right = h.right; alike = alike_itself move h.lexemes }

-- a document has lexemes that are alike its own
pub document_alike : (move : Bool) (limit : ℕ) (x : List ℕ) (t : Tree) → Doc limit x t → HaveAlikeLexemes move x x
document_alike move limit x t d = same_alike move x x (document_same limit x t d)

-- only comments differ
alike_tokens : {move : Bool} {ls ms : List (List ℕ)} → AreAlike move ls ms → without_comments ls ≡ without_comments ms
alike_tokens pairs.no_lexeme = refl
alike_tokens (pairs.same a) = rw (alike_tokens a) refl
alike_tokens (pairs.star_comment may lines a) = alike_tokens a

-- documents whose lexemes are alike have the same tree
pub alike_tree : (move : Bool) (limit other : ℕ) (x y : List ℕ) (t u : Tree) → Doc limit x t → Doc other y u → HaveAlikeLexemes move x y → t ≡ u
alike_tree move limit other x y t u d e h =
    one_tree_spelled h.left_lexemes t u (document_spells limit x t h.left_lexemes d h.left)
    (subst (λ z. Tokens z u []) (sym (alike_tokens h.alike)) (document_spells other y u h.right_lexemes e h.right))
