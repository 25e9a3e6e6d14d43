-- Documents that have the same tokens, each spelled alike or anew, mean the same and have the same comments.
use Rattle.std.proofs.Common.{◌≡◌, ◌≢◌, ◌==◌, ℕ, Bool, true, false, List, [], ◌∷◌, ◌++◌, refl, sym, ap, ap₂, ◌∙◌, subst, append_assoc}
use Rattle.std.specs.Str.{chars}
use Rattle.std.proofs.lemmas.Bool.{both_ways}
use Rattle.json5_grammar.specs.Language.Characters.{slash_sign, comma_sign, colon_sign, left_bracket, right_bracket, left_brace, right_brace, Each, no_char}
use Rattle.json5_grammar.specs.Language.Documents.{Doc, max_depth}
use Rattle.json5_grammar.specs.Language.Names.{Key}
use Rattle.json5_grammar.specs.Language.Trees.{Tree, Trees, Members, array, object, no_more, no_member}
use Rattle.json5_grammar.specs.Language.Values.{KeyText, Val}
use Rattle.json5_grammar.specs.Language.Values as values
use Rattle.json5_grammar.proofs.CharacterClasses.{colon_no_name}
use Rattle.json5_grammar.proofs.CharacterTests.{each_weaken}
use Rattle.json5_grammar.proofs.CommonLemmas.{neq_from}
use Rattle.json5_grammar.proofs.KeysRead.{one_key}
use Rattle.json5_grammar.proofs.OneTree.{one_front}
use Rattle.json5_types.specs.ValueMeanings.{Datum, Fields, item, field}
use Rattle.json5_types.specs.ValueMeanings as datum
use Rattle.json5_read.specs.TreeMeanings.{datum_of, items_of, fields_of}
use Rattle.json5_lexemes.specs.Lexemes.{Lexemes}
use Rattle.json5_lexemes.specs.Lexemes as lexemes
use Rattle.json5_lexemes.specs.SameLexemes.{is_separator, is_sign, is_word_part}
use Rattle.json5_lexemes.specs.Tokens.{Scalar, is_null, is_true, is_false, is_number, is_text, Tokens, ElementTokens, MemberTokens, scalar, array_begins, object_begins, array_ends, element, object_ends, member_begins, is_comment, without_comments}
use Rattle.json5_lexemes.proofs.DocumentLexemes.{blank_separates, sign_no_comment}
use Rattle.json5_lexemes.proofs.OneList.{part_apart, quote_apart, quote_no_slash, each_head}
use Rattle.json5_lexemes.proofs.SameTrees.{document_spells}
use Rattle.json5_lexemes.proofs.WordParts.{IsToken, a_word, a_string, scalar_token, key_token}
use Rattle.json5_convert.specs.Comments.{Comments, HaveSameComments, begins_neither}
use Rattle.json5_convert.specs.Comments as comments
use Rattle.json5_convert.specs.Respelled.{MeanTheSame}
use Rattle.json5_convert.specs.SpelledAnew.{SpelledAnew, TokenBefore, SameKeys, SameScalars}
use Rattle.json5_convert.specs.SpelledAnew as anew
use Rattle.json5_convert.proofs.CommentsPassed.{neither_run}
use Rattle.json5_convert.proofs.OneComments.{part_neither, sign_neither, separator_neither}

-- ---- a token means one thing

scalar_value : {s : List ℕ} {t : Tree} → Scalar s t → Val s t
scalar_value is_null = values.is_null
scalar_value is_true = values.is_true
scalar_value is_false = values.is_false
scalar_value (is_number a) = values.is_number a
scalar_value (is_text a) = values.is_text a

pub one_scalar : {s : List ℕ} {t u : Tree} → Scalar s t → Scalar s u → t ≡ u
one_scalar {s = s} {t = t} {u = u} a b = (one_front s s [] [] t u (scalar_value a) (scalar_value b) tt tt refl).1

key_before_colon : {k u : List ℕ} {p : Bool} → KeyText k u p → Key k (colon_sign ∷ []) u p
key_before_colon (KeyText.string_key s) = Key.string_key s
key_before_colon (KeyText.name_key i) = Key.name_key i colon_no_name

pub one_key_text : {k u v : List ℕ} {p q : Bool} → KeyText k u p → KeyText k v q → u ≡ v
one_key_text a b = (one_key (key_before_colon a) (key_before_colon b) refl).1

pub itself_scalars : (s : List ℕ) → SameScalars s s
itself_scalars s a b i j = ap datum_of (one_scalar i j)

pub itself_keys : (s : List ℕ) → SameKeys s s
itself_keys s u v e f i j = one_key_text i j

-- a token is no bracket and no colon
no_sign : (c : ℕ) → is_sign c ≡ true → {s : List ℕ} → s ≡ c ∷ [] → IsToken s → ⊥
no_sign c h e (a_word some k) = both_ways (is_sign c) (part_apart c (each_head (subst (λ z. Each is_word_part z) e k))).1 h
no_sign c h e (a_string q t f k i) = let same : q ≡ c = cc in both_ways (is_sign c) (ap is_sign (sym same) ∙ (quote_apart q k).1) h

-- ---- lists of tokens

data SameTokens : (colon_due : Bool) → List (List ℕ) → List (List ℕ) → Type 0 where
  no_tokens : SameTokens false [] []
  a_sign : {c : ℕ} {l m : List (List ℕ)} → is_sign c ≡ true → SameTokens false l m → SameTokens false ((c ∷ []) ∷ l) ((c ∷ []) ∷ m)
  a_value : {s t : List ℕ} {l m : List (List ℕ)} → IsToken s → IsToken t → SameScalars s t → SameKeys s t → SameTokens false l m → SameTokens false (s ∷ l) (t ∷ m)
  a_key : {s t : List ℕ} {l m : List (List ℕ)} → IsToken s → IsToken t → SameKeys s t → SameTokens true l m → SameTokens false (s ∷ l) (t ∷ m)
  a_colon : {l m : List (List ℕ)} → SameTokens false l m → SameTokens true ((colon_sign ∷ []) ∷ l) ((colon_sign ∷ []) ∷ m)

-- a colon isn't next
abbrev NoColon : List (List ℕ) → Type 0
NoColon l = (m : List (List ℕ)) → l ≡ (colon_sign ∷ []) ∷ m → ⊥

colon_next : {l m : List (List ℕ)} → SameTokens true l m → NoColon l → ⊥
colon_next (a_colon {l = l} s) free = free l refl

signs_apart : (c d : ℕ) (l m : List (List ℕ)) → (c == d) ≡ false → (c ∷ []) ∷ l ≡ (d ∷ []) ∷ m → ⊥
signs_apart c d l m h e = let same : c ≡ d = cc in neq_from c d h same

token_is : {s t : List ℕ} {l m : List (List ℕ)} → s ∷ l ≡ t ∷ m → s ≡ t
token_is e = cc

-- a value begins with no other sign than an opening bracket
value_no_sign : (c : ℕ) {l r m : List (List ℕ)} {t : Tree} → is_sign c ≡ true → (left_bracket == c) ≡ false → (left_brace == c) ≡ false → Tokens l t r → l ≡ (c ∷ []) ∷ m → ⊥
value_no_sign c h p q (scalar a) e = no_sign c h (token_is e) (scalar_token a)
value_no_sign c {m = m} h p q (array_begins {l = l} a) e = signs_apart left_bracket c l m p e
value_no_sign c {m = m} h p q (object_begins {l = l} a) e = signs_apart left_brace c l m q e

elements_no_colon : {l r : List (List ℕ)} {ts : Trees} → ElementTokens l ts r → NoColon l
elements_no_colon {l = l} (array_ends {r = r}) m e = signs_apart right_bracket colon_sign r m refl e
elements_no_colon (element a es) m e = value_no_sign colon_sign refl refl refl a e

members_no_colon : {l r : List (List ℕ)} {ps : Members} → MemberTokens l ps r → NoColon l
members_no_colon (object_ends {r = r}) m e = signs_apart right_brace colon_sign r m refl e
members_no_colon (member_begins n a es) m e = no_sign colon_sign refl (token_is e) (key_token n)

-- a sign in front of one list is in front of the other
sign_front : (c : ℕ) {l m : List (List ℕ)} → is_sign c ≡ true → SameTokens false ((c ∷ []) ∷ l) m → (k : List (List ℕ)) × (m ≡ (c ∷ []) ∷ k) × SameTokens false l k
sign_front c h (a_sign {m = m} g s) = (m, refl, s)
sign_front c h (a_value i j k n s) = absurd (no_sign c h refl i)
sign_front c h (a_key i j n s) = absurd (no_sign c h refl i)

sign_back : (c : ℕ) {l m : List (List ℕ)} → is_sign c ≡ true → SameTokens false l ((c ∷ []) ∷ m) → (k : List (List ℕ)) × (l ≡ (c ∷ []) ∷ k)
sign_back c h (a_sign {l = l} g s) = (l, refl)
sign_back c h (a_value i j k n s) = absurd (no_sign c h refl j)
sign_back c h (a_key i j n s) = absurd (no_sign c h refl j)

rest_is : {s t : List ℕ} {l m : List (List ℕ)} → s ∷ l ≡ t ∷ m → l ≡ m
rest_is e = cc

array_of : {m q k : List (List ℕ)} {u : Tree} → Tokens m u q → m ≡ (left_bracket ∷ []) ∷ k → (us : Trees) × (u ≡ array us) × ElementTokens k us q
array_of (scalar a) e = absurd (no_sign left_bracket refl (token_is e) (scalar_token a))
array_of {q = q} (array_begins {ts = us} b) e = (us, refl, subst (λ z. ElementTokens z us q) (rest_is e) b)
array_of {k = k} (object_begins {l = l} b) e = absurd (signs_apart left_brace left_bracket l k refl e)

object_of : {m q k : List (List ℕ)} {u : Tree} → Tokens m u q → m ≡ (left_brace ∷ []) ∷ k → (ps : Members) × (u ≡ object ps) × MemberTokens k ps q
object_of (scalar a) e = absurd (no_sign left_brace refl (token_is e) (scalar_token a))
object_of {k = k} (array_begins {l = l} b) e = absurd (signs_apart left_bracket left_brace l k refl e)
object_of {q = q} (object_begins {ps = ps} b) e = (ps, refl, subst (λ z. MemberTokens z ps q) (rest_is e) b)

scalar_of : {m q k : List (List ℕ)} {s : List ℕ} {u : Tree} → IsToken s → Tokens m u q → m ≡ s ∷ k → Scalar s u × (k ≡ q)
scalar_of {u = u} i (scalar a) e = (subst (λ z. Scalar z u) (token_is e) a, sym (rest_is e))
scalar_of i (array_begins a) e = absurd (no_sign left_bracket refl (sym (token_is e)) i)
scalar_of i (object_begins a) e = absurd (no_sign left_brace refl (sym (token_is e)) i)

same_scalar : {s : List ℕ} {m r q : List (List ℕ)} {t u : Tree} → Scalar s t → SameTokens false (s ∷ r) m → Tokens m u q → NoColon r → (datum_of t ≡ datum_of u) × SameTokens false r q
same_scalar {r = r} {t = t} {u = u} a (a_value i j k n s) b free = let c = scalar_of j b refl in (k t u a c.0, subst (SameTokens false r) c.1 s)
same_scalar a (a_key i j n s) b free = absurd (colon_next s free)
same_scalar a (a_sign {c = c} h s) b free = absurd (no_sign c h refl (scalar_token a))

elements_end : {m q k : List (List ℕ)} {us : Trees} → ElementTokens m us q → m ≡ (right_bracket ∷ []) ∷ k → (us ≡ no_more) × (k ≡ q)
elements_end array_ends e = (refl, sym (rest_is e))
elements_end (element b bs) e = absurd (value_no_sign right_bracket refl refl refl b e)

members_end : {m q k : List (List ℕ)} {ps : Members} → MemberTokens m ps q → m ≡ (right_brace ∷ []) ∷ k → (ps ≡ no_member) × (k ≡ q)
members_end object_ends e = (refl, sym (rest_is e))
members_end (member_begins n b bs) e = absurd (no_sign right_brace refl (token_is e) (key_token n))

-- after a key's token that may be a value too
past_colon : {l m : List (List ℕ)} → SameTokens false ((colon_sign ∷ []) ∷ l) ((colon_sign ∷ []) ∷ m) → SameTokens false l m
past_colon (a_sign h s) = s
past_colon (a_value i j k n s) = absurd (no_sign colon_sign refl refl i)
past_colon (a_key i j k s) = absurd (no_sign colon_sign refl refl i)

same_key : {k j u v : List ℕ} {e f : Bool} {l m : List (List ℕ)} → KeyText k u e → KeyText j v f → SameTokens false (k ∷ (colon_sign ∷ []) ∷ l) (j ∷ (colon_sign ∷ []) ∷ m) → (u ≡ v) × SameTokens false l m
same_key {u = u} {v = v} {e = e} {f = f} a b (a_value i j k n s) = (n u v e f a b, past_colon s)
same_key {u = u} {v = v} {e = e} {f = f} a b (a_key i j n (a_colon s)) = (n u v e f a b, s)
same_key a b (a_sign {c = c} h s) = absurd (no_sign c h refl (key_token a))

member_same : {u v : List ℕ} {t w : Datum} {ps qs : Fields} → u ≡ v → t ≡ w → ps ≡ qs → field u t ps ≡ field v w qs
member_same {v = v} {t = t} {ps = ps} e f g = ap (λ z. field z t ps) e ∙ ap₂ (field v) f g

mutual
  same_values : {l m r q : List (List ℕ)} {t u : Tree} → Tokens l t r → Tokens m u q → SameTokens false l m → NoColon r → (datum_of t ≡ datum_of u) × SameTokens false r q
  same_values (scalar a) b s free = same_scalar a s b free
  same_values (array_begins {ts = ts} a) b s free =
      let (k, e, rest) = sign_front left_bracket refl s in
      let (us, is, bs) = array_of b e in
      let both = same_elements a bs rest in
      (ap datum.array both.0 ∙ ap datum_of (sym is), both.1)
  same_values (object_begins a) b s free =
      let (k, e, rest) = sign_front left_brace refl s in
      let (ps, is, bs) = object_of b e in
      let both = same_members a bs rest in
      (ap datum.object both.0 ∙ ap datum_of (sym is), both.1)

  same_elements : {l m r q : List (List ℕ)} {ts us : Trees} → ElementTokens l ts r → ElementTokens m us q → SameTokens false l m → (items_of ts ≡ items_of us) × SameTokens false r q
  same_elements {r = r} array_ends b s =
      let (k, e, rest) = sign_front right_bracket refl s in
      let (none, left) = elements_end b e in
      (ap items_of (sym none), subst (SameTokens false r) left rest)
  same_elements (element a es) array_ends s = let (k, e) = sign_back right_bracket refl s in absurd (value_no_sign right_bracket refl refl refl a e)
  same_elements (element a es) (element b bs) s =
      let first = same_values a b s (elements_no_colon es) in
      let others = same_elements es bs first.1 in
      (ap₂ item first.0 others.0, others.1)

  same_members : {l m r q : List (List ℕ)} {ps qs : Members} → MemberTokens l ps r → MemberTokens m qs q → SameTokens false l m → (fields_of ps ≡ fields_of qs) × SameTokens false r q
  same_members {r = r} object_ends b s =
      let (k, e, rest) = sign_front right_brace refl s in
      let (none, left) = members_end b e in
      (ap fields_of (sym none), subst (SameTokens false r) left rest)
  same_members (member_begins n a es) object_ends s = let (k, e) = sign_back right_brace refl s in absurd (no_sign right_brace refl (token_is e) (key_token n))
  same_members (member_begins n a es) (member_begins o b bs) s =
      let (same, rest) = same_key n o s in
      let first = same_values a b rest (members_no_colon es) in
      let others = same_members es bs first.1 in
      (member_same same first.0 others.0, others.1)

-- ---- lexemes and comments

-- the comments that stay
abbrev kept : Bool → List (List ℕ) → List (List ℕ)
kept true cs = cs
kept false cs = []

record Listed (stay due : Bool) (x y : List ℕ) : Type 0 where
  left : List (List ℕ)
  right : List (List ℕ)
  left_lexemes : Lexemes x left
  right_lexemes : Lexemes y right
  tokens : SameTokens due (without_comments left) (without_comments right)
  comments : List (List ℕ)
  left_comments : Comments x comments
  right_comments : Comments y (kept stay comments)

-- what one side passes over
left_separator : {stay due : Bool} {x y : List ℕ} (c : ℕ) → is_separator c ≡ true → Listed stay due x y → Listed stay due (c ∷ x) y
left_separator c h k = record { left = k.left; right = k.right; left_lexemes = lexemes.separator h k.left_lexemes; right_lexemes = k.right_lexemes; tokens = k.tokens; comments = k.comments; left_comments = comments.other (separator_neither c h) k.left_comments; right_comments = k.right_comments }

right_separator : {stay due : Bool} {x y : List ℕ} (c : ℕ) → is_separator c ≡ true → Listed stay due x y → Listed stay due x (c ∷ y)
right_separator c h k = record { left = k.left; right = k.right; left_lexemes = k.left_lexemes; right_lexemes = lexemes.separator h k.right_lexemes; tokens = k.tokens; comments = k.comments; left_comments = k.left_comments; right_comments = comments.other (separator_neither c h) k.right_comments }

-- a token in front of a text with these lexemes and comments
record Fronted (s x : List ℕ) (l : List (List ℕ)) : Type 0 where
  lexemes : Lexemes (s ++ x) (s ∷ l)
  comments : (cs : List (List ℕ)) → Comments x cs → Comments (s ++ x) cs
  token : IsToken s
  tokens : without_comments (s ∷ l) ≡ s ∷ without_comments l

fronted : {s x : List ℕ} (l : List (List ℕ)) → TokenBefore x s → Lexemes x l → Fronted s x l
fronted {x = x} l (anew.word {c = c} {s = s} e n) k = record {
  lexemes = lexemes.word e n k;
  comments = λ cs j. neither_run x cs (each_weaken begins_neither part_neither e) j;
  token = a_word (λ z. cc) e;
  tokens = let no = (part_apart c (each_head e)).3 in rw no refl;
}
fronted l (anew.string {q = q} {s = s} h i) k = record {
  lexemes = lexemes.string h i k;
  comments = λ cs j. comments.string h i j;
  token = a_string q s refl h i;
  tokens = let no = quote_no_slash q h in rw no refl;
}

same_so : {due : Bool} {a b l m : List (List ℕ)} → a ≡ l → b ≡ m → SameTokens due l m → SameTokens due a b
same_so {due = due} {b = b} {l = l} e f s = subst (λ z. SameTokens due z b) (sym e) (subst (SameTokens due l) (sym f) s)

sign_tokens : (c : ℕ) (l : List (List ℕ)) → is_sign c ≡ true → without_comments ((c ∷ []) ∷ l) ≡ (c ∷ []) ∷ without_comments l
sign_tokens c l h = let no = sign_no_comment c h in rw no refl

in_both : {stay due before : Bool} {x y : List ℕ} (c : ℕ) → is_sign c ≡ true → (k : Listed stay due x y) → SameTokens before ((c ∷ []) ∷ without_comments k.left) ((c ∷ []) ∷ without_comments k.right) → Listed stay before (c ∷ x) (c ∷ y)
in_both c h k s = record {
  left = (c ∷ []) ∷ k.left;
  right = (c ∷ []) ∷ k.right;
  left_lexemes = lexemes.sign h k.left_lexemes;
  right_lexemes = lexemes.sign h k.right_lexemes;
  tokens = same_so (sign_tokens c k.left h) (sign_tokens c k.right h) s;
  comments = k.comments;
  left_comments = comments.other (sign_neither c h) k.left_comments;
  right_comments = comments.other (sign_neither c h) k.right_comments;
}

with_token : {stay due : Bool} {s t x y : List ℕ} → TokenBefore x s → TokenBefore y t → (k : Listed stay due x y) → (IsToken s → IsToken t → SameTokens false (s ∷ without_comments k.left) (t ∷ without_comments k.right)) → Listed stay false (s ++ x) (t ++ y)
with_token {stay = stay} {s = s} {t = t} i j k same =
    let a = fronted k.left i k.left_lexemes in
    let b = fronted k.right j k.right_lexemes in
    record {
      left = s ∷ k.left;
      right = t ∷ k.right;
      left_lexemes = a.lexemes;
      right_lexemes = b.lexemes;
      tokens = same_so a.tokens b.tokens (same a.token b.token);
      comments = k.comments;
      left_comments = a.comments k.comments k.left_comments;
      right_comments = b.comments (kept stay k.comments) k.right_comments;
    }

stays_kept : (stay : Bool) → stay ≡ true → (c : List ℕ) (cs : List (List ℕ)) → kept stay (c ∷ cs) ≡ c ∷ kept stay cs
stays_kept true e c cs = refl
stays_kept false e c cs = absurd (cc)

goes_kept : (stay : Bool) → stay ≡ false → (cs : List (List ℕ)) → kept stay cs ≡ []
goes_kept true e cs = absurd (cc)
goes_kept false e cs = refl

-- such texts have lists of lexemes whose tokens are the same, and the same comments
listed : {stay due : Bool} {x y : List ℕ} → SpelledAnew stay due x y → Listed stay due x y
listed {stay = true} anew.ends = record { left = []; right = []; left_lexemes = lexemes.no_lexeme; right_lexemes = lexemes.no_lexeme; tokens = no_tokens; comments = []; left_comments = comments.nothing; right_comments = comments.nothing }
listed {stay = false} anew.ends = record { left = []; right = []; left_lexemes = lexemes.no_lexeme; right_lexemes = lexemes.no_lexeme; tokens = no_tokens; comments = []; left_comments = comments.nothing; right_comments = comments.nothing }
listed (anew.left_blank {c = c} h s) = left_separator c (blank_separates c h) (listed s)
listed (anew.right_blank {c = c} h s) = right_separator c (blank_separates c h) (listed s)
listed (anew.left_comma s) = left_separator comma_sign refl (listed s)
listed (anew.right_comma s) = right_separator comma_sign refl (listed s)
listed (anew.sign {c = c} h s) = let k = listed s in in_both c h k (a_sign h k.tokens)
listed (anew.colon s) = let k = listed s in in_both colon_sign refl k (a_colon k.tokens)
listed (anew.value i j m n s) = let k = listed s in with_token i j k (λ a b. a_value a b m n k.tokens)
listed (anew.key i j n s) = let k = listed s in with_token i j k (λ a b. a_key a b n k.tokens)
listed {stay = stay} (anew.line {s = t} {y = y} a e m n s) =
    let k = listed s in
    let c : List ℕ = slash_sign ∷ slash_sign ∷ t in
    record {
      left = c ∷ k.left;
      right = c ∷ k.right;
      left_lexemes = lexemes.line e no_char m k.left_lexemes;
      right_lexemes = lexemes.line e no_char n k.right_lexemes;
      tokens = k.tokens;
      comments = c ∷ k.comments;
      left_comments = comments.line e m k.left_comments;
      right_comments = subst (Comments (c ++ y)) (sym (stays_kept stay a c k.comments)) (comments.line e n k.right_comments);
    }
listed {stay = stay} (anew.block {s = t} {y = y} a i s) =
    let k = listed s in
    let c : List ℕ = slash_sign ∷ 42 ∷ t ++ 42 ∷ slash_sign ∷ [] in
    record {
      left = (slash_sign ∷ 42 ∷ t) ∷ k.left;
      right = (slash_sign ∷ 42 ∷ t) ∷ k.right;
      left_lexemes = lexemes.block i k.left_lexemes;
      right_lexemes = lexemes.block i k.right_lexemes;
      tokens = k.tokens;
      comments = c ∷ k.comments;
      left_comments = comments.block i k.left_comments;
      right_comments = subst (Comments (slash_sign ∷ 42 ∷ t ++ 42 ∷ slash_sign ∷ y)) (sym (stays_kept stay a c k.comments)) (comments.block i k.right_comments);
    }
listed {stay = stay} (anew.line_goes {s = t} {y = y} a e m s) =
    let k = listed s in
    let c : List ℕ = slash_sign ∷ slash_sign ∷ t in
    record {
      left = c ∷ k.left;
      right = k.right;
      left_lexemes = lexemes.line e no_char m k.left_lexemes;
      right_lexemes = k.right_lexemes;
      tokens = k.tokens;
      comments = c ∷ k.comments;
      left_comments = comments.line e m k.left_comments;
      right_comments = subst (Comments y) (goes_kept stay a k.comments ∙ sym (goes_kept stay a (c ∷ k.comments))) k.right_comments;
    }
listed {stay = stay} (anew.block_goes {s = t} {y = y} a i s) =
    let k = listed s in
    let c : List ℕ = slash_sign ∷ 42 ∷ t ++ 42 ∷ slash_sign ∷ [] in
    record {
      left = (slash_sign ∷ 42 ∷ t) ∷ k.left;
      right = k.right;
      left_lexemes = lexemes.block i k.left_lexemes;
      right_lexemes = k.right_lexemes;
      tokens = k.tokens;
      comments = c ∷ k.comments;
      left_comments = comments.block i k.left_comments;
      right_comments = subst (Comments y) (goes_kept stay a k.comments ∙ sym (goes_kept stay a (c ∷ k.comments))) k.right_comments;
    }

-- ---- documents

nothing_follows : NoColon []
nothing_follows m e = cc

module _ (stay : Bool) (x y : List ℕ) (t u : Tree) (d : Doc max_depth x t) (e : Doc max_depth y u) (s : SpelledAnew stay false x y) where
  lists : Listed stay false x y
  lists = listed s

  pub same_meaning : datum_of u ≡ datum_of t
  same_meaning = sym (same_values (document_spells max_depth x t lists.left d lists.left_lexemes) (document_spells max_depth y u lists.right e lists.right_lexemes) lists.tokens nothing_follows).0

  pub means_the_same : MeanTheSame x y
  means_the_same = record {
    tree = t;
    document = d;
    other = u;
    respelled = e;
    same = same_meaning;
  }

  pub same_comments : stay ≡ true → HaveSameComments x y
  same_comments a = record { comments = lists.comments; left = lists.left_comments; right = subst (Comments y) (ap (λ z. kept z lists.comments) a) lists.right_comments }

  pub no_comments : stay ≡ false → Comments y []
  no_comments a = subst (Comments y) (goes_kept stay a lists.comments) lists.right_comments
