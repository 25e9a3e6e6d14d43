-- Documents that set one member.
use Rattle.std.proofs.Common.{◌≡◌, ◌∙◌, ◌++◌, ◌∷◌, [], ℕ, List, refl, ap, sym, subst, inl, inr, arith, append_assoc, append-nil, IsUtf8, not, true, false, true≢false}
use Rattle.std.specs.declared.alloc.Global.{Global}
use Rattle.std.specs.Prelude.{Bool, IfErr, IfOk, MatchBool, Some, OnErr, OnOk, Result, Ok, Err, String, string_bytes, codes}
use Rattle.std.specs.Str.{chars, encode_utf8_all}
use Rattle.std.specs.Str.Iter.{HasSubslice}
use Rattle.std.proofs.lemmas.List.{map-append}
use Rattle.std.proofs.lemmas.Str.{chars-append, encode_ascii, encodes-append, encodes-chars}
use Rattle.json5_grammar.specs.Language.Blanks.{Blanks, LastBlanks, empty, blank, line, open_line}
use Rattle.json5_grammar.specs.Language.Characters.{Each, is_terminator}
use Rattle.json5_grammar.specs.Language.Documents.{Doc, max_depth}
use Rattle.json5_grammar.specs.Language.Trees.{Tree, text, object, member, no_member, depth}
use Rattle.json5_grammar.specs.Language.Values.{Val, is_text, is_object, last_member, no_last_comma, entry, string_key}
use Rattle.json5_grammar.proofs.BlanksSound.{Blanks-append}
use Rattle.json5_grammar.proofs.OneTree.{one_tree}
use Rattle.json5_read.specs.DocumentReads.{IsRefused}
use Rattle.json5_read.specs.TreeMeanings.{datum_of}
use Rattle.json5_styles.specs.JsonTexts.{json_string}
use Rattle.json5_styles.specs.declared.layout.Layout.TheVariants as layout
use Rattle.json5_styles.proofs.Spelled.{json_style}
use Rattle.json5_grammar.specs.declared.error_code.ErrorCode.TheVariants.{OutOfMemory}
use Rattle.json5_tokens.specs.Cursor.{IsOutOfMemory}
use Rattle.json5_types.specs.declared.error.Error.{Error}
use Rattle.json5_types.specs.Errors.{FaultKind, code, custom, failed_write, kind_of, known_code}
use Rattle.json5_types.specs.ValueMeanings.{Datum, no_field}
use Rattle.json5_types.specs.ValueMeanings as datum
use Rattle.json5_settings.specs.Members.{IsGiven, RefusesMember, RefusesVariable, SetsVariable, SetsWords, one_member}
use Rattle.json5_settings.specs.MemberTexts.{ClosesText, IsClosed, IsNested, IsNoDocument, PutsMember, member_spelled}
use Rattle.json5_settings.specs.Keys.{MeansKeys, key_texts}
use Rattle.json5_settings.specs.declared.faults.SettingError.{SettingError}
use Rattle.json5_settings.specs.declared.faults.SettingError.TheVariants as error
use Rattle.json5_settings.specs.Stacks.{IsDocument, Layer, Means}

-- ---- a member around a value

split_member : (k b p a : List ℕ) → member_spelled k (b ++ (p ++ a)) ≡ (123 ∷ ((32 ∷ []) ++ (json_string k ++ ([] ++ 58 ∷ ((32 ∷ b) ++ (p ++ (a ++ 32 ∷ [])))))) ++ []) ++ 125 ∷ []
split_member k b p a = simp (append_assoc, append-nil) refl

around : (key x : List ℕ) (t : Tree) → IsClosed x t → (u : Tree) × IsClosed (member_spelled key x) u × (datum_of u ≡ datum.object (datum.field key (datum_of t) no_field))
around key x t c =
    let (f, str) = (json_style layout.Compact).strings key in
    let space : Blanks (32 ∷ []) = blank refl empty in
    let front : Blanks (32 ∷ c.before) = blank refl c.blank_before in
    let val = is_object (last_member (entry space (string_key str) empty front c.value (Blanks-append c.blank_after space)) no_last_comma) in (
      object (member key f t no_member),
      record {
        before = [];
        phrase = (123 ∷ ((32 ∷ []) ++ (json_string key ++ ([] ++ 58 ∷ ((32 ∷ c.before) ++ (c.phrase ++ (c.after ++ 32 ∷ [])))))) ++ []) ++ 125 ∷ [];
        after = [];
        whole = ap (member_spelled key) c.whole ∙ split_member key c.before c.phrase c.after ∙ sym (append-nil _);
        blank_before = empty;
        value = val;
        blank_after = empty;
      },
      refl,
    )

pub nested : (keys : List (List ℕ)) (key given x : List ℕ) → IsNested keys given x → IsNested (key ∷ keys) given (member_spelled key x)
nested keys key given x (t, y, c, g, e) =
    let (u, d, same) = around key x t c in
    (u, y, d, g, ap (λ z. datum.object (datum.field key z no_field)) e ∙ sym same)

document : (x : List ℕ) (t : Tree) → IsClosed x t → Doc (depth t) x t
document x t c = record { before = c.before; text = c.phrase; after = c.after; whole = c.whole; blank = c.blank_before; value = c.value; last = LastBlanks.blanks c.blank_after; shallow = omega arith }

-- what such a text means as a document
pub meant : (keys : List (List ℕ)) (given x : List ℕ) (u : Tree) → IsNested keys given x → Doc max_depth x u → (y : Datum) × Means x (one_member keys y) × IsGiven given y
meant keys given x u (t, y, c, g, e) d = (y, (u, d, e ∙ ap datum_of (one_tree (depth t) max_depth x t u (document x t c) d)), g)

-- and why it is refused
pub refused : (keys : List (List ℕ)) (value x : List ℕ) (e : Error) → IsNested keys (chars value) x → IsRefused x e → RefusesMember value e
refused keys value x e (t, y, c, g, same) r = inr (x, keys, y, depth t, (t, document x t c, same), g, r)

-- ---- what was given

slashes : (x : List ℕ) → encode_utf8_all (47 ∷ 47 ∷ x) ≡ codes "//" ++ encode_utf8_all x
slashes x = rw (encode_ascii 47 (omega arith)) refl

has_slashes : (v front x : List ℕ) → IsUtf8 v → chars v ≡ front ++ 47 ∷ 47 ∷ x → HasSubslice v (codes "//")
has_slashes v front x utf8 e =
    (encode_utf8_all front, encode_utf8_all x, sym (encodes-chars v utf8) ∙ ap encode_utf8_all e ∙ encodes-append front (47 ∷ 47 ∷ x) ∙ ap (λ z. encode_utf8_all front ++ z) (slashes x))

-- where no `//` comment may be open at the end
unended : (v : List ℕ) (t : Tree) (limit : ℕ) → IsUtf8 v → (HasSubslice v (codes "//") → ⊥) → Doc limit (chars v) t → IsClosed (chars v) t
unended v t limit utf8 none d = all d.before d.text d.after d.whole d.blank d.value d.last
  where
    all : (b s a : List ℕ) → chars v ≡ b ++ (s ++ a) → Blanks b → Val s t → LastBlanks a → IsClosed (chars v) t
    all b s a e front val (LastBlanks.blanks w) = record { before = b; phrase = s; after = a; whole = e; blank_before = front; value = val; blank_after = w }
    all b s a e front val (open_line {w = w} {x = x} f each) = absurd (none (has_slashes v (b ++ (s ++ w)) x utf8 (e ∙ simp append_assoc refl)))

feed : Blanks (10 ∷ [])
feed = blank refl empty

ended_line : (x : List ℕ) → Each (λ d. not (is_terminator d)) x → Blanks (47 ∷ 47 ∷ x ++ 10 ∷ [])
ended_line x each = line 10 each refl empty

-- where a line feed comes after it
ended : (x : List ℕ) (t : Tree) (limit : ℕ) → Doc limit x t → IsClosed (x ++ 10 ∷ []) t
ended x t limit d = all d.before d.text d.after d.whole d.blank d.value d.last
  where
    all : (b s a : List ℕ) → x ≡ b ++ (s ++ a) → Blanks b → Val s t → LastBlanks a → IsClosed (x ++ 10 ∷ []) t
    all b s a e front val (LastBlanks.blanks w) =
        record { before = b; phrase = s; after = a ++ 10 ∷ []; whole = ap (λ z. z ++ 10 ∷ []) e ∙ simp append_assoc refl; blank_before = front; value = val; blank_after = Blanks-append w feed }
    all b s a e front val (open_line {w = w} {x = z} f each) =
        record { before = b; phrase = s; after = w ++ (47 ∷ 47 ∷ z ++ 10 ∷ []); whole = ap (λ z. z ++ 10 ∷ []) e ∙ simp append_assoc refl; blank_before = front; value = val; blank_after = Blanks-append f (ended_line z each) }

line_feed : chars (codes "\n") ≡ 10 ∷ []
unfolding chars
line_feed = refl

pub given_as : (v closed : List ℕ) (t : Tree) → IsUtf8 v → Doc max_depth (chars v) t → ClosesText v closed → IsNested [] (chars v) (chars closed)
given_as v closed t utf8 d (inl (same, none)) = (t, datum_of t, subst (λ z. IsClosed (chars z) t) (sym same) (unended v t max_depth utf8 none d), inl (t, d, refl), refl)
given_as v closed t utf8 d (inr same) =
    (t, datum_of t, subst (λ z. IsClosed z t) (sym (ap chars same ∙ chars-append v (codes "\n") utf8 ∙ ap (λ z. chars v ++ z) line_feed)) (ended (chars v) t max_depth d), inl (t, d, refl), refl)

pub given_text : (v s : List ℕ) → ((t : Tree) → Doc max_depth v t → ⊥) → s ≡ json_string v → IsNested [] v s
given_text v s none same =
    let (f, str) = (json_style layout.Compact).strings v in (
      text v f,
      datum.text v,
      record { before = []; phrase = json_string v; after = []; whole = same ∙ sym (append-nil (json_string v)); blank_before = empty; value = is_text str; blank_after = empty },
      inr (none, refl),
      refl,
    )

-- ---- keys

pub keys_joined : (outer : List (String Global)) (key : String Global) (all : List (String Global)) (ks : List (List ℕ)) (texts : List (List ℕ)) → texts ≡ key_texts all ++ ks → all ≡ outer ++ (key ∷ []) → texts ≡ key_texts outer ++ (chars (string_bytes key) ∷ ks)
keys_joined outer key all ks texts e is = e ∙ ap (λ z. key_texts z ++ ks) is ∙ ap (λ z. z ++ ks) (map-append (λ (k : String Global). chars (string_bytes k)) outer (key ∷ [])) ∙ append_assoc (key_texts outer) (chars (string_bytes key) ∷ []) ks

-- ---- an object's text

open_utf8 : IsUtf8 (codes "{ ")
open_utf8 = (123 ∷ 32 ∷ [], (refl, rw (encode_ascii 123 (omega arith), encode_ascii 32 (omega arith)) refl))

colon_utf8 : IsUtf8 (codes ": ")
colon_utf8 = (58 ∷ 32 ∷ [], (refl, rw (encode_ascii 58 (omega arith), encode_ascii 32 (omega arith)) refl))

open_chars : chars (codes "{ ") ≡ codes "{ "
unfolding chars
open_chars = refl

colon_chars : chars (codes ": ") ≡ codes ": "
unfolding chars
colon_chars = refl

close_chars : chars (codes " }") ≡ codes " }"
unfolding chars
close_chars = refl

pub member_chars : (k key value made : List ℕ) → IsUtf8 key → IsUtf8 value → chars key ≡ json_string k → made ≡ codes "{ " ++ (key ++ (codes ": " ++ (value ++ codes " }"))) → chars made ≡ member_spelled k (chars value)
member_chars k key value made key_utf8 value_utf8 spelled is =
    let end : chars (value ++ codes " }") ≡ chars value ++ codes " }" = chars-append value (codes " }") value_utf8 ∙ ap (λ z. chars value ++ z) close_chars in
    let colon : chars (codes ": " ++ (value ++ codes " }")) ≡ codes ": " ++ (chars value ++ codes " }") =
    chars-append (codes ": ") (value ++ codes " }") colon_utf8 ∙ ap (λ z. z ++ chars (value ++ codes " }")) colon_chars ∙ ap (λ z. codes ": " ++ z) end in
    let named : chars (key ++ (codes ": " ++ (value ++ codes " }"))) ≡ json_string k ++ (codes ": " ++ (chars value ++ codes " }")) =
    chars-append key (codes ": " ++ (value ++ codes " }")) key_utf8 ∙ ap (λ z. z ++ chars (codes ": " ++ (value ++ codes " }"))) spelled ∙ ap (λ z. json_string k ++ z) colon in
    ap chars is ∙ chars-append (codes "{ ") (key ++ (codes ": " ++ (value ++ codes " }"))) open_utf8
    ∙ ap (λ z. z ++ chars (key ++ (codes ": " ++ (value ++ codes " }")))) open_chars ∙ ap (λ z. codes "{ " ++ z) named

-- ---- a refusal

pub memory_said : (e : Error) → known_code (kind_of e) ≡ Some OutOfMemory → IsOutOfMemory e
memory_said e h = go (kind_of e) h
  where
    go : (k : FaultKind) → known_code k ≡ Some OutOfMemory → k ≡ code OutOfMemory
    go (code c) h = cc
    go (custom s) h = absurd (cc)
    go failed_write h = absurd (cc)

-- ---- whether it is a document

pub judged : {F : Type 0} (x : List ℕ) (P : Type 0) (e : Error) (r : Result Bool F) → ((t : Tree) → Doc max_depth x t → IsOutOfMemory e) → IfOk r (λ is. (is ≡ false) × (IsOutOfMemory e → ⊥)) → IfOk r (λ is. MatchBool is P (IsNoDocument x))
judged x P e (Ok is) complete (same, lacks) = subst (λ b. MatchBool b P (IsNoDocument x)) (sym same) (λ t d. lacks (complete t d))
judged x P e (Err f) complete k = tt

pub judged_so : (P Q : Type 0) (b : Bool) → b ≡ true → MatchBool b P Q → P
judged_so P Q true e p = p
judged_so P Q false e p = absurd (true≢false (sym e))

pub judged_not : (P Q : Type 0) (b : Bool) → b ≡ false → MatchBool b P Q → Q
judged_not P Q true e p = absurd (true≢false e)
judged_not P Q false e p = p

pub ok_map : {A E : Type 0} {P Q : A → Type 0} (r : Result A E) → ((a : A) → P a → Q a) → IfOk r P → IfOk r Q
ok_map (Ok a) f p = f a p
ok_map (Err e) f p = tt

-- one more key around it
pub nested_more : (ks : List (List ℕ)) (key inner : String Global) (given made a b : List ℕ) → a ≡ string_bytes key → b ≡ string_bytes inner → made ≡ member_spelled (chars a) (chars b) → IsNested ks given (chars (string_bytes inner))
    → IsNested (chars (string_bytes key) ∷ ks) given made
nested_more ks key inner given made a b named spelled is n =
    let same : made ≡ member_spelled (chars (string_bytes key)) (chars (string_bytes inner)) = is ∙ ap (λ z. member_spelled (chars z) (chars b)) named ∙ ap (λ z. member_spelled (chars (string_bytes key)) (chars z)) spelled in
    subst (IsNested (chars (string_bytes key) ∷ ks) given) (sym same) (nested ks (chars (string_bytes key)) given (chars (string_bytes inner)) n)

-- ---- layers

pub put : (name : List ℕ) (keys : List (List ℕ)) (value made : List ℕ) (old new : List Layer) (r : Result (Unit {0}) Error) → IsNested keys (chars value) (chars made) → OnOk r (IsDocument made) → OnOk r (new ≡ old ++ ((name, made) ∷ [])) → OnErr r (new ≡ old) → IfErr r (IsRefused (chars made))
    → PutsMember name keys value old new r
put name keys value made old new (Ok u) n (t, d) added same fault =
    let (y, means, given) = meant keys (chars value) (chars made) t n d in
    (made, y, added, means, given)
put name keys value made old new (Err e) n document added same fault = (same, refused keys value (chars made) e n fault)

-- ---- words

pub keys_refused : (x : Datum) (words value : List ℕ) (e : SettingError) → MeansKeys x words (Err e) → RefusesVariable words value e
keys_refused x words value (error.Path e) k = absurd k
keys_refused x words value error.NoMember k = k
keys_refused x words value (error.Text e) k = inl k.kind

pub words_set : (prefix name words value : List ℕ) (old new : List Layer) (r : Result Bool SettingError) → name ≡ prefix ++ words → SetsWords name words value old new r → SetsVariable prefix name value old new r
words_set prefix name words value old new (Ok true) e k = (words, e, k)
words_set prefix name words value old new (Ok false) e k = absurd k
words_set prefix name words value old new (Err f) e k = (words, e, k)
