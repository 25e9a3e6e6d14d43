-- What is written of a value converts, once it is read, to its content.
use Rattle.std.proofs.Common.{◌≡◌, ◌≢◌, ◌<◌, ◌^◌, ℕ, Bool, true, false, List, [], ◌∷◌, map, Option, Some, refl, ap, arith, string_bytes}
use Rattle.std.specs.Prelude.{nat_lt, ℤ, pos, negsuc, neg_ℤ, ◌≤ℤ◌, ◌<ℤ◌, String}
use Rattle.std.proofs.lemmas.Int.{ints}
use Rattle.std.proofs.lemmas.Bool.Decides.{nat_tests}
use Rattle.std.proofs.lemmas.List.Elements.{All-head, All-tail}
use Rattle.std.specs.List.{All}
use Rattle.std.specs.declared.alloc.Global.{Global}
use Rattle.std.specs.Str.{chars}
use Rattle.std.proofs.lemmas.Str.{encodes-chars, IsUtf8-string_bytes}
use Rattle.json5_grammar.specs.Language.Trees.{Tree}
use Rattle.json5_grammar.specs.Language.Trees as marked
use Rattle.json5_grammar.specs.Model.Collections.{contents, pair_contents}
use Rattle.json5_de.specs.Convert.{unit_of, bool_of, unsigned_below, signed_below, decimal_of, text_of, every_text, one_character}
use Rattle.json5_de.specs.ConvertLists.{option_of, if_some}
use Rattle.json5_grammar.specs.Language.Documents.{Doc, max_depth}
use Rattle.json5_grammar.specs.Language.Numbers.{Number, Decimal, whole, decimal, InWhole}
use Rattle.json5_grammar.specs.Written.NumberText.{IsNumber, Normal, number_text, decimal_text}
use Rattle.json5_grammar.specs.Language.Values.{null_text, true_text, false_text}
use Rattle.json5_grammar.proofs.ScalarsWritten.{null_document, boolean_document, number_document}
use Rattle.json5_de.specs.Keys.{KeyConversion}
use Rattle.json5_de.specs.KeyKinds.{document_of}
use Rattle.json5_de.proofs.KeyDocuments.{converts_documents}
use Rattle.json5_ser.specs.Out.{bool_text}
use Rattle.json5_ser.specs.ValueTrees.{key_of_string}
use Rattle.json5_write.proofs.WritableNumbers.{unsigned_whole}
use Rattle.json5_ser.specs.WrittenTrees.{WrittenKey, named, natural_key, integer_key, Fields, field, fields_of}
use Rattle.json5_ser.specs.WrittenTrees.{Written, null, boolean, number, text, array, object, natural, integer, elements_of}
use Rattle.json5_ser.specs.EscapeFreeMarks.{marks, field_marks, is_escape_free_key, element_marks}
use Rattle.json5.specs.ReadsBack.{ReadsBack, KeyReadsBack, MemberReadsBack, MembersReadBack, list_tree, list_of}

pub natural_back : (bound n : ℕ) → n < bound → ReadsBack natural (unsigned_below bound) (λ n. n) n
natural_back bound n l = let h : nat_lt n bound ≡ true = grind (arith, nat_tests) in rw h refl

pub integer_back : (bound : ℕ) (z : ℤ) → neg_ℤ (pos bound) ≤ℤ z → z <ℤ pos bound → ReadsBack integer (signed_below bound) (λ z. z) z
integer_back bound (pos n) low high = let l : n < bound = omega (arith, ints, high) in let h : nat_lt n bound ≡ true = grind (arith, nat_tests) in rw h refl
integer_back bound (negsuc n) low high = let l : n < bound = omega (arith, ints, low) in let h : nat_lt n bound ≡ true = grind (arith, nat_tests) in rw h refl

-- a string by its bytes
pub string_back : (s : String Global) → ReadsBack (λ s. text (chars (string_bytes s))) text_of string_bytes s
string_back s = ap Some (encodes-chars (string_bytes s) (IsUtf8-string_bytes s))

-- ---- options

some_of : {C : Type 0} (f : Tree → Option C) (t : Tree) (c : C) → t ≢ marked.null → f t ≡ Some c → option_of f t ≡ Some (Some c)
some_of f marked.null c n e = absurd (n refl)
some_of f (marked.boolean b) c n e = ap (if_some Some) e
some_of f (marked.number k) c n e = ap (if_some Some) e
some_of f (marked.text u p) c n e = ap (if_some Some) e
some_of f (marked.array ts) c n e = ap (if_some Some) e
some_of f (marked.object ps) c n e = ap (if_some Some) e

not_null : (t : Written) → t ≢ null → marks t ≢ marked.null
not_null null n e = n refl
not_null (boolean b) n e = cc
not_null (number k) n e = cc
not_null (text u) n e = cc
not_null (array ts) n e = cc
not_null (object fs) n e = cc

pub some_back : {V C : Type 0} (tree : V → Written) (f : Tree → Option C) (content : V → C) (v : V) → tree v ≢ null → ReadsBack tree f content v → option_of f (marks (tree v)) ≡ Some (Some (content v))
some_back tree f content v n h = some_of f (marks (tree v)) (content v) (not_null (tree v) n) h

-- ---- lists

list_contents : {V C : Type 0} (tree : V → Written) (f : Tree → Option C) (content : V → C) (vs : List V) → All (ReadsBack tree f content) vs → contents f (element_marks (elements_of tree vs)) ≡ Some (map content vs)
list_contents tree f content [] h = refl
list_contents tree f content (v ∷ vs) h = let first = All-head (ReadsBack tree f content) v vs h in let others = list_contents tree f content vs (All-tail (ReadsBack tree f content) v vs h) in rw (first, others) refl

pub list_back : {V C : Type 0} (tree : V → Written) (f : Tree → Option C) (content : V → C) (vs : List V) → All (ReadsBack tree f content) vs → ReadsBack (list_tree tree) (list_of f) (map content) vs
list_back tree f content vs h = list_contents tree f content vs h

-- ---- tuples of two

-- ---- keys

document_back : {C : Type 0} (f : Tree → Option C) (u : List ℕ) (escape_free : Bool) (t : Tree) (c : C) → Doc max_depth u t → f t ≡ Some c → document_of f u escape_free ≡ Some c
document_back f u escape_free t c d e = (converts_documents f u escape_free c).1 (t, d, e)

pub null_key_back : KeyReadsBack (λ (v : Unit {0}). named null_text) (document_of unit_of) (λ v. tt) tt
null_key_back = (null_text, refl, document_back unit_of null_text (is_escape_free_key null_text) marked.null tt (null_document max_depth) refl)

pub boolean_key_back : (b : Bool) → KeyReadsBack (λ b. named (bool_text b)) (document_of bool_of) (λ b. b) b
boolean_key_back true = (true_text, refl, document_back bool_of true_text (is_escape_free_key true_text) (marked.boolean true) true (boolean_document max_depth true) refl)
boolean_key_back false = (false_text, refl, document_back bool_of false_text (is_escape_free_key false_text) (marked.boolean false) false (boolean_document max_depth false) refl)

number_key : {C : Type 0} (f : Tree → Option C) (n : Number) (c : C) → IsNumber n → f (marked.number n) ≡ Some c → (u : List ℕ) × (named (number_text n) ≡ named u) × (document_of f u (is_escape_free_key u) ≡ Some c)
number_key f n c h e = (number_text n, refl, document_back f (number_text n) (is_escape_free_key (number_text n)) (marked.number n) c (number_document max_depth n h) e)

pub natural_key_back : (bound n : ℕ) → n < bound → n < 2 ^ 128 → KeyReadsBack natural_key (document_of (unsigned_below bound)) (λ n. n) n
natural_key_back bound n l h = number_key (unsigned_below bound) (whole (pos n)) n (unsigned_whole n h) (natural_back bound n l)

pub integer_key_back : (bound : ℕ) (z : ℤ) → neg_ℤ (pos bound) ≤ℤ z → z <ℤ pos bound → InWhole z → KeyReadsBack integer_key (document_of (signed_below bound)) (λ z. z) z
integer_key_back bound z low high h = number_key (signed_below bound) (whole z) z h (integer_back bound z low high)

pub decimal_key_back : (d : Decimal) → Normal d → KeyReadsBack (λ d. named (decimal_text d)) (document_of decimal_of) (λ d. d) d
decimal_key_back d h = number_key decimal_of (decimal d) d h refl

pub string_key_back : (s : String Global) → KeyReadsBack key_of_string every_text string_bytes s
string_key_back s = (chars (string_bytes s), refl, string_back s)

pub character_key_back : (c : ℕ) → KeyReadsBack (λ c. named (c ∷ [])) one_character (λ c. c) c
character_key_back c = (c ∷ [], refl, refl)

-- ---- objects

one_pair : {C D : Type 0} (keys : KeyConversion C) (values : Tree → Option D) (key : WrittenKey) (t : Written) (fs : Fields) (c : C) (x : D) (ps : List (C × D)) → ((u : List ℕ) × (key ≡ named u) × (keys u (is_escape_free_key u) ≡ Some c)) → values (marks t) ≡ Some x
    → pair_contents keys values (field_marks fs) ≡ Some ps → pair_contents keys values (field_marks (field key t fs)) ≡ Some ((c, x) ∷ ps)
one_pair keys values key t fs c x ps (u, is, e) f g = rw (is, e, f, g) refl

pub pairs_back : {K V C D : Type 0} (key : K → WrittenKey) (keys : KeyConversion C) (as_key : K → C) (tree : V → Written) (values : Tree → Option D) (as_value : V → D) → MembersReadBack key keys as_key tree values as_value
pairs_back key keys as_key tree values as_value [] h = refl
pairs_back key keys as_key tree values as_value (e ∷ es) h =
    let P = MemberReadsBack key keys as_key tree values as_value in
    let first = All-head P e es h in
    one_pair keys values (key e.0) (tree e.1) (fields_of key tree es) (as_key e.0) (as_value e.1) _ first.key_back first.value_back (pairs_back key keys as_key tree values as_value es (All-tail P e es h))
