-- An array of which some elements were read: it goes on in only one way, and what is left of it.
use Rattle.std.proofs.Common.{◌≡◌, ℕ, ◌+◌, ◌≤◌, ◌<◌, max, Bool, true, false, List, [], ◌∷◌, ◌++◌, length, refl, ap, sym, arith, length-append, ◌⊎◌, inl, inr, subst}
use Rattle.std.specs.Prelude.{◌==◌}
use Rattle.json5_grammar.specs.Language.Trees.{Tree, Trees, array, no_more, more, depth, depths}
use Rattle.json5_grammar.specs.Language.Values.{Reads}
use Rattle.json5_grammar.specs.Model.Collections.{IsSign, Opens, IsElement, IsEnd, IsClose, IsAtClose, Tail, Passed, joined_trees, snoc}
use Rattle.json5_grammar.specs.Language.Blanks.{is_solid, Blanks}
use Rattle.json5_grammar.proofs.CommonLemmas.{neq_from}
use Rattle.json5_grammar.proofs.OneTree.{one_phrase}
use Rattle.json5_grammar.proofs.ValueHeads.{val_head}
use Rattle.json5_grammar.proofs.ArraysRead.{comma_solid, bracket_solid, opening_solid, one_sign, sign_no_value, array_reads}

-- ---- one way to go on

-- one rest after a sign
pub same_sign : (c : ℕ) (x r q : List ℕ) → is_solid c ≡ true → IsSign c x r → IsSign c x q → r ≡ q
same_sign c x r q h a b = (one_sign c c x r q h h a b).1

-- what comes after the comma
pub after_same_comma : (P : List ℕ → Type 0) (x y z : List ℕ) → IsSign 44 x y → IsSign 44 x z → P z → P y
after_same_comma P x y z c d p = subst P (same_sign 44 x z y comma_solid d c) p

-- a comma is no closing sign
pub no_comma_end : (sign : ℕ) (x r q : List ℕ) → is_solid sign ≡ true → (44 == sign) ≡ false → IsSign 44 x r → IsSign sign x q → ⊥
no_comma_end sign x r q h n a b = neq_from 44 sign n (one_sign 44 sign x r q comma_solid h a b).0

-- one closing sign
pub one_end : (sign : ℕ) → is_solid sign ≡ true → (44 == sign) ≡ false → (comma_due : Bool) (x r q : List ℕ) → IsEnd sign comma_due x r → IsEnd sign comma_due x q → r ≡ q
one_end sign h n false x r q a b = same_sign sign x r q h a b
one_end sign h n true x r q (inl a) (inl b) = same_sign sign x r q h a b
one_end sign h n true x r q (inl a) (inr (y, c, b)) = absurd (no_comma_end sign x y r h n c a)
one_end sign h n true x r q (inr (y, c, a)) (inl b) = absurd (no_comma_end sign x y q h n c b)
one_end sign h n true x r q (inr (y, c, a)) (inr (z, d, b)) = same_sign sign y r q h a (after_same_comma (λ k. IsSign sign k q) x y z c d b)

-- one opening bracket
pub one_opening : (x r q : List ℕ) → Opens x r → Opens x q → r ≡ q
one_opening x r q a b = same_sign 91 x r q opening_solid a b

-- one element
pub one_element : (comma_due : Bool) (x r q : List ℕ) (t u : Tree) → IsElement comma_due x t r → IsElement comma_due x u q → (t ≡ u) × (r ≡ q)
one_element false x r q t u a b = one_phrase x r q t u a b
one_element true x r q t u (y, c, a) (z, d, b) = one_phrase y r q t u a (after_same_comma (λ k. Reads k u q) x y z c d b)

-- one closing bracket
pub one_close : (comma_due : Bool) (x r q : List ℕ) → IsClose comma_due x r → IsClose comma_due x q → r ≡ q
one_close comma_due x r q a b = one_end 93 bracket_solid refl comma_due x r q a b

-- an element and the closing bracket don't both come next
pub element_or_close : (comma_due : Bool) (x r q : List ℕ) (t : Tree) → IsElement comma_due x t r → IsClose comma_due x q → ⊥
element_or_close false x r q t a b = sign_no_value 93 x r q t bracket_solid refl b a
element_or_close true x r q t (y, c, a) (inl b) = no_comma_end 93 x y q bracket_solid refl c b
element_or_close true x r q t (y, c, a) (inr (z, d, b)) = sign_no_value 93 y r q t bracket_solid refl (after_same_comma (λ k. IsSign 93 k q) x y z c d b) a

more_same : (t u : Tree) (ts us : Trees) → t ≡ u → ts ≡ us → more t ts ≡ more u us
more_same t u ts us e f = cc

-- one list of elements up to one closing bracket
pub one_tail : (ts us : Trees) (comma_due : Bool) (x r q : List ℕ) → Tail ts comma_due x r → Tail us comma_due x q → (ts ≡ us) × (r ≡ q)
one_tail no_more no_more comma_due x r q a b = (refl, one_close comma_due x r q a b)
one_tail no_more (more u us) comma_due x r q a (z, e, b) = absurd (element_or_close comma_due x z r u e a)
one_tail (more t ts) no_more comma_due x r q (y, e, a) b = absurd (element_or_close comma_due x y q t e b)
one_tail (more t ts) (more u us) comma_due x r q (y, e, a) (z, f, b) =
    let one = one_element comma_due x y z t u e f in
    let rest = one_tail ts us true y r q a (subst (λ k. Tail us true k q) (sym one.1) b) in
    (more_same t u ts us one.0 rest.0, rest.1)

-- ---- the bracket that is found, and then taken

-- a text that begins with the closing sign is at its end
pub sign_ends : (sign : ℕ) (comma_due : Bool) (r : List ℕ) → IsEnd sign comma_due (sign ∷ r) r
sign_ends sign false r = record { front = []; split = refl; blank = Blanks.empty }
sign_ends sign true r = inl (record { front = []; split = refl; blank = Blanks.empty })

-- a text that begins with the closing bracket closes
pub bracket_closes : (comma_due : Bool) (r : List ℕ) → IsClose comma_due (93 ∷ r) r
bracket_closes comma_due r = sign_ends 93 comma_due r

-- where the bracket was found it can be taken
pub found_closes : (comma_due now : Bool) (x y : List ℕ) → IsAtClose comma_due x y → (r : List ℕ) × IsClose now y r
found_closes comma_due now x y (r, c, e) = (r, subst (λ z. IsClose now z r) (sym e) (bracket_closes now r))

-- and once it is taken there, the array goes on so from before
pub close_found : (comma_due now : Bool) (x y r : List ℕ) → IsAtClose comma_due x y → IsClose now y r → IsClose comma_due x r
close_found comma_due now x y r (q, c, e) k = subst (λ z. IsClose comma_due x z) (one_close now (93 ∷ q) q r (bracket_closes now q) (subst (λ z. IsClose now z r) e k)) c

-- ---- elements that were passed

-- one more element
pub passed_more : (ts : Trees) (comma_due now : Bool) (x y z : List ℕ) (t : Tree) → Passed ts comma_due x now y → IsElement now y t z → Passed (snoc ts t) comma_due x true z
passed_more no_more comma_due now x y z t (d, s) e = (z, subst (λ k. IsElement comma_due k t z) (sym s) (subst (λ b. IsElement b y t z) (sym d) e), (refl, refl))
passed_more (more u us) comma_due now x y z t (w, f, p) e = (w, f, passed_more us true now w y z t p e)

-- the elements after them up to the closing bracket
pub passed_tail : (ts us : Trees) (comma_due now : Bool) (x y r : List ℕ) → Passed ts comma_due x now y → Tail us now y r → Tail (joined_trees ts us) comma_due x r
passed_tail no_more us comma_due now x y r (d, s) tl = subst (λ k. Tail us comma_due k r) (sym s) (subst (λ b. Tail us b y r) (sym d) tl)
passed_tail (more t ts) us comma_due now x y r (w, f, p) tl = (w, f, passed_tail ts us true now w y r p tl)

joined_none : (ts : Trees) → joined_trees ts no_more ≡ ts
joined_none no_more = refl
joined_none (more t ts) = ap (more t) (joined_none ts)

-- the closing bracket
pub passed_close : (ts : Trees) (comma_due now : Bool) (x y r : List ℕ) → Passed ts comma_due x now y → IsClose now y r → Tail ts comma_due x r
passed_close ts comma_due now x y r p c = subst (λ us. Tail us comma_due x r) (joined_none ts) (passed_tail ts no_more comma_due now x y r p c)

-- ---- an element or the bracket

-- what is left of an array is the closing bracket, or an element and what is left after it
pub tail_goes : (ts : Trees) (comma_due : Bool) (x r : List ℕ) → Tail ts comma_due x r
    → ((ts ≡ no_more) × IsClose comma_due x r) ⊎ ((t : Tree) × (us : Trees) × (y : List ℕ) × (ts ≡ more t us) × IsElement comma_due x t y × Tail us true y r)
tail_goes no_more comma_due x r c = inl (refl, c)
tail_goes (more t ts) comma_due x r (y, e, tl) = inr (t, ts, y, refl, e, tl)

-- after an element that was read comes what is left
pub element_left : (ts : Trees) (comma_due : Bool) (x y r : List ℕ) (t : Tree) → IsElement comma_due x t y → Tail ts comma_due x r → (us : Trees) × (ts ≡ more t us) × Tail us true y r
element_left no_more comma_due x y r t e c = absurd (element_or_close comma_due x y r t e c)
element_left (more u ts) comma_due x y r t e (z, f, tl) =
    let one = one_element comma_due x z y u t f e in
    (ts, more_same u t ts ts one.0 refl, subst (λ k. Tail ts true k r) one.1 tl)

-- ---- arrays of which elements were passed

-- the array that was opened, whose elements were passed, and which was closed
pub array_closed : (x y z r : List ℕ) (ts : Trees) (comma_due : Bool) → Opens x y → Passed ts false y comma_due z → IsClose comma_due z r → Reads x (array ts) r
array_closed x y z r ts comma_due o p c = array_reads x y r ts o (passed_close ts false comma_due y z r p c)

-- ---- lengths

-- a phrase takes something
pub reads_shorter : (x r : List ℕ) (t : Tree) → Reads x t r → length r < length x
reads_shorter x r t p =
    let head = val_head p.value in
    let phrase = ap length head.is in
    let whole = ap length p.split in
    omega (arith, phrase, whole, length-append p.front (p.phrase ++ r), length-append p.phrase r)

-- a sign takes something
pub sign_shorter : (c : ℕ) (x r : List ℕ) → IsSign c x r → length r < length x
sign_shorter c x r a = let whole = ap length a.split in omega (arith, whole, length-append a.front (c ∷ r))

-- an element takes something
pub element_shorter : (comma_due : Bool) (x r : List ℕ) (t : Tree) → IsElement comma_due x t r → length r < length x
element_shorter false x r t p = reads_shorter x r t p
element_shorter true x r t (y, c, p) = let a = sign_shorter 44 x y c in let b = reads_shorter y r t p in omega (arith, a, b)

-- ---- depths

-- the deepest of the elements and one more
pub depths_snoc : (ts : Trees) (t : Tree) → depths (snoc ts t) ≡ max (depths ts) (depth t)
depths_snoc no_more t = omega arith
depths_snoc (more u us) t = let rest = depths_snoc us t in omega (arith, rest)

-- one more element of an allowed depth
pub shallow_snoc : (ts : Trees) (t : Tree) (level limit : ℕ) → level + depths ts ≤ limit → level + depth t ≤ limit → level + depths (snoc ts t) ≤ limit
shallow_snoc ts t level limit a b = let e = depths_snoc ts t in omega (arith, a, b, e)
