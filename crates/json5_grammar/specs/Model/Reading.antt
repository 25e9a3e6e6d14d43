-- Reading as functions on lists, which give what is at the front and what follows it, or the fault. Private clauses and proofs cite them.
-- A promise rests on this.
-- Public clauses cite the fault table instead. The only exception is `document_of` of json5_de, which says what a key converts to; the law
-- `document_keys` says which keys are documents.
use Rattle.std.specs.Prelude.{◌≡◌, ℕ, cond, ◌==◌, List, [], ◌∷◌, ◌++◌, Option, Some, None}
use Rattle.json5_grammar.specs.Faults.Codes.{ErrorCode}

-- where a fault is: where this rest of the input begins, or at the innermost open bracket
pub data Place : Type 0 where
  here : List ℕ → Place
  inner : Place

-- what is at the front and what follows it, or the fault
pub data Read (A : Type 0) : Type 0 where
  got : A → List ℕ → Read A
  bad : Option ErrorCode → Place → Read A

abbrev pub and_then : {A B : Type 0} → Read A → (A → List ℕ → Read B) → Read B
and_then (got a r) f = f a r
and_then (bad e p) f = bad e p

-- what comes before the place in x (None: the place is the innermost bracket)
abbrev pub IsAt : List ℕ → Option (List ℕ) → Place → Type 0
IsAt x (Some p) (here q) = x ≡ p ++ q
IsAt x (Some p) inner = ⊥
IsAt x None (here q) = ⊥
IsAt x None inner = Unit {0}

-- a fault at the innermost bracket, which q begins with, is where q begins
abbrev pub placed : {A : Type 0} → List ℕ → Read A → Read A
placed q (got a r) = got a r
placed q (bad e (here p)) = bad e (here p)
placed q (bad e inner) = bad e (here q)

-- the answer after this word; the codes are those of the input's end and of a character that differs
unfoldable pub word_at : {A : Type 0} → ErrorCode → ErrorCode → A → List ℕ → List ℕ → Read A
word_at eof wrong a [] x = got a x
word_at eof wrong a (k ∷ ks) [] = bad (Some eof) inner
word_at eof wrong a (k ∷ ks) (c ∷ r) = cond (c == k) (word_at eof wrong a ks r) (bad (Some wrong) (here (c ∷ r)))
