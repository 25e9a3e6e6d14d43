-- What reading gives, a position being the number of bytes that are left there. Private clauses and proofs alone cite it.
-- A promise rests on this.
use Rattle.std.specs.Prelude.{ℕ, List, length, Option, Some, None}
use Rattle.std.specs.Str.{encode_utf8_all}
use Rattle.json5_grammar.specs.declared.error_code.ErrorCode.{ErrorCode}
use Rattle.json5_grammar.specs.Model.Reading.{Read, got, bad, Place, here, inner}

pub data Outcome (A : Type 0) : Type 0 where
  gave : A → List ℕ → Outcome A
  failed : Option ErrorCode → Option ℕ → Outcome A

-- how many bytes the characters have
abbrev pub bytes_in : List ℕ → ℕ
bytes_in q = length (encode_utf8_all q)

abbrev pub left_at : Place → Option ℕ
left_at (here q) = Some (bytes_in q)
left_at inner = None

abbrev pub outcome : {A : Type 0} → Read A → Outcome A
outcome (got a r) = gave a r
outcome (bad e p) = failed e (left_at p)
