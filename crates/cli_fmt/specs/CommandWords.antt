-- The words after the program's name.
-- A promise rests on this.
use Rattle.std.specs.declared.alloc.Global.{Global}
use Rattle.std.specs.Prelude.{◌≡◌, ℕ, List, [], ◌∷◌, ⊤, String, string_bytes}
use lib.Chars.{codes}
use Rattle.cli_fmt.specs.declared.work.Work.{Work}
use Rattle.cli_fmt.specs.declared.work.Work.TheVariants as work

abbrev pub work_word : Work → List ℕ
work_word work.Check = codes "check"
work_word work.Print = codes "print"

-- there are no words, or a work and at least one file
abbrev pub IsRequest : List (String Global) → Type 0
IsRequest [] = ⊤
IsRequest (word ∷ []) = ⊥
IsRequest (word ∷ name ∷ names) = (w : Work) × (string_bytes word ≡ work_word w)
