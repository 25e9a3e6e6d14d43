-- What the program does for each form of its command line.
use Rattle.std.proofs.Common.{◌≡◌, ◌≢◌, ℕ, suc, ◌∙◌, true, false, List, [], ◌∷◌, length, Option, sym, subst, arith, eqb-true}
use Rattle.std.specs.declared.alloc.Global.{Global}
use Rattle.std.specs.Prelude.{String, string_bytes, ◌==◌}
use Rattle.cli_fmt.specs.declared.work.Work.{Work}
use Rattle.cli_fmt.specs.ProgramRuns.{AnswersStream, Answers, of_stream, of_files}
use Rattle.cli_files.specs.Stores.{Opening}
use Rattle.cli_fmt.specs.Files.{WorksThrough}
use Rattle.cli_fmt.specs.CommandWords.{work_word, IsRequest}

pub without_words : (opens : List ℕ → Opening) (input output errors written said : Option (List ℕ)) (list : List (String Global)) (n : ℕ) → length list ≡ 0
    → AnswersStream input output written errors said n → Answers opens input output errors list written said n
without_words opens input output errors written said [] n h k = of_stream k
without_words opens input output errors written said (x ∷ xs) n h k = absurd (omega (arith, h))

pub with_files : (opens : List ℕ → Opening) (input output errors written said : Option (List ℕ)) (list names : List (String Global)) (word : String Global) (w : Work) (text : List ℕ) (n : ℕ)
    → list ≡ word ∷ names → text ≡ string_bytes word → text ≡ work_word w → false ≡ (length names == 0)
    → WorksThrough opens w output errors names written said n → Answers opens input output errors list written said n
with_files opens input output errors written said list [] word w text n is value work some k = absurd (cc)
with_files opens input output errors written said list (name ∷ names) word w text n is value work some k =
    subst (λ l. Answers opens input output errors l written said n) (sym is) (of_files w word name names (sym value ∙ work) k)

-- ---- words that ask for nothing

no_request : (word : String Global) (names : List (String Global)) (text : List ℕ) → text ≡ string_bytes word → ((w : Work) → text ≢ work_word w) → ¬ (IsRequest (word ∷ names))
no_request word [] text value other r = r
no_request word (name ∷ names) text value other (w, is) = other w (value ∙ is)

pub no_work : (list names : List (String Global)) (word : String Global) (text : List ℕ) → list ≡ word ∷ names → text ≡ string_bytes word
    → ((w : Work) → text ≢ work_word w) → ¬ (IsRequest list)
no_work list names word text is value other = subst (λ l. ¬ (IsRequest l)) (sym is) (no_request word names text value other)

file_missing : (word : String Global) (names : List (String Global)) → true ≡ (length names == 0) → ¬ (IsRequest (word ∷ names))
file_missing word [] h r = r
file_missing word (name ∷ names) h r = let none : suc (length names) ≡ 0 = eqb-true (suc (length names)) 0 (sym h) in absurd (omega (arith, none))

pub no_files : (list names : List (String Global)) (word : String Global) → list ≡ word ∷ names → true ≡ (length names == 0) → ¬ (IsRequest list)
no_files list names word is h = subst (λ l. ¬ (IsRequest l)) (sym is) (file_missing word names h)
