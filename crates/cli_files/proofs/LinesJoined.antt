-- Lines on standard error, from their pieces.
use Rattle.std.proofs.Common.{◌≡◌, ℕ, List, ◌++◌, ◌+◌, Option, Some, decimal, sym, ap, ◌∙◌, append_assoc, append-nil, []}
use lib.Chars.{codes}
use Rattle.json5_grammar.specs.declared.position.Position.{Position}
use Rattle.json5_types.specs.declared.error.Error.{Error}
use Rattle.json5_types.specs.Errors.{kind_of, kind_text, error_position, error_text, positioned_text}
use Rattle.cli_files.specs.Reports.{named_report, fault_line}
use Rattle.cli_files.specs.ShownNames.{shown_name}

pub line_joined : (name m l k : List ℕ) → shown_name name ++ (codes ": " ++ (m ++ (codes " at line " ++ (l ++ (codes " column " ++ (k ++ codes "\n")))))) ≡ named_report name (m ++ (codes " at " ++ (codes "line " ++ l ++ codes " column " ++ k)))
line_joined name m l k = simp append_assoc

pub fault_joined : (name m l k : List ℕ) (e : Error) (p : Position) → m ≡ kind_text (kind_of e) → Some p ≡ error_position e → l ≡ decimal (p.line + 1) → k ≡ decimal (p.column + 1) → shown_name name ++ (codes ": " ++ (m ++ (codes " at line " ++ (l ++ (codes " column " ++ (k ++ codes "\n")))))) ≡ fault_line name e
fault_joined name m l k e p hm hp hl hk =
    let said : positioned_text m (Some p) ≡ error_text e = ap (λ (x : List ℕ). positioned_text x (Some p)) hm ∙ ap (λ (q : Option Position). positioned_text (kind_text (kind_of e)) q) hp in
    rw (sym said) (rw (sym hl, sym hk) (line_joined name m l k))

pub words_joined : (name a b c : List ℕ) → (shown_name name ++ (codes ": " ++ (a ++ []))) ++ (shown_name b ++ (c ++ codes "\n")) ≡ named_report name (a ++ (shown_name b ++ c))
words_joined name a b c = simp (append_assoc, append-nil)
