-- What is returned of a value reads back, and what is JSON is in its grammar.
use Rattle.std.proofs.Common.{◌≡◌, ◌≤◌, ℕ, nat_le, true, List, Result, Ok, Err, refl, sym, subst, arith}
use Rattle.std.specs.Prelude.{IfOk, IsOk, String, string_bytes}
use Rattle.std.specs.declared.alloc.Global.{Global}
use Rattle.std.specs.Str.{chars}
use Rattle.std.proofs.lemmas.Bool.Decides.{nat_tests}
use Rattle.json5_grammar.specs.Language.Documents.{max_depth}
use Rattle.json5_types.specs.declared.error.Error.{Error}
use Rattle.json5_types.specs.ValueMeanings.{Datum}
use Rattle.json5_styles.specs.declared.layout.Layout.{Layout}
use Rattle.json5_styles.specs.Json.{JsonText}
use Rattle.json5_styles.specs.JsonTexts.{is_json}
use Rattle.json5_styles.specs.LaidBack.{HasNumbers, ReadsAs}
use Rattle.json5_styles.specs.Layouts.{laid_out, json_text}
use Rattle.json5_styles.specs.Styles.{Style, laid}
use Rattle.json5_styles.specs.WholeTexts.{LaysOut, WritesJson}
use Rattle.json5_styles.proofs.Documents.{document}
use Rattle.json5_styles.proofs.JsonWritten.{text_is}
use Rattle.json5_styles.proofs.ReadBack.{IsStyle}
use Rattle.json5_styles.proofs.Spelled.{json5_style, json_style}

pub within : (n limit : ℕ) → nat_le n limit ≡ true → n ≤ limit
within n limit h = grind (arith, nat_tests)

reads : (s : Style) → IsStyle s → (x : Datum) (result : Result (String Global) Error) → LaysOut (laid s 0 x) x result → (IsOk result → HasNumbers x) → IfOk result (λ v. ReadsAs max_depth (chars (string_bytes v)) x)
reads s ok x (Ok v) h n = subst (λ t. ReadsAs max_depth t x) (sym h.1.characters) (document s ok max_depth x (n refl) (within _ _ h.0))
reads s ok x (Err e) h n = tt

pub laid_reads : (l : Layout) (x : Datum) (result : Result (String Global) Error) → LaysOut (laid_out l x) x result → (IsOk result → HasNumbers x) → IfOk result (λ v. ReadsAs max_depth (chars (string_bytes v)) x)
laid_reads l x result h n = reads _ (json5_style l) x result h n

pub json_reads : (l : Layout) (x : Datum) (result : Result (String Global) Error) → LaysOut (json_text l x) x result → (IsOk result → HasNumbers x) → IfOk result (λ v. ReadsAs max_depth (chars (string_bytes v)) x)
json_reads l x result h n = reads _ (json_style l) x result h n

pub json_is : (l : Layout) (x : Datum) (result : Result (String Global) Error) → LaysOut (json_text l x) x result → (IsOk result → HasNumbers x) → is_json x ≡ true → IfOk result (λ v. JsonText (chars (string_bytes v)))
json_is l x (Ok v) h n j = subst JsonText (sym h.1.characters) (text_is l x (n refl) j)
json_is l x (Err e) h n j = tt

-- what a text of JSON is, where there is one
pub json_back : (t : List ℕ) (x : Datum) (result : Result (String Global) Error) → WritesJson t x result → IfOk result (λ s. JsonText (chars (string_bytes s))) × IfOk result (λ s. ReadsAs max_depth (chars (string_bytes s)) x)
json_back t x (Ok s) h = (h.3.is_json, h.3.reads_back)
json_back t x (Err e) h = (tt, tt)
