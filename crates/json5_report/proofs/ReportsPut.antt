-- Reports of one place, one after another.
use Rattle.std.proofs.Common.{◌≡◌, ◌≢◌, ◌==◌, ℕ, List, [], ◌∷◌, ◌++◌, Some, false, length, take, sym, subst, ◌∙◌, true≢false}
use Rattle.std.specs.Prelude.{All, Result, Ok, Err, MatchResult}
use Rattle.std.specs.Str.{chars}
use Rattle.std.proofs.lemmas.List.Elements.{All-nil, All-cons, All-append}
use Rattle.json5_grammar.specs.declared.position.Position.{Position}
use Rattle.json5_tokens.specs.Places.{AreUnitsOfLine}
use Rattle.json5_types.specs.declared.error.Error.{Error}
use Rattle.json5_types.specs.Errors.{LacksMemory, error_position}
use Rattle.json5_report.specs.declared.report.Report.{Report}
use Rattle.json5_report.specs.Paths.{Crumb, IsOpenAt}
use Rattle.json5_report.specs.Places.{IsOffsetOf, shown_position}
use Rattle.json5_report.specs.Reports.{AreReportsOf, IsReportAt, IsReportOf, IsReportThere}

module _ (P : Report → Type 0) where
  pub none_yet : (reports : List Report) → reports ≡ [] → All P reports
  none_yet reports e = subst (All P) (sym e) (All-nil P)

  pub one_more : (old new : List Report) (report : Report) → new ≡ old ++ report ∷ [] → All P old → P report → All P new
  one_more old new report e all one = subst (All P) (sym e) (All-append P old (report ∷ []) all (All-cons P report [] one (All-nil P)))

-- a fault at the position has its report there
pub placed_there : (name text : List ℕ) (p : Position) (e : Error) (report : Report) → error_position e ≡ Some p → IsReportOf name text e report → IsReportThere name text p report
placed_there name text p e report is k = subst (λ q. IsReportThere name text (shown_position text q) report) is k

filled : (n : ℕ) (reports : List Report) → length reports ≡ n → (n == 0) ≡ false → reports ≢ []
filled n [] len some e = true≢false (subst (λ m. (m == 0) ≡ false) (sym len) some)
filled n (report ∷ reports) len some e = let no : report ∷ reports ≡ [] = e in absurd (cc)

grown : (old new : List Report) (report : Report) → new ≡ old ++ report ∷ [] → new ≢ []
grown [] new report is e = let no : [] ≡ report ∷ [] = sym e ∙ is in absurd (cc)
grown (x ∷ old) new report is e = let no : [] ≡ x ∷ (old ++ report ∷ []) = sym e ∙ is in absurd (cc)

module _ (name text : List ℕ) (error : Error) (p : Position) (at : p ≡ shown_position text (error_position error)) where
  moved : (reports : List Report) → All (IsReportThere name text p) reports → All (IsReportOf name text error) reports
  moved reports all = subst (λ q. All (IsReportThere name text q) reports) at all

  pub are_some : (n : ℕ) (reports : List Report) → length reports ≡ n → (n == 0) ≡ false → All (IsReportThere name text p) reports → AreReportsOf name text error reports
  are_some n reports len some all = record { some = filled n reports len some; each = moved reports all }

  pub are_more : (old new : List Report) (report : Report) → new ≡ old ++ report ∷ [] → All (IsReportThere name text p) old → IsReportOf name text error report → AreReportsOf name text error new
  are_more old new report is all one = record { some = grown old new report is; each = one_more (IsReportOf name text error) old new report is (moved old all) one }

-- the report of a place has the path of what is open there
there : (name text : List ℕ) (p : Position) (offset : ℕ) (o : List Crumb) (report : Report) → IsOffsetOf text p offset → IsOpenAt (chars text) offset o → IsReportAt name text p offset o report → IsReportThere name text p report
there name text p offset o report is shown r = record {
  named = r.named;
  placed = r.placed;
  offset = subst (λ q. IsOffsetOf text q report.offset) (sym r.placed) (subst (IsOffsetOf text p) (sym r.at) is);
  units = subst (λ k. AreUnitsOfLine (chars (take k text)) report.utf16_column) (sym r.at) (r.units is.boundary);
  path = (o, subst (λ k. IsOpenAt (chars text) k o) (sym r.at) shown, r.path);
}

pub made : (name text : List ℕ) (e : Error) (p : Position) (offset : ℕ) (o : List Crumb) (r : Result Report Error) → p ≡ shown_position text (error_position e) → IsOffsetOf text p offset → IsOpenAt (chars text) offset o
    → MatchResult r (IsReportAt name text p offset o) LacksMemory → MatchResult r (IsReportOf name text e) LacksMemory
made name text e p offset o (Ok report) at is shown r = subst (λ q. IsReportThere name text q report) at (there name text p offset o report is shown r)
made name text e p offset o (Err x) at is shown r = r
