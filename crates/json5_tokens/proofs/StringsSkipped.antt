-- A string is passed over: its first run, the escapes with the runs behind them, and the rest.
use Rattle.std.proofs.Common.{◌≡◌, ℕ, Bool, true, List, ◌++◌, ap, ◌∙◌, ◌&&◌}
use denote.Ref.{Bor}
use Rattle.std.specs.Prelude.{Result, Ok, Err}
use Rattle.std.specs.Str.{chars}
use Rattle.json5_grammar.specs.Language.Strings.{is_raw}
use Rattle.json5_grammar.specs.Model.Reading.{Read}
use Rattle.json5_grammar.specs.Model.ReadTexts.{put}
use Rattle.json5_tokens.specs.declared.refusal.Refusal.{Refusal}
use Rattle.json5_tokens.specs.declared.strings_and_names.Kind.TheVariants as kind
use Rattle.json5_tokens.specs.declared.strings_and_names.Quote.{Quote}
use Rattle.json5_tokens.specs.Scan.{SkipsAll}
use Rattle.json5_tokens.specs.ScanTexts.{quote_of, string_at, text_at, IsOpened, IsReadTo}
use Rattle.json5_tokens.specs.TokenResults.{Passes}
use Rattle.json5_tokens.proofs.ScanRuns.{put_put}
use Rattle.json5_tokens.proofs.ScanTexts.{refused_past}
use Rattle.json5_tokens.proofs.ShortEscapes.{run_read_past}

pub passes_past : (whole next : Read (List ℕ × Bool)) (u : List ℕ) (p : Bool) (r : Result (Bor (List ℕ)) Refusal) → whole ≡ put u p next → Passes next r → Passes whole r
passes_past whole next u p (Ok rest) e g = record { value = (u ++ g.value.0, p && g.value.1); read = e ∙ ap (put u p) g.read; text = g.text }
passes_past whole next u p (Err r) e g = record { refused = refused_past r whole next u p e g.refused; known = g.known }

-- the quote opens the string, its run goes up to here, and the escapes up to there
module _ (q : Quote) (text body here there u : List ℕ) (o : IsOpened (chars text) q body) (s : SkipsAll (is_raw (quote_of q)) body here) (k : IsReadTo (kind.String q) here u there) where
  reads_on : string_at (chars text) ≡ put (s.passed ++ u) (true && k.escape_free) (text_at (kind.String q) (chars there))
  reads_on = o.read ∙ run_read_past q body here s ∙ ap (put s.passed true) k.read ∙ put_put s.passed u true k.escape_free (text_at (kind.String q) (chars there))

  pub skips_on : (r : Result (Bor (List ℕ)) Refusal) → Passes (text_at (kind.String q) (chars there)) r → Passes (string_at (chars text)) r
  skips_on r g = passes_past (string_at (chars text)) (text_at (kind.String q) (chars there)) (s.passed ++ u) (true && k.escape_free) r reads_on g
